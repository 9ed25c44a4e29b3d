-- One code run from two worlds: they have the same records of a set of entities, and the same was read and written in both.
use Rattle.std.proofs.Common.{◌≡◌, ◌∙◌, ℕ, true, cond, Some, List, [], refl, sym, ap}
use Rattle.std.specs.Prelude.{unwrap_or}
use Rattle.std.specs.Ordering.{eq_by_cmp}
use Rattle.std.specs.FinMap as map
use Rattle.std.specs.FinSet as set
use Rattle.sf_value.specs.Keys.{Key, key_cmp}
use Rattle.sf_value.specs.declared.Failure.{Failure}
use Rattle.sf_value.specs.declared.value.Value.{Value}
use Rattle.sf_value.proofs.Maps.{key_total}
use Rattle.program_meaning.specs.World.{Keys, World, Gives, Fell, Ends, record_at, reading, writing}
use Rattle.program_meaning.proofs.HereLaws.{world_in, end_world}
use Rattle.program_meaning.proofs.ViewLaws.{viewed, viewed_end}
use Rattle.serial_order.specs.Framed.{AgreesOn}
use Rattle.serial_order.proofs.Later.{Later, later_itself, later_then, later_reading}

pub record Paired (keys : Keys) (v w : World) : Type 0 where
  pub records : AgreesOn keys v.state w.state
  pub reads : v.reads ≡ w.reads
  pub writes : v.writes ≡ w.writes

-- all that was read is of the set
pub record Covers (keys : Keys) (w : World) : Type 0 where
  pub at : (q : Key) → set.contains w.reads q ≡ true → set.contains keys q ≡ true

-- both give the same, or fall in the same way, in worlds that are paired again
pub record SameGiven (keys : Keys) {A : Type 0} (g h : Gives World A) : Type 0 where
  pub other : World
  pub is : h ≡ viewed (λ w. other) g
  pub paired : Paired keys (world_in g) other

pub record SameEnd (keys : Keys) (e f : Ends World) : Type 0 where
  pub other : World
  pub is : f ≡ viewed_end (λ w. other) e
  pub paired : Paired keys (end_world e) other

-- the first goes on from a world, and the second is the same where the set covers what the first has read
pub record Follows (keys : Keys) (v : World) {A : Type 0} (g h : Gives World A) : Type 0 where
  pub later : Later v (world_in g)
  pub same : Covers keys (world_in g) → SameGiven keys g h

pub record FollowsAt (keys : Keys) (v : World) (e f : Ends World) : Type 0 where
  pub later : Later v (end_world e)
  pub same : Covers keys (end_world e) → SameEnd keys e f

module _ (keys : Keys) where
  pub itself : (w : World) → Paired keys w w
  itself w = record { records = record { at = λ q h. refl }; reads = refl; writes = refl }

  pub paired_reading : (v w : World) (at : Key) → Paired keys v w → Paired keys (reading v at) (reading w at)
  paired_reading v w at p = record { records = p.records; reads = ap (λ read. set.insert read at) p.reads; writes = p.writes }

  pub paired_writing : (v w : World) (at : Key) (fields : List Value) → Paired keys v w → Paired keys (writing v at fields) (writing w at fields)
  paired_writing v w at fields p = record {
    records = record {
      at = λ q h.
          map.get-insert key_total v.state at fields q
          ∙ ap (cond (eq_by_cmp key_cmp q at) (Some fields)) (p.records.at q h)
          ∙ sym (map.get-insert key_total w.state at fields q);
    };
    reads = p.reads;
    writes = ap (λ written. set.insert written at) p.writes;
  }

  pub same_record : (v w : World) (me : Key) → Paired keys v w → set.contains keys me ≡ true → record_at v me ≡ record_at w me
  same_record v w me p h = ap (λ o. unwrap_or o []) (p.records.at me h)

  -- what was covered later was covered before
  pub covers_before : {v w : World} → Later v w → Covers keys w → Covers keys v
  covers_before later covers = record { at = λ q h. covers.at q (later.reads q h) }

  -- what leaves its world as it is
  pub rests : {A : Type 0} (g : Gives World A) (w : World) → Paired keys (world_in g) w → Follows keys (world_in g) g (viewed (λ u. w) g)
  rests g w p = record { later = later_itself (world_in g); same = λ covers. record { other = w; is = refl; paired = p } }

  pub rests_at : (e : Ends World) (w : World) → Paired keys (end_world e) w → FollowsAt keys (end_world e) e (viewed_end (λ u. w) e)
  rests_at e w p = record { later = later_itself (end_world e); same = λ covers. record { other = w; is = refl; paired = p } }

  pub falls : {A : Type 0} (f : Failure) (v w : World) (n : ℕ) → Paired keys v w → Follows keys v {A = A} (Fell f v n) (Fell f w n)
  falls {A} f v w n p = rests {A = A} (Fell f v n) w p

  -- where the entity was read first
  pub after_reading : {A : Type 0} (v : World) (at : Key) (g h : Gives World A) → Follows keys (reading v at) g h → Follows keys v g h
  after_reading v at g h f = record { later = later_then (later_reading v at) f.later; same = f.same }
