-- A later world of a run: more was read and written, nothing but what was written has changed, and that is there and was read.
use Rattle.std.proofs.Common.{◌≡◌, ◌∙◌, Bool, true, false, true≢false, ◌||◌, cond, Option, Some, List, refl, sym, ap}
use Rattle.std.specs.Prelude.{is_some}
use Rattle.std.specs.Ordering.{eq_by_cmp}
use Rattle.std.specs.Cmp.{eq_by_cmp_equiv}
use Rattle.std.specs.FinMap as map
use Rattle.std.specs.FinSet as set
use Rattle.std.proofs.lemmas.Bool.{or_left, or_right}
use Rattle.sf_value.specs.Keys.{Key, key_cmp}
use Rattle.sf_value.specs.declared.value.Value.{Value}
use Rattle.sf_value.proofs.Maps.{key_total, tied_key}
use Rattle.program_meaning.specs.World.{Keys, World, reading, writing}

pub record Later (v w : World) : Type 0 where
  pub reads : (q : Key) → set.contains v.reads q ≡ true → set.contains w.reads q ≡ true
  pub writes : (q : Key) → set.contains v.writes q ≡ true → set.contains w.writes q ≡ true
  pub stays : (q : Key) → set.contains w.writes q ≡ false → map.get w.state q ≡ map.get v.state q
  -- where this held before, it holds still
  pub there : (q : Key) → (set.contains v.writes q ≡ true → is_some (map.get v.state q) ≡ true) → set.contains w.writes q ≡ true → is_some (map.get w.state q) ≡ true
  pub inside : (q : Key) → (set.contains v.writes q ≡ true → set.contains v.reads q ≡ true) → set.contains w.writes q ≡ true → set.contains w.reads q ≡ true

pub later_itself : (w : World) → Later w w
later_itself w = record { reads = λ q h. h; writes = λ q h. h; stays = λ q h. refl; there = λ q h. h; inside = λ q h. h }

-- what isn't among more isn't among fewer
among_fewer : (few more : Bool) → (few ≡ true → more ≡ true) → more ≡ false → few ≡ false
among_fewer true more up off = absurd (true≢false (sym (up refl) ∙ off))
among_fewer false more up off = refl

pub later_then : {u v w : World} → Later u v → Later v w → Later u w
later_then {u} {v} {w} first next = record {
  reads = λ q h. next.reads q (first.reads q h);
  writes = λ q h. next.writes q (first.writes q h);
  stays = λ q h. next.stays q h ∙ first.stays q (among_fewer (set.contains v.writes q) (set.contains w.writes q) (next.writes q) h);
  there = λ q h. next.there q (first.there q h);
  inside = λ q h. next.inside q (first.inside q h);
}

added : (keys : Keys) (at q : Key) → set.contains keys q ≡ true → set.contains (set.insert keys at) q ≡ true
added keys at q h = set.contains-insert key_total keys at q ∙ or_right (eq_by_cmp key_cmp q at) (set.contains keys q) h

-- an entity that is read is among those read
pub read_it : (w : World) (at : Key) → set.contains (reading w at).reads at ≡ true
read_it w at = set.contains-insert key_total w.reads at at ∙ or_left (eq_by_cmp key_cmp at at) (set.contains w.reads at) ((eq_by_cmp_equiv key_total).refl at)

pub later_reading : (w : World) (at : Key) → Later w (reading w at)
later_reading w at = record {
  reads = λ q h. added w.reads at q h;
  writes = λ q h. h;
  stays = λ q h. refl;
  there = λ q h. h;
  inside = λ q h on. added w.reads at q (h on);
}

-- Of a write

not_it : {A : Type 0} (this before : Bool) (new old : A) → (this || before) ≡ false → cond this new old ≡ old
not_it true before new old h = absurd (true≢false h)
not_it false before new old h = refl

still_there : (this before : Bool) (new : List Value) (old : Option (List Value)) → (before ≡ true → is_some old ≡ true) → (this || before) ≡ true → is_some (cond this (Some new) old) ≡ true
still_there true before new old h on = refl
still_there false before new old h on = h on

it_or_before : (this before read : Bool) → (this ≡ true → read ≡ true) → (before ≡ true → read ≡ true) → (this || before) ≡ true → read ≡ true
it_or_before true before read it h on = it refl
it_or_before false before read it h on = h on

pub later_writing : (w : World) (at : Key) (fields : List Value) → set.contains w.reads at ≡ true → Later w (writing w at fields)
later_writing w at fields read = record {
  reads = λ q h. h;
  writes = λ q h. added w.writes at q h;
  stays = λ q h. map.get-insert key_total w.state at fields q ∙ not_it (eq_by_cmp key_cmp q at) (set.contains w.writes q) (Some fields) (map.get w.state q) (sym (set.contains-insert key_total w.writes at q) ∙ h);
  there = λ q h on.
      ap is_some (map.get-insert key_total w.state at fields q)
      ∙ still_there (eq_by_cmp key_cmp q at) (set.contains w.writes q) fields (map.get w.state q) h (sym (set.contains-insert key_total w.writes at q) ∙ on);
  inside = λ q h on.
      it_or_before (eq_by_cmp key_cmp q at) (set.contains w.writes q) (set.contains w.reads q) (λ same. ap (set.contains w.reads) (tied_key q at same) ∙ read) h (sym (set.contains-insert key_total w.writes at q) ∙ on);
}
