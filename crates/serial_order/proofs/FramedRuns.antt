-- The run of a request is framed by the entities that it reads and writes.
use Rattle.std.proofs.Common.{◌≡◌, ◌∙◌, Bool, true, false, true≢false, refl, sym, subst, if◌then◌else◌}
use Rattle.std.specs.Prelude.{is_some}
use Rattle.std.specs.FinMap as map
use Rattle.std.specs.FinSet as set
use Rattle.sf_value.specs.Keys.{Key, key_cmp}
use Rattle.sf_value.specs.declared.value.Value.{Value}
use Rattle.sf_value.specs.declared.Act.{Act}
use Rattle.sf_value.specs.declared.Act.TheVariants as act
use Rattle.program_meaning.specs.ClassTables.{Source}
use Rattle.program_meaning.specs.World.{State, Keys, World, Gives, Got, Fell}
use Rattle.program_meaning.specs.RequestRun.{Ran, run, begin, ended, refused, at_first, is_too_heavy, depth_limit, steps_at_first}
use Rattle.program_meaning.proofs.HereLaws.{world_in}
use Rattle.serial_order.specs.Framed.{AgreesOn, IsAlike, RunsAreFramed}
use Rattle.serial_order.proofs.Later.{Later}
use Rattle.serial_order.proofs.Paired.{Covers, SameGiven, Follows}
use Rattle.serial_order.proofs.FramedCalls.{calls_follow}

-- at first nothing is written
none_written : {B : Type 0} (q : Key) → set.contains {R = key_cmp} set.empty q ≡ true → B
none_written q h = absurd (true≢false (sym h ∙ set.contains-empty key_cmp q))

-- What a call or a creation came to, as the end of a run

ended_covers : (s : State) (g : Gives World Value) → Covers (ended s g).reads (world_in g)
ended_covers s (Got x w n) = record { at = λ q h. h }
ended_covers s (Fell f w n) = record { at = λ q h. h }

ended_alike : (s t : State) (g h : Gives World Value) → Later (at_first s) (world_in g) → SameGiven (ended s g).reads g h → IsAlike (ended s g) (ended t h)
ended_alike s t (Got x w n) h later same =
    subst (λ y. IsAlike (ended s (Got x w n)) (ended t y)) (sym same.is) (record {
      outcome = refl;
      reads = same.paired.reads;
      writes = same.paired.writes;
      steps = refl;
      records = record { at = λ q written. same.paired.records.at q (later.inside q (none_written q) written) };
    })
ended_alike s t (Fell f w n) h later same =
    subst (λ y. IsAlike (ended s (Fell f w n)) (ended t y)) (sym same.is)
    (record { outcome = refl; reads = same.paired.reads; writes = refl; steps = refl; records = record { at = λ q written. none_written q written } })

ended_stays : (s : State) (g : Gives World Value) (q : Key) → Later (at_first s) (world_in g) → set.contains (ended s g).writes q ≡ false → map.get (ended s g).state q ≡ map.get s q
ended_stays s (Got x w n) q later h = later.stays q h
ended_stays s (Fell f w n) q later h = refl

ended_there : (s : State) (g : Gives World Value) (q : Key) → Later (at_first s) (world_in g) → set.contains (ended s g).writes q ≡ true → is_some (map.get (ended s g).state q) ≡ true
ended_there s (Got x w n) q later h = later.there q (none_written q) h
ended_there s (Fell f w n) q later h = none_written q h

module _ (src : Source) where
  begin_follows : (keys : Keys) (asked : Act) (s t : State) → AgreesOn keys s t → Follows keys (at_first s) (begin src asked s) (begin src asked t)
  unfolding begin
  begin_follows keys (act.Call class key method args) s t agree =
      (calls_follow keys src depth_limit).call (class, key) method args (at_first s) (at_first t) steps_at_first (record { records = agree; reads = refl; writes = refl })
  begin_follows keys (act.New class args) s t agree = (calls_follow keys src depth_limit).make class args (at_first s) (at_first t) steps_at_first (record { records = agree; reads = refl; writes = refl })

  begin_later : (asked : Act) (s : State) → Later (at_first s) (world_in (begin src asked s))
  begin_later asked s = (begin_follows set.empty asked s s (record { at = λ q h. refl })).later

  -- a run, refused or not
  abbrev tried : Bool → State → Act → Ran
  tried heavy s asked = if heavy then refused s else ended s (begin src asked s)

  tried_alike : (heavy : Bool) (s t : State) (asked : Act) → AgreesOn (tried heavy s asked).reads s t → IsAlike (tried heavy s asked) (tried heavy t asked)
  tried_alike true s t asked agree = record { outcome = refl; reads = refl; writes = refl; steps = refl; records = record { at = λ q written. none_written q written } }
  tried_alike false s t asked agree =
      ended_alike s t (begin src asked s) (begin src asked t) (begin_later asked s)
      ((begin_follows (ended s (begin src asked s)).reads asked s t agree).same (ended_covers s (begin src asked s)))

  tried_stays : (heavy : Bool) (s : State) (asked : Act) (q : Key) → set.contains (tried heavy s asked).writes q ≡ false → map.get (tried heavy s asked).state q ≡ map.get s q
  tried_stays true s asked q h = refl
  tried_stays false s asked q h = ended_stays s (begin src asked s) q (begin_later asked s) h

  tried_there : (heavy : Bool) (s : State) (asked : Act) (q : Key) → set.contains (tried heavy s asked).writes q ≡ true → is_some (map.get (tried heavy s asked).state q) ≡ true
  tried_there true s asked q h = none_written q h
  tried_there false s asked q h = ended_there s (begin src asked s) q (begin_later asked s) h

pub runs_framed : RunsAreFramed
unfolding run
runs_framed src = record {
  depends = λ s t asked agree. tried_alike src (is_too_heavy asked) s t asked agree;
  stays = λ s asked q h. tried_stays src (is_too_heavy asked) s asked q h;
  there = λ s asked q h. tried_there src (is_too_heavy asked) s asked q h;
}
