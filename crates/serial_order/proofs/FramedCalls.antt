-- Calls and creations follow from worlds that are paired, at each depth.
use Rattle.std.proofs.Common.{◌≡◌, ℕ, zero, suc, true, Option, Some, None, List, refl, subst}
use Rattle.std.specs.Prelude.{slice_get}
use Rattle.std.specs.FinMap as map
use Rattle.std.specs.FinSet as set
use Rattle.sf_value.specs.Keys.{Key}
use Rattle.sf_value.specs.declared.value.Value.{Value}
use Rattle.program_meaning.specs.ClassTables.{Source, methods_of}
use Rattle.program_meaning.specs.World.{Keys, World, Calls, Gives, Got, Fell, step, step_limit, recursion_error, no_entity, already_exists, reading, writing}
use Rattle.program_meaning.specs.Calls.{calls_at, enter, create, made, made_record, if_there, new_key}
use Rattle.serial_order.proofs.Later.{later_writing, read_it}
use Rattle.serial_order.proofs.Paired.{Paired, SameGiven, Follows, paired_reading, paired_writing, falls, after_reading}
use Rattle.serial_order.proofs.FramedCode.{CallsFollow, body_follows}

module _ (keys : Keys) where
  -- the entity was read, so both find it or both don't
  if_there_follows : (at : Key) (v : World) (o p : Option (List Value)) (absent present absent_too present_too : Gives World Value) → set.contains v.reads at ≡ true → (set.contains keys at ≡ true → o ≡ p)
      → Follows keys v absent absent_too → Follows keys v present present_too → Follows keys v (if_there o absent present) (if_there p absent_too present_too)
  if_there_follows at v None p absent present absent_too present_too read agree first second = record {
    later = first.later;
    same = λ covers. subst (λ p. SameGiven keys absent (if_there p absent_too present_too)) (agree (covers.at at (first.later.reads at read))) (first.same covers);
  }
  if_there_follows at v (Some fields) p absent present absent_too present_too read agree first second = record {
    later = second.later;
    same = λ covers. subst (λ p. SameGiven keys present (if_there p absent_too present_too)) (agree (covers.at at (second.later.reads at read))) (second.same covers);
  }

  made_follows : (at : Key) (v w : World) (g : Gives (List Value) Value) → set.contains v.reads at ≡ true → Paired keys v w → Follows keys v (made at v g) (made at w g)
  made_follows at v w (Got x fields n) read p = record {
    later = later_writing v at fields read;
    same = λ covers. record { other = writing w at fields; is = refl; paired = paired_writing keys v w at fields p };
  }
  made_follows at v w (Fell f fields n) read p = falls keys f v w n p

  create_follows : (src : Source) (at : Key) (args : List Value) (v w : World) (n : ℕ) → Paired keys v w → Follows keys v (create src at args v n) (create src at args w n)
  unfolding create
  create_follows src at args v w n p =
      let both : Paired keys (reading v at) (reading w at) = paired_reading keys v w at p in
      after_reading keys v at _ _
      (if_there_follows at (reading v at) (map.get v.state at) (map.get w.state at) _ _ _ _ (read_it v at) (p.records.at at)
      (made_follows at (reading v at) (reading w at) (made_record src at args n) (read_it v at) both)
      (falls keys already_exists (reading v at) (reading w at) n both))

  enter_follows : (src : Source) (calls : Calls World) → CallsFollow keys calls → (at : Key) (method : ℕ) (args : List Value) (v w : World) (n : ℕ) → Paired keys v w
      → Follows keys v (enter src calls at method args v n) (enter src calls at method args w n)
  unfolding enter
  enter_follows src calls follow at method args v w n p =
      let both : Paired keys (reading v at) (reading w at) = paired_reading keys v w at p in
      after_reading keys v at _ _
      (if_there_follows at (reading v at) (map.get v.state at) (map.get w.state at) _ _ _ _ (read_it v at) (p.records.at at)
      (falls keys no_entity (reading v at) (reading w at) n both)
      (body_follows keys at src calls follow (slice_get (methods_of src at.0) method) args (reading v at) (reading w at) n (read_it v at) both))

  -- a step first, if there is one
  stepped_follows : (v w : World) (n : ℕ) (f g : ℕ → Gives World Value) → Paired keys v w → ((m : ℕ) → Follows keys v (f m) (g m)) → Follows keys v (step n (Fell step_limit v n) f) (step n (Fell step_limit w n) g)
  stepped_follows v w zero f g p rest = falls keys step_limit v w zero p
  stepped_follows v w (suc n) f g p rest = rest n

  pub calls_follow : (src : Source) (d : ℕ) → CallsFollow keys (calls_at src d)
  unfolding calls_at
  calls_follow src zero = record {
    call = λ at method args v w n p. stepped_follows v w n _ _ p (λ m. falls keys recursion_error v w m p);
    make = λ class args v w n p. stepped_follows v w n _ _ p (λ m. falls keys recursion_error v w m p);
  }
  calls_follow src (suc d) = record {
    call = λ at method args v w n p. stepped_follows v w n _ _ p (λ m. enter_follows src (calls_at src d) (calls_follow src d) at method args v w m p);
    make = λ class args v w n p. stepped_follows v w n _ _ p (λ m. create_follows src (new_key src class args) args v w m p);
  }
