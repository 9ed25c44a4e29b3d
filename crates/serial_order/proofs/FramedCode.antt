-- Code that runs at an entity that was read follows from worlds that are paired: each of its parts does, and so all of it.
use Rattle.std.proofs.Common.{◌≡◌, ◌∙◌, ℕ, zero, suc, true, Option, Result, Ok, Err, List, refl, sym, ap, subst}
use Rattle.std.specs.FinSet as set
use Rattle.py_tree.specs.PlainProgram.{PlainMethod}
use Rattle.sf_value.specs.Keys.{Key}
use Rattle.sf_value.specs.declared.Failure.{Failure}
use Rattle.sf_value.specs.declared.value.Value.{Value}
use Rattle.program_meaning.specs.declared.vars.Var.{Var}
use Rattle.program_meaning.specs.ClassTables.{Source}
use Rattle.program_meaning.specs.World.{Keys, World, Calls, Gives, Got, Fell, ◌>>=◌, told, Ends, Goes, Returns, Breaks, Continues, Fails, step_limit, with_given, next, next_turn, caught, result_of, record_at, writing}
use Rattle.program_meaning.specs.Execution.{stepping, value_or_none}
use Rattle.program_meaning.specs.Calls.{in_state, run_body}
use Rattle.program_meaning.proofs.HereLaws.{world_in, end_world}
use Rattle.program_meaning.proofs.Traversal.{PartsKeep, body_keeps}
use Rattle.program_meaning.proofs.ViewLaws.{viewed_end, result_viewed}
use Rattle.serial_order.proofs.Later.{Later, later_then, later_writing}
use Rattle.serial_order.proofs.Paired.{Paired, Covers, SameGiven, SameEnd, Follows, FollowsAt, itself, paired_writing, same_record, covers_before, rests, rests_at, falls}

-- calls and creations, from any worlds that are paired
pub record CallsFollow (keys : Keys) (calls : Calls World) : Type 0 where
  pub call : (at : Key) (method : ℕ) (args : List Value) (v w : World) (n : ℕ) → Paired keys v w → Follows keys v (calls.call at method args v n) (calls.call at method args w n)
  pub make : (class : ℕ) (args : List Value) (v w : World) (n : ℕ) → Paired keys v w → Follows keys v (calls.make class args v n) (calls.make class args w n)

-- code, from worlds that are paired in which the entity was read
pub record Framed (keys : Keys) (me : Key) (A : Type 0) (g : World → ℕ → Gives World A) : Type 0 where
  pub from : (v w : World) (n : ℕ) → set.contains v.reads me ≡ true → Paired keys v w → Follows keys v (g v n) (g w n)

pub record FramedAt (keys : Keys) (me : Key) (e : World → ℕ → Ends World) : Type 0 where
  pub from : (v w : World) (n : ℕ) → set.contains v.reads me ≡ true → Paired keys v w → FollowsAt keys v (e v n) (e w n)

module _ (keys : Keys) (me : Key) where
  told_follows : (r : Result Value Failure) (v w : World) (n : ℕ) → Paired keys v w → Follows keys v (told r v n) (told r w n)
  told_follows (Ok x) v w n p = rests keys (Got x v n) w p
  told_follows (Err f) v w n p = falls keys f v w n p

  reads_follow : (f : List Value → Result Value Failure) (v w : World) (n : ℕ) → set.contains v.reads me ≡ true → Paired keys v w → Follows keys v (told (f (record_at v me)) v n) (told (f (record_at w me)) w n)
  reads_follow f v w n read p =
      let here : Follows keys v (told (f (record_at v me)) v n) (told (f (record_at v me)) w n) = told_follows (f (record_at v me)) v w n p in
      record {
        later = here.later;
        same = λ covers.
            subst (λ fields. SameGiven keys (told (f (record_at v me)) v n) (told (f fields) w n))
            (same_record keys v w me p (covers.at me (here.later.reads me read))) (here.same covers);
      }

  writes_follow : (vars : List Var) (f : List Value → List Value) (v w : World) (n : ℕ) → set.contains v.reads me ≡ true → Paired keys v w
      → FollowsAt keys v (Goes vars (writing v me (f (record_at v me))) n) (Goes vars (writing w me (f (record_at w me))) n)
  writes_follow vars f v w n read p = record {
    later = later_writing v me (f (record_at v me)) read;
    same = λ covers.
        subst (λ fields. SameEnd keys (Goes vars (writing v me (f (record_at v me))) n) (Goes vars (writing w me (f fields)) n))
        (same_record keys v w me p (covers.at me read))
        (record { other = writing w me (f (record_at v me)); is = refl; paired = paired_writing keys v w me (f (record_at v me)) p });
  }

  -- One part behind another

  then_follows : {A B : Type 0} (v : World) (g h : Gives World A) (f : A → World → ℕ → Gives World B) → set.contains v.reads me ≡ true → Follows keys v g h → ((x : A) → Framed keys me B (f x)) → Follows keys v (g >>= f) (h >>= f)
  then_follows {B = B} v (Got x u m) h f read first rest =
      let on : Later u (world_in (f x u m)) = ((rest x).from u u m (first.later.reads me read) (itself keys u)).later in
      record {
        later = later_then first.later on;
        same = λ covers.
            let before : SameGiven keys (Got x u m) h = first.same (covers_before keys on covers) in
            let after : SameGiven keys (f x u m) (f x before.other m) = ((rest x).from u before.other m (first.later.reads me read) before.paired).same covers in
            record { other = after.other; is = ap (λ y. y >>= f) before.is ∙ after.is; paired = after.paired };
      }
  then_follows v (Fell e u m) h f read first rest = record {
    later = first.later;
    same = λ covers.
        let before : SameGiven keys (Fell e u m) h = first.same covers in
        record { other = before.other; is = ap (λ y. y >>= f) before.is; paired = before.paired };
  }

  uses_follow : {A : Type 0} (vars : List Var) (v : World) (g h : Gives World A) (f : A → World → ℕ → Ends World) → set.contains v.reads me ≡ true → Follows keys v g h → ((x : A) → FramedAt keys me (f x)) → FollowsAt keys v (with_given vars g f) (with_given vars h f)
  uses_follow vars v (Got x u m) h f read first rest =
      let on : Later u (end_world (f x u m)) = ((rest x).from u u m (first.later.reads me read) (itself keys u)).later in
      record {
        later = later_then first.later on;
        same = λ covers.
            let before : SameGiven keys (Got x u m) h = first.same (covers_before keys on covers) in
            let after : SameEnd keys (f x u m) (f x before.other m) = ((rest x).from u before.other m (first.later.reads me read) before.paired).same covers in
            record { other = after.other; is = ap (λ y. with_given vars y f) before.is ∙ after.is; paired = after.paired };
      }
  uses_follow vars v (Fell e u m) h f read first rest = record {
    later = first.later;
    same = λ covers.
        let before : SameGiven keys (Fell e u m) h = first.same covers in
        record { other = before.other; is = ap (λ y. with_given vars y f) before.is; paired = before.paired };
  }

  -- statements, where the join of what they come to with what follows goes on, or leaves them
  goes_on : (v u : World) (m : ℕ) (e h : Ends World) (f : World → ℕ → Ends World) (join : Ends World → Ends World) → end_world e ≡ u → ((other : World) → join (viewed_end (λ w. other) e) ≡ f other m)
      → set.contains v.reads me ≡ true → FollowsAt keys v e h → FramedAt keys me f → FollowsAt keys v (f u m) (join h)
  goes_on v u m e h f join ends goes read first rest =
      let before_it : Later v u = subst (Later v) ends first.later in
      let on : Later u (end_world (f u m)) = (rest.from u u m (before_it.reads me read) (itself keys u)).later in
      record {
        later = later_then before_it on;
        same = λ covers.
            let before : SameEnd keys e h = first.same (subst (Covers keys) (sym ends) (covers_before keys on covers)) in
            let after : SameEnd keys (f u m) (f before.other m) = (rest.from u before.other m (before_it.reads me read) (subst (λ w. Paired keys w before.other) ends before.paired)).same covers in
            record { other = after.other; is = ap join before.is ∙ goes before.other ∙ after.is; paired = after.paired };
      }

  stops : (v : World) (e h : Ends World) (join : Ends World → Ends World) → end_world (join e) ≡ end_world e → ((other : World) → join (viewed_end (λ w. other) e) ≡ viewed_end (λ w. other) (join e))
      → FollowsAt keys v e h → FollowsAt keys v (join e) (join h)
  stops v e h join ends stays first = record {
    later = subst (Later v) (sym ends) first.later;
    same = λ covers.
        let before : SameEnd keys e h = first.same (subst (Covers keys) ends covers) in
        record { other = before.other; is = ap join before.is ∙ stays before.other; paired = subst (λ w. Paired keys w before.other) (sym ends) before.paired };
  }

  next_follows : (v : World) (e h : Ends World) (f : List Var → World → ℕ → Ends World) → set.contains v.reads me ≡ true → FollowsAt keys v e h → ((vars : List Var) → FramedAt keys me (f vars)) → FollowsAt keys v (next e f) (next h f)
  next_follows v (Goes vars u m) h f read first rest = goes_on v u m (Goes vars u m) h (f vars) (λ y. next y f) refl (λ other. refl) read first (rest vars)
  next_follows v (Returns x u m) h f read first rest = stops v (Returns x u m) h (λ y. next y f) refl (λ other. refl) first
  next_follows v (Breaks vars u m) h f read first rest = stops v (Breaks vars u m) h (λ y. next y f) refl (λ other. refl) first
  next_follows v (Continues vars u m) h f read first rest = stops v (Continues vars u m) h (λ y. next y f) refl (λ other. refl) first
  next_follows v (Fails c vars u m) h f read first rest = stops v (Fails c vars u m) h (λ y. next y f) refl (λ other. refl) first

  turn_follows : (v : World) (e h : Ends World) (f : List Var → World → ℕ → Ends World) → set.contains v.reads me ≡ true → FollowsAt keys v e h → ((vars : List Var) → FramedAt keys me (f vars)) → FollowsAt keys v (next_turn e f) (next_turn h f)
  turn_follows v (Goes vars u m) h f read first rest = goes_on v u m (Goes vars u m) h (f vars) (λ y. next_turn y f) refl (λ other. refl) read first (rest vars)
  turn_follows v (Returns x u m) h f read first rest = stops v (Returns x u m) h (λ y. next_turn y f) refl (λ other. refl) first
  turn_follows v (Breaks vars u m) h f read first rest = stops v (Breaks vars u m) h (λ y. next_turn y f) refl (λ other. refl) first
  turn_follows v (Continues vars u m) h f read first rest = goes_on v u m (Continues vars u m) h (f vars) (λ y. next_turn y f) refl (λ other. refl) read first (rest vars)
  turn_follows v (Fails c vars u m) h f read first rest = stops v (Fails c vars u m) h (λ y. next_turn y f) refl (λ other. refl) first

  caught_follows : (v : World) (e h : Ends World) (f : Failure → List Var → World → ℕ → Ends World) → set.contains v.reads me ≡ true → FollowsAt keys v e h → ((c : Failure) (vars : List Var) → FramedAt keys me (f c vars)) → FollowsAt keys v (caught f e) (caught f h)
  caught_follows v (Goes vars u m) h f read first rest = stops v (Goes vars u m) h (λ y. caught f y) refl (λ other. refl) first
  caught_follows v (Returns x u m) h f read first rest = stops v (Returns x u m) h (λ y. caught f y) refl (λ other. refl) first
  caught_follows v (Breaks vars u m) h f read first rest = stops v (Breaks vars u m) h (λ y. caught f y) refl (λ other. refl) first
  caught_follows v (Continues vars u m) h f read first rest = stops v (Continues vars u m) h (λ y. caught f y) refl (λ other. refl) first
  caught_follows v (Fails c vars u m) h f read first rest = goes_on v u m (Fails c vars u m) h (f c vars) (λ y. caught f y) refl (λ other. refl) read first (rest c vars)

  step_follows : (vars : List Var) (e : World → ℕ → Ends World) → FramedAt keys me e → (v w : World) (n : ℕ) → set.contains v.reads me ≡ true → Paired keys v w → FollowsAt keys v (stepping vars v n (λ n. e v n)) (stepping vars w n (λ n. e w n))
  step_follows vars e rest v w zero read p = rests_at keys (Fails step_limit vars v zero) w p
  step_follows vars e rest v w (suc n) read p = rest.from v w n read p

  -- the world of a result is that of the statements
  result_world : (e : Ends World) → world_in (result_of e) ≡ end_world e
  result_world (Goes vars u m) = refl
  result_world (Returns x u m) = refl
  result_world (Breaks vars u m) = refl
  result_world (Continues vars u m) = refl
  result_world (Fails c vars u m) = refl

  result_follows : (v : World) (e h : Ends World) → FollowsAt keys v e h → Follows keys v (result_of e) (result_of h)
  result_follows v e h first = record {
    later = subst (Later v) (sym (result_world e)) first.later;
    same = λ covers.
        let s : SameEnd keys e h = first.same (subst (Covers keys) (result_world e) covers) in
        record { other = s.other; is = result_viewed (λ w. s.other) e h s.is; paired = subst (λ w. Paired keys w s.other) (sym (result_world e)) s.paired };
  }

  module _ (src : Source) (calls : Calls World) (follow : CallsFollow keys calls) where
    parts_framed : PartsKeep (Framed keys me) (FramedAt keys me) (in_state src calls me)
    parts_framed = record {
      gives = λ x. record { from = λ v w n read p. rests keys (Got x v n) w p };
      falls = λ f. record { from = λ v w n read p. falls keys f v w n p };
      follows = λ g f first rest. record { from = λ v w n read p. then_follows v (g v n) (g w n) f read (first.from v w n read p) rest };
      reads = λ f. record { from = λ v w n read p. reads_follow f v w n read p };
      calls = λ at method args. record { from = λ v w n read p. follow.call at method args v w n p };
      makes = λ class args. record { from = λ v w n read p. follow.make class args v w n p };
      goes = λ vars. record { from = λ v w n read p. rests_at keys (Goes vars v n) w p };
      returns = λ e vars first. record {
        from = λ v w n read p.
            uses_follow vars v (value_or_none (in_state src calls me) e vars v n) (value_or_none (in_state src calls me) e vars w n) (λ x w n. Returns x w n) read (first.from v w n read p)
            (λ x. record { from = λ v w n read p. rests_at keys (Returns x v n) w p });
      };
      breaks = λ vars. record { from = λ v w n read p. rests_at keys (Breaks vars v n) w p };
      continues = λ vars. record { from = λ v w n read p. rests_at keys (Continues vars v n) w p };
      fails = λ f vars. record { from = λ v w n read p. rests_at keys (Fails f vars v n) w p };
      writes = λ vars f. record { from = λ v w n read p. writes_follow vars f v w n read p };
      steps = λ vars e rest. record { from = step_follows vars e rest };
      enough = λ e rest. record { from = λ v w n read p. (rest (suc n)).from v w n read p };
      uses = λ vars g f first rest. record { from = λ v w n read p. uses_follow vars v (g v n) (g w n) f read (first.from v w n read p) rest };
      on = λ e f first rest. record { from = λ v w n read p. next_follows v (e v n) (e w n) f read (first.from v w n read p) rest };
      again = λ e f first rest. record { from = λ v w n read p. turn_follows v (e v n) (e w n) f read (first.from v w n read p) rest };
      catches = λ e f first rest. record { from = λ v w n read p. caught_follows v (e v n) (e w n) f read (first.from v w n read p) rest };
      results = λ e first. record { from = λ v w n read p. result_follows v (e v n) (e w n) (first.from v w n read p) };
    }

    pub body_follows : (method : Option PlainMethod) (args : List Value) (v w : World) (n : ℕ) → set.contains v.reads me ≡ true → Paired keys v w
        → Follows keys v (run_body (in_state src calls me) method args v n) (run_body (in_state src calls me) method args w n)
    body_follows method args v w n read p = (body_keeps (Framed keys me) (FramedAt keys me) (in_state src calls me) parts_framed method args).from v w n read p
