-- A `try` leads on: what its body does, and what the first clause that names its failure does. What ends a loop or a `try` goes on at
-- its outlet.
use Rattle.std.proofs.Common.{◌≡◌, ℕ, ◌≤◌, arith, Bool, true, false, List, [], ◌∷◌, Option, Some, None, if◌then◌else◌}
use Rattle.std.specs.Prelude.{nat_eq}
use Rattle.std.specs.List.{list_any}
use Rattle.sf_value.specs.declared.Failure.{Failure}
use Rattle.sf_value.specs.declared.value.Value.{Value}
use Rattle.program_meaning.specs.declared.vars.Var.{Var}
use Rattle.program_meaning.specs.World.{Gives, Ends, Goes, Returns, Breaks, Continues, Fails}
use Rattle.program_meaning.specs.Evaluation.{Site}
use Rattle.program_meaning.specs.StepsLeft.{left_at}
use Rattle.block_code.specs.PlainBlocks.{PlainBlock}
use Rattle.block_code.specs.EventsFit.{catch_of}
use Rattle.block_runs.specs.BlockRuns.{run_items, run_end, run_blocks, fall_at, recursing}
use Rattle.flat_tree.specs.PlainFlat.{Point}
use Rattle.flat_tree.specs.FlatMeaning.{Way, caught, closed}
use Rattle.method_splitter.specs.Split.{Target, Rest, Jumps, Caught, Around, catches_in, lodge, outlet, guarded}
use Rattle.method_splitter.proofs.RestsRun.{StandAt, stand_first, at_most, IsFree, AroundFree, Runs, Falls, After, Leads, free_runs, lodge_good}

module _ {W : Type 0} (s : Site W) (g : List PlainBlock) where
  -- Outlets

  closed_after : (a : Around) (after : Option Point) (c : Rest) (at : ℕ) → StandAt g at (outlet a after c at).made → (e : Ends W) (x : Gives W Value) → After s g a c (closed after e) x → After s g a (outlet a after c at).got e x
  unfolding run_items run_end
  closed_after a (Some params) c at stand (Goes vars w n) x h = lodge_good s g a params c at (stand_first g at (lodge a params c at).made [] stand) vars w n x h
  closed_after a (Some params) c at stand (Returns v w n) x h = h
  closed_after a (Some params) c at stand (Breaks vars w n) x h = h
  closed_after a (Some params) c at stand (Continues vars w n) x h = h
  closed_after a (Some params) c at stand (Fails f vars w n) x h = h
  closed_after a None c at stand (Goes vars w n) x h = record { fuel = 0; by = λ number i. Some (h i) }
  closed_after a None c at stand (Returns v w n) x h = h
  closed_after a None c at stand (Breaks vars w n) x h = h
  closed_after a None c at stand (Continues vars w n) x h = h
  closed_after a None c at stand (Fails f vars w n) x h = h

  closed_fewer : (after : Option Point) (e : Ends W) (n : ℕ) → left_at e ≤ n → left_at (closed after e) ≤ n
  closed_fewer (Some params) e n few = few
  closed_fewer None (Goes vars w m) n few = few
  closed_fewer None (Returns v w m) n few = few
  closed_fewer None (Breaks vars w m) n few = few
  closed_fewer None (Continues vars w m) n few = few
  closed_fewer None (Fails f vars w m) n few = few

  pub closed_leads : (a : Around) (after : Option Point) (c : Rest) (at : ℕ) → StandAt g at (outlet a after c at).made → (r : Rest) (vars : List Var) (w : W) (n : ℕ) (e : Ends W) → Leads s g a r vars w n e (outlet a after c at).got
      → Leads s g a r vars w n (closed after e) c
  closed_leads a after c at stand r vars w n e l = record { by = λ x h. l.by x (closed_after a after c at stand e x h); fewer = closed_fewer after e n l.fewer }

  -- Clauses

  -- a failure among these catches comes to what clauses make of it, and to what follows them where these catches don't hold
  pub record ClausesLead (a : Around) (ks : List Caught) (f : Failure) (vars : List Var) (w : W) (n : ℕ) (e : Ends W) (c : Rest) : Type 0 where
    pub by : (x : Gives W Value) → After s g a c e x → Falls s g ks f vars w n x
    pub fewer : left_at e ≤ n

  -- behind the last clause failures go on as they do around the `try`
  pub nobody_leads : (a : Around) (f : Failure) (vars : List Var) (w : W) (n : ℕ) (c : Rest) → ClausesLead a a.catches f vars w n (Fails f vars w n) c
  nobody_leads a f vars w n c = record { by = λ x h. h; fewer = omega arith }

  -- a failure that goes on at a block
  at_clause : (ks : List Caught) (to : Target) (f : Failure) (vars : List Var) (w : W) (n : ℕ) (x : Gives W Value) → Runs s g ks (Jumps to) vars w n x → (fuel : ℕ) × (fall_at (recursing s) (Some to.number) (run_blocks s (recursing s) g fuel) f vars w n ≡ Some x)
  unfolding run_items run_end
  at_clause ks to f vars w n x h = (h.fuel, h.by 0)

  pub clause_leads : (a : Around) (kinds : List ℕ) (to : Target) (ks : List Caught) (f : Failure) (vars : List Var) (w : W) (n : ℕ) (e d : Ends W) (c : Rest) → Leads s g a (Jumps to) vars w n e c → ClausesLead a ks f vars w n d c
      → ClausesLead a (record { kinds = kinds; to = to } ∷ ks) f vars w n (if list_any (nat_eq f.kind) kinds then e else d) c
  clause_leads a kinds to ks f vars w n e d c taken passed =
      record { by = λ x h. let k = falls (list_any (nat_eq f.kind) kinds) x h in record { fuel = k.0; by = k.1 }; fewer = few (list_any (nat_eq f.kind) kinds) }
    where
      falls : (named : Bool) (x : Gives W Value) → After s g a c (if named then e else d) x
          → (fuel : ℕ) × (fall_at (recursing s) (if named then Some to.number else catch_of (catches_in ks) f.kind) (run_blocks s (recursing s) g fuel) f vars w n ≡ Some x)
      falls true x h = at_clause a.catches to f vars w n x (taken.by x h)
      falls false x h = let k = passed.by x h in (k.fuel, k.by)

      few : (named : Bool) → left_at (if named then e else d) ≤ n
      few true = taken.fewer
      few false = passed.fewer

  -- The body

  module _ (a : Around) (free : AroundFree a) (ks : List Caught) (behind : Rest) (out : IsFree behind) (take_up : Failure → Way W) (clauses : (f : Failure) (us : List Var) (v : W) (m : ℕ) → ClausesLead a ks f us v m (take_up f us v m) behind) where
    -- what follows a body doesn't look at catches
    caught_after : (e : Ends W) (x : Gives W Value) → After s g a behind (caught take_up e) x → After s g (guarded a ks) behind e x
    caught_after (Goes us v m) x h = free_runs s g a.catches ks behind out us v m x h
    caught_after (Returns y v m) x h = h
    caught_after (Breaks us v m) x h = free_runs s g a.catches ks a.breaks free.breaks us v m x h
    caught_after (Continues us v m) x h = free_runs s g a.catches ks a.continues free.continues us v m x h
    caught_after (Fails f us v m) x h = (clauses f us v m).by x h

    caught_fewer : (e : Ends W) (n : ℕ) → left_at e ≤ n → left_at (caught take_up e) ≤ n
    caught_fewer (Goes us v m) n few = few
    caught_fewer (Returns y v m) n few = few
    caught_fewer (Breaks us v m) n few = few
    caught_fewer (Continues us v m) n few = few
    caught_fewer (Fails f us v m) n few = at_most (clauses f us v m).fewer few

    pub caught_leads : (to : Target) (vars : List Var) (w : W) (n : ℕ) (e : Ends W) → Leads s g (guarded a ks) (Jumps to) vars w n e behind → Leads s g a (Jumps to) vars w n (caught take_up e) behind
    caught_leads to vars w n e l = record { by = λ x h. free_runs s g ks a.catches (Jumps to) tt vars w n x (l.by x (caught_after e x h)); fewer = caught_fewer e n l.fewer }
