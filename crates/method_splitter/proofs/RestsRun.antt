-- What is left of a block, and what it leads to.
--
-- `Runs` says what a rest comes to in a block that has these catches, with some fuel, and `Falls` what a failure there comes to. `Leads` says that a rest makes an end of flat code, which leaves no more steps, and
-- then goes on at another rest: whatever is left to show behind that end (`After`), the first rest comes to.
use Rattle.std.proofs.Common.{◌≡◌, ℕ, zero, suc, ◌+◌, ◌≤◌, arith, List, [], ◌∷◌, ◌++◌, length, Option, Some, None, sym, ap, ◌∙◌, subst}
use Rattle.std.specs.Prelude.{slice_get}
use Rattle.sf_value.specs.declared.Failure.{Failure}
use Rattle.sf_value.specs.declared.value.Value.{Value}
use Rattle.program_meaning.specs.declared.vars.Var.{Var}
use Rattle.program_meaning.specs.World.{Gives, Got, Ends, Goes, Returns, Breaks, Continues, Fails, next}
use Rattle.program_meaning.specs.Evaluation.{Site}
use Rattle.program_meaning.specs.Execution.{stepping}
use Rattle.program_meaning.specs.StepsLeft.{left_at}
use Rattle.block_code.specs.PlainBlocks.{PlainItem, IMark, ELeave, PlainBlock}
use Rattle.block_runs.specs.BlockRuns.{Go, Fall, run_item, run_items, run_end, fall, behind, at_block, run_blocks, recursing}
use Rattle.flat_tree.specs.FlatMeaning.{Way}
use Rattle.flat_tree.specs.PlainFlat.{Point}
use Rattle.method_splitter.specs.Split.{Target, Rest, Jumps, Holds, code_of, end_of, front, Caught, Around, catches_in, block, lodge, joined, outlet, inside, guarded}
use Rattle.method_splitter.proofs.LoopsLeft.{StaysInLoop, step_stays}

-- blocks stand in a list from a number on
abbrev pub StandAt : List PlainBlock → ℕ → List PlainBlock → Type 0
StandAt g at [] = Unit {0}
StandAt g at (b ∷ bs) = (slice_get g at ≡ Some b) × StandAt g (at + 1) bs

pub stand_first : (g : List PlainBlock) (at : ℕ) (bs cs : List PlainBlock) → StandAt g at (bs ++ cs) → StandAt g at bs
stand_first g at [] cs h = tt
stand_first g at (b ∷ bs) cs h = (h.0, stand_first g (at + 1) bs cs h.1)

pub stand_behind : (g : List PlainBlock) (at : ℕ) (bs cs : List PlainBlock) → StandAt g at (bs ++ cs) → StandAt g (at + length bs) cs
stand_behind g at [] cs h = let none : at ≡ at + 0 = omega arith in subst (λ k. StandAt g k cs) none h
stand_behind g at (b ∷ bs) cs h =
    let one : at + 1 + length bs ≡ at + length (b ∷ bs) = omega arith in
    subst (λ k. StandAt g k cs) one (stand_behind g (at + 1) bs cs h.1)

pub at_most : {i j k : ℕ} → i ≤ j → j ≤ k → i ≤ k
at_most p q = omega (arith, p, q)

-- an end behind which nothing goes on
abbrev pub Stops : {W : Type 0} → Ends W → Type 0
Stops (Goes vars w n) = ⊥
Stops (Returns v w n) = Unit {0}
Stops (Breaks vars w n) = Unit {0}
Stops (Continues vars w n) = Unit {0}
Stops (Fails f vars w n) = Unit {0}

-- a rest that evaluates nothing: it comes to the same in any block, whatever its catches
abbrev pub IsFree : Rest → Type 0
IsFree (Jumps to) = Unit {0}
IsFree (Holds [] ELeave rank) = Unit {0}
IsFree (Holds _ _ rank) = ⊥

pub record AroundFree (a : Around) : Type 0 where
  pub breaks : IsFree a.breaks
  pub continues : IsFree a.continues

pub outlet_free : (a : Around) (after : Option Point) (c : Rest) (at : ℕ) → IsFree (outlet a after c at).got
outlet_free a (Some params) c at = tt
outlet_free a None c at = tt

pub inside_free : (a : Around) (behind : Rest) (again : Target) → IsFree behind → AroundFree (inside a behind again)
inside_free a behind again out = record { breaks = out; continues = tt }

pub guarded_free : (a : Around) (ks : List Caught) → AroundFree a → AroundFree (guarded a ks)
guarded_free a ks free = record { breaks = free.breaks; continues = free.continues }

module _ {W : Type 0} (s : Site W) (g : List PlainBlock) where
  -- a failure among catches, with fuel for the blocks where it goes on
  abbrev pub falls_on : List Caught → ℕ → Fall W (Gives W Value)
  falls_on ks fuel = fall (recursing s) (catches_in ks) (run_blocks s (recursing s) g fuel)

  -- a block that holds a rest, with fuel for the blocks behind it
  abbrev pub within : List Caught → ℕ → ℕ → Rest → Go W (Gives W Value)
  within ks number fuel r vars w n =
      behind (recursing s) (run_items s (code_of r) vars w n)
      (run_end s (recursing s) number (run_blocks s (recursing s) g fuel) (falls_on ks fuel) (end_of r))
      (falls_on ks fuel)

  pub record Runs (ks : List Caught) (r : Rest) (vars : List Var) (w : W) (n : ℕ) (x : Gives W Value) : Type 0 where
    pub fuel : ℕ
    pub by : (number : ℕ) → within ks number fuel r vars w n ≡ Some x

  pub record Falls (ks : List Caught) (f : Failure) (vars : List Var) (w : W) (n : ℕ) (x : Gives W Value) : Type 0 where
    pub fuel : ℕ
    pub by : falls_on ks fuel f vars w n ≡ Some x

  abbrev pub After : Around → Rest → Ends W → Gives W Value → Type 0
  After a c (Goes vars w n) x = Runs a.catches c vars w n x
  After a c (Returns v w n) x = Got v w n ≡ x
  After a c (Breaks vars w n) x = Runs a.catches a.breaks vars w n x
  After a c (Continues vars w n) x = Runs a.catches a.continues vars w n x
  After a c (Fails f vars w n) x = Falls a.catches f vars w n x

  pub record Leads (a : Around) (r : Rest) (vars : List Var) (w : W) (n : ℕ) (e : Ends W) (c : Rest) : Type 0 where
    pub by : (x : Gives W Value) → After a c e x → Runs a.catches r vars w n x
    pub fewer : left_at e ≤ n

  abbrev pub WayLeads : Around → Rest → Rest → Way W → ℕ → Type 0
  WayLeads a r c f n = (us : List Var) (v : W) (m : ℕ) → m ≤ n → Leads a r us v m (f us v m) c

  -- one rest comes to what another comes to
  abbrev pub AsGood : List Caught → Rest → Rest → Type 0
  AsGood ks c r = (us : List Var) (v : W) (m : ℕ) (x : Gives W Value) → Runs ks c us v m x → Runs ks r us v m x

  pub free_runs : (ks ls : List Caught) (r : Rest) → IsFree r → (vars : List Var) (w : W) (n : ℕ) (x : Gives W Value) → Runs ks r vars w n x → Runs ls r vars w n x
  unfolding run_items run_end
  free_runs ks ls (Jumps to) free vars w n x h = record { fuel = h.fuel; by = h.by }
  free_runs ks ls (Holds [] ELeave rank) free vars w n x h = record { fuel = h.fuel; by = h.by }
  free_runs ks ls (Holds _ _ rank) free vars w n x h = absurd free

  -- In turn

  pub leads_itself : (a : Around) (c : Rest) (vars : List Var) (w : W) (n : ℕ) → Leads a c vars w n (Goes vars w n) c
  leads_itself a c vars w n = record { by = λ x h. h; fewer = omega arith }

  pub leads_good : (a : Around) (r c : Rest) (vars : List Var) (w : W) (n : ℕ) → AsGood a.catches c r → Leads a r vars w n (Goes vars w n) c
  leads_good a r c vars w n good = record { by = λ x h. good vars w n x h; fewer = omega arith }

  pub leads_next : (a : Around) (r mid c : Rest) (vars : List Var) (w : W) (n : ℕ) (e : Ends W) (f : Way W) → Leads a r vars w n e mid → WayLeads a mid c f n → Leads a r vars w n (next e f) c
  leads_next a r mid c vars w n (Goes us v m) f l later = let k = later us v m l.fewer in record { by = λ x h. l.by x (k.by x h); fewer = at_most k.fewer l.fewer }
  leads_next a r mid c vars w n (Returns y v m) f l later = record { by = λ x h. l.by x h; fewer = l.fewer }
  leads_next a r mid c vars w n (Breaks us v m) f l later = record { by = λ x h. l.by x h; fewer = l.fewer }
  leads_next a r mid c vars w n (Continues us v m) f l later = record { by = λ x h. l.by x h; fewer = l.fewer }
  leads_next a r mid c vars w n (Fails y us v m) f l later = record { by = λ x h. l.by x h; fewer = l.fewer }

  pub leads_on : (a : Around) (r mid c : Rest) (vars : List Var) (w : W) (n : ℕ) (e : Ends W) → Leads a r vars w n e mid → AsGood a.catches c mid → Leads a r vars w n e c
  leads_on a r mid c vars w n (Goes us v m) l good = record { by = λ x h. l.by x (good us v m x h); fewer = l.fewer }
  leads_on a r mid c vars w n (Returns y v m) l good = record { by = λ x h. l.by x h; fewer = l.fewer }
  leads_on a r mid c vars w n (Breaks us v m) l good = record { by = λ x h. l.by x h; fewer = l.fewer }
  leads_on a r mid c vars w n (Continues us v m) l good = record { by = λ x h. l.by x h; fewer = l.fewer }
  leads_on a r mid c vars w n (Fails y us v m) l good = record { by = λ x h. l.by x h; fewer = l.fewer }

  -- what stops goes on nowhere
  pub leads_nowhere : (a : Around) (r mid c : Rest) (vars : List Var) (w : W) (n : ℕ) (e : Ends W) → Stops e → Leads a r vars w n e mid → Leads a r vars w n e c
  leads_nowhere a r mid c vars w n (Goes us v m) stops l = absurd stops
  leads_nowhere a r mid c vars w n (Returns y v m) stops l = record { by = λ x h. l.by x h; fewer = l.fewer }
  leads_nowhere a r mid c vars w n (Breaks us v m) stops l = record { by = λ x h. l.by x h; fewer = l.fewer }
  leads_nowhere a r mid c vars w n (Continues us v m) stops l = record { by = λ x h. l.by x h; fewer = l.fewer }
  leads_nowhere a r mid c vars w n (Fails y us v m) stops l = record { by = λ x h. l.by x h; fewer = l.fewer }

  pub leads_same : (a : Around) (r c : Rest) (vars : List Var) (w : W) (n : ℕ) (e d : Ends W) → e ≡ d → Leads a r vars w n d c → Leads a r vars w n e c
  leads_same a r c vars w n e d is l = subst (λ e. Leads a r vars w n e c) (sym is) l

  -- Items

  -- what a block comes to whose first item ends so, before the items of a rest
  first_item : (a : Around) (c : Rest) (e : Ends W) → StaysInLoop e → (x : Gives W Value) → After a c e x
      → (fuel : ℕ) × ((number : ℕ) → behind (recursing s) (next e (run_items s (code_of c))) (run_end s (recursing s) number (run_blocks s (recursing s) g fuel) (falls_on a.catches fuel) (end_of c)) (falls_on a.catches fuel) ≡ Some x)
  first_item a c (Goes vars w n) stays x h = (h.fuel, h.by)
  first_item a c (Returns v w n) stays x h = (0, λ number. ap Some h)
  first_item a c (Breaks vars w n) stays x h = absurd stays
  first_item a c (Continues vars w n) stays x h = absurd stays
  first_item a c (Fails f vars w n) stays x h = (h.fuel, λ number. h.by)

  pub front_leads : (a : Around) (i : PlainItem) (c : Rest) (vars : List Var) (w : W) (n : ℕ) → StaysInLoop (run_item s i vars w n) → left_at (run_item s i vars w n) ≤ n → Leads a (front i c) vars w n (run_item s i vars w n) c
  unfolding run_items
  front_leads a i c vars w n stays few = record { by = λ x h. let k = first_item a c (run_item s i vars w n) stays x h in record { fuel = k.0; by = k.1 }; fewer = few }

  pub mark_leads : (a : Around) (c : Rest) (vars : List Var) (w : W) (n : ℕ) → Leads a (front IMark c) vars w n (stepping vars w n (λ n. Goes vars w n)) c
  unfolding run_item
  mark_leads a c vars w n = front_leads a IMark c vars w n (step_stays vars w n _ (λ n. tt)) (few n)
    where
      few : (n : ℕ) → left_at (stepping vars w n (λ n. Goes vars w n)) ≤ n
      few zero = omega arith
      few (suc n) = omega arith

  -- Blocks

  pub jump_leads : (a : Around) (params : Point) (to : Target) (r c : Rest) (vars : List Var) (w : W) (n : ℕ) (e : Ends W) → slice_get g to.number ≡ Some (block a params r) → Leads a r vars w n e c → Leads a (Jumps to) vars w n e c
  unfolding run_items run_end run_blocks
  jump_leads a params to r c vars w n e is l = record { by = λ x h. let k = l.by x h in record { fuel = suc k.fuel; by = λ number. at_some _ _ is ∙ k.by to.number }; fewer = l.fewer }
    where
      at_some : (o : Option PlainBlock) (f : PlainBlock → Go W (Gives W Value)) → o ≡ Some (block a params r) → at_block o f vars w n ≡ f (block a params r) vars w n
      at_some o f is = ap (λ o. at_block o f vars w n) is

  pub lodge_leads : (a : Around) (params : Point) (r c : Rest) (at : ℕ) → StandAt g at (lodge a params r at).made → (vars : List Var) (w : W) (n : ℕ) (e : Ends W) → Leads a r vars w n e c → Leads a (Jumps (lodge a params r at).got) vars w n e c
  lodge_leads a params (Jumps to) c at stand vars w n e l = l
  lodge_leads a params (Holds code end rank) c at stand vars w n e l = jump_leads a params _ _ c vars w n e stand.0 l

  -- a rest and the block where it is lodged come to the same
  pub lodge_good : (a : Around) (params : Point) (c : Rest) (at : ℕ) → StandAt g at (lodge a params c at).made → AsGood a.catches c (Jumps (lodge a params c at).got)
  lodge_good a params c at stand us v m x h = (lodge_leads a params c c at stand us v m _ (leads_itself a c us v m)).by x h

  pub joined_good : (a : Around) (after : Option Point) (c : Rest) (at : ℕ) → StandAt g at (joined a after c at).made → AsGood a.catches c (joined a after c at).got
  joined_good a None c at stand us v m x h = h
  joined_good a (Some params) c at stand us v m x h = lodge_good a params c at (stand_first g at (lodge a params c at).made [] stand) us v m x h
