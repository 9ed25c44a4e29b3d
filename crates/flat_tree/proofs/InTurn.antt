-- Flat code one after another, what is evaluated behind it, and where tests lead.
--
-- `Leads` says that statements go on to where an expression gives what is asked, or fail as that does. `Holds` says besides that from
-- there on the expression gives the same, as a temporary does. Both leave the names below a limit as they were. `Decides` says that a
-- test leads on by the truth of what is given.
use Rattle.std.proofs.Common.{◌≡◌, ◌≤◌, ◌+◌, ℕ, zero, suc, arith, Bool, true, false, not, List, [], ◌∷◌, ◌++◌, if◌then◌else◌, refl, sym, ap, ◌∙◌, subst}
use Rattle.py_tree.specs.declared.names.Place.{Place}
use Rattle.py_tree.specs.PlainExpressions.{PlainExpr, PVar}
use Rattle.sf_value.specs.declared.Failure.{Failure}
use Rattle.sf_value.specs.declared.value.Value.{Value}
use Rattle.sf_value.specs.declared.value.Value.TheVariants as value
use Rattle.program_meaning.specs.declared.vars.Var.{Var}
use Rattle.program_meaning.specs.World.{Gives, Got, Fell, ◌>>=◌, told, Ends, Goes, Returns, Breaks, Continues, Fails, with_given, next, local_value, assigned}
use Rattle.program_meaning.specs.Operations.{weighed, is_true}
use Rattle.program_meaning.specs.Evaluation.{Site, eval, same_truth}
use Rattle.program_meaning.specs.Execution.{stepping, while_turns}
use Rattle.program_meaning.specs.LightValues.{IsLight, GivesLight}
use Rattle.program_meaning.proofs.LightOperations.{light_weighed}
use Rattle.flat_tree.specs.PlainFlat.{PlainFlatStmt, PlainFlatTest, FLeaf, FNot, FAnd, FOr, FOperand, PlainOperands, FNoOperand, FMoreOperands, Point, flat_stmts_of}
use Rattle.flat_tree.specs.FlatMeaning.{Way, into_local, loop_turns, run_stmt, decide, decide_each, run}
use Rattle.flat_tree.proofs.NamesBelow.{AgreeBelow, agree_with_itself, agree_on, agree_within, agree_past, assigned_here}
use Rattle.flat_tree.proofs.RelatedEnds.{Carries, EndsRelated, both_go, both_fail, WaysRelated, turn_related, given_related, step_related, either_related}

module _ {W : Type 0} where
  -- Laws of what follows

  next_by : (e : Ends W) (f g h : Way W) → ((us : List Var) (w : W) (n : ℕ) → h us w n ≡ next (f us w n) g) → next e h ≡ next (next e f) g
  next_by (Goes us w n) f g h same = same us w n
  next_by (Returns v w n) f g h same = refl
  next_by (Breaks us w n) f g h same = refl
  next_by (Continues us w n) f g h same = refl
  next_by (Fails c us w n) f g h same = refl

  next_alike : (e : Ends W) (f g : Way W) → ((us : List Var) (w : W) (n : ℕ) → f us w n ≡ g us w n) → next e f ≡ next e g
  next_alike (Goes us w n) f g same = same us w n
  next_alike (Returns v w n) f g same = refl
  next_alike (Breaks us w n) f g same = refl
  next_alike (Continues us w n) f g same = refl
  next_alike (Fails c us w n) f g same = refl

  pub next_nothing : (e : Ends W) → next e (λ us w n. Goes us w n) ≡ e
  next_nothing (Goes us w n) = refl
  next_nothing (Returns v w n) = refl
  next_nothing (Breaks us w n) = refl
  next_nothing (Continues us w n) = refl
  next_nothing (Fails c us w n) = refl

  pub gives_itself : {A : Type 0} (g : Gives W A) → (g >>= λ v w n. Got v w n) ≡ g
  gives_itself (Got v w n) = refl
  gives_itself (Fell c w n) = refl

  pub follows_behind : {A B C : Type 0} (g : Gives W A) (f : A → W → ℕ → Gives W B) (h : B → W → ℕ → Gives W C) → ((g >>= f) >>= h) ≡ (g >>= λ v w n. f v w n >>= h)
  follows_behind (Got v w n) f h = refl
  follows_behind (Fell c w n) f h = refl

  -- Statements in turn

  pub run_in_turn : (s : Site W) (xs ys : List PlainFlatStmt) (us : List Var) (w : W) (n : ℕ) → run s (xs ++ ys) us w n ≡ next (run s xs us w n) (λ us w n. run s ys us w n)
  unfolding run_stmt
  run_in_turn s [] ys us w n = refl
  run_in_turn s (x ∷ xs) ys us w n = next_by (run_stmt s x us w n) (λ us w n. run s xs us w n) (λ us w n. run s ys us w n) (λ us w n. run s (xs ++ ys) us w n) (run_in_turn s xs ys)

  pub run_alone : (s : Site W) (x : PlainFlatStmt) (us : List Var) (w : W) (n : ℕ) → run s (x ∷ []) us w n ≡ run_stmt s x us w n
  unfolding run_stmt
  run_alone s x us w n = next_nothing (run_stmt s x us w n)

  pub run_last : (s : Site W) (xs : List PlainFlatStmt) (x : PlainFlatStmt) (f : Way W) (us : List Var) (w : W) (n : ℕ) → ((us : List Var) (w : W) (n : ℕ) → run_stmt s x us w n ≡ f us w n) → run s (xs ++ x ∷ []) us w n ≡ next (run s xs us w n) f
  run_last s xs x f us w n is = run_in_turn s xs (x ∷ []) us w n ∙ next_alike (run s xs us w n) _ _ (λ us w n. run_alone s x us w n ∙ is us w n)

  pub run_nothing : (s : Site W) (us : List Var) (w : W) (n : ℕ) → run s [] us w n ≡ Goes us w n
  unfolding run_stmt
  run_nothing s us w n = refl

-- What is evaluated behind statements that ended in one of these ways

pub data Leads {W B : Type 0} (least : ℕ) (us : List Var) (ev : List Var → W → ℕ → Gives W B) : Gives W B → Ends W → Type 0 where
  leads : {later : List Var} {w : W} {n : ℕ} {g : Gives W B} → AgreeBelow least us later → ev later w n ≡ g → Leads least us ev g (Goes later w n)
  falls : {later : List Var} {f : Failure} {w : W} {n : ℕ} → AgreeBelow least us later → Leads least us ev (Fell f w n) (Fails f later w n)

pub data Holds {W : Type 0} (least spare : ℕ) (us : List Var) (ev : List Var → W → ℕ → Gives W Value) : Gives W Value → Ends W → Type 0 where
  holds : {later : List Var} {x : Value} {w : W} {n : ℕ} → AgreeBelow least us later → IsLight x → ((after : List Var) (v : W) (m : ℕ) → AgreeBelow spare later after → ev after v m ≡ Got x v m) → Holds least spare us ev (Got x w n) (Goes later w n)
  loses : {later : List Var} {f : Failure} {w : W} {n : ℕ} → AgreeBelow least us later → Holds least spare us ev (Fell f w n) (Fails f later w n)

pub record Decides {W : Type 0} (least : ℕ) (us : List Var) (test : Way W → Way W → Ends W) (g : Gives W Value) : Type 0 where
  pub later : List Var
  pub agree : AgreeBelow least us later
  pub is : (yes' no' : Way W) → test yes' no' ≡ with_given later g (λ v w n. if is_true v then yes' later w n else no' later w n)

module _ {W : Type 0} where
  -- the same, from an earlier point, and with fewer names kept
  pub leads_from : {B : Type 0} {least more : ℕ} {us vs : List Var} (ev : List Var → W → ℕ → Gives W B) (g : Gives W B) (e : Ends W) → least ≤ more → AgreeBelow least us vs → Leads more vs ev g e → Leads least us ev g e
  leads_from ev _ _ le agree (leads along is) = leads (agree_on agree (agree_within le along)) is
  leads_from ev _ _ le agree (falls along) = falls (agree_on agree (agree_within le along))

  pub holds_from : {least more spare : ℕ} {us vs : List Var} (ev : List Var → W → ℕ → Gives W Value) (g : Gives W Value) (e : Ends W) → least ≤ more → AgreeBelow least us vs → Holds more spare vs ev g e → Holds least spare us ev g e
  holds_from ev _ _ le agree (holds along light reads) = holds (agree_on agree (agree_within le along)) light reads
  holds_from ev _ _ le agree (loses along) = loses (agree_on agree (agree_within le along))

  -- something is made of what is given
  pub leads_through : {A B : Type 0} {least : ℕ} {us : List Var} (ev : List Var → W → ℕ → Gives W A) (f : A → W → ℕ → Gives W B) (g : Gives W A) (e : Ends W) → Leads least us ev g e → Leads least us (λ us w n. ev us w n >>= f) (g >>= f) e
  leads_through ev f _ _ (leads along is) = leads along (ap (λ g. g >>= f) is)
  leads_through ev f _ _ (falls along) = falls along

  -- what follows is evaluated with nothing before it
  pub leads_behind : {A B : Type 0} {least : ℕ} {us : List Var} (ev : List Var → W → ℕ → Gives W A) (more : A → List Var → W → ℕ → Gives W B) (g : Gives W A) (rest : A → W → ℕ → Gives W B) (e : Ends W) → Leads least us ev g e
      → ((x : A) (later : List Var) (w : W) (n : ℕ) → AgreeBelow least us later → more x later w n ≡ rest x w n)
      → Leads least us (λ us w n. ev us w n >>= λ x w n. more x us w n) (g >>= rest) e
  leads_behind {A} ev more g rest _ (leads {later = later} along is) same = leads along (ap (λ g. g >>= λ x w n. more x later w n) is ∙ by g)
    where
      by : (g : Gives W A) → (g >>= λ x w n. more x later w n) ≡ (g >>= rest)
      by (Got x w n) = same x later w n along
      by (Fell c w n) = refl
  leads_behind ev more _ rest _ (falls along) same = falls along

  pub held_leads : {least spare : ℕ} {us : List Var} (ev : List Var → W → ℕ → Gives W Value) (g : Gives W Value) (e : Ends W) → Holds least spare us ev g e → Leads least us ev g e
  held_leads {spare = spare} ev _ _ (holds {later = later} {w = w} {n = n} along light reads) = leads along (reads later w n (agree_with_itself spare later))
  held_leads ev _ _ (loses along) = falls along

  -- a second part behind one that is held
  pub holds_then : {B : Type 0} {least spare : ℕ} {us : List Var} (ev : List Var → W → ℕ → Gives W Value) (more : Value → List Var → W → ℕ → Gives W B) (g : Gives W Value) (rest : Value → W → ℕ → Gives W B) (e : Ends W) (f : Way W) → least ≤ spare
      → Holds least spare us ev g e
      → ((x : Value) (later : List Var) (w : W) (n : ℕ) → IsLight x → AgreeBelow least us later → Leads spare later (more x) (rest x w n) (f later w n))
      → Leads least us (λ us w n. ev us w n >>= λ x w n. more x us w n) (g >>= rest) (next e f)
  holds_then ev more _ rest _ f le (loses along) second = falls along
  holds_then {B} {least} {spare} {us} ev more _ rest _ f le (holds {later = later} {x = x} {w = w} {n = n} along light reads) second = by (rest x w n) (f later w n) (second x later w n light along)
    where
      by : (g : Gives W B) (e : Ends W) → Leads spare later (more x) g e → Leads least us (λ us w n. ev us w n >>= λ x w n. more x us w n) g e
      by _ _ (leads {later = after} {w = v} {n = m} on is) = leads (agree_on along (agree_within le on)) (ap (λ g. g >>= λ x w n. more x after w n) (reads after v m on) ∙ is)
      by _ _ (falls on) = falls (agree_on along (agree_within le on))

  -- Temporaries

  pub temporary_reads : (s : Site W) (at : Place) (t : ℕ) (us later : List Var) (x : Value) (w : W) (n : ℕ) → IsLight x → AgreeBelow (t + 1) (assigned us t x) later → eval s (PVar at t) later w n ≡ Got x w n
  unfolding eval
  temporary_reads s at t us later x w n light agree =
      let same : local_value later t ≡ x = sym (agree.each t (omega arith)) ∙ assigned_here us t x in
      ap (λ v. told (weighed v) w n) same ∙ ap (λ r. told r w n) (light_weighed x light)

  -- what is given goes into a temporary, which holds it
  pub set_holds : (s : Site W) (at : Place) {least t : ℕ} {us : List Var} (ev : List Var → W → ℕ → Gives W Value) (g : Gives W Value) (e : Ends W) → least ≤ t → GivesLight g → Leads least us ev g e
      → Holds least (t + 1) us (eval s (PVar at t)) g (next e (λ us w n. into_local t us (ev us w n)))
  set_holds s at ev _ _ le light (falls along) = loses along
  set_holds s at {least} {t} {us} ev g _ le light (leads {later = later} {w = w} {n = n} along is) = by (ev later w n) g is light
    where
      given : (g : Gives W Value) → GivesLight g → Holds least (t + 1) us (eval s (PVar at t)) g (into_local t later g)
      given (Got x v m) light = holds (agree_on along (agree_past least t later x le)) light (λ after v m on. temporary_reads s at t later after x v m light on)
      given (Fell f v m) light = loses along

      by : (h g : Gives W Value) → h ≡ g → GivesLight g → Holds least (t + 1) us (eval s (PVar at t)) g (into_local t later h)
      by h g is light = subst (λ h. Holds least (t + 1) us (eval s (PVar at t)) g (into_local t later h)) (sym is) (given g light)

  -- Tests

  -- an expression behind statements
  pub leaf_decides : (s : Site W) {least : ℕ} {us : List Var} (before : List PlainFlatStmt) (r : PlainExpr) (w : W) (n : ℕ) (g : Gives W Value) → Leads least us (eval s r) g (run s before us w n) → Decides least us (λ yes' no'. decide s (FLeaf (flat_stmts_of before) r) yes' no' us w n) g
  unfolding decide
  leaf_decides s {least} {us} before r w n g l = by g (run s before us w n) l
    where
      by : (g : Gives W Value) (e : Ends W) → Leads least us (eval s r) g e → Decides least us (λ yes' no'. next e (λ us w n. with_given us (eval s r us w n) (λ v w n. if is_true v then yes' us w n else no' us w n))) g
      by g _ (leads {later = later} along is) = record { later = later; agree = along; is = λ yes' no'. ap (λ g. with_given later g (λ v w n. if is_true v then yes' later w n else no' later w n)) is }
      by _ _ (falls {later = later} along) = record { later = later; agree = along; is = λ yes' no'. refl }

  pub not_decides : (s : Site W) {least : ℕ} {us : List Var} (test : PlainFlatTest) (w : W) (n : ℕ) (g : Gives W Value) → Decides least us (λ yes' no'. decide s test yes' no' us w n) g
      → Decides least us (λ yes' no'. decide s (FNot test) yes' no' us w n) (g >>= λ v w n. Got (value.Bool (not (is_true v))) w n)
  unfolding decide
  not_decides s test w n g d = record { later = d.later; agree = d.agree; is = λ yes' no'. d.is no' yes' ∙ by g yes' no' }
    where
      turned : (b : Bool) (x y : Ends W) → (if b then y else x) ≡ (if not b then x else y)
      turned true x y = refl
      turned false x y = refl

      by : (g : Gives W Value) (yes' no' : Way W) → with_given d.later g (λ v w n. if is_true v then no' d.later w n else yes' d.later w n) ≡ with_given d.later (g >>= λ v w n. Got (value.Bool (not (is_true v))) w n) (λ v w n. if is_true v then yes' d.later w n else no' d.later w n)
      by (Got v w n) yes' no' = turned (is_true v) (yes' d.later w n) (no' d.later w n)
      by (Fell c w n) yes' no' = refl

  pub no_operand_decides : (s : Site W) (truth : Bool) (least : ℕ) (us : List Var) (w : W) (n : ℕ) → Decides least us (λ yes' no'. decide_each s truth FNoOperand yes' no' us w n) (Got (value.Bool truth) w n)
  unfolding decide
  no_operand_decides s truth least us w n = record { later = us; agree = agree_with_itself least us; is = λ yes' no'. refl }

  -- an operand, and those behind it where it doesn't decide
  pub operand_decides : (s : Site W) (truth : Bool) {least spare : ℕ} {us : List Var} (test : PlainFlatTest) (at : Point) (more : PlainOperands) (w : W) (n : ℕ) (g : Gives W Value) (rest : W → ℕ → Gives W Value) → least ≤ spare
      → Decides least us (λ yes' no'. decide s test yes' no' us w n) g
      → ((later : List Var) (w : W) (n : ℕ) → AgreeBelow least us later → Decides spare later (λ yes' no'. decide_each s truth more yes' no' later w n) (rest w n))
      → Decides least us (λ yes' no'. decide_each s truth (FMoreOperands (FOperand test at) more) yes' no' us w n) (g >>= λ v w n. if same_truth (is_true v) truth then rest w n else Got (value.Bool (not truth)) w n)
  unfolding decide
  operand_decides s truth {least} {spare} {us} test at more w n g rest le d second = by truth g d.is second
    where
      Given : Bool → Gives W Value → Type 0
      Given truth g = Decides least us (λ yes' no'. decide_each s truth (FMoreOperands (FOperand test at) more) yes' no' us w n) g

      on : (truth : Bool) (v : W) (m : ℕ) → Decides spare d.later (λ yes' no'. decide_each s truth more yes' no' d.later v m) (rest v m)
          → ((yes' no' : Way W) → decide_each s truth (FMoreOperands (FOperand test at) more) yes' no' us w n ≡ decide_each s truth more yes' no' d.later v m) → Given truth (rest v m)
      on truth v m e is = record { later = e.later; agree = agree_on d.agree (agree_within le e.agree); is = λ yes' no'. is yes' no' ∙ e.is yes' no' }

      ended : (truth : Bool) (v : W) (m : ℕ) → ((yes' no' : Way W) → decide_each s truth (FMoreOperands (FOperand test at) more) yes' no' us w n ≡ (if truth then no' d.later v m else yes' d.later v m)) → Given truth (Got (value.Bool (not truth)) v m)
      ended true v m is = record { later = d.later; agree = d.agree; is = is }
      ended false v m is = record { later = d.later; agree = d.agree; is = is }

      turn : (b truth : Bool) (v : W) (m : ℕ) → ((yes' no' : Way W) → decide s test yes' no' us w n ≡ (if b then yes' d.later v m else no' d.later v m))
          → ((later : List Var) (w : W) (n : ℕ) → AgreeBelow least us later → Decides spare later (λ yes' no'. decide_each s truth more yes' no' later w n) (rest w n))
          → Given truth (if same_truth b truth then rest v m else Got (value.Bool (not truth)) v m)
      turn true true v m is second = on true v m (second d.later v m d.agree) (λ yes' no'. is (λ us w n. decide_each s true more yes' no' us w n) no')
      turn false true v m is second = ended true v m (λ yes' no'. is (λ us w n. decide_each s true more yes' no' us w n) no')
      turn true false v m is second = ended false v m (λ yes' no'. is yes' (λ us w n. decide_each s false more yes' no' us w n))
      turn false false v m is second = on false v m (second d.later v m d.agree) (λ yes' no'. is yes' (λ us w n. decide_each s false more yes' no' us w n))

      failed : (truth : Bool) (c : Failure) (v : W) (m : ℕ) → ((yes' no' : Way W) → decide s test yes' no' us w n ≡ Fails c d.later v m) → Given truth (Fell c v m)
      failed true c v m is = record { later = d.later; agree = d.agree; is = λ yes' no'. is (λ us w n. decide_each s true more yes' no' us w n) no' }
      failed false c v m is = record { later = d.later; agree = d.agree; is = λ yes' no'. is yes' (λ us w n. decide_each s false more yes' no' us w n) }

      by : (truth : Bool) (g : Gives W Value) → ((yes' no' : Way W) → decide s test yes' no' us w n ≡ with_given d.later g (λ v w n. if is_true v then yes' d.later w n else no' d.later w n))
          → ((later : List Var) (w : W) (n : ℕ) → AgreeBelow least us later → Decides spare later (λ yes' no'. decide_each s truth more yes' no' later w n) (rest w n))
          → Given truth (g >>= λ v w n. if same_truth (is_true v) truth then rest w n else Got (value.Bool (not truth)) w n)
      by truth (Got v x m) is second = turn (is_true v) truth x m is second
      by truth (Fell c x m) is second = failed truth c x m is

  pub and_decides : (s : Site W) {least : ℕ} {us : List Var} (operands : PlainOperands) (w : W) (n : ℕ) (g : Gives W Value) → Decides least us (λ yes' no'. decide_each s true operands yes' no' us w n) g → Decides least us (λ yes' no'. decide s (FAnd operands) yes' no' us w n) g
  unfolding decide
  and_decides s operands w n g d = record { later = d.later; agree = d.agree; is = d.is }

  pub or_decides : (s : Site W) {least : ℕ} {us : List Var} (operands : PlainOperands) (w : W) (n : ℕ) (g : Gives W Value) → Decides least us (λ yes' no'. decide_each s false operands yes' no' us w n) g → Decides least us (λ yes' no'. decide s (FOr operands) yes' no' us w n) g
  unfolding decide
  or_decides s operands w n g d = record { later = d.later; agree = d.agree; is = d.is }

-- Ends that are related

module _ {W : Type 0} {limit least : ℕ} {R : List Var → List Var → Type 0} (carries : Carries limit least R) where
  -- statements, and then one that is made of what is given
  pub leads_related : {B : Type 0} {us vs : List Var} (ev : List Var → W → ℕ → Gives W B) (f : List Var → B → W → ℕ → Ends W) (g : Gives W B) (h : B → W → ℕ → Ends W) (e : Ends W) → R us vs → Leads least us ev g e
      → ((later : List Var) (x : B) (w : W) (n : ℕ) → R later vs → EndsRelated R (f later x w n) (h x w n))
      → EndsRelated R (next e (λ us w n. with_given us (ev us w n) (f us))) (with_given vs g h)
  leads_related {vs = vs} ev f g h _ r (leads {later = later} {w = w} {n = n} along is) rest =
      given_related later vs (ev later w n) g (f later) h (carries.change along r) is (λ x w n. rest later x w n (carries.change along r))
  leads_related ev f _ h _ r (falls along) rest = both_fail (carries.change along r)

  -- a test, and the two ways on
  pub decided_related : {us vs : List Var} (test : Way W → Way W → Ends W) (g : Gives W Value) (yes' no' : Way W) (x y : W → ℕ → Ends W) → R us vs → Decides least us test g
      → ((later : List Var) (w : W) (n : ℕ) → R later vs → EndsRelated R (yes' later w n) (x w n))
      → ((later : List Var) (w : W) (n : ℕ) → R later vs → EndsRelated R (no' later w n) (y w n))
      → EndsRelated R (test yes' no') (with_given vs g (λ v w n. if is_true v then x w n else y w n))
  decided_related {vs = vs} test g yes' no' x y r d first second =
      let along : R d.later vs = carries.change d.agree r in
      subst (λ e. EndsRelated R e (with_given vs g (λ v w n. if is_true v then x w n else y w n))) (sym (d.is yes' no'))
      (given_related d.later vs g g _ _ along refl (λ v w n. either_related (is_true v) _ _ _ _ (first d.later w n along) (second d.later w n along)))

  -- a loop whose test decides by an expression
  pub loop_related : (test : Way W → Way W → Way W) (ev : List Var → W → ℕ → Gives W Value) (f g : Way W) → ((us vs : List Var) (w : W) (n : ℕ) → R us vs → Decides least us (λ yes' no'. test yes' no' us w n) (ev vs w n)) → WaysRelated R f g
      → (most : ℕ) → WaysRelated R (loop_turns most test f) (while_turns most ev g)
  unfolding loop_turns while_turns
  loop_related test ev f g tests bodies zero us vs w n r = both_fail r
  loop_related test ev f g tests bodies (suc most) us vs w n r =
      decided_related (λ yes' no'. test yes' no' us w n) (ev vs w n) _ _ _ _ r (tests us vs w n r)
      (λ later w n along.
      turn_related (stepping later w n (λ n. f later w n)) (stepping vs w n (λ n. g vs w n)) _ _ (step_related later vs w n _ _ along (λ n. bodies later vs w n along)) (loop_related test ev f g tests bodies most))
      (λ later w n along. both_go along)
