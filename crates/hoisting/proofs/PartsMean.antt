-- What holds of the parts that hoisting is made of: what runs before them and what is left to evaluate give what the source gives.
use Rattle.std.proofs.Common.{◌≡◌, ◌≤◌, ◌+◌, ℕ, Bool, true, false, not, Some, None, List, [], ◌∷◌, ◌++◌, if◌then◌else◌, refl, sym, ap, ◌∙◌, subst, true≢false}
use Rattle.std.specs.Prelude.{is_none}
use Rattle.std.specs.declared.option.Option.{Option}
use Rattle.py_tree.specs.declared.names.Place.{Place}
use Rattle.py_tree.specs.PlainTypes.{PlainTy}
use Rattle.py_tree.specs.FlowEnvironment.{PlainLocal}
use Rattle.py_tree.specs.ExpressionTypes.{Function, function_of}
use Rattle.py_tree.specs.Flow.{Context}
use Rattle.py_tree.specs.PlainExpressions.{PlainExpr, PVar, PlainExprs, PNoExpr, PExpr, PlainLink, PLink, PlainLinks, PNoLink, PMoreLinks, links_of}
use Rattle.sf_value.specs.declared.value.Value.{Value}
use Rattle.sf_value.specs.declared.value.Value.TheVariants as value
use Rattle.program_meaning.specs.declared.vars.Var.{Var}
use Rattle.program_meaning.specs.World.{Gives, Got, Fell, ◌>>=◌, told, Ends, Goes, with_given, next}
use Rattle.program_meaning.specs.Operations.{is_true, combined}
use Rattle.program_meaning.specs.Evaluation.{Site, eval, eval_all, linked, each_is, same_truth, applied}
use Rattle.program_meaning.specs.LightValues.{GivesLight}
use Rattle.flat_tree.specs.PlainFlat.{PlainFlatStmt, FSet, FCall, FMake, FIf, FArm, FNoArm, FMoreArms, PlainFlatTest, Point, flat_stmts_of}
use Rattle.flat_tree.specs.FlatMeaning.{Way, into_local, call_gives, creation_gives, run_stmt, decide, run}
use Rattle.flat_tree.proofs.NamesBelow.{AgreeBelow, agree_with_itself}
use Rattle.flat_tree.proofs.SameNames.{behind_same}
use Rattle.flat_tree.proofs.InTurn.{next_nothing, follows_behind, run_in_turn, run_alone, run_last, run_nothing, Leads, leads, falls, Holds, loses, Decides, leads_behind, held_leads, holds_then, holds_from, set_holds}
use Rattle.hoisting.specs.Stages.{Stage, surely, with_temporary, where_shown, callee_of, created_of}
use Rattle.hoisting.specs.HoistExpressions.{Hoisted, Tested, still, if_suspends, taken_into, settled_unless, kept, forms_if, Forms, chosen, call_of, apply_of, chain, ChainPart, so_far, either}
use Rattle.hoisting.proofs.Temporaries.{settled_rises, le_on}

-- nothing runs before what stays
pub nothing_before : {R : Type 0} (b : Bool) (e : R) (h : Stage) (a : Hoisted R) → b ≡ false → (if_suspends b e h a).before ≡ []
nothing_before true e h a is = absurd (true≢false is)
nothing_before false e h a is = refl

pub no_form_before : (b : Bool) (e : PlainExpr) (w : Forms) (wanted : Option PlainTy) (h : Stage) → b ≡ false → ((forms_if b e w).value wanted h).before ≡ []
no_form_before true e w wanted h is = absurd (true≢false is)
no_form_before false e w wanted h is = refl

-- either what is left gives the same from then on, or it gives it there
abbrev pub Stands : {W : Type 0} → Bool → ℕ → ℕ → List Var → (List Var → W → ℕ → Gives W Value) → Gives W Value → Ends W → Type 0
Stands true least spare us ev g e = Holds least spare us ev g e
Stands false least spare us ev g e = Leads least us ev g e

-- what an end goes on with, or else the other
abbrev on_from : {W A : Type 0} → Ends W → (List Var → W → ℕ → A) → A → A
on_from (Goes us w n) f other = f us w n
on_from _ f other = other

module _ {W : Type 0} (s : Site W) where
  -- what is hoisted means what is given
  pub record Means (lasting : Bool) (least : ℕ) (us : List Var) (w : W) (n : ℕ) (g : Gives W Value) (a : Hoisted PlainExpr) : Type 0 where
    pub stands : Stands lasting least a.stage.next us (eval s a.rest) g (run s a.before us w n)

  -- in terms of what is evaluated of the rest
  pub record MeansBy {S B : Type 0} (ev : S → List Var → W → ℕ → Gives W B) (least : ℕ) (us : List Var) (w : W) (n : ℕ) (g : Gives W B) (a : Hoisted S) : Type 0 where
    pub leads : Leads least us (ev a.rest) g (run s a.before us w n)

  pub means_there : (lasting : Bool) {least : ℕ} {us : List Var} (w : W) (n : ℕ) {g : Gives W Value} (a : Hoisted PlainExpr) → Means lasting least us w n g a → Leads least us (eval s a.rest) g (run s a.before us w n)
  means_there true {us = us} w n {g = g} a m = held_leads (eval s a.rest) g (run s a.before us w n) m.stands
  means_there false w n a m = m.stands

  -- with nothing before
  pub means_at_once : (e : PlainExpr) (least : ℕ) (h : Stage) (us : List Var) (w : W) (n : ℕ) (g : Gives W Value) → eval s e us w n ≡ g → Means false least us w n g (still e h)
  unfolding run_stmt
  means_at_once e least h us w n g is = record { stands = leads (agree_with_itself least us) is }

  leads_from_nothing : {B : Type 0} {least : ℕ} {us : List Var} (ev : List Var → W → ℕ → Gives W B) (g : Gives W B) (w : W) (n : ℕ) (xs : List PlainFlatStmt) → xs ≡ [] → Leads least us ev g (run s xs us w n) → ev us w n ≡ g
  leads_from_nothing {B} {least} {us} ev g w n xs none l = by g (Goes us w n) refl (subst (Leads least us ev g) (ap (λ xs. run s xs us w n) none ∙ run_nothing s us w n) l)
    where
      by : (g : Gives W B) (e : Ends W) → e ≡ Goes us w n → Leads least us ev g e → ev us w n ≡ g
      by g _ is (leads {later = later} {w = v} {n = m} agree same) = sym (ap (λ e. on_from e ev g) is) ∙ same
      by _ _ is (falls agree) = absurd (true≢false (sym (ap (λ e. on_from e (λ us w n. true) false) is)))

  -- the value of a statement
  pub taken_means : {S : Type 0} (ev : S → List Var → W → ℕ → Gives W Value) (at : Place) (ty : PlainTy) (f : S → ℕ → PlainFlatStmt) (a : Hoisted S) {least : ℕ} {us : List Var} (w : W) (n : ℕ) {g : Gives W Value} → least ≤ a.stage.next → GivesLight g
      → ((us : List Var) (w : W) (n : ℕ) → run_stmt s (f a.rest a.stage.next) us w n ≡ into_local a.stage.next us (ev a.rest us w n))
      → MeansBy ev least us w n g a → Means true least us w n g (taken_into at ty f a)
  taken_means ev at ty f a {least} {us} w n {g} up light acts m = record {
    stands =
        subst (Holds least (a.stage.next + 1) us (eval s (PVar at a.stage.next)) g) (sym (run_last s a.before (f a.rest a.stage.next) (λ us w n. into_local a.stage.next us (ev a.rest us w n)) us w n acts))
        (set_holds s at (ev a.rest) g (run s a.before us w n) up light m.leads);
  }

  set_acts : (t : ℕ) (e : PlainExpr) (us : List Var) (w : W) (n : ℕ) → run_stmt s (FSet t e) us w n ≡ into_local t us (eval s e us w n)
  unfolding run_stmt
  set_acts t e us w n = refl

  pub settled_means : (lasting : Bool) (at : Place) (ty : PlainTy) (a : Hoisted PlainExpr) {least : ℕ} {us : List Var} (w : W) (n : ℕ) {g : Gives W Value} → least ≤ a.stage.next → GivesLight g → Means lasting least us w n g a → Means true least us w n g (settled_unless lasting at ty a)
  settled_means true at ty a w n up light m = m
  settled_means false at ty a w n up light m = taken_means (λ r us w n. eval s r us w n) at ty (λ r t. FSet t r) a w n up light (set_acts a.stage.next a.rest) (record { leads = m.stands })

  nothing_next : (e : Ends W) → next e (λ us w n. run s [] us w n) ≡ e
  unfolding run_stmt
  nothing_next e = next_nothing e

  -- a part, and one behind it
  pub turn_leads : {S B : Type 0} (later lasting : Bool) (at : Place) (ty : PlainTy) (a : Hoisted PlainExpr) (b : Stage → Hoisted S) (more : S → Value → List Var → W → ℕ → Gives W B) (rest : Value → W → ℕ → Gives W B)
      (least : ℕ) (us : List Var) (w : W) (n : ℕ) (g : Gives W Value) → least ≤ a.stage.next → GivesLight g → Means lasting least us w n g a
      → (later ≡ false → (b a.stage).before ≡ [])
      → ((x : Value) (h : Stage) (after : List Var) (w : W) (n : ℕ) → least ≤ h.next → AgreeBelow least us after → Leads h.next after (more (b h).rest x) (rest x w n) (run s (b h).before after w n))
      → Leads least us (λ us w n. eval s (kept later lasting at ty a).rest us w n >>= λ x w n. more (b (kept later lasting at ty a).stage).rest x us w n) (g >>= rest) (run s ((kept later lasting at ty a).before ++ (b (kept later lasting at ty a).stage).before) us w n)
  turn_leads false lasting at ty a b more rest least us w n g up light m none second =
      subst (Leads least us (λ us w n. eval s a.rest us w n >>= λ x w n. more (b a.stage).rest x us w n) (g >>= rest))
      (sym (run_in_turn s a.before (b a.stage).before us w n ∙ ap (λ xs. next (run s a.before us w n) (λ us w n. run s xs us w n)) (none refl) ∙ nothing_next (run s a.before us w n)))
      (leads_behind (eval s a.rest) (λ x us w n. more (b a.stage).rest x us w n) g rest (run s a.before us w n) (means_there lasting w n a m) (λ x after w n agree.
      leads_from_nothing (more (b a.stage).rest x) (rest x w n) w n (b a.stage).before (none refl) (second x a.stage after w n up agree)))
  turn_leads true lasting at ty a b more rest least us w n g up light m none second =
      let k : Hoisted PlainExpr = settled_unless lasting at ty a in
      let far : least ≤ k.stage.next = le_on up (settled_rises lasting at ty a) in
      subst (Leads least us (λ us w n. eval s k.rest us w n >>= λ x w n. more (b k.stage).rest x us w n) (g >>= rest)) (sym (run_in_turn s k.before (b k.stage).before us w n))
      (holds_then (eval s k.rest) (λ x us w n. more (b k.stage).rest x us w n) g rest (run s k.before us w n) (λ us w n. run s (b k.stage).before us w n) far (settled_means lasting at ty a w n up light m).stands (λ x after w n l agree. second x k.stage after w n far agree))

  -- Calls and creations

  call_acts : (c : Context) (on_ty : PlainTy) (name : ℕ) (r : PlainExpr × PlainExprs) (t : ℕ) (after : Point) (us : List Var) (w : W) (n : ℕ) → run_stmt s (FCall r.0 (callee_of c on_ty name) r.1 t after) us w n ≡ into_local t us (call_gives s r.0 name r.1 us w n)
  unfolding run_stmt
  call_acts c on_ty name r t after us w n = refl

  pub call_means : (c : Context) (b : Bool) (at : Place) (ty on_ty : PlainTy) (name : ℕ) (name_at : Place) (a : Hoisted (PlainExpr × PlainExprs)) {least : ℕ} {us : List Var} (w : W) (n : ℕ) {g : Gives W Value} → least ≤ a.stage.next → GivesLight g
      → MeansBy (λ r us w n. call_gives s r.0 name r.1 us w n) least us w n g a → Means b least us w n g (call_of c b at ty on_ty name name_at a)
  unfolding eval
  call_means c true at ty on_ty name name_at a w n up light m =
      taken_means (λ r us w n. call_gives s r.0 name r.1 us w n) at ty (λ r t. FCall r.0 (callee_of c on_ty name) r.1 t (surely (with_temporary ty a.stage).locals)) a w n up light (call_acts c on_ty name a.rest a.stage.next (surely (with_temporary ty a.stage).locals)) m
  call_means c false at ty on_ty name name_at a w n up light m = record { stands = m.leads }

  make_acts : (c : Context) (name : ℕ) (r : PlainExprs) (t : ℕ) (after : Point) (us : List Var) (w : W) (n : ℕ) → run_stmt s (FMake (created_of c name) r t after) us w n ≡ into_local t us (creation_gives s name r us w n)
  unfolding run_stmt
  make_acts c name r t after us w n = refl

  abbrev pub application : Option Function → ℕ → PlainExprs → List Var → W → ℕ → Gives W Value
  application o name r us w n = eval_all s r [] us w n >>= λ xs w n. applied s o name xs w n

  pub apply_means : (c : Context) (o : Option Function) (at : Place) (ty : PlainTy) (name : ℕ) (a : Hoisted PlainExprs) {least : ℕ} {us : List Var} (w : W) (n : ℕ) {g : Gives W Value} → function_of name ≡ o → least ≤ a.stage.next → GivesLight g
      → MeansBy (application o name) least us w n g a → Means (is_none o) least us w n g (apply_of c (is_none o) at ty name a)
  unfolding eval
  apply_means c None at ty name a w n is up light m =
      taken_means (λ r us w n. creation_gives s name r us w n) at ty (λ r t. FMake (created_of c name) r t (surely (with_temporary ty a.stage).locals)) a w n up light (make_acts c name a.rest a.stage.next (surely (with_temporary ty a.stage).locals)) (record { leads = m.leads })
  apply_means c (Some f) at ty name a {least} {us} w n {g} is up light m = record { stands = subst (λ o. Leads least us (λ us w n. application o name a.rest us w n) g (run s a.before us w n)) (sym is) m.leads }

  -- One of two values

  pub chosen_means : (at : Place) (ty : PlainTy) (locals : List PlainLocal) (test : PlainExpr) (t : Tested PlainFlatTest) (first second : Stage → Hoisted PlainExpr) (least : ℕ) (us : List Var) (w : W) (n : ℕ) (g : Gives W Value) (x y : W → ℕ → Gives W Value)
      → least ≤ t.next → ((h : Stage) → h.next ≤ (first h).stage.next) → ((h : Stage) → h.next ≤ (second h).stage.next)
      → Decides least us (λ yes' no'. decide s t.test yes' no' us w n) g
      → ((w : W) (n : ℕ) → GivesLight (x w n)) → ((w : W) (n : ℕ) → GivesLight (y w n))
      → ((h : Stage) (later : List Var) (w : W) (n : ℕ) → least ≤ h.next → AgreeBelow least us later → Leads h.next later (eval s (first h).rest) (x w n) (run s (first h).before later w n))
      → ((h : Stage) (later : List Var) (w : W) (n : ℕ) → least ≤ h.next → AgreeBelow least us later → Leads h.next later (eval s (second h).rest) (y w n) (run s (second h).before later w n))
      → Means true least us w n (g >>= λ v w n. if is_true v then x w n else y w n) (chosen at ty locals test t first second)
  unfolding run_stmt
  chosen_means at ty locals test t first second least us w n g x y up rise also d light_x light_y leads_x leads_y = record { stands = subst (Holds least (k + 1) us (eval s (PVar at k)) (g >>= λ v w n. if is_true v then x w n else y w n)) (sym (run_alone s branches us w n)) (by g (d.is yes' no')) }
    where
      a : Hoisted PlainExpr
      a = first (where_shown true test locals t.next)

      b : Hoisted PlainExpr
      b = second (where_shown false test locals a.stage.next)

      k : ℕ
      k = b.stage.next

      branches : PlainFlatStmt
      branches =
          FIf (FMoreArms (FArm t.test (surely (where_shown true test locals t.next).locals) (flat_stmts_of (a.before ++ FSet k a.rest ∷ [])) (surely (where_shown false test locals a.stage.next).locals)) FNoArm) (flat_stmts_of (b.before ++ FSet k b.rest ∷ []))
          (Some (surely (with_temporary ty (record { locals = locals; next = k })).locals))

      yes' : Way W
      yes' = λ us w n. run s (a.before ++ FSet k a.rest ∷ []) us w n

      no' : Way W
      no' = λ us w n. run s (b.before ++ FSet k b.rest ∷ []) us w n

      from_a : t.next ≤ a.stage.next
      from_a = rise (where_shown true test locals t.next)

      from_b : a.stage.next ≤ k
      from_b = also (where_shown false test locals a.stage.next)

      turn : (c : Bool) (v : W) (m : ℕ) → run_stmt s branches us w n ≡ (if c then yes' d.later v m else no' d.later v m) → Holds least (k + 1) us (eval s (PVar at k)) (if c then x v m else y v m) (run_stmt s branches us w n)
      turn true v m is =
          subst (Holds least (k + 1) us (eval s (PVar at k)) (x v m)) (sym (is ∙ run_last s a.before (FSet k a.rest) (λ us w n. into_local k us (eval s a.rest us w n)) d.later v m (set_acts k a.rest)))
          (holds_from (eval s (PVar at k)) (x v m) _ up d.agree (set_holds s at (eval s a.rest) (x v m) (run s a.before d.later v m) (le_on from_a from_b) (light_x v m) (leads_x (where_shown true test locals t.next) d.later v m up d.agree)))
      turn false v m is =
          subst (Holds least (k + 1) us (eval s (PVar at k)) (y v m)) (sym (is ∙ run_last s b.before (FSet k b.rest) (λ us w n. into_local k us (eval s b.rest us w n)) d.later v m (set_acts k b.rest)))
          (holds_from (eval s (PVar at k)) (y v m) _ (le_on up from_a) d.agree (set_holds s at (eval s b.rest) (y v m) (run s b.before d.later v m) from_b (light_y v m) (leads_y (where_shown false test locals a.stage.next) d.later v m (le_on up from_a) d.agree)))

      by : (g : Gives W Value) → run_stmt s branches us w n ≡ with_given d.later g (λ v w n. if is_true v then yes' d.later w n else no' d.later w n) → Holds least (k + 1) us (eval s (PVar at k)) (g >>= λ v w n. if is_true v then x w n else y w n) (run_stmt s branches us w n)
      by (Got v z m) is = turn (is_true v) z m is
      by (Fell f z m) is = subst (Holds least (k + 1) us (eval s (PVar at k)) (Fell f z m)) (sym is) (loses d.agree)

  -- the truth of operands, as a value
  pub truth_again : (truth : Bool) (es : PlainExprs) (vs : List Var) (w : W) (n : ℕ) → (each_is s truth es vs w n >>= λ v w n. if is_true v then Got (value.Bool true) w n else Got (value.Bool false) w n) ≡ each_is s truth es vs w n
  unfolding eval
  truth_again true PNoExpr vs w n = refl
  truth_again false PNoExpr vs w n = refl
  truth_again truth (PExpr x xs) vs w n = follows_behind (eval s x vs w n) _ _ ∙ behind_same (eval s x vs w n) _ _ (λ v w n. by (same_truth (is_true v) truth) truth w n (truth_again truth xs vs w n))
    where
      by : (b truth : Bool) (w : W) (n : ℕ) → (each_is s truth xs vs w n >>= λ v w n. if is_true v then Got (value.Bool true) w n else Got (value.Bool false) w n) ≡ each_is s truth xs vs w n
          → ((if b then each_is s truth xs vs w n else Got (value.Bool (not truth)) w n) >>= λ v w n. if is_true v then Got (value.Bool true) w n else Got (value.Bool false) w n) ≡ (if b then each_is s truth xs vs w n else Got (value.Bool (not truth)) w n)
      by true truth w n rest = rest
      by false true w n rest = refl
      by false false w n rest = refl

  -- Runs of operators

  -- one link behind others is evaluated behind them
  links_behind : (ls : List PlainLink) (l : PlainLink) (v : Value) (us : List Var) (w : W) (n : ℕ) → linked s (links_of (ls ++ l ∷ [])) v us w n ≡ (linked s (links_of ls) v us w n >>= λ v w n. linked s (PMoreLinks l PNoLink) v us w n)
  unfolding eval
  links_behind [] l v us w n = refl
  links_behind (PLink op at right ∷ ls) l v us w n =
      behind_same (eval s right us w n) _ _ (λ x w n. behind_same (told (combined op v x) w n) _ _ (λ both w n. links_behind ls l both us w n) ∙ sym (follows_behind (told (combined op v x) w n) _ _))
      ∙ sym (follows_behind (eval s right us w n) _ _)

  pub chain_behind : (at : Place) (left : PlainExpr) (ls : List PlainLink) (l : PlainLink) (us : List Var) (w : W) (n : ℕ) → eval s (chain at left (ls ++ l ∷ [])) us w n ≡ (eval s (chain at left ls) us w n >>= λ v w n. linked s (PMoreLinks l PNoLink) v us w n)
  unfolding eval
  chain_behind at left [] l us w n = refl
  chain_behind at left (k ∷ ls) l us w n = behind_same (eval s left us w n) _ _ (λ v w n. links_behind (k ∷ ls) l v us w n) ∙ sym (follows_behind (eval s left us w n) _ _)

  pub link_then_more : (l : PlainLink) (more : PlainLinks) (g : Gives W Value) (us : List Var) → ((g >>= λ v w n. linked s (PMoreLinks l PNoLink) v us w n) >>= λ v w n. linked s more v us w n) ≡ (g >>= λ v w n. linked s (PMoreLinks l more) v us w n)
  unfolding eval
  link_then_more (PLink op at right) more g us =
      follows_behind g _ _ ∙ behind_same g _ _ (λ v w n. follows_behind (eval s right us w n) _ _ ∙ behind_same (eval s right us w n) _ _ (λ x w n. follows_behind (told (combined op v x) w n) _ _))

  -- a run so far means what is given
  pub record ChainMeans (at : Place) (r : ChainPart) (least : ℕ) (us : List Var) (w : W) (n : ℕ) (g : Gives W Value) : Type 0 where
    pub up : least ≤ r.stage.next
    pub means : Means r.lasting least us w n g (so_far at r)

  pub either_means : (b : Bool) (at : Place) (r q : ChainPart) {least : ℕ} {us : List Var} (w : W) (n : ℕ) {g : Gives W Value} → (b ≡ true → ChainMeans at r least us w n g) → (b ≡ false → ChainMeans at q least us w n g) → ChainMeans at (either b r q) least us w n g
  either_means true at r q w n first second = first refl
  either_means false at r q w n first second = second refl
