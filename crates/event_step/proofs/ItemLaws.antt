-- Items run one after another, as the code runs them.
use Rattle.std.proofs.Common.{◌≡◌, ◌<◌, ◌≤◌, ◌+◌, ℕ, suc, true, Option, Some, None, List, [], ◌∷◌, drop, get_or, length, refl, sym, ap, ◌∙◌, subst, add-one, drop-cons}
use Rattle.std.proofs.lemmas.List.{drop_all}
use Rattle.py_tree.specs.PlainExpressions.{PlainExpr}
use Rattle.py_tree.specs.PlainStatements.{PlainStmts}
use Rattle.sf_value.specs.declared.Failure.{Failure}
use Rattle.sf_value.specs.declared.Outcome.{Outcome}
use Rattle.sf_value.specs.declared.Outcome.TheVariants as outcome
use Rattle.sf_value.specs.declared.value.Record.{Record}
use Rattle.sf_value.specs.declared.value.Value.{Value}
use Rattle.program_meaning.specs.declared.vars.Var.{Var}
use Rattle.program_meaning.specs.ClassTables.{fields_of}
use Rattle.program_meaning.specs.World.{Gives, Got, Fell, ◌>>=◌, Ends, Goes, Returns, Breaks, Continues, Fails, next, step, step_limit, failure, with_given, assigned, with_field}
use Rattle.program_meaning.specs.Operations.{text_of}
use Rattle.program_meaning.specs.Evaluation.{Site}
use Rattle.program_meaning.specs.Execution.{message, act_all}
use Rattle.program_meaning.specs.Sources.{source_of}
use Rattle.program_meaning.specs.Calls.{Held}
use Rattle.block_code.specs.declared.item.Item.{Item}
use Rattle.block_code.specs.PlainBlocks.{PlainItem, IMark, ISet, IPut, IGive, IFail, ICode, plain_item, plain_items}
use Rattle.block_runs.specs.BlockRuns.{run_item, run_items}
use Rattle.source_meaning.specs.declared.here.Ended.{Ended}
use Rattle.source_meaning.specs.declared.here.Ended.TheVariants as ended
use Rattle.source_meaning.specs.HereAnswers.{EndsHere}
use Rattle.event_step.specs.declared.method.Place.{Place}
use Rattle.event_step.specs.declared.method.Running.{Running}
use Rattle.event_step.specs.Running.{site_of, held_of, StepTaken}
use Rattle.event_step.specs.Values.{GivesNow, value_at}
use Rattle.event_step.specs.ItemEnds.{EndsSo, EndsNow, item_at}

-- what ends code, ends it where no loop outside is left
pub ends_so : (x : Ended) (vars : List Var) (h : Held) (n : ℕ) (e : Ends Held) → EndsHere x vars h n e → EndsSo x vars h n e
ends_so x vars h n (Goes us g m) p = p
ends_so x vars h n (Returns v g m) p = p
ends_so x vars h n (Breaks us g m) p = tt
ends_so x vars h n (Continues us g m) p = tt
ends_so x vars h n (Fails f us g m) p = p

-- Items one by one

module _ (place : Place) (before : Running) where
  -- with other steps left
  abbrev stepped : ℕ → Running
  stepped n = record { held = before.held; wrote = before.wrote; vars = before.vars; steps = n }

  pub mark_goes : (after : ℕ) (o : Option Failure) → o ≡ None → StepTaken o before.steps after → EndsNow ended.On (stepped after) (item_at place IMark before)
  unfolding run_item
  mark_goes after o is taken =
      let one : before.steps ≡ suc after = subst (λ o. StepTaken o before.steps after) is taken in
      subst (λ n. EndsSo ended.On before.vars (held_of before) after (step n (Fails step_limit before.vars (held_of before) n) (λ n. Goes before.vars (held_of before) n))) (sym one) refl

  pub mark_fails : (after : ℕ) (o : Option Failure) (f : Failure) → o ≡ Some f → StepTaken o before.steps after → EndsNow (ended.Failed f) (stepped after) (item_at place IMark before)
  unfolding run_item
  mark_fails after o f is taken =
      let none : (before.steps ≡ 0) × (after ≡ 0) × (f ≡ step_limit) = subst (λ o. StepTaken o before.steps after) is taken in
      subst (λ n. EndsSo (ended.Failed f) before.vars (held_of before) after (step n (Fails step_limit before.vars (held_of before) n) (λ n. Goes before.vars (held_of before) n))) (sym none.0)
      (λ i. Fails (sym none.2 i) before.vars (held_of before) (sym none.1 i))

  pub fail_bare : (kind : ℕ) (f : Failure) → f ≡ failure kind → EndsNow (ended.Failed f) before (item_at place (IFail kind None) before)
  unfolding run_item message
  fail_bare kind f is = ap (λ e. Fails e before.vars (held_of before) before.steps) (sym is)

  pub code_ends : (code : PlainStmts) (x : Ended) (r : Running) → EndsHere x r.vars (held_of r) r.steps (act_all (site_of place) code before.vars (held_of before) before.steps) → EndsNow x r (item_at place (ICode code) before)
  unfolding run_item
  code_ends code x r ends = ends_so x r.vars (held_of r) r.steps (act_all (site_of place) code before.vars (held_of before) before.steps) ends

  -- what an expression gave, and where the method then is
  module _ (r : Running) (same : r.vars ≡ before.vars) (e : PlainExpr) (o : Outcome) (gives : GivesNow o r (value_at place e before)) where
    given : (v : Value) → o ≡ outcome.Value v → value_at place e before ≡ Got v (held_of r) r.steps
    given v is = subst (λ o. GivesNow o r (value_at place e before)) is gives

    fell : (f : Failure) → o ≡ outcome.Failed f → value_at place e before ≡ Fell f (held_of r) r.steps
    fell f is = subst (λ o. GivesNow o r (value_at place e before)) is gives

    fails_with : {A : Type 0} (g : Gives Held A) (rest : A → Held → ℕ → Ends Held) (f : Failure) → g ≡ Fell f (held_of r) r.steps → EndsNow (ended.Failed f) r (with_given before.vars g rest)
    fails_with g rest f is = subst (λ g. EndsNow (ended.Failed f) r (with_given before.vars g rest)) (sym is) (ap (λ us. Fails f us (held_of r) r.steps) (sym same))

    pub set_goes : (x : ℕ) (v : Value) (vars : List Var) → o ≡ outcome.Value v → vars ≡ assigned r.vars x v → EndsNow ended.On (record { held = r.held; wrote = r.wrote; vars = vars; steps = r.steps }) (item_at place (ISet x e) before)
    unfolding run_item
    set_goes x v vars is put =
        subst (λ g. EndsSo ended.On vars (held_of r) r.steps (with_given before.vars g (λ v w n. Goes (assigned before.vars x v) w n))) (sym (given v is))
        (ap (λ us. Goes us (held_of r) r.steps) (ap (λ us. assigned us x v) (sym same) ∙ sym put))

    pub set_fails : (x : ℕ) (f : Failure) → o ≡ outcome.Failed f → EndsNow (ended.Failed f) r (item_at place (ISet x e) before)
    unfolding run_item
    set_fails x f is = fails_with (value_at place e before) _ f (fell f is)

    pub put_goes : (x : ℕ) (v : Value) (held : Record) → o ≡ outcome.Value v → held.fields ≡ with_field (fields_of (source_of place.program.now) place.me.now.class) r.held.fields x v
        → EndsNow ended.On (record { held = held; wrote = true; vars = r.vars; steps = r.steps }) (item_at place (IPut x e) before)
    unfolding run_item
    put_goes x v held is put =
        subst
        (λ g. EndsSo ended.On r.vars (record { fields = held.fields; wrote = true }) r.steps
        (with_given before.vars g (λ v w n. Goes before.vars (record { fields = with_field (fields_of (source_of place.program.now) place.me.now.class) w.fields x v; wrote = true }) n)))
        (sym (given v is)) (λ i. Goes (sym same i) (record { fields = sym put i; wrote = true }) r.steps)

    pub put_fails : (x : ℕ) (f : Failure) → o ≡ outcome.Failed f → EndsNow (ended.Failed f) r (item_at place (IPut x e) before)
    unfolding run_item
    put_fails x f is = fails_with (value_at place e before) _ f (fell f is)

    pub give_returns : (v : Value) → o ≡ outcome.Value v → EndsNow (ended.Returned v) r (item_at place (IGive e) before)
    unfolding run_item
    give_returns v is = subst (λ g. EndsNow (ended.Returned v) r (with_given before.vars g (λ v w n. Returns v w n))) (sym (given v is)) refl

    pub give_fails : (f : Failure) → o ≡ outcome.Failed f → EndsNow (ended.Failed f) r (item_at place (IGive e) before)
    unfolding run_item
    give_fails f is = fails_with (value_at place e before) _ f (fell f is)

    abbrev noted : Gives Held Value → Gives Held (List ℕ)
    noted g = g >>= λ v w n. Got (text_of v) w n

    pub fail_noted : (kind : ℕ) (v : Value) (text : List ℕ) → o ≡ outcome.Value v → text ≡ text_of v → EndsNow (ended.Failed (record { kind = kind; message = text })) r (item_at place (IFail kind (Some e)) before)
    unfolding run_item message
    fail_noted kind v text is reads =
        subst (λ g. EndsNow (ended.Failed (record { kind = kind; message = text })) r (with_given before.vars (noted g) (λ text w n. Fails (record { kind = kind; message = text }) before.vars w n))) (sym (given v is))
        (λ i. Fails (record { kind = kind; message = sym reads i }) (sym same i) (held_of r) r.steps)

    pub fail_fails : (kind : ℕ) (f : Failure) → o ≡ outcome.Failed f → EndsNow (ended.Failed f) r (item_at place (IFail kind (Some e)) before)
    unfolding run_item message
    fail_fails kind f is = fails_with (noted (value_at place e before)) _ f (ap noted (fell f is))

-- Items in turn

-- how the one ends, so does the other
pub record LeadsTo (now before : Ends Held) : Type 0 where
  pub by : (x : Ended) (vars : List Var) (h : Held) (n : ℕ) → EndsSo x vars h n now → EndsSo x vars h n before

pub leads_here : (e : Ends Held) → LeadsTo e e
leads_here e = record { by = λ x vars h n p. p }

pub leads_on : {a b c : Ends Held} → LeadsTo a b → LeadsTo b c → LeadsTo a c
leads_on p q = record { by = λ x vars h n so. q.by x vars h n (p.by x vars h n so) }

-- an item that goes on
goes_next : (s : Site Held) (is : List PlainItem) (e : Ends Held) (vars : List Var) (h : Held) (n : ℕ) → EndsSo ended.On vars h n e → LeadsTo (run_items s is vars h n) (next e (λ vars w n. run_items s is vars w n))
goes_next s is (Goes us g m) vars h n so = subst (λ e. LeadsTo (run_items s is vars h n) (next e (λ vars w n. run_items s is vars w n))) (sym so) (leads_here (run_items s is vars h n))
goes_next s is (Returns v g m) vars h n so = absurd cc
goes_next s is (Breaks us g m) vars h n so = record { by = λ x vs k l p. tt }
goes_next s is (Continues us g m) vars h n so = record { by = λ x vs k l p. tt }
goes_next s is (Fails f us g m) vars h n so = absurd cc

-- one that returns, or fails
returns_next : (f : List Var → Held → ℕ → Ends Held) (e : Ends Held) (v : Value) (vars : List Var) (h : Held) (n : ℕ) → EndsSo (ended.Returned v) vars h n e → EndsSo (ended.Returned v) vars h n (next e f)
returns_next f (Goes us g m) v vars h n so = absurd cc
returns_next f (Returns u g m) v vars h n so = so
returns_next f (Breaks us g m) v vars h n so = tt
returns_next f (Continues us g m) v vars h n so = tt
returns_next f (Fails e us g m) v vars h n so = absurd cc

fails_next : (f : List Var → Held → ℕ → Ends Held) (e : Ends Held) (x : Failure) (vars : List Var) (h : Held) (n : ℕ) → EndsSo (ended.Failed x) vars h n e → EndsSo (ended.Failed x) vars h n (next e f)
fails_next f (Goes us g m) x vars h n so = absurd cc
fails_next f (Returns u g m) x vars h n so = absurd cc
fails_next f (Breaks us g m) x vars h n so = tt
fails_next f (Continues us g m) x vars h n so = tt
fails_next f (Fails e us g m) x vars h n so = so

items_from : (is : List Item) (k : ℕ) (i : Item) → k < length is → i ≡ get_or is k i → plain_items (drop k is) ≡ plain_item i ∷ plain_items (drop (k + 1) is)
items_from is k i lt at =
    let cut : drop k is ≡ get_or is k i ∷ drop (k + 1) is = rw (add-one, drop-cons is k i) in
    ap plain_items cut ∙ ap (λ j. plain_item j ∷ plain_items (drop (k + 1) is)) (sym at)

module _ (s : Site Held) (is : List Item) (k : ℕ) (i : Item) (lt : k < length is) (at : i ≡ get_or is k i) (vars : List Var) (h : Held) (n : ℕ) where
  cut : run_items s (plain_items (drop k is)) vars h n ≡ next (run_item s (plain_item i) vars h n) (λ vars w n. run_items s (plain_items (drop (k + 1) is)) vars w n)
  unfolding run_items
  cut = ap (λ l. run_items s l vars h n) (items_from is k i lt at)

  pub item_goes : (us : List Var) (g : Held) (m : ℕ) → EndsSo ended.On us g m (run_item s (plain_item i) vars h n) → LeadsTo (run_items s (plain_items (drop (k + 1) is)) us g m) (run_items s (plain_items (drop k is)) vars h n)
  item_goes us g m so = subst (LeadsTo (run_items s (plain_items (drop (k + 1) is)) us g m)) (sym cut) (goes_next s (plain_items (drop (k + 1) is)) (run_item s (plain_item i) vars h n) us g m so)

  pub item_returns : (v : Value) (us : List Var) (g : Held) (m : ℕ) → EndsSo (ended.Returned v) us g m (run_item s (plain_item i) vars h n) → EndsSo (ended.Returned v) us g m (run_items s (plain_items (drop k is)) vars h n)
  item_returns v us g m so = subst (EndsSo (ended.Returned v) us g m) (sym cut) (returns_next _ (run_item s (plain_item i) vars h n) v us g m so)

  pub item_fails : (f : Failure) (us : List Var) (g : Held) (m : ℕ) → EndsSo (ended.Failed f) us g m (run_item s (plain_item i) vars h n) → EndsSo (ended.Failed f) us g m (run_items s (plain_items (drop k is)) vars h n)
  item_fails f us g m so = subst (EndsSo (ended.Failed f) us g m) (sym cut) (fails_next _ (run_item s (plain_item i) vars h n) f us g m so)

pub no_item_left : (s : Site Held) (is : List Item) (k : ℕ) (vars : List Var) (h : Held) (n : ℕ) → length is ≤ k → EndsSo ended.On vars h n (run_items s (plain_items (drop k is)) vars h n)
unfolding run_items
no_item_left s is k vars h n le =
    let none : drop k is ≡ [] = drop_all k is le in
    subst (λ l. EndsSo ended.On vars h n (run_items s (plain_items l) vars h n)) (sym none) refl
