-- What code that runs on one record leaves, as it is taken back from its transaction.
use Rattle.std.proofs.Common.{◌≡◌, ◌∙◌, ℕ, Bool, false, ◌||◌, List, [], Option, Some, None, Ok, Err, Result, sym, ap, subst}
use Rattle.std.specs.Prelude.{IfOk, IfSome, is_some, unwrap_or}
use Rattle.std.specs.FinMap as map
use Rattle.std.specs.FinSet as set
use Rattle.py_tree.specs.PlainExpressions.{PlainExpr}
use Rattle.py_tree.specs.PlainStatements.{PlainStmts}
use Rattle.sf_value.specs.Keys.{Key}
use Rattle.sf_value.specs.declared.value.Value.{Value}
use Rattle.sf_value.specs.declared.Outcome.{Outcome}
use Rattle.source_meaning.specs.declared.Stop.{Stop}
use Rattle.source_meaning.specs.declared.Stop.TheVariants as stop
use Rattle.source_meaning.specs.declared.here.Ended.{Ended}
use Rattle.source_meaning.specs.declared.here.Made.{Made}
use Rattle.program_meaning.specs.declared.vars.Var.{Var}
use Rattle.source_meaning.specs.declared.statements.Flow.{Flow}
use Rattle.source_meaning.specs.declared.statements.Flow.TheVariants as flow
use Rattle.program_meaning.specs.ClassTables.{Source}
use Rattle.program_meaning.specs.World.{World, Gives, Got, Fell, Ends, Goes, Returns, Fails, record_at}
use Rattle.program_meaning.specs.Evaluation.{eval}
use Rattle.program_meaning.specs.Execution.{act_all}
use Rattle.program_meaning.specs.Calls.{Held, on_record}
use Rattle.source_meaning.specs.Agrees.{AgreesIn, EndsIn, GivesRecord}
use Rattle.program_meaning.specs.Here.{at_end, GivesHere}
use Rattle.source_meaning.specs.HereAnswers.{EndsHere, EndedAs, ComesTo, MakesHere, MadeAs}
use Rattle.program_meaning.proofs.ViewLaws.{viewed, viewed_end}
use Rattle.program_meaning.proofs.HereLaws.{world_in, end_world, held_in, alone, within, eval_held, acts_held, eval_keeps, acts_keep}

-- the record that was written, or else the one that there was
taken_back : (me : Key) (before : Bool) (fields : List Value) (w : World) (written : Option (List Value))
    → is_some written ≡ set.contains w.writes me → IfSome written (λ new. map.get w.state me ≡ Some new)
    → (set.contains w.writes me ≡ false → record_at w me ≡ fields)
    → held_in me before w ≡ record { fields = unwrap_or written fields; wrote = before || is_some written }
taken_back me before fields w (Some new) among is kept = λ i. record { fields = unwrap_or (is i) []; wrote = before || sym among i }
taken_back me before fields w None among is kept = λ i. record { fields = kept (sym among) i; wrote = before || sym among i }

pub mapped_ok : {A E : Type 0} (r : Result A E) (P Q : A → Type 0) → ((x : A) → P x → Q x) → IfOk r P → IfOk r Q
mapped_ok (Ok x) P Q f h = f x h
mapped_ok (Err e) P Q f h = tt

ends_by : (r : Result Flow Stop) (x : Ended) (vars : List Var) (w : World) (n : ℕ) (e : Ends World) (f : World → Held) (h : Held) → EndedAs r x → EndsIn r vars w n e → (w ≡ end_world e → f w ≡ h) → EndsHere x vars h n (viewed_end f e)
ends_by (Ok flow.On) x vars w n e f h so ends taken = subst (λ y. EndsHere y vars h n (viewed_end f e)) (sym so) (ap (λ l. at_end (viewed_end f l)) ends ∙ ap (λ y. Goes vars y n) (taken (sym (ap end_world ends))))
ends_by (Ok (flow.Gave v)) x vars w n e f h so ends taken = subst (λ y. EndsHere y vars h n (viewed_end f e)) (sym so) (ap (viewed_end f) ends ∙ ap (λ y. Returns v y n) (taken (sym (ap end_world ends))))
ends_by (Ok flow.Broke) x vars w n e f h so ends taken = subst (λ y. EndsHere y vars h n (viewed_end f e)) (sym so) (ap (λ l. at_end (viewed_end f l)) ends ∙ ap (λ y. Goes vars y n) (taken (sym (ap end_world ends))))
ends_by (Ok flow.Continued) x vars w n e f h so ends taken = subst (λ y. EndsHere y vars h n (viewed_end f e)) (sym so) (ap (λ l. at_end (viewed_end f l)) ends ∙ ap (λ y. Goes vars y n) (taken (sym (ap end_world ends))))
ends_by (Err stop.NoMemory) x vars w n e f h so ends taken = absurd so
ends_by (Err (stop.Failed c)) x vars w n e f h so ends taken = subst (λ y. EndsHere y vars h n (viewed_end f e)) (sym so) (ap (viewed_end f) ends ∙ ap (λ y. Fails c vars y n) (taken (sym (ap end_world ends))))

gives_by : (r : Result Value Stop) (x : Outcome) (w : World) (n : ℕ) (g : Gives World Value) (f : World → Held) (h : Held) → ComesTo r x → AgreesIn r w n g → (w ≡ world_in g → f w ≡ h) → GivesHere x h n (viewed f g)
gives_by (Ok v) x w n g f h so gives taken = subst (λ y. GivesHere y h n (viewed f g)) (sym so) (ap (viewed f) gives ∙ ap (λ y. Got v y n) (taken (sym (ap world_in gives))))
gives_by (Err stop.NoMemory) x w n g f h so gives taken = absurd so
gives_by (Err (stop.Failed c)) x w n g f h so gives taken = subst (λ y. GivesHere y h n (viewed f g)) (sym so) (ap (viewed f) gives ∙ ap (λ y. Fell c y n) (taken (sym (ap world_in gives))))

pub made_by : (r : Result (List Value) Stop) (x : Made) (n : ℕ) (g : Gives (List Value) Value) → MadeAs r x → GivesRecord r n g → MakesHere x n g
made_by (Ok fields) x n g so gives = subst (λ y. MakesHere y n g) (sym so) gives
made_by (Err stop.NoMemory) x n g so gives = absurd so
made_by (Err (stop.Failed f)) x n g so gives = subst (λ y. MakesHere y n g) (sym so) gives

module _ (src : Source) (me : Key) (d k : ℕ) (room : k ≡ d) (before : Bool) (fields : List Value) (start w : World) (written : Option (List Value)) (h : Held)
    (began : start ≡ alone me fields)
    (among : is_some written ≡ set.contains w.writes me)
    (is : IfSome written (λ new. map.get w.state me ≡ Some new))
    (back : h ≡ record { fields = unwrap_or written fields; wrote = before || is_some written }) where
  pub acts_here : (xs : PlainStmts) (vars after : List Var) (n m : ℕ) (r : Result Flow Stop) → EndsIn r after w m (act_all (within src me k) xs vars start n) → (x : Ended) → EndedAs r x → EndsHere x after h m (act_all (on_record src me d) xs vars (record { fields = fields; wrote = before }) n)
  acts_here xs vars after n m r ends x so =
      subst (EndsHere x after h m) (sym (acts_held src me d before fields xs vars n))
      (ends_by r x after w m (act_all (within src me d) xs vars (alone me fields) n) (held_in me before) h so
      (subst (λ s. EndsIn r after w m (act_all (within src me d) xs vars s n)) began (subst (λ y. EndsIn r after w m (act_all (within src me y) xs vars start n)) room ends))
      (λ last. taken_back me before fields w written among is (acts_keep src me d fields xs vars n w last) ∙ sym back))

  pub gives_here : (e : PlainExpr) (vars : List Var) (n m : ℕ) (r : Result Value Stop) → AgreesIn r w m (eval (within src me k) e vars start n) → (x : Outcome) → ComesTo r x → GivesHere x h m (eval (on_record src me d) e vars (record { fields = fields; wrote = before }) n)
  gives_here e vars n m r gives x so =
      subst (GivesHere x h m) (sym (eval_held src me d before fields e vars n))
      (gives_by r x w m (eval (within src me d) e vars (alone me fields) n) (held_in me before) h so
      (subst (λ s. AgreesIn r w m (eval (within src me d) e vars s n)) began (subst (λ y. AgreesIn r w m (eval (within src me y) e vars start n)) room gives))
      (λ last. taken_back me before fields w written among is (eval_keeps src me d fields e vars n w last) ∙ sym back))
