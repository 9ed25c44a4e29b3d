-- Code that doesn't suspend, on the whole state and on the record of its entity.
use Rattle.std.proofs.Common.{◌≡◌, ◌∙◌, ℕ, zero, suc, Bool, true, false, ◌||◌, cond, List, [], Some, refl, sym, ap, subst}
use Rattle.std.specs.Prelude.{slice_get, unwrap_or}
use Rattle.std.specs.FinMap as map
use Rattle.std.specs.FinSet as set
use Rattle.std.specs.Ordering.{eq_by_cmp}
use Rattle.std.specs.Cmp.{eq_by_cmp_equiv}
use Rattle.py_tree.specs.PlainExpressions.{PlainExpr}
use Rattle.py_tree.specs.PlainStatements.{PlainStmts}
use Rattle.call_graph.specs.SuspendingCode.{Leaving, expr_suspends, stmts_suspend}
use Rattle.sf_value.specs.Keys.{Key, key_cmp}
use Rattle.sf_value.specs.declared.value.Value.{Value}
use Rattle.sf_value.proofs.Maps.{key_total, key_exact}
use Rattle.program_meaning.specs.declared.vars.Var.{Var}
use Rattle.program_meaning.specs.ClassTables.{Source, methods_of}
use Rattle.program_meaning.specs.World.{State, Keys, World, Own, Gives, Got, Fell, Ends, Goes, Returns, Breaks, Continues, Fails, no_entity, record_at, reading, writing}
use Rattle.program_meaning.specs.Evaluation.{Site, eval, method_of}
use Rattle.program_meaning.specs.Execution.{act_all}
use Rattle.program_meaning.specs.Calls.{Held, own_held, own_at, in_state, on_record, calls_at, calls_within, run_body, enter, if_there}
use Rattle.program_meaning.specs.HereInState.{KeepsWithin, left_by, IsSeen, GivesAlike, got, fell, EndsAlike, goes, returns, breaks, continues, fails, ExpressionsAlike, StatementsAlike}
use Rattle.program_meaning.proofs.ViewLaws.{viewed, viewed_end, eval_within, acts_within}
use Rattle.program_meaning.proofs.QuietViews.{eval_quiet, acts_quiet, body_quiet}

-- What is written again

same_tie : (k : Key) → eq_by_cmp key_cmp k k ≡ true
same_tie k = (eq_by_cmp_equiv key_total).refl k

or_twice : (a b : Bool) → (a || (a || b)) ≡ (a || b)
or_twice true b = refl
or_twice false b = refl

cond_twice : {A : Type 0} (c : Bool) (x y z : A) → cond c x (cond c y z) ≡ cond c x z
cond_twice true x y z = refl
cond_twice false x y z = refl

pub added_twice : (s : Keys) (k : Key) → set.insert (set.insert s k) k ≡ set.insert s k
added_twice s k = set.same_set key_total key_exact _ _ (λ q.
    set.contains-insert key_total (set.insert s k) k q
    ∙ ap (λ b. eq_by_cmp key_cmp q k || b) (set.contains-insert key_total s k q)
    ∙ or_twice (eq_by_cmp key_cmp q k) (set.contains s q)
    ∙ sym (set.contains-insert key_total s k q))

put_twice : (s : State) (k : Key) (x y : List Value) → map.insert (map.insert s k x) k y ≡ map.insert s k y
put_twice s k x y = map.same_map key_total key_exact _ _ (λ q.
    map.get-insert key_total (map.insert s k x) k y q
    ∙ ap (λ o. cond (eq_by_cmp key_cmp q k) (Some y) o) (map.get-insert key_total s k x q)
    ∙ cond_twice (eq_by_cmp key_cmp q k) (Some y) (Some x) (map.get s q)
    ∙ sym (map.get-insert key_total s k y q))

written_twice : (w : World) (me : Key) (x y : List Value) → writing (writing w me x) me y ≡ writing w me y
written_twice w me x y = λ i. record { state = put_twice w.state me x y i; reads = w.reads; writes = added_twice w.writes me i }

pub written_there : (w : World) (me : Key) (x : List Value) → map.get (writing w me x).state me ≡ Some x
written_there w me x = map.get-insert key_total w.state me x me ∙ ap (λ b. cond b (Some x) (map.get w.state me)) (same_tie me)

abbrev reads_of : World → Keys
reads_of w = w.reads

pub written_read : (w : World) (me : Key) (x : List Value) → reading w me ≡ w → reading (writing w me x) me ≡ writing w me x
written_read w me x read = ap (λ keys. record { state = map.insert w.state me x; reads = keys; writes = set.insert w.writes me }) (ap reads_of read)

left_again : (wrote : Bool) (start : World) (me : Key) (x y : List Value) → writing (left_by me start (record { fields = x; wrote = wrote })) me y ≡ writing start me y
left_again true start me x y = written_twice start me x y
left_again false start me x y = refl

put_seen : (start : World) (me : Key) (w : World) (h : Held) (fields : List Value) → IsSeen me start w h → IsSeen me start (writing w me fields) (record { fields = fields; wrote = true })
put_seen start me w h fields seen = record {
  left = ap (λ w. writing w me fields) seen.left ∙ left_again h.wrote start me h.fields fields;
  there = written_there w me fields;
  read = written_read w me fields seen.read;
}

-- The two at once

-- a world with the record as the code has it
record Both (me : Key) (start : World) : Type 0 where
  world : World
  held : Held
  seen : IsSeen me start world held

module _ (src : Source) (me : Key) (leaves : Leaving) (keeps : KeepsWithin src me.0 leaves) (start : World) where
  abbrev B : Type 0
  B = Both me start

  abbrev own_both : Own B
  own_both = record {
    fields = λ b. b.held.fields;
    put = λ b fields. record { world = writing b.world me fields; held = record { fields = fields; wrote = true }; seen = put_seen start me b.world b.held fields b.seen };
  }

  abbrev both : ℕ → Site B
  both d = record { src = src; own = own_both; calls = calls_within own_both src me d; me = me }

  fields_there : (b : B) → record_at b.world me ≡ b.held.fields
  fields_there b = ap (λ o. unwrap_or o []) b.seen.there

  -- a call that stays does on the state what it does on both
  abbrev Called : ℕ → Type 0
  Called d = (on : PlainExpr) (name : ℕ) → leaves on name ≡ false → (args : List Value) (b : B) (n : ℕ)
      → (calls_at src d).call me (method_of src me.0 name) args b.world n ≡ viewed (λ b. b.world) ((calls_within own_both src me d).call me (method_of src me.0 name) args b n)

  entered : (d : ℕ) → Called d → (on : PlainExpr) (name : ℕ) → leaves on name ≡ false → (args : List Value) (b : B) (n : ℕ)
      → enter src (calls_at src d) me (method_of src me.0 name) args b.world n ≡ viewed (λ b. b.world) (run_body (both d) (slice_get (methods_of src me.0) (method_of src me.0 name)) args b n)
  unfolding enter
  entered d called on name stays args b n =
      ap (λ o. if_there o (Fell no_entity (reading b.world me) n) (run_body (in_state src (calls_at src d) me) (slice_get (methods_of src me.0) (method_of src me.0 name)) args (reading b.world me) n)) b.seen.there
      ∙ ap (λ w. run_body (in_state src (calls_at src d) me) (slice_get (methods_of src me.0) (method_of src me.0 name)) args w n) b.seen.read
      ∙ body_quiet (λ b. b.world) leaves src me own_both (own_at me) (calls_within own_both src me d) (calls_at src d) fields_there (λ b fields. refl) keeps.selves called
      (slice_get (methods_of src me.0) (method_of src me.0 name)) (keeps.bodies on name stays) args b n

  called : (d : ℕ) → Called d
  unfolding calls_at calls_within
  called zero on name stays args b zero = refl
  called zero on name stays args b (suc n) = refl
  called (suc d) on name stays args b zero = refl
  called (suc d) on name stays args b (suc n) = entered d (called d) on name stays args b n

  eval_both : (d : ℕ) (e : PlainExpr) → expr_suspends leaves e ≡ false → (vars : List Var) (b : B) (n : ℕ) → eval (in_state src (calls_at src d) me) e vars b.world n ≡ viewed (λ b. b.world) (eval (both d) e vars b n)
  eval_both d e q vars b n = eval_quiet (λ b. b.world) leaves src me own_both (own_at me) (calls_within own_both src me d) (calls_at src d) fields_there (λ b fields. refl) keeps.selves (called d) e q vars b n

  acts_both : (d : ℕ) (xs : PlainStmts) → stmts_suspend leaves xs ≡ false → (vars : List Var) (b : B) (n : ℕ) → act_all (in_state src (calls_at src d) me) xs vars b.world n ≡ viewed_end (λ b. b.world) (act_all (both d) xs vars b n)
  acts_both d xs q vars b n = acts_quiet (λ b. b.world) leaves src me own_both (own_at me) (calls_within own_both src me d) (calls_at src d) fields_there (λ b fields. refl) keeps.selves (called d) xs q vars b n

  eval_here : (d : ℕ) (e : PlainExpr) (vars : List Var) (b : B) (n : ℕ) → eval (on_record src me d) e vars b.held n ≡ viewed (λ b. b.held) (eval (both d) e vars b n)
  eval_here d e vars b n = eval_within (λ b. b.held) src me own_both own_held (λ b. refl) (λ b fields. refl) d e vars b n

  acts_here : (d : ℕ) (xs : PlainStmts) (vars : List Var) (b : B) (n : ℕ) → act_all (on_record src me d) xs vars b.held n ≡ viewed_end (λ b. b.held) (act_all (both d) xs vars b n)
  acts_here d xs vars b n = acts_within (λ b. b.held) src me own_both own_held (λ b. refl) (λ b fields. refl) d xs vars b n

-- both views of one run
gives_views : {A : Type 0} (me : Key) (start : World) (g : Gives (Both me start) A) → GivesAlike me start (viewed (λ b. b.world) g) (viewed (λ b. b.held) g)
gives_views me start (Got x b n) = got b.seen
gives_views me start (Fell f b n) = fell b.seen

ends_views : (me : Key) (start : World) (e : Ends (Both me start)) → EndsAlike me start (viewed_end (λ b. b.world) e) (viewed_end (λ b. b.held) e)
ends_views me start (Goes vars b n) = goes b.seen
ends_views me start (Returns v b n) = returns b.seen
ends_views me start (Breaks vars b n) = breaks b.seen
ends_views me start (Continues vars b n) = continues b.seen
ends_views me start (Fails f vars b n) = fails b.seen

gives_as : {A : Type 0} (me : Key) (start : World) (g k : Gives World A) (h l : Gives Held A) → g ≡ k → h ≡ l → GivesAlike me start k l → GivesAlike me start g h
gives_as me start g k h l first second alike = subst (λ x. GivesAlike me start x h) (sym first) (subst (λ y. GivesAlike me start k y) (sym second) alike)

ends_as : (me : Key) (start : World) (g k : Ends World) (h l : Ends Held) → g ≡ k → h ≡ l → EndsAlike me start k l → EndsAlike me start g h
ends_as me start g k h l first second alike = subst (λ x. EndsAlike me start x h) (sym first) (subst (λ y. EndsAlike me start k y) (sym second) alike)

pub expressions_alike : ExpressionsAlike
expressions_alike src me leaves keeps d start w h seen e q vars n =
    let b : Both me start = record { world = w; held = h; seen = seen } in
    gives_as me start _ _ _ _ (eval_both src me leaves keeps start d e q vars b n) (eval_here src me leaves keeps start d e vars b n) (gives_views me start (eval (both src me leaves keeps start d) e vars b n))

pub statements_alike : StatementsAlike
statements_alike src me leaves keeps d start w h seen xs q vars n =
    let b : Both me start = record { world = w; held = h; seen = seen } in
    ends_as me start _ _ _ _ (acts_both src me leaves keeps start d xs q vars b n) (acts_here src me leaves keeps start d xs vars b n) (ends_views me start (act_all (both src me leaves keeps start d) xs vars b n))
