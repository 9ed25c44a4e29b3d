-- So it is with code on one record: it is the record of an entity in a state that holds this entity alone.
use Rattle.std.proofs.Common.{◌≡◌, ℕ, Bool, true, false, Some, Ok, List, [], refl, sym, ap, subst, true≢false}
use Rattle.std.specs.FinMap as map
use Rattle.std.specs.FinSet as set
use Rattle.py_tree.specs.PlainTypes.{PlainTy}
use Rattle.py_tree.specs.PlainStatements.{PlainStmts}
use Rattle.py_tree.specs.PlainProgram.{PlainProgram}
use Rattle.py_tree.specs.ClassRules.{PlainTable, tables_of}
use Rattle.py_tree.specs.FlowEnvironment.{PlainLocal}
use Rattle.py_tree.specs.ExpressionTypes.{field_of}
use Rattle.py_tree.specs.Bounded.{EachOfStmts, RaisesFailure}
use Rattle.py_tree.specs.Flow.{Context, Way, begun, flow_all, in_method}
use Rattle.call_graph.specs.SuspendingCode.{Leaving, stmts_suspend}
use Rattle.sf_value.specs.Keys.{Key}
use Rattle.sf_value.specs.declared.Failure.{Failure}
use Rattle.sf_value.specs.declared.value.Value.{Value}
use Rattle.program_meaning.specs.declared.vars.Var.{Var}
use Rattle.program_meaning.specs.ClassTables.{Source, fields_of}
use Rattle.program_meaning.specs.World.{World, Ends, Goes, Returns, Breaks, Continues, Fails, with_field, reading}
use Rattle.program_meaning.specs.Evaluation.{Site}
use Rattle.program_meaning.specs.Execution.{act_all}
use Rattle.program_meaning.specs.Calls.{Held, in_state, calls_at, on_record}
use Rattle.program_meaning.specs.Serial.{no_state}
use Rattle.program_meaning.specs.Fits.{Fits, RecordFits, StateFits}
use Rattle.program_meaning.specs.PointFits.{VarsFit, Since}
use Rattle.program_meaning.specs.NothingGoesWrong.{IsKnownAccepted}
use Rattle.program_meaning.specs.HereInState as alike
use Rattle.program_meaning.specs.HereInState.{KeepsWithin, left_by, IsSeen, EndsAlike}
use Rattle.program_meaning.specs.HereFits.{HeldFits}
use Rattle.program_meaning.proofs.EvalFits.{Anywhere, Around}
use Rattle.program_meaning.proofs.LocalShapes.{shapes, Sound}
use Rattle.program_meaning.proofs.CallsFit.{around_method, puts_fit, insert_fits, calls_keep}
use Rattle.program_meaning.proofs.HereInState.{written_there, written_read, added_twice, statements_alike}
use Rattle.program_meaning.proofs.Soundness.{first_fits}
use Rattle.block_code.specs.PlainVars.{PlainVar}
use Rattle.block_code.specs.GraphFits.{AtEachPoint}
use Rattle.block_runs.proofs.Variables.{Kept, Supplied}
use Rattle.block_runs.proofs.Spared.{SparesAll, stmts_spare}

abbrev with_record : Key → List Value → World
with_record me fields = reading (record { state = map.insert no_state me fields; reads = set.empty; writes = set.empty }) me

-- the record of an entity, in the world where it alone is
seen : (me : Key) (h : Held) (wrote : Bool) → IsSeen me (with_record me h.fields) (left_by me (with_record me h.fields) (record { fields = h.fields; wrote = wrote })) (record { fields = h.fields; wrote = wrote })
seen me h true = record { left = refl; there = written_there (with_record me h.fields) me h.fields; read = written_read (with_record me h.fields) me h.fields read_once }
  where
    read_once : reading (with_record me h.fields) me ≡ with_record me h.fields
    read_once = ap (λ keys. record { state = map.insert no_state me h.fields; reads = keys; writes = set.empty }) (added_twice set.empty me)
seen me h false = record { left = refl; there = written_there (record { state = no_state; reads = set.empty; writes = set.empty }) me h.fields; read = ap (λ keys. record { state = map.insert no_state me h.fields; reads = keys; writes = set.empty }) (added_twice set.empty me) }

left_fits : (tables : List PlainTable) (me : Key) (h : Held) (wrote : Bool) → StateFits tables no_state → RecordFits tables me.0 h.fields → StateFits tables (left_by me (with_record me h.fields) (record { fields = h.fields; wrote = wrote })).state
left_fits tables me h true first fit = insert_fits tables (map.insert no_state me h.fields) me h.fields (insert_fits tables no_state me h.fields first fit) fit
left_fits tables me h false first fit = insert_fits tables no_state me h.fields first fit

abbrev locals_left : Ends Held → List Var
locals_left (Goes vars w n) = vars
locals_left (Returns v w n) = []
locals_left (Breaks vars w n) = vars
locals_left (Continues vars w n) = vars
locals_left (Fails f vars w n) = vars

abbrev has_failed : Ends Held → Bool
has_failed (Fails f vars w n) = true
has_failed _ = false

module _ (names : List (List ℕ)) (program : PlainProgram) (accepted : IsKnownAccepted names program) (me : Key) (leaves : Leaving) (within : KeepsWithin (record { program = program; names = names }) me.0 leaves) (d number : ℕ) (params : List PlainVar) where
  abbrev src : Source
  src = record { program = program; names = names }

  abbrev tables : List PlainTable
  tables = tables_of names program

  -- what holds of the end on the state holds of that on the record
  spared : (start : World) (s : Site World) (WorldFits : World → Type 0) (around : Around tables s Anywhere WorldFits)
      (puts : (x : ℕ) (ty : PlainTy) (v : Value) (w : World) → field_of tables s.me.0 x ≡ Some ty → Fits tables ty v → WorldFits w → WorldFits (s.own.put w (with_field (fields_of s.src s.me.0) (s.own.fields w) x v)))
      (e : Ends World) (o : Ends Held) → EndsAlike me start e o → SparesAll tables s WorldFits number around puts params e → (f : Failure) (left : List Var) (k : Held) (m : ℕ) → o ≡ Fails f left k m → Kept tables left params
  spared start s WorldFits around puts _ _ (alike.goes seen) kept f left k m is = absurd (true≢false (sym (ap has_failed is)))
  spared start s WorldFits around puts _ _ (alike.returns seen) kept f left k m is = absurd (true≢false (sym (ap has_failed is)))
  spared start s WorldFits around puts _ _ (alike.breaks seen) kept f left k m is = absurd (true≢false (sym (ap has_failed is)))
  spared start s WorldFits around puts _ _ (alike.continues seen) kept f left k m is = absurd (true≢false (sym (ap has_failed is)))
  spared start s WorldFits around puts _ _ (alike.fails {f = e} {vars = vars} {w = w} {h = h} {n = n} seen) kept f left k m is = subst (λ vars. Kept tables vars params) (ap locals_left is) kept

  abbrev c : Context
  c = in_method tables me.0 number

  -- so a failure of code on the record leaves values for parameters that are supplied at each of its points
  pub code_spares : (locals : List PlainLocal) (xs : PlainStmts) (after : Way) (vars : List Var) (h : Held) (n : ℕ)
      → flow_all c (begun locals) xs ≡ Ok after → EachOfStmts RaisesFailure xs → stmts_suspend leaves xs ≡ false → Sound (shapes locals) → VarsFit tables vars locals → HeldFits tables me.0 h
      → AtEachPoint (Supplied params) c (begun locals) xs → (f : Failure) (left : List Var) (k : Held) (m : ℕ) → act_all (on_record src me d) xs vars h n ≡ Fails f left k m → Kept tables left params
  code_spares locals xs after vars h n flows raises quiet sound v p at f left k m is =
      let start : World = with_record me h.fields in
      let w : World = left_by me start h in
      let fit : StateFits tables w.state = left_fits tables me h h.wrote (first_fits names program) p in
      let since : Since tables w.state w = record { fits = fit; kept = λ q a e. (a, e) } in
      let one : IsSeen me start w h = seen me h h.wrote in
      let there : map.get w.state me ≡ Some h.fields = one.there in
      let around : Around tables (in_state src (calls_at src d) me) Anywhere (Since tables w.state) = around_method names program accepted w.state (calls_at src d) (calls_keep names program accepted d w.state) me h.fields there p.table p.has_table in
      spared start (in_state src (calls_at src d) me) (Since tables w.state) around (puts_fit names program accepted w.state (calls_at src d) (calls_keep names program accepted d w.state) me h.fields there p.table p.has_table)
      (act_all (in_state src (calls_at src d) me) xs vars w n) (act_all (on_record src me d) xs vars h n) (statements_alike src me leaves within d start w h one xs quiet vars n)
      (stmts_spare tables (in_state src (calls_at src d) me) (Since tables w.state) number around
      (puts_fit names program accepted w.state (calls_at src d) (calls_keep names program accepted d w.state) me h.fields there p.table p.has_table) params
      xs false (begun locals) after vars w n flows raises sound v since at) f left k m is
