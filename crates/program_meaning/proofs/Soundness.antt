-- Nothing goes wrong, within a method and over a whole run.
use Rattle.std.proofs.Common.{◌≡◌, ℕ, suc, None, Some, Ok, List, [], ◌∷◌, ◌++◌, refl, sym, ap, ◌∙◌, subst}
use Rattle.std.specs.Prelude.{slice_get}
use Rattle.std.specs.FinMap as map
use Rattle.std.specs.FinMap.{get-empty}
use Rattle.std.proofs.lemmas.Option.{none-some}
use Rattle.py_tree.specs.PlainStatements.{PlainStmts, stmts_of}
use Rattle.py_tree.specs.ClassRules.{PlainTable, body_of, first_in, fields_of, field_names, init_body_fault, init_stmt_fault, params_of, tables_of}
use Rattle.py_tree.specs.FlowEnvironment.{PlainLocal}
use Rattle.py_tree.specs.Reachability.{all_go_on, break_in, assigned_in}
use Rattle.py_tree.specs.Flow.{Context, Way, at_head, begun, flow_all, in_init, init_locals, result_at}
use Rattle.py_tree.specs.PlainProgram.{PlainProgram}
use Rattle.program_meaning.specs.NothingGoesWrong.{IsKnownAccepted}
use Rattle.sf_value.specs.Keys.{Key, key_cmp}
use Rattle.sf_value.specs.declared.value.Value.{Value}
use Rattle.program_meaning.specs.declared.vars.Var.{Var}
use Rattle.program_meaning.specs.ClassTables.{Source}
use Rattle.program_meaning.specs.World.{State, World, Gives, Got, Fell, Ends, Goes, Returns, Breaks, Continues, Fails}
use Rattle.program_meaning.specs.Calls.{bound, declare_all, in_state}
use Rattle.program_meaning.specs.Fits.{HasTable, no_value, RecordFits, StateFits}
use Rattle.program_meaning.specs.RequestRun.{run}
use Rattle.program_meaning.specs.Serial.{no_state, serial_state}
use Rattle.sf_value.specs.declared.Act.{Act}
use Rattle.program_meaning.specs.PointFits as point
use Rattle.program_meaning.specs.PointFits.{Since, OneType, EndsFit}
use Rattle.program_meaning.specs.NothingGoesWrong.{FirstFits, HistoriesFit, ActsFit, no_act, one_act, RunsFit, ExpressionsFit, StatementsFit, CallsKeepFit, MakesFit, InitsFit, DeclaredFit, InitStmtFits, InitExpressionsFit, InitStatementsFit, CheckedAreKnown}
use Rattle.program_meaning.proofs.EvalFits.{Anywhere, eval_fits}
use Rattle.program_meaning.proofs.LocalShapes.{type_found, Shape, shapes, type_in, Within, all_in, one_in, Sound, settled_fits, shapes_at_head}
use Rattle.program_meaning.proofs.AssignedFits.{forgets_at_head, head_fits}
use Rattle.program_meaning.proofs.ActFits.{EndFits, goes, returns, leaves, turns, fails, stmts_fit}
use Rattle.program_meaning.proofs.InitFits.{Makes, makes, breaks_off, value_fits, place_fits}
use Rattle.program_meaning.proofs.CallsFit.{around_method, puts_fit, calls_keep, InitKnown, init_known, record_made_fits}
use Rattle.program_meaning.proofs.RunFits.{run_fits}

each_within : (ss : List Shape) (locals : List PlainLocal) → ((k : ℕ) (l : PlainLocal) → slice_get locals k ≡ Some l → type_in ss l.name ≡ Some l.ty) → Within (shapes locals) ss
each_within ss [] h = all_in
each_within ss (l ∷ locals) h = one_in (h 0 l refl) (each_within ss locals (λ k m e. h (suc k) m e))

one_type_sound : (locals : List PlainLocal) → OneType locals → Sound (shapes locals)
one_type_sound locals one = each_within (shapes locals) locals (λ k l e. sym (type_found locals l.name) ∙ one.each k l e)

-- the end of statements: what stays beside them is what was known before
end_told : (tables : List PlainTable) {W : Type 0} (WorldFits : W → Type 0) (c : Context) (xs : PlainStmts) (before after : Way) (e : Ends W)
    → EndFits tables WorldFits (result_at c) (all_go_on xs) (break_in xs) c.in_loop after (at_head (assigned_in xs) before.locals) e → EndsFit tables WorldFits c xs before after e
end_told tables WorldFits c xs before after (Goes vars w n) (goes g v h p) = point.goes g v p
end_told tables WorldFits c xs before after (Returns v w n) (returns f p) = point.returns f p
end_told tables WorldFits c xs before after (Breaks vars w n) (leaves i b m h p) = point.leaves m.known i b m.is (settled_fits tables vars after.locals m.known m.fit) p
end_told tables WorldFits c xs before after (Continues vars w n) (turns i h p) = point.turns i p
end_told tables WorldFits c xs before after (Fails f vars w n) (fails g h p) = point.fails g h p

record_there : (tables : List PlainTable) (s : State) (me : Key) (fields : List Value) (w : World) → map.get s me ≡ Some fields → Since tables s w → (table : PlainTable) × HasTable tables me.0 table
record_there tables s me fields w e p =
    let b : (b : List Value) × (map.get w.state me ≡ Some b) = p.kept me fields e in
    let r : RecordFits tables me.0 b.0 = p.fits.each me b.0 b.1 in
    (r.table, r.has_table)

pub first_fits : FirstFits
first_fits names program = record { each = λ at fields e. absurd (none-some fields (sym (get-empty key_cmp at) ∙ e)) }

pub runs_fit : RunsFit
runs_fit names program accepted s asked fit h = run_fits names program accepted s asked fit h

serial_fits : (names : List (List ℕ)) (program : PlainProgram) → IsKnownAccepted names program → (acts : List Act) (s : State) → StateFits (tables_of names program) s → ActsFit (tables_of names program) acts → StateFits (tables_of names program) (serial_state (record { program = program; names = names }) s acts)
unfolding serial_state
serial_fits names program accepted [] s fit no_act = fit
serial_fits names program accepted (asked ∷ acts) s fit (one_act f fs) = serial_fits names program accepted acts (run (record { program = program; names = names }) s asked).state (run_fits names program accepted s asked fit f).0 fs

pub histories_fit : HistoriesFit
histories_fit names program accepted acts fit = serial_fits names program accepted acts no_state (first_fits names program) fit

pub expressions_fit : ExpressionsFit
expressions_fit names program accepted s calls calls_fit me fields there method locals wanted e ty vars w n h v p =
    let t : (table : PlainTable) × HasTable (tables_of names program) me.0 table = record_there (tables_of names program) s me fields w there p in
    eval_fits (tables_of names program) (in_state (record { program = program; names = names }) calls me) Anywhere (Since (tables_of names program) s) method (around_method names program accepted s calls calls_fit me fields there t.0 t.1) e locals wanted ty vars w n h refl v p

pub statements_fit : StatementsFit
unfolding result_at
statements_fit names program accepted s calls calls_fit me fields there method in_loop xs before after vars w n h raises one v p =
    let t : (table : PlainTable) × HasTable (tables_of names program) me.0 table = record_there (tables_of names program) s me fields w there p in
    end_told (tables_of names program) (Since (tables_of names program) s) (record { tables = tables_of names program; class = me.0; method = Some method; in_loop = in_loop }) xs before after _
    (stmts_fit (tables_of names program) (in_state (record { program = program; names = names }) calls me) (Since (tables_of names program) s) method (around_method names program accepted s calls calls_fit me fields there t.0 t.1) (puts_fit names program accepted s calls calls_fit me fields there t.0 t.1)
    xs in_loop before after (at_head (assigned_in xs) before.locals) vars w n h raises (record {
      sound = one_type_sound before.locals one;
      within = subst (λ ss. Within ss (shapes before.locals)) (sym (shapes_at_head (assigned_in xs) before.locals)) (one_type_sound before.locals one);
      forgets = forgets_at_head (assigned_in xs) before.locals;
      fit = v;
      held = head_fits (tables_of names program) vars (assigned_in xs) before.locals v;
    }) p)

pub calls_keep_fit : CallsKeepFit
calls_keep_fit names program accepted s d = calls_keep names program accepted d s

made_told : (tables : List PlainTable) (class : ℕ) (Told : Type 0) (g : Gives (List Value) Value) → Makes (λ fields. RecordFits tables class fields × Told) g → MakesFit tables class g
made_told tables class Told (Got v fields n) (makes p) = p.0
made_told tables class Told (Fell f fields n) (breaks_off c) = c

pub inits_fit : InitsFit
inits_fit names program accepted at args n fit = made_told (tables_of names program) at.0 _ _ (record_made_fits names program accepted at args n fit)

pub init_expressions_fit : InitExpressionsFit
init_expressions_fit names program accepted at table has before rest parts locals wanted e ty vars fields n typed free v fit =
    let i : InitKnown names program accepted at.0 table = init_known names program accepted at.0 table has in
    value_fits names program accepted.rules.classes at table i.method.body has i.is_body before rest locals wanted e ty vars fields n (sym (ap body_of i.here) ∙ parts) typed free v fit

pub init_statements_fit : InitStatementsFit
unfolding fields_of init_body_fault
init_statements_fit names program accepted at args h before rest s parts v fields n left made =
    let src : Source = record { program = program; names = names } in
    let i : InitKnown names program accepted at.0 h.table = init_known names program accepted at.0 h.table h.has_table in
    let is_parts : i.method.body ≡ before ++ s ∷ rest = sym (ap body_of i.here) ∙ parts in
    let vars : List Var = bound i.method.params args in
    let kept : first_in (λ before s. init_stmt_fault names program i.members (field_names before) s) (before ++ s ∷ rest) ≡ None = subst (λ b. first_in (λ before s. init_stmt_fault names program i.members (field_names before) s) b ≡ None) is_parts i.body in
    let flows : flow_all (in_init (tables_of names program) at.0) (begun (init_locals (tables_of names program) at.0)) (stmts_of (before ++ s ∷ rest)) ≡ Ok i.after = subst (λ b. flow_all (in_init (tables_of names program) at.0) (begun (init_locals (tables_of names program) at.0)) (stmts_of b) ≡ Ok i.after) is_parts i.flows in
    let told : declare_all src at before vars [] n ≡ Got v fields left = subst (λ o. declare_all src at before (bound (params_of o) args) [] n ≡ Got v fields left) i.here made in
    subst (λ o. DeclaredFit (tables_of names program) before fields × InitStmtFits (tables_of names program) src at before (bound (params_of o) args) s) (sym i.here)
    (place_fits names program accepted.rules.classes at h.table i.method.body h.has_table i.is_body i.members before rest s [] (begun (init_locals (tables_of names program) at.0)) i.after vars [] n is_parts kept flows (i.first_locals args h.fit) no_value v fields left told)

pub checked_are_known : CheckedAreKnown
checked_are_known c = record { bounded = c.bounded; rules = c.rules; table = c.table }
