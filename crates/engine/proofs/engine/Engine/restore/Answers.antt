use Rattle.std.proofs.Common.{◌++◌, length, ap, sym, subst, arith}
use Rattle.std.specs.Prelude.{bytes_eq}
use Rattle.std.specs.List.{AllByRecursion, IsDistinct}
use Rattle.request_history.specs.SoundHistory.{RequestFits, EntriesFit}
use Rattle.kept_parts.specs.Ids.{entry_ids, request_ids}
use Rattle.kept_parts.proofs.EachLaws.{refuses}
use Rattle.kept_parts.proofs.IdLaws.{first_part}
use Rattle.engine.specs.Cores.{CoreFits}
use Rattle.engine.specs.EngineViews.{program_tables}
use Rattle.engine.specs.Kept.{HeldFits, SnapshotFits}
use Rattle.engine.proofs.KeptLaws.{kept_core_fits, none_history, history_is, state_is}
use Rattle.engine.proofs.engine.Engine.restore.Goals as goal

pub returns-in_default-clause-wrong : goal.returns-in_default-clause-wrong
returns-in_default-clause-wrong c = λ fits.
    none_history c.args.kept.history c.in_ok-history.field-0 c.in_default.not-Some c.in_ok-history.ensures (first_part (entry_ids c.args.kept.history) (request_ids c.args.kept.pending) fits.ids)

pub returns-then-not-ids_differ-clause-wrong : goal.returns-then-not-ids_differ-clause-wrong
returns-then-not-ids_differ-clause-wrong c = λ fits.
    let made = history_is c.args.kept.history c.in_ok-history.field-0 c.in-Some.history c.in-Some.is c.in_ok-history.ensures in
    refuses c.ids_differ.result c.if-not-ids_differ.true c.ids_differ.ensures (subst (IsDistinct bytes_eq) (λ i. entry_ids (sym made.0 i) ++ request_ids (sym c.as_slice.ensures i)) fits.ids)

pub invariant_of-result : goal.invariant_of-result
invariant_of-result c =
    let parts = c.parts_fit.ensures.0 c.if-not-parts_fit.false in
    let made = history_is c.args.kept.history c.in_ok-history.field-0 c.in-Some.history c.in-Some.is c.in_ok-history.ensures in
    record {
      placed = omega (arith, parts.4, ap length made.0);
      few = omega (arith, parts.3);
      among = omega arith;
    }

pub returns-clause-core_fits : goal.returns-clause-core_fits
returns-clause-core_fits c =
    let tables = program_tables c.args.compiled in
    let kept = c.args.kept in
    let parts = c.parts_fit.ensures.0 c.if-not-parts_fit.false in
    let history = history_is kept.history c.in_ok-history.field-0 c.in-Some.history c.in-Some.is c.in_ok-history.ensures in
    let state = state_is kept.records c.in_ok-state.field-0 c.in-Some-2.state c.in-Some-2.is c.in_ok-state.ensures in
    let fits : SnapshotFits tables kept = record {
      entries = subst (λ ts. EntriesFit ts kept.history) c.tables_in.ensures parts.0;
      records = subst (λ ts. AllByRecursion (HeldFits ts) kept.records) c.tables_in.ensures parts.1;
      requests = subst (λ ts. AllByRecursion (RequestFits ts) kept.pending) c.tables_in.ensures parts.2;
      ids = subst (IsDistinct bytes_eq) (λ i. entry_ids (history.0 i) ++ request_ids (c.as_slice.ensures i)) (c.ids_differ.ensures.0 c.if-not-ids_differ.false);
      entities = state.1;
      few = parts.3;
      places = parts.4;
    } in
    subst (CoreFits tables) (λ i. record { history = sym history.0 i; state = sym state.0 i; pending = kept.pending }) (kept_core_fits tables kept fits)
