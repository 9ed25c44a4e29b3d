use Rattle.std.proofs.Common.{◌∙◌, ◌++◌, ◌≤◌, [], ap, sym, arith, length, take, drop}
use Rattle.std.specs.List.{cons_option}
use Rattle.std.specs.Option.{option_map}
use Rattle.request_history.specs.HistoryView.{kept_at}
use Rattle.kept_parts.proofs.ListLaws.{behind_none, behind_found, behind_all}
use Rattle.kept_parts.proofs.listing.entries_behind.Goals as goal

pub loop-i-preserved : goal.loop-i-preserved
loop-i-preserved c =
    let entries = c.args.history.now.entries in
    let before = c.loop-i.invariant in
    record {
      so_far =
          c.in_ok-push_entry.ensures
          ∙ ap (λ l. l ++ cons_option (option_map (λ f. (kept_at f).entry) c.entry.result) []) before.so_far
          ∙ sym (behind_found entries c.args.kept c.loop-i.i c.entry.result before.begun (omega arith) c.entry.ensures);
      begun = omega (arith, before.begun);
    }
