use Rattle.std.proofs.Common.{true, false, ap, sym, ◌∙◌, nat_eq}
use Rattle.std.specs.List.{list_any}
use Rattle.event_step.proofs.FrameLaws.{catch_next}
use Rattle.event_step.proofs.blocks.catch_of.Goals as goal

pub loop-catch-preserved : goal.loop-catch-preserved
loop-catch-preserved c = sym (catch_next c.args.catches.now c.loop-catch.catch-index c.args.kind c.catch-item.result false c.loop-catch-test.true c.catch-item.is (c.if-names_kind.ensures ∙ ap (list_any (nat_eq c.args.kind)) c.as_slice.ensures)) ∙ c.loop-catch.invariant

pub returns-then-names_kind : goal.returns-then-names_kind
returns-then-names_kind c = sym (catch_next c.args.catches.now c.loop-catch.catch-index c.args.kind c.catch-item.result true c.loop-catch-test.true c.catch-item.is (c.if-names_kind.ensures ∙ ap (list_any (nat_eq c.args.kind)) c.as_slice.ensures)) ∙ c.loop-catch.invariant
