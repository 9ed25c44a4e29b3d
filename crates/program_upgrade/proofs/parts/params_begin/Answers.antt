use Rattle.std.proofs.Common.{arith, length, refl, sym, ◌∙◌}
use Rattle.std.proofs.lemmas.Option.{slice_get_read}
use Rattle.entity_tables.specs.Views.{plain_sig_param}
use Rattle.program_upgrade.specs.SameParts.{same_param}
use Rattle.program_upgrade.proofs.BeginLaws.{begin_longer, begin_more, begin_stop, begin_end}
use Rattle.program_upgrade.proofs.parts.params_begin.Goals as goal

pub returns-then-earlier-later : goal.returns-then-earlier-later
returns-then-earlier-later c = sym (begin_longer plain_sig_param (same_param c.args.old.now c.args.new.now) c.args.earlier.now c.args.later.now c.if-earlier-later.true)

pub returns-then-not-same_param : goal.returns-then-not-same_param
returns-then-not-same_param c =
    sym (begin_stop plain_sig_param (same_param c.args.old.now c.args.new.now) c.args.earlier.now c.args.later.now c.loop-i.i c.index-earlier-i.result c.index-later-i.result c.loop-i-test.true c.index-earlier-i.is (slice_get_read c.args.later.now (length c.args.later.now) c.loop-i.i c.index-later-i.result refl (omega arith) c.index-later-i.is) (sym c.same_param.ensures ∙ c.if-not-same_param.true))
    ∙ c.loop-i.invariant

pub loop-i-preserved : goal.loop-i-preserved
loop-i-preserved c =
    sym (begin_more plain_sig_param (same_param c.args.old.now c.args.new.now) c.args.earlier.now c.args.later.now c.loop-i.i c.index-earlier-i.result c.index-later-i.result c.loop-i-test.true c.index-earlier-i.is (slice_get_read c.args.later.now (length c.args.later.now) c.loop-i.i c.index-later-i.result refl (omega arith) c.index-later-i.is) (sym c.same_param.ensures ∙ c.if-not-same_param.false))
    ∙ c.loop-i.invariant

pub returns : goal.returns
returns c = sym (begin_end plain_sig_param (same_param c.args.old.now c.args.new.now) c.args.earlier.now c.args.later.now c.loop-i.i c.loop-i-test.false) ∙ c.loop-i.invariant
