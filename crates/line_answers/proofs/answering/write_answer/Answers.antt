use Rattle.std.proofs.Common.{[], sym, subst}
use Rattle.std.specs.Prelude.{OnOk, OnErr}
use Rattle.std.specs.List.{cons_option}
use Rattle.std.specs.Io.KnownBytes.{Appends}
use Rattle.std.proofs.KnownBytes.{Appends-nil}
use Rattle.sf_outside.specs.Bytes.{AppendsPrefix}
use Rattle.sf_outside.specs.Gains.{joined}
use Rattle.sf_outside.proofs.GainLaws.{joined-nil, joined_one}
use Rattle.batch_replies.proofs.FlushLaws.{stays_none}
use Rattle.line_answers.proofs.answering.write_answer.Goals as goal

pub returns-in-Some-clause-whole : goal.returns-in-Some-clause-whole
returns-in-Some-clause-whole g c =
    subst (λ answer. OnOk c.write_whole.result (Appends (g.K.Sink.held c.args.out.now) (g.K.Sink.held c.write_whole.new.out) (joined (cons_option answer [])))) (sym c.in-Some.is)
    (subst (λ text. OnOk c.write_whole.result (Appends (g.K.Sink.held c.args.out.now) (g.K.Sink.held c.write_whole.new.out) text)) (sym (joined_one c.in-Some.line)) c.write_whole.ensures.whole)

pub returns-in-Some-clause-part : goal.returns-in-Some-clause-part
returns-in-Some-clause-part g c =
    subst (λ answer. OnErr c.write_whole.result (AppendsPrefix (g.K.Sink.held c.args.out.now) (g.K.Sink.held c.write_whole.new.out) (joined (cons_option answer [])))) (sym c.in-Some.is)
    (subst (λ text. OnErr c.write_whole.result (AppendsPrefix (g.K.Sink.held c.args.out.now) (g.K.Sink.held c.write_whole.new.out) text)) (sym (joined_one c.in-Some.line)) c.write_whole.ensures.part)

pub returns-in-None-clause-whole : goal.returns-in-None-clause-whole
returns-in-None-clause-whole g c =
    subst (λ answer. Appends (g.K.Sink.held c.args.out.now) (g.K.Sink.held c.args.out.now) (joined (cons_option answer []))) (sym c.in-None.is)
    (subst (Appends (g.K.Sink.held c.args.out.now) (g.K.Sink.held c.args.out.now)) (sym joined-nil) (Appends-nil (g.K.Sink.held c.args.out.now)))

pub returns-in-None-clause-stays : goal.returns-in-None-clause-stays
returns-in-None-clause-stays g c = stays_none (g.K.Sink.handed c.args.out.now)
