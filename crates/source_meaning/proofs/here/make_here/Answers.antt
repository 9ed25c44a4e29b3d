use Rattle.std.proofs.Common.{List}
use Rattle.sf_value.specs.Keys.{key_of}
use Rattle.sf_value.specs.declared.value.Value.{Value}
use Rattle.program_meaning.specs.World.{Gives}
use Rattle.program_meaning.specs.Calls.{made_record}
use Rattle.program_meaning.specs.Sources.{source_of}
use Rattle.source_meaning.specs.HereAnswers.{MakesHere, MadeAs}
use Rattle.source_meaning.proofs.HereAnswers.{mapped_ok, made_by}
use Rattle.source_meaning.proofs.here.make_here.Goals as goal

pub returns : goal.returns
returns c =
    let meant : Gives (List Value) Value = made_record (source_of c.args.program.now) (key_of c.args.at.now) c.args.args.now c.args.steps.now in
    mapped_ok c.made_here.result (MadeAs c.make_record-made.result) (λ x. MakesHere x c.make_record-made.new.run.steps meant)
    (λ x so. made_by c.make_record-made.result x c.make_record-made.new.run.steps meant so c.make_record-made.ensures.record)
    c.made_here.ensures
