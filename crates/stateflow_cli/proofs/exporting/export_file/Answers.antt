use Rattle.std.proofs.Common.{refl}
use Rattle.stateflow_cli.specs.ExportEnds.{TurnsDown}
use Rattle.stateflow_cli.proofs.StoreEndings.{untouched}
use Rattle.stateflow_cli.proofs.ExportedStores.{not_looked, exported}
use Rattle.stateflow_cli.proofs.exporting.export_file.Goals as goal

pub returns-in-Err-Refused : goal.returns-in-Err-Refused
returns-in-Err-Refused g c input err outside =
    let refuses = rw c.in-Err-Refused.field-0-is at c.in-Err-Refused.ensures.gives in
    rw c.in-Err-Refused.field-0-is (record {
      input = refl;
      err = refl;
      outside = refl;
      ways = TurnsDown c.in-Err-Refused.fault refl refuses (untouched _ _) refl;
    })

pub returns-in-Ok-Old : goal.returns-in-Ok-Old
returns-in-Ok-Old g c input err outside =
    let given = rw c.in-Ok-Old.field-0-is at c.in-Ok-Old.ensures.given in
    let answer = rw c.in-Ok-Old.field-0-is at c.in-Ok-Old.ensures.answer in
    record {
      input = refl;
      err = refl;
      outside = refl;
      ways = exported c.args.file.now c.args.name.now _ _ _ _ c.in-Ok.loaded c.in-Ok.ensures.gives c.in-Ok-Old.opened _ given.0 answer c.export_opened.result c.ending_of.result
          c.ending_of.ensures c.in-Ok-Old.ensures.mounts c.in-Ok-Old.ensures.unchanged c.export_opened.ensures.wrote c.export_opened.ensures.counts c.export_opened.ensures.handed;
    }

pub returns-in-Err : goal.returns-in-Err
returns-in-Err g c input err outside = record {
  input = refl;
  err = refl;
  outside = refl;
  ways = not_looked c.args.file.now c.args.name.now _ _ _ _ c.in-Ok.loaded c.in-Ok.ensures.gives c.in-Err.stop c.in-Err.ensures.answer c.in-Err.ensures.unchanged c.in-Err.ensures.mounts c.in-Err.ensures.cause refl;
}
