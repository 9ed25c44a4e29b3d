-- What a request came to before it is committed, as the meaning has it.
use Rattle.few_entities.specs.Entries.{refs_of}
use Rattle.source_meaning.specs.declared.local.Attempt.{Attempt}
use Rattle.program_meaning.specs.World.{State}
use Rattle.program_meaning.specs.RequestRun.{Ran}
use Rattle.source_meaning.specs.Transactions.{with_records, keys_of, entities_of}

abbrev pub ran_of : State → Attempt → Ran
ran_of s a = record {
  outcome = a.outcome;
  state = with_records s a.changed;
  reads = keys_of (refs_of a.reads);
  writes = keys_of (entities_of a.changed);
  steps = a.steps;
}
