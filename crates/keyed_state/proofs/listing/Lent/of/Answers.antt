use Rattle.keyed_state.proofs.TableLaws.{listed_once}
use Rattle.keyed_state.proofs.listing.Lent.of.Goals as goal

pub returns-clause-once : goal.returns-clause-once
returns-clause-once c = listed_once c.args.records.now.entries c.len-count.ensures.unique
