use Rattle.sf_bytes.proofs.Lengths.{value-sizes, request-sizes, outcome-sizes, entry-sizes, batch-sizes, head-sizes}
use Rattle.sf_bytes.proofs.spellings_have_sizes.Goals as goal

pub returns : goal.returns
returns c = record {
  values = value-sizes;
  requests = request-sizes;
  outcomes = outcome-sizes;
  entries = entry-sizes;
  batches = batch-sizes;
  heads = head-sizes;
}
