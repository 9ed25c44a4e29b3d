use Rattle.program_meaning.proofs.SameLocals.{eval_same, acts_agree}
use Rattle.program_meaning.proofs.laws.locals_are_named.Goals as goal

pub returns : goal.returns
returns c = record {
  expressions = (λ s e us vs same. eval_same s us vs same e, λ s e us vs same. eval_same s us vs same e, λ s e us vs same. eval_same s us vs same e);
  statements = (λ s. acts_agree s, λ s. acts_agree s, λ s. acts_agree s);
}
