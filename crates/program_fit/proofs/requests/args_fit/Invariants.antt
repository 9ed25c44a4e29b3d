use Rattle.std.proofs.Common.{take, map}
use Rattle.entity_tables.specs.Views.{plain_sig_param, plain_tables}
use Rattle.program_meaning.specs.Fits.{EachFits}
use Rattle.program_fit.proofs.requests.args_fit.Given as goal

abbrev pub invariant-loop-i : goal.invariant-loop-i
invariant-loop-i l = EachFits (plain_tables l.tables) (map (λ x. x.ty) (map plain_sig_param (take l.i l.params))) (take l.i l.args)
