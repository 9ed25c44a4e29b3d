use Rattle.std.proofs.Common.{◌≡◌, take}
use Rattle.block_code.proofs.copies.copy_vars.Given as goal

-- the copies so far are the first variables
abbrev pub invariant-loop-var : goal.invariant-loop-var
invariant-loop-var l = l.made ≡ take l.var-index l.vars
