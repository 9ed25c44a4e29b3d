use Rattle.std.proofs.Common.{◌≡◌, drop}
use Rattle.py_tree.specs.PlainStatements.{plain_stmts, stmts_of, plain_arms, arms_of}
use Rattle.live_laws.specs.Reads.{all_spare, an_arm_spares, break_spares, break_in_arm_spares}
use Rattle.live_vars.proofs.paths.+sparing.Given as goal

abbrev pub invariant-all_spare-loop-stmt : goal.invariant-all_spare-loop-stmt
invariant-all_spare-loop-stmt l = all_spare (stmts_of (plain_stmts (drop l.stmt-index l.stmts))) l.name.0 ≡ all_spare (stmts_of (plain_stmts l.stmts)) l.name.0

abbrev pub invariant-an_arm_spares-loop-arm : goal.invariant-an_arm_spares-loop-arm
invariant-an_arm_spares-loop-arm l = an_arm_spares (arms_of (plain_arms (drop l.arm-index l.arms))) l.name.0 ≡ an_arm_spares (arms_of (plain_arms l.arms)) l.name.0

abbrev pub invariant-break_spares-loop-stmt : goal.invariant-break_spares-loop-stmt
invariant-break_spares-loop-stmt l = break_spares (stmts_of (plain_stmts (drop l.stmt-index l.stmts))) l.name.0 ≡ break_spares (stmts_of (plain_stmts l.stmts)) l.name.0

abbrev pub invariant-break_in_arm_spares-loop-arm : goal.invariant-break_in_arm_spares-loop-arm
invariant-break_in_arm_spares-loop-arm l = break_in_arm_spares (arms_of (plain_arms (drop l.arm-index l.arms))) l.name.0 ≡ break_in_arm_spares (arms_of (plain_arms l.arms)) l.name.0
