-- A run of a compiled program from outside: its settings, what it serves, and what it shows.
use Rattle.std.specs.Prelude.{ℕ, ◌≤◌, ◌^◌, Bool, List, if◌then◌else◌}
use Rattle.std.specs.declared.option.Option.{Option}
use Rattle.sf_outside.specs.Choices.{Choices}
use Rattle.reservations.specs.BatchRule.{batch_rule}
use Rattle.reservations.specs.CommitRules.{Chosen}
use Rattle.serial_order.specs.ConflictFree.{Access}
use Rattle.batch_reorder.specs.Reordering.{reordered}
use Rattle.block_step.specs.declared.compiled.Compiled.{Compiled}
use Rattle.operator_graph.specs.Partitions.{IsParts}
use Rattle.operator_graph.specs.Telling.{Told}
use Rattle.operator_graph.specs.Turns.{Outside}
use Rattle.batch_output.specs.BatchOutput.{Limits}
use Rattle.batch_session.specs.Vocabulary.{Service, Settings, limits_of}
use Rattle.batch_run.specs.declared.running.RunSettings.{RunSettings}

-- what its input has left, what its output holds and has handed on, what its error stream holds, and what was chosen and told
pub record Shown : Type 0 where
  pub left : Option (List ℕ)
  pub held : Option (List ℕ)
  pub handed : Option (List ℕ)
  pub said : Option (List ℕ)
  pub outside : Outside

abbrev pub shown : Option (List ℕ) → Option (List ℕ) → Option (List ℕ) → Option (List ℕ) → Option Choices → Option (List Told) → Shown
shown left held handed said choices told = record { left = left; held = held; handed = handed; said = said; outside = record { choices = choices; told = told } }

-- settings that can be served
pub record CanServe (s : RunSettings) : Type 0 where
  pub some : 1 ≤ s.batch
  pub few : s.batch ≤ 256
  pub partitions : IsParts s.partitions
  pub limit : s.limit ≤ 2 ^ 62

abbrev pub session_settings : RunSettings → Settings
session_settings s = record { batch = s.batch; parts = s.partitions; limit = s.limit; trace = s.trace }

abbrev pub run_limits : RunSettings → Limits
run_limits s = limits_of s.batch s.history

-- what says which requests of a batch are committed, by what each of them read and wrote
abbrev pub Rule : Type 0
Rule = List Access → Chosen

-- requests commit in the order in which they came, or also in another one
abbrev pub rule_by : Bool → Rule
rule_by reorder = if reorder then reordered else batch_rule

-- the rule of a run with these settings
abbrev pub rule_of : RunSettings → Rule
rule_of s = rule_by s.reorder

abbrev pub run_service : Compiled → RunSettings → Service
run_service compiled s = record { compiled = compiled; parts = s.partitions; rule = rule_of s; limits = run_limits s }
