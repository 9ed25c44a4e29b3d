-- Where a session is, as its parts have it.
use Rattle.std.specs.Prelude.{ℕ, List}
use Rattle.std.specs.declared.option.Option.{Option}
use Rattle.sf_outside.specs.Choices.{Choices}
use Rattle.operator_graph.specs.Telling.{Told}
use Rattle.engine.specs.declared.engine.Engine.{Engine}
use Rattle.engine.specs.EngineViews.{core_of}
use Rattle.session_steps.specs.declared.tally.Tally.{Tally}
use Rattle.session_steps.specs.Doings.{Point}

abbrev pub point_of : Engine → ℕ → Tally → Option (List ℕ) → Option (List ℕ) → Option (List ℕ) → Option Choices → Option (List Told) → Point
point_of engine lines tally held handed traced choices told = record {
  core = core_of engine;
  lines = lines;
  held = held;
  handed = handed;
  traced = traced;
  outside = record { choices = choices; told = told };
  tally = tally;
}
