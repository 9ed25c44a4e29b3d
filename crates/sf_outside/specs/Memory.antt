-- What the forms in memory show.
use Rattle.std.specs.Prelude.{ℕ, List}

-- a source: the bytes that are left, the calls that are to fail, how many calls and how many faults there were
pub record SourceState : Type 0 where
  pub left : List ℕ
  pub fail_at : List ℕ
  pub calls : ℕ
  pub faults : ℕ

-- a sink: the bytes that it holds, how many of them it has handed on and how many it can hold, the calls that are to fail, how many calls and how many
-- faults there were
pub record SinkState : Type 0 where
  pub held : List ℕ
  pub handed : ℕ
  pub room : ℕ
  pub fail_at : List ℕ
  pub calls : ℕ
  pub faults : ℕ
