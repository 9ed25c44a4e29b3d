-- A session in batches as steps: each answers a line of the input, or, at its end, runs a batch of what waits.
use Rattle.std.specs.Prelude.{ℕ, false, List, [], ◌∷◌, ◌++◌, length, map, replicate, if◌then◌else◌}
use Rattle.request_json.specs.Actions.{Line, whole_lines, all_lines}
use Rattle.line_answers.specs.Vocabulary.{Core}
use Rattle.batch_output.specs.BatchOutput as output
use Rattle.batch_output.specs.BatchOutput.{Standing, begun, waits, is_over, settled, batch_lines}
use Rattle.line_answers.specs.Services.{Service, program_of}
use Rattle.line_answers.specs.LineAnswers.{Move, move_at, ran_by}

pub data Step : Type 0 where
  Answer : (line : Line) → Step
  RunWaiting : Step

abbrev pub answers : List Line → List Step
answers = map Answer

-- a session that goes on from this core, behind so many lines
abbrev pub open_at : Core → ℕ → Standing
open_at core lines = record { core = core; lines = lines; is_full = false }

-- each batch commits a request, so as many as requests wait are enough at the end
abbrev pub endings : Standing → List Step
endings s = replicate (length s.core.pending) RunWaiting

module _ (v : Service) where
  -- What a step does

  -- at the end of the input nothing is written but the replies to the batch
  abbrev pub move_of : Standing → Step → Move
  move_of s (Answer line) = move_at v s line
  move_of s RunWaiting = record { answer = []; core = s.core; is_due = waits s.core }

  -- how the session stands behind it
  abbrev pub behind : Standing → Step → Standing
  behind s (Answer line) = output.step (program_of v) v.rule v.limits s line
  behind s RunWaiting =
      if is_over (program_of v) v.rule v.limits s then s else settled (program_of v) v.rule v.limits s

  -- the lines that it prints
  abbrev pub printed_at : Standing → Step → List (List ℕ)
  printed_at s (Answer line) = output.reply (program_of v) v.rule v.limits s line
  printed_at s RunWaiting = if is_over (program_of v) v.rule v.limits s then [] else batch_lines (program_of v) v.rule v.limits s.core

  -- the cores that its batch runs on, where one is due and has a place
  abbrev pub ran_at : Standing → Step → List Core
  ran_at s step = if s.is_full then [] else ran_by v (move_of s step)

  -- What steps do, one after another

  unfoldable pub standing_after : Standing → List Step → Standing
  standing_after s [] = s
  standing_after s (step ∷ steps) = standing_after (behind s step) steps

  unfoldable pub printed : Standing → List Step → List (List ℕ)
  printed s [] = []
  printed s (step ∷ steps) = printed_at s step ++ printed (behind s step) steps

  -- the cores that their batches run on
  unfoldable pub ran_on : Standing → List Step → List Core
  ran_on s [] = []
  ran_on s (step ∷ steps) = ran_at s step ++ ran_on (behind s step) steps

  -- Of an input

  -- the steps of these lines, and then of the end of the input
  abbrev pub last_steps : Standing → List Line → List Step
  last_steps s lines = answers lines ++ endings (standing_after s (answers lines))

  abbrev pub all_steps : Core → List ℕ → List Step
  all_steps core bytes = last_steps (begun core) (all_lines bytes)

-- the steps of the whole lines of an input
abbrev pub whole_steps : List ℕ → List Step
whole_steps bytes = answers (whole_lines bytes)
