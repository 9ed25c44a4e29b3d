-- Single lines of a session in batches, worked out by hand.
use Rattle.std.proofs.Common.{◌≡◌, true, false, List, [], ◌∷◌, refl}
use Rattle.std.specs.Prelude.{codes}
use Rattle.sf_value.specs.declared.Act.TheVariants as act
use Rattle.sf_value.specs.declared.Request.{Request}
use Rattle.program_meaning.specs.ClassTables.{Source}
use Rattle.program_meaning.specs.Serial.{no_state}
use Rattle.serial_order.specs.ConflictFree.{Access}
use Rattle.reservations.specs.CommitRules.{Chosen}
use Rattle.request_json.specs.Actions.{Ended, Refuse, LineTooLong, action_of}
use Rattle.request_json.specs.ReplyLines.{bad_line}
use Rattle.engine.specs.declared.arrival.Arrival.TheVariants as arrival
use Rattle.engine.specs.Cores.{Core, empty_core}
use Rattle.batch_output.specs.BatchOutput.{Limits, begun, answer, answer_on, fills, settled, batch_lines, step, reply, last_replies, end_replies}

abbrev src : Source
src = record { program = []; names = [] }

abbrev two_at_once : Limits
two_at_once = record { batch = 2; history = 1 }

abbrev one_request : Request
one_request = record { id = codes "a"; act = act.New 0 [] }

abbrev one_waits : Core
one_waits = record { history = []; state = no_state; pending = one_request ∷ [] }

abbrev two_wait : Core
two_wait = record { history = []; state = no_state; pending = one_request ∷ record one_request { id = codes "b" } ∷ [] }

module _ (rule : List Access → Chosen) where
  -- an empty line counts, and prints nothing where nothing waits
  empty_line_counts : step src rule two_at_once (begun empty_core) (Ended []) ≡ record { core = empty_core; lines = 1; is_full = false }
  unfolding action_of
  empty_line_counts = refl

  empty_line_prints_nothing : reply src rule two_at_once (begun empty_core) (Ended []) ≡ []
  unfolding action_of
  empty_line_prints_nothing = refl

  -- so does a line of CR alone
  cr_alone_prints_nothing : reply src rule two_at_once (begun empty_core) (Ended (13 ∷ [])) ≡ []
  unfolding action_of
  cr_alone_prints_nothing = refl

  -- a line that can't be used is refused with its number
  long_line_is_refused : answer empty_core 4 (Refuse LineTooLong) ≡ bad_line (codes "line too long") 4 ∷ []
  long_line_is_refused = refl

  other_content_is_refused : answer_on one_waits 5 arrival.Reused ≡ bad_line (codes "id reused") 5 ∷ []
  other_content_is_refused = refl

  -- the second request makes a batch of two
  first_waits : fills src rule two_at_once empty_core arrival.New ≡ false
  first_waits = refl

  second_fills : fills src rule two_at_once one_waits arrival.New ≡ true
  second_fills = refl

  -- a batch of two has no place in a history of one: nothing is printed, and the session stops with both waiting
  full_stops : settled src rule two_at_once (begun two_wait) ≡ record { core = two_wait; lines = 0; is_full = true }
  full_stops = refl

  full_prints_nothing : batch_lines src rule two_at_once two_wait ≡ []
  full_prints_nothing = refl

  -- at the end of an input without lines nothing is printed where nothing waits
  end_prints_nothing : end_replies src rule two_at_once (begun empty_core) ≡ []
  unfolding last_replies
  end_prints_nothing = refl
