-- What an event comes to in the parts of the code that handle it.
use Rattle.std.specs.Prelude.{◌≡◌, ℕ, List, [], ◌∷◌, ◌++◌, Some, None, option_map, IfOk}
use Rattle.std.specs.Borrow.{Bor}
use Rattle.std.specs.declared.option.Option.{Option}
use Rattle.std.specs.declared.result.Result.{Result}
use Rattle.std.specs.declared.alloc.AllocError.{AllocError}
use Rattle.py_tree.specs.ClassRules.{PlainTable}
use Rattle.sf_value.specs.declared.Failure.{Failure}
use Rattle.sf_value.specs.declared.value.Value.{Value}
use Rattle.sf_value.specs.declared.value.Ref.{Ref}
use Rattle.sf_value.specs.declared.value.Record.{Record}
use Rattle.sf_value.specs.declared.Outcome.{Outcome}
use Rattle.sf_value.specs.declared.Outcome.TheVariants as outcome
use Rattle.program_meaning.specs.declared.vars.Var.{Var}
use Rattle.program_meaning.specs.ClassTables.{Source}
use Rattle.program_meaning.specs.Sources.{source_of}
use Rattle.program_meaning.specs.Calls.{made_record}
use Rattle.block_code.specs.declared.event.Frame.{Frame}
use Rattle.block_code.specs.declared.event.Event.{Event}
use Rattle.block_code.specs.declared.event.EventKind.{EventKind}
use Rattle.block_code.specs.declared.event.EventKind.TheVariants as kind
use Rattle.block_code.specs.declared.graph.Graph.{Graph}
use Rattle.block_code.specs.GraphViews.{graph_tables, graph_blocks}
use Rattle.block_code.specs.PlainBlocks.{PlainBlock}
use Rattle.block_code.specs.Places.{blocks_of, block_at}
use Rattle.block_code.specs.EventsFit.{CallsIt, EventFits}
use Rattle.block_runs.specs.EventStep.{Part as BlockPart, Lasts, lasts, event, resumed, Step, target_of, block_of, frame, finish, from, created, enter, make, go_on, awaited_by, catch, caught_by, resume, step_of}
use Rattle.block_runs.specs.StepFits.{HeldFits}
use Rattle.event_step.specs.declared.method.Running.{Running}
use Rattle.event_step.specs.declared.method.Part.{Part}
use Rattle.event_step.specs.declared.handling.Handled.{Handled}
use Rattle.event_step.specs.declared.entered.Code.{Code}
use Rattle.event_step.specs.declared.entered.Entered.{Entered}
use Rattle.event_step.specs.Turns.{ComesAs, RanksFall}
use Rattle.event_step.specs.Frames.{staying}

-- Views

abbrev pub fields_of : Option Record → Option (List Value)
fields_of held = option_map (λ (r : Record). r.fields) held

abbrev pub lent : Option (Bor Record) → Option (List Value)
lent held = option_map (λ (r : Bor Record). r.now.fields) held

abbrev pub as_step : Handled → Step
as_step h = record { held = fields_of h.held; wrote = h.wrote; next = h.next }

abbrev pub source_in : Code → Source
source_in code = source_of code.program.now

abbrev pub tables_in : Code → List PlainTable
tables_in code = graph_tables code.graph.now

abbrev pub blocks_in : Code → List (List PlainBlock)
blocks_in code = graph_blocks code.graph.now

-- What follows

abbrev pub given_now : ℕ → List Frame → Value → ℕ → Event
given_now tx frames v n = event tx n frames (resumed frames (outcome.Value v))

abbrev pub thrown_in : Graph → ℕ → List Frame → Failure → ℕ → Event
thrown_in g tx frames f n = event tx n (staying (graph_tables g) (graph_blocks g) frames f) (resumed (staying (graph_tables g) (graph_blocks g) frames f) (outcome.Failed f))

abbrev pub frame_in : Code → Entered → ℕ → List Var → Frame
frame_in code entered number vars = frame (source_in code) (tables_in code) (blocks_in code) entered.at entered.method number vars

abbrev pub handled_given : Entered → Running → Value → Handled
handled_given entered running v = record { held = Some running.held; wrote = running.wrote; next = given_now entered.tx entered.frames v running.steps }

abbrev pub handled_failed : Graph → Entered → Running → Failure → Handled
handled_failed g entered running f = record { held = Some running.held; wrote = running.wrote; next = thrown_in g entered.tx entered.frames f running.steps }

abbrev pub handled_waiting : Code → Entered → Running → ℕ → EventKind → Handled
handled_waiting code entered running number k = record {
  held = Some running.held;
  wrote = running.wrote;
  next = event entered.tx running.steps (entered.frames ++ frame_in code entered number running.vars ∷ []) k;
}

-- What is meant, by the fuel

abbrev pub Meant : Type 0
Meant = ℕ → Option Step

abbrev pub from_in : Code → Entered → ℕ → Running → Meant
from_in code entered number running fuel =
    from (source_in code) (tables_in code) (blocks_in code) fuel entered.at entered.method entered.tx entered.frames number running.vars running.held.fields running.steps

abbrev pub finish_in : Code → Entered → BlockPart → Step
finish_in code entered p = finish (source_in code) (tables_in code) (blocks_in code) entered.at entered.method entered.tx entered.frames p

abbrev pub entering_in : Code → Entered → List Value → ℕ → Option (List Value) → Meant
entering_in code entered args n held fuel = enter (source_in code) (tables_in code) (blocks_in code) fuel entered.at entered.method args entered.tx entered.frames n held

abbrev pub created_in : Code → Ref → List Value → ℕ → List Frame → ℕ → Step
created_in code to args tx frames n = created (source_in code) (tables_in code) (blocks_in code) to tx frames (made_record (source_in code) (to.class, to.key) args n)

abbrev pub making_in : Code → Ref → List Value → ℕ → List Frame → ℕ → Option (List Value) → Meant
making_in code to args tx frames n held fuel = make (source_in code) (tables_in code) (blocks_in code) to args tx frames n held

abbrev pub going_on_in : Code → Frame → Value → ℕ → List Frame → ℕ → List Value → Meant
going_on_in code last v tx frames n fields fuel =
    go_on (source_in code) (tables_in code) (blocks_in code) fuel
    (awaited_by (source_in code) (tables_in code) (blocks_in code) (block_of (source_in code) (tables_in code) (blocks_in code) last))
    v tx (record { before = frames; last = last }) fields n

abbrev pub catching_in : Code → Frame → Failure → ℕ → List Frame → ℕ → List Value → Meant
catching_in code last f tx frames n fields fuel =
    catch (source_in code) (tables_in code) (blocks_in code) fuel
    (caught_by (source_in code) (tables_in code) (blocks_in code) (block_of (source_in code) (tables_in code) (blocks_in code) last) f)
    tx (record { before = frames; last = last }) fields n

abbrev pub resuming_in : Code → Outcome → ℕ → List Frame → ℕ → Option (List Value) → Meant
resuming_in code o tx frames n held fuel = resume (source_in code) (tables_in code) (blocks_in code) fuel o tx (lasts frames) n held

abbrev pub step_in : Code → EventKind → ℕ → List Frame → ℕ → Option (List Value) → Meant
step_in code k tx frames n held fuel = step_of (source_in code) (tables_in code) (blocks_in code) fuel k tx frames n held

-- this is meant, with some fuel
pub record ComesTo (o : Meant) (s : Step) : Type 0 where
  pub fuel : ℕ
  pub by : o fuel ≡ Some s

-- What is asked

-- what is meant is a step whose event fits; ranks fall where blocks are to run
pub record DueWhere (code : Code) (ranks : Type 0) (o : Meant) : Type 0 where
  pub step : Step
  pub comes : ComesTo o step
  pub next_fits : EventFits (tables_in code) (blocks_in code) step.next
  pub fall : ranks

abbrev pub RanksOf : Code → ℕ → ℕ → Type 0
RanksOf code class method = RanksFall (blocks_of (tables_in code) (blocks_in code) class method)

abbrev pub RanksOfLast : Code → List Frame → Type 0
RanksOfLast code frames = (l : Lasts) → lasts frames ≡ Some l → RanksOf code l.last.at.class l.last.method

abbrev pub RanksFor : Code → EventKind → List Frame → Type 0
RanksFor code (kind.Enter to method args) frames = RanksOf code to.class method
RanksFor code (kind.Make to args) frames = Unit {0}
RanksFor code (kind.Resume o) frames = RanksOfLast code frames
RanksFor code (kind.Done o) frames = Unit {0}

abbrev pub Due : Code → ℕ → ℕ → Meant → Type 0
Due code class method o = DueWhere code (RanksOf code class method) o

abbrev pub DueToResume : Code → List Frame → Meant → Type 0
DueToResume code frames o = DueWhere code (RanksOfLast code frames) o

abbrev pub IsDue : Code → EventKind → ℕ → List Frame → ℕ → Option (List Value) → Type 0
IsDue code k tx frames n held = DueWhere code (RanksFor code k frames) (step_in code k tx frames n held)

-- the block of this number is there, and ends with a call of a method
pub record CallsThere (tables : List PlainTable) (graph : List (List PlainBlock)) (class method number : ℕ) : Type 0 where
  pub waits : PlainBlock
  pub is_block : block_at tables graph class method number ≡ Some waits
  pub to : ℕ
  pub called : ℕ
  pub calls : CallsIt waits.end to called

-- a part is one whose event fits
pub record FinishFits (code : Code) (entered : Entered) (running : Running) (x : Part) : Type 0 where
  pub part : BlockPart
  pub is : ComesAs x running part
  pub fits : EventFits (tables_in code) (blocks_in code) (finish_in code entered part).next

-- and this becomes of each that it may be
abbrev pub FinishesAs : Result Handled AllocError → Code → Entered → Running → Part → Type 0
FinishesAs result code entered running x =
    (p : BlockPart) → ComesAs x running p → EventFits (tables_in code) (blocks_in code) (finish_in code entered p).next → IfOk result (λ h. as_step h ≡ finish_in code entered p)

-- What is left fits

abbrev pub FitsAt : List PlainTable → Option Ref → Option (List Value) → Type 0
FitsAt tables None held = Unit {0}
FitsAt tables (Some at) held = HeldFits tables at.class held

-- a record, where there is one, fits the class of the entity of an event
abbrev pub TargetFits : List PlainTable → Event → Option (List Value) → Type 0
TargetFits tables e held = FitsAt tables (target_of e.kind (lasts e.frames)) held
