-- One event on one record: what becomes of the record, whether it was written, and the next event.
--
-- A method runs on the record of its own entity, up to its end or to a call or a creation. There it waits in a frame, which keeps
-- the variables that are read once it goes on. A result resumes the last frame; a failure resumes the last one whose block has a catch
-- that names it.
use Rattle.std.specs.Prelude.{◌≡◌, ◌-◌, ◌==◌, ℕ, Bool, true, false, nat_lt, if◌then◌else◌, List, [], ◌∷◌, ◌++◌, length, filter, Some, None, slice_get, is_some}
use Rattle.std.specs.declared.option.Option.{Option}
use Rattle.std.specs.List.{list_any}
use Rattle.py_tree.specs.ClassRules.{PlainTable, params_of}
use Rattle.sf_value.specs.Keys.{Key}
use Rattle.sf_value.specs.declared.Failure.{Failure}
use Rattle.sf_value.specs.declared.value.Value.{Value}
use Rattle.sf_value.specs.declared.value.Value.TheVariants as value
use Rattle.sf_value.specs.declared.value.Ref.{Ref}
use Rattle.sf_value.specs.declared.Outcome.{Outcome}
use Rattle.sf_value.specs.declared.Outcome.TheVariants as outcome
use Rattle.program_meaning.specs.declared.vars.Var.{Var}
use Rattle.program_meaning.specs.ClassTables.{Source, methods_of}
use Rattle.program_meaning.specs.World.{Gives, Got, Fell, step, step_limit, recursion_error, no_entity, already_exists, assigned}
use Rattle.program_meaning.specs.Evaluation.{Site}
use Rattle.program_meaning.specs.Calls.{Held, on_record, bound, made_record, new_key}
use Rattle.block_code.specs.declared.event.Frame.{Frame}
use Rattle.block_code.specs.declared.event.Event.{Event}
use Rattle.block_code.specs.declared.event.EventKind.{EventKind}
use Rattle.block_code.specs.declared.event.EventKind.TheVariants as kind
use Rattle.block_code.specs.PlainVars.{PlainVar}
use Rattle.block_code.specs.PlainBlocks.{PlainBlock}
use Rattle.block_code.specs.Places.{blocks_of}
use Rattle.block_code.specs.EventsFit.{Awaits, awaited, catch_of, kept_params}
use Rattle.block_runs.specs.BlockRuns.{Exits, run_blocks}

-- Parts of a method

-- how a part ends: with a value, with a failure, or at the call or the creation that the block of this number ends with
pub data Part : Type 0 where
  Gave : (v : Value) → (h : Held) → (n : ℕ) → Part
  Failed : (f : Failure) → (h : Held) → (n : ℕ) → Part
  Asks : (at : Key) → (method : ℕ) → (args : List Value) → (number : ℕ) → (vars : List Var) → (h : Held) → (n : ℕ) → Part
  Wants : (class : ℕ) → (args : List Value) → (number : ℕ) → (vars : List Var) → (h : Held) → (n : ℕ) → Part

-- a call and a creation take a step, and then one more frame has to find room
abbrev pub waiting : Bool → Exits Held Part
waiting room = record {
  gives = Gave;
  fails = Failed;
  calls = λ number at method args into after go falls vars h n.
      step n (falls step_limit vars h n) (λ n. if room then Some (Asks at method args number vars h n) else falls recursion_error vars h n);
  makes = λ number class args into after go falls vars h n.
      step n (falls step_limit vars h n) (λ n. if room then Some (Wants class args number vars h n) else falls recursion_error vars h n);
}

-- one more frame leaves at most 64 methods open, with the one that is entered
abbrev pub has_room : List Frame → Bool
has_room frames = nat_lt (length frames) 63

-- Frames

-- of these variables those that are parameters among these
abbrev pub kept : List PlainVar → List Var → List Var
kept params vars = filter (λ v. list_any (λ p. p.name == v.name.0) params) vars

abbrev pub kept_if : List PlainBlock → PlainBlock → Option Awaits → List Var → List Var
kept_if blocks b None vars = []
kept_if blocks b (Some w) vars = kept (kept_params blocks b w) vars

-- what a frame keeps that waits at the end of this block
abbrev pub kept_at : List PlainBlock → Option PlainBlock → List Var → List Var
kept_at blocks None vars = []
kept_at blocks (Some b) vars = kept_if blocks b (awaited b.end) vars

abbrev pub names_it : Option PlainBlock → Failure → Bool
names_it None f = false
names_it (Some b) f = is_some (catch_of b.catches f.kind)

-- the frames up to the last one that passes
abbrev pub behind_it : Frame → List Frame → Bool → List Frame
behind_it f [] true = f ∷ []
behind_it f [] false = []
behind_it f (g ∷ gs) passes = f ∷ g ∷ gs

unfoldable pub up_to : (Frame → Bool) → List Frame → List Frame
up_to passes [] = []
up_to passes (f ∷ fs) = behind_it f (up_to passes fs) (passes f)

-- the last frame, and those before it
pub record Lasts : Type 0 where
  pub before : List Frame
  pub last : Frame

abbrev pub one_before : Frame → Option Lasts → Option Lasts
one_before f None = Some (record { before = []; last = f })
one_before f (Some l) = Some (record { before = f ∷ l.before; last = l.last })

unfoldable pub lasts : List Frame → Option Lasts
lasts [] = None
lasts (f ∷ fs) = one_before f (lasts fs)

-- Events

abbrev pub event : ℕ → ℕ → List Frame → EventKind → Event
event tx n frames k = record { tx = tx; steps = n; frames = frames; kind = k }

-- a result resumes the last frame, or else it is what the transaction has come to
abbrev pub resumed : List Frame → Outcome → EventKind
resumed [] outcome = kind.Done outcome
resumed (f ∷ fs) outcome = kind.Resume outcome

abbrev pub ref_of : Key → Ref
ref_of at = record { class = at.0; key = at.1 }

-- what an event makes of a record: the record, or none; whether a field was assigned or it was created; and the next event
pub record Step : Type 0 where
  pub held : Option (List Value)
  pub wrote : Bool
  pub next : Event

-- the entity of an event
abbrev pub target_of : EventKind → Option Lasts → Option Ref
target_of (kind.Enter at method args) l = Some at
target_of (kind.Make at args) l = Some at
target_of (kind.Resume o) None = None
target_of (kind.Resume o) (Some l) = Some l.last.at
target_of (kind.Done o) l = None

module _ (src : Source) (tables : List PlainTable) (graph : List (List PlainBlock)) where
  abbrev pub block_of : Frame → Option PlainBlock
  block_of f = slice_get (blocks_of tables graph f.at.class f.method) f.block

  abbrev pub given : ℕ → List Frame → Value → ℕ → Event
  given tx frames v n = event tx n frames (resumed frames (outcome.Value v))

  -- the frames that stay where this failure goes on
  abbrev pub caught : List Frame → Failure → List Frame
  caught frames f = up_to (λ fr. names_it (block_of fr) f) frames

  abbrev pub thrown : ℕ → List Frame → Failure → ℕ → Event
  thrown tx frames f n = event tx n (caught frames f) (resumed (caught frames f) (outcome.Failed f))

  -- this method waits at the end of the block of this number
  abbrev pub frame : Ref → ℕ → ℕ → List Var → Frame
  frame at method number vars = record {
    at = at;
    method = method;
    block = number;
    vars = kept_at (blocks_of tables graph at.class method) (slice_get (blocks_of tables graph at.class method) number) vars;
  }

  -- where code of a method runs that so many frames wait for: on the record, with room for as many calls as may still be open
  abbrev pub site : Ref → List Frame → Site Held
  site at frames = on_record src (at.class, at.key) (63 - length frames)

  abbrev pub finish : Ref → ℕ → ℕ → List Frame → Part → Step
  finish at method tx frames (Gave v h n) = record { held = Some h.fields; wrote = h.wrote; next = given tx frames v n }
  finish at method tx frames (Failed f h n) = record { held = Some h.fields; wrote = h.wrote; next = thrown tx frames f n }
  finish at method tx frames (Asks to called args number vars h n) = record {
    held = Some h.fields;
    wrote = h.wrote;
    next = event tx n (frames ++ frame at method number vars ∷ []) (kind.Enter (ref_of to) called args);
  }
  finish at method tx frames (Wants class args number vars h n) = record {
    held = Some h.fields;
    wrote = h.wrote;
    next = event tx n (frames ++ frame at method number vars ∷ []) (kind.Make (ref_of (new_key src class args)) args);
  }

  abbrev pub finished : Ref → ℕ → ℕ → List Frame → Option Part → Option Step
  finished at method tx frames None = None
  finished at method tx frames (Some p) = Some (finish at method tx frames p)

  -- from the block of this number of a method, on this record
  abbrev pub from : ℕ → Ref → ℕ → ℕ → List Frame → ℕ → List Var → List Value → ℕ → Option Step
  from fuel at method tx frames number vars fields n =
      finished at method tx frames
      (run_blocks (site at frames) (waiting (has_room frames)) (blocks_of tables graph at.class method) fuel number vars (record { fields = fields; wrote = false }) n)

  abbrev pub created : Ref → ℕ → List Frame → Gives (List Value) Value → Step
  created at tx frames (Got v fields n) = record { held = Some fields; wrote = true; next = given tx frames (value.Entity at) n }
  created at tx frames (Fell f fields n) = record { held = None; wrote = false; next = thrown tx frames f n }

  -- an event that enters a method
  abbrev pub enter : ℕ → Ref → ℕ → List Value → ℕ → List Frame → ℕ → Option (List Value) → Option Step
  enter fuel at method args tx frames n None = Some (record { held = None; wrote = false; next = thrown tx frames no_entity n })
  enter fuel at method args tx frames n (Some fields) = from fuel at method tx frames 0 (bound (params_of (slice_get (methods_of src at.class) method)) args) fields n

  -- one that makes an entity
  abbrev pub make : Ref → List Value → ℕ → List Frame → ℕ → Option (List Value) → Option Step
  make at args tx frames n None = Some (created at tx frames (made_record src (at.class, at.key) args n))
  make at args tx frames n (Some fields) = Some (record { held = Some fields; wrote = false; next = thrown tx frames already_exists n })

  -- a frame goes on with a value behind the end at which it waits
  abbrev pub go_on : ℕ → Option Awaits → Value → ℕ → Lasts → List Value → ℕ → Option Step
  go_on fuel None v tx l fields n = None
  go_on fuel (Some w) v tx l fields n = from fuel l.last.at l.last.method tx l.before w.after (assigned l.last.vars w.into v) fields n

  abbrev pub awaited_by : Option PlainBlock → Option Awaits
  awaited_by None = None
  awaited_by (Some b) = awaited b.end

  -- or with a failure where a catch sends it
  abbrev pub catch : ℕ → Option ℕ → ℕ → Lasts → List Value → ℕ → Option Step
  catch fuel None tx l fields n = None
  catch fuel (Some to) tx l fields n = from fuel l.last.at l.last.method tx l.before to l.last.vars fields n

  abbrev pub caught_by : Option PlainBlock → Failure → Option ℕ
  caught_by None f = None
  caught_by (Some b) f = catch_of b.catches f.kind

  abbrev pub resume : ℕ → Outcome → ℕ → Option Lasts → ℕ → Option (List Value) → Option Step
  resume fuel o tx None n held = None
  resume fuel o tx (Some l) n None = None
  resume fuel (outcome.Value v) tx (Some l) n (Some fields) = go_on fuel (awaited_by (block_of l.last)) v tx l fields n
  resume fuel (outcome.Failed f) tx (Some l) n (Some fields) = catch fuel (caught_by (block_of l.last) f) tx l fields n

  -- what is done for an event that asks for this
  abbrev pub step_of : ℕ → EventKind → ℕ → List Frame → ℕ → Option (List Value) → Option Step
  step_of fuel (kind.Enter at method args) tx frames n held = enter fuel at method args tx frames n held
  step_of fuel (kind.Make at args) tx frames n held = make at args tx frames n held
  step_of fuel (kind.Resume o) tx frames n held = resume fuel o tx (lasts frames) n held
  step_of fuel (kind.Done o) tx frames n held = None

  -- an event comes to this step, with some fuel
  pub record StepsTo (e : Event) (held : Option (List Value)) (s : Step) : Type 0 where
    pub fuel : ℕ
    pub by : step_of fuel e.kind e.tx e.frames e.steps held ≡ Some s
