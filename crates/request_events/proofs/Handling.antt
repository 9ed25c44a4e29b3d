-- Events one behind another, and what becomes of the frames where a call ends.
use Rattle.std.proofs.Common.{◌≡◌, ◌∙◌, ℕ, Bool, true, false, cond, Option, Some, List, [], ◌∷◌, ◌++◌, refl, sym, ap, subst}
use Rattle.std.specs.Ordering.{eq_by_cmp}
use Rattle.std.specs.FinMap as map
use Rattle.std.specs.FinSet as set
use Rattle.py_tree.specs.ClassRules.{PlainTable}
use Rattle.sf_value.specs.Keys.{Key, key_cmp, key_of}
use Rattle.sf_value.proofs.Maps.{key_total, key_exact, tied_key}
use Rattle.sf_value.specs.declared.Failure.{Failure}
use Rattle.sf_value.specs.declared.Outcome.{Outcome}
use Rattle.sf_value.specs.declared.value.Value.{Value}
use Rattle.sf_value.specs.declared.value.Ref.{Ref}
use Rattle.program_meaning.specs.ClassTables.{Source}
use Rattle.program_meaning.specs.World.{State, World, Gives, Got, Fell, reading}
use Rattle.program_meaning.proofs.HereLaws.{world_in}
use Rattle.block_code.specs.declared.event.Frame.{Frame}
use Rattle.block_code.specs.declared.event.Event.{Event}
use Rattle.block_code.specs.declared.event.EventKind.TheVariants as kind
use Rattle.block_code.specs.PlainBlocks.{PlainBlock}
use Rattle.block_runs.specs.EventStep.{behind_it, up_to, one_before, lasts, resumed, names_it, block_of, Step, step_of, target_of, given, caught, thrown}
use Rattle.request_events.specs.RequestEvents.{behind, Handles, Comes}

-- Frames with one more behind

pub lasts_pushed : (fs : List Frame) (f : Frame) → lasts (fs ++ f ∷ []) ≡ Some (record { before = fs; last = f })
unfolding lasts
lasts_pushed [] f = refl
lasts_pushed (g ∷ fs) f = ap (one_before g) (lasts_pushed fs f)

pub resumed_pushed : (fs : List Frame) (f : Frame) (o : Outcome) → resumed (fs ++ f ∷ []) o ≡ kind.Resume o
resumed_pushed [] f o = refl
resumed_pushed (g ∷ fs) f o = refl

module _ (passes : Frame → Bool) where
  all_behind : (g : Frame) (fs : List Frame) (f : Frame) (b : Bool) → behind_it g (fs ++ f ∷ []) b ≡ g ∷ fs ++ f ∷ []
  all_behind g [] f b = refl
  all_behind g (h ∷ fs) f b = refl

  -- the last one passes
  pub up_to_last : (fs : List Frame) (f : Frame) → passes f ≡ true → up_to passes (fs ++ f ∷ []) ≡ fs ++ f ∷ []
  unfolding up_to
  up_to_last [] f is = ap (behind_it f []) is
  up_to_last (g ∷ fs) f is = ap (λ rest. behind_it g rest (passes g)) (up_to_last fs f is) ∙ all_behind g fs f (passes g)

  -- it doesn't
  pub up_to_before : (fs : List Frame) (f : Frame) → passes f ≡ false → up_to passes (fs ++ f ∷ []) ≡ up_to passes fs
  unfolding up_to
  up_to_before [] f is = ap (behind_it f []) is
  up_to_before (g ∷ fs) f is = ap (λ rest. behind_it g rest (passes g)) (up_to_before fs f is)

-- A record that is left as it was

put_again : (s : State) (k : Key) (fields : List Value) → map.get s k ≡ Some fields → map.insert s k fields ≡ s
put_again s k fields is = map.same_map key_total key_exact (map.insert s k fields) s (λ q. map.get-insert key_total s k fields q ∙ by q (eq_by_cmp key_cmp q k) refl)
  where
    by : (q : Key) (b : Bool) → eq_by_cmp key_cmp q k ≡ b → cond b (Some fields) (map.get s q) ≡ map.get s q
    by q true tie = sym (ap (map.get s) (tied_key q k tie) ∙ is)
    by q false tie = refl

-- a step that hasn't written, and leaves the record that is there
pub only_read : (w : World) (at : Key) (fields : List Value) (next : Event) → map.get w.state at ≡ Some fields → behind w at (record { held = Some fields; wrote = false; next = next }) ≡ reading w at
only_read w at fields next is = ap (λ (s : State). record { state = s; reads = set.insert w.reads at; writes = w.writes }) (put_again w.state at fields is)

module _ (src : Source) (tables : List PlainTable) (graph : List (List PlainBlock)) where
  -- Events one behind another

  pub record Reaches (w : World) (e : Event) (after : World) (next : Event) : Type 0 where
    pub events : List Event
    pub by : Comes src tables graph w e events after next

  append : (es more : List Event) (w : World) (e : Event) (u : World) (d : Event) (v : World) (c : Event) → Comes src tables graph w e es u d → Comes src tables graph u d more v c → Comes src tables graph w e (es ++ more) v c
  unfolding Comes
  append [] more w e u d v c a b = subst (λ x. Comes src tables graph x e more v c) a.0 (subst (λ y. Comes src tables graph u y more v c) a.1 b)
  append (x ∷ es) more w e u d v c a b = (a.0, a.1, a.2, a.3, append es more a.1 a.2 u d v c a.4 b)

  pub reaches_same : (w : World) (e : Event) (after : World) (next : Event) → after ≡ w → next ≡ e → Reaches w e after next
  unfolding Comes
  reaches_same w e after next p q = record { events = []; by = (p, q) }

  pub reaches_then : (w : World) (e : Event) (u : World) (d : Event) (v : World) (c : Event) → Reaches w e u d → Reaches u d v c → Reaches w e v c
  reaches_then w e u d v c a b = record { events = a.events ++ b.events; by = append a.events b.events w e u d v c a.by b.by }

  pub reaches_by : (w : World) (e : Event) (u : World) (d : Event) (v : World) (c : Event) → Handles src tables graph w e u d → Reaches u d v c → Reaches w e v c
  unfolding Comes
  reaches_by w e u d v c h r = record { events = e ∷ r.events; by = (refl, u, d, h, r.by) }

  -- an event that comes to a step on the record of its target
  pub handled : (w : World) (e : Event) (target : Ref) (held : Option (List Value)) (fuel : ℕ) (s : Step) → target_of e.kind (lasts e.frames) ≡ Some target → map.get w.state (key_of target) ≡ held → step_of src tables graph fuel e.kind e.tx e.frames e.steps held ≡ Some s
      → Handles src tables graph w e (behind w (key_of target) s) s.next
  handled w e target held fuel s is there steps = record {
    target = target;
    is_target = is;
    step = s;
    by = record { fuel = fuel; by = ap (step_of src tables graph fuel e.kind e.tx e.frames e.steps) there ∙ steps };
    is_after = refl;
    is_next = refl;
  }

  -- Where a call ends

  -- the event that gives its result to these frames
  abbrev pub back : ℕ → List Frame → Gives World Value → Event
  back tx frames (Got v w n) = given src tables graph tx frames v n
  back tx frames (Fell f w n) = thrown src tables graph tx frames f n

  -- events lead to the result of a call
  abbrev pub ComesBack : ℕ → List Frame → World → Event → Gives World Value → Type 0
  ComesBack tx frames w e g = Reaches w e (world_in g) (back tx frames g)

  -- this frame catches a failure
  pub caught_last : (fs : List Frame) (f : Frame) (x : Failure) → names_it (block_of src tables graph f) x ≡ true → caught src tables graph (fs ++ f ∷ []) x ≡ fs ++ f ∷ []
  caught_last fs f x is = up_to_last (λ g. names_it (block_of src tables graph g) x) fs f is

  pub caught_before : (fs : List Frame) (f : Frame) (x : Failure) → names_it (block_of src tables graph f) x ≡ false → caught src tables graph (fs ++ f ∷ []) x ≡ caught src tables graph fs x
  caught_before fs f x is = up_to_before (λ g. names_it (block_of src tables graph g) x) fs f is
