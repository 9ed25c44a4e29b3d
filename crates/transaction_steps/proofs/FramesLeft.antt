-- Which frames a step leaves: those that waited, or fewer, and where a method comes to wait, one more, at the target.
use Rattle.std.proofs.Common.{◌≡◌, ◌∙◌, ℕ, Bool, true, false, true≢false, Option, Some, None, List, [], ◌∷◌, ◌++◌, cond, refl, sym, ap, subst}
use Rattle.std.specs.Prelude.{is_some, slice_get}
use Rattle.std.specs.List.{AllByRecursion}
use Rattle.std.specs.FinMap as map
use Rattle.std.specs.Ordering.{eq_by_cmp}
use Rattle.std.specs.Cmp.{eq_by_cmp_equiv}
use Rattle.std.proofs.lemmas.Option.{same_Some, none-some}
use Rattle.py_tree.specs.ClassRules.{PlainTable, params_of}
use Rattle.sf_value.specs.Keys.{Key, key_cmp}
use Rattle.sf_value.proofs.Maps.{key_total}
use Rattle.sf_value.specs.declared.value.Value.{Value}
use Rattle.sf_value.specs.declared.value.Ref.{Ref}
use Rattle.sf_value.specs.declared.Outcome.{Outcome}
use Rattle.sf_value.specs.declared.Outcome.TheVariants as outcome
use Rattle.program_meaning.specs.declared.vars.Var.{Var}
use Rattle.program_meaning.specs.ClassTables.{Source, methods_of}
use Rattle.program_meaning.specs.World.{State, Gives, Got, Fell, assigned}
use Rattle.program_meaning.specs.Calls.{bound, made_record}
use Rattle.block_code.specs.declared.event.Frame.{Frame}
use Rattle.block_code.specs.declared.event.EventKind.{EventKind}
use Rattle.block_code.specs.declared.event.EventKind.TheVariants as kind
use Rattle.block_code.specs.PlainBlocks.{PlainBlock}
use Rattle.block_code.specs.Places.{blocks_of}
use Rattle.block_code.specs.EventsFit.{Awaits}
use Rattle.block_runs.specs.BlockRuns.{run_blocks}
use Rattle.block_runs.specs.EventStep.{Part, Gave, Failed, Asks, Wants, waiting, has_room, behind_it, up_to, Lasts, one_before, lasts, Step, target_of, block_of, frame, site, finish, finished, from, created, go_on, awaited_by, catch, caught_by, resume, step_of}
use Rattle.request_events.specs.RequestEvents.{with_left}

-- Lists of frames

pub each_more : (P Q : Frame → Type 0) (fs : List Frame) → ((f : Frame) → P f → Q f) → AllByRecursion P fs → AllByRecursion Q fs
each_more P Q [] more all = tt
each_more P Q (f ∷ fs) more all = (more f all.0, each_more P Q fs more all.1)

module _ (P : Frame → Type 0) where
  one_more : (fs : List Frame) (g : Frame) → AllByRecursion P fs → P g → AllByRecursion P (fs ++ g ∷ [])
  one_more [] g all p = (p, tt)
  one_more (f ∷ fs) g all p = (all.0, one_more fs g all.1 p)

  fewer : (passes : Frame → Bool) (fs : List Frame) → AllByRecursion P fs → AllByRecursion P (up_to passes fs)
  unfolding up_to
  fewer passes [] all = tt
  fewer passes (f ∷ fs) all = by (up_to passes fs) (passes f) (fewer passes fs all.1)
    where
      by : (rest : List Frame) (b : Bool) → AllByRecursion P rest → AllByRecursion P (behind_it f rest b)
      by [] true more = (all.0, tt)
      by [] false more = tt
      by (g ∷ gs) b more = (all.0, more)

  -- the last one, and those before it
  pub last_of_all : (fs : List Frame) (l : Lasts) → lasts fs ≡ Some l → AllByRecursion P fs → AllByRecursion P l.before × P l.last
  unfolding lasts
  last_of_all [] l is all = absurd (none-some l is)
  last_of_all (f ∷ fs) l is all = by (lasts fs) refl is (λ k is. last_of_all fs k is all.1)
    where
      by : (o : Option Lasts) → lasts fs ≡ o → one_before f o ≡ Some l → ((k : Lasts) → lasts fs ≡ Some k → AllByRecursion P k.before × P k.last) → AllByRecursion P l.before × P l.last
      by None none e rest = subst (λ (k : Lasts). AllByRecursion P k.before × P k.last) (same_Some _ _ e) (tt, all.0)
      by (Some k) some e rest = let r : AllByRecursion P k.before × P k.last = rest k some in subst (λ (k : Lasts). AllByRecursion P k.before × P k.last) (same_Some _ _ e) ((all.0, r.0), r.1)

  -- Steps

  -- the frames that a step leaves pass, where one passes that comes to wait at the target; and what it wrote is there
  pub record Leaves (at : Ref) (s : Step) : Type 0 where
    pub frames : (is_some s.held ≡ true → (f : Frame) → f.at ≡ at → P f) → AllByRecursion P s.next.frames
    pub written : s.wrote ≡ true → is_some s.held ≡ true

  module _ (src : Source) (tables : List PlainTable) (graph : List (List PlainBlock)) where
    finish_leaves : (at : Ref) (method tx : ℕ) (frames : List Frame) (p : Part) → AllByRecursion P frames → Leaves at (finish src tables graph at method tx frames p)
    finish_leaves at method tx frames (Gave v h n) all = record { frames = λ new. all; written = λ wrote. refl }
    finish_leaves at method tx frames (Failed f h n) all = record { frames = λ new. fewer _ frames all; written = λ wrote. refl }
    finish_leaves at method tx frames (Asks to called args number vars h n) all = record { frames = λ new. one_more frames (frame src tables graph at method number vars) all (new refl _ refl); written = λ wrote. refl }
    finish_leaves at method tx frames (Wants class args number vars h n) all = record { frames = λ new. one_more frames (frame src tables graph at method number vars) all (new refl _ refl); written = λ wrote. refl }

    from_leaves : (fuel : ℕ) (at : Ref) (method tx : ℕ) (frames : List Frame) (number : ℕ) (vars : List Var) (fields : List Value) (n : ℕ) (s : Step) → AllByRecursion P frames → from src tables graph fuel at method tx frames number vars fields n ≡ Some s → Leaves at s
    from_leaves fuel at method tx frames number vars fields n s all e =
        by (run_blocks (site src tables graph at frames) (waiting (has_room frames)) (blocks_of tables graph at.class method) fuel number vars (record { fields = fields; wrote = false }) n) e
      where
        by : (o : Option Part) → finished src tables graph at method tx frames o ≡ Some s → Leaves at s
        by None e = absurd (none-some s e)
        by (Some p) e = subst (Leaves at) (same_Some _ _ e) (finish_leaves at method tx frames p all)

    -- a step that writes nothing, and goes on with a result or a failure
    thrown_leaves : (at : Ref) (s : Step) → s.wrote ≡ false → AllByRecursion P s.next.frames → Leaves at s
    thrown_leaves at s kept all = record { frames = λ new. all; written = λ wrote. absurd (true≢false (sym wrote ∙ kept)) }

    created_leaves : (at : Ref) (tx : ℕ) (frames : List Frame) (g : Gives (List Value) Value) → AllByRecursion P frames → Leaves at (created src tables graph at tx frames g)
    created_leaves at tx frames (Got v fields n) all = record { frames = λ new. all; written = λ wrote. refl }
    created_leaves at tx frames (Fell f fields n) all = thrown_leaves at _ refl (fewer _ frames all)

    resume_leaves : (fuel : ℕ) (o : Outcome) (tx : ℕ) (l : Lasts) (n : ℕ) (held : Option (List Value)) (s : Step) → AllByRecursion P l.before → resume src tables graph fuel o tx (Some l) n held ≡ Some s → Leaves l.last.at s
    resume_leaves fuel o tx l n None s all e = absurd (none-some s e)
    resume_leaves fuel (outcome.Value v) tx l n (Some fields) s all e = by (awaited_by src tables graph (block_of src tables graph l.last)) e
      where
        by : (a : Option Awaits) → go_on src tables graph fuel a v tx l fields n ≡ Some s → Leaves l.last.at s
        by None e = absurd (none-some s e)
        by (Some a) e = from_leaves fuel l.last.at l.last.method tx l.before a.after (assigned l.last.vars a.into v) fields n s all e
    resume_leaves fuel (outcome.Failed f) tx l n (Some fields) s all e = by (caught_by src tables graph (block_of src tables graph l.last) f) e
      where
        by : (to : Option ℕ) → catch src tables graph fuel to tx l fields n ≡ Some s → Leaves l.last.at s
        by None e = absurd (none-some s e)
        by (Some to) e = from_leaves fuel l.last.at l.last.method tx l.before to l.last.vars fields n s all e

    resumed_leaves : (fuel : ℕ) (o : Outcome) (tx : ℕ) (frames : List Frame) (n : ℕ) (held : Option (List Value)) (s : Step) (target : Ref) → target_of (kind.Resume o) (lasts frames) ≡ Some target → AllByRecursion P frames
        → resume src tables graph fuel o tx (lasts frames) n held ≡ Some s → Leaves target s
    resumed_leaves fuel o tx frames n held s target is all e = by (lasts frames) refl is e
      where
        by : (l : Option Lasts) → lasts frames ≡ l → target_of (kind.Resume o) l ≡ Some target → resume src tables graph fuel o tx l n held ≡ Some s → Leaves target s
        by None none is e = absurd (none-some s e)
        by (Some l) some is e = subst (λ at. Leaves at s) (same_Some _ _ is) (resume_leaves fuel o tx l n held s (last_of_all frames l some all).0 e)

    pub step_leaves : (fuel : ℕ) (k : EventKind) (tx : ℕ) (frames : List Frame) (n : ℕ) (held : Option (List Value)) (s : Step) (target : Ref) → target_of k (lasts frames) ≡ Some target → AllByRecursion P frames
        → step_of src tables graph fuel k tx frames n held ≡ Some s → Leaves target s
    step_leaves fuel (kind.Enter at method args) tx frames n None s target is all e = subst (Leaves target) (same_Some _ _ e) (thrown_leaves target _ refl (fewer _ frames all))
    step_leaves fuel (kind.Enter at method args) tx frames n (Some fields) s target is all e =
        subst (λ at. Leaves at s) (same_Some _ _ is) (from_leaves fuel at method tx frames 0 (bound (params_of (slice_get (methods_of src at.class) method)) args) fields n s all e)
    step_leaves fuel (kind.Make at args) tx frames n None s target is all e =
        subst (λ at. Leaves at s) (same_Some _ _ is) (subst (Leaves at) (same_Some _ _ e) (created_leaves at tx frames (made_record src (at.class, at.key) args n) all))
    step_leaves fuel (kind.Make at args) tx frames n (Some fields) s target is all e = subst (Leaves target) (same_Some _ _ e) (thrown_leaves target _ refl (fewer _ frames all))
    step_leaves fuel (kind.Resume o) tx frames n held s target is all e = resumed_leaves fuel o tx frames n held s target is all e
    step_leaves fuel (kind.Done o) tx frames n held s target is all e = absurd (none-some s e)

-- Records that are there

-- what is left of one record leaves the others where they are
pub stays_there : (s : State) (at : Key) (held : Option (List Value)) (q : Key) → is_some (map.get s q) ≡ true → is_some (map.get (with_left s at held) q) ≡ true
stays_there s at None q there = there
stays_there s at (Some fields) q there = by (eq_by_cmp key_cmp q at) (map.get-insert key_total s at fields q)
  where
    by : (b : Bool) → map.get (map.insert s at fields) q ≡ cond b (Some fields) (map.get s q) → is_some (map.get (map.insert s at fields) q) ≡ true
    by true is = ap is_some is
    by false is = ap is_some is ∙ there

pub is_left : (s : State) (at : Key) (held : Option (List Value)) → is_some held ≡ true → is_some (map.get (with_left s at held) at) ≡ true
is_left s at None there = absurd (true≢false (sym there))
is_left s at (Some fields) there = ap is_some (map.get-insert key_total s at fields at ∙ ap (λ b. cond b (Some fields) (map.get s at)) ((eq_by_cmp_equiv key_total).refl at))
