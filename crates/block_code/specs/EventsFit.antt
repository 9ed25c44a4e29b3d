-- When frames and events fit the graph of a program.
use Rattle.std.specs.Prelude.{◌≡◌, ◌==◌, ◌&&◌, if◌then◌else◌, ℕ, Bool, true, false, not, nat_eq, List, [], ◌∷◌, ◌++◌, filter, Some, None, slice_get, is_some}
use Rattle.std.specs.declared.option.Option.{Option}
use Rattle.std.specs.List.{All, list_all, list_any, flat_map}
use Rattle.py_tree.specs.ClassRules.{PlainSig, PlainTable}
use Rattle.py_tree.specs.Reachability.{all_go_on}
use Rattle.py_tree.specs.Flow.{sig_at}
use Rattle.py_tree.specs.PlainTypes.{PlainTy, TEntity}
use Rattle.sf_value.specs.declared.value.Value.{Value}
use Rattle.sf_value.specs.declared.Outcome.{Outcome}
use Rattle.sf_value.specs.declared.Outcome.TheVariants as outcome
use Rattle.program_meaning.specs.declared.vars.Var.{Var}
use Rattle.program_meaning.specs.Fits.{Fits, CallFits, NewFits, FailureFits}
use Rattle.program_meaning.specs.PointFits.{HasValue}
use Rattle.block_code.specs.declared.event.Frame.{Frame}
use Rattle.block_code.specs.declared.event.Event.{Event}
use Rattle.block_code.specs.declared.event.EventKind.{EventKind}
use Rattle.block_code.specs.declared.event.EventKind.TheVariants as kind
use Rattle.block_code.specs.PlainVars.{PlainVar}
use Rattle.block_code.specs.PlainBlocks.{PlainItem, IGive, IFail, ICode, PlainEnd, ECall, EMake, PlainCatch, PlainBlock}
use Rattle.block_code.specs.Places.{block_at, blocks_of}

-- the end of a block can be reached from its start
abbrev pub item_goes_on : PlainItem → Bool
item_goes_on (IGive e) = false
item_goes_on (IFail kind e) = false
item_goes_on (ICode xs) = all_go_on xs
item_goes_on _ = true

-- the block that goes on behind a call or a creation, and what its result is assigned to
pub record Awaits : Type 0 where
  pub into : ℕ
  pub after : ℕ

abbrev pub awaited : PlainEnd → Option Awaits
awaited (ECall on class method args into after) = Some (record { into = into; after = after })
awaited (EMake class args into after) = Some (record { into = into; after = after })
awaited _ = None

-- the first catch that names a kind
abbrev pub catch_of : List PlainCatch → ℕ → Option ℕ
catch_of [] kind = None
catch_of (c ∷ cs) kind = if list_any (nat_eq kind) c.kinds then Some c.to else catch_of cs kind

abbrev pub params_if_there : Option PlainBlock → List PlainVar
params_if_there None = []
params_if_there (Some b) = b.params

-- the parameters that a frame is to keep, of the block that goes on and of those of the catches
abbrev pub kept_params : List PlainBlock → PlainBlock → Awaits → List PlainVar
kept_params blocks b w =
    filter (λ p. not (p.name == w.into)) (params_if_there (slice_get blocks w.after))
    ++ flat_map (λ (c : PlainCatch). params_if_there (slice_get blocks c.to)) b.catches

-- a parameter has a value, which fits its type
pub record IsKept (tables : List PlainTable) (vars : List Var) (p : PlainVar) : Type 0 where
  pub value : Value
  pub has : HasValue vars p.name value
  pub fits : Fits tables p.ty value

abbrev pub each_name_once : List Var → Bool
each_name_once [] = true
each_name_once (v ∷ vs) = not (list_any (λ (u : Var). u.name.0 == v.name.0) vs) && each_name_once vs

-- a frame waits at the end of a block that can be reached, and keeps exactly what goes on from there
pub record FrameFits (tables : List PlainTable) (graph : List (List PlainBlock)) (f : Frame) : Type 0 where
  pub has_method : is_some (sig_at tables f.at.class f.method) ≡ true
  pub waits : PlainBlock
  pub is_block : block_at tables graph f.at.class f.method f.block ≡ Some waits
  pub reached : list_all item_goes_on waits.code ≡ true
  pub for : Awaits
  pub awaits : awaited waits.end ≡ Some for
  pub once : each_name_once f.vars ≡ true
  pub named : All (λ (v : Var). list_any (λ (p : PlainVar). p.name == v.name.0) (kept_params (blocks_of tables graph f.at.class f.method) waits for) ≡ true) f.vars
  pub kept : All (IsKept tables f.vars) (kept_params (blocks_of tables graph f.at.class f.method) waits for)

-- an end calls this method of this class, or makes an entity of this class
abbrev pub CallsIt : PlainEnd → ℕ → ℕ → Type 0
CallsIt (ECall on c m args into after) class method = (c ≡ class) × (m ≡ method)
CallsIt _ class method = ⊥

abbrev pub MakesIt : PlainEnd → ℕ → Type 0
MakesIt (EMake c args into after) class = c ≡ class
MakesIt _ class = ⊥

-- the type of what an end waits for
abbrev pub result_of_method : Option PlainSig → Option PlainTy
result_of_method None = None
result_of_method (Some m) = Some m.result

abbrev pub entity_of_class : Option PlainTable → Option PlainTy
entity_of_class None = None
entity_of_class (Some t) = Some (TEntity t.name)

abbrev pub awaited_type : List PlainTable → PlainEnd → Option PlainTy
awaited_type tables (ECall on class method args into after) = result_of_method (sig_at tables class method)
awaited_type tables (EMake class args into after) = entity_of_class (slice_get tables class)
awaited_type tables _ = None

-- a result fits what an end waits for, or a catch names its failure
abbrev pub AnswersIt : List PlainTable → PlainBlock → Outcome → Type 0
AnswersIt tables b (outcome.Value v) = (ty : PlainTy) × (awaited_type tables b.end ≡ Some ty) × Fits tables ty v
AnswersIt tables b (outcome.Failed f) = FailureFits f × (is_some (catch_of b.catches f.kind) ≡ true)

module _ (tables : List PlainTable) (graph : List (List PlainBlock)) where
  -- what is asked of the end at which a frame waits
  pub record WaitsSo (P : PlainBlock → Type 0) (f : Frame) : Type 0 where
    pub waits : PlainBlock
    pub is_block : block_at tables graph f.at.class f.method f.block ≡ Some waits
    pub so : P waits

  -- each frame waits for the method of the one behind it
  abbrev pub CallsNext : Frame → List Frame → Type 0
  CallsNext f [] = Unit {0}
  CallsNext f (g ∷ fs) = WaitsSo (λ b. CallsIt b.end g.at.class g.method) f

  unfoldable pub FramesFit : List Frame → Type 0
  FramesFit [] = Unit {0}
  FramesFit (f ∷ fs) = FrameFits tables graph f × CallsNext f fs × FramesFit fs

  -- of the last frame, where there is one
  abbrev pub OfLast : (Frame → Type 0) → List Frame → Type 0
  OfLast P [] = Unit {0}
  OfLast P (f ∷ []) = P f
  OfLast P (f ∷ g ∷ fs) = OfLast P (g ∷ fs)

  -- there is a frame
  abbrev pub HasFrame : List Frame → Type 0
  HasFrame [] = ⊥
  HasFrame (f ∷ fs) = Unit {0}

  -- what an event asks for fits its target, and what its last frame waits for
  abbrev pub KindFits : EventKind → List Frame → Type 0
  KindFits (kind.Enter to method args) frames = CallFits tables to.class method args × OfLast (WaitsSo (λ b. CallsIt b.end to.class method)) frames
  KindFits (kind.Make to args) frames = NewFits tables to.class args × OfLast (WaitsSo (λ b. MakesIt b.end to.class)) frames
  KindFits (kind.Resume outcome) frames = HasFrame frames × OfLast (WaitsSo (λ b. AnswersIt tables b outcome)) frames
  KindFits (kind.Done outcome) frames = Unit {0}

  pub record EventFits (e : Event) : Type 0 where
    pub frames : FramesFit e.frames
    pub kind : KindFits e.kind e.frames
