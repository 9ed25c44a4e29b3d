-- Blocks that take as parameters what is live there, and nothing else.
use Rattle.std.specs.Prelude.{◌≡◌, ◌<◌, ◌↔◌, ℕ, zero, suc, IsTrue, List, [], ◌∷◌, Some, None, length, slice_get}
use Rattle.std.specs.declared.option.Option.{Option}
use Rattle.std.specs.List.{All, list_any}
use Rattle.py_tree.specs.PlainProgram.{PlainMethod, PlainProgram}
use Rattle.py_tree.specs.ClassRules.{methods_of, tables_of}
use Rattle.py_tree.specs.Acceptance.{members_at}
use Rattle.block_code.specs.PlainVars.{PlainVar}
use Rattle.block_code.specs.PlainBlocks.{PlainEnd, EJump, EBranch, ELeave, ECall, EMake, PlainCatch, PlainBlock}
use Rattle.block_code.specs.Places.{blocks_of}
use Rattle.block_code.specs.GraphFits.{is_var}
use Rattle.live_laws.specs.Live.{Live}

-- Cutting parameters

-- in their order exactly those of these parameters whose names are in the set
pub data Keeps (L : ℕ → Type 0) : List PlainVar → List PlainVar → Type 0 where
  no_param : Keeps L [] []
  kept : {p : PlainVar} {ps qs : List PlainVar} → L p.name → Keeps L ps qs → Keeps L (p ∷ ps) (p ∷ qs)
  dropped : {p : PlainVar} {ps qs : List PlainVar} → (L p.name → ⊥) → Keeps L ps qs → Keeps L (p ∷ ps) qs

-- the first block takes the arguments of its method, whether they are live or not
abbrev pub Stays : List PlainBlock → ℕ → ℕ → Type 0
Stays blocks zero x = Unit {0}
Stays blocks (suc n) x = Live blocks x (suc n)

abbrev pub with_params : PlainBlock → List PlainVar → PlainBlock
with_params b params = record { params = params; code = b.code; end = b.end; rank = b.rank; catches = b.catches }

-- a block and the same one with those parameters alone that stay, or none in both
pub data CutAt (L : ℕ → Type 0) : Option PlainBlock → Option PlainBlock → Type 0 where
  no_block : CutAt L None None
  one_block : {b : PlainBlock} {params : List PlainVar} → Keeps L b.params params → CutAt L (Some b) (Some (with_params b params))

-- the blocks of a method
pub record IsCut (before after : List PlainBlock) : Type 0 where
  pub as_many : length after ≡ length before
  pub at : (number : ℕ) → CutAt (Stays before number) (slice_get before number) (slice_get after number)

-- of each method
pub record AreCut (before after : List (List PlainBlock)) : Type 0 where
  pub as_many : length after ≡ length before
  pub each : (place : ℕ) (blocks : List PlainBlock) → slice_get before place ≡ Some blocks → (made : List PlainBlock) × (slice_get after place ≡ Some made) × IsCut blocks made

-- What cut blocks have

-- the parameters of each block but the first are exactly what is live there
abbrev pub HaveLiveParams : List PlainBlock → Type 0
HaveLiveParams blocks = (n : ℕ) (b : PlainBlock) → slice_get blocks (suc n) ≡ Some b → (x : ℕ) → IsTrue (list_any (is_var x) b.params) ↔ Live blocks x (suc n)

-- so in each method of the program
abbrev pub GraphHasLiveParams : List (List ℕ) → PlainProgram → List (List PlainBlock) → Type 0
GraphHasLiveParams names program graph =
    (class number : ℕ) (m : PlainMethod) → slice_get (methods_of names (members_at program class)) number ≡ Some m → HaveLiveParams (blocks_of (tables_of names program) graph class number)

-- The first block

-- an end goes on at others alone
abbrev pub GoesForth : PlainEnd → Type 0
GoesForth (EJump to) = 0 < to
GoesForth (EBranch test holds fails) = (0 < holds) × (0 < fails)
GoesForth ELeave = Unit {0}
GoesForth (ECall on class method args into after) = 0 < after
GoesForth (EMake class args into after) = 0 < after

abbrev pub BlockGoesForth : PlainBlock → Type 0
BlockGoesForth b = GoesForth b.end × All (λ (k : PlainCatch). 0 < k.to) b.catches

-- no block of a method goes back to the first
abbrev pub NeverGoesBack : List PlainBlock → Type 0
NeverGoesBack blocks = All BlockGoesForth blocks

-- in no method
abbrev pub NoneGoBack : List (List PlainBlock) → Type 0
NoneGoBack graph = All NeverGoesBack graph
