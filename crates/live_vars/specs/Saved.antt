-- The live names of each block, and how sets of them grow.
use Rattle.std.specs.Prelude.{◌≡◌, ◌↔◌, ◌==◌, ◌&&◌, ◌||◌, if◌then◌else◌, ℕ, zero, suc, Bool, true, false, not, IsTrue, List, [], ◌∷◌, ◌++◌, map, length, Some, None, slice_get, slice_set}
use Rattle.std.specs.declared.option.Option.{Option}
use Rattle.std.specs.List.{list_any}
use Rattle.py_tree.specs.declared.names.Name.{Name}
use Rattle.py_tree.specs.PlainProgram.{PlainProgram}
use Rattle.py_tree.specs.ClassViews.{numbers_of}
use Rattle.block_code.specs.PlainVars.{PlainVar}
use Rattle.block_code.specs.PlainBlocks.{PlainEnd, EJump, EBranch, ELeave, ECall, EMake, PlainCatch, PlainBlock}
use Rattle.program_meaning.specs.NothingGoesWrong.{IsKnownAccepted}
use Rattle.block_code.specs.GraphFits.{is_var, GraphFits}
use Rattle.live_laws.specs.Live.{items_spare, block_reads, Live}
use Rattle.live_vars.specs.declared.sets.NameSet.{NameSet}

abbrev pub has : List ℕ → ℕ → Bool
has names x = list_any (λ n. x == n) names

-- for each block exactly the names that are live there
pub record TellsLive (blocks : List PlainBlock) (lists : List (List ℕ)) : Type 0 where
  pub as_many : length lists ≡ length blocks
  pub each : (number : ℕ) (names : List ℕ) → slice_get lists number ≡ Some names → (x : ℕ) → IsTrue (has names x) ↔ Live blocks x number

-- what is live at a block is a parameter of it, as it is where blocks fit
abbrev pub LiveAreParams : List PlainBlock → Type 0
LiveAreParams blocks = (n : ℕ) (b : PlainBlock) → slice_get blocks n ≡ Some b → (x : ℕ) → Live blocks x n → list_any (is_var x) b.params ≡ true

-- so it is in each method of a graph that fits an accepted program
abbrev pub FitGraphsTakeLive : Type 0
FitGraphsTakeLive =
    (names : List (List ℕ)) (program : PlainProgram) → IsKnownAccepted names program → (graph : List (List PlainBlock)) → GraphFits names program graph
    → (place : ℕ) (blocks : List PlainBlock) → slice_get graph place ≡ Some blocks → LiveAreParams blocks

-- The views

abbrev pub lists_of : List (List Name) → List (List ℕ)
lists_of = map numbers_of

abbrev pub names_in : NameSet → List ℕ
names_in set = set.numbers.keys

abbrev pub sets_of : List NameSet → List (List ℕ)
sets_of = map names_in

-- Growing

abbrev pub with_name : List ℕ → ℕ → List ℕ
with_name names x = if has names x then names else names ++ x ∷ []

abbrev pub has_in : Option (List ℕ) → ℕ → Bool
has_in None x = false
has_in (Some names) x = has names x

-- among the names of the block of this number
abbrev pub has_at : List (List ℕ) → ℕ → ℕ → Bool
has_at lists n x = has_in (slice_get lists n) x

-- among those where an end goes on, unless it assigns the name
abbrev pub led_by : List (List ℕ) → PlainEnd → ℕ → Bool
led_by lists (EJump to) x = has_at lists to x
led_by lists (EBranch test holds fails) x = has_at lists holds x || has_at lists fails x
led_by lists ELeave x = false
led_by lists (ECall on class method args into after) x = not (into == x) && has_at lists after x
led_by lists (EMake class args into after) x = not (into == x) && has_at lists after x

unfoldable pub caught_by : List (List ℕ) → List PlainCatch → ℕ → Bool
caught_by lists [] x = false
caught_by lists (k ∷ ks) x = has_at lists k.to x || caught_by lists ks x

-- a name is live at a block by what it reads, and by what is live where it goes on
abbrev pub comes_live : List (List ℕ) → PlainBlock → ℕ → Bool
comes_live lists b x = caught_by lists b.catches x || ((led_by lists b.end x && items_spare b.code x) || block_reads b x)

-- no names for so many blocks
unfoldable pub none_for : ℕ → List (List ℕ)
none_for zero = []
none_for (suc n) = [] ∷ none_for n

-- the names so far, and whether any have been added
pub record State : Type 0 where
  pub lists : List (List ℕ)
  pub added : Bool

abbrev pub state : List (List ℕ) → Bool → State
state lists added = record { lists = lists; added = added }

abbrev pub list_if_there : Option (List ℕ) → List ℕ
list_if_there None = []
list_if_there (Some names) = names

abbrev pub with_new : List (List ℕ) → ℕ → ℕ → List (List ℕ)
with_new lists at x = slice_set lists at (with_name (list_if_there (slice_get lists at)) x)

-- a name joins those of the block of this number, where it is live there and isn't among them
abbrev pub visit : PlainBlock → ℕ → State → ℕ → State
visit b at s x = if has_at s.lists at x then s else (if comes_live s.lists b x then state (with_new s.lists at x) true else s)

unfoldable pub visit_params : PlainBlock → ℕ → List PlainVar → State → State
visit_params b at [] s = s
visit_params b at (p ∷ ps) s = visit_params b at ps (visit b at s p.name)

-- each parameter of the block of this number
abbrev pub visit_block : PlainBlock → ℕ → State → State
visit_block b at s = visit_params b at b.params s

-- the parameters of the blocks from one number on
unfoldable pub visit_all : ℕ → List PlainBlock → State → State
visit_all at [] s = s
visit_all at (b ∷ bs) s = visit_all (suc at) bs (visit_block b at s)
