-- The variables that are live at a block of a method.
use Rattle.std.specs.Prelude.{◌≡◌, ◌⊎◌, ℕ, Bool, true, false, not, ◌||◌, ◌&&◌, ◌==◌, List, [], ◌∷◌, Some, slice_get}
use Rattle.block_code.specs.PlainBlocks.{PlainItem, IMark, ISet, IPut, IGive, IFail, ICode, PlainEnd, EJump, EBranch, ELeave, ECall, EMake, PlainCatch, PlainBlock}
use Rattle.live_laws.specs.Reads.{reads, any_read, reads_if_there, all_spare, all_read_first}

-- Paths through a block

-- some path goes through the item, and doesn't assign the variable
abbrev pub item_spares : PlainItem → ℕ → Bool
item_spares IMark x = true
item_spares (ISet name e) x = not (name == x)
item_spares (IPut field e) x = true
item_spares (IGive e) x = false
item_spares (IFail kind message) x = false
item_spares (ICode code) x = all_spare code x

unfoldable pub items_spare : List PlainItem → ℕ → Bool
items_spare [] x = true
items_spare (i ∷ is) x = item_spares i x && items_spare is x

-- some path reads the variable before it assigns it
abbrev pub item_reads : PlainItem → ℕ → Bool
item_reads IMark x = false
item_reads (ISet name e) x = reads e x
item_reads (IPut field e) x = reads e x
item_reads (IGive e) x = reads e x
item_reads (IFail kind message) x = reads_if_there message x
item_reads (ICode code) x = all_read_first code x

unfoldable pub items_read : List PlainItem → ℕ → Bool
items_read [] x = false
items_read (i ∷ is) x = item_reads i x || (item_spares i x && items_read is x)

abbrev pub end_reads : PlainEnd → ℕ → Bool
end_reads (EJump to) x = false
end_reads (EBranch test holds fails) x = reads test x
end_reads ELeave x = false
end_reads (ECall on class method args into after) x = reads on x || any_read args x
end_reads (EMake class args into after) x = any_read args x

abbrev pub block_reads : PlainBlock → ℕ → Bool
block_reads b x = items_read b.code x || (items_spare b.code x && end_reads b.end x)

-- the end goes on at this block, and the variable isn't what it assigns
abbrev pub GoesOn : PlainEnd → ℕ → ℕ → Type 0
GoesOn (EJump to) x next = next ≡ to
GoesOn (EBranch test holds fails) x next = (next ≡ holds) ⊎ (next ≡ fails)
GoesOn ELeave x next = ⊥
GoesOn (ECall on class method args into after) x next = (next ≡ after) × ((into == x) ≡ false)
GoesOn (EMake class args into after) x next = (next ≡ after) × ((into == x) ≡ false)

-- Paths through a method

-- some path from the start of the block reads the variable before it assigns it: in the block; or behind it, where the block spares the
-- variable; or where a failure before any of its items goes on
pub data Live (blocks : List PlainBlock) (x : ℕ) : ℕ → Type 0 where
  here : {number : ℕ} {b : PlainBlock} → slice_get blocks number ≡ Some b → block_reads b x ≡ true → Live blocks x number
  behind : {number next : ℕ} {b : PlainBlock} → slice_get blocks number ≡ Some b → items_spare b.code x ≡ true → GoesOn b.end x next → Live blocks x next → Live blocks x number
  at_catch : {number : ℕ} {b : PlainBlock} {k : PlainCatch} (place : ℕ) → slice_get blocks number ≡ Some b → slice_get b.catches place ≡ Some k → Live blocks x k.to → Live blocks x number
