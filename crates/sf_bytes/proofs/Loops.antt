-- Reading items one after the other, as a loop does.
use Rattle.std.proofs.Common.{◌≡◌, ℕ, suc, ◌-◌, ◌+◌, ◌≤◌, ◌<◌, List as Items, [], ◌∷◌, ◌++◌, Option, Some, None, refl, sym, ap, ◌∙◌, append_assoc, arith}
use Rattle.std.proofs.lemmas.List.{append-nil}
use Rattle.sf_bytes.specs.declared.fault.Unread.{Unread}
use Rattle.sf_bytes.specs.declared.fault.Unread.TheVariants.{NoMemory, NoSpelling}
use Rattle.sf_bytes.specs.Reading.{Reader, ◌>>=◌, FallsShort, number_at, items_at, list_at}

-- what was read before, and what is still read
abbrev pub with_front : {A : Type 0} → Items A → Option (Items A × Items ℕ) → Option (Items A × Items ℕ)
with_front front read = read >>= λ x. Some (front ++ x.0, x.1)

regroup : {A : Type 0} (front : Items A) (item : A) (read : Option (Items A × Items ℕ)) → with_front front (read >>= λ x. Some (item ∷ x.0, x.1)) ≡ with_front (front ++ item ∷ []) read
regroup front item (Some x) = ap (λ items. Some (items, x.1)) (simp append_assoc)
regroup front item None = refl

no_front : {A : Type 0} (read : Option (Items A × Items ℕ)) → with_front [] read ≡ read
no_front (Some x) = refl
no_front None = refl

-- one more item
pub goes_on : {A : Type 0} (item_at : Reader A) (front : Items A) (count i : ℕ) (bytes : Items ℕ) (item : A) (after : Items ℕ) (total : Option (Items A × Items ℕ)) → i < count → item_at bytes ≡ Some (item, after)
    → with_front front (items_at item_at (count - i) bytes) ≡ total → with_front (front ++ item ∷ []) (items_at item_at (count - (i + 1)) after) ≡ total
unfolding items_at
goes_on item_at front count i bytes item after total lt h so_far =
    let k : count - i ≡ suc (count - (i + 1)) = omega arith in
    let one : with_front front (items_at item_at (count - i) bytes) ≡ with_front (front ++ item ∷ []) (items_at item_at (count - (i + 1)) after) = rw (k, h) (regroup front item (items_at item_at (count - (i + 1)) after)) in
    sym one ∙ so_far

-- an item is missing
pub ends : {A : Type 0} (e : Unread) (item_at : Reader A) (front : Items A) (count i : ℕ) (bytes : Items ℕ) (total : Option (Items A × Items ℕ)) → i < count → FallsShort e (item_at bytes)
    → with_front front (items_at item_at (count - i) bytes) ≡ total → FallsShort e total
unfolding items_at
ends NoMemory item_at front count i bytes total lt h so_far = tt
ends NoSpelling item_at front count i bytes total lt h so_far =
    let k : count - i ≡ suc (count - (i + 1)) = omega arith in
    let one : with_front front (items_at item_at (count - i) bytes) ≡ None = rw (k, h) refl in
    sym so_far ∙ one

-- all items are there
pub is_done : {A : Type 0} (item_at : Reader A) (front : Items A) (count i : ℕ) (bytes : Items ℕ) (total : Option (Items A × Items ℕ)) → count ≤ i → with_front front (items_at item_at (count - i) bytes) ≡ total → total ≡ Some (front, bytes)
unfolding items_at
is_done item_at front count i bytes total le so_far =
    let k : count - i ≡ 0 = omega arith in
    let one : with_front front (items_at item_at (count - i) bytes) ≡ Some (front, bytes) = rw k (ap (λ items. Some (items, bytes)) (append-nil front)) in
    sym so_far ∙ one

-- no item is read yet
pub starts : {A : Type 0} (item_at : Reader A) (bytes : Items ℕ) (count : ℕ) (after : Items ℕ) → number_at bytes ≡ Some (count, after) → with_front [] (items_at item_at (count - 0) after) ≡ list_at item_at bytes
unfolding list_at
starts item_at bytes count after read =
    let all : count - 0 ≡ count = omega arith in
    no_front _ ∙ rw (all, read) refl

-- a count is missing
pub no_count : {A : Type 0} (item_at : Reader A) (bytes : Items ℕ) (e : Unread) → FallsShort e (number_at bytes) → FallsShort e (list_at item_at bytes)
unfolding list_at
no_count item_at bytes NoMemory h = tt
no_count item_at bytes NoSpelling h = rw h refl
