-- Bytes that an item's bytes only begin.
use Rattle.std.proofs.Common.{◌≡◌, ℕ, ◌<◌, List as Items, [], ◌++◌, length, take, drop, sym, ap, ◌∙◌, arith, append-nil, take-append-drop, length-take}
use Rattle.sf_bytes.specs.Reads.{NoneBeginsAnother}

-- they are no item's as a whole
pub part_only : {A : Type 0} (item_bytes : A → Items ℕ) (IsItem : A → Type 0) → NoneBeginsAnother item_bytes IsItem → (bytes : Items ℕ) (found : A) (count : ℕ) → IsItem found → take count bytes ≡ item_bytes found → count < length bytes
    → (item : A) → IsItem item → item_bytes item ≡ bytes → ⊥
part_only item_bytes IsItem apart bytes found count is_found front less item is_item is =
    let whole : item_bytes found ++ drop count bytes ≡ item_bytes item ++ [] =
    ap (λ l. l ++ drop count bytes) (sym front) ∙ take-append-drop count bytes ∙ sym is ∙ sym (append-nil (item_bytes item)) in
    let same : found ≡ item = apart found item (drop count bytes) [] is_found is_item whole in
    absurd (omega (arith, less, ap length front, length-take count bytes, ap (λ x. length (item_bytes x)) same, ap length is))
