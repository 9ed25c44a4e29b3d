-- What the items of a block read and spare, item by item.
use Rattle.std.proofs.Common.{◌≡◌, ◌<◌, ◌≤◌, ◌+◌, ℕ, true, false, ◌||◌, ◌&&◌, List, drop, get_or, length, ap, ◌∙◌}
use Rattle.std.proofs.lemmas.List.{drop_all}
use Rattle.py_tree.proofs.ListWalks.{map_from}
use Rattle.block_code.specs.declared.item.Item.{Item}
use Rattle.block_code.specs.PlainBlocks.{plain_item, plain_items}
use Rattle.live_laws.specs.Live.{item_reads, item_spares, items_read, items_spare}

module _ (v : ℕ) (xs : List Item) (i : ℕ) where
  abbrev behind : List Item
  behind = drop (i + 1) xs

  pub spare_stop : (x : Item) → i < length xs → x ≡ get_or xs i x → item_spares (plain_item x) v ≡ false → items_spare (plain_items (drop i xs)) v ≡ false
  unfolding items_spare
  spare_stop x within is h = ap (λ ys. items_spare ys v) (map_from plain_item xs i x within is) ∙ (λ j. h j && items_spare (plain_items behind) v)

  pub spare_past : (x : Item) → i < length xs → x ≡ get_or xs i x → item_spares (plain_item x) v ≡ true → items_spare (plain_items (drop i xs)) v ≡ items_spare (plain_items (drop (i + 1) xs)) v
  unfolding items_spare
  spare_past x within is h = ap (λ ys. items_spare ys v) (map_from plain_item xs i x within is) ∙ (λ j. h j && items_spare (plain_items behind) v)

  pub spare_end : length xs ≤ i → items_spare (plain_items (drop i xs)) v ≡ true
  unfolding items_spare
  spare_end past = ap (λ ys. items_spare (plain_items ys) v) (drop_all i xs past)

  pub read_found : (x : Item) → i < length xs → x ≡ get_or xs i x → item_reads (plain_item x) v ≡ true → items_read (plain_items (drop i xs)) v ≡ true
  unfolding items_read
  read_found x within is h = ap (λ ys. items_read ys v) (map_from plain_item xs i x within is) ∙ (λ j. h j || (item_spares (plain_item x) v && items_read (plain_items behind) v))

  pub read_stop : (x : Item) → i < length xs → x ≡ get_or xs i x → item_reads (plain_item x) v ≡ false → item_spares (plain_item x) v ≡ false → items_read (plain_items (drop i xs)) v ≡ false
  unfolding items_read
  read_stop x within is h k = ap (λ ys. items_read ys v) (map_from plain_item xs i x within is) ∙ (λ j. h j || (k j && items_read (plain_items behind) v))

  pub read_past : (x : Item) → i < length xs → x ≡ get_or xs i x → item_reads (plain_item x) v ≡ false → item_spares (plain_item x) v ≡ true → items_read (plain_items (drop i xs)) v ≡ items_read (plain_items (drop (i + 1) xs)) v
  unfolding items_read
  read_past x within is h k = ap (λ ys. items_read ys v) (map_from plain_item xs i x within is) ∙ (λ j. h j || (k j && items_read (plain_items behind) v))

  pub read_end : length xs ≤ i → items_read (plain_items (drop i xs)) v ≡ false
  unfolding items_read
  read_end past = ap (λ ys. items_read (plain_items ys) v) (drop_all i xs past)

pub ruleset spare_rules = (spare_stop, spare_past, spare_end)

pub ruleset read_rules = (read_found, read_stop, read_past, read_end)
