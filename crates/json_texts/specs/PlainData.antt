-- Plain data: those that a reader of JSON makes again of their text. Numbers are whole, texts are UTF-8, and an object has each key once,
-- in order.
use Rattle.std.specs.Prelude.{◌≡◌, ℕ, pos, negsuc, ◌^◌, ◌<◌}
use Rattle.std.specs.Str.{IsUtf8}
use Rattle.serde_json.specs.Data.{Num, unsigned, negative, float, Data, null, boolean, number, string, array, object, Items, no_items, item, Members, no_members, member, put}

-- a whole number of 64 bits, with a sign or without
abbrev pub IsWhole : Num → Type 0
IsWhole (unsigned n) = n < 2 ^ 64
IsWhole (negative (pos n)) = ⊥
IsWhole (negative (negsuc n)) = n < 2 ^ 63
IsWhole (float x) = ⊥

-- what comes of members that are put into an object one after another
abbrev pub gathered : Members → Members → Members
gathered found no_members = found
gathered found (member key d ms) = gathered (put key d found) ms

-- an object keeps its members as they are
abbrev pub AreOrdered : Members → Type 0
AreOrdered ms = gathered no_members ms ≡ ms

abbrev mutual
  pub IsPlain : Data → Type 0
  IsPlain null = Unit {0}
  IsPlain (boolean truth) = Unit {0}
  IsPlain (number n) = IsWhole n
  IsPlain (string text) = IsUtf8 text
  IsPlain (array ds) = ArePlain ds
  IsPlain (object ms) = AreOrdered ms × HavePlain ms

  pub ArePlain : Items → Type 0
  ArePlain no_items = Unit {0}
  ArePlain (item d ds) = IsPlain d × ArePlain ds

  pub HavePlain : Members → Type 0
  HavePlain no_members = Unit {0}
  HavePlain (member key d ms) = IsUtf8 key × IsPlain d × HavePlain ms
