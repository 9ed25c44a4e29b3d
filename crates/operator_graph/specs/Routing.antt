-- Which operator serves an entity.
use Rattle.std.specs.Prelude.{ℕ, ◌+◌, ◌*◌, ◌%◌, ◌^◌, List, [], ◌∷◌}
use Rattle.std.specs.Str.{encode_utf8_all}
use Rattle.sf_value.specs.declared.value.Ref.{Ref}

-- a hash of bytes, one after another, behind this one
unfoldable pub hash_from : ℕ → List ℕ → ℕ
hash_from hash [] = hash
hash_from hash (byte ∷ bytes) = hash_from ((hash * 31 + byte) % 2 ^ 32) bytes

abbrev pub hash_of : List ℕ → ℕ
hash_of bytes = hash_from 0 bytes

-- the partition of a key among so many
abbrev pub partition : List ℕ → ℕ → ℕ
partition key parts = hash_of key % parts

-- the operators of a class stand one after another, one for each partition
abbrev pub operator_of : Ref → ℕ → ℕ
operator_of at parts = at.class * parts + partition (encode_utf8_all at.key) parts
