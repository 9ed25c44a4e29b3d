-- Members that an object has under different keys take no more bytes together than all its members.
use Rattle.std.proofs.Common.{◌≡◌, ℕ, ◌+◌, ◌≤◌, List, [], ◌∷◌, Option, Some, refl, sym, ap, ◌∙◌, subst, arith}
use Rattle.std.specs.Cmp.Lexicographic.{slice_cmp}
use Rattle.std.specs.Ordering.{nat_cmp, match_ordering}
use Rattle.std.specs.declared.cmp.Ordering.{Ordering}
use Rattle.std.specs.declared.cmp.Ordering.TheVariants.{Less, Equal, Greater}
use Rattle.std.proofs.lemmas.Option.{same_Some, none-some}
use Rattle.serde_json.specs.Data.{Data, Members, no_members, member}
use Rattle.serde_json.specs.Find.{get_member}
use Rattle.request_json.proofs.LineData.{IsSound, HasSound}
use Rattle.compact_lines.proofs.ReadSizes.{same_key, IsTightData, HaveTight, member_size, members_size}

-- the first member with a key is taken out
abbrev without : List ℕ → Members → Members
without k no_members = no_members
without k (member l e ms) = match_ordering (slice_cmp nat_cmp k l) (member l e (without k ms)) ms (member l e (without k ms))

taken : (k : List ℕ) (ms : Members) (x : Data) → get_member k ms ≡ Some x → members_size ms ≡ member_size k x + members_size (without k ms)
taken k no_members x is = absurd (none-some x is)
taken k (member l e ms) x is = by (slice_cmp nat_cmp k l) refl is (taken k ms x)
  where
    by : (o : Ordering) → slice_cmp nat_cmp k l ≡ o → match_ordering o (get_member k ms) (Some e) (get_member k ms) ≡ Some x
        → (get_member k ms ≡ Some x → members_size ms ≡ member_size k x + members_size (without k ms))
        → member_size l e + members_size ms ≡ member_size k x + members_size (match_ordering o (member l e (without k ms)) ms (member l e (without k ms)))
    by Less at is later = omega (arith, later is)
    by Equal at is later = ap (λ (key : List ℕ). member_size key e + members_size ms) (sym (same_key k l at)) ∙ ap (λ (d : Data). member_size k d + members_size ms) (same_Some e x is)
    by Greater at is later = omega (arith, later is)

-- two keys differ, wherever they are looked up
abbrev pub Apart : List ℕ → List ℕ → Type 0
Apart j k = (x y : Option Data) → match_ordering (slice_cmp nat_cmp j k) x y x ≡ x

-- another key finds what it found
still : (j k : List ℕ) → Apart j k → (ms : Members) → get_member j (without k ms) ≡ get_member j ms
still j k apart no_members = refl
still j k apart (member l e ms) = by (slice_cmp nat_cmp k l) refl (still j k apart ms)
  where
    by : (o : Ordering) → slice_cmp nat_cmp k l ≡ o → get_member j (without k ms) ≡ get_member j ms
        → get_member j (match_ordering o (member l e (without k ms)) ms (member l e (without k ms))) ≡ get_member j (member l e ms)
    by Less at later = ap (λ o. match_ordering (slice_cmp nat_cmp j l) o (Some e) o) later
    by Equal at later = subst (λ key. get_member j ms ≡ get_member j (member key e ms)) (same_key k l at) (sym (apart (get_member j ms) (Some e)))
    by Greater at later = ap (λ o. match_ordering (slice_cmp nat_cmp j l) o (Some e) o) later

-- members that are looked up by their keys
pub record Sought : Type 0 where
  pub key : List ℕ
  pub held : Data

abbrev pub sought : List ℕ → Data → Sought
sought key d = record { key = key; held = d }

abbrev pub sought_size : List Sought → ℕ
sought_size [] = 0
sought_size (s ∷ ss) = member_size s.key s.held + sought_size ss

-- each is there
abbrev pub AreThere : Members → List Sought → Type 0
AreThere ms [] = Unit {0}
AreThere ms (s ∷ ss) = (get_member s.key ms ≡ Some s.held) × AreThere ms ss

-- no two have one key
abbrev pub AllApart : List ℕ → List Sought → Type 0
AllApart key [] = Unit {0}
AllApart key (s ∷ ss) = Apart s.key key × AllApart key ss

abbrev pub AreApart : List Sought → Type 0
AreApart [] = Unit {0}
AreApart (s ∷ ss) = AllApart s.key ss × AreApart ss

there_still : (key : List ℕ) (ms : Members) (ss : List Sought) → AreThere ms ss → AllApart key ss → AreThere (without key ms) ss
there_still key ms [] there apart = tt
there_still key ms (s ∷ ss) there apart = (still s.key key apart.0 ms ∙ there.0, there_still key ms ss there.1 apart.1)

pub all_there : (ms : Members) (ss : List Sought) → AreThere ms ss → AreApart ss → sought_size ss ≤ members_size ms
all_there ms [] there apart = omega arith
all_there ms (s ∷ ss) there apart =
    omega (arith, taken s.key ms s.held there.0, all_there (without s.key ms) ss (there_still s.key ms ss there.1 apart.0) apart.1)

-- ---- what is found is sound, and its whole numbers have 64 bits

found_where : (o : Ordering) (e x : Data) (rest : Option Data) → match_ordering o rest (Some e) rest ≡ Some x → (P : Type 0) → (e ≡ x → P) → (rest ≡ Some x → P) → P
found_where Less e x rest is P here later = later is
found_where Equal e x rest is P here later = here (same_Some e x is)
found_where Greater e x rest is P here later = later is

pub sound_at : (k : List ℕ) (ms : Members) (x : Data) → get_member k ms ≡ Some x → HasSound ms → IsSound x
sound_at k no_members x is sound = absurd (none-some x is)
sound_at k (member l e ms) x is sound =
    found_where (slice_cmp nat_cmp k l) e x (get_member k ms) is (IsSound x) (λ same. subst IsSound same sound.0) (λ later. sound_at k ms x later sound.1)

pub tight_at : (k : List ℕ) (ms : Members) (x : Data) → get_member k ms ≡ Some x → HaveTight ms → IsTightData x
tight_at k no_members x is tight = absurd (none-some x is)
tight_at k (member l e ms) x is tight =
    found_where (slice_cmp nat_cmp k l) e x (get_member k ms) is (IsTightData x) (λ same. subst IsTightData same tight.0) (λ later. tight_at k ms x later tight.1)
