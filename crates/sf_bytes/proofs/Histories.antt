-- Entries that stand in a file: what they are together, that they are one thing, and so where a history breaks and how it grows.
use Rattle.std.proofs.Common.{◌≡◌, inl, inr, ℕ, ◌+◌, ◌≤◌, ◌<◌, List as Items, [], ◌∷◌, ◌++◌, length, drop, refl, sym, ap, ◌∙◌, subst, arith, append-nil, take-append-drop, length-append, length-drop}
use Rattle.std.specs.List.{flat_map, AllByRecursion}
use Rattle.std.proofs.lemmas.Bool.{cases_lt}
use Rattle.std.proofs.lemmas.List.{take_all, length-take}
use Rattle.sf_value.specs.declared.Entry.{Entry}
use Rattle.sf_bytes.specs.ByteForms.{entry_bytes}
use Rattle.sf_bytes.specs.Entries.{EntriesTo, LacksEntry, HasBytesOver}
use Rattle.sf_bytes.specs.Gates.{StandsAt}
use Rattle.sf_bytes.specs.OneHistory.{HistoryIsOne, HistoryIsWhole, BreakIsOne, HistoryStays, HistoryGrows}
use Rattle.sf_bytes.specs.Reading.{entry_at}
use Rattle.sf_bytes.specs.Spelt.{IsReadEntry}
use Rattle.sf_bytes.proofs.Fronts.{stands_apart}
use Rattle.sf_bytes.proofs.RecordLaws.{entry_spells}
use Rattle.sf_bytes.proofs.Stands.{Stands-same, Stands-front, Stands-behind, Stands-both}

-- ---- entries, and their bytes together

abbrev pub bytes_of : Items Entry → Items ℕ
bytes_of entries = flat_map entry_bytes entries

module _ (file : Items ℕ) where
  pub run_end : (at : ℕ) (entries : Items Entry) (end : ℕ) → EntriesTo file at entries end → end ≡ at + length (bytes_of entries)
  run_end at [] end run = omega (arith, run)
  run_end at (entry ∷ entries) end run = omega (arith, run_end (at + length (entry_bytes entry)) entries end run.2, length-append (entry_bytes entry) (bytes_of entries))

  pub run_bytes : (at : ℕ) (entries : Items Entry) (end : ℕ) → EntriesTo file at entries end → StandsAt file at (bytes_of entries)
  run_bytes at [] end run = refl
  run_bytes at (entry ∷ entries) end run = Stands-both file at (entry_bytes entry) (bytes_of entries) run.1 (run_bytes (at + length (entry_bytes entry)) entries end run.2)

  pub run_read : (at : ℕ) (entries : Items Entry) (end : ℕ) → EntriesTo file at entries end → AllByRecursion IsReadEntry entries
  run_read at [] end run = tt
  run_read at (entry ∷ entries) end run = (run.0, run_read (at + length (entry_bytes entry)) entries end run.2)

  -- what ends in the file
  pub run_reach : (at : ℕ) (entries : Items Entry) (end : ℕ) → at ≤ length file → EntriesTo file at entries end → end ≤ length file
  run_reach at entries end within run =
      let n = length (bytes_of entries) in
      omega (arith, within, run_end at entries end run, ap length (run_bytes at entries end run), length-take n (drop at file), length-drop at file)

  -- where their bytes stand they do
  pub bytes_run : (at : ℕ) (entries : Items Entry) → AllByRecursion IsReadEntry entries → StandsAt file at (bytes_of entries) → EntriesTo file at entries (at + length (bytes_of entries))
  bytes_run at [] read stands = omega arith
  bytes_run at (entry ∷ entries) read stands =
      let first = entry_bytes entry in
      let rest = bytes_of entries in
      let end : at + length first + length rest ≡ at + length (first ++ rest) = omega (arith, length-append first rest) in
      let behind = bytes_run (at + length first) entries read.1 (Stands-behind file at first rest stands) in
      (read.0, Stands-front file at first rest stands, subst (EntriesTo file (at + length first) entries) end behind)

  pub run_then : (at : ℕ) (xs : Items Entry) (middle : ℕ) (ys : Items Entry) (end : ℕ) → EntriesTo file at xs middle → EntriesTo file middle ys end → EntriesTo file at (xs ++ ys) end
  run_then at [] middle ys end first second = subst (λ place. EntriesTo file place ys end) (sym first) second
  run_then at (x ∷ xs) middle ys end first second = (first.0, first.1, run_then (at + length (entry_bytes x)) xs middle ys end first.2 second)

-- bytes that are entries from their first to their last are those of the entries
pub whole_bytes : (more : Items ℕ) (entries : Items Entry) → EntriesTo more 0 entries (length more) → bytes_of entries ≡ more
whole_bytes more entries run = sym (run_bytes more 0 entries (length more) run) ∙ take_all (length (bytes_of entries)) more (omega (arith, run_end more 0 entries (length more) run))

-- ---- one run

behind_it : (file : Items ℕ) (at : ℕ) (entry : Entry) → StandsAt file at (entry_bytes entry) → entry_bytes entry ++ drop (length (entry_bytes entry)) (drop at file) ≡ drop at file
behind_it file at entry stands =
    let n = length (entry_bytes entry) in
    ap (λ bytes. bytes ++ drop n (drop at file)) (sym stands) ∙ take-append-drop n (drop at file)

pub one_entry : (file : Items ℕ) (at : ℕ) (a b : Entry) → IsReadEntry a → IsReadEntry b → StandsAt file at (entry_bytes a) → StandsAt file at (entry_bytes b) → a ≡ b
one_entry file at a b is_a is_b here there =
    stands_apart entry_at entry_bytes IsReadEntry entry_spells a b (drop (length (entry_bytes a)) (drop at file)) (drop (length (entry_bytes b)) (drop at file)) is_a is_b
    (behind_it file at a here ∙ sym (behind_it file at b there))

-- of two runs from one place the longer goes on where the other ends
record GoesOn (file : Items ℕ) (xs ys : Items Entry) (m n : ℕ) : Type 0 where
  pub rest : Items Entry
  pub all : ys ≡ xs ++ rest
  pub stand : EntriesTo file m rest n

goes_on : (file : Items ℕ) (at : ℕ) (xs ys : Items Entry) (m n : ℕ) → EntriesTo file at xs m → EntriesTo file at ys n → length xs ≤ length ys → GoesOn file xs ys m n
goes_on file at [] ys m n a b fewer = record { rest = ys; all = refl; stand = subst (λ place. EntriesTo file place ys n) a b }
goes_on file at (x ∷ xs) [] m n a b fewer = absurd (omega (arith, fewer))
goes_on file at (x ∷ xs) (y ∷ ys) m n a b fewer =
    let next = at + length (entry_bytes x) in
    let same : x ≡ y = one_entry file at x y a.0 b.0 a.1 b.1 in
    let there : EntriesTo file next ys n = subst (λ (e : Entry). EntriesTo file (at + length (entry_bytes e)) ys n) (sym same) b.2 in
    let more = goes_on file next xs ys m n a.2 there (omega (arith, fewer)) in
    record { rest = more.rest; all = λ i. sym same i ∷ more.all i; stand = more.stand }

-- with as many entries they are the same
pub one_run : (file : Items ℕ) (at : ℕ) (xs ys : Items Entry) (m n : ℕ) → EntriesTo file at xs m → EntriesTo file at ys n → length xs ≡ length ys → (xs ≡ ys) × (m ≡ n)
one_run file at xs ys m n a b count =
    let on = goes_on file at xs ys m n a b (omega (arith, count)) in
    none_left on.rest on.all on.stand
  where
    none_left : (rest : Items Entry) → ys ≡ xs ++ rest → EntriesTo file m rest n → (xs ≡ ys) × (m ≡ n)
    none_left [] all stand = (sym (all ∙ append-nil xs), stand)
    none_left (entry ∷ rest) all stand = absurd (omega (arith, count, ap length all, length-append xs (entry ∷ rest)))

-- with fewer entries there is a next one where they end
pub record NextEntry (file : Items ℕ) (at end : ℕ) : Type 0 where
  pub entry : Entry
  pub is_read : IsReadEntry entry
  pub stands : StandsAt file at (entry_bytes entry)
  pub within : at + length (entry_bytes entry) ≤ end

pub next_entry : (file : Items ℕ) (at : ℕ) (xs ys : Items Entry) (m n : ℕ) → EntriesTo file at xs m → EntriesTo file at ys n → length xs < length ys → NextEntry file m n
next_entry file at xs ys m n a b fewer =
    let on = goes_on file at xs ys m n a b (omega (arith, fewer)) in
    first_left on.rest on.all on.stand
  where
    first_left : (rest : Items Entry) → ys ≡ xs ++ rest → EntriesTo file m rest n → NextEntry file m n
    first_left [] all stand = absurd (omega (arith, fewer, ap length (all ∙ append-nil xs)))
    first_left (entry ∷ rest) all stand = record {
      entry = entry;
      is_read = stand.0;
      stands = stand.1;
      within = omega (arith, run_end file (m + length (entry_bytes entry)) rest n stand.2);
    }

-- ---- histories

pub history_is_one : HistoryIsOne
history_is_one file kept bytes entries others a b = (one_run file 0 entries others bytes bytes a.stand b.stand (a.count ∙ sym b.count)).0

-- where an entry is lacking no longer run stands within the bytes that are named
no_longer : (file : Items ℕ) (kept bytes at : ℕ) (lacks : LacksEntry file kept bytes at) (entries : Items Entry) (end : ℕ) → EntriesTo file 0 entries end → end ≤ bytes → length lacks.entries < length entries → ⊥
no_longer file kept bytes at lacks entries end run within fewer =
    let next = next_entry file 0 lacks.entries entries at end lacks.stand run fewer in
    lacks.none next.entry next.is_read next.stands (omega (arith, next.within, within))

pub history_is_whole : HistoryIsWhole
history_is_whole file kept bytes entries at is (inl lacks) = no_longer file kept bytes at lacks entries bytes is.stand (omega arith) (omega (arith, lacks.fewer, is.count))
history_is_whole file kept bytes entries at is (inr over) =
    let same : at ≡ bytes = (one_run file 0 over.entries entries at bytes over.stand is.stand (over.count ∙ sym is.count)).1 in
    absurd (omega (arith, same, over.over))

lacks_at_one : (file : Items ℕ) (kept bytes at place : ℕ) → LacksEntry file kept bytes at → LacksEntry file kept bytes place → at ≡ place
lacks_at_one file kept bytes at place a b = elim (cases_lt (length a.entries) (length b.entries)) [
  | inl fewer ↦ absurd (no_longer file kept bytes at a b.entries place b.stand b.within fewer)
  | inr no_fewer ↦ elim (cases_lt (length b.entries) (length a.entries)) [
    | inl fewer ↦ absurd (no_longer file kept bytes place b a.entries at a.stand a.within fewer)
    | inr no_more ↦ (one_run file 0 a.entries b.entries at place a.stand b.stand (omega (arith, no_fewer, no_more))).1
  ]
]

not_both : (file : Items ℕ) (kept bytes at place : ℕ) → LacksEntry file kept bytes at → HasBytesOver file kept bytes place → ⊥
not_both file kept bytes at place lacks over = no_longer file kept bytes at lacks over.entries place over.stand (omega (arith, over.over)) (omega (arith, lacks.fewer, over.count))

pub break_is_one : BreakIsOne
break_is_one file kept bytes at place (inl a) (inl b) = lacks_at_one file kept bytes at place a b
break_is_one file kept bytes at place (inl a) (inr b) = absurd (not_both file kept bytes at place a b)
break_is_one file kept bytes at place (inr a) (inl b) = absurd (not_both file kept bytes place at b a)
break_is_one file kept bytes at place (inr a) (inr b) = (one_run file 0 a.entries b.entries at place a.stand b.stand (a.count ∙ sym b.count)).1

pub history_stays : HistoryStays
history_stays before now kept bytes reach entries is within front =
    let end = run_end before 0 entries bytes is.stand in
    let stands = Stands-same before now reach 0 (bytes_of entries) front (omega (arith, end, within)) (run_bytes before 0 entries bytes is.stand) in
    record {
      stand = subst (EntriesTo now 0 entries) (sym end) (bytes_run now 0 entries (run_read before 0 entries bytes is.stand) stands);
      count = is.count;
    }

pub history_grows : HistoryGrows
history_grows file more kept bytes entries added is stands spelt =
    let whole = whole_bytes more added spelt in
    let behind = bytes_run file bytes added (run_read more 0 added (length more) spelt) (subst (StandsAt file bytes) (sym whole) stands) in
    record {
      stand = run_then file 0 entries bytes added (bytes + length more) is.stand (subst (λ (all : Items ℕ). EntriesTo file bytes added (bytes + length all)) whole behind);
      count = omega (arith, length-append entries added, is.count);
    }
