-- Blocks that are cut one after another, and methods.
use Rattle.std.proofs.Common.{◌≡◌, ◌⊎◌, inl, inr, ◌<◌, ◌≤◌, ◌+◌, arith, ℕ, zero, suc, Bool, true, false, cond, Option, Some, None, List, [], ◌∷◌, ◌++◌, map, length, get_or, refl, sym, ap, ◌∙◌, subst, true≢false}
use Rattle.std.specs.Prelude.{◌==◌, slice_get, slice_set, slice_index_or, option_map}
use Rattle.std.specs.List.{All}
use Rattle.std.proofs.lemmas.Bool.{eqb-true, eq-eqb}
use Rattle.std.proofs.lemmas.List.{length-map}
use Rattle.std.proofs.lemmas.Option.{same_Some, slice_get_past, slice_get_within, slice_get-map, slice_get_read}
use Rattle.py_tree.specs.declared.checked.Checked.{Checked}
use Rattle.py_tree.specs.CheckedViews.{checked_program, checked_names}
use Rattle.py_tree.specs.PlainProgram.{PlainProgram}
use Rattle.py_tree.specs.ClassRules.{PlainTable, PlainSig, tables_of}
use Rattle.py_tree.specs.Flow.{Context, in_method}
use Rattle.call_graph.specs.SuspendingCode.{Leaving, leaving}
use Rattle.program_meaning.specs.NothingGoesWrong.{IsKnownAccepted}
use Rattle.program_meaning.proofs.NamesApart.{IsMethod, method_is}
use Rattle.block_code.specs.PlainVars.{PlainVar}
use Rattle.block_code.specs.declared.block.Block.{Block}
use Rattle.block_code.specs.PlainBlocks.{PlainBlock, plain_block, plain_blocks, plain_methods}
use Rattle.block_code.specs.Places.{firsts_from, method_place, blocks_of}
use Rattle.block_code.specs.GraphFits.{method_count, var_of, BlockFits, MethodFits, GraphFits}
use Rattle.block_code.proofs.GraphLaws.{found_or}
use Rattle.live_laws.specs.Cut.{Keeps, no_param, kept, dropped, Stays, with_params, CutAt, no_block, one_block, IsCut, AreCut}
use Rattle.live_laws.proofs.CutGraphs.{past_end}
use Rattle.live_laws.proofs.LiveParams.{live_is_param}
use Rattle.live_vars.specs.declared.sets.NameSet.{NameSet}
use Rattle.live_vars.specs.Saved.{has, TellsLive, LiveAreParams, names_in, sets_of}
use Rattle.live_vars.specs.Trim.{kept_of}
use Rattle.live_vars.proofs.SetRules.{set_length}

-- Lists of which one element is set

set_here : {A : Type 0} (xs : List A) (i : ℕ) (x : A) → i < length xs → slice_get (slice_set xs i x) i ≡ Some x
set_here [] i x less = absurd (omega (arith, less))
set_here (y ∷ xs) zero x less = refl
set_here (y ∷ xs) (suc i) x less = set_here xs i x (omega (arith, less))

set_other : {A : Type 0} (xs : List A) (i k : ℕ) (x : A) → (k ≡ i → ⊥) → slice_get (slice_set xs i x) k ≡ slice_get xs k
set_other [] i k x other = refl
set_other (y ∷ xs) zero zero x other = absurd (other refl)
set_other (y ∷ xs) zero (suc k) x other = refl
set_other (y ∷ xs) (suc i) zero x other = refl
set_other (y ∷ xs) (suc i) (suc k) x other = set_other xs i k x (λ e. other (ap suc e))

map_set : {A B : Type 0} (f : A → B) (xs : List A) (i : ℕ) (x : A) → map f (slice_set xs i x) ≡ slice_set (map f xs) i (f x)
map_set f [] i x = refl
map_set f (y ∷ xs) zero x = refl
map_set f (y ∷ xs) (suc i) x = ap (λ ys. f y ∷ ys) (map_set f xs i x)

-- Elements up to a number that are made anew, and those behind it as they were

pub record SoFar {A : Type 0} (Made : ℕ → A → A → Type 0) (i : ℕ) (before now : List A) : Type 0 where
  pub as_many : length now ≡ length before
  pub done : (k : ℕ) (x : A) → slice_get before k ≡ Some x → k < i → (y : A) × (slice_get now k ≡ Some y) × Made k x y
  pub rest : (k : ℕ) (x : A) → slice_get before k ≡ Some x → i ≤ k → slice_get now k ≡ Some x

so_next : {A : Type 0} (Made : ℕ → A → A → Type 0) (i : ℕ) (before now : List A) (old new : A) → SoFar Made i before now → i < length before → slice_get now i ≡ Some old → Made i old new → SoFar Made (i + 1) before (slice_set now i new)
so_next {A} Made i before now old new s less at made = record {
  as_many = set_length now i new ∙ s.as_many;
  done = λ k x is k_less. by k x is k_less (k == i) refl;
  rest = λ k x is past. set_other now i k new (λ e. omega (arith, e, past)) ∙ s.rest k x is (omega (arith, past));
}
  where
    by : (k : ℕ) (x : A) → slice_get before k ≡ Some x → k < i + 1 → (b : Bool) → (k == i) ≡ b → (y : A) × (slice_get (slice_set now i new) k ≡ Some y) × Made k x y
    by k x is k_less true e =
        let same : k ≡ i = eqb-true k i e in
        let is_old : old ≡ x = same_Some old x (sym at ∙ s.rest i x (sym (ap (slice_get before) same) ∙ is) (omega arith)) in
        (new, ap (slice_get (slice_set now i new)) same ∙ set_here now i new (subst (λ n. i < n) (sym s.as_many) less), subst (λ n. Made n x new) (sym same) (subst (λ x. Made i x new) is_old made))
    by k x is k_less false e =
        let other : k ≡ i → ⊥ = λ f. true≢false (sym (eq-eqb k i f) ∙ e) in
        let before_it : k < i = omega (arith, k_less, other) in
        let p = s.done k x is before_it in
        (p.0, set_other now i k new other ∙ p.1, p.2)

-- Blocks

-- the first stays, and each other keeps the names of its set
abbrev pub BlockMade : List (List ℕ) → ℕ → PlainBlock → PlainBlock → Type 0
BlockMade lists zero b a = b ≡ a
BlockMade lists (suc n) b a = (names : List ℕ) → slice_get lists (suc n) ≡ Some names → a ≡ with_params b (kept_of names b.params)

pub blocks_begin : (lists : List (List ℕ)) (before : List PlainBlock) → SoFar (BlockMade lists) 1 before before
blocks_begin lists before = record { as_many = refl; done = λ k b is less. by k b is less; rest = λ k b is past. is }
  where
    by : (k : ℕ) (b : PlainBlock) → slice_get before k ≡ Some b → k < 1 → (a : PlainBlock) × (slice_get before k ≡ Some a) × BlockMade lists k b a
    by zero b is less = (b, is, refl)
    by (suc k) b is less = absurd (omega (arith, less))

pub block_next : (sets : List NameSet) (set : NameSet) (i : ℕ) (before now : List Block) (old new : Block) → SoFar (BlockMade (sets_of sets)) i (plain_blocks before) (plain_blocks now) → length sets ≡ length before → 0 < i → i < length before
    → set ≡ get_or sets i set → slice_get now i ≡ Some old → plain_block new ≡ with_params (plain_block old) (kept_of (names_in set) (plain_block old).params) → SoFar (BlockMade (sets_of sets)) (i + 1) (plain_blocks before) (plain_blocks (slice_set now i new))
block_next sets set i before now old new s many above less is at made =
    subst (SoFar (BlockMade (sets_of sets)) (i + 1) (plain_blocks before)) (sym (map_set plain_block now i new))
    (so_next (BlockMade (sets_of sets)) i (plain_blocks before) (plain_blocks now) (plain_block old) (plain_block new) s (subst (λ n. i < n) (sym (length-map before plain_block)) less) (slice_get-map plain_block now i ∙ ap (option_map plain_block) at) (by i above refl))
  where
    by : (k : ℕ) → 0 < k → k ≡ i → BlockMade (sets_of sets) k (plain_block old) (plain_block new)
    by zero above e = absurd (omega (arith, above))
    by (suc k) above e = λ names names_are.
        let there : slice_get (sets_of sets) (suc k) ≡ Some (names_in set) = slice_get-map names_in sets (suc k) ∙ ap (option_map names_in) (ap (slice_get sets) e ∙ slice_get_read sets (length before) i set (sym many) less is) in
        made ∙ ap (λ names. with_params (plain_block old) (kept_of names (plain_block old).params)) (same_Some (names_in set) names (sym there ∙ names_are))

keeps_all : (before : List PlainBlock) (ps : List PlainVar) → Keeps (Stays before 0) ps ps
keeps_all before [] = no_param
keeps_all before (p ∷ ps) = kept tt (keeps_all before ps)

keeps_live : (names : List ℕ) (L : ℕ → Type 0) → ((x : ℕ) → (has names x ≡ true → L x) × (L x → has names x ≡ true)) → (ps : List PlainVar) → Keeps L ps (kept_of names ps)
unfolding kept_of
keeps_live names L tells [] = no_param
keeps_live names L tells (p ∷ ps) = by (has names p.name) refl (keeps_live names L tells ps)
  where
    by : (b : Bool) → has names p.name ≡ b → Keeps L ps (kept_of names ps) → Keeps L (p ∷ ps) (cond b (p ∷ kept_of names ps) (kept_of names ps))
    by true e rest = kept ((tells p.name).0 e) rest
    by false e rest = dropped (λ l. true≢false (sym ((tells p.name).1 l) ∙ e)) rest

some_at : {A : Type 0} (xs : List A) (k : ℕ) → k < length xs → (x : A) × (slice_get xs k ≡ Some x)
some_at [] k less = absurd (omega (arith, less))
some_at (x ∷ xs) zero less = (x, refl)
some_at (x ∷ xs) (suc k) less = some_at xs k (omega (arith, less))

pub blocks_cut : (sets : List NameSet) (i end : ℕ) (before now : List Block) → SoFar (BlockMade (sets_of sets)) i (plain_blocks before) (plain_blocks now) → end ≡ length before → end ≤ i → TellsLive (plain_blocks before) (sets_of sets) → IsCut (plain_blocks before) (plain_blocks now)
blocks_cut sets i end before now s is_end past tells = record { as_many = s.as_many; at = λ n. by n (slice_get (plain_blocks before) n) refl }
  where
    many : length (plain_blocks before) ≡ length before
    many = length-map before plain_block

    of_block : (n : ℕ) (b a : PlainBlock) → n < length (plain_blocks before) → BlockMade (sets_of sets) n b a → CutAt (Stays (plain_blocks before) n) (Some b) (Some a)
    of_block zero b a less made = subst (λ a. CutAt (Stays (plain_blocks before) 0) (Some b) (Some a)) made (one_block (keeps_all (plain_blocks before) b.params))
    of_block (suc n) b a less made =
        let names = some_at (sets_of sets) (suc n) (subst (λ m. suc n < m) (sym tells.as_many) less) in
        subst (λ a. CutAt (Stays (plain_blocks before) (suc n)) (Some b) (Some a)) (sym (made names.0 names.1)) (one_block (keeps_live names.0 (Stays (plain_blocks before) (suc n)) (tells.each (suc n) names.0 names.1) b.params))

    by : (n : ℕ) (o : Option PlainBlock) → slice_get (plain_blocks before) n ≡ o → CutAt (Stays (plain_blocks before) n) o (slice_get (plain_blocks now) n)
    by n None e = subst (CutAt (Stays (plain_blocks before) n) None) (sym (slice_get_past (plain_blocks now) n (subst (λ m. m ≤ n) (sym s.as_many) (past_end (plain_blocks before) n e)))) no_block
    by n (Some b) e =
        let less : n < length (plain_blocks before) = slice_get_within (plain_blocks before) n b e in
        let p = s.done n b e (omega (arith, less, many, is_end, past)) in
        subst (CutAt (Stays (plain_blocks before) n) (Some b)) (sym p.1) (of_block n b p.0 less p.2)

-- Methods

abbrev pub MethodMade : ℕ → List PlainBlock → List PlainBlock → Type 0
MethodMade k blocks made = LiveAreParams blocks → IsCut blocks made

pub methods_begin : (before : List (List PlainBlock)) → SoFar MethodMade 0 before before
methods_begin before = record { as_many = refl; done = λ k blocks is less. absurd (omega (arith, less)); rest = λ k blocks is past. is }

pub method_next : (i : ℕ) (before now : List (List Block)) (old new : List Block) → SoFar MethodMade i (plain_methods before) (plain_methods now) → i < length before → slice_get now i ≡ Some old → (LiveAreParams (plain_blocks old) → IsCut (plain_blocks old) (plain_blocks new))
    → SoFar MethodMade (i + 1) (plain_methods before) (plain_methods (slice_set now i new))
method_next i before now old new s less at made =
    subst (SoFar MethodMade (i + 1) (plain_methods before)) (sym (map_set plain_blocks now i new))
    (so_next MethodMade i (plain_methods before) (plain_methods now) (plain_blocks old) (plain_blocks new) s (subst (λ n. i < n) (sym (length-map before plain_blocks)) less) (slice_get-map plain_blocks now i ∙ ap (option_map plain_blocks) at) made)

-- Where the blocks of a method stand

less_or_more : (k n : ℕ) → (k < n) ⊎ ((d : ℕ) × (k ≡ n + d))
less_or_more k zero = inr (k, omega arith)
less_or_more zero (suc n) = inl (omega arith)
less_or_more (suc k) (suc n) = by (less_or_more k n)
  where
    by : (k < n) ⊎ ((d : ℕ) × (k ≡ n + d)) → (suc k < suc n) ⊎ ((d : ℕ) × (suc k ≡ suc n + d))
    by (inl less) = inl (omega (arith, less))
    by (inr p) = let e : k ≡ n + p.0 = p.1 in inr (p.0, omega (arith, e))

record StandsAt (tables : List PlainTable) (start k : ℕ) : Type 0 where
  class : ℕ
  number : ℕ
  table : PlainTable
  sig : PlainSig
  has_table : slice_get tables class ≡ Some table
  has_sig : slice_get table.methods number ≡ Some sig
  place : slice_index_or (firsts_from start tables) class 0 + number ≡ start + k

stands_at : (tables : List PlainTable) (start k : ℕ) → k < method_count tables → StandsAt tables start k
unfolding firsts_from
stands_at [] start k less = absurd (omega (arith, less))
stands_at (t ∷ ts) start k less = by (less_or_more k (length t.methods)) (λ d. stands_at ts (start + length t.methods) d)
  where
    by : (k < length t.methods) ⊎ ((d : ℕ) × (k ≡ length t.methods + d)) → ((d : ℕ) → d < method_count ts → StandsAt ts (start + length t.methods) d) → StandsAt (t ∷ ts) start k
    by (inl here) rest = let sig = some_at t.methods k here in record { class = 0; number = k; table = t; sig = sig.0; has_table = refl; has_sig = sig.1; place = refl }
    by (inr p) rest =
        let e : k ≡ length t.methods + p.0 = p.1 in
        let total : k < length t.methods + method_count ts = less in
        let q = rest p.0 (omega (arith, e, total)) in
        let there : slice_index_or (firsts_from (start + length t.methods) ts) q.class 0 + q.number ≡ (start + length t.methods) + p.0 = q.place in
        record { class = suc q.class; number = q.number; table = q.table; sig = q.sig; has_table = q.has_table; has_sig = q.has_sig; place = omega (arith, e, there) }

module _ (names : List (List ℕ)) (program : PlainProgram) (accepted : IsKnownAccepted names program) (graph : List (List PlainBlock)) (fits : GraphFits names program graph) where
  pub live_are_params : (k : ℕ) (blocks : List PlainBlock) → slice_get graph k ≡ Some blocks → LiveAreParams blocks
  live_are_params k blocks is n b b_is x live =
      let p : StandsAt (tables_of names program) 0 k = stands_at (tables_of names program) 0 k (subst (λ m. k < m) fits.as_many (slice_get_within graph k blocks is)) in
      let m : IsMethod names program accepted.rules.classes accepted.rules.flow p.class p.number p.sig = method_is names program accepted.rules.classes accepted.rules.flow p.class p.number p.table p.sig p.has_table p.has_sig in
      let q : MethodFits names program (leaving names program fits.marks p.class) p.class p.number m.is (blocks_of (tables_of names program) graph p.class p.number) = fits.methods p.class p.number m.is m.at in
      let c : Context = in_method (tables_of names program) p.class p.number in
      let leaves : Leaving = leaving names program fits.marks p.class in
      let variables : List PlainVar = map var_of q.locals ++ q.temporaries in
      let place : method_place (tables_of names program) p.class p.number ≡ k = (let e = p.place in omega (arith, e)) in
      let same : blocks_of (tables_of names program) graph p.class p.number ≡ blocks = ap (λ n. slice_index_or graph n []) place ∙ found_or graph k [] blocks is in
      live_is_param x c leaves variables blocks (subst (λ bs. All (BlockFits c leaves variables bs) bs) same q.each) n live b b_is

pub known_of : (p : Checked) → IsKnownAccepted (checked_names p) (checked_program p)
known_of p = record { bounded = p.bounded; rules = p.rules; table = p.table }

pub methods_cut : (p : Checked) (i end : ℕ) (before now : List (List Block)) → GraphFits (checked_names p) (checked_program p) (plain_methods before) → SoFar MethodMade i (plain_methods before) (plain_methods now) → end ≡ length before → end ≤ i → AreCut (plain_methods before) (plain_methods now)
methods_cut checked i end before now fits s is_end past = record {
  as_many = s.as_many;
  each = λ k blocks is.
      let less : k < length (plain_methods before) = slice_get_within (plain_methods before) k blocks is in
      let many : length (plain_methods before) ≡ length before = length-map before plain_blocks in
      let p = s.done k blocks is (omega (arith, less, many, is_end, past)) in
      (p.0, p.1, p.2 (live_are_params (checked_names checked) (checked_program checked) (known_of checked) (plain_methods before) fits k blocks is));
}
