-- Where the blocks of methods stand.
use Rattle.std.proofs.Common.{◌≡◌, ℕ, zero, suc, ◌+◌, ◌≤◌, ◌<◌, Some, None, List, [], ◌∷◌, ◌++◌, length, drop, get_or, refl, sym, ap, subst, ◌∙◌, append_assoc, append-nil}
use Rattle.std.specs.Prelude.{slice_get, slice_index_or, option_map}
use Rattle.std.proofs.lemmas.List.{length-map}
use Rattle.std.proofs.Math.ListN.{drop_of_length-le}
use Rattle.std.proofs.lemmas.Option.{none-some, slice_get-map, get_or_from_slice_get, slice_get-get_or}
use Rattle.py_tree.specs.PlainProgram.{PlainClass, PlainProgram}
use Rattle.py_tree.specs.ClassRules.{PlainTable, program_fault, methods_of, sig_of, table_of, tables_of}
use Rattle.py_tree.proofs.ClassRuleLaws.{few_classes, few_methods}
use Rattle.program_meaning.proofs.TableFacts.{mapped_at}
use Rattle.block_code.specs.declared.block.Block.{Block}
use Rattle.block_code.specs.PlainBlocks.{plain_blocks, plain_methods}
use Rattle.entity_tables.specs.declared.table.ClassTable.{ClassTable}
use Rattle.entity_tables.specs.Views.{plain_sig, plain_table, plain_tables}
use Rattle.py_tree.proofs.ListWalks.{map_from}
use Rattle.block_code.specs.Places.{firsts_from}

-- one table more: what is still to come begins behind its methods
pub first_more : (ts : List ClassTable) (i : ℕ) (t : ClassTable) (place n : ℕ) (made more all : List ℕ) → i < length ts → t ≡ get_or ts i t → n ≡ length t.methods
    → made ++ firsts_from place (plain_tables (drop i ts)) ≡ all → more ≡ made ++ place ∷ [] → more ++ firsts_from (place + n) (plain_tables (drop (i + 1) ts)) ≡ all
unfolding firsts_from
first_more ts i t place n made more all within is many so_far new =
    let rest : List ℕ = firsts_from (place + n) (plain_tables (drop (i + 1) ts)) in
    let next : firsts_from place (plain_tables (drop i ts)) ≡ place ∷ rest =
    ap (firsts_from place) (map_from plain_table ts i t within is) ∙ ap (λ k. place ∷ firsts_from (place + k) (plain_tables (drop (i + 1) ts))) (length-map t.methods plain_sig ∙ sym many) in
    ap (λ xs. xs ++ rest) new ∙ append_assoc made (place ∷ []) rest ∙ ap (λ xs. made ++ xs) (sym next) ∙ so_far

-- no table is left
pub first_none : (ts : List ClassTable) (i place : ℕ) (made : List ℕ) → length ts ≤ i → made ++ firsts_from place (plain_tables (drop i ts)) ≡ made
unfolding firsts_from
first_none ts i place made past = ap (λ us. made ++ firsts_from place (plain_tables us)) (drop_of_length-le ts past) ∙ append-nil made

-- what stands at a place, or else this
pub found_or : {A : Type 0} (xs : List A) (i : ℕ) (d x : A) → slice_get xs i ≡ Some x → slice_index_or xs i d ≡ x
found_or xs i d x is = get_or_from_slice_get xs i x d is

pub none_or : {A : Type 0} (xs : List A) (i : ℕ) (d : A) → slice_get xs i ≡ None → slice_index_or xs i d ≡ d
none_or [] i d none = refl
none_or (x ∷ xs) zero d none = absurd (none-some x (sym none))
none_or (x ∷ xs) (suc i) d none = none_or xs i d none

-- the blocks of a method, where there are some at its place
pub blocks_found : (all : List (List Block)) (place : ℕ) (blocks : List Block) → slice_get all place ≡ Some blocks → plain_blocks blocks ≡ slice_index_or (plain_methods all) place []
blocks_found all place blocks is = sym (found_or (plain_methods all) place [] (plain_blocks blocks) (slice_get-map plain_blocks all place ∙ ap (option_map plain_blocks) is))

pub no_blocks : (all : List (List Block)) (place : ℕ) → slice_get all place ≡ None → [] ≡ slice_index_or (plain_methods all) place []
no_blocks all place none = sym (none_or (plain_methods all) place [] (slice_get-map plain_blocks all place ∙ ap (option_map plain_blocks) none))

-- an accepted program has few classes, and each has few methods
pub few_tables : (names : List (List ℕ)) (program : PlainProgram) (ts : List ClassTable) → program_fault names program ≡ None → plain_tables ts ≡ tables_of names program → length ts ≤ 256
few_tables names program ts kept are =
    let same : length ts ≡ length program = sym (length-map ts plain_table) ∙ ap length are ∙ length-map program (table_of names) in
    subst (λ n. n ≤ 256) (sym same) (few_classes names program kept)

pub few_in_table : (names : List (List ℕ)) (program : PlainProgram) (ts : List ClassTable) → program_fault names program ≡ None → plain_tables ts ≡ tables_of names program
    → (k : ℕ) (d : ClassTable) → k < length ts → length (slice_index_or ts k d).methods ≤ 256
unfolding table_of
few_in_table names program ts kept are k d within =
    let t : ClassTable = slice_index_or ts k d in
    let at : slice_get (tables_of names program) k ≡ Some (plain_table t) = ap (λ us. slice_get us k) (sym are) ∙ slice_get-map plain_table ts k ∙ ap (option_map plain_table) (slice_get-get_or ts k d within) in
    let c : (c : PlainClass) × (slice_get program k ≡ Some c) × (table_of names c ≡ plain_table t) = mapped_at (table_of names) program k (plain_table t) at in
    let same : length t.methods ≡ length (methods_of names c.0.members) =
    sym (length-map t.methods plain_sig) ∙ ap (λ (u : PlainTable). length u.methods) (sym c.2) ∙ length-map (methods_of names c.0.members) sig_of in
    subst (λ n. n ≤ 256) (sym same) (few_methods names program k c.0 kept c.1)
