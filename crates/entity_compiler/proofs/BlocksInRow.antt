-- Blocks that are added method by method, and class by class.
use Rattle.std.proofs.Common.{◌≡◌, ℕ, arith, ◌+◌, ◌<◌, ◌≤◌, Bool, Some, None, ◌⊎◌, inl, inr, List, [], ◌∷◌, ◌++◌, length, drop, get_or, append_assoc, append-nil, sym, ap, ◌∙◌}
use Rattle.std.specs.Prelude.{slice_get}
use Rattle.std.proofs.lemmas.List.{map-append}
use Rattle.std.proofs.lemmas.Option.{slice_get_cases, slice_get_within, get_or_from_slice_get}
use Rattle.std.proofs.Math.ListN.{drop_of_length-le}
use Rattle.py_tree.specs.PlainProgram.{PlainMethod, PlainProgram}
use Rattle.py_tree.specs.ClassRules.{methods_of}
use Rattle.py_tree.specs.Acceptance.{members_of, members_at}
use Rattle.py_tree.proofs.ListWalks.{from_item}
use Rattle.block_code.specs.declared.block.Block.{Block}
use Rattle.block_code.specs.PlainBlocks.{PlainBlock, plain_blocks, plain_methods}
use Rattle.compiled_graph.specs.CompiledGraph.{method_blocks, methods_compiled, classes_compiled}

-- what a place within a list has
pub there_is : {A : Type 0} (xs : List A) (i : ℕ) → i < length xs → (x : A) × (slice_get xs i ≡ Some x)
there_is {A = A} xs i within = by ((slice_get_cases xs i).1)
  where
    by : ((x : A) × (i < length xs) × (slice_get xs i ≡ Some x) × (get_or xs i x ≡ x)) ⊎ ((length xs ≤ i) × (slice_get xs i ≡ None)) → (x : A) × (slice_get xs i ≡ Some x)
    by (inl f) = (f.0, f.2)
    by (inr p) = absurd (omega (arith, within, p.0))

-- what stands at a place, and all behind it
pub from_place : {A : Type 0} (xs : List A) (i : ℕ) (x : A) → slice_get xs i ≡ Some x → drop i xs ≡ x ∷ drop (i + 1) xs
from_place xs i x is = from_item xs i x (slice_get_within xs i x is) (sym (get_or_from_slice_get xs i x x is))

module _ (names : List (List ℕ)) (program : PlainProgram) (marks : List (List Bool)) where
  -- the blocks of one method more
  pub method_more : (class : ℕ) (ms : List PlainMethod) (i : ℕ) (m : PlainMethod) (blocks : List Block) (made more : List (List Block)) (all : List (List PlainBlock))
      → slice_get ms i ≡ Some m → plain_blocks blocks ≡ method_blocks names program marks class i m
      → plain_methods made ++ methods_compiled names program marks class i (drop i ms) ≡ all → more ≡ made ++ blocks ∷ []
      → plain_methods more ++ methods_compiled names program marks class (i + 1) (drop (i + 1) ms) ≡ all
  unfolding methods_compiled
  method_more class ms i m blocks made more all is same so_far new =
      let rest : List (List PlainBlock) = methods_compiled names program marks class (i + 1) (drop (i + 1) ms) in
      let next : methods_compiled names program marks class i (drop i ms) ≡ plain_blocks blocks ∷ rest = ap (methods_compiled names program marks class i) (from_place ms i m is) ∙ ap (λ bs. bs ∷ rest) (sym same) in
      ap (λ bs. bs ++ rest) (ap plain_methods new ∙ map-append plain_blocks made (blocks ∷ [])) ∙ append_assoc (plain_methods made) (plain_blocks blocks ∷ []) rest ∙ ap (λ bs. plain_methods made ++ bs) (sym next) ∙ so_far

  -- no method is left
  pub method_none : (class : ℕ) (ms : List PlainMethod) (i : ℕ) (made : List (List PlainBlock)) → length ms ≤ i → made ++ methods_compiled names program marks class i (drop i ms) ≡ made
  unfolding methods_compiled
  method_none class ms i made past = ap (λ xs. made ++ methods_compiled names program marks class i xs) (drop_of_length-le ms past) ∙ append-nil made

  -- the blocks of one class more
  pub class_more : (i : ℕ) (made more all : List (List PlainBlock)) → i < length program → made ++ classes_compiled names program marks i (drop i program) ≡ all
      → more ≡ made ++ methods_compiled names program marks i 0 (methods_of names (members_at program i)) → more ++ classes_compiled names program marks (i + 1) (drop (i + 1) program) ≡ all
  unfolding classes_compiled
  class_more i made more all within so_far new =
      let rest : List (List PlainBlock) = classes_compiled names program marks (i + 1) (drop (i + 1) program) in
      let own : List (List PlainBlock) = methods_compiled names program marks i 0 (methods_of names (members_at program i)) in
      let c = there_is program i within in
      let next : classes_compiled names program marks i (drop i program) ≡ own ++ rest =
      ap (classes_compiled names program marks i) (from_place program i c.0 c.1) ∙ ap (λ o. methods_compiled names program marks i 0 (methods_of names (members_of o)) ++ rest) (sym c.1) in
      ap (λ bs. bs ++ rest) new ∙ append_assoc made own rest ∙ ap (λ bs. made ++ bs) (sym next) ∙ so_far

  -- no class is left
  pub class_none : (i : ℕ) (made : List (List PlainBlock)) → length program ≤ i → made ++ classes_compiled names program marks i (drop i program) ≡ made
  unfolding classes_compiled
  class_none i made past = ap (λ xs. made ++ classes_compiled names program marks i xs) (drop_of_length-le program past) ∙ append-nil made
