-- Where the blocks of each method stand in the compiled graph.
use Rattle.std.proofs.Common.{◌≡◌, ℕ, zero, suc, ◌+◌, arith, Bool, Some, List, [], ◌∷◌, ◌++◌, length, length-append, zero-add, refl, sym, ap, ◌∙◌, subst}
use Rattle.std.specs.Prelude.{slice_get, slice_index_or}
use Rattle.std.proofs.lemmas.Option.{none-some, same_Some}
use Rattle.std.proofs.lemmas.List.{length-map}
use Rattle.py_tree.specs.PlainProgram.{PlainMethod, PlainClass, PlainProgram}
use Rattle.py_tree.specs.ClassRules.{methods_of, sig_of, table_of, tables_of}
use Rattle.py_tree.specs.Acceptance.{members_at}
use Rattle.block_code.specs.PlainBlocks.{PlainBlock}
use Rattle.block_code.specs.Places.{firsts_from}
use Rattle.block_code.specs.GraphFits.{method_count}
use Rattle.block_code.proofs.GraphLaws.{found_or}
pub use Rattle.hoisting.proofs.MethodStands.{ClassOf, class_of_method, sig_stands}
use Rattle.compiled_graph.specs.CompiledGraph.{method_blocks, methods_compiled, classes_compiled, compiled}
use Rattle.compiled_graph.specs.CompiledMeaning.{HasItsBlocks, CompiledBlocksStand}

-- what stands in the first of two lists, and in the second
in_first : {A : Type 0} (xs ys : List A) (j : ℕ) (x : A) → slice_get xs j ≡ Some x → slice_get (xs ++ ys) j ≡ Some x
in_first [] ys j x is = absurd (none-some x is)
in_first (y ∷ xs) ys zero x is = is
in_first (y ∷ xs) ys (suc j) x is = in_first xs ys j x is

in_second : {A : Type 0} (xs ys : List A) (j : ℕ) → slice_get (xs ++ ys) (length xs + j) ≡ slice_get ys j
in_second [] ys j = ap (slice_get ys) (zero-add j)
in_second (x ∷ xs) ys j =
    let place : suc (length xs) + j ≡ suc (length xs + j) = omega arith in
    ap (slice_get (x ∷ xs ++ ys)) place ∙ in_second xs ys j

module _ (names : List (List ℕ)) (program : PlainProgram) (marks : List (List Bool)) where
  abbrev methods : ℕ → ℕ → List PlainMethod → List (List PlainBlock)
  methods = methods_compiled names program marks

  abbrev classes : ℕ → List PlainClass → List (List PlainBlock)
  classes = classes_compiled names program marks

  many_methods : (class number : ℕ) (ms : List PlainMethod) → length (methods class number ms) ≡ length ms
  unfolding methods_compiled
  many_methods class number [] = refl
  many_methods class number (m ∷ ms) = ap suc (many_methods class (number + 1) ms)

  method_found : (class first number : ℕ) (ms : List PlainMethod) (m : PlainMethod) → slice_get ms number ≡ Some m → slice_get (methods class first ms) number ≡ Some (method_blocks names program marks class (first + number) m)
  unfolding methods_compiled
  method_found class first number [] m is = absurd (none-some m is)
  method_found class first zero (x ∷ ms) m is =
      let same : first ≡ first + 0 = omega arith in
      ap Some (ap (method_blocks names program marks class first) (same_Some _ _ is) ∙ ap (λ k. method_blocks names program marks class k m) same)
  method_found class first (suc number) (x ∷ ms) m is =
      let same : first + 1 + number ≡ first + suc number = omega arith in
      method_found class (first + 1) number ms m is ∙ ap (λ k. Some (method_blocks names program marks class k m)) same

  -- the methods in the table of a class
  in_table : (c : PlainClass) → length (table_of names c).methods ≡ length (methods_of names c.members)
  unfolding table_of
  in_table c = length-map (methods_of names c.members) sig_of

  many_classes : (class : ℕ) (cs : List PlainClass) → length (classes class cs) ≡ method_count (tables_of names cs)
  unfolding classes_compiled
  many_classes class [] = refl
  many_classes class (c ∷ cs) =
      length-append (methods class 0 (methods_of names c.members)) (classes (class + 1) cs) ∙ ap (λ k. k + length (classes (class + 1) cs)) (many_methods class 0 (methods_of names c.members) ∙ sym (in_table c))
      ∙ ap (λ k. length (table_of names c).methods + k) (many_classes (class + 1) cs)

  -- where the blocks of a class begin, so many places behind the first, and those of a method
  record Found (first : ℕ) (cs : List PlainClass) (graph : List (List PlainBlock)) (class number : ℕ) (blocks : List PlainBlock) : Type 0 where
    behind : ℕ
    begins : slice_index_or (firsts_from first (tables_of names cs)) class 0 ≡ first + behind
    stands : slice_get graph (behind + number) ≡ Some blocks

  found_in : (start first : ℕ) (cs : List PlainClass) (class number : ℕ) (c : PlainClass) (m : PlainMethod) → slice_get cs class ≡ Some c → slice_get (methods_of names c.members) number ≡ Some m
      → Found first cs (classes start cs) class number (method_blocks names program marks (start + class) number m)
  unfolding classes_compiled firsts_from
  found_in start first [] class number c m is has = absurd (none-some c is)
  found_in start first (x ∷ cs) zero number c m is has =
      let own : List PlainMethod = methods_of names x.members in
      let same : start ≡ start + 0 = omega arith in
      let there : slice_get own number ≡ Some m = subst (λ (y : PlainClass). slice_get (methods_of names y.members) number ≡ Some m) (sym (same_Some _ _ is)) has in
      let here = in_first (methods start 0 own) (classes (start + 1) cs) number (method_blocks names program marks start (0 + number) m) (method_found start 0 number own m there) in
      record {
        behind = 0;
        begins = omega arith;
        stands = ap (slice_get (methods start 0 own ++ classes (start + 1) cs)) (zero-add number) ∙ here ∙ ap (λ k. Some (method_blocks names program marks start k m)) (zero-add number) ∙ ap (λ k. Some (method_blocks names program marks k number m)) same;
      }
  found_in start first (x ∷ cs) (suc class) number c m is has =
      let own : ℕ = length (table_of names x).methods in
      let same : start + 1 + class ≡ start + suc class = omega arith in
      let r = found_in (start + 1) (first + own) cs class number c m is has in
      let behind : first + own + r.behind ≡ first + (own + r.behind) = omega arith in
      let ours : List (List PlainBlock) = methods start 0 (methods_of names x.members) in
      let many : own ≡ length ours = in_table x ∙ sym (many_methods start 0 (methods_of names x.members)) in
      let place : own + r.behind + number ≡ length ours + (r.behind + number) = omega (arith, many) in
      record {
        behind = own + r.behind;
        begins = r.begins ∙ behind;
        stands = ap (slice_get (ours ++ classes (start + 1) cs)) place ∙ in_second ours (classes (start + 1) cs) (r.behind + number) ∙ r.stands ∙ ap (λ k. Some (method_blocks names program marks k number m)) same;
      }

  blocks_found : (class number : ℕ) (m : PlainMethod) → slice_get (methods_of names (members_at program class)) number ≡ Some m → HasItsBlocks names program marks class number m
  blocks_found class number m h =
      let c = class_of_method names program class number m h in
      let f = found_in 0 0 program class number c.is m c.at c.has in
      found_or (compiled names program marks) (slice_index_or (firsts_from 0 (tables_of names program)) class 0 + number) [] (method_blocks names program marks class number m)
      (ap (λ k. slice_get (compiled names program marks) (k + number)) (f.begins ∙ zero-add f.behind) ∙ f.stands ∙ ap (λ k. Some (method_blocks names program marks k number m)) (zero-add class))

pub blocks_stand : CompiledBlocksStand
blocks_stand names program marks = record { as_many = many_classes names program marks 0 program; each = blocks_found names program marks }
