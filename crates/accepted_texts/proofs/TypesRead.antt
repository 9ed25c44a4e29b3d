-- A type that is read leaves the ints behind it.
use Rattle.std.proofs.Common.{ℕ, ℤ}
use Rattle.std.specs.declared.option.Option.{Option}
use Rattle.py_tree.specs.declared.terminal.Terminal.{Terminal}
use Rattle.py_tree.specs.PlainTypes.{PlainWritten}
use Rattle.py_tree.specs.Reading.{Input, found}
use Rattle.py_tree.specs.TypeGrammar.{IsType, IsInner, IsAnnotation, type_int, type_bool, type_str, type_nil, type_list, type_optional, type_name, type_quoted, inner_is, annotation_none, annotation_is}
use Rattle.accepted_texts.proofs.LeftInts.{LeftInts, passed, passed_name, passed_text}

module _ (P : ℤ → Type 0) where
  mutual
    pub type_leaves : {n : ℕ} {i : Input} {t : PlainWritten} {m : Input} → IsType n i (found t m) → LeftInts P i → LeftInts P m
    type_leaves (type_int {i = i} _) s = passed P i s
    type_leaves (type_bool {i = i} _) s = passed P i s
    type_leaves (type_str {i = i} _) s = passed P i s
    type_leaves (type_nil {i = i} _) s = passed P i s
    type_leaves (type_list {i = i} _ h1) s = inner_leaves h1 (passed P i s)
    type_leaves (type_optional {i = i} _ h1) s = inner_leaves h1 (passed P i s)
    type_leaves (type_name {i = i} _) s = passed_name P i s
    type_leaves (type_quoted {i = i} _ _) s = passed_text P i s

    pub inner_leaves : {n : ℕ} {i : Input} {t : PlainWritten} {m : Input} → IsInner n i (found t m) → LeftInts P i → LeftInts P m
    inner_leaves (inner_is {i = i} {m1 = m1} _ h1 _) s = passed P m1 (type_leaves h1 (passed P i s))

  pub annotation_leaves : {n : ℕ} {c : Terminal} {i : Input} {t : Option PlainWritten} {m : Input} → IsAnnotation n c i (found t m) → LeftInts P i → LeftInts P m
  annotation_leaves (annotation_none _) s = s
  annotation_leaves (annotation_is {i = i} _ h1) s = type_leaves h1 (passed P i s)
