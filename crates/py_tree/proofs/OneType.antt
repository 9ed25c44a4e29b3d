-- Reading a type has one outcome at most.
use Rattle.std.proofs.Common.{◌≡◌, ℕ, ◌-◌, Option, arith, ap}
use Rattle.py_tree.specs.declared.terminal.Terminal.{Terminal}
use Rattle.py_tree.specs.PlainTypes.{PlainWritten}
use Rattle.py_tree.specs.Reading.{Input, Outcome, next}
use Rattle.py_tree.specs.TypeGrammar.{IsType, IsInner, IsAnnotation, type_int, type_bool, type_str, type_nil, type_list_stops_t, type_list, type_optional_stops_t, type_optional, type_name, type_quoted_needs_name, type_quoted, type_other, inner_is_deep, inner_is_stops_t, inner_is_needs_closebracket, inner_is, annotation_none, annotation_is_stops_t, annotation_is}

mutual
  pub type_one : {n n' : ℕ} {i i' : Input} {o o' : Outcome PlainWritten} → IsType n i o → n ≡ n' → i ≡ i' → IsType n' i' o' → o ≡ o'
  type_one (type_int h0) en ei (type_int h0') = cc
  type_one (type_int h0) en ei (type_bool h0') = cc
  type_one (type_int h0) en ei (type_str h0') = cc
  type_one (type_int h0) en ei (type_nil h0') = cc
  type_one (type_int h0) en ei (type_list_stops_t h0' h1') = cc
  type_one (type_int h0) en ei (type_list h0' h1') = cc
  type_one (type_int h0) en ei (type_optional_stops_t h0' h1') = cc
  type_one (type_int h0) en ei (type_optional h0' h1') = cc
  type_one (type_int h0) en ei (type_name h0') = cc
  type_one (type_int h0) en ei (type_quoted_needs_name h0' h1') = cc
  type_one (type_int h0) en ei (type_quoted h0' h1') = cc
  type_one (type_int h0) en ei (type_other h0') = cc
  type_one (type_bool h0) en ei (type_int h0') = cc
  type_one (type_bool h0) en ei (type_bool h0') = cc
  type_one (type_bool h0) en ei (type_str h0') = cc
  type_one (type_bool h0) en ei (type_nil h0') = cc
  type_one (type_bool h0) en ei (type_list_stops_t h0' h1') = cc
  type_one (type_bool h0) en ei (type_list h0' h1') = cc
  type_one (type_bool h0) en ei (type_optional_stops_t h0' h1') = cc
  type_one (type_bool h0) en ei (type_optional h0' h1') = cc
  type_one (type_bool h0) en ei (type_name h0') = cc
  type_one (type_bool h0) en ei (type_quoted_needs_name h0' h1') = cc
  type_one (type_bool h0) en ei (type_quoted h0' h1') = cc
  type_one (type_bool h0) en ei (type_other h0') = cc
  type_one (type_str h0) en ei (type_int h0') = cc
  type_one (type_str h0) en ei (type_bool h0') = cc
  type_one (type_str h0) en ei (type_str h0') = cc
  type_one (type_str h0) en ei (type_nil h0') = cc
  type_one (type_str h0) en ei (type_list_stops_t h0' h1') = cc
  type_one (type_str h0) en ei (type_list h0' h1') = cc
  type_one (type_str h0) en ei (type_optional_stops_t h0' h1') = cc
  type_one (type_str h0) en ei (type_optional h0' h1') = cc
  type_one (type_str h0) en ei (type_name h0') = cc
  type_one (type_str h0) en ei (type_quoted_needs_name h0' h1') = cc
  type_one (type_str h0) en ei (type_quoted h0' h1') = cc
  type_one (type_str h0) en ei (type_other h0') = cc
  type_one (type_nil h0) en ei (type_int h0') = cc
  type_one (type_nil h0) en ei (type_bool h0') = cc
  type_one (type_nil h0) en ei (type_str h0') = cc
  type_one (type_nil h0) en ei (type_nil h0') = cc
  type_one (type_nil h0) en ei (type_list_stops_t h0' h1') = cc
  type_one (type_nil h0) en ei (type_list h0' h1') = cc
  type_one (type_nil h0) en ei (type_optional_stops_t h0' h1') = cc
  type_one (type_nil h0) en ei (type_optional h0' h1') = cc
  type_one (type_nil h0) en ei (type_name h0') = cc
  type_one (type_nil h0) en ei (type_quoted_needs_name h0' h1') = cc
  type_one (type_nil h0) en ei (type_quoted h0' h1') = cc
  type_one (type_nil h0) en ei (type_other h0') = cc
  type_one (type_list_stops_t h0 h1) en ei (type_int h0') = cc
  type_one (type_list_stops_t h0 h1) en ei (type_bool h0') = cc
  type_one (type_list_stops_t h0 h1) en ei (type_str h0') = cc
  type_one (type_list_stops_t h0 h1) en ei (type_nil h0') = cc
  type_one (type_list_stops_t h0 h1) en ei (type_list_stops_t h0' h1') = let s1 = inner_one h1 en (ap (λ z. next z) ei) h1' in cc
  type_one (type_list_stops_t h0 h1) en ei (type_list h0' h1') = let s1 = inner_one h1 en (ap (λ z. next z) ei) h1' in cc
  type_one (type_list_stops_t h0 h1) en ei (type_optional_stops_t h0' h1') = cc
  type_one (type_list_stops_t h0 h1) en ei (type_optional h0' h1') = cc
  type_one (type_list_stops_t h0 h1) en ei (type_name h0') = cc
  type_one (type_list_stops_t h0 h1) en ei (type_quoted_needs_name h0' h1') = cc
  type_one (type_list_stops_t h0 h1) en ei (type_quoted h0' h1') = cc
  type_one (type_list_stops_t h0 h1) en ei (type_other h0') = cc
  type_one (type_list h0 h1) en ei (type_int h0') = cc
  type_one (type_list h0 h1) en ei (type_bool h0') = cc
  type_one (type_list h0 h1) en ei (type_str h0') = cc
  type_one (type_list h0 h1) en ei (type_nil h0') = cc
  type_one (type_list h0 h1) en ei (type_list_stops_t h0' h1') = let s1 = inner_one h1 en (ap (λ z. next z) ei) h1' in cc
  type_one (type_list h0 h1) en ei (type_list h0' h1') = let s1 = inner_one h1 en (ap (λ z. next z) ei) h1' in cc
  type_one (type_list h0 h1) en ei (type_optional_stops_t h0' h1') = cc
  type_one (type_list h0 h1) en ei (type_optional h0' h1') = cc
  type_one (type_list h0 h1) en ei (type_name h0') = cc
  type_one (type_list h0 h1) en ei (type_quoted_needs_name h0' h1') = cc
  type_one (type_list h0 h1) en ei (type_quoted h0' h1') = cc
  type_one (type_list h0 h1) en ei (type_other h0') = cc
  type_one (type_optional_stops_t h0 h1) en ei (type_int h0') = cc
  type_one (type_optional_stops_t h0 h1) en ei (type_bool h0') = cc
  type_one (type_optional_stops_t h0 h1) en ei (type_str h0') = cc
  type_one (type_optional_stops_t h0 h1) en ei (type_nil h0') = cc
  type_one (type_optional_stops_t h0 h1) en ei (type_list_stops_t h0' h1') = cc
  type_one (type_optional_stops_t h0 h1) en ei (type_list h0' h1') = cc
  type_one (type_optional_stops_t h0 h1) en ei (type_optional_stops_t h0' h1') = let s1 = inner_one h1 en (ap (λ z. next z) ei) h1' in cc
  type_one (type_optional_stops_t h0 h1) en ei (type_optional h0' h1') = let s1 = inner_one h1 en (ap (λ z. next z) ei) h1' in cc
  type_one (type_optional_stops_t h0 h1) en ei (type_name h0') = cc
  type_one (type_optional_stops_t h0 h1) en ei (type_quoted_needs_name h0' h1') = cc
  type_one (type_optional_stops_t h0 h1) en ei (type_quoted h0' h1') = cc
  type_one (type_optional_stops_t h0 h1) en ei (type_other h0') = cc
  type_one (type_optional h0 h1) en ei (type_int h0') = cc
  type_one (type_optional h0 h1) en ei (type_bool h0') = cc
  type_one (type_optional h0 h1) en ei (type_str h0') = cc
  type_one (type_optional h0 h1) en ei (type_nil h0') = cc
  type_one (type_optional h0 h1) en ei (type_list_stops_t h0' h1') = cc
  type_one (type_optional h0 h1) en ei (type_list h0' h1') = cc
  type_one (type_optional h0 h1) en ei (type_optional_stops_t h0' h1') = let s1 = inner_one h1 en (ap (λ z. next z) ei) h1' in cc
  type_one (type_optional h0 h1) en ei (type_optional h0' h1') = let s1 = inner_one h1 en (ap (λ z. next z) ei) h1' in cc
  type_one (type_optional h0 h1) en ei (type_name h0') = cc
  type_one (type_optional h0 h1) en ei (type_quoted_needs_name h0' h1') = cc
  type_one (type_optional h0 h1) en ei (type_quoted h0' h1') = cc
  type_one (type_optional h0 h1) en ei (type_other h0') = cc
  type_one (type_name h0) en ei (type_int h0') = cc
  type_one (type_name h0) en ei (type_bool h0') = cc
  type_one (type_name h0) en ei (type_str h0') = cc
  type_one (type_name h0) en ei (type_nil h0') = cc
  type_one (type_name h0) en ei (type_list_stops_t h0' h1') = cc
  type_one (type_name h0) en ei (type_list h0' h1') = cc
  type_one (type_name h0) en ei (type_optional_stops_t h0' h1') = cc
  type_one (type_name h0) en ei (type_optional h0' h1') = cc
  type_one (type_name h0) en ei (type_name h0') = cc
  type_one (type_name h0) en ei (type_quoted_needs_name h0' h1') = cc
  type_one (type_name h0) en ei (type_quoted h0' h1') = cc
  type_one (type_name h0) en ei (type_other h0') = cc
  type_one (type_quoted_needs_name h0 h1) en ei (type_int h0') = cc
  type_one (type_quoted_needs_name h0 h1) en ei (type_bool h0') = cc
  type_one (type_quoted_needs_name h0 h1) en ei (type_str h0') = cc
  type_one (type_quoted_needs_name h0 h1) en ei (type_nil h0') = cc
  type_one (type_quoted_needs_name h0 h1) en ei (type_list_stops_t h0' h1') = cc
  type_one (type_quoted_needs_name h0 h1) en ei (type_list h0' h1') = cc
  type_one (type_quoted_needs_name h0 h1) en ei (type_optional_stops_t h0' h1') = cc
  type_one (type_quoted_needs_name h0 h1) en ei (type_optional h0' h1') = cc
  type_one (type_quoted_needs_name h0 h1) en ei (type_name h0') = cc
  type_one (type_quoted_needs_name h0 h1) en ei (type_quoted_needs_name h0' h1') = cc
  type_one (type_quoted_needs_name h0 h1) en ei (type_quoted h0' h1') = cc
  type_one (type_quoted_needs_name h0 h1) en ei (type_other h0') = cc
  type_one (type_quoted h0 h1) en ei (type_int h0') = cc
  type_one (type_quoted h0 h1) en ei (type_bool h0') = cc
  type_one (type_quoted h0 h1) en ei (type_str h0') = cc
  type_one (type_quoted h0 h1) en ei (type_nil h0') = cc
  type_one (type_quoted h0 h1) en ei (type_list_stops_t h0' h1') = cc
  type_one (type_quoted h0 h1) en ei (type_list h0' h1') = cc
  type_one (type_quoted h0 h1) en ei (type_optional_stops_t h0' h1') = cc
  type_one (type_quoted h0 h1) en ei (type_optional h0' h1') = cc
  type_one (type_quoted h0 h1) en ei (type_name h0') = cc
  type_one (type_quoted h0 h1) en ei (type_quoted_needs_name h0' h1') = cc
  type_one (type_quoted h0 h1) en ei (type_quoted h0' h1') = cc
  type_one (type_quoted h0 h1) en ei (type_other h0') = cc
  type_one (type_other h0) en ei (type_int h0') = cc
  type_one (type_other h0) en ei (type_bool h0') = cc
  type_one (type_other h0) en ei (type_str h0') = cc
  type_one (type_other h0) en ei (type_nil h0') = cc
  type_one (type_other h0) en ei (type_list_stops_t h0' h1') = cc
  type_one (type_other h0) en ei (type_list h0' h1') = cc
  type_one (type_other h0) en ei (type_optional_stops_t h0' h1') = cc
  type_one (type_other h0) en ei (type_optional h0' h1') = cc
  type_one (type_other h0) en ei (type_name h0') = cc
  type_one (type_other h0) en ei (type_quoted_needs_name h0' h1') = cc
  type_one (type_other h0) en ei (type_quoted h0' h1') = cc
  type_one (type_other h0) en ei (type_other h0') = cc

  pub inner_one : {n n' : ℕ} {i i' : Input} {o o' : Outcome PlainWritten} → IsInner n i o → n ≡ n' → i ≡ i' → IsInner n' i' o' → o ≡ o'
  inner_one (inner_is_deep h0) en ei (inner_is_deep h0') = cc
  inner_one (inner_is_deep h0) en ei (inner_is_stops_t h0' h1') = absurd (omega arith)
  inner_one (inner_is_deep h0) en ei (inner_is_needs_closebracket h0' h1' h2') = absurd (omega arith)
  inner_one (inner_is_deep h0) en ei (inner_is h0' h1' h2') = absurd (omega arith)
  inner_one (inner_is_stops_t h0 h1) en ei (inner_is_deep h0') = absurd (omega arith)
  inner_one (inner_is_stops_t h0 h1) en ei (inner_is_stops_t h0' h1') = let s1 = type_one h1 (ap (λ z. z - 1) en) (ap (λ z. next z) ei) h1' in cc
  inner_one (inner_is_stops_t h0 h1) en ei (inner_is_needs_closebracket h0' h1' h2') = let s1 = type_one h1 (ap (λ z. z - 1) en) (ap (λ z. next z) ei) h1' in cc
  inner_one (inner_is_stops_t h0 h1) en ei (inner_is h0' h1' h2') = let s1 = type_one h1 (ap (λ z. z - 1) en) (ap (λ z. next z) ei) h1' in cc
  inner_one (inner_is_needs_closebracket h0 h1 h2) en ei (inner_is_deep h0') = absurd (omega arith)
  inner_one (inner_is_needs_closebracket h0 h1 h2) en ei (inner_is_stops_t h0' h1') = let s1 = type_one h1 (ap (λ z. z - 1) en) (ap (λ z. next z) ei) h1' in cc
  inner_one (inner_is_needs_closebracket h0 h1 h2) en ei (inner_is_needs_closebracket h0' h1' h2') = let s1 = type_one h1 (ap (λ z. z - 1) en) (ap (λ z. next z) ei) h1' in cc
  inner_one (inner_is_needs_closebracket h0 h1 h2) en ei (inner_is h0' h1' h2') = let s1 = type_one h1 (ap (λ z. z - 1) en) (ap (λ z. next z) ei) h1' in cc
  inner_one (inner_is h0 h1 h2) en ei (inner_is_deep h0') = absurd (omega arith)
  inner_one (inner_is h0 h1 h2) en ei (inner_is_stops_t h0' h1') = let s1 = type_one h1 (ap (λ z. z - 1) en) (ap (λ z. next z) ei) h1' in cc
  inner_one (inner_is h0 h1 h2) en ei (inner_is_needs_closebracket h0' h1' h2') = let s1 = type_one h1 (ap (λ z. z - 1) en) (ap (λ z. next z) ei) h1' in cc
  inner_one (inner_is h0 h1 h2) en ei (inner_is h0' h1' h2') = let s1 = type_one h1 (ap (λ z. z - 1) en) (ap (λ z. next z) ei) h1' in cc

pub annotation_one : {n n' : ℕ} {c c' : Terminal} {i i' : Input} {o o' : Outcome (Option PlainWritten)} → IsAnnotation n c i o → n ≡ n' → c ≡ c' → i ≡ i' → IsAnnotation n' c' i' o' → o ≡ o'
annotation_one (annotation_none h0) en ec ei (annotation_none h0') = cc
annotation_one (annotation_none h0) en ec ei (annotation_is_stops_t h0' h1') = cc
annotation_one (annotation_none h0) en ec ei (annotation_is h0' h1') = cc
annotation_one (annotation_is_stops_t h0 h1) en ec ei (annotation_none h0') = cc
annotation_one (annotation_is_stops_t h0 h1) en ec ei (annotation_is_stops_t h0' h1') = let s1 = type_one h1 en (ap (λ z. next z) ei) h1' in cc
annotation_one (annotation_is_stops_t h0 h1) en ec ei (annotation_is h0' h1') = let s1 = type_one h1 en (ap (λ z. next z) ei) h1' in cc
annotation_one (annotation_is h0 h1) en ec ei (annotation_none h0') = cc
annotation_one (annotation_is h0 h1) en ec ei (annotation_is_stops_t h0' h1') = let s1 = type_one h1 en (ap (λ z. next z) ei) h1' in cc
annotation_one (annotation_is h0 h1) en ec ei (annotation_is h0' h1') = let s1 = type_one h1 en (ap (λ z. next z) ei) h1' in cc
