-- Types that are read fit what was there to read.
use Rattle.std.proofs.Common.{◌≤◌, ◌+◌, ℕ, length, refl, arith}
use Rattle.std.specs.Prelude.{IfSome}
use Rattle.std.specs.declared.option.Option.{Option}
use Rattle.py_tree.specs.declared.terminal.Terminal.{Terminal}
use Rattle.py_tree.specs.declared.starts.TypeStart.TheVariants as type
use Rattle.py_tree.specs.PlainTypes.{PlainWritten}
use Rattle.py_tree.specs.Reading.{Input, found}
use Rattle.py_tree.specs.TypeGrammar.{IsType, IsInner, IsAnnotation, type_int, type_bool, type_str, type_nil, type_list, type_optional, type_name, type_quoted, inner_is, annotation_none, annotation_is}
use Rattle.py_tree.specs.Bounded.{nesting, TypeNames}
use Rattle.py_tree.proofs.Taken.{Reads, reads_on, stays, passed, passed_name, passed_text, name_stands, text_stands, taken_type}
use Rattle.py_tree.proofs.ExpressionBounds.{type_kept, TypeFits}

-- a type that may stand there
pub record AnnotationFits (deep : ℕ) (i : Input) (t : Option PlainWritten) (m : Input) : Type 0 where
  pub read : Reads i m
  pub names : IfSome t (TypeNames (length m.names))
  pub flat : IfSome t (λ u. nesting u ≤ deep)

-- a type within brackets, which is a part of one that nests no deeper than this
pub record InnerFits (deep : ℕ) (i : Input) (t : PlainWritten) (m : Input) : Type 0 where
  pub read : Reads i m
  pub names : TypeNames (length m.names) t
  pub flat : 1 + nesting t ≤ deep

mutual
  unfolding nesting TypeNames

  pub type_fits : {n : ℕ} {i : Input} {t : PlainWritten} {m : Input} → IsType n i (found t m) → TypeFits n i t m
  type_fits (type_int {i = i} _) = record { read = passed i; names = tt; flat = omega arith }
  type_fits (type_bool {i = i} _) = record { read = passed i; names = tt; flat = omega arith }
  type_fits (type_str {i = i} _) = record { read = passed i; names = tt; flat = omega arith }
  type_fits (type_nil {i = i} _) = record { read = passed i; names = tt; flat = omega arith }
  type_fits (type_list {i = i} _ h1) = let s1 = inner_fits h1 in record { read = reads_on (passed i) s1.read; names = s1.names; flat = s1.flat }
  type_fits (type_optional {i = i} _ h1) = let s1 = inner_fits h1 in record { read = reads_on (passed i) s1.read; names = s1.names; flat = s1.flat }
  type_fits (type_name {i = i} h0) = let t0 = taken_type i type.Name h0 refl in record { read = passed_name i t0; names = name_stands i; flat = omega arith }
  type_fits (type_quoted {i = i} h0 _) = let t0 = taken_type i type.Quoted h0 refl in record { read = passed_text i t0; names = text_stands i; flat = omega arith }

  pub inner_fits : {n : ℕ} {i : Input} {t : PlainWritten} {m : Input} → IsInner n i (found t m) → InnerFits n i t m
  inner_fits (inner_is {i = i} {t = t} {m1 = m1} h0 h1 _) = let s1 = type_fits h1 in let r1 = reads_on s1.read (passed m1) in record { read = reads_on (passed i) r1; names = type_kept (passed m1).more t s1.names; flat = omega arith }

pub annotation_fits : {n : ℕ} {c : Terminal} {i : Input} {t : Option PlainWritten} {m : Input} → IsAnnotation n c i (found t m) → AnnotationFits n i t m
annotation_fits (annotation_none {i = i} _) = record { read = stays i; names = tt; flat = tt }
annotation_fits (annotation_is {i = i} _ h1) = let s1 = type_fits h1 in record { read = reads_on (passed i) s1.read; names = s1.names; flat = s1.flat }
