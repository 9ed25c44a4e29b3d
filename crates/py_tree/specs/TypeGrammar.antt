-- The grammar of types (Python Language Reference, annotations): the rules are of the form of those of expressions.
use Rattle.std.specs.Prelude.{◌≡◌, ℕ, ◌-◌, ◌<◌, true, false}
use Rattle.std.specs.declared.option.Option.{Option}
use Rattle.std.specs.declared.option.Option.TheVariants.{Some, None}
use Rattle.py_tree.specs.declared.fault.SyntaxFault.{SyntaxFault}
use Rattle.py_tree.specs.declared.terminal.Terminal.{Terminal}
use Rattle.py_tree.specs.declared.terminal.Terminal.TheVariants as k
use Rattle.py_tree.specs.declared.starts.TypeStart.TheVariants as type
use Rattle.py_tree.specs.PlainTypes.{PlainWritten, WInt, WBool, WStr, WNil, WList, WOptional, WEntity}
use Rattle.py_tree.specs.Reading.{Input, Outcome, found, stops, next, here, sees, named, name_number, texted, text_number, quotes_name, refused, too_deep, type_start}

mutual
  -- type : 'int' | 'bool' | 'str' | 'None' | ('List' | 'list' | 'Optional') '[' type ']' | NAME | STR
  pub data IsType : ℕ → Input → Outcome PlainWritten → Type 0 where
    type_int : {n : ℕ} {i : Input} → type_start i ≡ type.Int → IsType n i (found (WInt (here i)) (next i))
    type_bool : {n : ℕ} {i : Input} → type_start i ≡ type.Bool → IsType n i (found (WBool (here i)) (next i))
    type_str : {n : ℕ} {i : Input} → type_start i ≡ type.Str → IsType n i (found (WStr (here i)) (next i))
    type_nil : {n : ℕ} {i : Input} → type_start i ≡ type.Nil → IsType n i (found (WNil (here i)) (next i))
    type_list_stops_t : {n : ℕ} {i : Input} {f : SyntaxFault} → type_start i ≡ type.List → IsInner n (next i) (stops f) → IsType n i (stops f)
    type_list : {n : ℕ} {i : Input} {t : PlainWritten} {m1 : Input} → type_start i ≡ type.List → IsInner n (next i) (found t m1) → IsType n i (found (WList (here i) t) m1)
    type_optional_stops_t : {n : ℕ} {i : Input} {f : SyntaxFault} → type_start i ≡ type.Optional → IsInner n (next i) (stops f) → IsType n i (stops f)
    type_optional : {n : ℕ} {i : Input} {t : PlainWritten} {m1 : Input} → type_start i ≡ type.Optional → IsInner n (next i) (found t m1) → IsType n i (found (WOptional (here i) t) m1)
    type_name : {n : ℕ} {i : Input} → type_start i ≡ type.Name → IsType n i (found (WEntity (here i) (name_number i)) (named i))
    type_quoted_needs_name : {n : ℕ} {i : Input} → type_start i ≡ type.Quoted → quotes_name i ≡ false → IsType n i (stops (refused i))
    type_quoted : {n : ℕ} {i : Input} → type_start i ≡ type.Quoted → quotes_name i ≡ true → IsType n i (found (WEntity (here i) (text_number i)) (texted i))
    type_other : {n : ℕ} {i : Input} → type_start i ≡ type.Other → IsType n i (stops (refused i))

  -- '[' type ']', from its bracket
  pub data IsInner : ℕ → Input → Outcome PlainWritten → Type 0 where
    inner_is_deep : {n : ℕ} {i : Input} → n ≡ 0 → IsInner n i (stops (too_deep i))
    inner_is_stops_t : {n : ℕ} {i : Input} {f : SyntaxFault} → 0 < n → IsType (n - 1) (next i) (stops f) → IsInner n i (stops f)
    inner_is_needs_closebracket : {n : ℕ} {i : Input} {t : PlainWritten} {m1 : Input} → 0 < n → IsType (n - 1) (next i) (found t m1) → sees k.CloseBracket m1 ≡ false → IsInner n i (stops (refused m1))
    inner_is : {n : ℕ} {i : Input} {t : PlainWritten} {m1 : Input} → 0 < n → IsType (n - 1) (next i) (found t m1) → sees k.CloseBracket m1 ≡ true → IsInner n i (found t (next m1))

-- [ ':' type ] or [ '->' type ]
pub data IsAnnotation : ℕ → Terminal → Input → Outcome (Option PlainWritten) → Type 0 where
  annotation_none : {n : ℕ} {c : Terminal} {i : Input} → sees c i ≡ false → IsAnnotation n c i (found None i)
  annotation_is_stops_t : {n : ℕ} {c : Terminal} {i : Input} {f : SyntaxFault} → sees c i ≡ true → IsType n (next i) (stops f) → IsAnnotation n c i (stops f)
  annotation_is : {n : ℕ} {c : Terminal} {i : Input} {t : PlainWritten} {m1 : Input} → sees c i ≡ true → IsType n (next i) (found t m1) → IsAnnotation n c i (found (Some t) m1)
