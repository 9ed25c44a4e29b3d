-- A reader of types and expressions. It knows names, fields, calls of methods, comparisons, `or`, True and False.
use Rattle.std.proofs.Common.{◌≡◌, ◌-◌, ℕ, zero, suc, true, false, [], ◌∷◌, Some, None, refl}
use Rattle.std.specs.Str.{chars}
use lib.Utf8.{encode}
use Rattle.py_tree.specs.declared.names.Place.{Place}
use Rattle.py_tree.specs.declared.terminal.Terminal.{Terminal}
use Rattle.py_tree.specs.declared.terminal.Terminal.TheVariants as k
use Rattle.py_tree.specs.declared.starts.AtomStart.{AtomStart}
use Rattle.py_tree.specs.declared.starts.AtomStart.TheVariants as atom
use Rattle.py_tree.specs.declared.starts.TypeStart.{TypeStart}
use Rattle.py_tree.specs.declared.starts.TypeStart.TheVariants as type
use Rattle.py_tree.specs.PlainTypes.{WInt, WBool, WStr, WNil, WEntity}
use Rattle.py_tree.specs.PlainExpressions.{PlainExpr, PBool, PVar, PSelf, PAttr, PCall, PCompare, exprs_of}
use Rattle.py_tree.specs.Reading.{Input, Outcome, found, next, here, sees, sees_name, sees_int, sees_str, named, name_number, texted, text_number, comparison, addition, multiplication, begins_expr, atom_start, type_start, quotes_name}
use Rattle.py_tree.specs.ExpressionGrammar.{joined_or, IsWhole, whole_plain, IsOr, or_is, IsOrs, ors_end, ors_more, IsAnd, and_is, ands_end, not_as, IsCompare, compare_plain, compare_by, IsSum, sum_is, sums_end, IsTerm, term_is, terms_end, unary_as, IsPostfix, postfix_is, IsTails, tails_end, tails_dot, tails_call, IsEnclosed, enclosed_is, args_is, IsMore, more_end, more_is, IsAtom, atom_name, atom_true, atom_false, IsNamed, named_self, named_var}
use Rattle.py_tree.specs.TypeGrammar.{IsType, type_int, type_bool, type_str, type_nil, type_quoted, IsAnnotation, annotation_none, annotation_is}
use Rattle.bank_text.proofs.Readers as r
use Rattle.bank_text.proofs.Readers.{◌>>=◌, holds, fails, absent, some_left, by_test, by_option}

abbrev pub Reads : {A : Type 0} → (Outcome A → Type 0) → Type 0
Reads Is = r.Reads (λ x m. Is (found x m))

-- how many parts of one kind are read in a row at most, and how far one stands in another
abbrev pub far : ℕ
far = 1000

-- Types

unfoldable pub type_by : (n : ℕ) (i : Input) (s : TypeStart) → type_start i ≡ s → Reads (IsType n i)
unfolding chars encode here next quotes_name texted text_number
type_by n i type.Int is = Some (WInt (here i), next i, type_int is)
type_by n i type.Bool is = Some (WBool (here i), next i, type_bool is)
type_by n i type.Str is = Some (WStr (here i), next i, type_str is)
type_by n i type.Nil is = Some (WNil (here i), next i, type_nil is)
type_by n i type.Quoted is = do
  name ← holds (quotes_name i)
  Some (WEntity (here i) (text_number i), texted i, type_quoted is name)
type_by n i _ is = None

unfoldable pub a_type : (n : ℕ) (i : Input) → Reads (IsType n i)
unfolding sees sees_name sees_str next type_start type_by
a_type n i = type_by n i (type_start i) refl

unfoldable pub annotation : (n : ℕ) (c : Terminal) (i : Input) → Reads (IsAnnotation n c i)
unfolding sees next a_type
annotation n c i =
    by_test (sees c i)
    (λ sign. do
      (t, m, is) ← a_type n (next i)
      Some (Some t, m, annotation_is sign is))
    (λ sign. Some (None, i, annotation_none sign))

-- Expressions, where those that stand in another are read so

module _ (inner : (n : ℕ) (i : Input) → Reads (IsWhole n i)) where
  -- the arguments behind the first
  unfoldable pub more : ℕ → (n : ℕ) (i : Input) → Reads (IsMore n i)
  unfolding sees sees_name sees_int sees_str next begins_expr
  more zero n i = None
  more (suc f) n i =
      by_test (sees k.Comma i)
      (λ comma. do
        begins ← holds (begins_expr (next i))
        (x, m, one) ← inner n (next i)
        (xs, m2, rest) ← more f n m
        Some (x ∷ xs, m2, more_is comma begins one rest))
      (λ comma. Some ([], i, more_end comma))

  unfoldable pub enclosed : (n : ℕ) (c : Terminal) (i : Input) → Reads (IsEnclosed n c i)
  unfolding sees sees_name sees_int sees_str next begins_expr more
  enclosed n c i = do
    level ← some_left n
    begins ← holds (begins_expr (next i))
    (x, m, one) ← inner (n - 1) (next i)
    (xs, m2, rest) ← more far (n - 1) m
    shut ← holds (sees c m2)
    Some (x ∷ xs, next m2, enclosed_is level (args_is begins one rest) shut)

  unfoldable pub tails : ℕ → (n : ℕ) (at : Place) (x : PlainExpr) (i : Input) → Reads (IsTails n at x i)
  unfolding sees sees_name here next named name_number enclosed
  tails zero n at x i = None
  tails (suc f) n at x i =
      by_test (sees k.Dot i)
      (λ dot. do
        let j = next i
        level ← some_left n
        name ← holds (sees_name j)
        by_test (sees k.Open (named j))
            (λ bracket. do
              (xs, m, all) ← enclosed (n - 1) k.Close (named j)
              (y, m2, rest) ← tails f (n - 1) at (PCall at x (name_number j) (here j) (exprs_of xs)) m
              Some (y, m2, tails_call dot level name bracket all rest))
            (λ bracket. do
              (y, m, rest) ← tails f (n - 1) at (PAttr at x (name_number j) (here j)) (named j)
              Some (y, m, tails_dot dot level name bracket rest)))
      (λ dot. do
        index ← fails (sees k.OpenBracket i)
        Some (x, i, tails_end dot index))

  unfoldable pub a_name : (n : ℕ) (i : Input) → Reads (IsNamed n i)
  unfolding sees here next named name_number
  a_name n i = do
    bracket ← fails (sees k.Open (next i))
    by_test (sees k.SelfWord i)
        (λ self. Some (PSelf (here i), next i, named_self bracket self))
        (λ self. Some (PVar (here i) (name_number i), named i, named_var bracket self))

  unfoldable pub atom_by : (n : ℕ) (i : Input) (s : AtomStart) → atom_start i ≡ s → Reads (IsAtom n i)
  unfolding here next a_name
  atom_by n i atom.Name is = do
    (x, m, name) ← a_name n i
    Some (x, m, atom_name is name)
  atom_by n i atom.True is = Some (PBool (here i) true, next i, atom_true is)
  atom_by n i atom.False is = Some (PBool (here i) false, next i, atom_false is)
  atom_by n i _ is = None

  unfoldable pub postfix : (n : ℕ) (i : Input) → Reads (IsPostfix n i)
  unfolding sees sees_name sees_int sees_str here atom_start atom_by tails
  postfix n i = do
    (x, m, one) ← atom_by n i (atom_start i) refl
    (y, m2, rest) ← tails far n (here i) x m
    Some (y, m2, postfix_is one rest)

  -- one operand, with no sign before it and none behind it
  unfoldable pub term : (n : ℕ) (i : Input) → Reads (IsTerm n i)
  unfolding sees multiplication postfix
  term n i = do
    minus ← fails (sees k.Minus i)
    plus ← fails (sees k.Plus i)
    (x, m, one) ← postfix n i
    times ← absent (multiplication m)
    Some (x, m, term_is (unary_as minus plus one) (terms_end times))

  unfoldable pub sum : (n : ℕ) (i : Input) → Reads (IsSum n i)
  unfolding sees addition term
  sum n i = do
    (x, m, one) ← term n i
    plus ← absent (addition m)
    Some (x, m, sum_is one (sums_end plus))

  unfoldable pub compare : (n : ℕ) (i : Input) → Reads (IsCompare n i)
  unfolding sees here next comparison sum
  compare n i = do
    (x, m, one) ← sum n i
    by_option (comparison m)
        (λ c is. do
          (y, m2, other) ← sum n (next m)
          Some (PCompare (here i) c (here m) x y, m2, compare_by one is other))
        (λ none. do
          word ← fails (sees k.Is m)
          Some (x, m, compare_plain one none word))

  unfoldable pub conjunct : (n : ℕ) (i : Input) → Reads (IsAnd n i)
  unfolding sees compare
  conjunct n i = do
    not_word ← fails (sees k.Not i)
    (x, m, one) ← compare n i
    and_word ← fails (sees k.And m)
    Some (x, m, and_is (not_as not_word one) (ands_end and_word))

  unfoldable pub more_or : ℕ → (n : ℕ) (i : Input) → Reads (IsOrs n i)
  unfolding sees next conjunct
  more_or zero n i = None
  more_or (suc f) n i =
      by_test (sees k.Or i)
      (λ word. do
        (x, m, one) ← conjunct n (next i)
        (xs, m2, rest) ← more_or f n m
        Some (x ∷ xs, m2, ors_more word one rest))
      (λ word. Some ([], i, ors_end word))

  unfoldable pub disjunction : (n : ℕ) (i : Input) → Reads (IsOr n i)
  unfolding here more_or conjunct
  disjunction n i = do
    (x, m, one) ← conjunct n i
    (xs, m2, rest) ← more_or far n m
    Some (joined_or (here i) x xs, m2, or_is one rest)

unfoldable pub whole : ℕ → (n : ℕ) (i : Input) → Reads (IsWhole n i)
unfolding sees disjunction
whole zero n i = None
whole (suc f) n i = do
  (x, m, one) ← disjunction (whole f) n i
  word ← fails (sees k.If m)
  Some (x, m, whole_plain one word)

unfoldable pub expression : (n : ℕ) (i : Input) → Reads (IsWhole n i)
unfolding whole
expression n i = whole far n i
