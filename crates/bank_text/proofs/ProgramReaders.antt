-- A reader of programs. It knows imports of one name and marked classes, whose methods have neither a mark nor a docstring.
use Rattle.std.proofs.Common.{◌-◌, ℕ, zero, suc, [], ◌∷◌, Some, None}
use Rattle.py_tree.specs.declared.terminal.Terminal.TheVariants as k
use Rattle.py_tree.specs.Reading.{Input, next, ends, sees, sees_name, sees_str, named, placed_name, next_line, has_line, column, is_at, is_deeper, begins_docstring, begins_string, begins_import, sees_module}
use Rattle.py_tree.specs.Grammar.{levels, param_of, method_of, class_of, without_docstring, IsParams, params_end, params_more, marker_plain, IsSignature, signature_is, IsDef, def_is, method_plain, IsMethods, methods_end, methods_more, IsMembers, members_plain, brackets_none, IsHead, head_is, IsClass, class_is, more_names_end, names_is, imported_plain, line_end_is, IsImportFrom, import_from_is, IsImport, import_from, IsItems, items_end, items_import, items_class, IsFile, file_plain}
use Rattle.bank_text.proofs.Readers.{◌>>=◌, holds, fails, by_test}
use Rattle.bank_text.proofs.ExpressionReaders.{Reads, far, annotation}
use Rattle.bank_text.proofs.StatementReaders.{body, stmt}

-- Methods

unfoldable pub params : ℕ → (n : ℕ) (i : Input) → Reads (IsParams n i)
unfolding sees sees_name next named placed_name annotation
params zero n i = None
params (suc f) n i =
    by_test (sees k.Comma i)
    (λ comma. do
      name ← holds (sees_name (next i))
      (t, m, is_type) ← annotation n k.Colon (named (next i))
      (ps, m2, rest) ← params f n m
      Some (param_of (placed_name (next i)) t ∷ ps, m2, params_more comma name is_type rest))
    (λ comma. Some ([], i, params_end comma))

unfoldable pub signature : (i : Input) → Reads (IsSignature i)
unfolding sees next params
signature i = do
  bracket ← holds (sees k.Open i)
  self ← holds (sees k.SelfWord (next i))
  (ps, m, all) ← params far (levels - 1) (next (next i))
  shut ← holds (sees k.Close m)
  Some (ps, next m, signature_is bracket self all shut)

unfoldable pub def : (c : ℕ) (i : Input) → Reads (IsDef c i)
unfolding sees sees_name next named placed_name annotation signature body stmt
def c i = do
  let j = next i
  word ← holds (sees k.Def i)
  name ← holds (sees_name j)
  (ps, m, is_signature) ← signature (named j)
  (t, m2, is_type) ← annotation levels k.Arrow m
  (xs, m3, all) ← body (stmt far) levels c m2
  Some (method_of (placed_name j) ps t (without_docstring xs), m3, def_is word name is_signature is_type all)

unfoldable pub methods : ℕ → (c : ℕ) (i : Input) → Reads (IsMethods c i)
unfolding sees next_line is_at is_deeper def
methods zero c i = None
methods (suc f) c i =
    by_test (is_deeper 0 i)
    (λ deeper. do
      at ← holds (is_at c i)
      mark ← fails (sees k.At (next_line i))
      (d, m, one) ← def c (next_line i)
      (ds, m2, rest) ← methods f c m
      Some (d ∷ ds, m2, methods_more deeper at (method_plain mark one) rest))
    (λ deeper. Some ([], i, methods_end deeper))

-- Classes

unfoldable pub members : (i : Input) → Reads (IsMembers i)
unfolding sees_str next_line column is_at is_deeper begins_string methods
members i = do
  string ← fails (begins_string i)
  deeper ← holds (is_deeper 0 i)
  (ds, m, all) ← methods far (column i) i
  Some (ds, m, members_plain string deeper all)

unfoldable pub head : (i : Input) → Reads (IsHead i)
unfolding sees sees_name next named placed_name ends members
head i = do
  let j = named (next i)
  word ← holds (sees k.Class i)
  name ← holds (sees_name (next i))
  bracket ← fails (sees k.Open j)
  colon ← holds (sees k.Colon j)
  end ← holds (ends (next j))
  (ds, m, all) ← members (next j)
  Some (class_of (placed_name (next i)) ds, m, head_is word name (brackets_none bracket) colon end all)

unfoldable pub a_class : (i : Input) → Reads (IsClass i)
unfolding sees next ends next_line is_at head
a_class i = do
  let j = next i
  sign ← holds (sees k.At i)
  package_name ← fails (sees k.StateflowWord j)
  mark ← holds (sees k.EntityWord j)
  end ← holds (ends (next j))
  at ← holds (is_at 0 (next j))
  (c, m, all) ← head (next_line (next j))
  Some (c, m, class_is sign (marker_plain package_name mark end) at all)

-- Programs

unfoldable pub imported_from : (i : Input) → Reads (IsImportFrom i)
unfolding sees sees_name sees_module next ends
imported_from i = do
  let j = next (next i)
  from ← holds (sees_module i)
  word ← holds (sees k.Import (next i))
  bracket ← fails (sees k.Open j)
  name ← holds (sees_name j)
  comma ← fails (sees k.Comma (next j))
  end ← holds (ends (next j))
  Some (tt, next j, import_from_is from word (imported_plain bracket (names_is name (more_names_end comma))) (line_end_is end))

unfoldable pub an_import : (i : Input) → Reads (IsImport i)
unfolding sees next imported_from
an_import i = do
  word ← holds (sees k.From i)
  (x, m, rest) ← imported_from (next i)
  Some (x, m, import_from word rest)

unfoldable pub items : ℕ → (i : Input) → Reads (IsItems i)
unfolding sees has_line is_at next_line begins_import an_import a_class
items zero i = None
items (suc f) i =
    by_test (has_line i)
    (λ has. do
      at ← holds (is_at 0 i)
      by_test (begins_import (next_line i))
          (λ begins. do
            (x, m, one) ← an_import (next_line i)
            (cs, m2, rest) ← items f m
            Some (cs, m2, items_import has at begins one rest))
          (λ begins. do
            (c, m, one) ← a_class (next_line i)
            (cs, m2, rest) ← items f m
            Some (c ∷ cs, m2, items_class has at begins one rest)))
    (λ has. Some ([], i, items_end has))

unfoldable pub file : (i : Input) → Reads (IsFile i)
unfolding sees_str is_at next_line begins_docstring items
file i = do
  string ← fails (begins_docstring i)
  (cs, m, all) ← items far i
  Some (cs, m, file_plain string all)
