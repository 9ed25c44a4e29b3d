-- The names of classes, of their members and of the fields that these declare are words of the program's text, and so their texts are in UTF-8.
use Rattle.std.proofs.Common.{◌≡◌, ◌<◌, ◌≤◌, ℕ, Bool, true, false, cond, List, [], ◌∷◌, ◌++◌, length, drop, Some, None, refl, sym, subst, arith}
use Rattle.std.specs.Prelude.{IfSome, IsUtf8, is_some, bytes_eq, get_or, unwrap_or}
use Rattle.std.specs.declared.option.Option.{Option}
use Rattle.std.specs.List.{All}
use Rattle.std.proofs.lemmas.List.{get_or_append_left}
use Rattle.std.proofs.lemmas.List.Elements.{All-nil, All-cons, All-append, All-drop, All-weaker}
use Rattle.std.proofs.lemmas.List.Quantifiers.{position-Some}
use Rattle.std.proofs.lemmas.Slice.Eq.{bytes_eq-Decides}
use Rattle.std.proofs.lemmas.Option.{IfSome_then}
use Rattle.std.proofs.Math.Seq.{get_or-append_seam}
use Rattle.py_tree.specs.declared.names.Place.{Place}
use Rattle.py_tree.specs.declared.stmt.Target.{Target}
use Rattle.py_tree.specs.declared.stmt.Target.TheVariants as target
use Rattle.py_tree.specs.declared.terminal.Terminal.{Terminal}
use Rattle.py_tree.specs.PlainTypes.{PlainWritten}
use Rattle.py_tree.specs.PlainExpressions.{PlainExpr}
use Rattle.py_tree.specs.PlainStatements.{PlainStmt, PAssign}
use Rattle.py_tree.specs.PlainProgram.{PlainParam, PlainMethod, PlainClass, PlainProgram}
use Rattle.py_tree.specs.ClassRules.{text_of, declaration}
use Rattle.py_tree.specs.NameTable.{place_of}
use Rattle.py_tree.specs.Tokens.{PlainLine}
use Rattle.py_tree.specs.Reading.{Input, found, Nothing, next, named, next_line, placed_name, name_number, first_token, sees_name}
use Rattle.py_tree.specs.StatementGrammar.{IsAssigned, IsField, IsSimple, IsMoreSimples, IsLine, IsBody, IsSuite, IsStmts, IsStmt, assigned_typed, assigned_plain, assigned_augmented, raise_is, field_is, simple_pass, simple_break, simple_continue, simple_return, simple_raise, simple_assert, simple_local, simple_field, simple_expr, more_simples_end, more_simples_last, more_simples_more, simples_is, line_is, body_is, suite_line, suite_block, block_is, stmts_end, stmts_more, stmt_if, stmt_while, stmt_for, stmt_simple, if_is, while_is, for_is}
use Rattle.py_tree.specs.Grammar.{IsParams, IsMarker, IsSignature, IsDef, IsMethod, IsMethods, IsMembers, IsBrackets, IsHead, IsClass, IsMoreNames, IsNames, IsImported, IsImport, IsItems, IsFile, IsProgram, begins_with_string, has_tree, params_end, params_last, params_more, marker_plain, marker_long, signature_is, def_is, method_marked, method_plain, methods_end, methods_more, members_plain, members_doc, brackets_none, brackets_is, head_is, class_is, more_names_end, more_names_more, more_names_last, names_is, imported_plain, imported_enclosed, line_end_is, import_from_is, import_from, import_whole, items_end, items_import, items_class, file_doc, file_plain, program_is}
use Rattle.py_tree.proofs.Taken.{Reads, reads_on, stays, passed, passed_name, begun, numbered, taken_name, field_ahead}
use Rattle.py_tree.proofs.TypesFit.{type_fits, annotation_fits}
use Rattle.py_tree.proofs.ExpressionsFit.{whole_fits}
use Rattle.py_tree.proofs.StatementsFit.{more_simples_fit, stmts_fit, body_fits}
use Rattle.py_parser.proofs.NameTexts.{name-utf8}

-- a name that is there, with a text in UTF-8
pub record HasText (names : List (List ℕ)) (name : ℕ) : Type 0 where
  pub within : name < length names
  pub utf8 : IsUtf8 (text_of names name)

-- and has it still where more names have come
still : {i m : Input} {name : ℕ} → Reads i m → HasText i.names name → HasText m.names name
unfolding text_of
still {i = i} {m = m} {name = name} r t = record {
  within = omega (arith, r.more, t.within);
  utf8 = subst (λ (ns : List (List ℕ)). IsUtf8 (get_or ns name [])) (sym r.front) (subst IsUtf8 (sym (get_or_append_left i.names r.others [] name t.within)) t.utf8);
}

-- the text of the name that stands at the number of a text is that text
numbered_text : (names : List (List ℕ)) (text : List ℕ) (place : Option ℕ) → place_of names text ≡ place → get_or (cond (is_some place) names (names ++ text ∷ [])) (unwrap_or place (length names)) [] ≡ text
numbered_text names text None e = get_or-append_seam names text [] []
numbered_text names text (Some k) e = let p = position-Some (bytes_eq text) names k [] e in sym ((bytes_eq-Decides text (get_or names k [])).0 p.1)

word_named : (i : Input) → sees_name i ≡ true → HasText (named i).names (name_number i)
unfolding text_of named next name_number sees_name
word_named i h = record {
  within = numbered i.names (first_token i.tokens).bytes;
  utf8 = subst IsUtf8 (sym (numbered_text i.names (first_token i.tokens).bytes (place_of i.names (first_token i.tokens).bytes) refl)) (name-utf8 (first_token i.tokens).bytes h);
}

-- ---- statements

-- the field that a statement declares, where it declares one
abbrev pub DeclaresText : List (List ℕ) → PlainStmt → Type 0
DeclaresText names s = IfSome (declaration s) (λ d. HasText names d.field.name.0)

abbrev TargetText : List (List ℕ) → Target → Type 0
TargetText names (target.Local x) = Unit {0}
TargetText names (target.Field x) = HasText names x.name.0

plain_text : (names : List (List ℕ)) (at : Place) (t : Target) (x : PlainExpr) → DeclaresText names (PAssign at t None x)
plain_text names at (target.Local f) x = tt
plain_text names at (target.Field f) x = tt

typed_text : {i m : Input} (at : Place) (t : Target) (ty : PlainWritten) (x : PlainExpr) → Reads i m → TargetText i.names t → DeclaresText m.names (PAssign at t (Some ty) x)
typed_text at (target.Local f) ty x r h = tt
typed_text at (target.Field f) ty x r h = still r h

assigned_text : {n : ℕ} {at : Place} {t : Target} {i : Input} {x : PlainStmt} {m : Input} → IsAssigned n at t i (found x m) → TargetText i.names t → DeclaresText m.names x
assigned_text {at = at} {t = t} {i = i} (assigned_typed {ty = ty} {m1 = m1} {x = x} _ h1 _ h3) h = typed_text at t ty x (reads_on (passed i) (reads_on (type_fits h1).read (reads_on (passed m1) (whole_fits h3).read))) h
assigned_text {at = at} {t = t} {m = m} (assigned_plain {x = x} _ _ _) h = plain_text m.names at t x
assigned_text (assigned_augmented _ _ _ _) h = tt

field_text : {n : ℕ} {i : Input} {x : PlainStmt} {m : Input} → IsField n i (found x m) → sees_name (next (next i)) ≡ true → DeclaresText m.names x
unfolding placed_name
field_text (field_is {i = i} _ h1) h = assigned_text h1 (word_named (next (next i)) h)

simple_text : {n : ℕ} {i : Input} {x : PlainStmt} {m : Input} → IsSimple n i (found x m) → DeclaresText m.names x
simple_text (simple_pass _) = tt
simple_text (simple_break _) = tt
simple_text (simple_continue _) = tt
simple_text (simple_return _ _) = tt
simple_text (simple_raise _ (raise_is _ _)) = tt
simple_text (simple_assert _ _ _) = tt
simple_text (simple_local _ h1) = assigned_text h1 tt
simple_text (simple_field {i = i} h0 h1) = field_text h1 (field_ahead i h0)
simple_text (simple_expr _ _) = tt

-- each of some statements
abbrev pub EachDeclares : List (List ℕ) → List PlainStmt → Type 0
EachDeclares names xs = All (DeclaresText names) xs

no_stmts : (names : List (List ℕ)) → EachDeclares names []
no_stmts names = All-nil (DeclaresText names)

one_still : {i m : Input} → Reads i m → (x : PlainStmt) → DeclaresText i.names x → DeclaresText m.names x
one_still r x h = IfSome_then (declaration x) h (λ d t. still r t)

each_still : {i m : Input} → Reads i m → (xs : List PlainStmt) → EachDeclares i.names xs → EachDeclares m.names xs
each_still {i = i} {m = m} r xs h = All-weaker (DeclaresText i.names) (DeclaresText m.names) (one_still r) xs h

more_simples_text : {n : ℕ} {i : Input} {xs : List PlainStmt} {m : Input} → IsMoreSimples n i (found xs m) → n ≤ 63 → EachDeclares m.names xs
more_simples_text {m = m} (more_simples_end _) low = no_stmts m.names
more_simples_text {m = m} (more_simples_last _ _) low = no_stmts m.names
more_simples_text {m = m} (more_simples_more {x = x} {xs = xs} _ _ h2 h3) low = All-cons (DeclaresText m.names) x xs (one_still (more_simples_fit h3 low).read x (simple_text h2)) (more_simples_text h3 low)

line_text : {n : ℕ} {i : Input} {xs : List PlainStmt} {m : Input} → IsLine n i (found xs m) → n ≤ 63 → EachDeclares m.names xs
line_text {m = m} (line_is (simples_is {x = x} {xs = xs} h0 h1) _) low = All-cons (DeclaresText m.names) x xs (one_still (more_simples_fit h1 low).read x (simple_text h0)) (more_simples_text h1 low)

-- a statement with a body declares nothing
one_stmt : (names : List (List ℕ)) (x : PlainStmt) → DeclaresText names x → EachDeclares names (x ∷ [])
one_stmt names x h = All-cons (DeclaresText names) x [] h (no_stmts names)

stmt_text : {n c : ℕ} {i : Input} {xs : List PlainStmt} {m : Input} → IsStmt n c i (found xs m) → n ≤ 63 → EachDeclares m.names xs
stmt_text {m = m} (stmt_if _ (if_is _ _ _)) low = one_stmt m.names _ tt
stmt_text {m = m} (stmt_while _ _ (while_is _ _)) low = one_stmt m.names _ tt
stmt_text {m = m} (stmt_for _ _ _ (for_is _ _ _ _)) low = one_stmt m.names _ tt
stmt_text (stmt_simple _ _ _ h3) low = line_text h3 low

stmts_text : {n c b : ℕ} {i : Input} {xs : List PlainStmt} {m : Input} → IsStmts n c b i (found xs m) → n ≤ 63 → EachDeclares m.names xs
stmts_text {m = m} (stmts_end _) low = no_stmts m.names
stmts_text {m = m} (stmts_more {xs = xs} {ys = ys} _ _ h2 h3) low = All-append (DeclaresText m.names) xs ys (each_still (stmts_fit h3 low).read xs (stmt_text h2 low)) (stmts_text h3 low)

suite_text : {n c : ℕ} {i : Input} {xs : List PlainStmt} {m : Input} → IsSuite n c i (found xs m) → n ≤ 63 → EachDeclares m.names xs
suite_text (suite_line _ h1) low = line_text h1 low
suite_text (suite_block _ (block_is _ h1)) low = stmts_text h1 low

body_text : {n c : ℕ} {i : Input} {xs : List PlainStmt} {m : Input} → IsBody n c i (found xs m) → n ≤ 64 → EachDeclares m.names xs
body_text (body_is {n = n} _ h1 h2) low = suite_text h2 (omega arith)

without_text : (names : List (List ℕ)) (b : Bool) (xs : List PlainStmt) → EachDeclares names xs → EachDeclares names (cond b (drop 1 xs) xs)
without_text names true xs h = All-drop (DeclaresText names) 1 xs h
without_text names false xs h = h

-- ---- members, classes and programs

-- what is found has this, and it stands behind what was read
record Reaches {A : Type 0} (Is : List (List ℕ) → A → Type 0) (i : Input) (x : A) (m : Input) : Type 0 where
  read : Reads i m
  is : Is m.names x

pub record MethodText (names : List (List ℕ)) (d : PlainMethod) : Type 0 where
  pub name : HasText names d.name
  pub body : EachDeclares names d.body

pub record ClassText (names : List (List ℕ)) (c : PlainClass) : Type 0 where
  pub name : HasText names c.name
  pub members : All (MethodText names) c.members

abbrev EachMethod : List (List ℕ) → List PlainMethod → Type 0
EachMethod names ds = All (MethodText names) ds

abbrev pub EachClass : List (List ℕ) → PlainProgram → Type 0
EachClass names cs = All (ClassText names) cs

method_still : {i m : Input} → Reads i m → (d : PlainMethod) → MethodText i.names d → MethodText m.names d
method_still r d t = record { name = still r t.name; body = each_still r d.body t.body }

methods_still : {i m : Input} → Reads i m → (ds : List PlainMethod) → EachMethod i.names ds → EachMethod m.names ds
methods_still {i = i} {m = m} r ds t = All-weaker (MethodText i.names) (MethodText m.names) (method_still r) ds t

class_still : {i m : Input} → Reads i m → (c : PlainClass) → ClassText i.names c → ClassText m.names c
class_still r c t = record { name = still r t.name; members = methods_still r c.members t.members }

params_read : {n : ℕ} {i : Input} {ps : List PlainParam} {m : Input} → IsParams n i (found ps m) → Reads i m
params_read (params_end {i = i} _) = stays i
params_read (params_last {i = i} _ _) = passed i
params_read (params_more {i = i} _ h1 h2 h3) = reads_on (passed i) (reads_on (passed_name (next i) (taken_name (next i) h1)) (reads_on (annotation_fits h2).read (params_read h3)))

signature_read : {i : Input} {ps : List PlainParam} {m : Input} → IsSignature i (found ps m) → Reads i m
signature_read (signature_is {i = i} {m1 = m1} _ _ h2 _) = reads_on (passed i) (reads_on (passed (next i)) (reads_on (params_read h2) (passed m1)))

marker_read : {c : Terminal} {i : Input} {u : Nothing} {m : Input} → IsMarker c i (found u m) → Reads i m
marker_read (marker_plain {i = i} _ _ _) = passed i
marker_read (marker_long {i = i} _ _ _ _) = reads_on (passed i) (reads_on (passed (next i)) (passed (next (next i))))

def_text : {c : ℕ} {i : Input} {d : PlainMethod} {m : Input} → IsDef c i (found d m) → Reaches MethodText i d m
unfolding placed_name
def_text {m = m} (def_is {i = i} {ys = ys} _ h1 h2 h3 h4) =
    let behind = reads_on (signature_read h2) (reads_on (annotation_fits h3).read (body_fits h4 (omega arith)).read) in
    record {
      read = reads_on (passed i) (reads_on (passed_name (next i) (taken_name (next i) h1)) behind);
      is = record { name = still behind (word_named (next i) h1); body = without_text m.names (begins_with_string ys) ys (body_text h4 (omega arith)) };
    }

method_text : {c : ℕ} {i : Input} {d : PlainMethod} {m : Input} → IsMethod c i (found d m) → Reaches MethodText i d m
method_text (method_marked {i = i} {m1 = m1} _ h1 _ h3) =
    let s = def_text h3 in
    record { read = reads_on (passed i) (reads_on (marker_read h1) (reads_on (begun m1) s.read)); is = s.is }
method_text (method_plain _ h1) = def_text h1

methods_text : {c : ℕ} {i : Input} {ds : List PlainMethod} {m : Input} → IsMethods c i (found ds m) → Reaches EachMethod i ds m
methods_text {m = m} (methods_end {i = i} _) = record { read = stays i; is = All-nil (MethodText m.names) }
methods_text {m = m} (methods_more {i = i} {d = d} {ds = ds} _ _ h2 h3) =
    let s = method_text h2 in
    let t = methods_text h3 in
    record { read = reads_on (begun i) (reads_on s.read t.read); is = All-cons (MethodText m.names) d ds (method_still t.read d s.is) t.is }

members_text : {i : Input} {ds : List PlainMethod} {m : Input} → IsMembers i (found ds m) → Reaches EachMethod i ds m
members_text (members_plain _ _ h2) = methods_text h2
members_text (members_doc {i = i} _ _ _ h3) = let s = methods_text h3 in record { read = reads_on (begun i) (reads_on (passed (next_line i)) s.read); is = s.is }

brackets_read : {i : Input} {u : Nothing} {m : Input} → IsBrackets i (found u m) → Reads i m
brackets_read (brackets_none {i = i} _) = stays i
brackets_read (brackets_is {i = i} _ _) = reads_on (passed i) (passed (next i))

head_text : {i : Input} {c : PlainClass} {m : Input} → IsHead i (found c m) → Reaches ClassText i c m
unfolding placed_name
head_text (head_is {i = i} {m1 = m1} _ h1 h2 _ _ h5) =
    let s = members_text h5 in
    let behind = reads_on (brackets_read h2) (reads_on (passed m1) s.read) in
    record {
      read = reads_on (passed i) (reads_on (passed_name (next i) (taken_name (next i) h1)) behind);
      is = record { name = still behind (word_named (next i) h1); members = s.is };
    }

class_text : {i : Input} {c : PlainClass} {m : Input} → IsClass i (found c m) → Reaches ClassText i c m
class_text (class_is {i = i} {m1 = m1} _ h1 _ h3) =
    let s = head_text h3 in
    record { read = reads_on (passed i) (reads_on (marker_read h1) (reads_on (begun m1) s.read)); is = s.is }

more_names_read : {b : Bool} {i : Input} {u : Nothing} {m : Input} → IsMoreNames b i (found u m) → Reads i m
more_names_read (more_names_end {i = i} _) = stays i
more_names_read (more_names_more {i = i} _ _ h2) = reads_on (passed i) (reads_on (passed (next i)) (more_names_read h2))
more_names_read (more_names_last {i = i} _ _ _) = passed i

names_read : {b : Bool} {i : Input} {u : Nothing} {m : Input} → IsNames b i (found u m) → Reads i m
names_read (names_is {i = i} _ h1) = reads_on (passed i) (more_names_read h1)

imported_read : {i : Input} {u : Nothing} {m : Input} → IsImported i (found u m) → Reads i m
imported_read (imported_plain _ h1) = names_read h1
imported_read (imported_enclosed {i = i} {m1 = m1} _ h1 _) = reads_on (passed i) (reads_on (names_read h1) (passed m1))

import_read : {i : Input} {u : Nothing} {m : Input} → IsImport i (found u m) → Reads i m
import_read (import_from {i = i} _ (import_from_is _ _ h2 (line_end_is _))) = reads_on (passed i) (reads_on (passed (next i)) (reads_on (passed (next (next i))) (imported_read h2)))
import_read (import_whole {i = i} _ _ _ (line_end_is _)) = reads_on (passed i) (passed (next i))

items_text : {i : Input} {cs : PlainProgram} {m : Input} → IsItems i (found cs m) → Reaches EachClass i cs m
items_text {m = m} (items_end {i = i} _) = record { read = stays i; is = All-nil (ClassText m.names) }
items_text (items_import {i = i} _ _ _ h3 h4) = let s = items_text h4 in record { read = reads_on (begun i) (reads_on (import_read h3) s.read); is = s.is }
items_text {m = m} (items_class {i = i} {d = d} {ds = ds} _ _ _ h3 h4) =
    let s = class_text h3 in
    let t = items_text h4 in
    record { read = reads_on (begun i) (reads_on s.read t.read); is = All-cons (ClassText m.names) d ds (class_still t.read d s.is) t.is }

file_text : {i : Input} {cs : PlainProgram} {m : Input} → IsFile i (found cs m) → EachClass m.names cs
file_text (file_doc _ _ h2) = (items_text h2).is
file_text (file_plain _ h1) = (items_text h1).is

-- so it is with every program that is read
pub names_are_texts : (lines : List PlainLine) (program : PlainProgram) (names : List (List ℕ)) → IsProgram lines (has_tree program names) → EachClass names program
names_are_texts lines program names (program_is h) = file_text h
