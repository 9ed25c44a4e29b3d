-- The ints of a program are those of its lines.
use Rattle.std.proofs.Common.{ℕ, ℤ, pos, Bool, true, false, List, [], ◌∷◌, drop}
use Rattle.std.specs.Prelude.{if◌then◌else◌}
use Rattle.std.specs.List.{All}
use Rattle.std.proofs.lemmas.List.Elements.{All-nil, All-cons}
use Rattle.py_tree.specs.declared.terminal.Terminal.{Terminal}
use Rattle.py_tree.specs.PlainStatements.{PlainStmt, stmts_of}
use Rattle.py_tree.specs.PlainProgram.{PlainParam, PlainMethod, PlainClass, PlainProgram}
use Rattle.py_tree.specs.Tokens.{PlainLine}
use Rattle.py_tree.specs.Reading.{Input, found, Nothing, next, next_line}
use Rattle.py_tree.specs.Grammar.{begins_with_string, IsParams, IsMarker, IsSignature, IsDef, IsMethod, IsMethods, IsMembers, IsBrackets, IsHead, IsClass, IsMoreNames, IsNames, IsImported, IsLineEnd, IsImportFrom, IsImport, IsItems, IsFile, params_end, params_last, params_more, marker_plain, marker_long, signature_is, def_is, method_marked, method_plain, methods_end, methods_more, members_plain, members_doc, brackets_none, brackets_is, head_is, class_is, more_names_end, more_names_more, more_names_last, names_is, imported_plain, imported_enclosed, line_end_is, import_from_is, import_from, import_whole, items_end, items_import, items_class, file_doc, file_plain, has_tree, IsProgram, program_is}
use Rattle.program_meaning.specs.WrittenInts.{StmtsInts}
use Rattle.accepted_texts.proofs.LeftInts.{LinesInts, LeftInts, passed, passed_name, begun}
use Rattle.accepted_texts.proofs.TypesRead.{annotation_leaves}
use Rattle.accepted_texts.proofs.StatementInts.{body_ints}

module _ (P : ℤ → Type 0) where
  -- ---- parts without ints

  params_leave : {n : ℕ} {i : Input} {ps : List PlainParam} {m : Input} → IsParams n i (found ps m) → LeftInts P i → LeftInts P m
  params_leave (params_end _) s = s
  params_leave (params_last {i = i} _ _) s = passed P i s
  params_leave (params_more {i = i} _ _ h2 h3) s = params_leave h3 (annotation_leaves P h2 (passed_name P (next i) (passed P i s)))

  marker_leaves : {c : Terminal} {i : Input} {u : Nothing} {m : Input} → IsMarker c i (found u m) → LeftInts P i → LeftInts P m
  marker_leaves (marker_plain {i = i} _ _ _) s = passed P i s
  marker_leaves (marker_long {i = i} _ _ _ _) s = passed P (next (next i)) (passed P (next i) (passed P i s))

  signature_leaves : {i : Input} {ps : List PlainParam} {m : Input} → IsSignature i (found ps m) → LeftInts P i → LeftInts P m
  signature_leaves (signature_is {i = i} {m1 = m1} _ _ h2 _) s = passed P m1 (params_leave h2 (passed P (next i) (passed P i s)))

  brackets_leave : {i : Input} {u : Nothing} {m : Input} → IsBrackets i (found u m) → LeftInts P i → LeftInts P m
  brackets_leave (brackets_none _) s = s
  brackets_leave (brackets_is {i = i} _ _) s = passed P (next i) (passed P i s)

  more_names_leave : {b : Bool} {i : Input} {u : Nothing} {m : Input} → IsMoreNames b i (found u m) → LeftInts P i → LeftInts P m
  more_names_leave (more_names_end _) s = s
  more_names_leave (more_names_more {i = i} _ _ h2) s = more_names_leave h2 (passed P (next i) (passed P i s))
  more_names_leave (more_names_last {i = i} _ _ _) s = passed P i s

  names_leave : {b : Bool} {i : Input} {u : Nothing} {m : Input} → IsNames b i (found u m) → LeftInts P i → LeftInts P m
  names_leave (names_is {i = i} _ h1) s = more_names_leave h1 (passed P i s)

  imported_leaves : {i : Input} {u : Nothing} {m : Input} → IsImported i (found u m) → LeftInts P i → LeftInts P m
  imported_leaves (imported_plain _ h1) s = names_leave h1 s
  imported_leaves (imported_enclosed {i = i} {m1 = m1} _ h1 _) s = passed P m1 (names_leave h1 (passed P i s))

  line_end_leaves : {i : Input} {u : Nothing} {m : Input} → IsLineEnd i (found u m) → LeftInts P i → LeftInts P m
  line_end_leaves (line_end_is _) s = s

  import_from_leaves : {i : Input} {u : Nothing} {m : Input} → IsImportFrom i (found u m) → LeftInts P i → LeftInts P m
  import_from_leaves (import_from_is {i = i} _ _ h2 h3) s = line_end_leaves h3 (imported_leaves h2 (passed P (next i) (passed P i s)))

  import_leaves : {i : Input} {u : Nothing} {m : Input} → IsImport i (found u m) → LeftInts P i → LeftInts P m
  import_leaves (import_from {i = i} _ h1) s = import_from_leaves h1 (passed P i s)
  import_leaves (import_whole {i = i} _ _ _ h3) s = line_end_leaves h3 (passed P (next i) (passed P i s))

-- ---- methods and classes

-- the ints in a method, and in a class
abbrev MethodInts : (ℤ → Type 0) → PlainMethod → Type 0
MethodInts P d = StmtsInts P (stmts_of d.body)

abbrev MethodsInts : (ℤ → Type 0) → List PlainMethod → Type 0
MethodsInts P ds = All (MethodInts P) ds

abbrev pub ClassInts : (ℤ → Type 0) → PlainClass → Type 0
ClassInts P d = All (λ m. StmtsInts P (stmts_of m.body)) d.members

-- without the first statement
fewer_ints : (P : ℤ → Type 0) (ys : List PlainStmt) (b : Bool) → StmtsInts P (stmts_of ys) → StmtsInts P (stmts_of (if b then drop 1 ys else ys))
unfolding StmtsInts
fewer_ints P ys false s = s
fewer_ints P [] true s = s
fewer_ints P (y ∷ ys) true s = s.1

module _ (P : ℤ → Type 0) (nought : P (pos 0)) where
  def_ints : {c : ℕ} {i : Input} {d : PlainMethod} {m : Input} → IsDef c i (found d m) → LeftInts P i → MethodInts P d × LeftInts P m
  def_ints (def_is {i = i} {ys = ys} _ _ h2 h3 h4) s =
      let body = body_ints P nought h4 (annotation_leaves P h3 (signature_leaves P h2 (passed_name P (next i) (passed P i s)))) in
      (fewer_ints P ys (begins_with_string ys) body.0, body.1)

  method_ints : {c : ℕ} {i : Input} {d : PlainMethod} {m : Input} → IsMethod c i (found d m) → LeftInts P i → MethodInts P d × LeftInts P m
  method_ints (method_marked {i = i} {m1 = m1} _ h1 _ h3) s = def_ints h3 (begun P m1 (marker_leaves P h1 (passed P i s)))
  method_ints (method_plain _ h1) s = def_ints h1 s

  methods_ints : {c : ℕ} {i : Input} {ds : List PlainMethod} {m : Input} → IsMethods c i (found ds m) → LeftInts P i → MethodsInts P ds × LeftInts P m
  methods_ints (methods_end _) s = (All-nil (MethodInts P), s)
  methods_ints (methods_more {i = i} {d = d} {ds = ds} _ _ h2 h3) s =
      let first = method_ints h2 (begun P i s) in
      let others = methods_ints h3 first.1 in
      (All-cons (MethodInts P) d ds first.0 others.0, others.1)

  members_ints : {i : Input} {ds : List PlainMethod} {m : Input} → IsMembers i (found ds m) → LeftInts P i → MethodsInts P ds × LeftInts P m
  members_ints (members_plain _ _ h2) s = methods_ints h2 s
  members_ints (members_doc {i = i} _ _ _ h3) s = methods_ints h3 (passed P (next_line i) (begun P i s))

  head_ints : {i : Input} {d : PlainClass} {m : Input} → IsHead i (found d m) → LeftInts P i → ClassInts P d × LeftInts P m
  head_ints (head_is {i = i} {m1 = m1} _ _ h2 _ _ h5) s = members_ints h5 (passed P m1 (brackets_leave P h2 (passed_name P (next i) (passed P i s))))

  class_ints : {i : Input} {d : PlainClass} {m : Input} → IsClass i (found d m) → LeftInts P i → ClassInts P d × LeftInts P m
  class_ints (class_is {i = i} {m1 = m1} _ h1 _ h3) s = head_ints h3 (begun P m1 (marker_leaves P h1 (passed P i s)))

  abbrev Ints : List PlainClass → Type 0
  Ints cs = All (ClassInts P) cs

  items_ints : {i : Input} {cs : List PlainClass} {m : Input} → IsItems i (found cs m) → LeftInts P i → Ints cs
  items_ints (items_end _) s = All-nil (ClassInts P)
  items_ints (items_import {i = i} _ _ _ h3 h4) s = items_ints h4 (import_leaves P h3 (begun P i s))
  items_ints (items_class {i = i} {d = d} {ds = ds} _ _ _ h3 h4) s =
      let first = class_ints h3 (begun P i s) in
      All-cons (ClassInts P) d ds first.0 (items_ints h4 first.1)

  file_ints : {i : Input} {cs : List PlainClass} {m : Input} → IsFile i (found cs m) → LeftInts P i → Ints cs
  file_ints (file_doc {i = i} _ _ h2) s = items_ints h2 (passed P (next_line i) (begun P i s))
  file_ints (file_plain _ h1) s = items_ints h1 s

  pub program_ints : (lines : List PlainLine) (program : PlainProgram) (names : List (List ℕ)) → IsProgram lines (has_tree program names) → LinesInts P lines → All (ClassInts P) program
  program_ints lines program names (program_is h) s = file_ints h (record { tokens = tt; lines = s })
