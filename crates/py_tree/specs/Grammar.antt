-- The grammar of programs: the tree of logical lines with its names, or the first token that is refused. The rules are of the
-- form of those of expressions.
use Rattle.std.specs.Prelude.{◌≡◌, ℕ, ◌-◌, Bool, true, false, List, [], ◌∷◌, if◌then◌else◌, drop}
use Rattle.std.specs.declared.option.Option.{Option}
use Rattle.py_tree.specs.declared.names.PlacedName.{PlacedName}
use Rattle.py_tree.specs.declared.fault.SyntaxFault.{SyntaxFault}
use Rattle.py_tree.specs.declared.terminal.Terminal.{Terminal}
use Rattle.py_tree.specs.declared.terminal.Terminal.TheVariants as k
use Rattle.py_tree.specs.PlainTypes.{PlainWritten}
use Rattle.py_tree.specs.PlainExpressions.{PlainExpr, PStr}
use Rattle.py_tree.specs.PlainStatements.{PlainStmt, PDo}
use Rattle.py_tree.specs.PlainProgram.{PlainParam, PlainMethod, PlainClass, PlainProgram}
use Rattle.py_tree.specs.Tokens.{PlainLine}
use Rattle.py_tree.specs.ReservedNames.{reserved_names}
use Rattle.py_tree.specs.Reading.{Input, Outcome, found, stops, Nothing, next, ends, sees, sees_name, named, placed_name, refused, next_line, has_line, column, is_at, is_deeper, begins_docstring, begins_string, begins_import, sees_module}
use Rattle.py_tree.specs.TypeGrammar.{IsAnnotation}
use Rattle.py_tree.specs.StatementGrammar.{IsBody}

-- how many levels a program may open
abbrev pub levels : ℕ
levels = 64

abbrev pub param_of : PlacedName → Option PlainWritten → PlainParam
param_of x t = record { name = x.name.0; ty = t; place = x.place }

abbrev pub method_of : PlacedName → List PlainParam → Option PlainWritten → List PlainStmt → PlainMethod
method_of x ps t ys = record { name = x.name.0; place = x.place; params = ps; result = t; body = ys }

abbrev pub class_of : PlacedName → List PlainMethod → PlainClass
class_of x ds = record { name = x.name.0; place = x.place; members = ds }

abbrev pub is_string : PlainExpr → Bool
is_string (PStr at text) = true
is_string _ = false

abbrev pub is_docstring : PlainStmt → Bool
is_docstring (PDo at x) = is_string x
is_docstring _ = false

-- a string alone is the first statement
abbrev pub begins_with_string : List PlainStmt → Bool
begins_with_string [] = false
begins_with_string (y ∷ ys) = is_docstring y

-- and is dropped
abbrev pub without_docstring : List PlainStmt → List PlainStmt
without_docstring ys = if begins_with_string ys then drop 1 ys else ys

-- { ',' NAME [':' type] } [',']
pub data IsParams : ℕ → Input → Outcome (List PlainParam) → Type 0 where
  params_end : {n : ℕ} {i : Input} → sees k.Comma i ≡ false → IsParams n i (found [] i)
  params_last : {n : ℕ} {i : Input} → sees k.Comma i ≡ true → sees_name (next i) ≡ false → IsParams n i (found [] (next i))
  params_more_stops_t : {n : ℕ} {i : Input} {f : SyntaxFault} → sees k.Comma i ≡ true → sees_name (next i) ≡ true → IsAnnotation n k.Colon (named (next i)) (stops f) → IsParams n i (stops f)
  params_more_stops_ps : {n : ℕ} {i : Input} {t : Option PlainWritten} {m1 : Input} {f : SyntaxFault} → sees k.Comma i ≡ true → sees_name (next i) ≡ true → IsAnnotation n k.Colon (named (next i)) (found t m1) → IsParams n m1 (stops f) → IsParams n i (stops f)
  params_more : {n : ℕ} {i : Input} {t : Option PlainWritten} {m1 : Input} {ps : List PlainParam} {m2 : Input} → sees k.Comma i ≡ true → sees_name (next i) ≡ true → IsAnnotation n k.Colon (named (next i)) (found t m1) → IsParams n m1 (found ps m2) → IsParams n i (found (param_of (placed_name (next i)) t ∷ ps) m2)

-- ['stateflow' '.'] and the decorator's name, NL
pub data IsMarker : Terminal → Input → Outcome Nothing → Type 0 where
  marker_plain_needs_name : {c : Terminal} {i : Input} → sees k.StateflowWord i ≡ false → sees c i ≡ false → IsMarker c i (stops (refused i))
  marker_plain_needs_line_end : {c : Terminal} {i : Input} → sees k.StateflowWord i ≡ false → sees c i ≡ true → ends (next i) ≡ false → IsMarker c i (stops (refused (next i)))
  marker_plain : {c : Terminal} {i : Input} → sees k.StateflowWord i ≡ false → sees c i ≡ true → ends (next i) ≡ true → IsMarker c i (found tt (next i))
  marker_long_needs_dot : {c : Terminal} {i : Input} → sees k.StateflowWord i ≡ true → sees k.Dot (next i) ≡ false → IsMarker c i (stops (refused (next i)))
  marker_long_needs_name : {c : Terminal} {i : Input} → sees k.StateflowWord i ≡ true → sees k.Dot (next i) ≡ true → sees c (next (next i)) ≡ false → IsMarker c i (stops (refused (next (next i))))
  marker_long_needs_line_end : {c : Terminal} {i : Input} → sees k.StateflowWord i ≡ true → sees k.Dot (next i) ≡ true → sees c (next (next i)) ≡ true → ends (next (next (next i))) ≡ false → IsMarker c i (stops (refused (next (next (next i)))))
  marker_long : {c : Terminal} {i : Input} → sees k.StateflowWord i ≡ true → sees k.Dot (next i) ≡ true → sees c (next (next i)) ≡ true → ends (next (next (next i))) ≡ true → IsMarker c i (found tt (next (next (next i))))

-- '(' 'self' { ',' NAME [':' type] } [','] ')', whose bracket opens the first level
pub data IsSignature : Input → Outcome (List PlainParam) → Type 0 where
  signature_is_needs_open : {i : Input} → sees k.Open i ≡ false → IsSignature i (stops (refused i))
  signature_is_needs_selfword : {i : Input} → sees k.Open i ≡ true → sees k.SelfWord (next i) ≡ false → IsSignature i (stops (refused (next i)))
  signature_is_stops_ps : {i : Input} {f : SyntaxFault} → sees k.Open i ≡ true → sees k.SelfWord (next i) ≡ true → IsParams (levels - 1) (next (next i)) (stops f) → IsSignature i (stops f)
  signature_is_needs_close : {i : Input} {ps : List PlainParam} {m1 : Input} → sees k.Open i ≡ true → sees k.SelfWord (next i) ≡ true → IsParams (levels - 1) (next (next i)) (found ps m1) → sees k.Close m1 ≡ false → IsSignature i (stops (refused m1))
  signature_is : {i : Input} {ps : List PlainParam} {m1 : Input} → sees k.Open i ≡ true → sees k.SelfWord (next i) ≡ true → IsParams (levels - 1) (next (next i)) (found ps m1) → sees k.Close m1 ≡ true → IsSignature i (found ps (next m1))

-- 'def' NAME signature ['->' type] ':' suite, on a line of column c
pub data IsDef : ℕ → Input → Outcome PlainMethod → Type 0 where
  def_is_needs_def : {c : ℕ} {i : Input} → sees k.Def i ≡ false → IsDef c i (stops (refused i))
  def_is_needs_name : {c : ℕ} {i : Input} → sees k.Def i ≡ true → sees_name (next i) ≡ false → IsDef c i (stops (refused (next i)))
  def_is_stops_ps : {c : ℕ} {i : Input} {f : SyntaxFault} → sees k.Def i ≡ true → sees_name (next i) ≡ true → IsSignature (named (next i)) (stops f) → IsDef c i (stops f)
  def_is_stops_t : {c : ℕ} {i : Input} {ps : List PlainParam} {m1 : Input} {f : SyntaxFault} → sees k.Def i ≡ true → sees_name (next i) ≡ true → IsSignature (named (next i)) (found ps m1) → IsAnnotation levels k.Arrow m1 (stops f) → IsDef c i (stops f)
  def_is_stops_ys : {c : ℕ} {i : Input} {ps : List PlainParam} {m1 : Input} {t : Option PlainWritten} {m2 : Input} {f : SyntaxFault} → sees k.Def i ≡ true → sees_name (next i) ≡ true → IsSignature (named (next i)) (found ps m1) → IsAnnotation levels k.Arrow m1 (found t m2) → IsBody levels c m2 (stops f) → IsDef c i (stops f)
  def_is : {c : ℕ} {i : Input} {ps : List PlainParam} {m1 : Input} {t : Option PlainWritten} {m2 : Input} {ys : List PlainStmt} {m3 : Input} → sees k.Def i ≡ true → sees_name (next i) ≡ true → IsSignature (named (next i)) (found ps m1) → IsAnnotation levels k.Arrow m1 (found t m2) → IsBody levels c m2 (found ys m3) → IsDef c i (found (method_of (placed_name (next i)) ps t (without_docstring ys)) m3)

-- method : ['@' ['stateflow' '.'] 'transactional' NL] def, of column c
pub data IsMethod : ℕ → Input → Outcome PlainMethod → Type 0 where
  method_marked_stops_u : {c : ℕ} {i : Input} {f : SyntaxFault} → sees k.At i ≡ true → IsMarker k.TransactionalWord (next i) (stops f) → IsMethod c i (stops f)
  method_marked_needs_line : {c : ℕ} {i : Input} {u : Nothing} {m1 : Input} → sees k.At i ≡ true → IsMarker k.TransactionalWord (next i) (found u m1) → is_at c m1 ≡ false → IsMethod c i (stops (refused (next_line m1)))
  method_marked : {c : ℕ} {i : Input} {u : Nothing} {m1 : Input} {o : Outcome PlainMethod} → sees k.At i ≡ true → IsMarker k.TransactionalWord (next i) (found u m1) → is_at c m1 ≡ true → IsDef c (next_line m1) o → IsMethod c i o
  method_plain : {c : ℕ} {i : Input} {o : Outcome PlainMethod} → sees k.At i ≡ false → IsDef c i o → IsMethod c i o

-- { method }, of column c
pub data IsMethods : ℕ → Input → Outcome (List PlainMethod) → Type 0 where
  methods_end : {c : ℕ} {i : Input} → is_deeper 0 i ≡ false → IsMethods c i (found [] i)
  methods_shifted : {c : ℕ} {i : Input} → is_deeper 0 i ≡ true → is_at c i ≡ false → IsMethods c i (stops (refused (next_line i)))
  methods_more_stops_d : {c : ℕ} {i : Input} {f : SyntaxFault} → is_deeper 0 i ≡ true → is_at c i ≡ true → IsMethod c (next_line i) (stops f) → IsMethods c i (stops f)
  methods_more_stops_ds : {c : ℕ} {i : Input} {d : PlainMethod} {m1 : Input} {f : SyntaxFault} → is_deeper 0 i ≡ true → is_at c i ≡ true → IsMethod c (next_line i) (found d m1) → IsMethods c m1 (stops f) → IsMethods c i (stops f)
  methods_more : {c : ℕ} {i : Input} {d : PlainMethod} {m1 : Input} {ds : List PlainMethod} {m2 : Input} → is_deeper 0 i ≡ true → is_at c i ≡ true → IsMethod c (next_line i) (found d m1) → IsMethods c m1 (found ds m2) → IsMethods c i (found (d ∷ ds) m2)

-- block( [STR NL] method { method } )
pub data IsMembers : Input → Outcome (List PlainMethod) → Type 0 where
  members_plain : {i : Input} {o : Outcome (List PlainMethod)} → begins_string i ≡ false → is_deeper 0 i ≡ true → IsMethods (column i) i o → IsMembers i o
  members_missing : {i : Input} → begins_string i ≡ false → is_deeper 0 i ≡ false → IsMembers i (stops (refused (next_line i)))
  members_doc_needs_line_end : {i : Input} → begins_string i ≡ true → ends (next (next_line i)) ≡ false → IsMembers i (stops (refused (next (next_line i))))
  members_doc_needs_method : {i : Input} → begins_string i ≡ true → ends (next (next_line i)) ≡ true → is_deeper 0 (next (next_line i)) ≡ false → IsMembers i (stops (refused (next_line (next (next_line i)))))
  members_doc : {i : Input} {o : Outcome (List PlainMethod)} → begins_string i ≡ true → ends (next (next_line i)) ≡ true → is_deeper 0 (next (next_line i)) ≡ true → IsMethods (column i) (next (next_line i)) o → IsMembers i o

-- ['(' ')']
pub data IsBrackets : Input → Outcome Nothing → Type 0 where
  brackets_none : {i : Input} → sees k.Open i ≡ false → IsBrackets i (found tt i)
  brackets_is_needs_close : {i : Input} → sees k.Open i ≡ true → sees k.Close (next i) ≡ false → IsBrackets i (stops (refused (next i)))
  brackets_is : {i : Input} → sees k.Open i ≡ true → sees k.Close (next i) ≡ true → IsBrackets i (found tt (next (next i)))

-- 'class' NAME ['(' ')'] ':' NL block( [STR NL] method { method } )
pub data IsHead : Input → Outcome PlainClass → Type 0 where
  head_is_needs_class : {i : Input} → sees k.Class i ≡ false → IsHead i (stops (refused i))
  head_is_needs_name : {i : Input} → sees k.Class i ≡ true → sees_name (next i) ≡ false → IsHead i (stops (refused (next i)))
  head_is_stops_u : {i : Input} {f : SyntaxFault} → sees k.Class i ≡ true → sees_name (next i) ≡ true → IsBrackets (named (next i)) (stops f) → IsHead i (stops f)
  head_is_needs_colon : {i : Input} {u : Nothing} {m1 : Input} → sees k.Class i ≡ true → sees_name (next i) ≡ true → IsBrackets (named (next i)) (found u m1) → sees k.Colon m1 ≡ false → IsHead i (stops (refused m1))
  head_is_needs_line_end : {i : Input} {u : Nothing} {m1 : Input} → sees k.Class i ≡ true → sees_name (next i) ≡ true → IsBrackets (named (next i)) (found u m1) → sees k.Colon m1 ≡ true → ends (next m1) ≡ false → IsHead i (stops (refused (next m1)))
  head_is_stops_ds : {i : Input} {u : Nothing} {m1 : Input} {f : SyntaxFault} → sees k.Class i ≡ true → sees_name (next i) ≡ true → IsBrackets (named (next i)) (found u m1) → sees k.Colon m1 ≡ true → ends (next m1) ≡ true → IsMembers (next m1) (stops f) → IsHead i (stops f)
  head_is : {i : Input} {u : Nothing} {m1 : Input} {ds : List PlainMethod} {m2 : Input} → sees k.Class i ≡ true → sees_name (next i) ≡ true → IsBrackets (named (next i)) (found u m1) → sees k.Colon m1 ≡ true → ends (next m1) ≡ true → IsMembers (next m1) (found ds m2) → IsHead i (found (class_of (placed_name (next i)) ds) m2)

-- class : '@' ['stateflow' '.'] 'entity' NL head
pub data IsClass : Input → Outcome PlainClass → Type 0 where
  class_is_needs_at : {i : Input} → sees k.At i ≡ false → IsClass i (stops (refused i))
  class_is_stops_u : {i : Input} {f : SyntaxFault} → sees k.At i ≡ true → IsMarker k.EntityWord (next i) (stops f) → IsClass i (stops f)
  class_is_needs_line : {i : Input} {u : Nothing} {m1 : Input} → sees k.At i ≡ true → IsMarker k.EntityWord (next i) (found u m1) → is_at 0 m1 ≡ false → IsClass i (stops (refused (next_line m1)))
  class_is : {i : Input} {u : Nothing} {m1 : Input} {o : Outcome PlainClass} → sees k.At i ≡ true → IsMarker k.EntityWord (next i) (found u m1) → is_at 0 m1 ≡ true → IsHead (next_line m1) o → IsClass i o

-- { ',' NAME }, and a last comma within brackets
pub data IsMoreNames : Bool → Input → Outcome Nothing → Type 0 where
  more_names_end : {b : Bool} {i : Input} → sees k.Comma i ≡ false → IsMoreNames b i (found tt i)
  more_names_more : {b : Bool} {i : Input} {o : Outcome Nothing} → sees k.Comma i ≡ true → sees_name (next i) ≡ true → IsMoreNames b (next (next i)) o → IsMoreNames b i o
  more_names_last : {b : Bool} {i : Input} → sees k.Comma i ≡ true → sees_name (next i) ≡ false → b ≡ true → IsMoreNames b i (found tt (next i))
  more_names_other : {b : Bool} {i : Input} → sees k.Comma i ≡ true → sees_name (next i) ≡ false → b ≡ false → IsMoreNames b i (stops (refused (next i)))

-- names : NAME { ',' NAME }
pub data IsNames : Bool → Input → Outcome Nothing → Type 0 where
  names_is_needs_name : {b : Bool} {i : Input} → sees_name i ≡ false → IsNames b i (stops (refused i))
  names_is : {b : Bool} {i : Input} {o : Outcome Nothing} → sees_name i ≡ true → IsMoreNames b (next i) o → IsNames b i o

-- names | '(' names [','] ')'
pub data IsImported : Input → Outcome Nothing → Type 0 where
  imported_plain : {i : Input} {o : Outcome Nothing} → sees k.Open i ≡ false → IsNames false i o → IsImported i o
  imported_enclosed_stops_u : {i : Input} {f : SyntaxFault} → sees k.Open i ≡ true → IsNames true (next i) (stops f) → IsImported i (stops f)
  imported_enclosed_needs_close : {i : Input} {u : Nothing} {m1 : Input} → sees k.Open i ≡ true → IsNames true (next i) (found u m1) → sees k.Close m1 ≡ false → IsImported i (stops (refused m1))
  imported_enclosed : {i : Input} {u : Nothing} {m1 : Input} → sees k.Open i ≡ true → IsNames true (next i) (found u m1) → sees k.Close m1 ≡ true → IsImported i (found tt (next m1))

-- NL
pub data IsLineEnd : Input → Outcome Nothing → Type 0 where
  line_end_is_needs_line_end : {i : Input} → ends i ≡ false → IsLineEnd i (stops (refused i))
  line_end_is : {i : Input} → ends i ≡ true → IsLineEnd i (found tt i)

-- MODULE 'import' ( names | '(' names [','] ')' ) NL
pub data IsImportFrom : Input → Outcome Nothing → Type 0 where
  import_from_is_needs_module : {i : Input} → sees_module i ≡ false → IsImportFrom i (stops (refused i))
  import_from_is_needs_import : {i : Input} → sees_module i ≡ true → sees k.Import (next i) ≡ false → IsImportFrom i (stops (refused (next i)))
  import_from_is_stops_u : {i : Input} {f : SyntaxFault} → sees_module i ≡ true → sees k.Import (next i) ≡ true → IsImported (next (next i)) (stops f) → IsImportFrom i (stops f)
  import_from_is : {i : Input} {u : Nothing} {m1 : Input} {o : Outcome Nothing} → sees_module i ≡ true → sees k.Import (next i) ≡ true → IsImported (next (next i)) (found u m1) → IsLineEnd m1 o → IsImportFrom i o

-- import : 'from' import_from | 'import' 'stateflow' NL
pub data IsImport : Input → Outcome Nothing → Type 0 where
  import_from : {i : Input} {o : Outcome Nothing} → sees k.From i ≡ true → IsImportFrom (next i) o → IsImport i o
  import_whole_needs_import : {i : Input} → sees k.From i ≡ false → sees k.Import i ≡ false → IsImport i (stops (refused i))
  import_whole_needs_stateflowword : {i : Input} → sees k.From i ≡ false → sees k.Import i ≡ true → sees k.StateflowWord (next i) ≡ false → IsImport i (stops (refused (next i)))
  import_whole : {i : Input} {o : Outcome Nothing} → sees k.From i ≡ false → sees k.Import i ≡ true → sees k.StateflowWord (next i) ≡ true → IsLineEnd (next (next i)) o → IsImport i o

-- { import | class }, of column 0
pub data IsItems : Input → Outcome (List PlainClass) → Type 0 where
  items_end : {i : Input} → has_line i ≡ false → IsItems i (found [] i)
  items_shifted : {i : Input} → has_line i ≡ true → is_at 0 i ≡ false → IsItems i (stops (refused (next_line i)))
  items_import_stops_u : {i : Input} {f : SyntaxFault} → has_line i ≡ true → is_at 0 i ≡ true → begins_import (next_line i) ≡ true → IsImport (next_line i) (stops f) → IsItems i (stops f)
  items_import : {i : Input} {u : Nothing} {m1 : Input} {o : Outcome (List PlainClass)} → has_line i ≡ true → is_at 0 i ≡ true → begins_import (next_line i) ≡ true → IsImport (next_line i) (found u m1) → IsItems m1 o → IsItems i o
  items_class_stops_d : {i : Input} {f : SyntaxFault} → has_line i ≡ true → is_at 0 i ≡ true → begins_import (next_line i) ≡ false → IsClass (next_line i) (stops f) → IsItems i (stops f)
  items_class_stops_ds : {i : Input} {d : PlainClass} {m1 : Input} {f : SyntaxFault} → has_line i ≡ true → is_at 0 i ≡ true → begins_import (next_line i) ≡ false → IsClass (next_line i) (found d m1) → IsItems m1 (stops f) → IsItems i (stops f)
  items_class : {i : Input} {d : PlainClass} {m1 : Input} {ds : List PlainClass} {m2 : Input} → has_line i ≡ true → is_at 0 i ≡ true → begins_import (next_line i) ≡ false → IsClass (next_line i) (found d m1) → IsItems m1 (found ds m2) → IsItems i (found (d ∷ ds) m2)

-- program : [STR NL] { import | class }
pub data IsFile : Input → Outcome (List PlainClass) → Type 0 where
  file_doc_needs_line_end : {i : Input} → begins_docstring i ≡ true → ends (next (next_line i)) ≡ false → IsFile i (stops (refused (next (next_line i))))
  file_doc : {i : Input} {o : Outcome (List PlainClass)} → begins_docstring i ≡ true → ends (next (next_line i)) ≡ true → IsItems (next (next_line i)) o → IsFile i o
  file_plain : {i : Input} {o : Outcome (List PlainClass)} → begins_docstring i ≡ false → IsItems i o → IsFile i o

-- where reading begins: before the first line, with the reserved names numbered
abbrev pub first_input : List PlainLine → Input
first_input lines = record { tokens = []; behind = record { line = 1; col = 1 }; lines = lines; names = reserved_names }

-- what lines are: a program with its names, or a first refused token
pub data Parse : Type 0 where
  has_tree : PlainProgram → List (List ℕ) → Parse
  has_fault : SyntaxFault → Parse

pub data IsProgram : List PlainLine → Parse → Type 0 where
  program_is : {lines : List PlainLine} {p : PlainProgram} {m : Input} → IsFile (first_input lines) (found p m) → IsProgram lines (has_tree p m.names)
  program_stops : {lines : List PlainLine} {f : SyntaxFault} → IsFile (first_input lines) (stops f) → IsProgram lines (has_fault f)
