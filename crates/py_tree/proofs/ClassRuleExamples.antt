-- Class rules, read by their definitions on small trees.
use Rattle.std.proofs.Common.{◌≡◌, ℕ, List, [], ◌∷◌, ◌++◌, Some, None, refl}
use Rattle.std.specs.Prelude.{codes, pos}
use Rattle.std.specs.declared.option.Option.{Option}
use Rattle.py_tree.specs.declared.names.Place.{Place}
use Rattle.py_tree.specs.declared.names.PlacedName.{PlacedName}
use Rattle.py_tree.specs.declared.rule.Rule.{Rule}
use Rattle.py_tree.specs.declared.rule.Rule.TheVariants.{ReservedName, DuplicateClass, DuplicateMember, MissingAnnotation, UnknownType, NestedOptional, InitForm, KeyForm}
use Rattle.py_tree.specs.declared.rule.RuleFault.{RuleFault}
use Rattle.py_tree.specs.declared.stmt.Target.TheVariants.{Field}
use Rattle.py_tree.specs.PlainTypes.{TInt, TStr, PlainWritten, WInt, WStr, WNil, WOptional, WEntity}
use Rattle.py_tree.specs.PlainExpressions.{PlainExpr, PInt, PVar, PSelf, PAttr, PApply, PNoExpr}
use Rattle.py_tree.specs.PlainStatements.{PlainStmt, PReturn, PAssign}
use Rattle.py_tree.specs.PlainProgram.{PlainParam, PlainMethod, PlainClass}
use Rattle.py_tree.specs.ReservedNames.{reserved_names}
use Rattle.py_tree.specs.ClassRules.{text_of, is_init, is_key, is_called, is_dunder, is_class, is_param, is_member, class_name_fault, methods_of, field_names, member_name_fault, param_fault, result_fault, fields_of, is_field, acts, init_stmt_fault, init_body_fault, member_fault, init_of, key_method, key_name, field_place, param_place, source_of, key_among, key_of, whole_fault, class_fault, program_fault, table_of, tables_of}

-- after the reserved names: Item, __init__, __key__, name, cost, stock, price, amount, update_stock, __add__
abbrev names : List (List ℕ)
names = reserved_names ++ codes "Item" ∷ codes "__init__" ∷ codes "__key__" ∷ codes "name" ∷ codes "cost" ∷ codes "stock" ∷ codes "price" ∷ codes "amount" ∷ codes "update_stock" ∷ codes "__add__" ∷ []

abbrev at : ℕ → ℕ → Place
at line col = record { line = line; col = col }

abbrev placed : ℕ → Place → PlacedName
placed name place = record { name = record { 0 = name }; place = place }

-- self.NAME
abbrev own : ℕ → PlainExpr
own name = PAttr (at 9 9) (PSelf (at 9 9)) name (at 9 14)

-- on this line: self.NAME: TYPE = VALUE
abbrev declares : ℕ → ℕ → PlainWritten → PlainExpr → PlainStmt
declares line name ty value = PAssign (at line 9) (Field (placed name (at line 14))) (Some ty) value

abbrev here : ℕ → PlainExpr
here name = PVar (at 9 30) name

abbrev param : ℕ → ℕ → Option PlainWritten → PlainParam
param col name ty = record { name = name; ty = ty; place = at 3 col }

-- a method whose name stands on this line
abbrev method : ℕ → ℕ → List PlainParam → Option PlainWritten → List PlainStmt → PlainMethod
method line name params result body = record { name = name; place = at line 9; params = params; result = result; body = body }

abbrev class : ℕ → List PlainMethod → PlainClass
class line members = record { name = 18; place = at line 7; members = members }

abbrev str : Option PlainWritten
str = Some (WStr (at 1 1))

abbrev int : Option PlainWritten
int = Some (WInt (at 1 1))

-- def __init__(self, name: str, cost: int) with a body
abbrev maker : List PlainStmt → PlainMethod
maker body = method 3 19 (param 24 21 str ∷ param 35 22 int ∷ []) None body

abbrev declarations : List PlainStmt
declarations = declares 4 21 (WStr (at 4 20)) (here 21) ∷ declares 5 22 (WInt (at 5 20)) (here 22) ∷ declares 6 23 (WInt (at 6 20)) (PInt (at 6 26) (pos 0)) ∷ []

-- def __key__(self): return self.name
abbrev key : PlainMethod
key = method 8 20 [] None (PReturn (at 9 9) (Some (own 21)) ∷ [])

-- def price(self) -> int: return self.cost
abbrev price : PlainMethod
price = method 11 24 [] int (PReturn (at 12 9) (Some (own 22)) ∷ [])

abbrev item : List PlainMethod → PlainClass
item more = class 2 (maker declarations ∷ key ∷ more)

item_is_accepted : program_fault names (item (price ∷ []) ∷ []) ≡ None
unfolding program_fault class_fault class_name_fault member_fault member_name_fault param_fault result_fault init_body_fault whole_fault is_init is_key is_called text_of is_dunder is_class is_param is_member is_field methods_of fields_of field_names init_stmt_fault init_of key_method key_name key_of key_among field_place param_place source_of acts
item_is_accepted = refl

-- its key is the field 0, which is the parameter 0
item_table : tables_of names (item (price ∷ []) ∷ []) ≡ record {
  name = 18;
  key_field = 0;
  key_param = 0;
  fields = record { name = 21; ty = TStr } ∷ record { name = 22; ty = TInt } ∷ record { name = 23; ty = TInt } ∷ [];
  methods = record { name = 24; params = []; result = TInt } ∷ [];
  init = record { name = 21; ty = TStr } ∷ record { name = 22; ty = TInt } ∷ [];
} ∷ []
unfolding table_of is_init is_key is_called text_of methods_of fields_of field_names init_of key_method key_name key_of key_among field_place param_place source_of
item_table = refl

abbrev fault : Rule → Place → Option RuleFault
fault rule place = Some (record { rule = rule; place = place })

-- two classes of one name: at the second, whatever is wrong in the first
a_second_class : program_fault names (class 2 [] ∷ class 20 [] ∷ []) ≡ fault DuplicateClass (at 20 7)
unfolding program_fault class_fault class_name_fault member_fault member_name_fault param_fault result_fault init_body_fault whole_fault is_init is_key is_called text_of is_dunder is_class is_param is_member is_field methods_of fields_of field_names init_stmt_fault init_of key_method key_name key_of key_among field_place param_place source_of acts
a_second_class = refl

-- a class without members has no __init__, which is told before its key
no_init : program_fault names (class 2 [] ∷ []) ≡ fault InitForm (at 2 7)
unfolding program_fault class_fault class_name_fault member_fault member_name_fault param_fault result_fault init_body_fault whole_fault is_init is_key is_called text_of is_dunder is_class is_param is_member is_field methods_of fields_of field_names init_stmt_fault init_of key_method key_name key_of key_among field_place param_place source_of acts
no_init = refl

-- a class without __key__
no_key : program_fault names (class 2 (maker declarations ∷ []) ∷ []) ≡ fault KeyForm (at 2 7)
unfolding program_fault class_fault class_name_fault member_fault member_name_fault param_fault result_fault init_body_fault whole_fault is_init is_key is_called text_of is_dunder is_class is_param is_member is_field methods_of fields_of field_names init_stmt_fault init_of key_method key_name key_of key_among field_place param_place source_of acts
no_key = refl

-- a key that is no text
an_int_as_key : program_fault names (class 2 (maker declarations ∷ method 8 20 [] None (PReturn (at 9 9) (Some (own 22)) ∷ []) ∷ []) ∷ []) ≡ fault KeyForm (at 8 9)
unfolding program_fault class_fault class_name_fault member_fault member_name_fault param_fault result_fault init_body_fault whole_fault is_init is_key is_called text_of is_dunder is_class is_param is_member is_field methods_of fields_of field_names init_stmt_fault init_of key_method key_name key_of key_among field_place param_place source_of acts
an_int_as_key = refl

-- a field that has the name of a later method
a_field_named_as_a_method : program_fault names (class 2 (maker (declarations ++ declares 7 24 (WInt (at 7 20)) (PInt (at 7 26) (pos 0)) ∷ []) ∷ key ∷ price ∷ []) ∷ []) ≡ fault DuplicateMember (at 7 14)
unfolding program_fault class_fault class_name_fault member_fault member_name_fault param_fault result_fault init_body_fault whole_fault is_init is_key is_called text_of is_dunder is_class is_param is_member is_field methods_of fields_of field_names init_stmt_fault init_of key_method key_name key_of key_among field_place param_place source_of acts
a_field_named_as_a_method = refl

-- a parameter without a type
an_untyped_parameter : program_fault names (item (method 11 26 (param 28 25 None ∷ []) int [] ∷ []) ∷ []) ≡ fault MissingAnnotation (at 3 28)
unfolding program_fault class_fault class_name_fault member_fault member_name_fault param_fault result_fault init_body_fault whole_fault is_init is_key is_called text_of is_dunder is_class is_param is_member is_field methods_of fields_of field_names init_stmt_fault init_of key_method key_name key_of key_among field_place param_place source_of acts
an_untyped_parameter = refl

-- a result type that is left out is told at the method's name
no_result_type : program_fault names (item (method 11 24 [] None [] ∷ []) ∷ []) ≡ fault MissingAnnotation (at 11 9)
unfolding program_fault class_fault class_name_fault member_fault member_name_fault param_fault result_fault init_body_fault whole_fault is_init is_key is_called text_of is_dunder is_class is_param is_member is_field methods_of fields_of field_names init_stmt_fault init_of key_method key_name key_of key_among field_place param_place source_of acts
no_result_type = refl

-- a parameter is looked at before the result type
a_class_as_parameter : program_fault names (item (method 11 26 (param 28 18 int ∷ []) None [] ∷ []) ∷ []) ≡ fault ReservedName (at 3 28)
unfolding program_fault class_fault class_name_fault member_fault member_name_fault param_fault result_fault init_body_fault whole_fault is_init is_key is_called text_of is_dunder is_class is_param is_member is_field methods_of fields_of field_names init_stmt_fault init_of key_method key_name key_of key_among field_place param_place source_of acts
a_class_as_parameter = refl

-- two underscores at both ends of a method's name
a_dunder : program_fault names (item (method 11 27 [] int [] ∷ []) ∷ []) ≡ fault ReservedName (at 11 9)
unfolding program_fault class_fault class_name_fault member_fault member_name_fault param_fault result_fault init_body_fault whole_fault is_init is_key is_called text_of is_dunder is_class is_param is_member is_field methods_of fields_of field_names init_stmt_fault init_of key_method key_name key_of key_among field_place param_place source_of acts
a_dunder = refl

-- Optional[None], and a type that is no class
an_optional_none : program_fault names (item (method 11 26 (param 28 25 (Some (WOptional (at 3 36) (WNil (at 3 45)))) ∷ []) int [] ∷ []) ∷ []) ≡ fault NestedOptional (at 3 45)
unfolding program_fault class_fault class_name_fault member_fault member_name_fault param_fault result_fault init_body_fault whole_fault is_init is_key is_called text_of is_dunder is_class is_param is_member is_field methods_of fields_of field_names init_stmt_fault init_of key_method key_name key_of key_among field_place param_place source_of acts
an_optional_none = refl

-- a name in a type that is no class
an_unknown_type : program_fault names (item (method 11 26 (param 28 25 (Some (WOptional (at 3 36) (WEntity (at 3 45) 21))) ∷ []) int [] ∷ []) ∷ []) ≡ fault UnknownType (at 3 45)
unfolding program_fault class_fault class_name_fault member_fault member_name_fault param_fault result_fault init_body_fault whole_fault is_init is_key is_called text_of is_dunder is_class is_param is_member is_field methods_of fields_of field_names init_stmt_fault init_of key_method key_name key_of key_among field_place param_place source_of acts
an_unknown_type = refl

-- a field is read in its own declaration
an_early_read : program_fault names (class 2 (maker (declares 4 22 (WInt (at 4 20)) (own 22) ∷ declarations) ∷ key ∷ []) ∷ []) ≡ fault InitForm (at 4 9)
unfolding program_fault class_fault class_name_fault member_fault member_name_fault param_fault result_fault init_body_fault whole_fault is_init is_key is_called text_of is_dunder is_class is_param is_member is_field methods_of fields_of field_names init_stmt_fault init_of key_method key_name key_of key_among field_place param_place source_of acts
an_early_read = refl

-- an entity is made in __init__
a_creation : program_fault names (class 2 (maker (declares 4 22 (WInt (at 4 20)) (PApply (at 4 26) 18 PNoExpr) ∷ declarations) ∷ key ∷ []) ∷ []) ≡ fault InitForm (at 4 9)
unfolding program_fault class_fault class_name_fault member_fault member_name_fault param_fault result_fault init_body_fault whole_fault is_init is_key is_called text_of is_dunder is_class is_param is_member is_field methods_of fields_of field_names init_stmt_fault init_of key_method key_name key_of key_among field_place param_place source_of acts
a_creation = refl
