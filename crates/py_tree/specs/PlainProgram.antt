-- Classes and programs as plain trees.
use Rattle.std.specs.Prelude.{ℕ, List, map}
use Rattle.std.specs.declared.option.Option.{Option}
use Rattle.py_tree.specs.declared.names.Place.{Place}
use Rattle.py_tree.specs.declared.program.Param.{Param}
use Rattle.py_tree.specs.declared.program.Method.{Method}
use Rattle.py_tree.specs.declared.program.Class.{Class}
use Rattle.py_tree.specs.declared.program.Program.{Program}
use Rattle.py_tree.specs.PlainTypes.{PlainWritten, plain_written}
use Rattle.py_tree.specs.PlainStatements.{PlainStmt, plain_stmts, plain_option}

-- a parameter, with the place of its name
pub record PlainParam : Type 0 where
  pub name : ℕ
  pub ty : Option PlainWritten
  pub place : Place

-- a method, with the place of its name
pub record PlainMethod : Type 0 where
  pub name : ℕ
  pub place : Place
  pub params : List PlainParam
  pub result : Option PlainWritten
  pub body : List PlainStmt

-- a class, with the place of its name and all that is defined in it
pub record PlainClass : Type 0 where
  pub name : ℕ
  pub place : Place
  pub members : List PlainMethod

-- a program is its classes in text order
abbrev pub PlainProgram : Type 0
PlainProgram = List PlainClass

abbrev pub plain_param : Param → PlainParam
plain_param p = record { name = p.name.0; ty = plain_option plain_written p.ty; place = p.place }

abbrev pub plain_params : List Param → List PlainParam
plain_params = map plain_param

abbrev pub plain_method : Method → PlainMethod
plain_method m = record { name = m.name.0; place = m.place; params = plain_params m.params; result = plain_option plain_written m.result; body = plain_stmts m.body }

abbrev pub plain_methods : List Method → List PlainMethod
plain_methods = map plain_method

abbrev pub plain_class : Class → PlainClass
plain_class c = record { name = c.name.0; place = c.place; members = plain_methods c.members }

abbrev pub plain_classes : List Class → List PlainClass
plain_classes = map plain_class

abbrev pub plain_program : Program → PlainProgram
plain_program p = plain_classes p.classes
