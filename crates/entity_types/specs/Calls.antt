-- What is called, and what is looked into, before the arguments and the index are typed.
use Rattle.std.specs.Prelude.{ℕ, not, ◌==◌, List, length, Result, Ok}
use Rattle.py_tree.specs.declared.names.Place.{Place}
use Rattle.py_tree.specs.declared.rule.Rule.TheVariants.{NoneUse, Operand, UnknownMethod, ArgCount}
use Rattle.py_tree.specs.declared.rule.RuleFault.{RuleFault}
use Rattle.py_tree.specs.PlainTypes.{PlainTy}
use Rattle.py_tree.specs.ClassRules.{PlainSig, PlainTable}
use Rattle.py_tree.specs.FlowEnvironment.{has_none}
use Rattle.py_tree.specs.ExpressionTypes.{refuse_if, needs, class_of_ty, method_of, element_of}

-- the method of this name that a receiver of this type has, for this number of arguments
unfoldable pub called : List PlainTable → Place → PlainTy → ℕ → Place → ℕ → Result PlainSig RuleFault
called tables place t name name_at count =
    refuse_if (has_none t) NoneUse place
    (needs (class_of_ty t) Operand place (λ class.
    needs (method_of tables class name) UnknownMethod name_at (λ m.
    refuse_if (not (count == length m.params)) ArgCount name_at (Ok m))))

-- the element type of what is indexed
unfoldable pub indexed : Place → PlainTy → Result PlainTy RuleFault
indexed place t = refuse_if (has_none t) NoneUse place (needs (element_of t) Operand place (λ element. Ok element))
