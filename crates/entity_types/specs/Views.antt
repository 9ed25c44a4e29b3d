-- What is known at a point, as a plain environment.
use Rattle.std.specs.Prelude.{List, map, Option, option_map}
use Rattle.std.specs.Borrow.{Bor}
use Rattle.py_tree.specs.declared.ty.Ty.{Ty}
use Rattle.py_tree.specs.PlainTypes.{PlainTy, plain_ty}
use Rattle.py_tree.specs.FlowEnvironment.{PlainLocal, PlainEnv}
use Rattle.entity_types.specs.declared.env.Local.{Local}
use Rattle.entity_types.specs.declared.env.FlowEnv.{FlowEnv}

abbrev pub plain_local : Local → PlainLocal
plain_local l = record { name = l.name.0; ty = plain_ty l.ty; assigned = l.assigned; not_none = l.not_none }

abbrev pub plain_locals : List Local → List PlainLocal
plain_locals = map plain_local

abbrev pub plain_env : FlowEnv → PlainEnv
plain_env e = record { class = e.class; method = e.method; locals = plain_locals e.locals }

abbrev pub plain_wanted : Option (Bor Ty) → Option PlainTy
plain_wanted = option_map (λ ty. plain_ty ty.now)
