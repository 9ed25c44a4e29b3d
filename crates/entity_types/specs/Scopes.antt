-- What is known at a point within an expression.
use Rattle.std.specs.Prelude.{Bool, List, [], ◌∷◌}
use Rattle.py_tree.specs.FlowEnvironment.{PlainLocal, PlainEnv}
use Rattle.entity_types.specs.Views.{plain_locals}
use Rattle.entity_types.specs.declared.scope.Scope.{Scope}

-- locals of which each is surely not None as it is said, in order
abbrev pub known_by : List PlainLocal → List Bool → List PlainLocal
known_by [] known = []
known_by (l ∷ ls) [] = l ∷ ls
known_by (l ∷ ls) (known ∷ more) = record l { not_none = known } ∷ known_by ls more

unfoldable pub plain_scope : Scope → PlainEnv
plain_scope s = record {
  class = s.env.now.class;
  method = s.env.now.method;
  locals = known_by (plain_locals s.env.now.locals) s.not_none;
}
