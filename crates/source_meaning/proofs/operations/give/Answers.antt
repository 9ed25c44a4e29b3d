use Rattle.std.proofs.Common.{◌∙◌, sym, ap, subst}
use Rattle.std.specs.Int.{w128}
use Rattle.std.specs.Int.RustNames.{FitsSigned}
use Rattle.std.specs.Fmt.{signed_decimal}
use Rattle.std.specs.Str.{chars}
use Rattle.std.proofs.lemmas.Int.{to_z-of_z}
use Rattle.py_tree.specs.Functions.{plain_function}
use Rattle.sf_value.specs.declared.value.Value.TheVariants as value
use Rattle.program_meaning.specs.World.{told}
use Rattle.program_meaning.specs.Operations.{weighed, given_by}
use Rattle.source_meaning.specs.Agrees.{AgreesIn}
use Rattle.source_meaning.proofs.operations.give.Goals as goal

pub returns-in-Text : goal.returns-in-Text
unfolding given_by
returns-in-Text c =
    let fx : FitsSigned w128 c.argument_number-x.result = record { sfits = c.argument_number-x.type_inv } in
    let h = simp (to_z-of_z, fx) at c.digits.ensures in
    let e = ap (λ x. weighed (value.Str (chars (signed_decimal x)))) c.argument_number-x.ensures ∙ ap (λ f. given_by (plain_function f) c.args.args.now) (sym c.in-Text.is) in
    λ w n. subst (λ r. AgreesIn c.digits.result w n (told r w n)) e (h w n)
