use Rattle.std.proofs.Common.{◌∙◌, sym, ap, subst}
use Rattle.std.specs.Int.{w128}
use Rattle.std.specs.Int.RustNames.{FitsSigned}
use Rattle.std.proofs.lemmas.Int.{to_z-of_z}
use Rattle.sf_value.specs.Arithmetic.{floor_quotient, floor_rest}
use Rattle.program_meaning.specs.World.{told}
use Rattle.program_meaning.specs.Operations.{combined, divided, in_range}
use Rattle.source_meaning.specs.Agrees.{AgreesIn}
use Rattle.source_meaning.proofs.operations.combine.Goals as goal

pub returns-in-FloorDiv : goal.returns-in-FloorDiv
unfolding combined
returns-in-FloorDiv c =
    let fx : FitsSigned w128 c.number-in-FloorDiv.result = record { sfits = c.number-in-FloorDiv.type_inv } in
    let fy : FitsSigned w128 c.number-in-FloorDiv-2.result = record { sfits = c.number-in-FloorDiv-2.type_inv } in
    let h = simp (to_z-of_z, fx, fy) at c.divide.ensures in
    let e = (λ i. divided (c.number-in-FloorDiv-2.ensures i) (in_range (floor_quotient (c.number-in-FloorDiv.ensures i) (c.number-in-FloorDiv-2.ensures i)))) ∙ ap (λ op. combined op c.args.left.now c.args.right.now) (sym c.in-FloorDiv.is) in
    λ w n. subst (λ r. AgreesIn c.divide.result w n (told r w n)) e (h w n)

pub returns-in-Mod : goal.returns-in-Mod
unfolding combined
returns-in-Mod c =
    let fx : FitsSigned w128 c.number-in-Mod.result = record { sfits = c.number-in-Mod.type_inv } in
    let fy : FitsSigned w128 c.number-in-Mod-2.result = record { sfits = c.number-in-Mod-2.type_inv } in
    let h = simp (to_z-of_z, fx, fy) at c.rest.ensures in
    let e = (λ i. divided (c.number-in-Mod-2.ensures i) (in_range (floor_rest (c.number-in-Mod.ensures i) (c.number-in-Mod-2.ensures i)))) ∙ ap (λ op. combined op c.args.left.now c.args.right.now) (sym c.in-Mod.is) in
    λ w n. subst (λ r. AgreesIn c.rest.result w n (told r w n)) e (h w n)
