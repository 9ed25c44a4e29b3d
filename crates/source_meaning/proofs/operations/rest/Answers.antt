use Rattle.std.proofs.Common.{◌∙◌, ap, sym, Ok, true≢false}
use Rattle.std.specs.Int.{w128}
use Rattle.std.specs.Int.RustNames.{FitsSigned}
use Rattle.std.proofs.lemmas.Int.{to_z-of_z}
use Rattle.sf_value.specs.declared.value.Value.TheVariants as value
use Rattle.source_meaning.proofs.OperationLaws.{rest_given}
use Rattle.program_meaning.specs.World.{told}
use Rattle.source_meaning.proofs.operations.rest.Goals as goal

pub returns-in-Some : goal.returns-in-Some
returns-in-Some c =
    let fx : FitsSigned w128 c.args.x = c.ranges.x in
    let fy : FitsSigned w128 c.args.y = c.ranges.y in
    let t = rw c.in-Some.is at c.floor_mod.type_inv in
    let fit : FitsSigned w128 c.in-Some.n = record { sfits = t.1.1.1.1.0.1 } in
    let by = simp (to_z-of_z, fx, fy) at c.in-Some.ensures.value in
    let none = simp (to_z-of_z, fy) at c.in-Some.ensures.none in
    λ w n. ap (λ x. told x w n) (rest_given c.args.x c.args.y by.0 c.in-Some.n (λ e. true≢false (none.1 e)) fit by.1 ∙ ap (λ n. Ok (value.Int n)) (sym (to_z-of_z w128 c.in-Some.n fit)))
