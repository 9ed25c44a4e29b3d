use Rattle.std.proofs.Common.{◌∙◌, ap, sym, refl, Ok}
use Rattle.std.specs.Int.{w128}
use Rattle.std.specs.Int.RustNames.{FitsSigned}
use Rattle.std.proofs.Common.{of_z}
use Rattle.std.proofs.lemmas.Int.{to_z-of_z}
use Rattle.sf_value.specs.declared.value.Value.TheVariants as value
use Rattle.source_meaning.proofs.AgreeLaws.{stops_as}
use Rattle.source_meaning.proofs.OperationLaws.{quotient_given, quotient_refused}
use Rattle.program_meaning.specs.World.{told, overflow_error}
use Rattle.source_meaning.proofs.operations.divide.Goals as goal

pub returns-in-Some : goal.returns-in-Some
returns-in-Some c =
    let fx : FitsSigned w128 c.args.x = c.ranges.x in
    let fy : FitsSigned w128 c.args.y = c.ranges.y in
    let t = rw c.in-Some.is at c.floor_div.type_inv in
    let fit : FitsSigned w128 c.in-Some.n = record { sfits = t.1.1.1.1.0.1 } in
    let by = simp (to_z-of_z, fx, fy) at c.in-Some.ensures.value in
    λ w n. ap (λ x. told x w n) (quotient_given c.args.x c.args.y c.in-Some.n by.0 (λ e. c.if-y-eq0.false (ap (of_z w128) e)) fit by.1 ∙ ap (λ n. Ok (value.Int n)) (sym (to_z-of_z w128 c.in-Some.n fit)))

pub returns-in-None : goal.returns-in-None
returns-in-None c =
    let fx : FitsSigned w128 c.args.x = c.ranges.x in
    let fy : FitsSigned w128 c.args.y = c.ranges.y in
    let none = simp (to_z-of_z, fx, fy) at c.in-None.ensures.none in
    stops_as c.fail-in-None.result overflow_error _ c.fail-in-None.ensures (quotient_refused c.args.x c.args.y (λ e. c.if-y-eq0.false (ap (of_z w128) e)) (none.0 refl))
