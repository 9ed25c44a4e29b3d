use Rattle.std.proofs.Common.{ap, sym, ◌∙◌}
use Rattle.std.specs.Option.{ok_or}
use Rattle.program_meaning.specs.Sources.{source_of}
use Rattle.request_json.specs.declared.fault.LineFault.TheVariants.{ArgumentType}
use Rattle.request_json.proofs.ArgLaws.{same_count, other_count}
use Rattle.request_json.proofs.arguments.arguments_of.Goals as goal

pub returns-then-items-params : goal.returns-then-items-params
returns-then-items-params c = other_count (source_of c.args.program.now) c.args.params.now c.args.items.now c.if-items-params.true

pub returns-in-Some : goal.returns-in-Some
returns-in-Some c = same_count (source_of c.args.program.now) c.args.params.now c.args.items.now c.if-items-params.false ∙ ap (λ o. ok_or o ArgumentType) (sym c.in_ok-made.ensures ∙ c.in-Some.is)

pub returns-in-None : goal.returns-in-None
returns-in-None c = same_count (source_of c.args.program.now) c.args.params.now c.args.items.now c.if-items-params.false ∙ ap (λ o. ok_or o ArgumentType) (sym c.in_ok-made.ensures ∙ c.in-None.is)
