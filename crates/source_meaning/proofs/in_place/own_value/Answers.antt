use Rattle.std.proofs.Common.{[], ap, sym, ◌∙◌}
use Rattle.std.specs.Prelude.{unwrap_or}
use Rattle.std.specs.Option.{option_copied}
use Rattle.sf_value.specs.declared.value.Value.TheVariants as value
use Rattle.sf_value.specs.Keys.{key_of}
use Rattle.program_meaning.specs.ClassTables.{fields_of}
use Rattle.program_meaning.specs.World.{field_value}
use Rattle.program_meaning.specs.Sources.{source_of}
use Rattle.source_meaning.proofs.VarLaws.{no_field}
use Rattle.source_meaning.proofs.in_place.own_value.Goals as goal

pub returns-in_err-fields : goal.returns-in_err-fields
returns-in_err-fields c =
    let fields = fields_of (source_of c.args.site.now.program.now) (key_of c.args.site.now.me.now).0 in
    ap (λ o. unwrap_or (option_copied o) value.Nil) c.from_residual.ensures
    ∙ sym (ap (λ o. field_value fields (unwrap_or o []) c.args.name.0) (sym c.in_err-fields.ensures) ∙ no_field fields c.args.name.0)
