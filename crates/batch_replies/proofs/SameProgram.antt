-- What stays where an engine runs the same program.
use Rattle.std.proofs.Common.{refl, sym, ◌∙◌, subst}
use Rattle.program_meaning.specs.ClassTables.{Source}
use Rattle.block_step.specs.CompiledViews.{IsWhole}
use Rattle.batch_output.specs.Vocabulary.{Engine, Core, CoreFits, GrowsSerially, source_of, tables_of, compiled_of, limit_of, RunsProgram}
use Rattle.session_store.proofs.StoreLaws.{same_source}

pub runs_itself : (e : Engine) → RunsProgram e (compiled_of e) (limit_of e)
runs_itself e = record { compiled_is = refl; limit_is = refl }

module _ (old new : Engine) (runs : RunsProgram new (compiled_of old) (limit_of old)) where
  pub whole_on : IsWhole (compiled_of old) → IsWhole (compiled_of new)
  whole_on = subst IsWhole (sym runs.compiled_is)

  pub fits_on : (core : Core) → CoreFits (tables_of old) core → CoreFits (tables_of new) core
  fits_on core fits = rw runs.compiled_is fits

  pub fits_back : (core : Core) → CoreFits (tables_of new) core → CoreFits (tables_of old) core
  fits_back core fits = rw runs.compiled_is at fits

  pub grows_back : (core last : Core) → GrowsSerially (source_of new) core last → GrowsSerially (source_of old) core last
  grows_back core last = subst (λ (s : Source). GrowsSerially s core last) (sym (same_source old new runs))

  pub runs_on : (last : Engine) → RunsProgram last (compiled_of new) (limit_of new) → RunsProgram last (compiled_of old) (limit_of old)
  runs_on last more = record { compiled_is = more.compiled_is ∙ runs.compiled_is; limit_is = more.limit_is ∙ runs.limit_is }
