-- What contracts see of an engine.
use Rattle.std.specs.Prelude.{◌≡◌, ℕ, List}
use Rattle.py_tree.specs.ClassRules.{PlainTable}
use Rattle.py_tree.specs.ClassRules as rules
use Rattle.program_meaning.specs.ClassTables.{Source}
use Rattle.quiet_methods.specs.MarksKeepWithin.{source}
use Rattle.block_step.specs.declared.compiled.Compiled.{Compiled}
use Rattle.block_step.specs.CompiledViews.{compiled_program, compiled_names}
use Rattle.engine.specs.declared.engine.Engine.{Engine}
use Rattle.engine.specs.Cores.{Core}

abbrev pub core_of : Engine → Core
core_of e = record { history = e.history.entries; state = e.state.contents; pending = e.pending }

abbrev pub program_tables : Compiled → List PlainTable
program_tables compiled = rules.tables_of (compiled_names compiled) (compiled_program compiled)

-- the program that it runs
abbrev pub source_of : Engine → Source
source_of e = source (compiled_names e.compiled) (compiled_program e.compiled)

abbrev pub tables_of : Engine → List PlainTable
tables_of e = program_tables e.compiled

-- what it was made with, and how many entries its history may have
abbrev pub compiled_of : Engine → Compiled
compiled_of e = e.compiled

abbrev pub limit_of : Engine → ℕ
limit_of e = e.limit

-- how many of the last requests that wait came since the last batch
abbrev pub fresh_of : Engine → ℕ
fresh_of e = e.fresh

-- it runs this program, and its history may have so many entries
pub record RunsProgram (e : Engine) (compiled : Compiled) (limit : ℕ) : Type 0 where
  pub compiled_is : e.compiled ≡ compiled
  pub limit_is : e.limit ≡ limit
