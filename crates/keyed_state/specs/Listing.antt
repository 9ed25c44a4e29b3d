-- The entries of the table, as they are listed.
use Rattle.std.specs.Prelude.{List}
use Rattle.std.specs.Coded.{Coded, coded_list}
use Rattle.sf_value.specs.declared.value.Ref.{Ref}
use Rattle.sf_value.specs.declared.value.Record.{Record}
use Rattle.sf_value.specs.declared.Held.{Held}
use Rattle.sf_value.specs.contracts.Held as row

abbrev pub held_of : Ref × Record → Held
held_of e = record { at = e.0; fields = e.1 }

abbrev pub listed_code : Coded (List Held)
listed_code = coded_list row.the_row.coded
