-- Where code of the interpreter runs, as the meaning has it.
use Rattle.sf_value.specs.Keys.{Key, key_of}
use Rattle.source_meaning.specs.declared.site.Room.{Room}
use Rattle.source_meaning.specs.declared.site.Room.TheVariants as room
use Rattle.source_meaning.specs.declared.site.Site.{Site}
use Rattle.program_meaning.specs.ClassTables.{Source}
use Rattle.program_meaning.specs.World.{World, Calls}
use Rattle.program_meaning.specs.Evaluation as meaning
use Rattle.program_meaning.specs.Calls.{no_calls, calls_within, calls_at, own_at}
use Rattle.program_meaning.specs.Sources.{source_of}

abbrev pub calls_of : Source → Key → Room → Calls World
calls_of src me room.Closed = no_calls
calls_of src me (room.Within d) = calls_within (own_at me) src me d
calls_of src me (room.Open d) = calls_at src d

abbrev pub site_of : Site → meaning.Site World
site_of s = record { src = source_of s.program.now; own = own_at (key_of s.me.now); calls = calls_of (source_of s.program.now) (key_of s.me.now) s.room; me = key_of s.me.now }
