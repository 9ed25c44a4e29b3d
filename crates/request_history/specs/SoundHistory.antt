-- What makes a history sound, and what its entries have to fit.
use Rattle.std.specs.Prelude.{◌≤◌, ℕ, List, [], ◌∷◌, length, ⊤}
use Rattle.std.specs.Str.{encode_utf8_all}
use Rattle.py_tree.specs.ClassRules.{PlainTable, tables_of}
use Rattle.sf_value.specs.declared.Entry.{Entry}
use Rattle.sf_value.specs.declared.Request.{Request}
use Rattle.program_meaning.specs.ClassTables.{Source}
use Rattle.program_meaning.specs.Fits.{ActFits, OutcomeFits}
use Rattle.program_meaning.specs.Serial.{Core, IsSound}

-- an id has 1 to 64 bytes
pub record IdFits (id : List ℕ) : Type 0 where
  pub some : 1 ≤ length (encode_utf8_all id)
  pub few : length (encode_utf8_all id) ≤ 64

-- a request fits: its id, and what it asks for
pub record RequestFits (tables : List PlainTable) (r : Request) : Type 0 where
  pub id : IdFits r.id
  pub act : ActFits tables r.act

-- each request fits the program, its id too
abbrev pub RequestsFit : List PlainTable → List Entry → Type 0
RequestsFit tables [] = ⊤
RequestsFit tables (e ∷ es) = RequestFits tables e.request × RequestsFit tables es

-- each request fits the program, and what it came to fits the request
abbrev pub EntriesFit : List PlainTable → List Entry → Type 0
EntriesFit tables [] = ⊤
EntriesFit tables (e ∷ es) = RequestFits tables e.request × OutcomeFits tables e.request.act e.outcome × EntriesFit tables es

-- a history of a program is sound: it is the serial run of its requests, each id once, and each request fits the program
pub record IsSoundHistory (src : Source) (core : Core) : Type 0 where
  pub run : IsSound src core
  pub requests : RequestsFit (tables_of src.names src.program) core.history
