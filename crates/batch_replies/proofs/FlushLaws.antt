-- What is handed on of an output stays so, over one call and over several.
use Rattle.std.proofs.Common.{◌≡◌, ℕ, List, [], ◌++◌, Ok, Err, sym, subst}
use Rattle.std.specs.declared.option.Option.{Option}
use Rattle.std.specs.declared.result.Result.{Result}
use Rattle.std.proofs.KnownBytes.{Appends-nil, Appends-trans}
use Rattle.batch_replies.specs.Flushing.{StaysHanded, Flushes}

pub stays_none : (a : Option (List ℕ)) → StaysHanded a a
stays_none a = ([], Appends-nil a)

pub stays_then : (a b c : Option (List ℕ)) → StaysHanded a b → StaysHanded b c → StaysHanded a c
stays_then a b c first rest = (first.0 ++ rest.0, Appends-trans a b c first.0 rest.0 first.1 rest.1)

-- a call that stopped needn't have flushed
pub stopped : {T E : Type 0} (r : Result T E) (stop : E) (a b held : Option (List ℕ)) → r ≡ Err stop → StaysHanded a b → Flushes r a b held
stopped {T} {E} r stop a b held is stays = subst (λ (x : Result T E). Flushes x a b held) (sym is) (record { stays = stays; all = tt })

-- nor one that didn't touch it
pub untouched : {T E : Type 0} (stop : E) (a held : Option (List ℕ)) → Flushes {T = T} (Err stop) a a held
untouched stop a held = record { stays = stays_none a; all = tt }

-- a call that stays behind another
pub flushes_then : {T E : Type 0} (r : Result T E) (a b c held : Option (List ℕ)) → StaysHanded a b → Flushes r b c held → Flushes r a c held
flushes_then r a b c held stays rest = record { stays = stays_then a b c stays rest.stays; all = rest.all }
