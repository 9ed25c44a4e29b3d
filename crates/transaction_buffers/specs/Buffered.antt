-- What a transaction buffers: its own records, over those of the snapshot, and the entities that it has read and written.
use Rattle.std.specs.Prelude.{if◌then◌else◌, Bool, List, refl}
use Rattle.std.specs.declared.option.Option.{Option}
use Rattle.std.specs.Option.{option_or}
use Rattle.std.specs.Coded.{Coded, coded_ℕ, coded×, coded_list, code_by}
use Rattle.std.specs.FinMap as finite
use Rattle.std.specs.FinSet as set
use Rattle.sf_value.specs.Keys.{Key}
use Rattle.sf_value.specs.declared.value.Value.{Value}
use Rattle.keyed_state.specs.Contents.{Contents, contents_code}
use Rattle.keyed_state.specs.Works.{Keys}
use Rattle.request_events.specs.RequestEvents.{with_left}

pub record Buffered : Type 0 where
  pub own : Contents
  pub reads : Keys
  pub writes : Keys

abbrev pub keys_code : Coded Keys
keys_code = set.code (coded× coded_ℕ (coded_list coded_ℕ))

abbrev pub buffered_code : Coded Buffered
buffered_code =
    code_by (Contents × (Keys × Keys)) (coded× contents_code (coded× keys_code keys_code)) (λ b. (b.own, (b.reads, b.writes)))
    (λ p. record { own = p.0; reads = p.1.0; writes = p.1.1 }) (λ _. refl)

-- nothing is done yet
abbrev pub no_buffers : Buffered
no_buffers = record { own = finite.empty; reads = set.empty; writes = set.empty }

-- the record of an entity as the transaction sees it: its own, or else the snapshot's
abbrev pub seen : Contents → Buffered → Key → Option (List Value)
seen snapshot b at = option_or (finite.get b.own at) (finite.get snapshot at)

-- an event of an entity was handled besides: the entity is read, its record is what the event left, and it counts as written where the
-- event wrote it
abbrev pub noted : Buffered → Key → Option (List Value) → Bool → Buffered
noted b at held wrote = record {
  own = with_left b.own at held;
  reads = set.insert b.reads at;
  writes = if wrote then set.insert b.writes at else b.writes;
}
