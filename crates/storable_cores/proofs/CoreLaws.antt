-- A core that can be written can be so behind an arrival, behind a batch, and behind a batch that is run again.
use Rattle.std.proofs.Common.{◌≡◌, ℕ, ◌+◌, ◌-◌, ◌≤◌, List, [], ◌∷◌, ◌++◌, length, drop, sym, ap, ◌∙◌, subst, arith}
use Rattle.std.specs.FinMap as map
use Rattle.std.specs.List.{AllByRecursion}
use Rattle.std.proofs.Math.ListN.{drop_of_length-le}
use Rattle.std.proofs.lemmas.List.{length-append, drop-append-le}
use Rattle.std.proofs.lemmas.Option.{none-some}
use Rattle.py_tree.specs.ClassRules.{PlainTable, tables_of}
use Rattle.sf_value.specs.Keys.{key_cmp}
use Rattle.sf_value.specs.declared.BatchRecord.{BatchRecord}
use Rattle.sf_value.specs.declared.Request.{Request}
use Rattle.byte_sizes.specs.Sizes.{request_size}
use Rattle.byte_sizes.specs.Spelt.{IsSpeltEntry, IsSpeltRequest}
use Rattle.program_meaning.specs.ClassTables.{Source}
use Rattle.program_meaning.specs.NothingGoesWrong.{IsKnownAccepted}
use Rattle.request_history.specs.SoundHistory.{RequestFits}
use Rattle.engine.specs.declared.arrival.Arrival.{Arrival}
use Rattle.engine.specs.declared.arrival.Arrival.TheVariants as arrival
use Rattle.engine.specs.Arrivals.{arrival_of, joined, counted}
use Rattle.engine.specs.Batches.{requests_at, other_places, batch_entries, after_batch}
use Rattle.engine.specs.Cores.{Core, CoreFits}
use Rattle.engine.specs.Replays.{with_news, listed, serial_entries, replayed, BatchFits}
use Rattle.engine.proofs.PlaceLaws.{each_at}
use Rattle.storable_cores.specs.Storable.{most_bytes, news_of, IsSpeltCore, IsStorable}
use Rattle.storable_cores.specs.StorableLaws.{EmptyIsStorable, ArrivalsAreStorable, BatchesAreStorable, ReplaysAreStorable}
use Rattle.storable_cores.proofs.Lists.{each_joined}
use Rattle.storable_cores.proofs.FittingThings.{state_short}
use Rattle.storable_cores.proofs.RunLaws.{IsKept, entries_spelt, state_behind, state_behind_entries, replay_spelt}

-- a request of a line takes so few bytes
abbrev IsOfLine : Request → Type 0
IsOfLine r = request_size r ≤ most_bytes

-- no request came since the last batch
pub none_fresh : (core : Core) → IsSpeltCore core → IsStorable core 0
none_fresh core spelt = record {
  spelt = spelt;
  among = omega arith;
  news = subst (AllByRecursion IsOfLine) (sym (drop_of_length-le core.pending (omega arith))) tt;
}

pub empty_is_storable : EmptyIsStorable
empty_is_storable = record {
  spelt = record { entries = tt; state = λ at fields there. absurd (none-some fields (sym (map.get-empty key_cmp at) ∙ there)); requests = tt };
  among = omega arith;
  news = tt;
}

-- ---- one request more

module _ (core : Core) (fresh : ℕ) (r : Request) (among : fresh ≤ length core.pending) where
  news_more : drop (length (core.pending ++ r ∷ []) - (fresh + 1)) (core.pending ++ r ∷ []) ≡ news_of core fresh ++ r ∷ []
  news_more =
      let count : length (core.pending ++ r ∷ []) - (fresh + 1) ≡ length core.pending - fresh = omega (arith, length-append core.pending (r ∷ [])) in
      ap (λ n. drop n (core.pending ++ r ∷ [])) count ∙ drop-append-le (length core.pending - fresh) core.pending (r ∷ []) (omega arith)

pub arrivals_are_storable : ArrivalsAreStorable
arrivals_are_storable core fresh r storable spelling = by (arrival_of core r)
  where
    by : (met : Arrival) → IsStorable (joined core r met) (counted fresh met)
    by arrival.New = record {
      spelt = record {
        entries = storable.spelt.entries;
        state = storable.spelt.state;
        requests = each_joined IsSpeltRequest core.pending (r ∷ []) storable.spelt.requests (spelling.spelt.0, tt);
      };
      among = omega (arith, storable.among, length-append core.pending (r ∷ []));
      news =
          subst (AllByRecursion IsOfLine) (sym (news_more core fresh r storable.among))
          (each_joined IsOfLine (news_of core fresh) (r ∷ []) storable.news (spelling.short, tt));
    }
    by (arrival.Again place) = storable
    by arrival.Waiting = storable
    by arrival.Reused = storable

-- ---- a batch

module _ (src : Source) (accepted : IsKnownAccepted src.names src.program) (core : Core) where
  abbrev tables : List PlainTable
  tables = tables_of src.names src.program

  kept : CoreFits tables core → IsSpeltCore core → IsKept src accepted core.state
  kept fits spelt = record { fits = fits.state; short = state_short core.state spelt.state }

  batch_spelt : (committed : List ℕ) → CoreFits tables core → IsSpeltCore core → IsSpeltCore (after_batch src core committed)
  batch_spelt committed fits spelt =
      let chosen = requests_at core.pending committed in
      let fit = each_at (RequestFits tables) core.pending fits.pending.requests committed in
      let own = kept fits spelt in
      let new = entries_spelt src accepted core.state own chosen fit (each_at IsSpeltRequest core.pending spelt.requests committed) in
      record {
        entries = each_joined IsSpeltEntry core.history (batch_entries src core committed) spelt.entries new;
        state = state_behind_entries src accepted core.state own chosen fit;
        requests = each_at IsSpeltRequest core.pending spelt.requests (other_places (length core.pending) committed);
      }

  replayed_spelt : (batch : BatchRecord) → CoreFits tables core → BatchFits tables core batch → AllByRecursion IsSpeltRequest batch.news → IsSpeltCore core
      → IsSpeltCore (replayed src core batch)
  replayed_spelt batch fits good news spelt =
      let waiting = (with_news core batch).pending in
      let chosen = listed core batch in
      let all_fit = each_joined (RequestFits tables) core.pending batch.news fits.pending.requests good.requests in
      let all_spelt = each_joined IsSpeltRequest core.pending batch.news spelt.requests news in
      let fit = each_at (RequestFits tables) waiting all_fit batch.committed in
      let own = kept fits spelt in
      let new = replay_spelt src accepted chosen core.state own fit (each_at IsSpeltRequest waiting all_spelt batch.committed) in
      record {
        entries = each_joined IsSpeltEntry core.history (serial_entries src core.state chosen) spelt.entries new;
        state = state_behind src accepted core.state own chosen fit;
        requests = each_at IsSpeltRequest waiting all_spelt (other_places (length waiting) batch.committed);
      }

pub batches_are_storable : BatchesAreStorable
batches_are_storable src core fresh committed accepted fits storable =
    none_fresh (after_batch src core committed) (batch_spelt src accepted core committed fits storable.spelt)

pub replays_are_storable : ReplaysAreStorable
replays_are_storable src core batch accepted fits good read storable =
    none_fresh (replayed src core batch) (replayed_spelt src accepted core batch fits good read.0.0.1 storable.spelt)
