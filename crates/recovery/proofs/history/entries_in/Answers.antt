use Rattle.std.proofs.Common.{◌≡◌, ◌+◌, ◌-◌, ◌++◌, ◌∷◌, [], length, take, drop, Ok, subst, sym, ap, arith, length-append, length-drop}
use Rattle.std.proofs.lemmas.List.{take_all}
use Rattle.sf_bytes.specs.ByteForms.{entry_bytes}
use Rattle.sf_bytes.specs.Entries.{EntriesTo}
use Rattle.sf_bytes.specs.Reads.{Reads}
use Rattle.sf_bytes.specs.Spelt.{IsReadEntry}
use Rattle.sf_bytes.proofs.Histories.{run_read}
use Rattle.recovery.proofs.NamedEntries.{one_read, read_within, run_size}
use Rattle.recovery.proofs.history.entries_in.Goals as goal

pub loop-preserved : goal.loop-preserved
loop-preserved c =
    let there = c.args.there.now in
    let at = c.loop.at in
    let entry = c.in-Some.entry in
    let count = c.in-Some.count in
    let before = c.loop.invariant in
    let rest : take (length there - at) (drop at there) ≡ drop at there = take_all (length there - at) (drop at there) (omega (arith, length-drop at there)) in
    let found = subst (λ bytes. Reads entry_bytes IsReadEntry bytes (Ok c.in_ok-entry.field-0)) rest c.in_ok-entry.ensures in
    let read = subst (λ answer. Reads entry_bytes IsReadEntry (drop at there) (Ok answer)) c.in-Some.is found in
    let more : c.push.new.self ≡ c.loop.entries ++ entry ∷ [] = c.in_ok-push.ensures.ok in
    record {
      run = subst (λ entries. EntriesTo there 0 entries (at + count)) (sym more) (one_read there at count entry read.1 c.loop.entries before.run read.0);
      count = omega (arith, ap length more, length-append c.loop.entries (entry ∷ []), before.count);
      within = read_within there at count entry read.1 before.within;
    }

pub returns-clause-entries : goal.returns-clause-entries
returns-clause-entries c =
    let size = run_size c.args.there.now c.loop.entries c.loop.at c.loop.invariant.run in (
      omega (arith, c.loop.invariant.count),
      run_read c.args.there.now 0 c.loop.entries c.loop.at c.loop.invariant.run,
      omega (arith, size, c.loop.invariant.within, c.requires),
    )
