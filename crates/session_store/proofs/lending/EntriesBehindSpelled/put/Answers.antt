use Rattle.std.proofs.Common.{◌<◌, length, take, drop, sym, subst, arith}
use Rattle.std.specs.List.{flat_map}
use Rattle.byte_sizes.specs.Spelt.{IsSpeltEntry, IsRealEntry}
use Rattle.sf_bytes.specs.ByteForms.{entry_bytes}
use Rattle.store_meaning.specs.Vocabulary.{core_of}
use Rattle.session_store.proofs.EntryLaws.{entry_of, found_holds, found_joins, found_bytes}
use Rattle.session_store.proofs.lending.EntriesBehindSpelled.put.Goals as goal

pub put_found-requires : goal.put_found-requires
put_found-requires g c =
    let within : c.loop-place.place < length (core_of c.args.self.now.engine.now).history = omega (arith, c.loop-place-test.true, c.entries-place-end.ensures) in
    found_holds (core_of c.args.self.now.engine.now).history c.args.self.now.kept c.loop-place.place c.entry.result c.loop-place.invariant.begun within c.entry.ensures IsSpeltEntry c.requires

pub loop-place-preserved : goal.loop-place-preserved
loop-place-preserved g c =
    let es = (core_of c.args.self.now.engine.now).history in
    let kept = c.args.self.now.kept in
    let i = c.loop-place.place in
    let before = c.loop-place.invariant in
    let within : i < length es = omega (arith, c.loop-place-test.true, c.entries-place-end.ensures) in
    record {
      begun = omega (arith, before.begun);
      puts = subst (λ bytes. g.O.Out.puts c.args.out.now c.args.on.now c.put_found.new.out c.put_found.new.on bytes)
          (sym (found_bytes es kept i c.entry.result before.begun within c.entry.ensures))
          (g.met.O.Out.next c.args.out.now c.args.on.now c.loop-place.out c.loop-place.on c.put_found.new.out c.put_found.new.on
          (flat_map entry_bytes (drop kept (take i es))) (flat_map entry_bytes (entry_of c.entry.result)) before.puts c.in_ok-put_found.ensures.all);
      real = found_joins es kept i c.entry.result before.begun within c.entry.ensures IsRealEntry before.real c.in_ok-put_found.ensures.real;
    }
