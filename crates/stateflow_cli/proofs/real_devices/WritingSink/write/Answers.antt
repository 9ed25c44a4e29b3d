use Rattle.std.proofs.Common.{length, take, ap, arith, sym, subst, length-drop}
use Rattle.std.proofs.lemmas.List.{take_rest}
use Rattle.std.proofs.Math.Seq.{take-add}
use Rattle.std.proofs.KnownBytes.{Appends-trans}
use Rattle.std.specs.Io.KnownBytes.{Appends}
use Rattle.stateflow_cli.proofs.real_devices.WritingSink.write.Goals as goal

pub loop-written-preserved : goal.loop-written-preserved
loop-written-preserved g c =
    let rest = take_rest c.args.bytes.now c.loop-written.written in
    record {
      wrote = subst (Appends (g.W.Write.contents c.args.self.now.inner) (g.W.Write.contents c.write.new.self)) (sym (take-add c.loop-written.written c.in-Ok.count c.args.bytes.now))
          (Appends-trans _ _ _ _ _ c.loop-written.invariant.wrote
          (subst (λ l. Appends (g.W.Write.contents c.loop-written.self.inner) (g.W.Write.contents c.write.new.self) (take c.in-Ok.count l)) rest c.in-Ok.ensures.bytes));
      within = omega (arith, c.loop-written.invariant.within, c.in-Ok.ensures.bound, ap length rest, length-drop c.loop-written.written c.args.bytes.now);
      later = omega (arith, c.loop-written.invariant.later);
    }
