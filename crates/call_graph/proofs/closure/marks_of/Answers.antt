use Rattle.std.proofs.Common.{true, length, sym, ap, subst, ◌∙◌}
use Rattle.std.proofs.lemmas.List.{length-set}
use Rattle.call_graph.specs.Marks.{IsNext}
use Rattle.call_graph.proofs.ClosureLaws.{AreSound, sound_more}
use Rattle.call_graph.proofs.closure.marks_of.Goals as goal

pub loop-i-preserved : goal.loop-i-preserved
loop-i-preserved c =
    let rows = c.args.rows.now in
    let next : IsNext rows c.loop-i.marks c.in-Some.i = subst (λ marks. IsNext rows marks c.in-Some.i) c.as_slice.ensures c.in-Some.ensures.some in
    record {
      each = ap length c.set.ensures ∙ length-set c.loop-i.marks c.in-Some.i true ∙ c.loop-i.invariant.each;
      so_far = subst (AreSound rows) (sym c.set.ensures) (sound_more rows c.loop-i.marks c.in-Some.i c.loop-i.invariant.each c.loop-i.invariant.so_far next);
    }
