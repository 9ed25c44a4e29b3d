use Rattle.std.proofs.Common.{◌∙◌, ◌++◌, refl, sym, ap, subst, arith, length, take, drop}
use Rattle.std.proofs.lemmas.List.{length-take, length-append, take-append-le}
use Rattle.stateflow_cli.specs.Loading.{MayBegin}
use Rattle.stateflow_cli.proofs.LoadLaws.{MayBegin-none, read_more, kept_at_first, kept_then}
use Rattle.stateflow_cli.proofs.loading.read_first.Goals as goal

pub loop-piece-preserved : goal.loop-piece-preserved
loop-piece-preserved g c =
    let room = length-take c.room_for-room.result c.loop-piece.piece in
    let bound = c.in_ok-count.ensures.bound in
    let front = take-append-le c.in_ok-count.count c.read_at.new.buf (drop c.room_for-room.result c.loop-piece.piece) bound.0 in
    record {
      begins = read_more _ _ _ c.loop-piece.text.items c.read_at.new.buf (drop c.room_for-room.result c.loop-piece.piece) _ _ c.in_ok-count.count c.loop-piece.invariant.begins c.loop-piece.invariant.kept (omega (arith, c.len-in-loop-piece-2.ensures, c.loop-piece.text.ok)) c.in_ok-count.ensures.bytes bound.0 c.in_ok-extend_from_slice.ensures.items;
      within = omega (arith, ap length c.in_ok-extend_from_slice.ensures.items, ap length front, length-append c.loop-piece.text.items (take c.in_ok-count.count (c.read_at.new.buf ++ drop c.room_for-room.result c.loop-piece.piece)), bound.0, bound.1, c.read_at.auto.buf, room, c.room_for-room.ensures.value, c.loop-piece.invariant.within);
      kept = c.in_ok-count.ensures.kept _ ∙ c.loop-piece.invariant.kept;
      later = omega (arith, c.loop-piece.invariant.later, c.read_at.ensures.cause.later);
      stays = kept_then _ _ _ _ _ _ c.loop-piece.invariant.stays c.read_at.ensures.kept c.read_at.ensures.later;
    }

pub loop-piece-init : goal.loop-piece-init
loop-piece-init g c =
    let content = g.F.Files.content c.args.files.now c.args.name.now in
    record {
      begins = subst (λ text. MayBegin content (length text) text) (sym c.new-text.ensures.items) (MayBegin-none content);
      within = omega (arith, ap length c.new-text.ensures.items);
      kept = refl;
      later = omega arith;
      stays = kept_at_first _ _;
    }

pub returns-in_err-count-clause-stays : goal.returns-in_err-count-clause-stays
returns-in_err-count-clause-stays g c = kept_then _ _ _ _ _ _ c.loop-piece.invariant.stays c.read_at.ensures.kept c.read_at.ensures.later

pub returns-then-count-eq0-clause-stays : goal.returns-then-count-eq0-clause-stays
returns-then-count-eq0-clause-stays g c = kept_then _ _ _ _ _ _ c.loop-piece.invariant.stays c.read_at.ensures.kept c.read_at.ensures.later

pub returns-in_err-extend_from_slice-clause-stays : goal.returns-in_err-extend_from_slice-clause-stays
returns-in_err-extend_from_slice-clause-stays g c = kept_then _ _ _ _ _ _ c.loop-piece.invariant.stays c.read_at.ensures.kept c.read_at.ensures.later

pub returns-clause-stays : goal.returns-clause-stays
returns-clause-stays g c = c.loop-piece.invariant.stays
