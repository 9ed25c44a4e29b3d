use Rattle.std.proofs.Common.{List, ◌++◌, ◌∷◌, [], map, sym, ap, ◌∙◌, subst, arith}
use Rattle.std.proofs.lemmas.List.{map-append}
use Rattle.py_tree.specs.PlainExpressions.{plain_expr}
use Rattle.source_meaning.specs.declared.trailers.Trailer.{Trailer}
use Rattle.program_meaning.specs.Trailers.{PlainTrailer, EndsWith, bare, behind}
use Rattle.source_meaning.specs.TrailerViews.{plain_trailer}
use Rattle.program_meaning.proofs.TrailerLaws.{trailer_part, further}
use Rattle.source_meaning.proofs.trailers.chain_of.Goals as goal

pub loop-on-init : goal.loop-on-init
loop-on-init c =
    let x = plain_expr c.args.expr.now in
    let on = plain_expr c.args.on.now in
    let first = c.in_ok-push.ensures.items ∙ ap (λ ts. ts ++ c.args.last ∷ []) c.new-trailers.ensures.items in
    record {
      chain = subst (λ (ts : List Trailer). EndsWith x (map plain_trailer ts) on) (sym first) (behind c.requires bare);
      smaller = let h = trailer_part x on (plain_trailer c.args.last) c.requires in omega arith;
    }

pub loop-on-preserved : goal.loop-on-preserved
loop-on-preserved c =
    let x = plain_expr c.args.expr.now in
    let y = plain_expr c.loop-on.innermost.now in
    let on = plain_expr c.in-Some.on.now in
    let t = plain_trailer c.in-Some.trailer in
    let more = ap (map plain_trailer) c.in_ok-push-2.ensures.items ∙ map-append plain_trailer c.loop-on.trailers.items (c.in-Some.trailer ∷ []) in
    record {
      chain = subst (λ (ts : List PlainTrailer). EndsWith x ts on) (sym more) (further x y on t (map plain_trailer c.loop-on.trailers.items) c.loop-on.invariant.chain c.in-Some.ensures);
      smaller = let h = trailer_part y on t c.in-Some.ensures in omega (arith, c.loop-on.invariant.smaller);
    }

pub loop-on-smaller : goal.loop-on-smaller
loop-on-smaller c = let h = trailer_part (plain_expr c.loop-on.innermost.now) (plain_expr c.in-Some.on.now) (plain_trailer c.in-Some.trailer) c.in-Some.ensures in omega arith
