use Rattle.std.proofs.Common.{◌∷◌, [], rules, sym, ap, ◌∙◌, subst}
use Rattle.sf_value.specs.declared.value.Value.TheFolds.{the_lemmas}
use Rattle.sf_bytes.specs.ByteForms.{text_bytes, ref_bytes, value_bytes, values_bytes}
use Rattle.sf_bytes.proofs.Layers.{on_ok, bytes-List, list_real, short_values}
use Rattle.sf_bytes.proofs.writing.+value.Goals as goal

pub put_value-put_values-requires : goal.put_value-put_values-requires
put_value-put_values-requires g t c κs within = (search (rules, the_lemmas), (within.0, (within.1.0, (within.1.1, short_values _ _ _ c.in-List.is c.as_slice.ensures c.requires))))

pub put_value-returns-in_ok-put-in-Str-clause-all : goal.put_value-returns-in_ok-put-in-Str-clause-all
unfolding value_bytes
put_value-returns-in_ok-put-in-Str-clause-all g t c =
    let puts = g.O.Out.puts in
    let out = c.put-in-Str.new.self in
    let on = c.put-in-Str.new.on in
    on_ok c.put_text.result
    (λ rest. subst (λ v. puts c.args.out.now c.args.on.now c.put_text.new.out c.put_text.new.on (value_bytes v)) (sym c.in-Str.is)
    (g.met.O.Out.next c.args.out.now c.args.on.now out on c.put_text.new.out c.put_text.new.on (4 ∷ []) (text_bytes c.in-Str.text) c.in_ok-put-in-Str.ensures.all rest)) c.put_text.ensures.all

pub put_value-returns-in_ok-put-in-Entity-clause-all : goal.put_value-returns-in_ok-put-in-Entity-clause-all
unfolding value_bytes
put_value-returns-in_ok-put-in-Entity-clause-all g t c =
    let puts = g.O.Out.puts in
    let out = c.put-in-Entity.new.self in
    let on = c.put-in-Entity.new.on in
    on_ok c.put_ref.result
    (λ rest. subst (λ v. puts c.args.out.now c.args.on.now c.put_ref.new.out c.put_ref.new.on (value_bytes v)) (sym c.in-Entity.is)
    (g.met.O.Out.next c.args.out.now c.args.on.now out on c.put_ref.new.out c.put_ref.new.on (6 ∷ []) (ref_bytes c.in-Entity.at) c.in_ok-put-in-Entity.ensures.all rest)) c.put_ref.ensures.all

pub put_value-returns-in_ok-put-in-List-clause-all : goal.put_value-returns-in_ok-put-in-List-clause-all
put_value-returns-in_ok-put-in-List-clause-all g t c =
    let puts = g.O.Out.puts in
    let out = c.put-in-List.new.self in
    let on = c.put-in-List.new.on in
    let items = c.as_slice.result.now in
    let is = ap value_bytes c.in-List.is ∙ bytes-List c.in-List.values ∙ ap (λ l. 5 ∷ values_bytes l) (sym c.as_slice.ensures) in
    on_ok c.put_values.result
    (λ rest. subst (puts c.args.out.now c.args.on.now c.put_values.new.out c.put_values.new.on) (sym is)
    (g.met.O.Out.next c.args.out.now c.args.on.now out on c.put_values.new.out c.put_values.new.on (5 ∷ []) (values_bytes items) c.in_ok-put-in-List.ensures.all rest)) c.put_values.ensures.all

pub put_value-returns-in_ok-put-in-List-clause-real : goal.put_value-returns-in_ok-put-in-List-clause-real
put_value-returns-in_ok-put-in-List-clause-real g t c = list_real _ _ _ _ c.in-List.is c.as_slice.ensures c.put_values.ensures.real
