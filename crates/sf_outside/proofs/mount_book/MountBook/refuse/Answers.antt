use Rattle.std.proofs.Common.{◌≡◌, List, ◌++◌, ◌∷◌, [], None, Some, bytes_eq, ap, sym, ◌∙◌, subst, refl}
use Rattle.std.specs.Prelude.{string_bytes}
use Rattle.std.specs.List.{position}
use Rattle.std.specs.Option.{option_map}
use Rattle.sf_outside.specs.Causes.{next_count}
use Rattle.sf_outside.specs.MountState.{RefusedName, MountState, refusals_of, with_refusal}
use Rattle.sf_outside.proofs.Refusals.{Refused, refused_again, refused_first, names_again, names_first, NotMounted-refused}
use Rattle.sf_outside.proofs.mount_book.MountBook.refuse.Goals as goal

pub returns-in-Some-clause-refused : goal.returns-in-Some-clause-refused
returns-in-Some-clause-refused c =
    let found = subst (λ book. Some c.in-Some.place ≡ position (λ refused. bytes_eq refused.name c.args.name.now) book.refusals) (sym c.self.view_is) c.in-Some.ensures in
    rw (← c.self.view_is) (NotMounted-refused _ _ c.args.name.now refl refl refl
    (refused_again c.self.inside.refusals.items c.args.name.now c.in-Some.place c.index_mut.result.now c.again.new.self found c.index_mut.ensures.value c.again.ensures.counted c.again.ensures.later))

pub returns-in-Some-clause-ok : goal.returns-in-Some-clause-ok
returns-in-Some-clause-ok c =
    let found = subst (λ book. Some c.in-Some.place ≡ position (λ refused. bytes_eq refused.name c.args.name.now) book.refusals) (sym c.self.view_is) c.in-Some.ensures in
    (refused_again c.self.inside.refusals.items c.args.name.now c.in-Some.place c.index_mut.result.now c.again.new.self found c.index_mut.ensures.value c.again.ensures.counted c.again.ensures.later).counted
    ∙ ap (λ book. next_count (refusals_of book.refusals c.args.name.now)) c.self.view_is

pub returns-clause-refused : goal.returns-clause-refused
returns-clause-refused c =
    let added : c.push.new.self.items ≡ c.self.inside.refusals.items ++ record { name = c.args.name.now; count = 1 } ∷ [] = c.in_ok-push.ensures.items ∙ ap (λ made. c.self.inside.refusals.items ++ made ∷ []) c.in_ok-new.ensures in
    let absent = subst (λ book. None ≡ position (λ refused. bytes_eq refused.name c.args.name.now) book.refusals) (sym c.self.view_is) c.in_default.ensures in
    rw (← c.self.view_is) (NotMounted-refused _ _ c.args.name.now refl refl refl
    (subst (λ new. Refused c.self.inside.refusals.items new c.args.name.now) (sym added) (refused_first c.self.inside.refusals.items c.args.name.now absent)))

pub returns-clause-ok : goal.returns-clause-ok
returns-clause-ok c =
    let added : c.push.new.self.items ≡ c.self.inside.refusals.items ++ record { name = c.args.name.now; count = 1 } ∷ [] = c.in_ok-push.ensures.items ∙ ap (λ made. c.self.inside.refusals.items ++ made ∷ []) c.in_ok-new.ensures in
    let absent = subst (λ book. None ≡ position (λ refused. bytes_eq refused.name c.args.name.now) book.refusals) (sym c.self.view_is) c.in_default.ensures in
    ap (λ refusals. refusals_of refusals c.args.name.now) added ∙ (refused_first c.self.inside.refusals.items c.args.name.now absent).counted
    ∙ ap (λ book. next_count (refusals_of book.refusals c.args.name.now)) c.self.view_is

pub returns-in-Some-clause-exact : goal.returns-in-Some-clause-exact
returns-in-Some-clause-exact c =
    let found = subst (λ book. Some c.in-Some.place ≡ position (λ refused. bytes_eq refused.name c.args.name.now) book.refusals) (sym c.self.view_is) c.in-Some.ensures in
    let names = names_again c.self.inside.refusals.items c.args.name.now c.in-Some.place c.index_mut.result.now c.again.new.self found c.index_mut.ensures.value c.again.ensures.counted in
    let book_of : List RefusedName → MountState = λ refusals. record { count = c.self.inside.count; name = option_map string_bytes c.self.inside.name; moment = c.self.inside.moment; refusals = refusals } in
    ap book_of names ∙ ap (λ book. with_refusal book c.args.name.now) c.self.view_is

pub returns-clause-exact : goal.returns-clause-exact
returns-clause-exact c =
    let added : c.push.new.self.items ≡ c.self.inside.refusals.items ++ record { name = c.args.name.now; count = 1 } ∷ [] = c.in_ok-push.ensures.items ∙ ap (λ made. c.self.inside.refusals.items ++ made ∷ []) c.in_ok-new.ensures in
    let absent = subst (λ book. None ≡ position (λ refused. bytes_eq refused.name c.args.name.now) book.refusals) (sym c.self.view_is) c.in_default.ensures in
    let names = added ∙ names_first c.self.inside.refusals.items c.args.name.now absent in
    let book_of : List RefusedName → MountState = λ refusals. record { count = c.self.inside.count; name = option_map string_bytes c.self.inside.name; moment = c.self.inside.moment; refusals = refusals } in
    ap book_of names ∙ ap (λ book. with_refusal book c.args.name.now) c.self.view_is
