-- A choice by a list tells each start and each pick.
use Rattle.std.proofs.Common.{◌≡◌, ℕ, suc, arith, ◌+◌, Bool, true, false, true≢false, List, [], ◌∷◌, ◌++◌, Option, Some, refl, sym, ap, subst, ◌∙◌}
use Rattle.sf_outside.specs.Choices.{Begins, ListState, Picks, pick_at, picked, told_by}

pub began : (list asked then : List ℕ) (number starts taken later : ℕ) (given : Option ℕ) (b : Bool) → later ≡ starts + 1 → then ≡ []
    → Begins (told_by (record { list = list; starts = starts; number = given; asked = asked; taken = taken; exact = b })) number
    (told_by (record { list = list; starts = later; number = Some number; asked = then; taken = 0; exact = b }))
unfolding picked
began list asked then number starts taken later given true is none =
    ap (λ n. record { starts = n; number = Some number; asked = then; picks = [] }) is ∙ ap (λ l. record { starts = starts + 1; number = Some number; asked = l; picks = [] }) none
began list asked then number starts taken later given false is none = record {}

-- what was asked is noted and the picks are counted, or nothing is told from now on
noted_pick : (list asked then : List ℕ) (count starts taken later : ℕ) (given : Option ℕ) (b c : Bool) → (c ≡ true → later ≡ taken + 1) → (c ≡ true → (b ≡ true) × (then ≡ asked ++ count ∷ []))
    → Picks (told_by (record { list = list; starts = starts; number = given; asked = asked; taken = taken; exact = b })) count (pick_at list taken)
    (told_by (record { list = list; starts = starts; number = given; asked = then; taken = later; exact = c }))
unfolding picked
noted_pick list asked then count starts taken later given b false is noted = record {}
noted_pick list asked then count starts taken later given false true is noted = absurd (true≢false (sym (noted refl).0))
noted_pick list asked then count starts taken later given true true is noted =
    ap (λ n. record { starts = starts; number = given; asked = then; picks = picked list n }) (is refl ∙ plus_one taken)
    ∙ ap (λ l. record { starts = starts; number = given; asked = l; picks = picked list (suc taken) }) (noted refl).1
  where
    plus_one : (n : ℕ) → n + 1 ≡ suc n
    plus_one n = omega arith

-- what is asked is noted first, and then the picks are counted
pub picked_more : (old mid new : ListState) (count : ℕ) → (mid.exact ≡ true → (old.exact ≡ true) × (mid.asked ≡ old.asked ++ count ∷ [])) → mid ≡ record old { asked = mid.asked; exact = mid.exact }
    → (new.exact ≡ true → (mid.exact ≡ true) × (new.taken ≡ mid.taken + 1)) → new ≡ record mid { taken = new.taken; exact = new.exact } → Picks (told_by old) count (pick_at old.list old.taken) (told_by new)
picked_more old mid new count noted is_mid counted is_new =
    let is : new ≡ record { list = old.list; starts = old.starts; number = old.number; asked = mid.asked; taken = new.taken; exact = new.exact }
    = is_new ∙ ap (λ (s : ListState). record s { taken = new.taken; exact = new.exact }) is_mid in
    subst (λ s. Picks (told_by old) count (pick_at old.list old.taken) (told_by s)) (sym is)
    (noted_pick old.list old.asked mid.asked count old.starts old.taken new.taken old.number old.exact new.exact
    (λ e. (counted e).1 ∙ ap (λ (s : ListState). s.taken + 1) is_mid) (λ e. noted (counted e).0))
