-- Code of which each statement leads on to the next, and code put together.
use Rattle.std.proofs.Common.{◌≡◌, true, List, [], ◌∷◌, ◌++◌, refl, sym, ◌∙◌, true≢false}
use Rattle.std.specs.Prelude.{⊤}
use Rattle.flat_tree.specs.PlainFlat.{PlainFlatStmt, flat_stmts_of}
use Rattle.flat_types.specs.DeadCode.{leads_on, HasNoDead, HaveNoDead}

-- each statement leads on, and no part of it is dead
abbrev pub AllLead : List PlainFlatStmt → Type 0
AllLead [] = ⊤
AllLead (x ∷ xs) = (leads_on x ≡ true) × HasNoDead x × AllLead xs

pub both_lead : (a b : List PlainFlatStmt) → AllLead a → AllLead b → AllLead (a ++ b)
both_lead [] b f g = g
both_lead (x ∷ a) b f g = (f.0, f.1, both_lead a b f.2 g)

pub last_leads : (a : List PlainFlatStmt) (x : PlainFlatStmt) → AllLead a → leads_on x ≡ true → HasNoDead x → AllLead (a ++ x ∷ [])
last_leads a x f leads live = both_lead a (x ∷ []) f (leads, live, tt)

-- code behind code that leads there
pub live_both : (a b : List PlainFlatStmt) → AllLead a → HaveNoDead (flat_stmts_of b) → HaveNoDead (flat_stmts_of (a ++ b))
unfolding HaveNoDead
live_both [] b f live = live
live_both (x ∷ a) b f live = ((λ stops. absurd (true≢false (sym f.0 ∙ stops))), f.1, live_both a b f.2 live)

-- one statement, wherever it leads
pub live_one : (x : PlainFlatStmt) → HasNoDead x → HaveNoDead (flat_stmts_of (x ∷ []))
unfolding HaveNoDead
live_one x live = ((λ stops. refl), live, tt)

pub live_last : (a : List PlainFlatStmt) (x : PlainFlatStmt) → AllLead a → HasNoDead x → HaveNoDead (flat_stmts_of (a ++ x ∷ []))
live_last a x f live = live_both a (x ∷ []) f (live_one x live)

pub live : (a : List PlainFlatStmt) → AllLead a → HaveNoDead (flat_stmts_of a)
unfolding HaveNoDead
live [] f = tt
live (x ∷ a) f = ((λ stops. absurd (true≢false (sym f.0 ∙ stops))), f.1, live a f.2)
