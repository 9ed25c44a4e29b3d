-- A file holds an accepted text or one with a fault, and not both.
use Rattle.std.proofs.Common.{◌≡◌, ℕ, List, Option, Some, sym, ◌∙◌, subst}
use Rattle.program_text.specs.declared.fault.ProgramFault.{ProgramFault}
use Rattle.program_text.specs.Readings.{IsAcceptedText, HasFault}
use Rattle.program_text.proofs.OneReading.{one_tree, no_fault}
use Rattle.stateflow_cli.specs.Loading.{MayHold, HoldsOne, Holds, Refuses, source_in}

-- a file that holds a text holds no other
told_text : (Is : List ℕ → Type 0) (content : Option (List ℕ)) (text : List ℕ) → content ≡ Some text → HoldsOne Is content → Is text
told_text Is content text holds one = subst Is (subst (λ o. MayHold o one.text) holds one.told) one.is

-- and a text that it may hold is that one
told_is : (content : Option (List ℕ)) (text other : List ℕ) → content ≡ Some text → MayHold content other → other ≡ text
told_is content text other holds may = subst (λ o. MayHold o other) holds may

module _ (content : Option (List ℕ)) (text : List ℕ) (told : content ≡ Some text) where
  accepted : (h : Holds content) → IsAcceptedText text h.program h.names
  accepted h = told_text (λ t. IsAcceptedText t h.program h.names) content text told h.holds

  -- a file that holds an accepted text holds none with a fault
  pub never_both : {P : Type 0} (f : ProgramFault) → Refuses content f → Holds content → P
  never_both f refused h = absurd (no_fault text h.program h.names f (accepted h) (told_text (λ t. HasFault t f) content text told refused))

  -- it holds one text, of one program
  pub one_text : (h other : Holds content) → h.holds.text ≡ other.holds.text
  one_text h other = told_is content text h.holds.text told h.holds.told ∙ sym (told_is content text other.holds.text told other.holds.told)

  pub one_source : (h other : Holds content) → source_in content h ≡ source_in content other
  one_source h other = let same = one_tree text h.program other.program h.names other.names (accepted h) (accepted other) in λ i. record { program = same.0 i; names = same.1 i }
