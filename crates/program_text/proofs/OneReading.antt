-- A text is accepted with one tree, or has one fault.
use Rattle.std.proofs.Common.{◌≡◌, ℕ, ◌⊎◌, inl, inr, List, Option, Some, None, refl, ap, subst}
use Rattle.py_tree.specs.declared.fault.SyntaxFault.{SyntaxFault}
use Rattle.py_tree.specs.declared.rule.RuleFault.{RuleFault}
use Rattle.py_tree.specs.Tokens.{PlainLine}
use Rattle.py_tree.specs.PlainProgram.{PlainProgram}
use Rattle.py_tree.specs.Grammar as grammar
use Rattle.py_tree.specs.ClassRules.{program_fault}
use Rattle.py_tree.specs.Flow.{flow_fault}
use Rattle.py_tree.specs.Acceptance.{KeepsRules, rule_fault}
use Rattle.py_tree.proofs.OneProgram as tree
use Rattle.py_lexer.specs.declared.fault.LexFault.{LexFault}
use Rattle.py_lexer.specs.LogicalLines as lines
use Rattle.py_lexer.proofs.OneOutcome as lexer
use Rattle.program_text.specs.declared.fault.ProgramFault.{ProgramFault}
use Rattle.program_text.specs.declared.fault.ProgramFault.TheVariants.{Lex, Syntax, Rule}
use Rattle.program_text.specs.Readings.{IsAcceptedText, HasFault, has_lexical, has_syntax, has_rule}

same_lines : {a b : List PlainLine} → lines.has_lines a ≡ lines.has_lines b → a ≡ b
same_lines e = cc

same_lexical : {a b : LexFault} → lines.has_fault a ≡ lines.has_fault b → a ≡ b
same_lexical e = cc

lines_or_fault : {a : List PlainLine} {b : LexFault} → lines.has_lines a ≡ lines.has_fault b → ⊥
lines_or_fault e = cc

same_tree : {p q : PlainProgram} {a b : List (List ℕ)} → grammar.has_tree p a ≡ grammar.has_tree q b → (p ≡ q) × (a ≡ b)
same_tree e = (cc, cc)

same_syntax : {a b : SyntaxFault} → grammar.has_fault a ≡ grammar.has_fault b → a ≡ b
same_syntax e = cc

tree_or_fault : {p : PlainProgram} {a : List (List ℕ)} {b : SyntaxFault} → grammar.has_tree p a ≡ grammar.has_fault b → ⊥
tree_or_fault e = cc

same_rule : {a b : RuleFault} → Some a ≡ Some b → a ≡ b
same_rule e = cc

kept_or_broken : {f : RuleFault} → None ≡ Some f → ⊥
kept_or_broken e = cc

-- a program that keeps the rules breaks none, and any other breaks a first one
module _ (names : List (List ℕ)) (program : PlainProgram) where
  pub breaks_none : KeepsRules names program → rule_fault names program ≡ None
  breaks_none keeps = rw (keeps.classes, keeps.flow) refl

  judged : (a b : Option RuleFault) → program_fault names program ≡ a → flow_fault names program ≡ b → KeepsRules names program ⊎ ((f : RuleFault) × (rule_fault names program ≡ Some f))
  judged None None p q = inl (record { classes = p; flow = q })
  judged None (Some f) p q = inr (f, rw (p, q) refl)
  judged (Some f) b p q = inr (f, rw p refl)

  pub keeps_or_breaks : KeepsRules names program ⊎ ((f : RuleFault) × (rule_fault names program ≡ Some f))
  keeps_or_breaks = judged (program_fault names program) (flow_fault names program) refl refl

module _ (text : List ℕ) where
  one_lines : (a b : List PlainLine) → lines.IsText text (lines.has_lines a) → lines.IsText text (lines.has_lines b) → a ≡ b
  one_lines a b p q = same_lines (lexer.one_outcome text _ _ p q)

  no_lines : {P : Type 0} (a : List PlainLine) (f : LexFault) → lines.IsText text (lines.has_lines a) → lines.IsText text (lines.has_fault f) → P
  no_lines a f p q = absurd (lines_or_fault (lexer.one_outcome text _ _ p q))

  one_parse : (a b : List PlainLine) (o p : grammar.Parse) → lines.IsText text (lines.has_lines a) → lines.IsText text (lines.has_lines b) → grammar.IsProgram a o → grammar.IsProgram b p → o ≡ p
  one_parse a b o p l m x y = tree.one_outcome b o p (subst (λ ls. grammar.IsProgram ls o) (one_lines a b l m) x) y

  no_tree : {P : Type 0} (a b : List PlainLine) (p : PlainProgram) (names : List (List ℕ)) (f : SyntaxFault) → lines.IsText text (lines.has_lines a) → lines.IsText text (lines.has_lines b) → grammar.IsProgram a (grammar.has_tree p names) → grammar.IsProgram b (grammar.has_fault f) → P
  no_tree a b p names f l m x y = absurd (tree_or_fault (one_parse a b _ _ l m x y))

  pub one_tree : (p q : PlainProgram) (names others : List (List ℕ)) → IsAcceptedText text p names → IsAcceptedText text q others → (p ≡ q) × (names ≡ others)
  one_tree p q names others a b = same_tree (one_parse a.logical b.logical _ _ a.lexed b.lexed a.parsed b.parsed)

  -- a tree of the text that breaks a rule is no tree of it that keeps them
  broken : (a b : List PlainLine) (p q : PlainProgram) (names others : List (List ℕ)) (f : RuleFault) → lines.IsText text (lines.has_lines a) → lines.IsText text (lines.has_lines b)
      → grammar.IsProgram a (grammar.has_tree p names) → grammar.IsProgram b (grammar.has_tree q others) → KeepsRules names p → rule_fault others q ≡ Some f → ⊥
  broken a b p q names others f l m x y keeps breaks =
      let e = same_tree (one_parse a b _ _ l m x y) in
      let none : rule_fault others q ≡ None = subst (λ ns. rule_fault ns q ≡ None) e.1 (subst (λ r. rule_fault names r ≡ None) e.0 (breaks_none names p keeps)) in
      let bad : ⊥ = cc in bad

  pub no_fault : (p : PlainProgram) (names : List (List ℕ)) (f : ProgramFault) → IsAcceptedText text p names → HasFault text f → ⊥
  no_fault p names f a (has_lexical is) = no_lines a.logical _ a.lexed is
  no_fault p names f a (has_syntax is parsed) = no_tree a.logical _ p names _ a.lexed is a.parsed parsed
  no_fault p names f a (has_rule is parsed breaks) = broken a.logical _ p _ names _ _ a.lexed is a.parsed parsed a.rules breaks

  same_broken : (a b : List PlainLine) (p q : PlainProgram) (names others : List (List ℕ)) (f g : RuleFault) → lines.IsText text (lines.has_lines a) → lines.IsText text (lines.has_lines b)
      → grammar.IsProgram a (grammar.has_tree p names) → grammar.IsProgram b (grammar.has_tree q others) → rule_fault names p ≡ Some f → rule_fault others q ≡ Some g → f ≡ g
  same_broken a b p q names others f g l m x y s t =
      let e = same_tree (one_parse a b _ _ l m x y) in
      let first : rule_fault others q ≡ Some f = subst (λ ns. rule_fault ns q ≡ Some f) e.1 (subst (λ r. rule_fault names r ≡ Some f) e.0 s) in
      cc

  pub one_fault : (f g : ProgramFault) → HasFault text f → HasFault text g → f ≡ g
  one_fault f g (has_lexical a) (has_lexical b) = ap Lex (same_lexical (lexer.one_outcome text _ _ a b))
  one_fault f g (has_lexical a) (has_syntax b y) = no_lines _ _ b a
  one_fault f g (has_lexical a) (has_rule b y t) = no_lines _ _ b a
  one_fault f g (has_syntax a x) (has_lexical b) = no_lines _ _ a b
  one_fault f g (has_syntax a x) (has_syntax b y) = ap Syntax (same_syntax (one_parse _ _ _ _ a b x y))
  one_fault f g (has_syntax a x) (has_rule b y t) = no_tree _ _ _ _ _ b a y x
  one_fault f g (has_rule a x s) (has_lexical b) = no_lines _ _ a b
  one_fault f g (has_rule a x s) (has_syntax b y) = no_tree _ _ _ _ _ a b x y
  one_fault f g (has_rule a x s) (has_rule b y t) = ap Rule (same_broken _ _ _ _ _ _ _ _ a b x y s t)
