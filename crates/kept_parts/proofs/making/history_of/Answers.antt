use Rattle.std.proofs.Common.{◌≡◌, ◌++◌, ◌∷◌, [], ap, sym, ◌∙◌, subst, true≢false, rules}
use Rattle.std.specs.Prelude.{bytes_eq}
use Rattle.std.specs.List.{IsDistinct}
use Rattle.std.specs.Vec.Iter.{into_iter_items}
use Rattle.std.proofs.lemmas.List.{append_assoc}
use Rattle.kept_parts.specs.Ids.{entry_ids}
use Rattle.kept_parts.proofs.IdLaws.{differ_behind, new_behind}
use Rattle.kept_parts.proofs.making.history_of.Goals as goal

pub returns-then-not-branch : goal.returns-then-not-branch
returns-then-not-branch c = λ differ.
    let before = c.loop-entry.history.entries in
    let more = into_iter_items c.next.new.self in
    let split : before ++ c.in-Some.entry ∷ more ≡ c.args.entries = ap (λ l. before ++ l) (sym c.in-Some.ensures.steps.0) ∙ c.loop-entry.invariant.entries in
    let none = new_behind before c.in-Some.entry more (subst (λ es. IsDistinct bytes_eq (entry_ids es)) (sym split) differ) in
    true≢false (sym (c.in_ok-commit_new.ensures.new.1 none) ∙ c.if-not-branch.true)

pub loop-entry-preserved : goal.loop-entry-preserved
loop-entry-preserved c =
    let before = c.loop-entry.history.entries in
    let more = into_iter_items c.next.new.self in
    let split : before ++ c.in-Some.entry ∷ more ≡ c.args.entries = ap (λ l. before ++ l) (sym c.in-Some.ensures.steps.0) ∙ c.loop-entry.invariant.entries in
    let grown = c.in_ok-commit_new.ensures.committed c.if-not-branch.false in
    record {
      entries = ap (λ l. l ++ more) grown ∙ append_assoc before (c.in-Some.entry ∷ []) more ∙ split;
      differ = subst (λ es. IsDistinct bytes_eq (entry_ids es)) (sym grown)
          (differ_behind before c.in-Some.entry c.loop-entry.invariant.differ (c.in_ok-commit_new.ensures.new.0 c.if-not-branch.false));
      count = search rules;
    }
