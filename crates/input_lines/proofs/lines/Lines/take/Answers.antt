use Rattle.std.proofs.Common.{ℕ, List, ◌+◌, ◌∙◌, ap, sym, refl, take, drop, arith, [], ◌∷◌, ◌++◌, append-nil}
use Rattle.input_lines.proofs.KeptBytes.{none_before, none_at_all, split_at}
use Rattle.input_lines.proofs.ReadLaws.{goes_on_with, Uses-standing}
use Rattle.input_lines.proofs.lines.Lines.take.Goals as goal

pub returns-in_ok-keep-in-Some : goal.returns-in_ok-keep-in-Some
returns-in_ok-keep-in-Some c = λ left.
    let old = c.args.self.now in
    let end : ℕ = c.in-Some.end in
    let shown : List ℕ = c.as_slice-piece.result.now in
    let found = c.in-Some.ensures in
    record {
      bytes = take end shown;
      clean = none_before end shown (omega (arith, found.0.high)) found.0.before;
      grows = λ part h. c.in_ok-keep-in-Some.ensures.grows part (sym (goes_on_with old c.requires) ∙ h);
      ended = refl;
      uses = Uses-standing left
          (sym c.as_slice-piece.ensures ∙ split_at end shown found.0.high found.1
          ∙ ap (λ l. (take end shown ++ 10 ∷ []) ++ l) (ap (drop (end + 1)) c.as_slice-piece.ensures ∙ sym c.skip.ensures)) refl refl;
    }

pub returns-in_ok-keep-in-None : goal.returns-in_ok-keep-in-None
returns-in_ok-keep-in-None c = λ left.
    let old = c.args.self.now in
    let shown : List ℕ = c.as_slice-piece.result.now in
    record {
      joins = record {
        bytes = shown;
        clean = none_at_all shown c.in-None.ensures;
        grows = λ part h. c.in_ok-keep-in-None.ensures.grows part (sym (goes_on_with old c.requires) ∙ h);
        ended = c.requires;
        uses = Uses-standing left (sym c.as_slice-piece.ensures ∙ sym (append-nil shown) ∙ ap (λ l. shown ++ l) (sym c.clear.ensures)) refl refl;
      };
      none = c.clear.ensures;
    }
