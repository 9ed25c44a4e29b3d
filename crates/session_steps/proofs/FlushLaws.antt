-- What is handed on of an output behind steps, and then behind more of them.
use Rattle.std.proofs.Common.{◌≡◌, ℕ, zero, suc, ◌+◌, List, [], ◌∷◌, ◌++◌, length, length-append, refl, sym, ap, ◌∙◌, subst, append-nil, append_assoc, arith}
use Rattle.std.specs.declared.option.Option.{Option}
use Rattle.std.specs.Io.KnownBytes.{Appends}
use Rattle.std.proofs.KnownBytes.{Appends-trans}
use Rattle.sf_outside.specs.Gains.{joined}
use Rattle.sf_outside.specs.Handing.{IsHandedOn}
use Rattle.sf_outside.proofs.GainLaws.{joined-append}
use Rattle.batch_output.specs.BatchOutput.{Standing}
use Rattle.line_answers.specs.Vocabulary.{StaysHanded}
use Rattle.line_answers.specs.Services.{Service}
use Rattle.line_answers.proofs.Vocabulary.{stays_none, stays_then}
use Rattle.session_steps.specs.Steps.{Step, standing_after, printed, ran_on}
use Rattle.session_steps.specs.Flushing.{IsFlushedBehind, FlushesBatches}
use Rattle.session_steps.proofs.StepFacts.{printed-append, ran-append}

module _ (v : Service) (s : Standing) (held : Option (List ℕ)) where
  -- no batch was counted
  pub flushes_none : (steps : List Step) (a b : Option (List ℕ)) → StaysHanded a b → FlushesBatches v steps s 0 held a b
  flushes_none steps a b stays = record { stays = stays; behind = λ some. absurd (omega (arith, some)) }

  -- one was, and behind it all was handed on
  pub flushes_one : (step : Step) (a b behind : Option (List ℕ)) → length (ran_on v s (step ∷ [])) ≡ 1
      → Appends held behind (joined (printed v s (step ∷ []))) → IsHandedOn b behind → StaysHanded a b → FlushesBatches v (step ∷ []) s 1 held a b
  flushes_one step a b behind ran wrote all stays = record {
    stays = stays;
    behind = λ some. record {
      first = step ∷ [];
      rest = [];
      split = refl;
      ran = ran;
      behind = behind;
      printed = wrote;
      flushed = b;
      before = stays;
      all = all;
      since = stays_none b;
    };
  }

  -- more is handed on since
  pub behind_since : (xs ys : List Step) (n : ℕ) (a b c : Option (List ℕ)) → IsFlushedBehind v xs s n held a b → StaysHanded b c
      → IsFlushedBehind v (xs ++ ys) s n held a c
  behind_since xs ys n a b c f more = record {
    first = f.first;
    rest = f.rest ++ ys;
    split = ap (λ l. l ++ ys) f.split ∙ append_assoc f.first f.rest ys;
    ran = f.ran;
    behind = f.behind;
    printed = f.printed;
    flushed = f.flushed;
    before = f.before;
    all = f.all;
    since = stays_then f.flushed b c f.since more;
  }

  pub flushes_since : (xs : List Step) (n : ℕ) (a b c : Option (List ℕ)) → FlushesBatches v xs s n held a b → StaysHanded b c → FlushesBatches v xs s n held a c
  flushes_since xs n a b c f more = record {
    stays = stays_then a b c f.stays more;
    behind = λ some. subst (λ steps. IsFlushedBehind v steps s n held a c) (append-nil xs) (behind_since xs [] n a b c (f.behind some) more);
  }

  -- so it is among more steps
  pub flushes_among : (xs ys : List Step) (n : ℕ) (a b : Option (List ℕ)) → FlushesBatches v xs s n held a b → FlushesBatches v (xs ++ ys) s n held a b
  flushes_among xs ys n a b f = record { stays = f.stays; behind = λ some. behind_since xs ys n a b b (f.behind some) (stays_none b) }

  module _ (xs ys : List Step) (t : Standing) (m : ℕ) (between a b c : Option (List ℕ)) (stands : standing_after v s xs ≡ t)
      (wrote : Appends held between (joined (printed v s xs))) (ran : length (ran_on v s xs) ≡ m) where
    behind_after : (n : ℕ) → StaysHanded a b → IsFlushedBehind v ys t n between b c → IsFlushedBehind v (xs ++ ys) s (m + n) held a c
    behind_after n stays f =
        let texts : printed v s (xs ++ f.first) ≡ printed v s xs ++ printed v t f.first = printed-append v xs f.first s
        ∙ ap (λ q. printed v s xs ++ printed v q f.first) stands in
        let cores : ran_on v s (xs ++ f.first) ≡ ran_on v s xs ++ ran_on v t f.first = ran-append v xs f.first s
        ∙ ap (λ q. ran_on v s xs ++ ran_on v q f.first) stands in
        record {
          first = xs ++ f.first;
          rest = f.rest;
          split = ap (λ l. xs ++ l) f.split ∙ sym (append_assoc xs f.first f.rest);
          ran = ap length cores ∙ length-append (ran_on v s xs) (ran_on v t f.first) ∙ ap (λ k. k + length (ran_on v t f.first)) ran ∙ ap (λ k. m + k) f.ran;
          behind = f.behind;
          printed =
              subst (Appends held f.behind) (sym (ap joined texts ∙ joined-append (printed v s xs) (printed v t f.first)))
              (Appends-trans held between f.behind (joined (printed v s xs)) (joined (printed v t f.first)) wrote f.printed);
          flushed = f.flushed;
          before = stays_then a b f.flushed stays f.before;
          all = f.all;
          since = f.since;
        }

    -- steps, and then more of them
    pub flushes_then : (n : ℕ) → FlushesBatches v xs s m held a b → FlushesBatches v ys t n between b c → FlushesBatches v (xs ++ ys) s (m + n) held a c
    flushes_then zero f g =
        let none : m + 0 ≡ m = omega arith in
        record {
          stays = stays_then a b c f.stays g.stays;
          behind = λ some.
              subst (λ k. IsFlushedBehind v (xs ++ ys) s k held a c) (sym none) (behind_since xs ys m a b c (f.behind (omega (arith, some, none))) g.stays);
        }
    flushes_then (suc n) f g = record {
      stays = stays_then a b c f.stays g.stays;
      behind = λ some. behind_after (suc n) f.stays (g.behind (omega arith));
    }
