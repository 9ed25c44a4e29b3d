-- What the last flush leaves of what is served.
use Rattle.std.proofs.Common.{◌≡◌, ◌⊎◌, inl, inr, ℕ, List, Ok, Err, refl, sym, subst}
use Rattle.std.specs.declared.option.Option.{Option}
use Rattle.std.specs.declared.result.Result.{Result}
use Rattle.std.specs.Io.KnownBytes.{Keeps}
use Rattle.program_meaning.specs.ClassTables.{Source}
use Rattle.request_json.specs.Actions.{Line, whole_lines, all_lines}
use Rattle.session.specs.declared.feeding.InputEnd.{InputEnd}
use Rattle.session.specs.declared.feeding.InputEnd.TheVariants.{End, ReadFault, TooLong}
use Rattle.session.specs.declared.stopping.SessionStop.{SessionStop}
use Rattle.session.specs.declared.stopping.SessionStop.TheVariants.{WriteFault}
use Rattle.session.specs.Served.{Answered, AnsweredOver, AnsweredPart, OfWhole, OfAll, OfLimit, Served}
use Rattle.session.proofs.StopLaws.{Wrote-kept, prefix_written}

module _ (src : Source) (limit most : ℕ) where
  kept_answer : (r : Result InputEnd SessionStop) (lines : List ℕ → List Line) (left left' held h₁ h₂ : Option (List ℕ))
      → Answered src limit most lines r left left' held h₁ → Keeps h₁ h₂ → Answered src limit most lines r left left' held h₂
  kept_answer r lines left left' held h₁ h₂ a k = record {
    taken = a.taken;
    consumed = a.consumed;
    within = a.within;
    wrote = Wrote-kept r held h₁ h₂ _ a.wrote k;
    full = a.full;
  }

  kept_over : (r : Result InputEnd SessionStop) (left left' held h₁ h₂ : Option (List ℕ)) → AnsweredOver src limit most r left left' held h₁ → Keeps h₁ h₂
      → AnsweredOver src limit most r left left' held h₂
  unfolding kept_answer
  kept_over r left left' held h₁ h₂ p k = record {
    before = p.before;
    answered = kept_answer r whole_lines left p.before held h₁ h₂ p.answered k;
    full = p.full;
    next = p.next;
    beyond = p.beyond;
  }

  Served-kept : (r : Result InputEnd SessionStop) (left left' held h₁ h₂ : Option (List ℕ)) → Served src limit most left left' held h₁ r → Keeps h₁ h₂
      → Served src limit most left left' held h₂ r
  Served-kept (Ok End) left left' held h₁ h₂ p k = (kept_answer (Ok End) all_lines left left' held h₁ h₂ p.0 k, p.1)
  Served-kept (Ok ReadFault) left left' held h₁ h₂ p k = kept_answer (Ok ReadFault) whole_lines left left' held h₁ h₂ p k
  Served-kept (Ok TooLong) left left' held h₁ h₂ p k = kept_over (Ok TooLong) left left' held h₁ h₂ p k
  Served-kept (Err stop) left left' held h₁ h₂ (OfWhole a) k = OfWhole (kept_answer (Err stop) whole_lines left left' held h₁ h₂ a k)
  Served-kept (Err stop) left left' held h₁ h₂ (OfAll a at) k = OfAll (kept_answer (Err stop) all_lines left left' held h₁ h₂ a k) at
  Served-kept (Err stop) left left' held h₁ h₂ (OfLimit is a) k = OfLimit is (kept_over (Err stop) left left' held h₁ h₂ a k)

  -- whatever it came to, a prefix was written
  cut_answer : (r : Result InputEnd SessionStop) (lines : List ℕ → List Line) (left left' held held' : Option (List ℕ))
      → Answered src limit most lines r left left' held held' → Answered src limit most {T = InputEnd} lines (Err WriteFault) left left' held held'
  cut_answer r lines left left' held held' a = record {
    taken = a.taken;
    consumed = a.consumed;
    within = a.within;
    wrote = prefix_written r held held' _ a.wrote;
    full = tt;
  }

  cut_over : (r : Result InputEnd SessionStop) (left left' held held' : Option (List ℕ)) → AnsweredOver src limit most r left left' held held'
      → AnsweredOver src limit most (Err WriteFault) left left' held held'
  unfolding cut_answer
  cut_over r left left' held held' p = record {
    before = p.before;
    answered = cut_answer r whole_lines left p.before held held' p.answered;
    full = p.full;
    next = p.next;
    beyond = p.beyond;
  }

  Served-cut : (r : Result InputEnd SessionStop) (left left' held held' : Option (List ℕ)) → Served src limit most left left' held held' r
      → AnsweredPart src limit most WriteFault left left' held held'
  Served-cut (Ok End) left left' held held' p = OfAll (cut_answer (Ok End) all_lines left left' held held' p.0) p.1
  Served-cut (Ok ReadFault) left left' held held' p = OfWhole (cut_answer (Ok ReadFault) whole_lines left left' held held' p)
  Served-cut (Ok TooLong) left left' held held' p = OfLimit refl (cut_over (Ok TooLong) left left' held held' p)
  Served-cut (Err stop) left left' held held' (OfWhole a) = OfWhole (cut_answer (Err stop) whole_lines left left' held held' a)
  Served-cut (Err stop) left left' held held' (OfAll a at) = OfAll (cut_answer (Err stop) all_lines left left' held held' a) at
  Served-cut (Err stop) left left' held held' (OfLimit is a) = OfLimit refl (cut_over (Err stop) left left' held held' a)

  pub Served-flushed : (r result : Result InputEnd SessionStop) (left left' held h₁ h₂ : Option (List ℕ)) → (result ≡ r) ⊎ (result ≡ Err WriteFault)
      → Served src limit most left left' held h₁ r → Keeps h₁ h₂
      → Served src limit most left left' held h₂ result
  Served-flushed r result left left' held h₁ h₂ (inl is) p k =
      subst (Served src limit most left left' held h₂) (sym is) (Served-kept r left left' held h₁ h₂ p k)
  Served-flushed r result left left' held h₁ h₂ (inr is) p k =
      subst (Served src limit most left left' held h₂) (sym is) (Served-cut r left left' held h₂ (Served-kept r left left' held h₁ h₂ p k))
