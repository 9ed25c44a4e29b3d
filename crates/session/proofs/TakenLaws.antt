-- Whatever the result of a session, what was written answers what was taken.
use Rattle.std.proofs.Common.{ℕ, inl, inr, List, [], ◌∷◌, ◌++◌, Ok, Err, sym, subst, arith}
use Rattle.std.proofs.lemmas.List.{take_all, take_at, length-append}
use Rattle.std.specs.declared.option.Option.{Option}
use Rattle.std.specs.declared.result.Result.{Result}
use Rattle.std.specs.Io.KnownBytes.{IsAtEnd}
use Rattle.std.proofs.KnownBytes.{Consumes-trans}
use Rattle.sf_outside.specs.Bytes.{AppendsPrefix}
use Rattle.sf_outside.specs.Gains.{joined}
use Rattle.program_meaning.specs.ClassTables.{Source}
use Rattle.request_json.specs.Actions.{whole_lines, all_lines}
use Rattle.session.specs.declared.feeding.InputEnd.{InputEnd}
use Rattle.session.specs.declared.stopping.SessionStop.{SessionStop}
use Rattle.session.specs.declared.feeding.InputEnd.TheVariants.{End, ReadFault, TooLong}
use Rattle.session.specs.OutputText.{replies, start}
use Rattle.session.specs.Served.{Answered, AnsweredOver, OfWhole, OfAll, OfLimit, Served, AnsweredTaken}
use Rattle.session.proofs.StopLaws.{prefix_written}

module _ (src : Source) (limit most : ℕ) (left left' held held' : Option (List ℕ)) (result : Result InputEnd SessionStop) where
  abbrev first_written : List ℕ → Type 0
  first_written bytes = AppendsPrefix held held' (joined (replies src most start (whole_lines bytes)))

  taken_whole : Answered src limit most {T = InputEnd} whole_lines result left left' held held' → AnsweredTaken src limit most left left' held held'
  taken_whole a = record {
    taken = a.taken;
    consumed = a.consumed;
    within = omega (arith, a.within);
    wrote = inl (subst first_written (sym (take_all limit a.taken a.within)) (prefix_written result held held' _ a.wrote));
  }

  taken_all : Answered src limit most {T = InputEnd} all_lines result left left' held held' → IsAtEnd left' → AnsweredTaken src limit most left left' held held'
  taken_all a end = record {
    taken = a.taken;
    consumed = a.consumed;
    within = omega (arith, a.within);
    wrote = inr (a.within, end, prefix_written result held held' _ a.wrote);
  }

  taken_over : AnsweredOver src limit most result left left' held held' → AnsweredTaken src limit most left left' held held'
  taken_over a = record {
    taken = a.answered.taken ++ a.next ∷ [];
    consumed = Consumes-trans left a.before left' a.answered.taken (a.next ∷ []) a.answered.consumed a.beyond;
    within = omega (arith, a.full, length-append a.answered.taken (a.next ∷ []));
    wrote = inl (subst first_written (sym (take_at a.answered.taken (a.next ∷ []) limit a.full)) (prefix_written result held held' _ a.answered.wrote));
  }

module _ (src : Source) (limit most : ℕ) (left left' held held' : Option (List ℕ)) where
  pub Served-taken : (result : Result InputEnd SessionStop) → Served src limit most left left' held held' result
      → AnsweredTaken src limit most left left' held held'
  Served-taken (Ok End) p = taken_all src limit most left left' held held' (Ok End) p.0 p.1
  Served-taken (Ok ReadFault) p = taken_whole src limit most left left' held held' (Ok ReadFault) p
  Served-taken (Ok TooLong) p = taken_over src limit most left left' held held' (Ok TooLong) p
  Served-taken (Err stop) (OfWhole a) = taken_whole src limit most left left' held held' (Err stop) a
  Served-taken (Err stop) (OfAll a end) = taken_all src limit most left left' held held' (Err stop) a end
  Served-taken (Err stop) (OfLimit fault a) = taken_over src limit most left left' held held' (Err stop) a
