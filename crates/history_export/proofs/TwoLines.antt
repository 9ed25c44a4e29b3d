-- Lines that are written one after the other, as far as the writing comes.
use Rattle.std.proofs.Common.{◌≡◌, ℕ, List, [], ◌∷◌, length, Result, Ok, Err, IsErr, refl, subst, sym, arith}
use Rattle.std.proofs.KnownBytes.{Appends-nil, Appends-kept}
use Rattle.std.proofs.lemmas.List.{take_all}
use Rattle.std.specs.declared.option.Option.{Option}
use Rattle.std.specs.Io.KnownBytes.{Keeps, Appends}
use Rattle.sf_outside.specs.Bytes.{AppendsPrefix}
use Rattle.sf_outside.specs.declared.gains.WriteStop.{WriteStop}
use Rattle.sf_outside.specs.declared.gains.WriteStop.TheVariants.{NoMemory, WriteFault}
use Rattle.sf_outside.specs.Gains.{joined, Wrote}
use Rattle.sf_outside.proofs.GainLaws.{joined-nil, Wrote-line, Wrote-part, Wrote-after, Wrote-more}

stopped : {T : Type 0} (result : Result T WriteStop) (stop : WriteStop) → result ≡ Err stop → IsErr result
stopped result stop is = subst IsErr (sym is) refl

-- there is no memory before anything is written
none_written : {T : Type 0} (result : Result T WriteStop) (held : Option (List ℕ)) (lines : List (List ℕ)) → result ≡ Err NoMemory → Wrote result held held lines
none_written result held lines is = subst (λ r. Wrote r held held lines) (sym is) (0, subst (Appends held held) (sym joined-nil) (Appends-nil held))

-- of both lines nothing
pub no_line : {T : Type 0} (result : Result T WriteStop) (held : Option (List ℕ)) (first second : List ℕ) → result ≡ Err NoMemory → Wrote result held held (first ∷ second ∷ [])
no_line result held first second is = none_written result held (first ∷ second ∷ []) is

-- a part of the first
pub part_of_first : {T : Type 0} (result : Result T WriteStop) (start end : Option (List ℕ)) (first second : List ℕ) → result ≡ Err WriteFault → AppendsPrefix start end first
    → Wrote result start end (first ∷ second ∷ [])
part_of_first result start end first second is part =
    Wrote-more result start end (first ∷ []) (second ∷ []) (stopped result WriteFault is) (Wrote-part result start end first is part)

-- the first alone
pub one_line : {T : Type 0} (result : Result T WriteStop) (start end : Option (List ℕ)) (first second : List ℕ) → result ≡ Err NoMemory → Appends start end first
    → Wrote result start end (first ∷ second ∷ [])
one_line result start end first second is whole =
    Wrote-after {U = Unit {0}} tt result start end end (first ∷ []) (second ∷ []) (Wrote-line {U = Unit {0}} tt start end first whole) (none_written result end (second ∷ []) is)

-- the first, and a part of the second
pub part_of_second : {T : Type 0} (result : Result T WriteStop) (start between end : Option (List ℕ)) (first second : List ℕ) → result ≡ Err WriteFault
    → Appends start between first → AppendsPrefix between end second → Wrote result start end (first ∷ second ∷ [])
part_of_second result start between end first second is whole part =
    Wrote-after {U = Unit {0}} tt result start between end (first ∷ []) (second ∷ []) (Wrote-line {U = Unit {0}} tt start between first whole) (Wrote-part result between end second is part)

-- both
pub both_lines : {T : Type 0} (value : T) (start between end : Option (List ℕ)) (first second : List ℕ) → Appends start between first → Appends between end second
    → Wrote (Ok value) start end (first ∷ second ∷ [])
both_lines value start between end first second one other =
    Wrote-after value (Ok value) start between end (first ∷ []) (second ∷ []) (Wrote-line value start between first one) (Wrote-line value between end second other)

-- all were written, and not handed on
pub not_handed : {T : Type 0} (result : Result T WriteStop) (start between end : Option (List ℕ)) (lines : List (List ℕ)) → result ≡ Err WriteFault
    → Appends start between (joined lines) → Keeps between end → Wrote result start end lines
not_handed {T} result start between end lines is whole kept =
    let text = joined lines in
    subst (λ r. Wrote {T = T} r start end lines) (sym is)
    (length text, subst (Appends start end) (sym (take_all (length text) text (omega arith))) (Appends-kept start between end text whole kept))
