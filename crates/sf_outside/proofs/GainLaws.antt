-- How what a sink gained by some lines goes on over the lines that follow.
use Rattle.std.proofs.Common.{◌≡◌, ℕ, ◌+◌, ◌<◌, List, [], ◌∷◌, ◌++◌, length, take, drop, get_or, map, min, Ok, Err, IsErr, refl, sym, ap, ◌∙◌, subst, append_assoc, append-nil, arith}
use Rattle.std.proofs.lemmas.List.{map_more, map-append, take_all, take-append-drop}
use Rattle.std.proofs.KnownBytes.{Appends-trans, Appends-nil}
use Rattle.std.specs.declared.option.Option.{Option}
use Rattle.std.specs.declared.result.Result.{Result}
use Rattle.std.specs.Io.KnownBytes.{Appends}
use Rattle.sf_outside.specs.Bytes.{AppendsPrefix}
use Rattle.sf_outside.specs.declared.gains.WriteStop.{WriteStop}
use Rattle.sf_outside.specs.declared.gains.WriteStop.TheVariants.{NoMemory, WriteFault}
use Rattle.sf_outside.specs.Gains.{joined, Wrote}
use Rattle.sf_outside.proofs.Fronts.{take_into, take_first}

pub joined-nil : joined [] ≡ []
unfolding joined
joined-nil = refl

pub joined_one : (line : List ℕ) → joined (line ∷ []) ≡ line
unfolding joined
joined_one line = append-nil line

pub joined-append : (first rest : List (List ℕ)) → joined (first ++ rest) ≡ joined first ++ joined rest
unfolding joined
joined-append [] rest = refl
joined-append (line ∷ first) rest = ap (λ text. line ++ text) (joined-append first rest) ∙ sym (append_assoc line (joined first) (joined rest))

-- all of the first lines, and k lines of the rest
joined_into : (first rest : List (List ℕ)) (k : ℕ) → joined (take (length first + k) (first ++ rest)) ≡ joined first ++ joined (take k rest)
joined_into first rest k = ap joined (take_into first rest k) ∙ joined-append first (take k rest)

-- the text of the first lines, and n bytes of the text of the rest
text_into : (first rest : List (List ℕ)) (n : ℕ) → take (length (joined first) + n) (joined (first ++ rest)) ≡ joined first ++ take n (joined rest)
text_into first rest n = ap (take (length (joined first) + n)) (joined-append first rest) ∙ take_into (joined first) (joined rest) n

-- n bytes of the text of the first lines
text_first : (first rest : List (List ℕ)) (n : ℕ) → take (min n (length (joined first))) (joined (first ++ rest)) ≡ take n (joined first)
text_first first rest n = ap (take (min n (length (joined first)))) (joined-append first rest) ∙ take_first (joined first) (joined rest) n

-- no line was to be written
pub Wrote-none : {U : Type 0} (value : U) (held : Option (List ℕ)) → Wrote (Ok value) held held []
Wrote-none value held = subst (Appends held held) (sym joined-nil) (Appends-nil held)

-- one line was written whole
pub Wrote-line : {U : Type 0} (value : U) (start end : Option (List ℕ)) (line : List ℕ) → Appends start end line → Wrote (Ok value) start end (line ∷ [])
Wrote-line value start end line whole = subst (Appends start end) (sym (joined_one line)) whole

-- or in part
pub Wrote-part : {T : Type 0} (result : Result T WriteStop) (start end : Option (List ℕ)) (line : List ℕ) → result ≡ Err WriteFault → AppendsPrefix start end line → Wrote result start end (line ∷ [])
Wrote-part result start end line is part = rw is (subst (AppendsPrefix start end) (sym (joined_one line)) part)

-- the first lines were all written, and this is the result of the rest
pub Wrote-after : {T U : Type 0} (value : U) (result : Result T WriteStop) (start between end : Option (List ℕ)) (first rest : List (List ℕ))
    → Wrote (Ok value) start between first → Wrote result between end rest → Wrote result start end (first ++ rest)
Wrote-after value (Ok done) start between end first rest whole more =
    subst (Appends start end) (sym (joined-append first rest)) (Appends-trans start between end _ _ whole more)
Wrote-after value (Err NoMemory) start between end first rest whole more =
    (length first + more.0, subst (Appends start end) (sym (joined_into first rest more.0)) (Appends-trans start between end _ _ whole more.1))
Wrote-after value (Err WriteFault) start between end first rest whole more =
    (length (joined first) + more.0, subst (Appends start end) (sym (text_into first rest more.0)) (Appends-trans start between end _ _ whole more.1))

-- a stop within the first lines is a stop within them and the rest
pub Wrote-more : {T : Type 0} (result : Result T WriteStop) (start end : Option (List ℕ)) (first rest : List (List ℕ)) → IsErr result → Wrote result start end first → Wrote result start end (first ++ rest)
Wrote-more (Ok value) start end first rest stopped wrote = cc
Wrote-more (Err NoMemory) start end first rest stopped wrote =
    (min wrote.0 (length first), subst (λ lines. Appends start end (joined lines)) (sym (take_first first rest wrote.0)) wrote.1)
Wrote-more (Err WriteFault) start end first rest stopped wrote =
    (min wrote.0 (length (joined first)), subst (Appends start end) (sym (text_first first rest wrote.0)) wrote.1)

-- a result that hands the stop of another on, as the exit of a `?`
pub Wrote-passed : (V : Type 0) {T : Type 0} (stop : WriteStop) (result : Result T WriteStop) (start end : Option (List ℕ)) (lines : List (List ℕ))
    → result ≡ Err stop → Wrote {T = V} (Err stop) start end lines → Wrote result start end lines
Wrote-passed V NoMemory result start end lines is wrote = rw is wrote
Wrote-passed V WriteFault result start end lines is wrote = rw is wrote

-- memory ran out after these lines
pub Wrote-no_memory : {T : Type 0} (result : Result T WriteStop) (start end : Option (List ℕ)) (lines : List (List ℕ)) → result ≡ Err NoMemory → Appends start end (joined lines) → Wrote result start end lines
Wrote-no_memory result start end lines is whole =
    rw is (length lines, subst (λ l. Appends start end (joined l)) (sym (take_all (length lines) lines (omega arith))) whole)

-- In a loop over things that each give a line: the lines so far, and the one at i.
pub Wrote-next : {T U : Type 0} (value : U) (result : Result T WriteStop) (start between end : Option (List ℕ)) {X : Type 0} (line : X → List ℕ) (things : List X) (i : ℕ) (thing : X)
    → i < length things → thing ≡ get_or things i thing → Wrote (Ok value) start between (map line (take i things)) → Wrote result between end (line thing ∷ []) → Wrote result start end (map line (take (i + 1) things))
Wrote-next value result start between end line things i thing within is so_far one =
    let lines : map line (take (i + 1) things) ≡ map line (take i things) ++ line thing ∷ [] =
    map_more line things i thing within ∙ ap (λ other. map line (take i things) ++ line other ∷ []) (sym is) in
    subst (Wrote result start end) (sym lines) (Wrote-after value result start between end (map line (take i things)) (line thing ∷ []) so_far one)

-- In such a loop: a stop at i is a stop within all the lines.
pub Wrote-stop : {T : Type 0} (result : Result T WriteStop) (start end : Option (List ℕ)) {X : Type 0} (line : X → List ℕ) (things : List X) (i : ℕ)
    → IsErr result → Wrote result start end (map line (take i things)) → Wrote result start end (map line things)
Wrote-stop result start end line things i stopped wrote =
    let lines : map line (take i things) ++ map line (drop i things) ≡ map line things = sym (map-append line (take i things) (drop i things)) ∙ ap (map line) (take-append-drop i things) in
    subst (Wrote result start end) lines (Wrote-more result start end (map line (take i things)) (map line (drop i things)) stopped wrote)
