-- What a command of clap makes of words, part by part: it fails exactly where they give nothing, and else its rows are what they give.
use Rattle.std.proofs.Common.{◌≡◌, ◌⊎◌, inl, inr, ℕ, Bool, true, false, ◌&&◌, ◌||◌, List, [], ◌∷◌, ◌++◌, map, Option, Some, None, refl, sym, ap, ap₂, ◌∙◌, subst, codes}
use Rattle.std.specs.Prelude.{option_and_then, option_map, if◌then◌else◌, fold, nat_lt}
use Rattle.std.specs.Option.{option_map_or}
use Rattle.std.specs.Str.{bytes_eq}
use Rattle.std.proofs.lemmas.List.{append-nil}
use Rattle.std.proofs.lemmas.Slice.Eq.{bytes_eq-Decides}
use Rattle.clap.specs.Lexer.{long_of}
use Rattle.clap.specs.Walk.{Held, Row, Rule, Step, Walk, Waiting, idle, option, next, trailing, value, after_flag, after_step, arg_by_id, arg_by_index, has_row, is_pending, long_met, long_or_other, more_values, option_word, plain_word, pushed, reacted, settled, short_or_plain, subcommand_or_other, to_positional, used, used_by_id, walk_from, walked, with_values, without, word_met, nothing_held}
use Rattle.clap.specs.Simple.{Shape}
use Rattle.clap.specs.Kinds.{Kinds, or_else}
use Rattle.clap.specs.Faults.{bundle_fault, flag_word_fault, long_fault, other_fault, positional_fault, settle_fault, stray_fault, step_fault, turn_fault, use_fault, walk_fault, word_fault}
use Rattle.clap.specs.declared.error.kind.ErrorKind.TheVariants as kind
use Rattle.clap.specs.declared.builder.value_parser.Reading.TheVariants.{AsWritten}
use Rattle.clap.specs.declared.parser.matches.ValueSource.TheVariants.{CommandLine}
use Rattle.clap.proofs.WalkLemmas.{both, list_any-map}
use Rattle.command_words.specs.WordReading.{Text, Parts, Given, Form, Plain, Named, Neither, form_of, Says, Gives, Wants, Nothing, said_by, joined, behind_name, given_from, given, is_among, is_formed, are_formed, is_given, are_apart, if_apart}
use Rattle.command_words.proofs.GivenLaws.{total, total_more, given_last, given_before, repeated, added, LooksAs, looks}
use Rattle.command_words.proofs.BuiltRules.{value_rule, option_rule, file_rule, flag_rule, shape, found_in, Fits}

-- ---- the rows of what is given

abbrev pub row_for : Given → Row
row_for g = record { id = g.0; values = g.1 ∷ []; count = None; source = Some CommandLine; reading = AsWritten }

has_row-is : (id : Text) (us : List Given) → has_row id (map row_for us) ≡ is_given id us
has_row-is id us = sym (list_any-map (λ (r : Row). bytes_eq r.id id) row_for us)

none_left : (id : Text) (us : List Given) → is_given id us ≡ false → without id (map row_for us) ≡ map row_for us
none_left id [] e = refl
none_left id (u ∷ us) e = by (bytes_eq u.0 id) e (none_left id us)
  where
    by : (b : Bool) → (b || is_given id us) ≡ false → (is_given id us ≡ false → without id (map row_for us) ≡ map row_for us)
        → (if b then [] ++ map row_for us else row_for u ∷ without id (map row_for us)) ≡ row_for u ∷ map row_for us
    by true h rest = absurd cc
    by false h rest = ap (λ rs. row_for u ∷ rs) (rest h)

put_last : (id text : Text) (us : List Given) → is_given id us ≡ false → with_values id AsWritten CommandLine (text ∷ []) (map row_for us) ≡ map row_for (us ++ (id, text) ∷ [])
put_last id text [] e = refl
put_last id text (u ∷ us) e = by (bytes_eq u.0 id) e (put_last id text us)
  where
    by : (b : Bool) → (b || is_given id us) ≡ false
        → (is_given id us ≡ false → with_values id AsWritten CommandLine (text ∷ []) (map row_for us) ≡ map row_for (us ++ (id, text) ∷ []))
        → (if b then more_values CommandLine (text ∷ []) (row_for u) ++ map row_for us else row_for u ∷ with_values id AsWritten CommandLine (text ∷ []) (map row_for us))
        ≡ row_for u ∷ map row_for (us ++ (id, text) ∷ [])
    by true h rest = absurd cc
    by false h rest = ap (λ rs. row_for u ∷ rs) (rest h)

used_once : (id text : Text) (us : List Given) → is_given id us ≡ false
    → with_values id AsWritten CommandLine (text ∷ []) (without id (map row_for us)) ≡ map row_for (us ++ (id, text) ∷ [])
used_once id text us e = ap (with_values id AsWritten CommandLine (text ∷ [])) (none_left id us e) ∙ put_last id text us e

-- ---- what fails, and what is found

abbrev pub Fails : Kinds → Type 0
Fails [] = ⊥
Fails (k ∷ ks) = Unit {0}

fails_first : (a b : Kinds) → Fails a → Fails (or_else a b)
fails_first [] b h = absurd h
fails_first (k ∷ ks) b h = tt

fails_second : (a b : Kinds) → Fails b → Fails (or_else a b)
fails_second [] b h = h
fails_second (k ∷ ks) b h = tt

fails_as : (a b : Kinds) → a ≡ b → Fails b → Fails a
fails_as a b e h = subst Fails (sym e) h

-- the command fails exactly where nothing is given, and else the rows are what is given
abbrev pub Meets : Kinds → List Row → Option (List Given) → Type 0
Meets ks rows None = Fails ks
Meets ks rows (Some us) = (ks ≡ []) × (rows ≡ map row_for us)

meets_none : (ks : Kinds) (rows : List Row) (o : Option (List Given)) → o ≡ None → Fails ks → Meets ks rows o
meets_none ks rows o e h = subst (λ (x : Option (List Given)). Meets ks rows x) (sym e) h

apart_some : (us : List Given) → are_apart us ≡ true → if_apart us ≡ Some us
apart_some us e = ap (λ b. if b then Some us else None) e

apart_none : (us : List Given) → are_apart us ≡ false → if_apart us ≡ None
apart_none us e = ap (λ b. if b then Some us else None) e

-- what is given anew after itself gives nothing
total_none : (us : List Given) (g : Given) (rest : Option (List Given)) → is_given g.0 us ≡ true → total us (option_map (λ gs. g ∷ gs) rest) ≡ None
total_none us g None h = refl
total_none us g (Some gs) h = apart_none (us ++ g ∷ gs) (repeated us g gs h)

-- ---- where the walk stands

abbrev held : List Given → Option (Text × List Text) → Held
held us p = record { rows = map row_for us; pending = p; skip = 0 }

abbrev pend : Option Given → Option (Text × List Text)
pend = option_map (λ g. (g.0, g.1 ∷ []))

abbrev place : Bool → ℕ
place free = if free then 1 else 2

abbrev at : Held → Waiting → Bool → Walk
at h w free = record { held = h; waiting = w; position = place free; is_trailing = false; stopped = None }

-- what was given, with what is pending
abbrev all : List Given → Option Given → List Given
all us None = us
all us (Some g) = us ++ g ∷ []

-- what is pending is an option or the file
abbrev IsHeld : List Rule → Option Given → Type 0
IsHeld c None = Unit {0}
IsHeld c (Some g) = (long : Option Text) × (index : Option ℕ) × (arg_by_id c g.0 ≡ Some (value_rule long index g.0))

-- where the place of the file is taken, a file was given
abbrev IsTaken : Bool → List Given → Type 0
IsTaken true us = Unit {0}
IsTaken false us = is_given (codes "FILE") us ≡ true

taken_more : (free : Bool) (us : List Given) (g : Given) → IsTaken free us → IsTaken free (us ++ g ∷ [])
taken_more true us g h = tt
taken_more false us g h = given_before (codes "FILE") us g h

and_false : (a : Bool) → (a && false) ≡ false
and_false true = refl
and_false false = refl

-- whether a use fails, by whether its id has a row
abbrev use_of : Bool → Kinds
use_of b = or_else (if b && true then kind.ArgumentConflict ∷ [] else []) []

value_use : (us : List Given) (id text : Text) (long : Option Text) (index : Option ℕ)
    → use_fault false (value_rule long index id) (text ∷ []) (map row_for us) ≡ use_of (is_given id us)
value_use us id text long index = ap use_of (has_row-is id us)

flag_use : (us : List Given) (id : Text) → use_fault false (flag_rule id) [] (map row_for us) ≡ use_of (is_given id us)
flag_use us id = ap use_of (has_row-is id us)

module _ (name : Text) (parts : Parts) (c : List Rule) (fits : Fits c parts) where
  abbrev s : Shape
  s = shape name c

  abbrev pub faults_at : Walk → List Text → Kinds
  faults_at w ws = or_else (walk_fault s [] w ws) (settle_fault c false (fold (walked c []) w ws).held)

  abbrev pub rows_at : Walk → List Text → List Row
  rows_at w ws = (settled c (fold (walked c []) w ws).held).rows

  abbrev At : Walk → List Text → Option (List Given) → Type 0
  At w ws o = Meets (faults_at w ws) (rows_at w ws) o

  -- past a word that doesn't fail
  on : (w after : Walk) (word : Text) (rest : List Text) (o : Option (List Given)) → turn_fault s [] w word ≡ [] → walked c [] w word ≡ after → At after rest o → At w (word ∷ rest) o
  unfolding walk_fault
  on w after word rest o turn is h =
      let faults : faults_at w (word ∷ rest) ≡ faults_at after rest =
      ap (λ t. or_else (or_else t (walk_fault s [] (walked c [] w word) rest)) (settle_fault c false (fold (walked c []) (walked c [] w word) rest).held)) turn
      ∙ ap (λ x. faults_at x rest) is in
      let rows : rows_at w (word ∷ rest) ≡ rows_at after rest = ap (λ x. rows_at x rest) is in
      subst (λ (ks : Kinds). Meets ks (rows_at w (word ∷ rest)) o) (sym faults) (subst (λ (rs : List Row). Meets (faults_at after rest) rs o) (sym rows) h)

  -- at a word that fails
  off : (w : Walk) (word : Text) (rest : List Text) (o : Option (List Given)) → o ≡ None → Fails (turn_fault s [] w word) → At w (word ∷ rest) o
  unfolding walk_fault
  off w word rest o e h = meets_none _ _ o e (fails_first _ _ (fails_first _ _ h))

  -- a turn, by what the word fails by and what it is
  turn_as : (h : Held) (w : Waiting) (free : Bool) (word : Text) (ks : Kinds) (met : Held × Step)
      → word_fault s [] false w word h ≡ ks → word_met c [] false w (place free) word h ≡ met
      → turn_fault s [] (at h w free) word ≡ or_else ks (step_fault s (place free) met.0 met.1)
  turn_as h w free word ks met fault is = ap₂ (λ (x : Kinds) (m : Held × Step). or_else x (step_fault s (place free) m.0 m.1)) fault is

  walked_as : (h : Held) (w : Waiting) (free : Bool) (word : Text) (met : Held × Step)
      → word_met c [] false w (place free) word h ≡ met → walked c [] (at h w free) word ≡ after_step c word (at h w free) met.0 met.1
  unfolding walked
  walked_as h w free word met is = ap (λ (m : Held × Step). after_step c word (at h w free) m.0 m.1) is

  -- ---- a word by itself

  plain_fault : (h : Held) (w : Waiting) (word : Text) → LooksAs word Plain → other_fault s None word h ≡ []
  plain_fault h w word l =
      ap (λ b. if b then [] else flag_word_fault c false (long_of word) word h) l.0
      ∙ ap (λ o. flag_word_fault c false o word h) l.1
      ∙ ap (λ o. option_map_or (λ flags. bundle_fault c false flags h) o []) l.2

  plain_met : (h : Held) (w : Waiting) (position : ℕ) (word : Text) → LooksAs word Plain → subcommand_or_other c None w position word h ≡ plain_word c w word h
  plain_met h w position word l =
      ap (λ b. if b then (h, trailing position) else long_or_other c w word (long_of word) h) l.0
      ∙ ap (λ o. long_or_other c w word o h) l.1
      ∙ ap (λ o. short_or_plain c w word o h) l.2

  -- ---- a name, with a value or without

  named_fault : (h : Held) (w : Waiting) (word id : Text) (v : Option Text) → LooksAs word (Named id v) → other_fault s None word h ≡ long_fault c false (found_in parts id) v h
  named_fault h w word id v l =
      ap (λ b. if b then [] else flag_word_fault c false (long_of word) word h) l.0
      ∙ ap (λ o. flag_word_fault c false o word h) l.1
      ∙ ap (λ r. long_fault c false r v h) (fits.long id)

  named_met : (h : Held) (w : Waiting) (position : ℕ) (word id : Text) (v : Option Text) → LooksAs word (Named id v)
      → subcommand_or_other c None w position word h ≡ after_flag c w word (long_met c (found_in parts id) v h).0 (long_met c (found_in parts id) v h).1
  named_met h w position word id v l =
      ap (λ b. if b then (h, trailing position) else long_or_other c w word (long_of word) h) l.0
      ∙ ap (λ o. long_or_other c w word o h) l.1
      ∙ ap (λ r. after_flag c w word (long_met c r v h).0 (long_met c r v h).1) (fits.long id)

  -- ---- what is pending is used

  -- it is used, or it was given before
  abbrev Settles : List Given → Option Given → Type 0
  Settles us p = ((settle_fault c false (held us (pend p)) ≡ []) × (settled c (held us (pend p)) ≡ held (all us p) None) × (are_apart (all us p) ≡ true))
      ⊎ (Fails (settle_fault c false (held us (pend p))) × ((rest : Option (List Given)) → total (all us p) rest ≡ None))

  settles : (us : List Given) (p : Option Given) → IsHeld c p → are_apart us ≡ true → Settles us p
  settles us None h apart = inl (refl, refl, apart)
  settles us (Some g) h apart = by (is_given g.0 us) refl
    where
      fault : settle_fault c false (held us (pend (Some g))) ≡ use_of (is_given g.0 us)
      fault = ap (λ (r : Option Rule). option_map_or (λ a. use_fault false a (g.1 ∷ []) (map row_for us)) r []) h.2 ∙ value_use us g.0 g.1 h.0 h.1

      by : (b : Bool) → is_given g.0 us ≡ b → Settles us (Some g)
      by true e = inr (fails_as _ _ (fault ∙ ap use_of e) tt, λ rest. twice rest)
        where
          twice : (rest : Option (List Given)) → total (us ++ g ∷ []) rest ≡ None
          twice rest = sym (total_more us g rest) ∙ total_none us g rest e
      by false e = inl (fault ∙ ap use_of e, rows, added us g apart e)
        where
          rows : settled c (held us (pend (Some g))) ≡ held (us ++ g ∷ []) None
          rows = ap (λ (rs : List Row). record { rows = rs; pending = None; skip = 0 }) (ap (λ (r : Option Rule). used_by_id r (g.1 ∷ []) (map row_for us)) h.2 ∙ used_once g.0 g.1 us e)

  -- ---- one word, where no option wants a value

  abbrev Idle : List Text → Type 0
  Idle ws = (us : List Given) (p : Option Given) (free : Bool) → IsHeld c p → IsTaken free (all us p) → are_apart us ≡ true
      → At (at (held us (pend p)) idle free) ws (total (all us p) (given_from parts None ws))

  abbrev Wanting : List Text → Type 0
  Wanting ws = (us : List Given) (id : Text) (free : Bool) → is_among parts.options id ≡ true → IsTaken free us → are_apart us ≡ true
      → At (at (held us (Some (id, []))) (option id) free) ws (total us (given_from parts (Some id) ws))

  with_more : (w : Walk) (ws : List Text) (us : List Given) (g : Given) (rest : Option (List Given)) → At w ws (total (us ++ g ∷ []) rest)
      → At w ws (total us (option_map (λ gs. g ∷ gs) rest))
  with_more w ws us g rest h = subst (λ (o : Option (List Given)). At w ws o) (sym (total_more us g rest)) h

  module _ (word : Text) (rest : List Text) where
    -- no more of what stands before is said
    abbrev Said : List Given → Option Given → Bool → Option (List Given) → Type 0
    Said us p free o = At (at (held us (pend p)) idle free) (word ∷ rest) (total (all us p) o)

    -- a file, where its place is free
    file_turn : (h : Held) → LooksAs word Plain → parts.file ≡ true → turn_fault s [] (at h idle true) word ≡ settle_fault c false h
    file_turn h l e =
        turn_as h idle true word [] (h, value) (plain_fault h idle word l) (plain_met h idle 1 word l)
        ∙ ap (λ (r : Option Rule). option_map_or (λ a. positional_fault c false a h) r (stray_fault s)) (fits.first ∙ ap (λ b. if b then Some file_rule else None) e)
        ∙ ap (λ b. if b then [] else settle_fault c false h) (and_false (is_pending file_rule h.pending))

    file_walked : (h now : Held) → LooksAs word Plain → parts.file ≡ true → settled c h ≡ now
        → walked c [] (at h idle true) word ≡ at (pushed (codes "FILE") word now) idle false
    file_walked h now l e is =
        walked_as h idle true word (h, value) (plain_met h idle 1 word l)
        ∙ ap (λ (r : Option Rule). to_positional c r word (at h idle true) h) (fits.first ∙ ap (λ b. if b then Some file_rule else None) e)
        ∙ ap (λ b. at (pushed (codes "FILE") word (if b then h else settled c h)) idle false) (and_false (is_pending file_rule h.pending))
        ∙ ap (λ (x : Held). at (pushed (codes "FILE") word x) idle false) is

    stray_turn : (h : Held) (free : Bool) → LooksAs word Plain → arg_by_index c (place free) ≡ None → Fails (turn_fault s [] (at h idle free) word)
    stray_turn h free l none =
        fails_as _ _ (turn_as h idle free word [] (h, value) (plain_fault h idle word l) (plain_met h idle (place free) word l)
        ∙ ap (λ (r : Option Rule). option_map_or (λ a. positional_fault c false a h) r (stray_fault s)) none) tt

    plain_said : (us : List Given) (p : Option Given) (free file : Bool) → Idle rest → LooksAs word Plain → parts.file ≡ file
        → IsHeld c p → IsTaken free (all us p) → are_apart us ≡ true
        → Said us p free (joined (if file then Gives (codes "FILE", word) else Nothing) (given_from parts None rest) (λ n. given_from parts (Some n) rest))
    plain_said us p true false later l e is taken apart =
        off _ word rest _ refl (stray_turn _ true l (fits.first ∙ ap (λ b. if b then Some file_rule else None) e))
    plain_said us p false false later l e is taken apart = off _ word rest _ refl (stray_turn _ false l fits.second)
    plain_said us p false true later l e is taken apart =
        off _ word rest _ (total_none (all us p) (codes "FILE", word) _ taken) (stray_turn _ false l fits.second)
    plain_said us p true true later l e is taken apart = elim (settles us p is apart) [
      | inl ok ↦
          on _ _ word rest _ (file_turn _ l e ∙ ok.0) (file_walked _ _ l e ok.1)
          (with_more _ rest (all us p) (codes "FILE", word) _
          (later (all us p) (Some (codes "FILE", word)) false (None, Some 1, fits.file e) (given_last (codes "FILE") word (all us p)) ok.2))
      | inr bad ↦ off _ word rest _ (bad.1 _) (fails_as _ _ (file_turn _ l e) bad.0)
    ]

    -- a name, by the rule that it finds
    abbrev found_by : Bool → Bool → Text → Option Rule
    found_by a b id = if a then Some (option_rule id) else (if b then Some (flag_rule id) else None)

    named_turn : (h : Held) (w : Waiting) (free a b : Bool) (id : Text) (v : Option Text) → LooksAs word (Named id v)
        → (word_fault s [] false w word h ≡ other_fault s None word h) → (word_met c [] false w (place free) word h ≡ subcommand_or_other c None w (place free) word h)
        → is_among parts.options id ≡ a → is_among parts.flags id ≡ b
        → turn_fault s [] (at h w free) word ≡ or_else (long_fault c false (found_by a b id) v h) (step_fault s (place free)
        (after_flag c w word (long_met c (found_by a b id) v h).0 (long_met c (found_by a b id) v h).1).0
        (after_flag c w word (long_met c (found_by a b id) v h).0 (long_met c (found_by a b id) v h).1).1)
    named_turn h w free a b id v l same_fault same_met in_options in_flags =
        turn_as h w free word _ _
        (same_fault ∙ named_fault h w word id v l ∙ ap₂ (λ x y. long_fault c false (found_by x y id) v h) in_options in_flags)
        (same_met ∙ named_met h w (place free) word id v l
        ∙ ap₂ (λ x y. after_flag c w word (long_met c (found_by x y id) v h).0 (long_met c (found_by x y id) v h).1) in_options in_flags)

    named_walked : (h : Held) (free a b : Bool) (id : Text) (v : Option Text) → LooksAs word (Named id v)
        → is_among parts.options id ≡ a → is_among parts.flags id ≡ b
        → walked c [] (at h idle free) word ≡ after_step c word (at h idle free)
        (after_flag c idle word (long_met c (found_by a b id) v h).0 (long_met c (found_by a b id) v h).1).0
        (after_flag c idle word (long_met c (found_by a b id) v h).0 (long_met c (found_by a b id) v h).1).1
    named_walked h free a b id v l in_options in_flags =
        walked_as h idle free word _ (named_met h idle (place free) word id v l
        ∙ ap₂ (λ x y. after_flag c idle word (long_met c (found_by x y id) v h).0 (long_met c (found_by x y id) v h).1) in_options in_flags)

    -- a use at once, of an option with its value or of a flag
    reacts : (us : List Given) (p : Option Given) (free : Bool) (id text : Text) (r : Rule) (vs : List Text) → Idle rest → IsHeld c p → IsTaken free (all us p) → are_apart us ≡ true
        → ((xs : List Given) → use_fault false r vs (map row_for xs) ≡ use_of (is_given id xs))
        → ((xs : List Given) → used r vs (map row_for xs) ≡ with_values id AsWritten CommandLine (text ∷ []) (without id (map row_for xs)))
        → turn_fault s [] (at (held us (pend p)) idle free) word ≡ or_else (or_else (settle_fault c false (held us (pend p))) (use_fault false r vs (settled c (held us (pend p))).rows)) []
        → walked c [] (at (held us (pend p)) idle free) word ≡ at (reacted c r vs (held us (pend p))) idle free
        → Said us p free (option_map (λ gs. (id, text) ∷ gs) (given_from parts None rest))
    reacts us p free id text r vs later is taken apart fault rows turn after = elim (settles us p is apart) [
      | inl ok ↦ by (is_given id (all us p)) refl ok
      | inr bad ↦ off _ word rest _ (bad.1 _) (fails_as _ _ turn (fails_first (or_else (settle_fault c false (held us (pend p))) (use_fault false r vs (settled c (held us (pend p))).rows)) [] (fails_first (settle_fault c false (held us (pend p))) (use_fault false r vs (settled c (held us (pend p))).rows) bad.0)))
    ]
      where
        fault_now : settled c (held us (pend p)) ≡ held (all us p) None → use_fault false r vs (settled c (held us (pend p))).rows ≡ use_of (is_given id (all us p))
        fault_now now = ap (λ (x : Held). use_fault false r vs x.rows) now ∙ fault (all us p)

        by : (b : Bool) → is_given id (all us p) ≡ b
            → ((settle_fault c false (held us (pend p)) ≡ []) × (settled c (held us (pend p)) ≡ held (all us p) None) × (are_apart (all us p) ≡ true))
            → Said us p free (option_map (λ gs. (id, text) ∷ gs) (given_from parts None rest))
        by true e ok = off _ word rest _ (total_none (all us p) (id, text) (given_from parts None rest) e)
            (fails_as _ _ turn (fails_first (or_else (settle_fault c false (held us (pend p))) (use_fault false r vs (settled c (held us (pend p))).rows)) [] (fails_second (settle_fault c false (held us (pend p))) (use_fault false r vs (settled c (held us (pend p))).rows) (fails_as _ _ (fault_now ok.1 ∙ ap use_of e) tt))))
        by false e ok = on _ _ word rest _
            (turn ∙ ap₂ (λ x y. or_else (or_else x y) []) ok.0 (fault_now ok.1 ∙ ap use_of e))
            (after ∙ ap (λ (rs : List Row). at (record { rows = rs; pending = None; skip = 0 }) idle free)
            (ap (λ (x : Held). used r vs x.rows) ok.1 ∙ rows (all us p) ∙ used_once id text (all us p) e))
            (with_more _ rest (all us p) (id, text) (given_from parts None rest)
            (later (all us p ++ (id, text) ∷ []) None free tt (taken_more free (all us p) (id, text) taken) (added (all us p) (id, text) ok.2 e)))

    abbrev says_by : Bool → Bool → Text → Option Text → Says
    says_by a b id (Some t) = if a then Gives (id, t) else Nothing
    says_by a b id None = if a then Wants id else (if b then Gives (id, codes "true") else Nothing)

    named_said : (us : List Given) (p : Option Given) (free a b : Bool) (id : Text) (v : Option Text) → Idle rest → Wanting rest → LooksAs word (Named id v)
        → is_among parts.options id ≡ a → is_among parts.flags id ≡ b → IsHeld c p → IsTaken free (all us p) → are_apart us ≡ true
        → Said us p free (joined (says_by a b id v) (given_from parts None rest) (λ n. given_from parts (Some n) rest))
    named_said us p free true b id (Some t) later wants l ea eb is taken apart =
        reacts us p free id t (option_rule id) (t ∷ []) later is taken apart (λ xs. value_use xs id t (Some id) None) (λ xs. refl)
        (named_turn _ idle free true b id (Some t) l refl refl ea eb) (named_walked _ free true b id (Some t) l ea eb)
    named_said us p free false true id (Some t) later wants l ea eb is taken apart =
        off _ word rest _ refl (fails_as _ _ (named_turn _ idle free false true id (Some t) l refl refl ea eb) tt)
    named_said us p free false false id (Some t) later wants l ea eb is taken apart =
        off _ word rest _ refl (fails_as _ _ (named_turn _ idle free false false id (Some t) l refl refl ea eb) tt)
    named_said us p free true b id None later wants l ea eb is taken apart = elim (settles us p is apart) [
      | inl ok ↦ on _ _ word rest _
          (named_turn _ idle free true b id None l refl refl ea eb ∙ ap (λ x. or_else x []) ok.0)
          (named_walked _ free true b id None l ea eb ∙ ap (λ (x : Held). at (record x { pending = Some (id, []) }) (option id) free) ok.1)
          (wants (all us p) id free ea taken ok.2)
      | inr bad ↦ off _ word rest _ (bad.1 _) (fails_as _ _ (named_turn _ idle free true b id None l refl refl ea eb) (fails_first _ _ bad.0))
    ]
    named_said us p free false true id None later wants l ea eb is taken apart =
        reacts us p free id (codes "true") (flag_rule id) [] later is taken apart (λ xs. flag_use xs id) (λ xs. refl)
        (named_turn _ idle free false true id None l refl refl ea eb) (named_walked _ free false true id None l ea eb)
    named_said us p free false false id None later wants l ea eb is taken apart =
        off _ word rest _ refl (fails_as _ _ (named_turn _ idle free false false id None l refl refl ea eb) tt)

    said : (us : List Given) (p : Option Given) (free : Bool) (f : Form) → Idle rest → Wanting rest → LooksAs word f → is_formed f ≡ true
        → IsHeld c p → IsTaken free (all us p) → are_apart us ≡ true
        → Said us p free (joined (said_by parts word f) (given_from parts None rest) (λ n. given_from parts (Some n) rest))
    said us p free Plain later wants l formed is taken apart = plain_said us p free parts.file later l refl is taken apart
    said us p free (Named id (Some t)) later wants l formed is taken apart =
        named_said us p free (is_among parts.options id) (is_among parts.flags id) id (Some t) later wants l refl refl is taken apart
    said us p free (Named id None) later wants l formed is taken apart =
        named_said us p free (is_among parts.options id) (is_among parts.flags id) id None later wants l refl refl is taken apart
    said us p free Neither later wants l formed is taken apart = absurd cc

    -- ---- one word, where an option wants its value

    abbrev waiting_at : List Given → Text → Held
    waiting_at us id = held us (Some (id, []))

    value_met : (us : List Given) (id : Text) (free : Bool) → LooksAs word Plain → is_among parts.options id ≡ true
        → word_met c [] false (option id) (place free) word (waiting_at us id) ≡ (held us (Some (id, word ∷ [])), next idle)
    value_met us id free l known =
        plain_met (waiting_at us id) (option id) (place free) word l
        ∙ ap (λ (r : Option Rule). ((option_word r id word (waiting_at us id)).0, next (option_word r id word (waiting_at us id)).1)) (fits.option id known)
        ∙ ap (λ b. (held us (Some (id, word ∷ [])), next (if nat_lt (if b then 1 else 0) 1 then option id else idle))) ((bytes_eq-Decides id id).1 refl)

    lacks_value : (us : List Given) (id : Text) → is_among parts.options id ≡ true → Fails (settle_fault c false (waiting_at us id))
    lacks_value us id known =
        fails_as _ _ (ap (λ (r : Option Rule). option_map_or (λ a. use_fault false a [] (map row_for us)) r []) (fits.option id known)) tt

    name_for_value : (us : List Given) (id : Text) (free a b : Bool) (other : Text) (v : Option Text) → LooksAs word (Named other v)
        → is_among parts.options id ≡ true → is_among parts.options other ≡ a → is_among parts.flags other ≡ b
        → Fails (turn_fault s [] (at (waiting_at us id) (option id) free) word)
    name_for_value us id free a b other v l known ea eb =
        fails_as _ _ (named_turn (waiting_at us id) (option id) free a b other v l refl refl ea eb) (fails_first _ _ (by a b v))
      where
        by : (x y : Bool) (o : Option Text) → Fails (long_fault c false (found_by x y other) o (waiting_at us id))
        by true y (Some t) = fails_first _ _ (lacks_value us id known)
        by true y None = lacks_value us id known
        by false true (Some t) = tt
        by false true None = fails_first _ _ (lacks_value us id known)
        by false false o = tt

    wanted : (us : List Given) (id : Text) (free : Bool) (f : Form) → Idle rest → LooksAs word f → is_formed f ≡ true
        → is_among parts.options id ≡ true → IsTaken free us → are_apart us ≡ true
        → At (at (waiting_at us id) (option id) free) (word ∷ rest) (total us (behind_name id word f (given_from parts None rest)))
    wanted us id free Plain later l formed known taken apart = on _ _ word rest _
        (turn_as (waiting_at us id) (option id) free word [] _ (plain_fault (waiting_at us id) (option id) word l) (value_met us id free l known))
        (walked_as (waiting_at us id) (option id) free word _ (value_met us id free l known))
        (with_more _ rest us (id, word) _
        (later us (Some (id, word)) free (Some id, None, fits.option id known) (taken_more free us (id, word) taken) apart))
    wanted us id free (Named other v) later l formed known taken apart =
        off _ word rest _ refl (name_for_value us id free (is_among parts.options other) (is_among parts.flags other) other v l known refl refl)
    wanted us id free Neither later l formed known taken apart = absurd cc

  -- ---- all the words

  idle_end : Idle []
  unfolding walk_fault
  idle_end us p free is taken apart = elim (settles us p is apart) [
    | inl ok ↦
        let same : total (all us p) (Some []) ≡ Some (all us p) = ap if_apart (append-nil (all us p)) ∙ apart_some (all us p) ok.2 in
        subst (λ (o : Option (List Given)). At (at (held us (pend p)) idle free) [] o) (sym same) (ok.0, ap (λ (h : Held). h.rows) ok.1)
    | inr bad ↦ meets_none _ _ _ (bad.1 (Some [])) bad.0
  ]

  wanting_end : Wanting []
  unfolding walk_fault
  wanting_end us id free known taken apart =
      fails_as _ _ (ap (λ (r : Option Rule). option_map_or (λ a. use_fault false a [] (map row_for us)) r []) (fits.option id known)) tt

  words_meet : (ws : List Text) → are_formed ws ≡ true → Idle ws × Wanting ws
  words_meet [] formed = (idle_end, wanting_end)
  words_meet (word ∷ rest) formed =
      let each = both (is_formed (form_of word)) (are_formed rest) formed in
      let behind = words_meet rest each.1 in (
        λ us p free is taken apart. said word rest us p free (form_of word) behind.0 behind.1 (looks word) each.0 is taken apart,
        λ us id free known taken apart. wanted word rest us id free (form_of word) behind.0 (looks word) each.0 known taken apart,
      )

  -- the words of a command fail where they give nothing, and else the rows are what they give
  pub meets : (ws : List Text) → are_formed ws ≡ true → Meets (faults_at (walk_from nothing_held) ws) (rows_at (walk_from nothing_held) ws) (given parts ws)
  meets ws formed = subst (λ (o : Option (List Given)). At (walk_from nothing_held) ws o) (same (given_from parts None ws)) ((words_meet ws formed).0 [] None true tt tt refl)
    where
      same : (o : Option (List Given)) → total [] o ≡ option_and_then if_apart o
      same None = refl
      same (Some gs) = refl
