-- What the commands of clap make of words: they fail exactly where the grammar gives nothing, and else have the texts that it gives.
use Rattle.std.proofs.Common.{◌≡◌, Bool, true, false, not, ◌&&◌, ◌||◌, List, [], ◌∷◌, ◌++◌, map, Option, Some, None, refl, sym, ap, ap₂, ◌∙◌, subst, codes}
use Rattle.std.specs.Prelude.{option_and_then, option_map, slice_get, if◌then◌else◌, cond, fold, drop, string_bytes, String, Result, Ok, Err}
use Rattle.std.specs.List.{list_any, list_all, find}
use Rattle.std.specs.Str.{bytes_eq}
use Rattle.clap.specs.Walk.{Held, Row, Rule, first_of, has_row, nothing_held, settled, walk, walk_from, with_default, finished, rows_after}
use Rattle.clap.specs.Simple.{App, argument_words, built, matches_of, names_of}
use Rattle.clap.specs.Kinds.{Kinds, or_else}
use Rattle.clap.specs.Faults.{defaults_fault, fault_of, built_fault, level_fault, settle_fault, walk_fault}
use Rattle.clap.specs.Takes.{is_given}
use Rattle.clap.specs.declared.error.kind.ErrorKind.TheVariants as kind
use Rattle.clap.specs.declared.parser.matches.ArgMatches.{ArgMatches}
use Rattle.clap.specs.Matches.{found_of}
use Rattle.clap.proofs.WalkLemmas.{first_value-rows}
use Rattle.clap.proofs.FaultLemmas.{leaf_fault}
use Rattle.command_words.specs.WordReading.{Text, Parts, Given, given, given_from, form_of, is_formed, are_formed, if_apart, Form, Plain, Named, Neither, Says, Gives, Wants, Nothing, is_among, text_of, joined, said_by, behind_name}
use Rattle.command_words.specs.Commands.{file_parts, run_parts, gen_parts, export_parts}
use Rattle.command_words.specs.ClapCommands.{app_with}
use Rattle.command_words.specs.Readings.{Finds, Matches}
use Rattle.command_words.specs.declared.command.WordsError.{WordsError}
use Rattle.command_words.specs.declared.command.WordsError.TheVariants.{Usage, NoMemory}
use Rattle.std.specs.declared.alloc.Global.{Global}
use Rattle.command_words.proofs.BuiltRules.{option_rule, file_rule, flag_rule, rules, rules_fit, shape, Fits}
use Rattle.command_words.proofs.ClapWalk.{Fails, Meets, faults_at, rows_at, row_for, meets}

-- ---- rules without defaults, that need nothing

pub record IsQuiet (c : List Rule) : Type 0 where
  pub faults : (rows : List Row) → defaults_fault rows c ≡ []
  pub rows : (rows : List Row) → fold with_default rows c ≡ rows
  pub needs : (rows : List Row) → list_any (λ a. a.required && not (is_given a.id rows)) c ≡ false

quiet_none : IsQuiet []
unfolding defaults_fault
quiet_none = record { faults = λ rows. refl; rows = λ rows. refl; needs = λ rows. refl }

either : (b : Bool) (X : Kinds) → (if b || true then [] else X) ≡ []
either true X = refl
either false X = refl

same_rows : (b : Bool) (rows : List Row) → (if b then rows else rows) ≡ rows
same_rows true rows = refl
same_rows false rows = refl

quiet_option : (name : Text) (c : List Rule) → IsQuiet c → IsQuiet (option_rule name ∷ c)
unfolding defaults_fault
quiet_option name c q = record {
  faults = λ rows. ap₂ or_else (either (has_row name rows) _) (q.faults (with_default rows (option_rule name)));
  rows = λ rows. ap (λ (rs : List Row). fold with_default rs c) (same_rows (has_row name rows) rows) ∙ q.rows rows;
  needs = q.needs;
}

quiet_flag : (name : Text) (c : List Rule) → IsQuiet c → IsQuiet (flag_rule name ∷ c)
unfolding defaults_fault
quiet_flag name c q = record {
  faults = λ rows. ap₂ or_else (either (has_row name rows) _) (q.faults (with_default rows (flag_rule name)));
  rows = λ rows. ap (λ (rs : List Row). fold with_default rs c) (same_rows (has_row name rows) rows) ∙ q.rows rows;
  needs = q.needs;
}

quiet_file : IsQuiet (file_rule ∷ [])
unfolding defaults_fault
quiet_file = record {
  faults = λ rows. ap₂ or_else (either (has_row (codes "FILE") rows) _) refl;
  rows = λ rows. same_rows (has_row (codes "FILE") rows) rows;
  needs = λ rows. refl;
}

quiet_place : (file : Bool) → IsQuiet (if file then file_rule ∷ [] else [])
quiet_place true = quiet_file
quiet_place false = quiet_none

quiet_options : (names : List Text) (c : List Rule) → IsQuiet c → IsQuiet (map option_rule names ++ c)
quiet_options [] c q = q
quiet_options (n ∷ ns) c q = quiet_option n _ (quiet_options ns c q)

quiet_flags : (names : List Text) (c : List Rule) → IsQuiet c → IsQuiet (map flag_rule names ++ c)
quiet_flags [] c q = q
quiet_flags (n ∷ ns) c q = quiet_flag n _ (quiet_flags ns c q)

quiet : (parts : Parts) → IsQuiet (rules parts.options parts.flags parts.file)
quiet parts = quiet_options parts.options _ (quiet_flags parts.flags _ (quiet_place parts.file))

-- ---- a command whose rules are those of the parts

no_more : (a : Kinds) → or_else a [] ≡ a
no_more [] = refl
no_more (k ∷ ks) = refl

module _ (name : Text) (parts : Parts) (c : List Rule) (fits : Fits c parts) (q : IsQuiet c) (words : List Text) where
  end : Held
  end = (walk c [] nothing_held words).held

  level : level_fault (shape name c) [] nothing_held words false [] ≡ faults_at name parts c fits (walk_from nothing_held) words
  unfolding end
  level =
      ap (λ (ks : Kinds). or_else (walk_fault (shape name c) [] (walk_from nothing_held) words) ks)
      (ap₂ (λ (x y : Kinds). or_else (settle_fault c false end) (or_else x y)) (q.faults (settled c end).rows)
      (ap (λ b. if b then kind.MissingRequiredArgument ∷ [] else []) (q.needs (finished c end)))
      ∙ no_more (settle_fault c false end))

  -- the words of a command that is built to these rules
  pub built_meets : (a : App) → built a ≡ record { top = shape name c; subs = [] } → a.top.no_binary_name ≡ true → are_formed words ≡ true
      → Meets (fault_of a words) (matches_of a words) (given parts words)
  unfolding end
  built_meets a is whole formed =
      let all_words : argument_words a words ≡ words = ap (λ b. if b then words else drop 1 words) whole in
      let faults : fault_of a words ≡ faults_at name parts c fits (walk_from nothing_held) words =
      ap₂ (λ (x : App) (ws : List Text). built_fault x nothing_held ws) is all_words
      ∙ leaf_fault (record { top = shape name c; subs = [] }) nothing_held words refl ∙ level in
      let found : matches_of a words ≡ rows_at name parts c fits (walk_from nothing_held) words =
      ap₂ (λ (x : App) (ws : List Text). rows_after x.top.rules (names_of x) ws) is all_words
      ∙ q.rows (settled c end).rows in
      subst (λ (ks : Kinds). Meets ks (matches_of a words) (given parts words)) (sym faults)
      (subst (λ (rs : List Row). Meets (faults_at name parts c fits (walk_from nothing_held) words) rs (given parts words)) (sym found)
      (meets name parts c fits words formed))

-- ---- words that aren't formed give nothing

nothing_mapped : (g : Given) (o : Option (List Given)) → o ≡ None → option_map (λ gs. g ∷ gs) o ≡ None
nothing_mapped g o e = ap (option_map (λ gs. g ∷ gs)) e

nothing_joined : (says : Says) (o : Option (List Given)) (wanting : Text → Option (List Given)) → o ≡ None → ((n : Text) → wanting n ≡ None) → joined says o wanting ≡ None
nothing_joined (Gives g) o wanting e f = nothing_mapped g o e
nothing_joined (Wants n) o wanting e f = f n
nothing_joined Nothing o wanting e f = refl

nothing_behind : (name word : Text) (f : Form) (o : Option (List Given)) → o ≡ None → behind_name name word f o ≡ None
nothing_behind name word Plain o e = nothing_mapped (name, word) o e
nothing_behind name word (Named other v) o e = refl
nothing_behind name word Neither o e = refl

module _ (parts : Parts) where
  abbrev Nothing_from : List Text → Type 0
  Nothing_from ws = (given_from parts None ws ≡ None) × ((name : Text) → given_from parts (Some name) ws ≡ None)

  first_unformed : (word : Text) (rest : List Text) (f : Form) → is_formed f ≡ false
      → (joined (said_by parts word f) (given_from parts None rest) (λ n. given_from parts (Some n) rest) ≡ None)
      × ((name : Text) → behind_name name word f (given_from parts None rest) ≡ None)
  first_unformed word rest Plain e = absurd cc
  first_unformed word rest (Named name v) e = absurd cc
  first_unformed word rest Neither e = (refl, λ name. refl)

  none_from : (ws : List Text) → are_formed ws ≡ false → Nothing_from ws
  none_from [] e = absurd cc
  none_from (word ∷ rest) e = by (is_formed (form_of word)) refl e (none_from rest)
    where
      by : (b : Bool) → is_formed (form_of word) ≡ b → (b && are_formed rest) ≡ false → (are_formed rest ≡ false → Nothing_from rest) → Nothing_from (word ∷ rest)
      by false is h later = first_unformed word rest (form_of word) is
      by true is h later =
          let none = later h in (
            nothing_joined (said_by parts word (form_of word)) (given_from parts None rest) (λ n. given_from parts (Some n) rest) none.0 none.1,
            λ name. nothing_behind name word (form_of word) (given_from parts None rest) none.0,
          )

  pub unformed : (ws : List Text) → are_formed ws ≡ false → given parts ws ≡ None
  unformed ws e = ap (λ (o : Option (List Given)). option_and_then if_apart o) (none_from ws e).0

-- the test of the words, as the code has it
pub formed_as : (words : List (String Global)) → list_all (λ w. is_formed (form_of (string_bytes w))) words ≡ are_formed (map string_bytes words)
formed_as [] = refl
formed_as (w ∷ ws) = ap (λ b. is_formed (form_of (string_bytes w)) && b) (formed_as ws)

-- ---- what is found

first_text : (name : Text) (gs : List Given) → first_of name (map row_for gs) ≡ text_of name gs
first_text name [] = refl
first_text name (g ∷ gs) = by (bytes_eq g.0 name) (first_text name gs)
  where
    by : (b : Bool) → first_of name (map row_for gs) ≡ text_of name gs
        → option_and_then (λ (r : Row). slice_get r.values 0) (cond b (Some (row_for g)) (find (λ r. bytes_eq r.id name) (map row_for gs)))
        ≡ option_map (λ (h : Given). h.1) (cond b (Some g) (find (λ h. bytes_eq h.0 name) gs))
    by true later = refl
    by false later = later

finds : (a : App) (words : List Text) (o : Option (List Given)) (r : Result ArgMatches WordsError) → Meets (fault_of a words) (matches_of a words) o → Matches a words r → Finds o r
finds a words (Some gs) (Ok m) h found = λ name. first_value-rows (found_of m) name ∙ ap (first_of name) (found.1 ∙ h.1) ∙ first_text name gs
finds a words (Some gs) (Err Usage) h found = absurd (found h.0)
finds a words (Some gs) (Err NoMemory) h found = tt
finds a words None (Ok m) h found = absurd (subst Fails found.0 h)
finds a words None (Err Usage) h found = refl
finds a words None (Err NoMemory) h found = tt

finds_with : (parts : Parts) (words : List Text) (r : Result ArgMatches WordsError)
    → is_among parts.options (codes "FILE") ≡ false → is_among parts.flags (codes "FILE") ≡ false
    → built (app_with parts) ≡ record { top = shape (codes "stateflow") (rules parts.options parts.flags parts.file); subs = [] } → (app_with parts).top.no_binary_name ≡ true
    → are_formed words ≡ true → Matches (app_with parts) words r → Finds (given parts words) r
finds_with parts words r no_option no_flag is whole formed found =
    finds (app_with parts) words (given parts words) r
    (built_meets (codes "stateflow") parts (rules parts.options parts.flags parts.file) (rules_fit parts.options parts.flags parts.file no_option no_flag) (quiet parts) words (app_with parts) is whole formed) found

pub file_finds : (words : List Text) (r : Result ArgMatches WordsError) → are_formed words ≡ true → Matches (app_with file_parts) words r → Finds (given file_parts words) r
file_finds words r formed found = finds_with file_parts words r refl refl refl refl formed found

pub run_finds : (words : List Text) (r : Result ArgMatches WordsError) → are_formed words ≡ true → Matches (app_with run_parts) words r → Finds (given run_parts words) r
run_finds words r formed found = finds_with run_parts words r refl refl refl refl formed found

pub gen_finds : (words : List Text) (r : Result ArgMatches WordsError) → are_formed words ≡ true → Matches (app_with gen_parts) words r → Finds (given gen_parts words) r
gen_finds words r formed found = finds_with gen_parts words r refl refl refl refl formed found

pub export_finds : (words : List Text) (r : Result ArgMatches WordsError) → are_formed words ≡ true → Matches (app_with export_parts) words r → Finds (given export_parts words) r
export_finds words r formed found = finds_with export_parts words r refl refl refl refl formed found
