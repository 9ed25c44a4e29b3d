-- The rules of a command of clap that has the parts of one of ours, and how they are found.
use Rattle.std.proofs.Common.{◌≡◌, ℕ, Bool, true, false, ◌||◌, List, [], ◌∷◌, ◌++◌, map, Option, Some, None, refl, ap, ◌∙◌, codes}
use Rattle.std.specs.Prelude.{if◌then◌else◌, cond}
use Rattle.std.specs.Str.{bytes_eq}
use Rattle.std.proofs.lemmas.Slice.Eq.{bytes_eq-Decides}
use Rattle.clap.specs.Walk.{Rule, arg_by_id, arg_by_index, arg_by_long}
use Rattle.clap.specs.Simple.{Shape, new_rule, new_shape}
use Rattle.clap.specs.declared.builder.action.ArgAction.TheVariants.{Set}
use Rattle.clap.specs.declared.builder.value_parser.ValueParser.TheVariants as vp
use Rattle.command_words.specs.WordReading.{Text, Parts, is_among}

-- an argument that takes one text
abbrev pub value_rule : Option Text → Option ℕ → Text → Rule
value_rule long index id = record (new_rule id) {
  long = long;
  index = index;
  action = Some Set;
  range = Some (record { start_inclusive = 1; end_inclusive = 1 });
  parser = Some vp.String;
}

abbrev pub option_rule : Text → Rule
option_rule name = value_rule (Some name) None name

abbrev pub file_rule : Rule
file_rule = value_rule None (Some 1) (codes "FILE")

-- an argument that takes none, and stands for `true`
abbrev pub flag_rule : Text → Rule
flag_rule name = record (new_rule name) {
  long = Some name;
  action = Some Set;
  range = Some (record { start_inclusive = 0; end_inclusive = 0 });
  missing = codes "true" ∷ [];
  parser = Some vp.String;
}

abbrev pub place_rules : Bool → List Rule
place_rules file = if file then file_rule ∷ [] else []

abbrev pub rules : List Text → List Text → Bool → List Rule
rules options flags file = map option_rule options ++ (map flag_rule flags ++ place_rules file)

abbrev pub shape : Text → List Rule → Shape
shape name all = record (new_shape name) {
  rules = all;
  no_binary_name = true;
  disable_help_flag = true;
  disable_help_subcommand = true;
  disable_version_flag = true;
  is_built = true;
}

-- the rule that a name finds
abbrev pub found_in : Parts → Text → Option Rule
found_in parts name =
    if is_among parts.options name then Some (option_rule name)
    else (if is_among parts.flags name then Some (flag_rule name) else None)

-- the rules find what the parts name
pub record Fits (c : List Rule) (parts : Parts) : Type 0 where
  pub long : (name : Text) → arg_by_long c name ≡ found_in parts name
  pub option : (name : Text) → is_among parts.options name ≡ true → arg_by_id c name ≡ Some (option_rule name)
  pub file : parts.file ≡ true → arg_by_id c (codes "FILE") ≡ Some file_rule
  pub first : arg_by_index c 1 ≡ (if parts.file then Some file_rule else None)
  pub second : arg_by_index c 2 ≡ None

long_option : (names : List Text) (more : List Rule) (name : Text)
    → arg_by_long (map option_rule names ++ more) name ≡ (if is_among names name then Some (option_rule name) else arg_by_long more name)
long_option [] more name = refl
long_option (n ∷ ns) more name = by (bytes_eq n name) refl (long_option ns more name)
  where
    by : (b : Bool) → bytes_eq n name ≡ b → arg_by_long (map option_rule ns ++ more) name ≡ (if is_among ns name then Some (option_rule name) else arg_by_long more name)
        → cond (b || false) (Some (option_rule n)) (arg_by_long (map option_rule ns ++ more) name)
        ≡ (if b || is_among ns name then Some (option_rule name) else arg_by_long more name)
    by true e h = ap (λ (t : Text). Some (option_rule t)) ((bytes_eq-Decides n name).0 e)
    by false e h = h

long_flag : (names : List Text) (more : List Rule) (name : Text)
    → arg_by_long (map flag_rule names ++ more) name ≡ (if is_among names name then Some (flag_rule name) else arg_by_long more name)
long_flag [] more name = refl
long_flag (n ∷ ns) more name = by (bytes_eq n name) refl (long_flag ns more name)
  where
    by : (b : Bool) → bytes_eq n name ≡ b → arg_by_long (map flag_rule ns ++ more) name ≡ (if is_among ns name then Some (flag_rule name) else arg_by_long more name)
        → cond (b || false) (Some (flag_rule n)) (arg_by_long (map flag_rule ns ++ more) name)
        ≡ (if b || is_among ns name then Some (flag_rule name) else arg_by_long more name)
    by true e h = ap (λ (t : Text). Some (flag_rule t)) ((bytes_eq-Decides n name).0 e)
    by false e h = h

id_option : (names : List Text) (more : List Rule) (id : Text)
    → arg_by_id (map option_rule names ++ more) id ≡ (if is_among names id then Some (option_rule id) else arg_by_id more id)
id_option [] more id = refl
id_option (n ∷ ns) more id = by (bytes_eq n id) refl (id_option ns more id)
  where
    by : (b : Bool) → bytes_eq n id ≡ b → arg_by_id (map option_rule ns ++ more) id ≡ (if is_among ns id then Some (option_rule id) else arg_by_id more id)
        → cond b (Some (option_rule n)) (arg_by_id (map option_rule ns ++ more) id)
        ≡ (if b || is_among ns id then Some (option_rule id) else arg_by_id more id)
    by true e h = ap (λ (t : Text). Some (option_rule t)) ((bytes_eq-Decides n id).0 e)
    by false e h = h

id_flag : (names : List Text) (more : List Rule) (id : Text)
    → arg_by_id (map flag_rule names ++ more) id ≡ (if is_among names id then Some (flag_rule id) else arg_by_id more id)
id_flag [] more id = refl
id_flag (n ∷ ns) more id = by (bytes_eq n id) refl (id_flag ns more id)
  where
    by : (b : Bool) → bytes_eq n id ≡ b → arg_by_id (map flag_rule ns ++ more) id ≡ (if is_among ns id then Some (flag_rule id) else arg_by_id more id)
        → cond b (Some (flag_rule n)) (arg_by_id (map flag_rule ns ++ more) id)
        ≡ (if b || is_among ns id then Some (flag_rule id) else arg_by_id more id)
    by true e h = ap (λ (t : Text). Some (flag_rule t)) ((bytes_eq-Decides n id).0 e)
    by false e h = h

place_option : (names : List Text) (more : List Rule) (i : ℕ) → arg_by_index (map option_rule names ++ more) i ≡ arg_by_index more i
place_option [] more i = refl
place_option (n ∷ ns) more i = place_option ns more i

place_flag : (names : List Text) (more : List Rule) (i : ℕ) → arg_by_index (map flag_rule names ++ more) i ≡ arg_by_index more i
place_flag [] more i = refl
place_flag (n ∷ ns) more i = place_flag ns more i

no_name : (file : Bool) (name : Text) → arg_by_long (place_rules file) name ≡ None
no_name true name = refl
no_name false name = refl

first_place : (file : Bool) → arg_by_index (place_rules file) 1 ≡ (if file then Some file_rule else None)
first_place true = refl
first_place false = refl

second_place : (file : Bool) → arg_by_index (place_rules file) 2 ≡ None
second_place true = refl
second_place false = refl

-- where neither an option nor a flag has the name of the file
pub rules_fit : (options flags : List Text) (file : Bool) → is_among options (codes "FILE") ≡ false → is_among flags (codes "FILE") ≡ false
    → Fits (rules options flags file) (record { file = file; options = options; flags = flags })
rules_fit options flags file no_option no_flag = record {
  long = λ name. long_option options _ name
      ∙ ap (λ (o : Option Rule). if is_among options name then Some (option_rule name) else o) (long_flag flags _ name
      ∙ ap (λ (o : Option Rule). if is_among flags name then Some (flag_rule name) else o) (no_name file name));
  option = λ name e. id_option options _ name ∙ ap (λ b. if b then Some (option_rule name) else arg_by_id (map flag_rule flags ++ place_rules file) name) e;
  file = λ e. id_option options _ (codes "FILE")
      ∙ ap (λ b. if b then Some (option_rule (codes "FILE")) else arg_by_id (map flag_rule flags ++ place_rules file) (codes "FILE")) no_option
      ∙ id_flag flags _ (codes "FILE")
      ∙ ap (λ b. if b then Some (flag_rule (codes "FILE")) else arg_by_id (place_rules file) (codes "FILE")) no_flag
      ∙ ap (λ b. arg_by_id (place_rules b) (codes "FILE")) e;
  first = place_option options _ 1 ∙ place_flag flags _ 1 ∙ first_place file;
  second = place_option options _ 2 ∙ place_flag flags _ 2 ∙ second_place file;
}
