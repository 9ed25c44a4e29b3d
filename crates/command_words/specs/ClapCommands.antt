-- The command of `clap` that has the parts of one of ours.
use Rattle.std.specs.Prelude.{Bool, List, [], ◌∷◌, Some, true, fold, codes, if◌then◌else◌}
use Rattle.clap.specs.Words.{App, Rule, new_app, new_rule, with_rule}
use Rattle.clap.specs.declared.builder.ArgAction.TheVariants.{Set}
use Rattle.command_words.specs.WordReading.{Text, Parts}

-- an option takes one text
abbrev pub option_arg : Text → Rule
option_arg name = record (new_rule name) { long = Some name; action = Some Set }

-- a flag takes none
abbrev pub flag_arg : Text → Rule
flag_arg name = record (option_arg name) { range = Some (record { start_inclusive = 0; end_inclusive = 0 }); missing = codes "true" ∷ [] }

-- a command without arguments, and without the name of a program before the words
abbrev pub bare_app : App
bare_app =
    let a = new_app (codes "stateflow") in
    record a { top = record a.top { no_binary_name = true; disable_help_flag = true; disable_version_flag = true } }

abbrev pub with_args : (Text → Rule) → App → List Text → App
with_args rule a names = fold (λ more name. with_rule more (rule name)) a names

abbrev pub with_file : Bool → App → App
with_file file a = if file then with_rule a (new_rule (codes "FILE")) else a

abbrev pub app_with : Parts → App
app_with parts = with_file parts.file (with_args flag_arg (with_args option_arg bare_app parts.options) parts.flags)
