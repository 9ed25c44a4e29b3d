-- From what was read of an accepted text to the report on it that was printed.
use Rattle.std.proofs.Common.{◌≡◌, ℕ, List, [], ◌∷◌, length, refl, ap, ◌∙◌}
use Rattle.std.specs.Prelude.{decimal}
use Rattle.std.specs.Str.{chars, encode_utf8_all}
use Rattle.std.specs.declared.option.Option.{Option}
use Rattle.std.specs.Io.KnownBytes.{Appends}
use Rattle.std.proofs.KnownBytes.{Keeps-refl}
use Rattle.sf_outside.specs.Choices.{Choices}
use Rattle.operator_graph.specs.Telling.{Told, GraphTold, AlsoTold}
use Rattle.operator_graph.specs.Turns.{Outside}
use Rattle.sf_outside.specs.Bytes.{AppendsPrefix}
use Rattle.sf_outside.specs.Causes.{Rose}
use Rattle.block_step.specs.CompiledViews.{compiled_program, compiled_names, compiled_tables, compiled_blocks}
use Rattle.block_step.specs.declared.compiled.Compiled.{Compiled}
use Rattle.entity_compiler.specs.Compiling.{IsCompiledOf}
use Rattle.stateflow_cli.specs.declared.printing.Counts.{Counts}
use Rattle.stateflow_cli.specs.CheckLine.{counts_line, IsCheckLine}
use Rattle.stateflow_cli.specs.CompiledText.{IsCompiledText, compiled_text}
use Rattle.stateflow_cli.specs.Devices.{Input, Output, StoreDisk, devices, outside}
use Rattle.stateflow_cli.specs.Loading.{HoldsOne, IsCounted, Holds}
use Rattle.stateflow_cli.specs.Endings.{Report, ReportEnds}
use Rattle.stateflow_cli.specs.declared.ending.Ending.TheVariants.{Printed, Unprinted}
use Rattle.stateflow_cli.proofs.WordNames.{names_are_texts}
use Rattle.stateflow_cli.proofs.GraphTexts.{same_bytes}

-- a report on the program that a file holds, and what was chosen and told for it
module _ (Is : Report) (content : List ℕ → Option (List ℕ)) (file : List ℕ) (holds : Holds (content file)) (text : List ℕ) (old new : Outside) (is : Is holds.names holds.program old new text) where
  module _ (content' : List ℕ → Option (List ℕ)) (faults faults' : List ℕ → ℕ) (input : Input) (out out' err : Output) (disk : StoreDisk) where
    -- it was written whole
    pub prints : Appends out.held out'.held text → ReportEnds Is file (devices content faults input out err old disk) (devices content' faults' input out' err new disk) Printed
    prints wrote = (record { holds = holds; text = text; is = is; wrote = wrote; left = Keeps-refl input.left }, refl)

    -- a part of it was written
    pub prints_in_part : AppendsPrefix out.held out'.held text → Rose out.faults out'.faults
        → ReportEnds Is file (devices content faults input out err old disk) (devices content' faults' input out' err new disk) Unprinted
    prints_in_part wrote rose = (record { holds = holds; text = text; is = is; wrote = wrote; left = Keeps-refl input.left; out_cause = rose }, refl)

-- what was counted
module _ (content : Option (List ℕ)) (counts : Counts) (one : HoldsOne (λ text. IsCounted text counts) content) where
  abbrev pub holds_counted : Holds content
  holds_counted = record {
    program = one.is.program;
    names = one.is.names;
    holds = record { text = one.text; told = one.told; is = one.is.is_accepted };
  }

  pub counted_line : (outside : Outside) → IsCheckLine one.is.names one.is.program outside outside (counts_line (decimal counts.classes) (decimal counts.methods))
  counted_line outside = record {
    same = ap (λ n. counts_line (decimal n) (decimal counts.methods)) one.is.classes ∙ ap (λ n. counts_line (decimal (length one.is.program)) (decimal n)) one.is.methods;
    untold = refl;
  }

-- what was compiled
module _ (content : Option (List ℕ)) (c : Compiled) (one : HoldsOne (λ text. IsCompiledOf text c) content) where
  abbrev pub holds_compiled : Holds content
  holds_compiled = record {
    program = compiled_program c;
    names = compiled_names c;
    holds = record { text = one.text; told = one.told; is = one.is.is_accepted };
  }

  pub compiled_is : (made bytes : List ℕ) → made ≡ chars (compiled_text c) → bytes ≡ encode_utf8_all made → (choices : Option Choices) (old new : Option (List Told))
      → AlsoTold old new (GraphTold (compiled_tables c) (compiled_blocks c) ∷ [])
      → IsCompiledText (compiled_names c) (compiled_program c) (outside choices old) (outside choices new) bytes
  compiled_is made bytes is spelt choices old new told =
      let texts = names_are_texts one.is.is_accepted.logical (compiled_program c) (compiled_names c) one.is.is_accepted.parsed in
      record {
        tables = compiled_tables c;
        blocks = compiled_blocks c;
        graph = one.is.whole;
        live = one.is.live;
        same = spelt ∙ ap encode_utf8_all is ∙ same_bytes (compiled_names c) (compiled_program c) (compiled_tables c) (compiled_blocks c) texts one.is.whole.has_tables;
        told = told;
        unchosen = refl;
      }
