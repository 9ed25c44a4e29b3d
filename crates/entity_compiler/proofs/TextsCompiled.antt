-- What a text is compiled to, by what it is read as.
use Rattle.std.proofs.Common.{◌≡◌, ℕ, List, Ok, Err, sym, subst}
use Rattle.py_tree.specs.CheckedViews.{checked_program, checked_names}
use Rattle.py_tree.specs.declared.checked.Checked.{Checked}
use Rattle.py_tree.specs.PlainProgram.{PlainProgram}
use Rattle.block_code.specs.PlainBlocks.{PlainBlock}
use Rattle.live_laws.specs.Cut.{GraphHasLiveParams}
use Rattle.block_step.specs.CompiledViews.{compiled_program, compiled_names, compiled_blocks, IsWhole}
use Rattle.block_step.specs.declared.compiled.Compiled.{Compiled}
use Rattle.program_text.specs.declared.fault.ProgramError.{ProgramError}
use Rattle.program_text.specs.declared.fault.ProgramError.TheVariants.{Fault, NoMemory}
use Rattle.program_text.specs.Readings.{IsAcceptedText, Reads}
use Rattle.entity_compiler.specs.Compiling.{Compiles}

-- the same graph takes what is live
pub live_so : (names names' : List (List ℕ)) (program program' : PlainProgram) (blocks blocks' : List (List PlainBlock)) → names' ≡ names → program' ≡ program → blocks' ≡ blocks
    → GraphHasLiveParams names program blocks → GraphHasLiveParams names' program' blocks'
live_so names names' program program' blocks blocks' is_names is_program are live =
    subst (λ ns. GraphHasLiveParams ns program' blocks') (sym is_names) (subst (λ q. GraphHasLiveParams names q blocks') (sym is_program) (subst (GraphHasLiveParams names program) (sym are) live))

module _ (text : List ℕ) where
  pub accepted_text : (p : Checked) (c : Compiled) → IsAcceptedText text (checked_program p) (checked_names p) → compiled_program c ≡ checked_program p → compiled_names c ≡ checked_names p
      → GraphHasLiveParams (compiled_names c) (compiled_program c) (compiled_blocks c) → IsWhole c → Compiles text (Ok c)
  accepted_text p c is program names live whole = record {
    is_accepted = subst (λ ns. IsAcceptedText text (compiled_program c) ns) (sym names) (subst (λ q. IsAcceptedText text q (checked_names p)) (sym program) is);
    live = live;
    whole = whole;
  }

  pub refused_text : (e : ProgramError) → Reads text (Err e) → Compiles text (Err e)
  refused_text (Fault f) is = is
  refused_text NoMemory is = tt

  pub without_memory : (e : ProgramError) → e ≡ NoMemory → Compiles text (Err e)
  without_memory e is = subst (λ f. Compiles text (Err f)) (sym is) tt
