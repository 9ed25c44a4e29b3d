-- The blocks of a flat method mean the flat method.
use Rattle.std.proofs.Common.{◌≡◌, ℕ, suc, ◌+◌, ◌<◌, arith, Some, List, [], ◌∷◌, ◌++◌, length, length-append, append_assoc, refl, ap, ◌∙◌, subst}
use Rattle.std.proofs.Math.Seq.{get_or-append_seam}
use Rattle.std.proofs.lemmas.Option.{slice_get-get_or}
use Rattle.call_graph.specs.SuspendingCode.{Leaving}
use Rattle.program_meaning.specs.declared.vars.Var.{Var}
use Rattle.program_meaning.specs.World.{Ends, Goes, Returns, Breaks, Continues, Fails, result_of}
use Rattle.program_meaning.specs.Evaluation.{Site}
use Rattle.program_meaning.specs.Calls.{bound}
use Rattle.program_meaning.specs.StepsLeft.{CallsTakeSteps}
use Rattle.block_code.specs.PlainBlocks.{PlainBlock}
use Rattle.block_runs.specs.BlockRuns.{run_items, run_end, run_blocks, ComesTo}
use Rattle.flat_tree.specs.PlainFlat.{PlainFlat, flat_stmts_of}
use Rattle.flat_tree.specs.FlatMeaning.{run, run_flat}
use Rattle.flat_tree.specs.Flatness.{AreFlat}
use Rattle.method_splitter.specs.Callees.{CalleesAreNamed}
use Rattle.method_splitter.specs.Split.{block, leave, outermost, split_all, split_blocks}
use Rattle.method_splitter.specs.SplitMeaning.{BlocksMeanFlat}
use Rattle.method_splitter.proofs.RestsRun.{StandAt, After}
use Rattle.method_splitter.proofs.CodeFollows.{stmts_lead}

-- blocks stand behind those before them
pub stand_all : (bs before : List PlainBlock) → StandAt (before ++ bs) (length before) bs
stand_all [] before = tt
stand_all (b ∷ bs) before =
    let inside : length before < length (before ++ b ∷ bs) = omega (arith, length-append before (b ∷ bs)) in
    let one : length (before ++ b ∷ []) ≡ length before + 1 = omega (arith, length-append before (b ∷ [])) in
    let behind = subst (λ l. StandAt l (length (before ++ b ∷ [])) bs) (append_assoc before (b ∷ []) bs) (stand_all bs (before ++ b ∷ [])) in
    (slice_get-get_or (before ++ b ∷ bs) (length before) b inside ∙ ap Some (get_or-append_seam before b bs b), subst (λ k. StandAt (before ++ b ∷ bs) k bs) one behind)

module _ {W : Type 0} (s : Site W) where
  -- where the method ends
  method_ends : (g : List PlainBlock) (e : Ends W) → After s g outermost leave e (result_of e)
  unfolding run_items run_end
  method_ends g (Goes vars w n) = record { fuel = 0; by = λ number. refl }
  method_ends g (Returns v w n) = refl
  method_ends g (Breaks vars w n) = record { fuel = 0; by = λ number. refl }
  method_ends g (Continues vars w n) = record { fuel = 0; by = λ number. refl }
  method_ends g (Fails f vars w n) = record { fuel = 0; by = refl }

  pub body_comes : CallsTakeSteps s.calls → (leaves : Leaving) (flat : PlainFlat) → AreFlat leaves (flat_stmts_of flat.body) → CalleesAreNamed s.src (flat_stmts_of flat.body)
      → (vars : List Var) (w : W) (n : ℕ) → ComesTo s (split_blocks flat) vars w n (result_of (run s flat.body vars w n))
  unfolding run_blocks
  body_comes calls leaves flat is_flat named vars w n =
      let body = split_all (flat_stmts_of flat.body) outermost leave 1 in
      let g = split_blocks flat in
      let stand = stand_all body.made (block outermost flat.params body.got ∷ []) in
      let r = (stmts_lead s calls g leaves (flat_stmts_of flat.body) is_flat named outermost (record { breaks = tt; continues = tt }) leave 1 stand vars w n).by _ (method_ends g (run s flat.body vars w n)) in
      record { fuel = suc r.fuel; by = r.by 0 }

pub blocks_mean_flat : BlocksMeanFlat
unfolding run_flat
blocks_mean_flat leaves s calls flat is_flat named params args w n = body_comes s calls leaves flat is_flat named (bound params args) w n
