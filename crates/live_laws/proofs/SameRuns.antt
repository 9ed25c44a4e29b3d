-- Blocks do the same whatever parameters they have.
use Rattle.std.proofs.Common.{◌≡◌, ℕ, zero, suc, Option, Some, List, refl, sym, ap, ◌∙◌, subst}
use Rattle.std.specs.Prelude.{slice_get}
use Rattle.std.proofs.Math.Path.{fun_ext}
use Rattle.std.proofs.lemmas.Option.{same_Some, none-some}
use Rattle.program_meaning.specs.declared.vars.Var.{Var}
use Rattle.sf_value.specs.declared.value.Value.{Value}
use Rattle.program_meaning.specs.World.{Gives}
use Rattle.program_meaning.specs.Evaluation.{Site}
use Rattle.block_code.specs.PlainVars.{PlainVar}
use Rattle.block_code.specs.PlainBlocks.{PlainBlock}
use Rattle.block_runs.specs.BlockRuns.{Go, Exits, run_items, run_end, fall, behind, at_block, run_blocks, recursing, ComesTo}
use Rattle.live_laws.specs.Cut.{Keeps, Stays, with_params, CutAt, no_block, one_block, IsCut}

-- Finding a block in both

pub record CutOf (L : ℕ → Type 0) (b : PlainBlock) (o : Option PlainBlock) : Type 0 where
  pub params : List PlainVar
  pub is : o ≡ Some (with_params b params)
  pub keeps : Keeps L b.params params

pub cut_found : (L : ℕ → Type 0) (o p : Option PlainBlock) → CutAt L o p → (b : PlainBlock) → o ≡ Some b → CutOf L b p
cut_found L _ _ no_block b e = absurd (none-some b e)
cut_found L _ _ (one_block {b = a} {params = params} keeps) b e =
    let same : a ≡ b = same_Some a b e in
    record { params = params; is = ap (λ b. Some (with_params b params)) same; keeps = subst (λ (b : PlainBlock). Keeps L b.params params) same keeps }

pub record CutFrom (L : ℕ → Type 0) (o : Option PlainBlock) (a : PlainBlock) : Type 0 where
  pub whole : PlainBlock
  pub is : o ≡ Some whole
  pub same : with_params whole a.params ≡ a
  pub keeps : Keeps L whole.params a.params

pub cut_came : (L : ℕ → Type 0) (o p : Option PlainBlock) → CutAt L o p → (a : PlainBlock) → p ≡ Some a → CutFrom L o a
cut_came L _ _ no_block a e = absurd (none-some a e)
cut_came L _ _ (one_block {b = b} {params = params} keeps) a e =
    let same : with_params b params ≡ a = same_Some (with_params b params) a e in
    let of_params : params ≡ a.params = ap (λ (a : PlainBlock). a.params) same in
    record { whole = b; is = refl; same = ap (with_params b) (sym of_params) ∙ same; keeps = subst (Keeps L b.params) of_params keeps }

-- Running both

module _ {W R : Type 0} (s : Site W) (x : Exits W R) where
  abbrev block_does : ℕ → (ℕ → Go W R) → PlainBlock → Go W R
  block_does number go b vars w n = behind x (run_items s b.code vars w n) (run_end s x number go (fall x b.catches go) b.end) (fall x b.catches go)

  module _ (before after : List PlainBlock) (cut : IsCut before after) where
    pub runs_same : (fuel : ℕ) → run_blocks s x after fuel ≡ run_blocks s x before fuel
    unfolding run_blocks
    runs_same zero = refl
    runs_same (suc fuel) = fun_ext (λ number. by number (runs_same fuel) (slice_get before number) (slice_get after number) (cut.at number))
      where
        by : (number : ℕ) → run_blocks s x after fuel ≡ run_blocks s x before fuel → (o p : Option PlainBlock) → CutAt (Stays before number) o p
            → at_block p (block_does number (run_blocks s x after fuel)) ≡ at_block o (block_does number (run_blocks s x before fuel))
        by number same _ _ no_block = refl
        by number same _ _ (one_block {b = b} keeps) = ap (λ go. block_does number go b) same

pub comes_to_same : {W : Type 0} (s : Site W) (before after : List PlainBlock) → IsCut before after → (vars : List Var) (w : W) (n : ℕ) (g : Gives W Value) → ComesTo s before vars w n g → ComesTo s after vars w n g
comes_to_same s before after cut vars w n g c = record { fuel = c.fuel; by = ap (λ run. run 0 vars w n) (runs_same s (recursing s) before after cut c.fuel) ∙ c.by }
