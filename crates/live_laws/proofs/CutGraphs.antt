-- A graph that fits its program fits it again where it is cut to what is live, and its blocks mean the methods that they meant.
use Rattle.std.proofs.Common.{◌≡◌, ◌≤◌, arith, ◌++◌, map, ℕ, zero, suc, Option, Some, None, List, [], ◌∷◌, length, refl, sym, ap, ◌∙◌, subst}
use Rattle.std.specs.Prelude.{slice_get, slice_index_or}
use Rattle.std.proofs.lemmas.Option.{none-some, slice_get_past}
use Rattle.py_tree.specs.PlainProgram.{PlainMethod, PlainProgram}
use Rattle.py_tree.specs.ClassRules.{PlainTable, tables_of}
use Rattle.py_tree.specs.Flow.{in_method}
use Rattle.call_graph.specs.SuspendingCode.{Leaving}
use Rattle.program_meaning.specs.NothingGoesWrong.{IsKnownAccepted}
use Rattle.program_meaning.proofs.TableFacts.{all_at}
use Rattle.block_code.specs.PlainVars.{PlainVar}
use Rattle.block_code.specs.PlainBlocks.{PlainBlock}
use Rattle.block_code.specs.Places.{blocks_of, method_place}
use Rattle.block_code.specs.GraphFits.{var_of, MethodFits, GraphFits}
use Rattle.block_code.proofs.GraphLaws.{found_or, none_or}
use Rattle.block_runs.proofs.Variables.{all_of_each}
use Rattle.request_events.specs.GraphMeans.{GraphMeans, MethodsMean}
use Rattle.request_events.proofs.Requests.{events_mean_their_source}
use Rattle.live_laws.specs.Cut.{Keeps, no_param, kept, dropped, Stays, with_params, CutAt, no_block, one_block, IsCut, AreCut, BlockGoesForth, NeverGoesBack, NoneGoBack}
use Rattle.live_laws.proofs.SameRuns.{comes_to_same}
use Rattle.live_laws.proofs.CutBlocks.{blocks_alike}

pub past_end : {A : Type 0} (xs : List A) (n : ℕ) → slice_get xs n ≡ None → length xs ≤ n
past_end [] n e = omega arith
past_end (x ∷ xs) zero e = absurd (none-some x (sym e))
past_end (x ∷ xs) (suc n) e = let rest : length xs ≤ n = past_end xs n e in omega arith

no_blocks_cut : IsCut [] []
no_blocks_cut = record { as_many = refl; at = λ n. no_block }

pub method_cut : (tables : List PlainTable) (before after : List (List PlainBlock)) → AreCut before after → (class number : ℕ) → IsCut (blocks_of tables before class number) (blocks_of tables after class number)
method_cut tables before after cut class number = by (method_place tables class number) (slice_get before (method_place tables class number)) refl
  where
    by : (place : ℕ) (o : Option (List PlainBlock)) → slice_get before place ≡ o → IsCut (slice_index_or before place []) (slice_index_or after place [])
    by place None e =
        let none : slice_get after place ≡ None = slice_get_past after place (subst (λ n. n ≤ place) (sym cut.as_many) (past_end before place e)) in
        subst (λ bs. IsCut bs (slice_index_or after place [])) (sym (none_or before place [] e)) (subst (IsCut []) (sym (none_or after place [] none)) no_blocks_cut)
    by place (Some blocks) e =
        let p : (made : List PlainBlock) × (slice_get after place ≡ Some made) × IsCut blocks made = cut.each place blocks e in
        subst (λ bs. IsCut bs (slice_index_or after place [])) (sym (found_or before place [] blocks e)) (subst (IsCut blocks) (sym (found_or after place [] p.0 p.1)) p.2)

method_forth : (tables : List PlainTable) (graph : List (List PlainBlock)) → NoneGoBack graph → (class number : ℕ) → NeverGoesBack (blocks_of tables graph class number)
method_forth tables graph forth class number = by (method_place tables class number) (slice_get graph (method_place tables class number)) refl
  where
    by : (place : ℕ) (o : Option (List PlainBlock)) → slice_get graph place ≡ o → NeverGoesBack (slice_index_or graph place [])
    by place None e = subst NeverGoesBack (sym (none_or graph place [] e)) (all_of_each BlockGoesForth [] (λ n b is. absurd (none-some b is)))
    by place (Some blocks) e = subst NeverGoesBack (sym (found_or graph place [] blocks e)) (all_at NeverGoesBack graph place blocks forth e)

-- the first block has all its parameters

all_stay : (blocks : List PlainBlock) {ps qs : List PlainVar} → Keeps (Stays blocks 0) ps qs → qs ≡ ps
all_stay blocks no_param = refl
all_stay blocks (kept {p = p} l k) = ap (λ ps. p ∷ ps) (all_stay blocks k)
all_stay blocks (dropped out k) = absurd (out tt)

pub first_same : (before after : List PlainBlock) → IsCut before after → (b : PlainBlock) → slice_get before 0 ≡ Some b → slice_get after 0 ≡ Some b
first_same before after cut b is = by (slice_get before 0) (slice_get after 0) (cut.at 0) is
  where
    by : (o p : Option PlainBlock) → CutAt (Stays before 0) o p → o ≡ Some b → p ≡ Some b
    by _ _ no_block e = e
    by _ _ (one_block {b = a} keeps) e = ap (λ ps. Some (with_params a ps)) (all_stay before keeps) ∙ e

module _ (names : List (List ℕ)) (program : PlainProgram) where
  method_fits : (leaves : Leaving) (class number : ℕ) (m : PlainMethod) (before after : List PlainBlock) → IsCut before after → NeverGoesBack before → MethodFits names program leaves class number m before → MethodFits names program leaves class number m after
  method_fits leaves class number m before after cut forth f = record {
    sig = f.sig;
    has_sig = f.has_sig;
    locals = f.locals;
    locals_are = f.locals_are;
    temporaries = f.temporaries;
    are_temporaries = f.are_temporaries;
    one_type = f.one_type;
    start = f.start;
    is_start = first_same before after cut f.start f.is_start;
    start_params = f.start_params;
    each = blocks_alike (in_method (tables_of names program) class number) leaves before after cut (map var_of f.locals ++ f.temporaries) forth f.each;
  }

  pub graph_fits : (before after : List (List PlainBlock)) → AreCut before after → NoneGoBack before → GraphFits names program before → GraphFits names program after
  graph_fits before after cut forth f = record {
    marks = f.marks;
    exact = f.exact;
    as_many = cut.as_many ∙ f.as_many;
    methods = λ class number m is.
        method_fits _ class number m (blocks_of (tables_of names program) before class number) (blocks_of (tables_of names program) after class number) (method_cut (tables_of names program) before after cut class number)
        (method_forth (tables_of names program) before forth class number) (f.methods class number m is);
  }

  pub methods_mean : (before after : List (List PlainBlock)) → AreCut before after → MethodsMean names program before → MethodsMean names program after
  methods_mean before after cut mean at light number m is d args w n =
      comes_to_same _ (blocks_of (tables_of names program) before at.0 number) (blocks_of (tables_of names program) after at.0 number) (method_cut (tables_of names program) before after cut at.0 number) _ w n _ (mean at light number m is d args w n)

  -- so it means the program
  pub cut_graph_means : IsKnownAccepted names program → (before after : List (List PlainBlock)) → AreCut before after → NoneGoBack before → GraphFits names program before → MethodsMean names program before → GraphMeans names program after
  cut_graph_means accepted before after cut forth fits mean = events_mean_their_source names program accepted after (graph_fits before after cut forth fits) (methods_mean before after cut mean)
