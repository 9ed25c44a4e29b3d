-- A graph of compiled blocks, cut to what is live, is one of its program.
use Rattle.std.proofs.Common.{◌≡◌, Bool, List, Result, Ok, Err, sym, subst}
use Rattle.std.specs.Prelude.{IfOk}
use Rattle.std.specs.declared.alloc.AllocError.{AllocError}
use Rattle.py_tree.specs.ClassRules.{tables_of}
use Rattle.py_tree.specs.CheckedViews.{checked_program, checked_names}
use Rattle.py_tree.specs.declared.checked.Checked.{Checked}
use Rattle.call_graph.specs.Marks.{IsGraph}
use Rattle.program_meaning.specs.NothingGoesWrong.{IsKnownAccepted}
use Rattle.block_code.specs.PlainBlocks.{PlainBlock}
use Rattle.block_code.specs.GraphFits.{GraphFits}
use Rattle.block_code.specs.GraphViews.{graph_tables, graph_blocks}
use Rattle.block_code.specs.declared.graph.Graph.{Graph}
use Rattle.request_events.specs.GraphMeans.{GraphMeans}
use Rattle.live_laws.specs.Cut.{AreCut, NoneGoBack, GraphHasLiveParams}
use Rattle.compiled_graph.specs.CompiledGraph.{compiled}
use Rattle.compiled_code.proofs.CompiledCode.{accepted_graph_fits, accepted_graph_means}
use Rattle.never_back.proofs.GoesForth.{compiled_never_goes_back}
use Rattle.entity_compiler.specs.Compiling.{AreCompiled, IsGraphOf}

-- what is known of an accepted program
abbrev pub known : (p : Checked) → IsKnownAccepted (checked_names p) (checked_program p)
known p = record { bounded = p.bounded; rules = p.rules; table = p.table }

module _ (p : Checked) where
  -- blocks of the program that are cut, and still fit it and mean it
  pub record AreCutBlocks (cut : List (List PlainBlock)) : Type 0 where
    pub blocks : AreCompiled (checked_names p) (checked_program p) cut
    pub live : GraphHasLiveParams (checked_names p) (checked_program p) cut
    pub fits : GraphFits (checked_names p) (checked_program p) cut
    pub means : GraphMeans (checked_names p) (checked_program p) cut

  module _ (marks : List (List Bool)) (exact : IsGraph (checked_names p) (checked_program p) marks) where
    -- compiled blocks fit the program
    pub blocks_fit : (blocks : List (List PlainBlock)) → blocks ≡ compiled (checked_names p) (checked_program p) marks → GraphFits (checked_names p) (checked_program p) blocks
    blocks_fit blocks are = subst (GraphFits (checked_names p) (checked_program p)) (sym are) (accepted_graph_fits (checked_names p) (checked_program p) marks (known p) exact)

    -- and none goes back to the first of its method
    pub none_go_back : (blocks : List (List PlainBlock)) → blocks ≡ compiled (checked_names p) (checked_program p) marks → NoneGoBack blocks
    none_go_back blocks are = subst NoneGoBack (sym are) (compiled_never_goes_back (checked_names p) (checked_program p) marks)

    pub cut_blocks : (blocks cut : List (List PlainBlock)) → blocks ≡ compiled (checked_names p) (checked_program p) marks → AreCut blocks cut → GraphHasLiveParams (checked_names p) (checked_program p) cut
        → GraphFits (checked_names p) (checked_program p) cut → (GraphMeans (checked_names p) (checked_program p) blocks → GraphMeans (checked_names p) (checked_program p) cut) → AreCutBlocks cut
    cut_blocks blocks cut are is live fits means = record {
      blocks = record { marks = marks; exact = exact; cut = subst (λ bs. AreCut bs cut) are is };
      live = live;
      fits = fits;
      means = means (subst (GraphMeans (checked_names p) (checked_program p)) (sym are) (accepted_graph_means (checked_names p) (checked_program p) marks (known p) exact));
    }

  -- the graph that has them, with the tables of the program, is one of it
  pub whole_graph : (cut : List (List PlainBlock)) → AreCutBlocks cut → (g : Graph) → graph_tables g ≡ tables_of (checked_names p) (checked_program p) → graph_blocks g ≡ cut
      → IsGraphOf (checked_names p) (checked_program p) (graph_tables g) (graph_blocks g)
  whole_graph cut of g tables same =
      let ours : AreCutBlocks (graph_blocks g) = subst AreCutBlocks (sym same) of in
      record { blocks = ours.blocks; live = ours.live; whole = record { has_tables = tables; fits = ours.fits; means = ours.means } }

  pub graph_if_made : (cut : List (List PlainBlock)) → AreCutBlocks cut → (made : Result Graph AllocError) → IfOk made (λ g. graph_tables g ≡ tables_of (checked_names p) (checked_program p))
      → IfOk made (λ g. graph_blocks g ≡ cut) → IfOk made (λ g. IsGraphOf (checked_names p) (checked_program p) (graph_tables g) (graph_blocks g))
  graph_if_made cut of (Ok g) tables same = whole_graph cut of g tables same
  graph_if_made cut of (Err e) tables same = tt
