-- The compiled graph of an accepted program fits it and means it.
use Rattle.std.proofs.Common.{Some, length}
use Rattle.call_graph.specs.SuspendingCode.{leaving}
use Rattle.compiled_graph.specs.CompiledGraph.{context_of, start_locals}
use Rattle.compiled_graph.proofs.CompiledMeaning.{graph_fits, graph_means}
use Rattle.hoisted_callees.proofs.CalleesStand.{callees_stand}
use Rattle.reached_code.proofs.LeadingStatements.{no_part_is_dead}
use Rattle.typed_methods.proofs.MethodsKeep.{methods_have_types}
use Rattle.compiled_code.specs.CompiledCode.{AcceptedCodeKeepsRules, AcceptedGraphFits, AcceptedGraphMeans}

pub accepted_code_keeps_rules : AcceptedCodeKeepsRules
accepted_code_keeps_rules names program marks accepted =
    let stand = callees_stand names program marks accepted in
    record {
      callees = stand.0;
      types = λ class number m h.
          methods_have_types names program marks accepted class number m h
          (no_part_is_dead (leaving names program marks class) (context_of names program class number) (start_locals names program class number m) (length names) (Some m)) (stand.1 class number m h);
    }

pub accepted_graph_fits : AcceptedGraphFits
accepted_graph_fits names program marks accepted exact = graph_fits names program marks accepted exact (accepted_code_keeps_rules names program marks accepted)

pub accepted_graph_means : AcceptedGraphMeans
accepted_graph_means names program marks accepted exact = graph_means names program marks accepted exact (accepted_code_keeps_rules names program marks accepted)
