-- Rows of arcs as a plan of a depth-first visit.
use Rattle.std.specs.Prelude.{ℕ, List, map, slice_index}
use Rattle.fs_model.specs.DepthFirst.{Plan}
use Rattle.fs_graph.specs.declared.graph.GraphArc.{GraphArc}

abbrev pub feats_of : List GraphArc → List ℕ
feats_of arcs = map (λ a. a.feat.0) arcs

abbrev pub targets_of : List GraphArc → List ℕ
targets_of arcs = map (λ a. a.to.0) arcs

-- rows of arcs as a plan
abbrev pub plan_of : ℕ → List ℕ → List GraphArc → Plan
plan_of nodes starts arcs =
    record { nodes = nodes; start = slice_index starts; feat = slice_index (feats_of arcs); to = slice_index (targets_of arcs) }
