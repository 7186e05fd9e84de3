-- What a structure means is one graph.
use Rattle.std.proofs.Common.{ℕ, ◌≡◌, ◌<◌, [], length, arith, ap, sym, ◌∙◌}
use Rattle.std.proofs.lemmas.List.{ext_get_or}
use Rattle.fs_model.specs.Claims.{IsOrder}
use Rattle.fs_model.proofs.AnswerLemmas.{one_structure}
use Rattle.fs_graph.specs.GraphMap.{GraphMap, IsGraph, IsSameNode, reader_of}
use Rattle.fs_graph.proofs.SameLemmas.{one_graph}
use Rattle.tree_model.specs.Structures.{Structure, Says}
use Rattle.tree_model.specs.Signs.{Signs}
use Rattle.tree_structures.specs.Meant.{IsMeantBy}

same_nodes : (g h : GraphMap) → IsGraph g → IsGraph h → length g.types ≡ length h.types → ((n : ℕ) → n < length g.types → IsSameNode g h n) → g ≡ h
same_nodes g h a b size nodes =
    let types : g.types ≡ h.types = ext_get_or 0 g.types h.types size (λ k l. (nodes k l).0) in
    let arcs : g.arcs ≡ h.arcs = ext_get_or [] g.arcs h.arcs (a.even ∙ size ∙ sym b.even) (λ k l. (nodes k (let e = a.even in omega arith)).1) in
    ap (λ z. record { types = z; arcs = g.arcs }) types ∙ ap (λ z. record { types = h.types; arcs = z }) arcs

pub graphs_one : (g : Signs) → IsOrder g.system → (f : Structure) (a b : GraphMap) → IsMeantBy g f a → IsMeantBy g f b → a ≡ b
graphs_one g o f a b x y =
    let same = one_graph a b x.graph_is y.graph_is (one_structure g.system o (Says g.paths f) (reader_of a) (reader_of b) x.structure y.structure) in
    same_nodes a b x.graph_is y.graph_is same.0 same.1
