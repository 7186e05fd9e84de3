-- A graph that was drawn has the types and features of its nodes.
use Rattle.std.proofs.Common.{ℕ, ◌≡◌, ◌<◌, ◌⊎◌, inl, inr, Bool, Option, Some, None, [], ◌∷◌, ◌++◌, length, refl, sym, ◌∙◌, ap, subst, arith}
use Rattle.std.proofs.lemmas.List.{get_or_default}
use Rattle.fs_model.specs.Claims.{Path, Has}
use Rattle.fs_model.specs.Sources.{IsSameStructure}
use Rattle.fs_model.specs.Table.{Table, IsTable, walk}
use Rattle.fs_model.proofs.TableLemmas.{walk-append, walk-step}
use Rattle.fs_graph.specs.declared.graph.GraphArc.{GraphArc}
use Rattle.fs_graph.specs.GraphMap.{GraphMap, IsGraph, table_of as graph_table, type_at, arcs_at, reader_of}
use Rattle.fs_closing.specs.declared.nodes.Nodes.{Nodes}
use Rattle.fs_closing.specs.declared.cells.Cell.{Cell}
use Rattle.fs_closing.specs.Cells.{chain}
use Rattle.fs_closing.proofs.HasLemmas.{Has-either}
use Rattle.fs_closing.specs.NodeTable.{table_of, at_of, own_type, own_row, first_of, IsWhole, IsWithin}
use Rattle.fs_closing.proofs.ChainLemmas.{find_arc-has, chain-has}
use Rattle.fs_closing.proofs.MarkLemmas.{table_whole}
use Rattle.fs_closing.specs.NodeSteps.{IsGraphIn}
use Rattle.fs_drawing.specs.Drawing.{IsPicture}
use Rattle.fs_closing.proofs.BesideLemmas.{rises_found}
use Rattle.fs_drawing.proofs.DrawLemmas.{root_shown}

module _ (nodes : Nodes) (whole : IsWhole nodes) (types feats : ℕ)
    (within : IsWithin types feats nodes) where
  abbrev t : Table
  t = table_of nodes

  ok : IsTable (table_of nodes)
  ok = table_whole (at_of nodes) (own_type nodes) (own_row nodes) nodes.cells nodes.merges nodes.size whole.stands

  feature_in : (c : Cell) (first n : ℕ) → Has c (chain nodes.cells first) ⊎ Has c (own_row nodes n) → c.feat < feats
  feature_in c first n (inl h) = within.feat_in c (chain-has nodes.cells first c h)
  feature_in c first n (inr h) = within.own_feat n c h

  arc_feature : (n f m : ℕ) → walk (table_of nodes) n (f ∷ []) ≡ Some m → f < feats
  arc_feature n f m e = go ((table_of nodes).arc ((table_of nodes).live n) f) refl
    where
      go : (o : Option ℕ) → (table_of nodes).arc ((table_of nodes).live n) f ≡ o → f < feats
      go None is =
          let stops : None ≡ walk (table_of nodes) n (f ∷ []) = ap (λ o. elim o as (λ _. Option ℕ) [ None ↦ None | Some i ↦ walk (table_of nodes) i [] ]) (sym is) in
          absurd (let d : None ≡ Some m = stops ∙ e in cc)
      go (Some i) is =
          let first = first_of nodes ((table_of nodes).live n) in
          let own = own_row nodes ((table_of nodes).live n) in
          let r = find_arc-has (chain nodes.cells first ++ own) f i is in
          let low = feature_in r.0 first ((table_of nodes).live n) (Has-either r.0 (chain nodes.cells first) own r.1) in
          omega (arith, low, r.2)

  pub graph_inside : (left : Bool → ℕ → Bool) (node_of : ℕ → ℕ) (plan graph : GraphMap) → IsPicture (table_of nodes) left node_of plan → 0 < length plan.types →
      IsSameStructure (reader_of plan) (reader_of graph) → IsGraph graph → IsGraphIn types feats graph
  graph_inside left node_of plan graph shows some same gi = record {
    types_in = λ k d h. subst (λ x. x < types) (get_or_default graph.types k 0 d h) (type_in k h);
    feats_in = feats_in;
  }
    where
      shown : (p : Path) (n : ℕ) → walk (graph_table plan) 0 p ≡ Some n → (walk (table_of nodes) 0 p ≡ Some (node_of n)) × (n < length plan.types)
      shown p n e = root_shown (table_of nodes) ok left node_of plan shows some p n e

      in_table : (p : Path) (n : ℕ) → walk (graph_table plan) 0 p ≡ Some n → walk (table_of nodes) 0 p ≡ Some (node_of n)
      in_table p n e = (shown p n e).0

      type_in : (k : ℕ) → k < length graph.types → type_at graph k < types
      type_in k h =
          let e = (gi.numbered.is_least k h).leads in
          let back = same.there_back (gi.least k) k e in
          let at = shown (gi.least k) back.0 back.1 in
          let is = sym (shows.types back.0 at.1) ∙ same.types (gi.least k) back.0 k back.1 e in
          subst (λ x. x < types) is (within.type_in (node_of back.0) (shows.node_in back.0 at.1))

      feats_in : (k : ℕ) (a : GraphArc) → k < length graph.types → Has a (arcs_at graph k) → a.feat.0 < feats
      feats_in k a h has =
          let p = gi.least k in
          let f = a.feat.0 in
          let e = (gi.numbered.is_least k h).leads in
          let found = rises_found (arcs_at graph k) a (gi.rises k h) has in
          let one = walk-append (graph_table graph) gi.numbered.table 0 k p (f ∷ []) e ∙ walk-step (graph_table graph) k a.to.0 f [] found in
          let here_is = same.there_back p k e in
          let there_is = same.there_back (p ++ f ∷ []) a.to.0 one in
          let on = sym (walk-append (table_of nodes) ok 0 (node_of here_is.0) p (f ∷ []) (in_table p here_is.0 here_is.1)) ∙ in_table (p ++ f ∷ []) there_is.0 there_is.1 in
          arc_feature (node_of here_is.0) f (node_of there_is.0) on
