-- The walk along the cells of a list.
use Rattle.std.specs.Prelude.{ℕ, ◌≡◌, ◌⊎◌, ◌+◌, ◌<◌, ◌≤◌, Some, List, [], ◌∷◌, ◌++◌, length, slice_index_or}
use Rattle.std.proofs.Common.{refl, sym, ◌∙◌, ap, subst, arith, zero, suc, inl, inr, append_assoc, append-nil, length-append, get_or}
use Rattle.std.proofs.lemmas.List.{map-append, get_or_append_left, get_or-append-add}
use Rattle.std.proofs.lemmas.Bool.{cases_lt}
use Rattle.fs_graph.specs.declared.graph.Node.{Node}
use Rattle.fs_graph.specs.GraphMap.{GraphMap, IsGraph, node_at, arc_to, arcs_at, reader_of}
use Rattle.tree_model.specs.Structures.{Structure}
use Rattle.tree_model.specs.Mothers.{RuleSystem, Meant}
use Rattle.generate_model.specs.Threads.{times}
use Rattle.generate_model.specs.Threading.{Fit}
use Rattle.relation_fit.specs.Fits.{IsPartOf}
use Rattle.relation_fit.specs.Lists.{RelList}
use Rattle.relation_fit.specs.Inner.Cells.{AreCells, nodes_of}
use Rattle.relation_fit.proofs.Nodes.{node_next}

times_more : (f k : ℕ) → times f k ++ f ∷ [] ≡ times f (suc k)
times_more f zero = refl
times_more f (suc k) = ap (λ p. f ∷ p) (times_more f k)

module _ (g : GraphMap) (l : RelList) where
  -- the cells before a node
  pub record Before (cells : List ℕ) (node : ℕ) : Type 0 where
    pub each : (j : ℕ) → j < length cells → node_at g (l.ends.start ++ times l.rest j) ≡ Some (slice_index_or cells j 0)
    pub there : node_at g (l.ends.start ++ times l.rest (length cells)) ≡ Some node

  pub before_none : (node : ℕ) → node_at g l.ends.start ≡ Some node → Before [] node
  before_none node e = record { each = λ j lt. absurd (omega (arith, lt)); there = subst (λ p. node_at g p ≡ Some node) (sym (append-nil l.ends.start)) e }

  pub before_more : IsGraph g → (cells : List ℕ) (node next : ℕ) → Before cells node → arc_to (arcs_at g node) l.rest ≡ Some next → Before (cells ++ node ∷ []) next
  before_more is cells node next b e = record { each = λ j lt. each j lt (cases_lt j (length cells)); there = there }
    where
      long : length (cells ++ node ∷ []) ≡ suc (length cells)
      long = let a = length-append cells (node ∷ []) in omega (arith, a)

      each : (j : ℕ) → j < length (cells ++ node ∷ []) → (j < length cells) ⊎ (length cells ≤ j) → node_at g (l.ends.start ++ times l.rest j) ≡ Some (slice_index_or (cells ++ node ∷ []) j 0)
      each j lt (inl h) = b.each j h ∙ ap Some (sym (get_or_append_left cells (node ∷ []) 0 j h))
      each j lt (inr h) =
          let at : j ≡ length cells + 0 = omega (arith, h, lt, long) in
          let e : slice_index_or (cells ++ node ∷ []) j 0 ≡ node = ap (λ i. get_or (cells ++ node ∷ []) i 0) at ∙ get_or-append-add cells (node ∷ []) 0 0 in
          let here : j ≡ length cells = omega (arith, at) in
          ap (λ i. node_at g (l.ends.start ++ times l.rest i)) here ∙ b.there ∙ ap Some (sym e)

      there : node_at g (l.ends.start ++ times l.rest (length (cells ++ node ∷ []))) ≡ Some next
      there =
          ap (λ i. node_at g (l.ends.start ++ times l.rest i)) long
          ∙ ap (node_at g) (sym (append_assoc l.ends.start (times l.rest (length cells)) (l.rest ∷ []) ∙ ap (λ p. l.ends.start ++ p) (times_more l.rest (length cells))))
          ∙ node_next g is (l.ends.start ++ times l.rest (length cells)) node l.rest b.there ∙ e

  pub before_end : (cells : List ℕ) (node : ℕ) → Before cells node → node_at g l.ends.end ≡ Some node → AreCells g l cells
  before_end cells node b e = record { each = b.each; end = node; behind = b.there; ends = e }

  pub cells_fit : (cells : List ℕ) → AreCells g l cells → (h : RuleSystem) (f : Structure) → IsPartOf (Meant h f) (reader_of g) → Fit h l.rest l.ends f
  cells_fit cells c h f part = (length cells, part.equal (l.ends.start ++ times l.rest (length cells)) l.ends.end c.end c.behind c.ends)

pub nodes_more : (ns : List Node) (n : Node) → nodes_of (ns ++ n ∷ []) ≡ nodes_of ns ++ n.0 ∷ []
nodes_more ns n = map-append (λ (m : Node). m.0) ns (n ∷ [])
