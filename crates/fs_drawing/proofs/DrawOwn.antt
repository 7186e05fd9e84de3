-- The arcs that a node has from its graph are drawn as they stand there.
use Rattle.std.proofs.Common.{ℕ, zero, suc, ◌≡◌, ◌<◌, ◌-◌, ◌==◌, Bool, true, false, cond, Option, Some, None, List, [], ◌∷◌, length, find, slice_index, refl, sym, ◌∙◌, ap, subst, arith}
use Rattle.std.specs.Option.{option_map}
use Rattle.fs_model.specs.Claims.{Has, here, there}
use Rattle.fs_graph.specs.declared.graph.GraphArc.{GraphArc}
use Rattle.fs_graph.specs.GraphMap.{arc_to, arcs_at, Rises}
use Rattle.fs_graph.specs.Visits.{feats_of, targets_of}
use Rattle.fs_closing.specs.declared.cells.Cell.{Cell}
use Rattle.fs_closing.specs.declared.nodes.Nodes.{Nodes}
use Rattle.fs_closing.specs.declared.parts.Based.{Based}
use Rattle.fs_closing.specs.Beside.{cells_from, home, row_from}
use Rattle.fs_closing.specs.Cells.{find_arc}
use Rattle.fs_closing.specs.NodeTable.{at_of, own_row, own_type, table_of, IsWhole}
use Rattle.fs_closing.proofs.BesideLemmas.{home_holds}
use Rattle.fs_closing.proofs.MarkLemmas.{table_whole}
use Rattle.fs_drawing.specs.Drawing.{ended_row}
use Rattle.fs_drawing.proofs.DrawRows.{rises_none}

-- a drawn row finds what the row does
pub ended_here : (live : ℕ → ℕ) (cells : List Cell) (f : ℕ) → arc_to (ended_row live cells) f ≡ option_map live (find_arc cells f)
ended_here live [] f = refl
ended_here live (x ∷ cells) f = go (x.feat == f) refl (ended_here live cells f)
  where
    arc : GraphArc
    arc = record { feat = record { 0 = x.feat }; to = record { 0 = live x.to } }

    go : (b : Bool) → (x.feat == f) ≡ b → arc_to (ended_row live cells) f ≡ option_map live (find_arc cells f) →
        arc_to (ended_row live (x ∷ cells)) f ≡ option_map live (find_arc (x ∷ cells) f)
    go true is rest =
        ap (λ b. option_map (λ (y : GraphArc). y.to.0) (cond b (Some arc) (find (λ y. y.feat.0 == f) (ended_row live cells)))) is
        ∙ sym (ap (λ b. option_map live (option_map (λ (y : Cell). y.to) (cond b (Some x) (find (λ y. y.feat == f) cells)))) is)
    go false is rest =
        ap (λ b. option_map (λ (y : GraphArc). y.to.0) (cond b (Some arc) (find (λ y. y.feat.0 == f) (ended_row live cells)))) is
        ∙ rest
        ∙ sym (ap (λ b. option_map live (option_map (λ (y : Cell). y.to) (cond b (Some x) (find (λ y. y.feat == f) cells)))) is)

ended_in : (live : ℕ → ℕ) (m : ℕ) (cells : List Cell) → ((c : Cell) → Has c cells → live c.to < m) →
    (k : ℕ) → k < length (ended_row live cells) → slice_index (targets_of (ended_row live cells)) k < m
ended_in live m [] low k h = absurd (omega arith)
ended_in live m (x ∷ cells) low zero h = low x here
ended_in live m (x ∷ cells) low (suc k) h = ended_in live m cells (λ c i. low c (there i)) k (omega arith)

-- features are drawn as they are
ended_feats : (live : ℕ → ℕ) (base : ℕ) (arcs : List GraphArc) → feats_of (ended_row live (cells_from base arcs)) ≡ feats_of arcs
ended_feats live base [] = refl
ended_feats live base (a ∷ arcs) = ap (λ l. a.feat.0 ∷ l) (ended_feats live base arcs)

ended_size : (live : ℕ → ℕ) (base : ℕ) (arcs : List GraphArc) → length (ended_row live (cells_from base arcs)) ≡ length arcs
ended_size live base [] = refl
ended_size live base (a ∷ arcs) = ap suc (ended_size live base arcs)

ended_rises : (live : ℕ → ℕ) (base : ℕ) (arcs : List GraphArc) → Rises arcs → Rises (ended_row live (cells_from base arcs))
ended_rises live base arcs r i j a b =
    let same = ended_feats live base arcs in
    let less = r i j a (omega (arith, b, ended_size live base arcs)) in
    subst (λ l. slice_index l i < slice_index l j) (sym same) less

-- the arcs that a node has from its graph rise
own_rises : (nodes : Nodes) → IsWhole nodes → (live : ℕ → ℕ) (n : ℕ) → Rises (ended_row live (own_row nodes n))
own_rises nodes whole live n = go (home n nodes.parts) refl
  where
    go : (o : Option Based) → home n nodes.parts ≡ o → Rises (ended_row live (own_row nodes n))
    go None is = rises_none (ended_row live (own_row nodes n)) (ap (λ o. ended_row live (row_from n o)) is)
    go (Some p) is =
        let at = home_holds n nodes.parts p is in
        let graph = (whole.placed p at.2).0 in
        subst (λ o. Rises (ended_row live (row_from n o))) (sym is)
        (ended_rises live p.base (arcs_at p.graph.now (n - p.base)) (graph.rises (n - p.base) at.1))

-- where no arc was added, these are the row of a node; otherwise they are what it has before the others are added
pub own_drawn : (nodes : Nodes) → IsWhole nodes → (n : ℕ) → Rises (ended_row (table_of nodes).live (own_row nodes n)) ×
    ((k : ℕ) → k < length (ended_row (table_of nodes).live (own_row nodes n)) →
    slice_index (targets_of (ended_row (table_of nodes).live (own_row nodes n))) k < nodes.size)
own_drawn nodes whole n =
    let table = table_whole (at_of nodes) (own_type nodes) (own_row nodes) nodes.cells nodes.merges nodes.size whole.stands in (
      own_rises nodes whole (table_of nodes).live n,
      ended_in (table_of nodes).live nodes.size (own_row nodes n) (λ c h. table.live_in c.to (whole.stands.own_in n c h)),
    )
