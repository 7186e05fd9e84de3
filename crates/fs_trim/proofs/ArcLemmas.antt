-- An arc of a node, and the arc with the same feature of the node that stands for it.
use Rattle.std.proofs.Common.{ℕ, ◌≡◌, ◌≢◌, ◌≤◌, ◌<◌, ◌+◌, ◌⊎◌, Some, None, List, length, slice_index, slice_index_or, slice_set, sym, ◌∙◌, ap, subst}
use Rattle.std.proofs.lemmas.List.{get_or-map}
use Rattle.fs_graph.specs.declared.graph.GraphArc.{GraphArc}
use Rattle.fs_graph.specs.GraphMap.{GraphMap, arc_to, arcs_at, table_of, IsGraph, Rises}
use Rattle.fs_graph.specs.Visits.{feats_of, targets_of}
use Rattle.fs_graph.proofs.RowLemmas.{arc_there}
use Rattle.fs_trim.specs.Marks.{unmet}
use Rattle.fs_trim.specs.Matching.{Meets, IsSeen, AreArcsMet, NeverSubsumes}
use Rattle.fs_trim.proofs.MeetLemmas.{meets_in, meets_on, no_arc, two_nodes}
use Rattle.fs_trim.proofs.MarkLemmas.{arcs_more}

abbrev pub no_graph_arc : GraphArc
no_graph_arc = record { feat = record { 0 = 0 }; to = record { 0 = 0 } }

pub feat_at : (arcs : List GraphArc) (i : ℕ) → i < length arcs → slice_index (feats_of arcs) i ≡ (slice_index_or arcs i no_graph_arc).feat.0
feat_at arcs i l = get_or-map (λ a. a.feat.0) arcs i no_graph_arc 0 l

pub target_at : (arcs : List GraphArc) (i : ℕ) → i < length arcs → slice_index (targets_of arcs) i ≡ (slice_index_or arcs i no_graph_arc).to.0
target_at arcs i l = get_or-map (λ a. a.to.0) arcs i no_graph_arc 0 l

module _ (g h : GraphMap) (a : IsGraph g) (b : IsGraph h) (n m : ℕ) (n_in : n < length g.types) (meets : Meets g h n m) (arcs others : List GraphArc)
    (arcs_are : arcs ≡ arcs_at g n) (others_are : others ≡ arcs_at h m) where
  pub arcs_rise : Rises arcs
  arcs_rise = subst Rises (sym arcs_are) (a.rises n n_in)

  pub others_rise : Rises others
  others_rise = subst Rises (sym others_are) (b.rises m (meets_in g h a b n m meets))

  module _ (i : ℕ) (l : i < length arcs) where
    abbrev feat : ℕ
    feat = (slice_index_or arcs i no_graph_arc).feat.0

    abbrev target : ℕ
    target = (slice_index_or arcs i no_graph_arc).to.0

    here : (table_of g).arc n feat ≡ Some target
    here =
        ap (λ z. arc_to z feat) (sym arcs_are) ∙ ap (arc_to arcs) (sym (feat_at arcs i l)) ∙ arc_there arcs i arcs_rise l
        ∙ ap Some (target_at arcs i l)

    there : (table_of h).arc m feat ≡ arc_to others feat
    there = ap (λ z. arc_to z feat) (sym others_are)

    pub target_in : target < length g.types
    target_in = a.numbered.table.arc_in n feat target n_in here

    pub target_meets : (x : ℕ) → arc_to others feat ≡ Some x → Meets g h target x
    target_meets x e = meets_on g h a b n m feat target x meets here (there ∙ e)

    -- the arc is missing
    pub missing_arc : arc_to others feat ≡ None → NeverSubsumes g h
    missing_arc e = no_arc g h a b n m feat target meets here (there ∙ e)

    -- another node stands for the arc's node already
    pub other_node : (marks : List ℕ) (x : ℕ) → IsSeen g h marks → arc_to others feat ≡ Some x → slice_index marks target ≢ unmet →
        slice_index marks target ≢ x → NeverSubsumes g h
    other_node marks x seen e met apart = two_nodes g h a b target (slice_index marks target) x (seen.meets target target_in met) (target_meets x e) apart

    -- and where none does, or this one, the next arc's turn comes
    pub next_arc : (old marks marks' : List ℕ) (place place' x : ℕ) → AreArcsMet g h arcs others old marks i place → place' ≤ length others →
        ((k : ℕ) → k < place' → slice_index (feats_of others) k < feat) → arc_to others feat ≡ Some x →
        (slice_index marks target ≡ unmet) ⊎ (slice_index marks target ≡ x) → marks' ≡ slice_set marks target x →
        AreArcsMet g h arcs others old marks' (i + 1) place'
    next_arc old marks marks' place place' x met within before is free set =
        arcs_more g h a b arcs others old marks marks' i place place' x feat target arcs_rise (feat_at arcs i l) (target_at arcs i l) met l within before is
        target_in (target_meets x is) free set
