-- Marks of nodes, as arcs are gone along side by side.
use Rattle.std.proofs.Common.{ℕ, ◌≡◌, ◌≢◌, ◌≤◌, ◌<◌, ◌+◌, ◌^◌, ◌⊎◌, inl, inr, true, Option, Some, None, List, length, slice_index, slice_set, refl, sym, ◌∙◌, ap, subst, arith}
use Rattle.std.proofs.lemmas.Bool.{cases_lt}
use Rattle.std.proofs.lemmas.List.{get_or-set_same, get_or-set_other, length-set}
use Rattle.fs_model.proofs.StepLemmas.{same_or_other}
use Rattle.type_hierarchy.specs.Table.{TypeTable, is_below}
use Rattle.fs_graph.specs.declared.graph.GraphArc.{GraphArc}
use Rattle.fs_graph.specs.GraphMap.{GraphMap, arc_to, arcs_at, type_at, table_of, IsGraph, Rises}
use Rattle.fs_graph.specs.Visits.{feats_of, targets_of}
use Rattle.fs_graph.proofs.RowLemmas.{arc_found}
use Rattle.fs_trim.specs.Marks.{unmet, Extends}
use Rattle.fs_trim.specs.Matching.{Meets, IsSeen, AreArcsKept, AreArcsMet, IsMatched}
use Rattle.fs_trim.proofs.MeetLemmas.{root_meets, meets_in}

pub Extends-refl : (marks : List ℕ) → Extends marks marks
Extends-refl marks = record { size = refl; kept = λ n e. refl }

pub Extends-trans : (x y z : List ℕ) → Extends x y → Extends y z → Extends x z
Extends-trans x y z d e = record {
  size = e.size ∙ d.size;
  kept = λ n is. e.kept n (subst (λ v. v ≢ unmet) (sym (d.kept n is)) is) ∙ d.kept n is;
}

-- what is matched stays so
pub matched_still : (types : TypeTable) (g h : GraphMap) (old new : List ℕ) (n : ℕ) → Extends old new → IsMatched types g h old n → IsMatched types g h new n
matched_still types g h old new n ext m = record {
  met = subst (λ z. z ≢ unmet) (sym at_n) m.met;
  arcs = λ f k e.
      let r = m.arcs f k e in
      let at_k = ext.kept k r.0 in
      (subst (λ z. z ≢ unmet) (sym at_k) r.0, ap (λ z. (table_of h).arc z f) at_n ∙ r.1 ∙ ap Some (sym at_k));
  type_below = subst (λ z. is_below types (type_at h z) (type_at g n) ≡ true) (sym at_n) m.type_below;
}
  where
    at_n : slice_index new n ≡ slice_index old n
    at_n = ext.kept n m.met

-- one mark more
module _ (g h : GraphMap) (a : IsGraph g) (b : IsGraph h) (marks marks' : List ℕ) (m x : ℕ) (seen : IsSeen g h marks) (m_in : m < length g.types) (meets : Meets g h m x)
    (free : (slice_index marks m ≡ unmet) ⊎ (slice_index marks m ≡ x)) (is : marks' ≡ slice_set marks m x) where
  in_marks : m < length marks
  in_marks = let e = seen.enough in omega arith

  pub at_mark : slice_index marks' m ≡ x
  at_mark = ap (λ l. slice_index l m) is ∙ get_or-set_same marks m x 0 in_marks

  at_other : (n : ℕ) → n ≢ m → slice_index marks' n ≡ slice_index marks n
  at_other n e = ap (λ l. slice_index l n) is ∙ get_or-set_other marks m n x 0 e

  x_met : x ≢ unmet
  x_met e = let l = meets_in g h a b m x meets in let few = seen.few in absurd (omega arith)

  pub mark_met : slice_index marks' m ≢ unmet
  mark_met = subst (λ z. z ≢ unmet) (sym at_mark) x_met

  pub mark_extends : Extends marks marks'
  mark_extends = record { size = ap length is ∙ length-set marks m x; kept = λ n e. kept n e (same_or_other n m) }
    where
      kept : (n : ℕ) → slice_index marks n ≢ unmet → (n ≡ m) ⊎ (n ≢ m) → slice_index marks' n ≡ slice_index marks n
      kept n e (inl d) = go free
        where
          go : (slice_index marks m ≡ unmet) ⊎ (slice_index marks m ≡ x) → slice_index marks' n ≡ slice_index marks n
          go (inl i) = absurd (e (ap (slice_index marks) d ∙ i))
          go (inr i) = ap (slice_index marks') d ∙ at_mark ∙ sym i ∙ ap (slice_index marks) (sym d)
      kept n e (inr d) = at_other n d

  pub mark_seen : IsSeen g h marks'
  mark_seen = record {
    enough = (let e = mark_extends.size in let l = seen.enough in omega arith);
    few = seen.few;
    meets = λ n l e. at n l e (same_or_other n m);
  }
    where
      at : (n : ℕ) → n < length g.types → slice_index marks' n ≢ unmet → (n ≡ m) ⊎ (n ≢ m) → Meets g h n (slice_index marks' n)
      at n l e (inl d) = subst (λ z. Meets g h z (slice_index marks' z)) (sym d) (subst (Meets g h m) (sym at_mark) meets)
      at n l e (inr d) = subst (Meets g h n) (sym (at_other n d)) (seen.meets n l (subst (λ z. z ≢ unmet) (at_other n d) e))

-- an arc is missing where it has no place
pub none_at : (xs : List GraphArc) (place f : ℕ) → Rises xs → ((k : ℕ) → k < place → slice_index (feats_of xs) k < f) → (place < length xs → f < slice_index (feats_of xs) place) →
    arc_to xs f ≡ None
none_at xs place f rises before after = go (arc_to xs f) refl
  where
    go : (o : Option ℕ) → arc_to xs f ≡ o → arc_to xs f ≡ None
    go None e = e
    go (Some m) e = let k = arc_found xs f m e in absurd (nowhere k.0 k.1 k.2 (cases_lt k.0 place) (cases_lt place k.0))
      where
        nowhere : (k : ℕ) → k < length xs → slice_index (feats_of xs) k ≡ f → (k < place) ⊎ (place ≤ k) → (place < k) ⊎ (k ≤ place) → ⊥
        nowhere k l is (inl c) _ = let low = before k c in omega arith
        nowhere k l is (inr c) (inl d) = let up = rises place k d l in let high = after (omega arith) in omega arith
        nowhere k l is (inr c) (inr d) =
            let e : k ≡ place = omega arith in
            let at = ap (slice_index (feats_of xs)) e in
            let high = after (omega arith) in
            omega arith

-- one arc more
pub arcs_more : (g h : GraphMap) (a : IsGraph g) (b : IsGraph h) (arcs others : List GraphArc) (old marks marks' : List ℕ) (i place place' x f t : ℕ) → Rises arcs →
    slice_index (feats_of arcs) i ≡ f → slice_index (targets_of arcs) i ≡ t → AreArcsMet g h arcs others old marks i place → i < length arcs →
    place' ≤ length others → ((k : ℕ) → k < place' → slice_index (feats_of others) k < f) → arc_to others f ≡ Some x → t < length g.types → Meets g h t x →
    (slice_index marks t ≡ unmet) ⊎ (slice_index marks t ≡ x) → marks' ≡ slice_set marks t x → AreArcsMet g h arcs others old marks' (i + 1) place'
arcs_more g h a b arcs others old marks marks' i place place' x f t rises feat_is target_is m l within before is t_in meets free set = record {
  seen = mark_seen g h a b marks marks' t x m.seen t_in meets free set;
  extends = Extends-trans old marks marks' m.extends ext;
  within = within;
  before = λ j k lj lk in_arcs. let low = before j lj in let up = rises i k (omega arith) in_arcs in omega arith;
  done = λ k lk. done k (same_or_other k i) lk;
}
  where
    ext : Extends marks marks'
    ext = mark_extends g h a b marks marks' t x m.seen t_in meets free set

    done : (k : ℕ) → (k ≡ i) ⊎ (k ≢ i) → k < i + 1 →
        (slice_index marks' (slice_index (targets_of arcs) k) ≢ unmet)
        × (arc_to others (slice_index (feats_of arcs) k) ≡ Some (slice_index marks' (slice_index (targets_of arcs) k)))
    done k (inl e) lk =
        let to : slice_index (targets_of arcs) k ≡ t = ap (slice_index (targets_of arcs)) e ∙ target_is in
        let feat : slice_index (feats_of arcs) k ≡ f = ap (slice_index (feats_of arcs)) e ∙ feat_is in (
          subst (λ z. slice_index marks' z ≢ unmet) (sym to) (mark_met g h a b marks marks' t x m.seen t_in meets free set),
          ap (arc_to others) feat ∙ is ∙ ap Some (sym (at_mark g h a b marks marks' t x m.seen t_in meets free set))
              ∙ ap (λ z. Some (slice_index marks' z)) (sym to),
        )
    done k (inr e) lk =
        let r = m.done k (omega arith) in
        let same = ext.kept (slice_index (targets_of arcs) k) r.0 in
        (subst (λ z. z ≢ unmet) (sym same) r.0, r.1 ∙ ap Some (sym same))

-- all arcs
pub arcs_all : (g h : GraphMap) (arcs others : List GraphArc) (old marks : List ℕ) (n i place : ℕ) → arcs ≡ arcs_at g n →
    others ≡ arcs_at h (slice_index old n) → slice_index old n ≢ unmet → length arcs ≤ i → AreArcsMet g h arcs others old marks i place →
    AreArcsKept g h marks n
arcs_all g h arcs others old marks n i place arcs_are others_are met all m f k e =
    let at = arc_found arcs f k (ap (λ l. arc_to l f) arcs_are ∙ e) in
    let in_arcs = at.1 in
    let r = m.done at.0 (omega arith) in
    let to = at.3 in (
      subst (λ z. slice_index marks z ≢ unmet) to r.0,
      ap (λ z. arc_to (arcs_at h z) f) (m.extends.kept n met) ∙ ap (λ l. arc_to l f) (sym others_are) ∙ ap (arc_to others) (sym at.2) ∙ r.1 ∙ ap (λ z. Some (slice_index marks z)) to,
    )

-- no arc yet
pub arcs_begin : (g h : GraphMap) (arcs others : List GraphArc) (marks : List ℕ) → IsSeen g h marks → AreArcsMet g h arcs others marks marks 0 0
arcs_begin g h arcs others marks seen = record {
  seen = seen;
  extends = Extends-refl marks;
  within = omega arith;
  before = λ j k l. absurd (omega arith);
  done = λ k l. absurd (omega arith);
}

-- the root alone
pub root_seen : (g h : GraphMap) (a : IsGraph g) (b : IsGraph h) (blank marks : List ℕ) → length g.types ≤ length blank → length h.types < 2 ^ 32 →
    ((n : ℕ) → n < length blank → slice_index blank n ≡ unmet) → marks ≡ slice_set blank 0 0 → IsSeen g h marks × (slice_index marks 0 ≡ 0)
root_seen g h a b blank marks enough few all is = (
  mark_seen g h a b blank marks 0 0 blank_seen a.numbered.filled (root_meets g h a b) (inl first) is,
  at_mark g h a b blank marks 0 0 blank_seen a.numbered.filled (root_meets g h a b) (inl first) is,
)
  where
    first : slice_index blank 0 ≡ unmet
    first = all 0 (let l = a.numbered.filled in omega arith)

    blank_seen : IsSeen g h blank
    blank_seen = record { enough = enough; few = few; meets = λ n l e. absurd (e (all n (omega arith))) }

pub root_still : (old new : List ℕ) → Extends old new → slice_index old 0 ≡ 0 → slice_index new 0 ≡ 0
root_still old new ext root = ext.kept 0 (λ e. let same : 0 ≡ unmet = sym root ∙ e in cc) ∙ root

-- one node more
pub matched_more : (types : TypeTable) (g h : GraphMap) (old new : List ℕ) (n : ℕ) → Extends old new →
    ((k : ℕ) → k < n → IsMatched types g h old k) → IsMatched types g h new n → (k : ℕ) → k < n + 1 → IsMatched types g h new k
matched_more types g h old new n ext before now k l = go (same_or_other k n)
  where
    go : (k ≡ n) ⊎ (k ≢ n) → IsMatched types g h new k
    go (inl e) = subst (IsMatched types g h new) (sym e) now
    go (inr e) = matched_still types g h old new k ext (before k (omega arith))
