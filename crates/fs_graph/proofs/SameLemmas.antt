-- Two graphs that are one structure are equal.
use Rattle.std.proofs.Common.{ℕ, suc, ◌≡◌, ◌≢◌, ◌≤◌, ◌<◌, ◌==◌, ◌&&◌, Decides, ◌⊎◌, inl, inr, Bool, true, false, not, cond, Option, Some, None, option_map, List, [], ◌∷◌, length, slice_index, refl, sym, ◌∙◌, ap, subst, arith, eq-eqb}
use Rattle.std.specs.List.{find}
use Rattle.std.proofs.lemmas.Bool.{cases_lt, ne_eqb, eqb-true}
use Rattle.std.proofs.lemmas.List.{ext_get_or}
use Rattle.fs_model.specs.Sources.{IsSameStructure}
use Rattle.fs_model.specs.Numbering.{IsSameTable}
use Rattle.fs_model.proofs.NumberingLemmas.{numbers_are_one}
use Rattle.fs_model.proofs.StepLemmas.{same_or_other}
use Rattle.type_hierarchy.specs.declared.types.Ty.{Ty}
use Rattle.fs_graph.specs.declared.graph.GraphArc.{GraphArc}
use Rattle.fs_graph.specs.GraphMap.{GraphMap, arc_to, arcs_at, type_at, table_of, reader_of, Rises, IsGraph, IsSameNode}
use Rattle.fs_graph.specs.Visits.{feats_of}
use Rattle.fs_graph.proofs.RowLemmas.{arc_found}

rises_rest : (x : GraphArc) (xs : List GraphArc) → Rises (x ∷ xs) → Rises xs
rises_rest x xs r i j h l = r (suc i) (suc j) (omega arith) (omega arith)

-- a feature that isn't above the first one stands nowhere behind it
none_behind : (x : GraphArc) (xs : List GraphArc) (f : ℕ) → Rises (x ∷ xs) → f ≤ x.feat.0 → arc_to xs f ≡ None
none_behind x xs f r h = go (arc_to xs f) refl
  where
    go : (o : Option ℕ) → arc_to xs f ≡ o → arc_to xs f ≡ None
    go None e = e
    go (Some m) e =
        let k = arc_found xs f m e in
        let in_list = k.1 in
        let is = k.2 in
        let up : x.feat.0 < slice_index (feats_of xs) k.0 = r 0 (suc k.0) (omega arith) (omega arith) in
        absurd (omega arith)

arc_first : (x : GraphArc) (xs : List GraphArc) → arc_to (x ∷ xs) x.feat.0 ≡ Some x.to.0
arc_first x xs = ap (λ b. option_map (λ a. a.to.0) (cond b (Some x) (find (λ a. a.feat.0 == x.feat.0) xs))) (eq-eqb x.feat.0 x.feat.0 refl)

arc_behind : (x : GraphArc) (xs : List GraphArc) (f : ℕ) → f ≢ x.feat.0 → arc_to (x ∷ xs) f ≡ arc_to xs f
arc_behind x xs f apart = ap (λ b. option_map (λ a. a.to.0) (cond b (Some x) (find (λ a. a.feat.0 == f) xs))) (ne_eqb x.feat.0 f (λ e. apart (sym e)))

-- lists of arcs by rising feature with the same look-ups are equal
pub rising_same : (xs ys : List GraphArc) → Rises xs → Rises ys → ((f : ℕ) → arc_to xs f ≡ arc_to ys f) → xs ≡ ys
rising_same [] [] r s same = refl
rising_same [] (y ∷ ys) r s same = let e = same y.feat.0 ∙ arc_first y ys in absurd cc
rising_same (x ∷ xs) [] r s same = let e = sym (same x.feat.0) ∙ arc_first x xs in absurd cc
rising_same (x ∷ xs) (y ∷ ys) r s same = go (cases_lt x.feat.0 y.feat.0) (cases_lt y.feat.0 x.feat.0) (rising_same xs ys (rises_rest x xs r) (rises_rest y ys s))
  where
    go : (x.feat.0 < y.feat.0) ⊎ (y.feat.0 ≤ x.feat.0) → (y.feat.0 < x.feat.0) ⊎ (x.feat.0 ≤ y.feat.0) → (((f : ℕ) → arc_to xs f ≡ arc_to ys f) → xs ≡ ys) →
        x ∷ xs ≡ y ∷ ys
    go (inl l) _ rest =
        let a : None ≡ Some x.to.0 =
        sym (none_behind y ys x.feat.0 s (omega arith)) ∙ sym (arc_behind y ys x.feat.0 (λ e. absurd (omega arith))) ∙ sym (same x.feat.0) ∙ arc_first x xs in
        absurd cc
    go (inr l) (inl m) rest =
        let a : None ≡ Some y.to.0 =
        sym (none_behind x xs y.feat.0 r (omega arith)) ∙ sym (arc_behind x xs y.feat.0 (λ e. absurd (omega arith))) ∙ same y.feat.0 ∙ arc_first y ys in
        absurd cc
    go (inr l) (inr m) rest =
        let feat : x.feat.0 ≡ y.feat.0 = omega arith in
        let to : Some x.to.0 ≡ Some y.to.0 = sym (arc_first x xs) ∙ same x.feat.0 ∙ ap (arc_to (y ∷ ys)) feat ∙ arc_first y ys in
        let to' : x.to.0 ≡ y.to.0 = cc in
        let head : x ≡ y = ap (λ z. record { feat = record { 0 = z }; to = x.to }) feat ∙ ap (λ z. record { feat = y.feat; to = record { 0 = z } }) to' in
        ap (λ z. z ∷ xs) head ∙ ap (λ z. y ∷ z) (rest (λ f. tails f feat (same_or_other f x.feat.0)))
      where
        tails : (f : ℕ) → x.feat.0 ≡ y.feat.0 → (f ≡ x.feat.0) ⊎ (f ≢ x.feat.0) → arc_to xs f ≡ arc_to ys f
        tails f feat (inl e) = none_behind x xs f r (omega arith) ∙ sym (none_behind y ys f s (omega arith))
        tails f feat (inr e) = sym (arc_behind x xs f e) ∙ same f ∙ arc_behind y ys f (λ d. e (d ∙ sym feat))

-- whether two arcs are equal
abbrev pub arc_eq : GraphArc → GraphArc → Bool
arc_eq a b = (a.feat.0 == b.feat.0) && (a.to.0 == b.to.0)

pub arc_eq-Decides : (a b : GraphArc) → Decides (arc_eq a b) (a ≡ b)
arc_eq-Decides a b = (yes_of, λ e. subst (λ z. arc_eq a z ≡ true) e (both (eq-eqb a.feat.0 a.feat.0 refl) (eq-eqb a.to.0 a.to.0 refl)))
  where
    both : {p q : Bool} → p ≡ true → q ≡ true → (p && q) ≡ true
    both {p} {q} e d = ap (λ z. z && q) e ∙ d

    parts : (p q : Bool) → (p && q) ≡ true → (p ≡ true) × (q ≡ true)
    parts true q e = (refl, e)
    parts false q e = absurd cc

    yes_of : arc_eq a b ≡ true → a ≡ b
    yes_of e =
        let p = parts (a.feat.0 == b.feat.0) (a.to.0 == b.to.0) e in
        ap (λ z. record { feat = record { 0 = z }; to = a.to }) (eqb-true a.feat.0 b.feat.0 p.0)
        ∙ ap (λ z. record { feat = b.feat; to = record { 0 = z } }) (eqb-true a.to.0 b.to.0 p.1)

-- whether two types are equal
abbrev pub ty_eq : Ty → Ty → Bool
ty_eq a b = a.0 == b.0

pub number_eq-Decides : (a b : ℕ) → Decides (a == b) (a ≡ b)
number_eq-Decides a b = (eqb-true a b, eq-eqb a b)

pub ty_eq-Decides : (a b : Ty) → Decides (ty_eq a b) (a ≡ b)
ty_eq-Decides a b = (λ e. ap (λ z. record { 0 = z }) (eqb-true a.0 b.0 e), λ e. eq-eqb a.0 b.0 (ap (λ t. t.0) e))

-- where `!=` is false, `==` is true
pub no_unlike : {r e : Bool} → r ≡ not e → r ≡ false → e ≡ true
no_unlike {e = true} h f = refl
no_unlike {e = false} h f = let d : true ≡ false = sym h ∙ f in absurd cc

-- equal graphs are one structure
pub equal_graphs : {g h : GraphMap} → g ≡ h → IsSameStructure (reader_of g) (reader_of h)
equal_graphs {g} {h} e =
    subst (λ z. IsSameStructure (reader_of g) (reader_of z)) e (record {
      there = λ p n e. (n, e);
      there_back = λ p n e. (n, e);
      equal = λ p q n m x y z. y ∙ sym x ∙ z;
      equal_back = λ p q n m x y z. y ∙ sym x ∙ z;
      types = λ p n m x y. let e : Some n ≡ Some m = sym x ∙ y in let d : n ≡ m = cc in ap (type_at g) d;
    })

-- graphs whose nodes are the same
pub same_graphs : (g h : GraphMap) → IsGraph g → IsGraph h → length g.types ≡ length h.types → ((n : ℕ) → n < length g.types → IsSameNode g h n) →
    IsSameStructure (reader_of g) (reader_of h)
same_graphs g h a b size nodes = equal_graphs equal
  where
    types : g.types ≡ h.types
    types = ext_get_or 0 g.types h.types size (λ k l. (nodes k l).0)

    arcs : g.arcs ≡ h.arcs
    arcs = ext_get_or [] g.arcs h.arcs (a.even ∙ size ∙ sym b.even) (λ k l. (nodes k (let e = a.even in omega arith)).1)

    equal : g ≡ h
    equal = ap (λ z. record { types = z; arcs = g.arcs }) types ∙ ap (λ z. record { types = h.types; arcs = z }) arcs

-- and no others are one structure
pub one_graph : (g h : GraphMap) → IsGraph g → IsGraph h → IsSameStructure (reader_of g) (reader_of h) →
    (length g.types ≡ length h.types) × ((n : ℕ) → n < length g.types → IsSameNode g h n)
one_graph g h a b s = (same.size, λ n l. (same.types n l, arcs n l))
  where
    same : IsSameTable (table_of g) (table_of h)
    same = numbers_are_one (table_of g) (table_of h) a.least b.least a.numbered b.numbered s

    arcs : (n : ℕ) → n < length g.types → arcs_at g n ≡ arcs_at h n
    arcs n l = rising_same (arcs_at g n) (arcs_at h n) (a.rises n l) (b.rises n (let e = same.size in omega arith)) (λ f. same.arcs n f l)
