-- A line has one packed forest, with as many classes as there are.
use Rattle.std.specs.Prelude.{ℕ, ◌≡◌, ◌↔◌, ◌<◌, Bool, true, false, IsTrue, List, ◌∷◌, length}
use Rattle.std.specs.declared.cmp.Ordering.TheVariants.{Less}
use Rattle.std.proofs.Common.{refl, sym, ◌∙◌, ap, subst, suc, inl, inr}
use Rattle.std.proofs.lemmas.Bool.{cases_order}
use Rattle.std.proofs.lemmas.List.{length-map}
use Rattle.chart_model.specs.Calculus.{Along, along_none, along_more}
use Rattle.chart_model.specs.declared.span.Span.{Span}
use Rattle.type_hierarchy.specs.Table.{TypeTable}
use Rattle.fs_model.specs.Claims.{IsOrder}
use Rattle.chart_model.specs.At.{At}
use Rattle.chart_model.specs.Classes.{Class}
use Rattle.chart_model.specs.Limits.{IsLowClass, IsClassCount}
use Rattle.tree_model.specs.Structures.{Structure}
use Rattle.tree_model.specs.Signs.{Signs}
use Rattle.tree_model.specs.Lexical.{Words}
use Rattle.tree_model.specs.Items.{Item, IsItem, LeafTree, AreLeaves, Limits, calculus, leaves_from, chart_limits}
use Rattle.tree_model.specs.Lattices.{Lattice, Step}
use Rattle.line_charts.specs.Keys.{compare_keys}
use Rattle.line_charts.specs.Charts.{Keyed, classes_of, IsKeyed, ToldClass, IsTold, IsPackedForest}
use Rattle.line_charts.specs.Unknown.{AreUnknown, unknown_none, unknown_passed, unknown_here}
use Rattle.line_charts.proofs.KeyLaws.{keys_total, one_key}
use Rattle.line_charts.proofs.OneList.{AllIn, one_list, never_both, map_from}
use Rattle.line_charts.proofs.OverLeaves.{low_too, makers_one}

same_test : {P : Type 0} (a b : Bool) → IsTrue a ↔ P → IsTrue b ↔ P → a ≡ b
same_test true true x y = refl
same_test true false x y = absurd (let e = y.1 (x.0 refl) in cc)
same_test false true x y = absurd (let e = x.1 (y.0 refl) in cc)
same_test false false x y = refl

pub same_length : {A B : Type 0} {R : A → B → Type 0} {xs : List A} {ys : List B} → Along R xs ys → length xs ≡ length ys
same_length along_none = refl
same_length (along_more h hs) = ap suc (same_length hs)

module _ (g : Signs) (types : TypeTable) (feats : List (List ℕ)) where
  -- a class has one place in order
  one_keyed : (k l : Keyed) → IsKeyed g types feats k → IsKeyed g types feats l → k.class ≡ l.class → k ≡ l
  one_keyed k l a b e = let f = one_key g types feats k l a b e in λ i. record { class = e i; key = f i }

  module _ (item : Item Span) (limits : Limits) (ls : List (LeafTree Span)) (told : List ToldClass) (p : IsPackedForest g item limits ls types feats told) where
    not_later : (i j : ℕ) (c : Class Structure Span) → At (classes_of p.keyed) i c → At (classes_of p.keyed) j c → i < j → ⊥
    not_later i j c a b l =
        let x = map_from (λ (k : Keyed). k.class) p.keyed a in
        let y = map_from (λ (k : Keyed). k.class) p.keyed b in
        let same = one_key g types feats x.0 y.0 (p.each i x.0 x.1).0 (p.each j y.0 y.1).0 (x.2 ∙ sym y.2) in
        let r = subst (λ z. compare_keys x.0.key z ≡ Less) (sym same) (p.rising i j x.0 y.0 l x.1 y.1) in
        never_both keys_total x.0.key x.0.key r r

    -- it has as many classes as there are
    pub forest_count : IsClassCount (calculus g item) (chart_limits limits) (leaves_from 0 ls) (length told)
    forest_count = record {
      classes = classes_of p.keyed;
      none_twice = λ i j c a b. elim (cases_order i j) [ inl e ↦ e | inr o ↦ absurd (elim o [ inl l ↦ not_later i j c a b l | inr l ↦ not_later j i c b a l ]) ];
      each = λ i c a.
          let x = map_from (λ (k : Keyed). k.class) p.keyed a in
          subst (IsLowClass (calculus g item) (chart_limits limits) (leaves_from 0 ls)) x.2 (p.each i x.0 x.1).1;
      all = p.all;
      counted = length-map p.keyed (λ (k : Keyed). k.class) ∙ same_length p.told_all;
    }

  module _ (item : Item Span) (o : IsOrder g.system) (good : IsItem item) (limits : Limits) where
    module _ (ls ks : List (LeafTree Span)) (x : AreLeaves g item ls) (y : AreLeaves g item ks) where
      keyed_in : (told other : List ToldClass) (p : IsPackedForest g item limits ls types feats told) (q : IsPackedForest g item limits ks types feats other) → AllIn p.keyed q.keyed
      keyed_in told other p q i k at =
          let h = p.each i k at in
          let z = q.all k.class (low_too g item o good limits ls ks x y h.1) in
          let w = map_from (λ (k : Keyed). k.class) q.keyed z.1 in
          (z.0, subst (λ l. At q.keyed z.0 l) (one_keyed w.0 k (q.each z.0 w.0 w.1).0 h.0 w.2) w.1)

      told_one : (classes : List (Class Structure Span)) (k : Keyed) (t u : ToldClass) → IsTold g item limits ls classes k t → IsTold g item limits ks classes k u → t ≡ u
      told_one classes k t u a b =
          let from = a.from ∙ sym b.from in
          let to = a.to ∙ sym b.to in
          let ty = a.typed ∙ sym b.typed in
          let rooted = same_test t.rooted u.rooted a.rooted b.rooted in
          let makers = makers_one g item o good limits ls ks x y classes k.class t.makers u.makers a.makers b.makers in
          λ i. record { from = from i; to = to i; ty = ty i; rooted = rooted i; makers = makers i }

      all_told_one : (classes : List (Class Structure Span)) (keyed : List Keyed) (ts us : List ToldClass) → Along (IsTold g item limits ls classes) keyed ts → Along (IsTold g item limits ks classes) keyed us → ts ≡ us
      all_told_one classes _ _ _ along_none along_none = refl
      all_told_one classes _ _ _ (along_more {x = k} {y = t} {xs = keyed} {ys = ts} a as') (along_more {y = u} {ys = us} b bs) =
          let e = told_one classes k t u a b in
          let f = all_told_one classes keyed ts us as' bs in
          λ i. e i ∷ f i

    pub forest_one : (ls ks : List (LeafTree Span)) → AreLeaves g item ls → AreLeaves g item ks → (told other : List ToldClass) → IsPackedForest g item limits ls types feats told → IsPackedForest g item limits ks types feats other → told ≡ other
    forest_one ls ks x y told other p q =
        let same : p.keyed ≡ q.keyed =
        one_list (λ (k l : Keyed). compare_keys k.key l.key ≡ Less) (λ k l. never_both keys_total k.key l.key) p.keyed q.keyed p.rising q.rising
        (keyed_in ls ks x y told other p q) (keyed_in ks ls y x other told q p)
        in
        all_told_one ls ks x y (classes_of p.keyed) p.keyed told other p.told_all (subst (λ keyed. Along (IsTold g item limits ks (classes_of keyed)) keyed other) (sym same) q.told_all)

-- some steps have one list of unknown words
pub unknown_one : {g : Signs} {words : Words} {lattice : Lattice} {most : ℕ} {ss us vs : List Step} → AreUnknown g words lattice most ss us → AreUnknown g words lattice most ss vs → us ≡ vs
unknown_one unknown_none unknown_none = refl
unknown_one (unknown_passed s a x) (unknown_passed _ b y) = unknown_one x y
unknown_one (unknown_passed s a x) (unknown_here _ b y) = absurd (b a)
unknown_one (unknown_here s a x) (unknown_passed _ b y) = absurd (a b)
unknown_one (unknown_here s a x) (unknown_here _ b y) = ap (λ us. s ∷ us) (unknown_one x y)
