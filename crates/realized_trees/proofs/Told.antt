-- Sentences of trees.
use Rattle.std.specs.Prelude.{◌≡◌, true, false, List, [], ◌∷◌, map}
use Rattle.std.proofs.Common.{refl, sym, ◌∙◌, ap, subst}
use Rattle.std.specs.List.{dedup}
use Rattle.std.specs.List.Sorted.{IsPermutation, IsSortedBy, IsStableBy}
use Rattle.std.specs.Ordering.{is_lt}
use Rattle.std.proofs.lemmas.List.Sorted.{IsPermutation-sym}
use Rattle.fs_model.specs.Claims.{Has}
use Rattle.derivation.specs.Order.{compare_trees}
use Rattle.derivation.specs.Trees.{Derivation}
use Rattle.tree_model.specs.Readings.{Rises}
use Rattle.generate_model.specs.Sentences.{Sentence, AreSentences, IsSentence, text_of}
use Rattle.realized_trees.specs.TreeInner.{with_text}
use Rattle.realized_trees.proofs.Lists.{has_moved, has_map, map_has}
use Rattle.realized_trees.proofs.Runs.{By, Same, tree, AreFirsts, firsts_of}

module _ {X : Type 0} (seen : X → Sentence) where
  map_tree : (xs : List X) → map (tree seen) xs ≡ map (λ (s : Sentence). s.tree) (map seen xs)
  map_tree [] = refl
  map_tree (x ∷ xs) = ap (λ ts. (seen x).tree ∷ ts) (map_tree xs)

  bare : (ts : List Derivation) → map (λ (s : Sentence). s.tree) (map with_text ts) ≡ ts
  bare [] = refl
  bare (t ∷ ts) = ap (λ us. t ∷ us) (bare ts)

  module _ (ts : List Derivation) (xs ys : List X) (rises : Rises ts) (told : map seen xs ≡ map with_text ts) (moved : IsPermutation xs ys) (sorted : IsSortedBy (By seen) ys) (stable : IsStableBy (By seen) xs ys) where
    trees : map (tree seen) xs ≡ ts
    trees = map_tree xs ∙ ap (λ ss. map (λ (s : Sentence). s.tree) ss) told ∙ bare ts

    -- each element is a tree with its text, and each tree is one
    tree_of : (x : X) → Has x ys → (t : Derivation) × Has t ts × (with_text t ≡ seen x)
    tree_of x h = map_has with_text ts (subst (λ ss. Has (seen x) ss) told (has_map seen (has_moved ys xs x (IsPermutation-sym xs ys moved) h)))

    place_of : (t : Derivation) → Has t ts → (x : X) × Has x ys × (seen x ≡ with_text t)
    place_of t h = let m = map_has seen xs (subst (λ ss. Has (with_text t) ss) (sym told) (has_map with_text h)) in (m.0, has_moved xs ys m.0 moved m.1, m.2)

    pub sentences_are : AreSentences (λ t. Has t ts) (map seen (dedup (Same seen) ys))
    sentences_are = record { each = λ s h. each s (map_has seen (dedup (Same seen) ys) h); all = all; rise = are.rise }
      where
        are : AreFirsts seen ys (dedup (Same seen) ys)
        are = firsts_of seen xs ys (subst Rises (sym trees) rises) sorted stable

        one : (x : X) → Has x (dedup (Same seen) ys) → IsSentence (λ t. Has t ts) (seen x)
        one x h =
            let t = tree_of x (are.from x h) in
            record {
              is = subst (λ (s : Sentence). Has s.tree ts) t.2 t.1;
              text = subst (λ (s : Sentence). text_of s.tree ≡ s.text) t.2 refl;
              least = λ u m e l.
                  let p = place_of u m in
                  let n = are.least x h p.0 p.1 (ap (λ (s : Sentence). s.text) p.2 ∙ e) in
                  let q : is_lt (compare_trees (seen p.0).tree (seen x).tree) ≡ true = ap is_lt (ap (λ (s : Sentence). compare_trees s.tree (seen x).tree) p.2 ∙ l) in
                  let f : true ≡ false = sym q ∙ n in cc;
            }

        each : (s : Sentence) → (x : X) × Has x (dedup (Same seen) ys) × (seen x ≡ s) → IsSentence (λ t. Has t ts) s
        each s (x, h, e) = subst (IsSentence (λ t. Has t ts)) e (one x h)

        all : (t : Derivation) → Has t ts → (s : Sentence) × Has s (map seen (dedup (Same seen) ys)) × (s.text ≡ text_of t)
        all t h =
            let p = place_of t h in
            let a = are.all p.0 p.1 in
            (seen a.0, has_map seen a.1, a.2 ∙ ap (λ (s : Sentence). s.text) p.2)
