-- Leaves of a chart, one lexical tree after another.
use Rattle.std.specs.Prelude.{ℕ, ◌≡◌, ◌+◌, List, [], ◌∷◌, ◌++◌, length}
use Rattle.std.proofs.Common.{refl, sym, ◌∙◌, ap, subst, suc, arith}
use Rattle.chart_model.specs.Calculus.{along_none, along_more}
use Rattle.chart_model.specs.declared.counts.Counts.{Counts}
use Rattle.chart_model.specs.Chart as chart
use Rattle.chart_core.specs.declared.Leaf.{Leaf}
use Rattle.chart_core.specs.Leaves.{leaf_seen}
use Rattle.tree_model.specs.Structures.{Structure}
use Rattle.tree_model.specs.Signs.{Signs}
use Rattle.tree_model.specs.Items.{leaves_from}
use Rattle.generated_leaves.specs.Leaves.{WordLeaf}
use Rattle.mrs_generate.specs.Inner.Leafed.{leaf_of, leaf_trees, IsShapeOf, AreShapes}
use Rattle.mrs_generate.specs.Inner.Lined.{shapes_in, AreLined}
use Rattle.mrs_generate.proofs.Lists.{map_snoc, map_length, along_snoc, along_length, leaves_snoc}

module _ (g : Signs) where
  trees_snoc : {xs : List WordLeaf} {ms : List Structure} (x : WordLeaf) (m : Structure) → AreShapes g xs ms → leaf_trees (xs ++ x ∷ []) (ms ++ m ∷ []) ≡ leaf_trees xs ms ++ leaf_of x m ∷ []
  trees_snoc x m along_none = refl
  trees_snoc x m (along_more {x = y} {y = n} s more) = ap (λ ls. leaf_of y n ∷ ls) (trees_snoc x m more)

  pub trees_length : {xs : List WordLeaf} {ms : List Structure} → AreShapes g xs ms → length (leaf_trees xs ms) ≡ length xs
  trees_length along_none = refl
  trees_length (along_more s more) = ap suc (trees_length more)

module _ {X T W B : Type 0} (g : Signs) (meaning : T → Structure) where
  pub lined_none : AreLined {X = X} {W = W} {B = B} g meaning [] []
  lined_none = record { shaped = along_none; seen = refl }

  -- one lexical tree more, named by its number
  pub lined_more : (xs : List WordLeaf) (leaves : List (Leaf X T Counts W B)) (x : WordLeaf) (shape : T) → AreLined g meaning xs leaves → IsShapeOf g x (meaning shape) →
      AreLined g meaning (xs ++ x ∷ []) (leaves ++ record { cover = x.cover; shape = shape; name = length leaves } ∷ [])
  lined_more xs leaves x shape h is =
      let leaf : Leaf X T Counts W B = record { cover = x.cover; shape = shape; name = length leaves } in
      let ms = shapes_in g meaning leaves in
      let more : shapes_in g meaning (leaves ++ leaf ∷ []) ≡ ms ++ meaning shape ∷ [] = map_snoc (λ (l : Leaf X T Counts W B). meaning l.shape) leaves leaf in
      let size : length (leaf_trees xs ms) ≡ length leaves = trees_length g h.shaped ∙ along_length h.shaped ∙ map_length (λ (l : Leaf X T Counts W B). meaning l.shape) leaves in
      record {
        shaped = subst (AreShapes g (xs ++ x ∷ [])) (sym more) (along_snoc h.shaped is);
        seen =
            map_snoc (leaf_seen meaning) leaves leaf
            ∙ ap (λ zs. zs ++ leaf_seen meaning leaf ∷ []) h.seen
            ∙ ap (λ n. let z : chart.Leaf Structure Counts = record { cover = x.cover; shape = meaning shape; name = n } in leaves_from 0 (leaf_trees xs ms) ++ z ∷ []) (let e : length leaves ≡ 0 + length (leaf_trees xs ms) = omega (arith, size) in e)
            ∙ sym (ap (λ ns. leaves_from 0 (leaf_trees (xs ++ x ∷ []) ns)) more ∙ ap (leaves_from 0) (trees_snoc g x (meaning shape) h.shaped) ∙ leaves_snoc 0 (leaf_trees xs ms) (leaf_of x (meaning shape)));
      }

  -- a leaf that was pushed
  pub leaf_lined : (xs : List WordLeaf) (old new : List (Leaf X T Counts W B)) (x : WordLeaf) (cover : Counts) (shape : T) (name : ℕ) → new ≡ old ++ record { cover = cover; shape = shape; name = name } ∷ [] →
      cover ≡ x.cover → name ≡ length old → IsShapeOf g x (meaning shape) → AreLined g meaning xs old → AreLined g meaning (xs ++ x ∷ []) new
  leaf_lined xs old new x cover shape name e c n is h =
      let leaf : Leaf X T Counts W B = record { cover = cover; shape = shape; name = name } in
      let other : Leaf X T Counts W B = record { cover = x.cover; shape = shape; name = length old } in
      let same : leaf ≡ other = (λ i. record { cover = c i; shape = shape; name = n i }) in
      subst (AreLined g meaning (xs ++ x ∷ [])) (sym (e ∙ ap (λ l. old ++ l ∷ []) same)) (lined_more xs old x shape h is)
