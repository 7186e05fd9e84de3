-- The same leaves over other shapes.
use Rattle.std.specs.Prelude.{◌≡◌, ◌<◌, List, [], ◌∷◌, All, map}
use Rattle.std.proofs.Common.{◌∙◌, refl, ap, sym, subst}
use Rattle.std.proofs.lemmas.List.{get_or-map, length-map}
use Rattle.std.proofs.lemmas.List.Elements.{All-map}
use Rattle.chart_model.specs.Calculus.{Calculus}
use Rattle.chart_model.specs.Chart as model
use Rattle.chart_core.specs.declared.Leaf.{Leaf}
use Rattle.chart_core.specs.Leaves.{leaf_seen, LeafBelongs}

pub same_map : {A : Type 0} (xs : List A) → map (λ y. y) xs ≡ xs
same_map [] = refl
same_map (x ∷ xs) = ap (λ ys. x ∷ ys) (same_map xs)

unmapped : {A B : Type 0} (P : B → Type 0) (f : A → B) (xs : List A) → All P (map f xs) → All (λ x. P (f x)) xs
unmapped P f xs h = λ k d lt. subst P (get_or-map f xs k d (f d) lt) (h k (f d) (subst (λ n. k < n) (sym (length-map xs f)) lt))

-- a leaf whose shape is read as what it stands for
abbrev read : {T C M : Type 0} → (T → M) → model.Leaf T C → model.Leaf M C
read meaning leaf = record { cover = leaf.cover; shape = meaning leaf.shape; name = leaf.name }

reads : {X T C W B M : Type 0} (meaning : T → M) (xs : List (Leaf X T C W B)) → map (leaf_seen meaning) xs ≡ map (read meaning) (map (leaf_seen (λ s. s)) xs)
reads meaning [] = refl
reads meaning (x ∷ xs) = ap (λ ys. leaf_seen meaning x ∷ ys) (reads meaning xs)

-- leaves that are the same by their covers, shapes and names
module _ {X Y T C W V B D : Type 0} (xs : List (Leaf X T C W B)) (ys : List (Leaf Y T C V D)) (e : map (leaf_seen (λ s. s)) xs ≡ map (leaf_seen (λ s. s)) ys) where
  pub same_seen : {M : Type 0} (meaning : T → M) → map (leaf_seen meaning) xs ≡ map (leaf_seen meaning) ys
  same_seen meaning = reads meaning xs ∙ ap (map (read meaning)) e ∙ sym (reads meaning ys)

  pub same_belong : {M : Type 0} (k : Calculus M C) (belongs : T → Type 0) → All (LeafBelongs k belongs) ys → All (LeafBelongs k belongs) xs
  same_belong k belongs h =
      let P : model.Leaf T C → Type 0 = λ l. belongs l.shape × k.proper l.cover in
      unmapped P (leaf_seen (λ s. s)) xs (subst (All P) (sym e) (All-map P (leaf_seen (λ s. s)) ys h))
