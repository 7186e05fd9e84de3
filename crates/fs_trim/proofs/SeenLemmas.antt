-- A graph whose view is the structure of some claims shows them.
use Rattle.std.specs.Prelude.{ℕ, ◌≡◌, ◌==◌, Bool, true, false, Option, Some, None, List, map}
use Rattle.std.proofs.Common.{refl, sym, ◌∙◌, ap, subst, eqb-true, eq-eqb}
use Rattle.fs_model.specs.Claims.{Path, Claim, exists_at, same, System, Has, here, there}
use Rattle.fs_model.specs.Sources.{Reader}
use Rattle.tree_model.specs.Structures.{Along, along_more, Beside, beside_here, beside_there, IsTypeAt, IsEqualAt, IsStructureOf}
use Rattle.tree_model.specs.Views.{view, view_type, same_node, IsInside, Shows}
use Rattle.tree_model.proofs.Closures.{HasEnds, has_pair}

beside_map : {A B : Type 0} (f : A → B) {a : A} {xs : List A} → Has a xs → Beside a (f a) xs (map f xs)
beside_map f here = beside_here
beside_map f (there h) = beside_there (beside_map f h)

along_at : {A B : Type 0} {R : A → B → Type 0} {a : A} {b : B} {xs : List A} {ys : List B} → Beside a b xs ys → Along R xs ys → R a b
along_at beside_here (along_more x rest) = x
along_at (beside_there h) (along_more x rest) = along_at h rest

module _ (s : System) (ps : List Path) {X : Claim → Type 0} (ends : HasEnds X) (r : Reader) (inside : IsInside ps r) (is : IsStructureOf s ps X (view ps r)) where
  type_is : (p : Path) → Has p ps → IsTypeAt s X p (view_type r (r.node_at p))
  type_is p h = along_at (beside_map (λ (q : Path). view_type r (r.node_at q)) h) is.types

  equal_is : (p q : Path) → Has p ps → Has q ps → IsEqualAt X (p, q) (same_node (r.node_at p) (r.node_at q))
  equal_is p q h k = along_at (beside_map (λ (pq : Path × Path). same_node (r.node_at pq.0) (r.node_at pq.1)) (has_pair h k)) is.equal

  node_of : (p : Path) → X (exists_at p) → (n : ℕ) × (r.node_at p ≡ Some n)
  node_of p x = by_node (r.node_at p) refl
    where
      by_node : (o : Option ℕ) → r.node_at p ≡ o → (n : ℕ) × (r.node_at p ≡ Some n)
      by_node None e = absurd ((subst (λ o. IsTypeAt s X p (view_type r o)) e (type_is p (is.inside p x))) x)
      by_node (Some n) e = (n, e)

  typed : (p : Path) (n : ℕ) → r.node_at p ≡ Some n → IsTypeAt s X p (Some (r.type_of n))
  typed p n e = subst (λ o. IsTypeAt s X p (view_type r o)) e (type_is p (inside p n e))

  both_of : (p q : Path) → X (same p q) → (n : ℕ) × (r.node_at p ≡ Some n) × (r.node_at q ≡ Some n)
  both_of p q x = by_nodes (node_of p (ends.left p q x)) (node_of q (ends.right p q x))
    where
      by_nodes : ((n : ℕ) × (r.node_at p ≡ Some n)) → ((n : ℕ) × (r.node_at q ≡ Some n)) → (n : ℕ) × (r.node_at p ≡ Some n) × (r.node_at q ≡ Some n)
      by_nodes (n, e) (m, d) = by_test (n == m) refl
        where
          claim : IsEqualAt X (p, q) (n == m)
          claim =
              subst (λ o. IsEqualAt X (p, q) (same_node o (Some m))) e
              (subst (λ o. IsEqualAt X (p, q) (same_node (r.node_at p) o)) d (equal_is p q (inside p n e) (inside q m d)))

          by_test : (b : Bool) → (n == m) ≡ b → (k : ℕ) × (r.node_at p ≡ Some k) × (r.node_at q ≡ Some k)
          by_test true t = (n, e, d ∙ ap Some (sym (eqb-true n m t)))
          by_test false t = absurd ((subst (λ b. IsEqualAt X (p, q) b) t claim) x)

  equal_of : (p q : Path) (n : ℕ) → r.node_at p ≡ Some n → r.node_at q ≡ Some n → X (same p q)
  equal_of p q n e d =
      let one = subst (λ o. IsEqualAt X (p, q) (same_node (r.node_at p) o)) d (equal_is p q (inside p n e) (inside q n d)) in
      let two = subst (λ o. IsEqualAt X (p, q) (same_node o (Some n))) e one in
      subst (λ b. IsEqualAt X (p, q) b) (eq-eqb n n refl) two

  pub seen_shows : Shows s X r
  seen_shows = record {
    paths = λ p. (node_of p, λ x. ends.under p (r.type_of x.0) (typed p x.0 x.1).0);
    equalities = λ p q. (both_of p q, λ x. equal_of p q x.0 x.1 x.2);
    types_there = λ p n e. (typed p n e).0;
    types_above = λ p n t e x. (typed p n e).1 t x;
  }
