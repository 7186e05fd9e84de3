-- Full structures over the leaves of generation are made, and what they mean is consistent.
use Rattle.std.specs.Prelude.{ℕ, ◌≡◌, ◌<◌, Option, Some, None, List, [], ◌∷◌, length, map, slice_get, All}
use Rattle.std.proofs.Common.{zero, suc, sym, subst, arith}
use Rattle.std.proofs.lemmas.List.Elements.{All-head, All-tail, All-nil, All-cons}
use Rattle.fs_model.specs.Closure.{AreConsistent}
use Rattle.chart_model.specs.declared.counts.Counts.{Counts}
use Rattle.tree_model.specs.Structures.{Structure}
use Rattle.tree_model.specs.Mothers.{Rule, Meant, IsFullAt}
use Rattle.tree_model.proofs.Closures.{falls}
use Rattle.tree_model.proofs.MotherLaws.{meant_full, mother_consistent}
use Rattle.tree_model.specs.Signs.{Signs, rule_system}
use Rattle.forest_unpack.specs.Reached.{IsReached, reached_leaf, reached_phrase}
use Rattle.rule_trees.specs.Mothers.{IsMade, made_mother}
use Rattle.tree_structures.proofs.Making.{full_made}
use Rattle.tree_structures.proofs.Sound.{sound}
use Rattle.generate_model.specs.Contributions.{Input}
use Rattle.generated_leaves.specs.Leaves.{WordLeaf}
use Rattle.realized_trees.specs.Wholes.{wholes_of, full_named, IsLeafAt}

module _ (g : Signs) where
  phrase_made : (o : Option Rule) (fs : List Structure) (f : Structure) → IsFullAt (rule_system g) o fs f → IsMade g f
  phrase_made None fs f is = absurd is
  phrase_made (Some rule) fs f is = made_mother rule fs is

  phrase_sound : (o : Option Rule) (fs : List Structure) (f : Structure) → IsFullAt (rule_system g) o fs f → AreConsistent g.system (Meant (rule_system g) f)
  phrase_sound None fs f is = absurd is
  phrase_sound (Some rule) fs f is = falls g.system (λ c a. meant_full (rule_system g) rule fs f is a) (mother_consistent (rule_system g) rule fs is.0)

  module _ (input : Input) (bound : Counts) (leaves : List WordLeaf) where
    abbrev pub Reached : Structure → Type 0
    Reached = IsReached (wholes_of g input bound leaves) (IsLeafAt g leaves)

    pub reached_made : (f : Structure) → Reached f → IsMade g f
    reached_made _ (reached_leaf name is) = subst (λ o. IsMade g (full_named o)) (sym is.at) (full_made g is.leaf.tree is.leaf.full is.full)
    reached_made _ (reached_phrase rule fs f is) = phrase_made (slice_get (rule_system g).rules rule) fs f is

    pub reached_sound : (f : Structure) → Reached f → AreConsistent g.system (Meant (rule_system g) f)
    reached_sound _ (reached_leaf name is) = subst (λ o. AreConsistent g.system (Meant (rule_system g) (full_named o))) (sym is.at) (sound g is.leaf.tree is.leaf.full is.full)
    reached_sound _ (reached_phrase rule fs f is) = phrase_sound (slice_get (rule_system g).rules rule) fs f is

    -- the same of all parts
    pub parts_made : {T : Type 0} (value : T → Structure) (parts : List T) → All Reached (map value parts) → All (λ f. IsMade g (value f)) parts
    parts_made value [] all = All-nil (λ f. IsMade g (value f))
    parts_made value (x ∷ xs) all =
        All-cons (λ f. IsMade g (value f)) x xs (reached_made (value x) (All-head Reached (value x) (map value xs) all)) (parts_made value xs (All-tail Reached (value x) (map value xs) all))

  -- a leaf's name is its place
  pub named_below : {A : Type 0} (f : A → WordLeaf) (xs : List A) (name : ℕ) → IsLeafAt g (map f xs) name → name < length xs
  named_below {A} f xs name is = below xs name is.leaf is.at
    where
      below : (xs : List A) (n : ℕ) (x : WordLeaf) → slice_get (map f xs) n ≡ Some x → n < length xs
      below [] n x e = absurd (cc)
      below (y ∷ xs) zero x e = omega arith
      below (y ∷ xs) (suc n) x e = let low = below xs n x e in omega (arith, low)
