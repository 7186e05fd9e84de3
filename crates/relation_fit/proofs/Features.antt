-- Numbers of features, and paths that daughters don't stand on.
use Rattle.std.specs.Prelude.{ℕ, ◌≡◌, ◌+◌, ◌<◌, ◌==◌, ◌&&◌, ◌||◌, ◌≤◌, Bool, true, false, not, Option, Some, None, List, [], ◌∷◌, ◌++◌, map, length, drop}
use Rattle.std.specs.List.{list_all}
use Rattle.std.proofs.Common.{refl, sym, ◌∙◌, ap, subst, arith, append_assoc, append-nil, get_or, add-one, drop-cons, zero, suc}
use Rattle.std.proofs.lemmas.Bool.{eqb-true, eq-eqb}
use Rattle.fs_model.specs.Claims.{Path}
use Rattle.fs_graph.specs.declared.facts.Feat.{Feat}
use Rattle.fs_graph.specs.Facts.{path_of}
use Rattle.tree_model.specs.Cuts.{has_feature, is_kept}
use Rattle.tree_model.specs.Mothers.{RuleSystem, daughters_cut}
use Rattle.generate_model.specs.Threads.{Open}
use Rattle.generate_model.specs.Embedding.{IsOutside}
use Rattle.mrs_places.specs.declared.paths.MrsFeat.{MrsFeat}
use Rattle.mrs_places.specs.Paths.{feature_of}
use Rattle.relation_fit.specs.Lists.{and_number, numbers}
use Rattle.relation_fit.specs.Inner.Lists.{begins_apart}

-- numbers behind others
abbrev pub behind : List ℕ → Option (List ℕ) → Option (List ℕ)
behind p None = None
behind p (Some q) = Some (p ++ q)

pub behind_none : (o : Option (List ℕ)) → behind [] o ≡ o
behind_none None = refl
behind_none (Some q) = refl

behind_number : (p : List ℕ) (n : ℕ) (o : Option (List ℕ)) → behind p (and_number (Some n) o) ≡ behind (p ++ n ∷ []) o
behind_number p n None = refl
behind_number p n (Some q) = ap Some (sym (append_assoc p (n ∷ []) q))

behind_missing : (p : List ℕ) (o : Option (List ℕ)) → behind p (and_number None o) ≡ None
behind_missing p o = refl

module _ (feats : List MrsFeat) (k : ℕ) (d : MrsFeat) (lt : k < length feats) where
  from_k : numbers (map feature_of (drop k feats)) ≡ and_number (feature_of (get_or feats k d)).number (numbers (map feature_of (drop (suc k) feats)))
  from_k = ap (λ l. numbers (map feature_of l)) (drop-cons feats k d lt)

  pub number_more : (p : List ℕ) (n : ℕ) → (feature_of (get_or feats k d)).number ≡ Some n → behind p (numbers (map feature_of (drop k feats))) ≡ behind (p ++ n ∷ []) (numbers (map feature_of (drop (k + 1) feats)))
  number_more p n e =
      ap (behind p) from_k ∙ ap (λ o. behind p (and_number o (numbers (map feature_of (drop (suc k) feats))))) e ∙ behind_number p n (numbers (map feature_of (drop (suc k) feats)))
      ∙ ap (λ j. behind (p ++ n ∷ []) (numbers (map feature_of (drop j feats)))) (sym (add-one k))

  pub number_missing : (p : List ℕ) → (feature_of (get_or feats k d)).number ≡ None → behind p (numbers (map feature_of (drop k feats))) ≡ None
  number_missing p e = ap (behind p) from_k ∙ ap (λ o. behind p (and_number o (numbers (map feature_of (drop (suc k) feats))))) e

drop_past : {A : Type 0} (xs : List A) (k : ℕ) → length xs ≤ k → drop k xs ≡ []
drop_past [] zero h = refl
drop_past [] (suc k) h = refl
drop_past (x ∷ xs) zero h = absurd (omega (arith, h))
drop_past (x ∷ xs) (suc k) h = drop_past xs k (omega (arith, h))

pub numbers_all : (feats : List MrsFeat) (k : ℕ) (p : List ℕ) → length feats ≤ k → behind p (numbers (map feature_of (drop k feats))) ≡ Some p
numbers_all feats k p h = ap (λ l. behind p (numbers (map feature_of l))) (drop_past feats k h) ∙ ap Some (append-nil p)

not_equal : (x y : ℕ) → (x ≡ y → ⊥) → (x == y) ≡ false
not_equal x y n = by_test (x == y) refl
  where
    by_test : (b : Bool) → (x == y) ≡ b → (x == y) ≡ false
    by_test false e = e
    by_test true e = absurd (n (eqb-true x y e))

-- features among others
module _ (feats : List Feat) (k : ℕ) (f : ℕ) where
  among_k : (d : Feat) → k < length feats → has_feature (path_of (drop k feats)) f ≡ ((get_or feats k d).0 == f) || has_feature (path_of (drop (suc k) feats)) f
  among_k d lt = ap (λ l. has_feature (path_of l) f) (drop-cons feats k d lt)

  pub among_here : (d : Feat) → k < length feats → (get_or feats k d).0 ≡ f → has_feature (path_of (drop k feats)) f ≡ true
  among_here d lt e = among_k d lt ∙ ap (λ b. b || has_feature (path_of (drop (suc k) feats)) f) (eq-eqb (get_or feats k d).0 f e)

  pub among_next : (d : Feat) → k < length feats → ((get_or feats k d).0 ≡ f → ⊥) → has_feature (path_of (drop k feats)) f ≡ has_feature (path_of (drop (k + 1) feats)) f
  among_next d lt n = among_k d lt ∙ ap (λ b. b || has_feature (path_of (drop (suc k) feats)) f) (not_equal (get_or feats k d).0 f n) ∙ ap (λ j. has_feature (path_of (drop j feats)) f) (sym (add-one k))

  pub among_none : length feats ≤ k → has_feature (path_of (drop k feats)) f ≡ false
  among_none h = ap (λ l. has_feature (path_of l) f) (drop_past feats k h)

-- a path that begins apart is kept
keeps_all : (p : Path) → list_all (λ g. not (has_feature [] g)) p ≡ true
keeps_all [] = refl
keeps_all (f ∷ p) = keeps_all p

pub apart_kept : (p q : Path) (fs : List ℕ) → begins_apart p fs ≡ true → is_kept (record { at_root = fs; anywhere = [] }) (p ++ q) ≡ true
apart_kept [] q fs e = absurd (cc)
apart_kept (f ∷ p) q fs e = λ i. e i && keeps_all (f ∷ p ++ q) i

pub apart_outside : (g : RuleSystem) (l : Open) (fs : List ℕ) → daughters_cut g ≡ record { at_root = fs; anywhere = [] } → begins_apart l.start fs ≡ true → begins_apart l.end fs ≡ true → IsOutside g l
apart_outside g l fs cut a b = record {
  start = λ q. subst (λ c. is_kept c (l.start ++ q) ≡ true) (sym cut) (apart_kept l.start q fs a);
  end = subst (λ c. is_kept c l.end ≡ true) (sym cut) (subst (λ p. is_kept (record { at_root = fs; anywhere = [] }) p ≡ true) (append-nil l.end) (apart_kept l.end [] fs b));
}
