-- A tree has one full structure at most.
use Rattle.std.specs.Prelude.{ℕ, ◌≡◌, Some, List, [], ◌∷◌, slice_get}
use Rattle.std.proofs.Common.{refl, sym, ap, subst}
use Rattle.fs_model.specs.Claims.{Claim, IsOrder}
use Rattle.fs_model.specs.Sources.{Told}
use Rattle.fs_model.specs.Closure.{Closure}
use Rattle.derivation.specs.Trees.{Derivation, Daughters}
use Rattle.tree_model.specs.Structures.{Structure, IsStructureOf}
use Rattle.tree_model.specs.Mothers.{IsFull}
use Rattle.tree_model.proofs.Overs.{over_one}
use Rattle.tree_model.proofs.Closures.{HasEnds, closure_ends, kept_ends}
use Rattle.tree_model.proofs.MotherLaws.{structures_over}
use Rattle.tree_model.specs.Signs.{Signs, Instance, rule_system}
use Rattle.tree_model.specs.Lexical.{FullUnder, under_none, under_next, IsEntry}
use Rattle.tree_model.specs.Trees.{Full, full_lexical, full_phrase, Fulls, no_fulls, more_fulls}

module _ (g : Signs) (o : IsOrder g.system) where
  pub one_structure : {claims : Claim → Type 0} {a b : Structure} → HasEnds claims → IsStructureOf g.system g.paths claims a → IsStructureOf g.system g.paths claims b → a ≡ b
  one_structure ends x y =
      over_one g.system (record { reflexive = o.reflexive; transitive = o.transitive; antisymmetric = o.antisymmetric }) _ _ (structures_over g.system g.paths ends (λ c z. z) x y) (structures_over g.system g.paths ends (λ c z. z) y x)

  one_instance : (place : ℕ) {i j : Instance} → slice_get g.instances place ≡ Some i → slice_get g.instances place ≡ Some j → i ≡ j
  one_instance place a b = cc

  one_full : (i j : Instance) (fs hs : List Structure) (a b : Structure) → i ≡ j → fs ≡ hs → IsFull (rule_system g) i.rule fs a → IsFull (rule_system g) j.rule hs b → a ≡ b
  one_full i j fs hs a b e d x y =
      let z : IsFull (rule_system g) i.rule fs b = subst (λ k. IsFull (rule_system g) k.rule fs b) (sym e) (subst (λ ks. IsFull (rule_system g) j.rule ks b) (sym d) y) in
      one_structure (kept_ends (closure_ends g.system)) x.1 z.1

  one_entry : {entry : ℕ} {a b : Structure} → IsEntry g entry a → IsEntry g entry b → a ≡ b
  one_entry {a = a} {b = b} x y =
      let e = one_instance _ x.at y.at in
      one_structure (closure_ends g.system) x.structure (subst (λ (i : Instance). IsStructureOf g.system g.paths (Closure g.system (Told i.rule.facts)) b) (sym e) y.structure)

  one_under : {d e : Structure} {rules : List ℕ} {a b : Structure} → d ≡ e → FullUnder g d rules a → FullUnder g e rules b → a ≡ b
  one_under h under_none under_none = h
  one_under h (under_next x xs) (under_next y ys) = one_under (one_full x.instance y.instance _ _ _ _ (one_instance _ x.at y.at) (ap (λ z. z ∷ []) h) x.full y.full) xs ys

  mutual
    pub one : {t : Derivation} {a b : Structure} → Full g t a → Full g t b → a ≡ b
    one (full_lexical x) (full_lexical y) = one_under (one_entry x.1 y.1) x.2 y.2
    one (full_phrase fs xs x) (full_phrase hs ys y) = one_full x.instance y.instance fs hs _ _ (one_instance _ x.at y.at) (all_one xs ys) x.full y.full

    all_one : {ds : Daughters} {fs hs : List Structure} → Fulls g ds fs → Fulls g ds hs → fs ≡ hs
    all_one no_fulls no_fulls = refl
    all_one (more_fulls x xs) (more_fulls y ys) = let e = one x y in let f = all_one xs ys in λ i. e i ∷ f i
