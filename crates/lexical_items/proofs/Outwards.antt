-- Full structures that are made from an entry outwards.
use Rattle.std.specs.Prelude.{ℕ, ◌≡◌, ◌<◌, ◌≤◌, true, false, List, [], ◌∷◌, ◌++◌, Option, Some, None, MatchOption, length, map}
use Rattle.std.proofs.Common.{inl, inr, refl, sym, subst, arith}
use Rattle.std.proofs.lemmas.List.{map-append}
use Rattle.fs_model.specs.Claims.{IsOrder}
use Rattle.tree_model.specs.Structures.{Structure}
use Rattle.tree_model.specs.Signs.{Signs}
use Rattle.tree_model.specs.Lexical.{FullUnder, under_none, IsEntry, IsUnderRule}
use Rattle.tree_model.specs.Trees.{full_lexical}
use Rattle.tree_model.proofs.Once.{one}
use Rattle.morph_analysis.specs.Allowed.{FeedsTree, may_go_on}
use Rattle.morph_analysis.proofs.Lists.{Has-left, Has-right, Has-snoc, true_not_false}
use Rattle.morph_analysis.proofs.RouteLemmas.{allowed_more, allowed_less}
use Rattle.lexical_items.specs.Places.{place_in}
use Rattle.lexical_items.specs.Inner.Making.{IsAllowedFull}
use Rattle.lexical_items.proofs.Under.{under_more, stuck, split, from_entry}

module _ (g : Signs) (entries rules : List ℕ) (feeds : FeedsTree) where
  abbrev Makes : ℕ → List ℕ → Structure → Type 0
  Makes = IsAllowedFull g entries rules feeds

  -- an entry
  pub begun : {T : Type 0} (value : T → Structure) (o : Option T) (entry place : ℕ) → place ≡ place_in entries entry → entry < length entries → MatchOption o ((f : Structure) → IsEntry g place f → ⊥) (λ m. IsEntry g place (value m))
      → MatchOption o ((f : Structure) → Makes entry [] f → ⊥) (λ m. Makes entry [] (value m))
  begun value None entry place e lt h = λ f a. h a.full.0 (subst (λ p. IsEntry g p a.full.0) (sym e) a.full.1)
  begun value (Some m) entry place e lt h = record { entry_in = lt; rules_in = λ r k. absurd k; allowed = tt; full = (value m, subst (λ p. IsEntry g p (value m)) e h, under_none) }

  pub not_begun : (entry : ℕ) → length entries ≤ entry → (f : Structure) → Makes entry [] f → ⊥
  not_begun entry le f a = let lt = a.entry_in in omega (arith, le, lt)

  -- one rule more
  snoc_places : (rs : List ℕ) (rule : ℕ) → map (place_in rules) (rs ++ rule ∷ []) ≡ map (place_in rules) rs ++ place_in rules rule ∷ []
  snoc_places rs rule = map-append (place_in rules) rs (rule ∷ [])

  pub gone_on : {T : Type 0} (value : T → Structure) (o : Option T) (entry place : ℕ) (rs : List ℕ) (rule : ℕ) (made : Structure) → IsOrder g.system → place ≡ place_in rules rule → rule < length rules → may_go_on feeds entry rs rule ≡ true → Makes entry rs made
      → MatchOption o ((f : Structure) → IsUnderRule g place made f → ⊥) (λ m. IsUnderRule g place made (value m)) → MatchOption o ((f : Structure) → Makes entry (rs ++ rule ∷ []) f → ⊥) (λ m. Makes entry (rs ++ rule ∷ []) (value m))
  gone_on value None entry place rs rule made order e lt may a h = λ f b.
      stuck g order (map (place_in rules) rs) (place_in rules rule) [] a.full.2 (subst (λ p. (u : Structure) → IsUnderRule g p made u → ⊥) e h) (snoc_places rs rule) (from_entry g order a.full.1 b.full)
  gone_on value (Some m) entry place rs rule made order e lt may a h = record {
    entry_in = a.entry_in;
    rules_in = λ r k. elim (Has-snoc r rule rs k) [ inl q ↦ a.rules_in r q | inr q ↦ subst (λ n. n < length rules) (sym q) lt ];
    allowed = allowed_more feeds entry rs rule a.allowed may;
    full = (a.full.0, a.full.1, subst (λ ps. FullUnder g a.full.0 ps (value m)) (sym (snoc_places rs rule)) (under_more a.full.2 (subst (λ p. IsUnderRule g p made (value m)) e h)));
  }

  pub rule_out : (entry : ℕ) (rs : List ℕ) (rule : ℕ) → length rules ≤ rule → (f : Structure) → Makes entry (rs ++ rule ∷ []) f → ⊥
  rule_out entry rs rule le f a = let lt = a.rules_in rule (Has-right rule rs (rule ∷ []) (inl refl)) in omega (arith, le, lt)

  pub forbidden : (entry : ℕ) (rs : List ℕ) (rule : ℕ) → may_go_on feeds entry rs rule ≡ false → (f : Structure) → Makes entry (rs ++ rule ∷ []) f → ⊥
  forbidden entry rs rule off f a = true_not_false (may_go_on feeds entry rs rule) (allowed_less feeds entry rs rule a.allowed).1 off

  -- the laws
  pub one_made : IsOrder g.system → (entry : ℕ) (rs : List ℕ) (f h : Structure) → Makes entry rs f → Makes entry rs h → f ≡ h
  one_made order entry rs f h a b = one g order (full_lexical {words = []} {nodes = None} a.full) (full_lexical {words = []} {nodes = None} b.full)

  pub inner_made : IsOrder g.system → (entry : ℕ) (rs : List ℕ) (rule : ℕ) (f : Structure) → Makes entry (rs ++ rule ∷ []) f → (h : Structure) × Makes entry rs h
  inner_made order entry rs rule f a =
      let z = split g order (map (place_in rules) rs) (place_in rules rule) [] a.full.2 (snoc_places rs rule) in (
        z.inner,
        record { entry_in = a.entry_in; rules_in = λ r k. a.rules_in r (Has-left r rs (rule ∷ []) k); allowed = (allowed_less feeds entry rs rule a.allowed).0; full = (a.full.0, a.full.1, z.before) },
      )
