-- A tree that has a full structure is formed of entries and rules.
use Rattle.std.proofs.Common.{ℕ, ◌≡◌, List, [], ◌∷◌, length, refl, sym, arith, ◌∙◌}
use Rattle.std.specs.Prelude.{All}
use Rattle.std.proofs.lemmas.List.Elements.{All-nil, All-cons}
use Rattle.derivation.specs.Trees.{Derivation, Daughters, lexical, phrase, no_more, first}
use Rattle.tree_model.specs.Structures.{Structure}
use Rattle.tree_model.specs.Signs.{Signs}
use Rattle.tree_model.specs.Lexical.{FullUnder, under_next}
use Rattle.tree_model.specs.Trees.{Full, Fulls, full_lexical, full_phrase, no_fulls, more_fulls}
use Rattle.tree_structures.specs.Formed.{IsLexicalRuleAt, count_of, IsFormed, AreFormed}

module _ (g : Signs) where
  rules_formed : (rules : List ℕ) (d f : Structure) → FullUnder g d rules f → All (IsLexicalRuleAt g) rules
  rules_formed [] d f u = All-nil (IsLexicalRuleAt g)
  rules_formed (rule ∷ rules) d f (under_next {e = e} x u) =
      All-cons (IsLexicalRuleAt g) rule rules (record { instance = x.instance; at = x.at; kind_is = x.kind }) (rules_formed rules e f u)

  pub fulls_long : (ds : Daughters) (fs : List Structure) → Fulls g ds fs → length fs ≡ count_of ds
  fulls_long no_more _ no_fulls = refl
  fulls_long (first d ds) _ (more_fulls {fs = fs} a all) = let n = fulls_long ds fs all in omega (arith, n)

  mutual
    pub formed : (t : Derivation) (f : Structure) → Full g t f → IsFormed g t
    formed (lexical entry rules words nodes) f (full_lexical x) =
        (record { instance = x.1.instance; at = x.1.at; kind_is = x.1.kind }, rules_formed rules x.0 f x.2)
    formed (phrase rule ds) f (full_phrase fs all p) =
        (record { rule = record { instance = p.instance; at = p.at; kind_is = p.kind }; arity = sym p.arity ∙ fulls_long ds fs all }, all_formed ds fs all)

    all_formed : (ds : Daughters) (fs : List Structure) → Fulls g ds fs → AreFormed g ds
    all_formed no_more fs x = tt
    all_formed (first d ds) _ (more_fulls {f = f} {fs = fs} a all) = (formed d f a, all_formed ds fs all)
