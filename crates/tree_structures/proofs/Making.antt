-- The full structure of a tree is an entry's, or made by a rule.
use Rattle.std.proofs.Common.{List, [], ◌∷◌, map}
use Rattle.std.specs.Prelude.{All}
use Rattle.std.proofs.lemmas.List.Elements.{All-nil, All-cons, All-head, All-tail}
use Rattle.derivation.specs.Trees.{Derivation, Daughters, lexical, phrase, no_more, first}
use Rattle.tree_model.specs.Structures.{Structure}
use Rattle.tree_model.specs.Signs.{Signs}
use Rattle.tree_model.specs.Trees.{Full, Fulls, full_lexical, full_phrase, no_fulls, more_fulls}
use Rattle.rule_trees.specs.Mothers.{IsMade, made_mother}
use Rattle.rule_trees.proofs.OweLemmas.{lexical_made}

module _ (g : Signs) where
  pub full_made : (t : Derivation) (f : Structure) → Full g t f → IsMade g f
  full_made (lexical entry rules words nodes) f (full_lexical x) = lexical_made g f (record { entry = entry; rules = rules; full = x })
  full_made (phrase rule ds) f (full_phrase fs all p) = made_mother p.instance.rule fs p.full

  pub fulls_made : (ds : Daughters) (fs : List Structure) → Fulls g ds fs → All (IsMade g) fs
  fulls_made no_more _ no_fulls = All-nil (IsMade g)
  fulls_made (first d ds) _ (more_fulls {f = f} {fs = fs} a all) = All-cons (IsMade g) f fs (full_made d f a) (fulls_made ds fs all)

  pub made_of : {T : Type 0} (seen : T → Structure) (fs : List T) → All (IsMade g) (map seen fs) → All (λ f. IsMade g (seen f)) fs
  made_of seen [] h = All-nil (λ f. IsMade g (seen f))
  made_of seen (f ∷ fs) h =
      All-cons (λ x. IsMade g (seen x)) f fs (All-head (IsMade g) (seen f) (map seen fs) h) (made_of seen fs (All-tail (IsMade g) (seen f) (map seen fs) h))
