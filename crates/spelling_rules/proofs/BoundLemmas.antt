-- Groups whose variables are all bound.
use Rattle.std.proofs.Common.{ℕ, ◌≡◌, ◌⊎◌, inl, inr, List, [], ◌∷◌, refl, sym, subst}
use Rattle.lexicon.specs.Words.{Has, Each}
use Rattle.spelling_rules.specs.Trees.{SignTree, letter, variable, GroupTree, IsBound}
use Rattle.spelling_rules.specs.Inner.Keeping.{IsFound}

pub found_each : (p ss : List SignTree) → ((name : ℕ) (members : List ℕ) → Has (variable name members) ss → Has (variable name members) p) → Each (IsFound p) ss
found_each p [] h = tt
found_each p (letter c ∷ ss) h = (tt, found_each p ss (λ n ms k. h n ms (inr k)))
found_each p (variable name members ∷ ss) h = (h name members (inl refl), found_each p ss (λ n ms k. h n ms (inr k)))

pub each_found : (p ss : List SignTree) → Each (IsFound p) ss → (name : ℕ) (members : List ℕ) → Has (variable name members) ss → Has (variable name members) p
each_found p [] e n ms h = absurd h
each_found p (letter c ∷ ss) e n ms (inl q) = cc
each_found p (letter c ∷ ss) e n ms (inr h) = each_found p ss e.1 n ms h
each_found p (variable name members ∷ ss) e n ms (inl q) = subst (λ s. Has s p) (sym q) e.0
each_found p (variable name members ∷ ss) e n ms (inr h) = each_found p ss e.1 n ms h
