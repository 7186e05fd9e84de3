-- Loops over features at their end.
use Rattle.std.proofs.Common.{◌≡◌, ◌↔◌, ℕ, zero, suc, ◌≤◌, true, List, [], ◌∷◌, map, take, refl, ap, subst, length, arith, IsTrue}
use Rattle.transfer_rules.specs.declared.features.Feature.{Feature as DeclaredFeature}
use Rattle.transfer_rules.specs.Features.{DifferInName}
use Rattle.transfer_rules.specs.Inner.Views.{feature_of}

take_end : {A : Type 0} (xs : List A) (i : ℕ) → length xs ≤ i → take i xs ≡ xs
take_end [] zero n = refl
take_end [] (suc i) n = refl
take_end (x ∷ xs) zero n = absurd (omega (arith, n))
take_end (x ∷ xs) (suc i) n = ap (λ l. x ∷ l) (take_end xs i (omega (arith, n)))

pub all_differ : (xs : List DeclaredFeature) (i : ℕ) → length xs ≤ i → DifferInName (map feature_of (take i xs)) → IsTrue true ↔ DifferInName (map feature_of xs)
all_differ xs i n d = (λ (t : IsTrue true). subst (λ l. DifferInName (map feature_of l)) (take_end xs i n) d, λ (h : DifferInName (map feature_of xs)). refl)
