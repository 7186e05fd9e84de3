-- When names are the same.
use Rattle.std.proofs.Common.{◌≡◌, ◌⊎◌, inl, inr, true, false, sym, ◌∙◌}
use Rattle.std.specs.Str.{bytes_eq}
use Rattle.std.proofs.lemmas.Slice.Eq.{bytes_eq-Decides}
use Rattle.type_hierarchy.specs.Decls.{Name}
use Rattle.type_facts.proofs.ListLemmas.{bools, true_not_false}

pub bytes_eq-same : (a b : Name) → bytes_eq a b ≡ true → a ≡ b
bytes_eq-same a b = (bytes_eq-Decides a b).0

pub bytes_eq-refl : (a b : Name) → a ≡ b → bytes_eq a b ≡ true
bytes_eq-refl a b = (bytes_eq-Decides a b).1

pub bytes_eq-swap : (a b : Name) → bytes_eq a b ≡ bytes_eq b a
bytes_eq-swap a b = go (bools (bytes_eq a b)) (bools (bytes_eq b a))
  where
    go : (bytes_eq a b ≡ true) ⊎ (bytes_eq a b ≡ false) → (bytes_eq b a ≡ true) ⊎ (bytes_eq b a ≡ false) → bytes_eq a b ≡ bytes_eq b a
    go (inl e) f = e ∙ sym (bytes_eq-refl b a (sym (bytes_eq-same a b e)))
    go (inr e) (inl f) = true_not_false (bytes_eq a b) (bytes_eq-refl a b (sym (bytes_eq-same b a f))) e
    go (inr e) (inr f) = e ∙ sym f
