-- Numbers that a test told apart aren't equal.
use Rattle.std.proofs.Common.{ℕ, ◌≡◌, ◌∙◌, Bool, true, false, nat_eq, sym, ap, rules}
use Rattle.std.proofs.Math.Dec.{eqb_refl}

same : (m : ℕ) → nat_eq m m ≡ true
same m = search rules

pub unequal : (m n : ℕ) → nat_eq m n ≡ false → m ≡ n → ⊥
unequal m n e is = let z : true ≡ false = sym (same m) ∙ (ap (nat_eq m) is ∙ e) in absurd (cc)
