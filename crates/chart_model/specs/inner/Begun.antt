-- The daughters that are there, against the limits of a rule.
use Rattle.std.specs.Prelude.{◌≡◌, ℕ, ◌&&◌, Bool, true, false, nat_le, Option, Some, None, List, [], ◌∷◌, ◌++◌, length}
use Rattle.std.proofs.Common.{refl, ap, subst, arith}
use Rattle.chart_model.specs.Tables.{within, applies_at}
use Rattle.chart_model.specs.inner.TableLaws.{and_parts}
use Rattle.chart_model.specs.declared.table_rule.TableRule.{TableRule}

-- the same of the daughters that are there
abbrev pub starts_within : List ℕ → List ℕ → Bool
starts_within ls [] = true
starts_within [] (m ∷ ms) = false
starts_within (l ∷ ls) (m ∷ ms) = nat_le m l && starts_within ls ms

-- a beginning beyond its limits is the beginning of no tuple to which the rule applies
starts_not : (ls front rest : List ℕ) → starts_within ls front ≡ false → within ls (front ++ rest) ≡ true → ⊥
starts_not ls [] rest h w = cc
starts_not [] (m ∷ front) rest h w = cc
starts_not (l ∷ ls) (m ∷ front) rest h w =
    let p = and_parts (nat_le m l) (within ls (front ++ rest)) w in
    starts_not ls front rest (rw p.0 at h) p.1

pub none_applies_at : (o : Option TableRule) (ls : List ℕ) (front : List ℕ) → ((rule : TableRule) → o ≡ Some rule → rule.limits.items ≡ ls) → starts_within ls front ≡ false → (rest : List ℕ) → applies_at o (front ++ rest) → ⊥
none_applies_at None ls front is h rest a = a
none_applies_at (Some rule) ls front is h rest a = starts_not ls front rest h (subst (λ xs. within xs (front ++ rest) ≡ true) (is rule refl) a)

-- of as many daughters as there are limits
pub starts_whole : (ls ms : List ℕ) → length ms ≡ length ls → starts_within ls ms ≡ within ls ms
starts_whole [] [] l = refl
starts_whole [] (m ∷ ms) l = absurd (omega arith)
starts_whole (x ∷ ls) [] l = absurd (omega arith)
starts_whole (x ∷ ls) (m ∷ ms) l = ap (λ b. nat_le m x && b) (starts_whole ls ms (omega arith))
