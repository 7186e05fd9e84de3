-- Numbers of settings that stop at a bound.
use Rattle.std.proofs.Common.{◌≡◌, ℕ, List, [], ◌∷◌, min, fold, ap, sym, ◌∙◌, arith}
use Rattle.grammar_settings.specs.Forms.{with_digit}

-- a number that stops at a bound is the number up to there, whatever digits follow
pub fold_capped : (bound n : ℕ) (cs : List ℕ) → min (fold with_digit (min n bound) cs) bound ≡ min (fold with_digit n cs) bound
fold_capped bound n [] = omega arith
fold_capped bound n (c ∷ cs) =
    let e : min (with_digit (min n bound) c) bound ≡ min (with_digit n c) bound = omega arith in
    sym (fold_capped bound (with_digit (min n bound) c) cs) ∙ ap (λ k. min (fold with_digit k cs) bound) e ∙ fold_capped bound (with_digit n c) cs
