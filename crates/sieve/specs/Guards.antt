-- What is kept beside the function of a guard.
use Rattle.std.specs.Prelude.{ℕ, ◌≡◌, Bool}
use Rattle.std.specs.Borrow.{Bor}

-- the function answers exactly this relation of rules and values
abbrev pub Answers : {F T : Type 0} → (F → ℕ → Bor T → Bool → Type 0) → F → (ℕ → T → Bool) → Type 0
Answers {F} {T} post f relation = (rule : ℕ) (site : Bor T) (yes : Bool) → post f rule site yes → yes ≡ relation rule site.now
