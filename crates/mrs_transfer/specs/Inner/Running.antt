-- Runs that go on from an MRS that rules have made so far.
use Rattle.std.specs.Prelude.{ℕ, ◌≡◌, ◌+◌, Bool, List, ◌∷◌, drop}
use Rattle.mrs_model.specs.Meanings.{Meaning}
use Rattle.transfer_model.specs.Rules.{Rule}
use Rattle.transfer_model.specs.Sites.{Site, IsLeastSite}
use Rattle.transfer_model.specs.Applying.{IsApplied}
use Rattle.transfer_model.specs.Runs.{Makes, HasSteps}

-- What the rule and those after it make of the second MRS, they make of the first by more applications. Beside each MRS stands how many there were before it.
pub record Leads (allows : ℕ → Site → Bool) (number : ℕ) (r : Rule) (first : Meaning) (before : ℕ) (m : Meaning) (steps : ℕ) : Type 0 where
  pub more : ℕ
  pub count : steps ≡ before + more
  pub makes : (rs : List Rule) (k : ℕ) (end : Meaning) → Makes allows number (r ∷ rs) m k end → Makes allows number (r ∷ rs) first (more + k) end
  pub has_steps : (rs : List Rule) (k : ℕ) → HasSteps allows number (r ∷ rs) m k → HasSteps allows number (r ∷ rs) first (more + k)

-- the rule is applied once more after the most applications
pub record GoesOver (allows : ℕ → Site → Bool) (number : ℕ) (r : Rule) (first : Meaning) (before most : ℕ) : Type 0 where
  pub last : Meaning
  pub site : Site
  pub next : Meaning
  pub leads : Leads allows number r first before last most
  pub least : IsLeastSite allows number r last site
  pub applied : IsApplied last r site next

-- What the rules from this number on make of the second MRS, all rules make of the first by so many applications more.
pub record Follows (allows : ℕ → Site → Bool) (rules : List Rule) (first : Meaning) (number : ℕ) (m : Meaning) (steps : ℕ) : Type 0 where
  pub makes : (k : ℕ) (end : Meaning) → Makes allows number (drop number rules) m k end → Makes allows 0 rules first (steps + k) end
  pub has_steps : (k : ℕ) → HasSteps allows number (drop number rules) m k → HasSteps allows 0 rules first (steps + k)
