-- What was found of the hosts before.
use Rattle.std.specs.Prelude.{◌≡◌, ℕ, Some, List, [], map}
use Rattle.chart_model.specs.Calculus.{Calculus}
use Rattle.chart_model.specs.At.{At}
use Rattle.chart_core.specs.declared.Row.{Row}
use Rattle.chart_core.specs.declared.Peer.{Peer}
use Rattle.chart_core.specs.declared.Outcome.{Outcome}
use Rattle.chart_core.specs.declared.Outcome.TheVariants as outcomes
use Rattle.chart_core.specs.declared.Verdict.{Verdict}

module _ {X T C W B M : Type 0} (k : Calculus M C) (meaning : T → M) (m : M) where
  -- what the verdict says of a row's structure and this one is so
  pub record Holds (row : Row X T C W B) (v : Verdict) : Type 0 where
    pub over : (shape : T) → row.shape ≡ Some shape → v.over ≡ k.over (meaning shape) m
    pub under : (shape : T) → row.shape ≡ Some shape → v.under ≡ k.over m (meaning shape)

  -- each verdict is right
  abbrev pub AreRight : List (Row X T C W B) → List Verdict → Type 0
  AreRight rows verdicts = (i : ℕ) (v : Verdict) (row : Row X T C W B) → At verdicts i v → At rows v.row.0 row → Holds row v

module _ {X T C W B M : Type 0} (k : Calculus M C) (meaning : T → M) (m : M) where
  -- the verdict tells how this host's structure and this one stand
  pub record StandsTo (peer : Peer X T C W B) (v : Verdict) : Type 0 where
    pub row : v.row ≡ peer.row
    pub over : v.over ≡ k.over (meaning peer.shape) m
    pub under : v.under ≡ k.over m (meaning peer.shape)

  -- each verdict is on one of these hosts
  abbrev pub AreOn : List (Peer X T C W B) → List Verdict → Type 0
  AreOn hosts verdicts = (i : ℕ) (v : Verdict) → At verdicts i v → (n : ℕ) × (peer : Peer X T C W B) × At hosts n peer × StandsTo peer v

module _ {X T C W B : Type 0} where
  -- one verdict for each host, in order, where the outcome has a structure, and otherwise none
  abbrev pub OneEach : List (Peer X T C W B) → Outcome X T C W B → List Verdict → Type 0
  OneEach hosts (outcomes.Fails) verdicts = verdicts ≡ []
  OneEach hosts (outcomes.Fits cover) verdicts = verdicts ≡ []
  OneEach hosts (outcomes.Whole cover shape) verdicts = map (λ v. v.row) verdicts ≡ map (λ p. p.row) hosts
