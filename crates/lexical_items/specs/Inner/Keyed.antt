-- Lists in which each key of a set has one element.
use Rattle.std.specs.Prelude.{ℕ, ◌≡◌, List, ◌++◌}
use Rattle.chart_model.specs.At.{At}

module _ {K X : Type 0} (Is : K → X → Type 0) where
  -- exactly the elements of these keys, each once
  pub record AreOf (D : K → Type 0) (xs : List X) : Type 0 where
    pub each : (n : ℕ) (x : X) → At xs n x → (k : K) × D k × Is k x
    pub all : (k : K) → D k → (n : ℕ) × (x : X) × At xs n x × Is k x
    pub once : (n m : ℕ) (x y : X) (k : K) → At xs n x → At xs m y → Is k x → Is k y → n ≡ m

  -- these came to a list
  pub record Adds (D : K → Type 0) (old new : List X) : Type 0 where
    pub more : List X
    pub is : new ≡ old ++ more
    pub are : AreOf D more
