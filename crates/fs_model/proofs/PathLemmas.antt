-- The order of paths.
use Rattle.std.proofs.Common.{ℕ, ◌≡◌, ◌≤◌, ◌<◌, ◌⊎◌, inl, inr, [], ◌∷◌, ◌++◌, refl, ◌∙◌, ap, subst, arith}
use Rattle.std.proofs.lemmas.Bool.{cases_lt}
use Rattle.fs_model.specs.Claims.{Path}
use Rattle.fs_model.specs.Numbering.{IsBefore, shorter, smaller, further}

-- any two paths are equal, or one is before the other
pub compare_paths : (p q : Path) → (p ≡ q) ⊎ IsBefore p q ⊎ IsBefore q p
compare_paths [] [] = inl refl
compare_paths [] (g ∷ q) = inr (inl shorter)
compare_paths (f ∷ p) [] = inr (inr shorter)
compare_paths (f ∷ p) (g ∷ q) = go (cases_lt f g) (cases_lt g f) (compare_paths p q)
  where
    go : (f < g) ⊎ (g ≤ f) → (g < f) ⊎ (f ≤ g) → (p ≡ q) ⊎ IsBefore p q ⊎ IsBefore q p →
        (f ∷ p ≡ g ∷ q) ⊎ IsBefore (f ∷ p) (g ∷ q) ⊎ IsBefore (g ∷ q) (f ∷ p)
    go (inl a) _ _ = inr (inl (smaller a))
    go (inr a) (inl b) _ = inr (inr (smaller b))
    go (inr a) (inr b) r = let e : f ≡ g = omega arith in same e r
      where
        same : f ≡ g → (p ≡ q) ⊎ IsBefore p q ⊎ IsBefore q p →
            (f ∷ p ≡ g ∷ q) ⊎ IsBefore (f ∷ p) (g ∷ q) ⊎ IsBefore (g ∷ q) (f ∷ p)
        same e (inl d) = inl (ap (λ x. x ∷ p) e ∙ ap (λ x. g ∷ x) d)
        same e (inr (inl d)) = inr (inl (subst (λ x. IsBefore (f ∷ p) (x ∷ q)) e (further d)))
        same e (inr (inr d)) = inr (inr (subst (λ x. IsBefore (x ∷ q) (f ∷ p)) e (further d)))

pub not_before_nil : (q : Path) → IsBefore q [] → ⊥
not_before_nil [] h = elim h [ ]
not_before_nil (x ∷ q) h = elim h [ ]

pub before_further : {a p : Path} (r : Path) → IsBefore a p → IsBefore a (p ++ r)
before_further r shorter = shorter
before_further r (smaller h) = smaller h
before_further r (further h) = further (before_further r h)

pub before_extension : (p : Path) (f : ℕ) (r : Path) → IsBefore p (p ++ f ∷ r)
before_extension [] f r = shorter
before_extension (x ∷ p) f r = further (before_extension p f r)

pub before_branch : (p : Path) (g f : ℕ) (r t : Path) → g < f → IsBefore (p ++ g ∷ r) (p ++ f ∷ t)
before_branch [] g f r t h = smaller h
before_branch (x ∷ p) g f r t h = further (before_branch p g f r t h)

-- what is before p with one feature more
pub before_longer : (p q : Path) (f : ℕ) → IsBefore q (p ++ f ∷ []) →
    IsBefore q p ⊎ (q ≡ p) ⊎ ((g : ℕ) × (r : Path) × (g < f) × (q ≡ p ++ g ∷ r))
before_longer [] [] f h = inr (inl refl)
before_longer [] (g ∷ q) f (smaller a) = inr (inr (g, q, a, refl))
before_longer [] (g ∷ q) f (further a) = absurd (not_before_nil q a)
before_longer (x ∷ p) [] f h = inl shorter
before_longer (x ∷ p) (y ∷ q) f (smaller a) = inl (smaller a)
before_longer (x ∷ p) (_ ∷ q) f (further a) = go (before_longer p q f a)
  where
    go : IsBefore q p ⊎ (q ≡ p) ⊎ ((g : ℕ) × (r : Path) × (g < f) × (q ≡ p ++ g ∷ r)) →
        IsBefore (x ∷ q) (x ∷ p) ⊎ (x ∷ q ≡ x ∷ p) ⊎ ((g : ℕ) × (r : Path) × (g < f) × (x ∷ q ≡ x ∷ (p ++ g ∷ r)))
    go (inl b) = inl (further b)
    go (inr (inl b)) = inr (inl (ap (λ z. x ∷ z) b))
    go (inr (inr b)) = inr (inr (b.0, b.1, b.2, ap (λ z. x ∷ z) b.3))
