-- Verdicts are right, and there is one at most.
use Rattle.std.proofs.Common.{ℕ, ◌≡◌, ◌<◌, ◌≤◌, ◌+◌, ◌⊎◌, inl, inr, Option, Some, None, length, refl, sym, ap, subst, arith}
use Rattle.std.proofs.lemmas.Bool.{cases_lt}
use Rattle.fs_model.proofs.PathLemmas.{not_before_nil}
use Rattle.fs_model.specs.Claims.{Path, Claim, exists_at, below, System}
use Rattle.fs_model.specs.Closure.{IsConsistent}
use Rattle.fs_model.specs.Numbering.{IsBefore, shorter, smaller, further}
use Rattle.forced_types.specs.Verdicts.{Verdict, Fits, Clash, TooLong, IsForced, IsFirstClash, IsVerdict}
use Rattle.forced_types.specs.Limits.{IsVerdictWithin}
use Rattle.forced_types.proofs.ForcedLemmas.{forced_within, closure_from_forced, forced_from_closure}

once : (p q p' q' : Path) → IsBefore p q → IsBefore q' p' → p ≡ p' → q ≡ q' → ⊥
once _ _ p' q' shorter b e d = not_before_nil q' (subst (λ x. IsBefore q' x) (sym e) b)
once _ _ _ _ (smaller h) shorter e d = absurd cc
once _ _ _ _ (smaller {f = f} {g = g} h) (smaller {f = g'} {g = f'} k) e d =
    let first : f ≡ f' = cc in
    let second : g ≡ g' = cc in
    absurd (omega arith)
once _ _ _ _ (smaller {f = f} {g = g} h) (further {f = f'} b) e d =
    let first : f ≡ f' = cc in
    let second : g ≡ f' = cc in
    absurd (omega arith)
once _ _ _ _ (further a) shorter e d = absurd cc
once _ _ _ _ (further {f = f} a) (smaller {f = g'} {g = f'} k) e d =
    let first : f ≡ f' = cc in
    let second : f ≡ g' = cc in
    absurd (omega arith)
once _ _ _ _ (further {p = p} {q = q} a) (further {p = q'} {q = p'} b) e d =
    let first : p ≡ p' = cc in
    let second : q ≡ q' = cc in
    once p q p' q' a b first second

pub before_once : {p q : Path} → IsBefore p q → IsBefore q p → ⊥
before_once {p} {q} a b = once p q p q a b refl refl

-- two paths of which neither comes after the other
pub one_least : (p q : Path) → (p ≡ q) ⊎ IsBefore p q → (q ≡ p) ⊎ IsBefore q p → p ≡ q
one_least p q (inl e) _ = e
one_least p q (inr a) (inl e) = sym e
one_least p q (inr a) (inr b) = absurd (before_once a b)

module _ (s : System) (g : Claim → Type 0) where
  pub fits_consistent : IsVerdict s g Fits → IsConsistent s g
  fits_consistent h =
      let forced = forced_from_closure s (s.path_limit + 1) g (λ p a l. h.1 p (record { forced = a; long = l })) in
      record {
        typed = λ p t u a b. meets p t u (forced _ a) (forced _ b);
        bounded = λ p a.
            let within : length p ≤ s.path_limit + 1 = forced_within s (s.path_limit + 1) g (exists_at p) (forced _ a) in
            short p (forced _ a) within;
      }
    where
      meets : (p : Path) (t u : ℕ) → IsForced s g (below p t) → IsForced s g (below p u) → (m : ℕ) × (s.meet t u ≡ Some m)
      meets p t u a b = go (s.meet t u) refl
        where
          go : (o : Option ℕ) → s.meet t u ≡ o → (m : ℕ) × (s.meet t u ≡ Some m)
          go None is = absurd (h.0 p t u (record { first = a; second = b; apart = is }))
          go (Some m) is = (m, is)

      short : (p : Path) → IsForced s g (exists_at p) → length p ≤ s.path_limit + 1 → length p ≤ s.path_limit
      short p a w = go (cases_lt s.path_limit (length p))
        where
          go : (s.path_limit < length p) ⊎ (length p ≤ s.path_limit) → length p ≤ s.path_limit
          go (inl k) = absurd (h.1 p (record { forced = a; long = omega arith }))
          go (inr k) = k

  pub consistent_fits : IsConsistent s g → IsVerdict s g Fits
  consistent_fits ok = (
    λ p t u c.
        let m = ok.typed p t u (closure_from_forced s _ g _ c.first) (closure_from_forced s _ g _ c.second) in
        apart t u c.apart m.0 m.1,
    λ p l.
        let h : length p ≤ s.path_limit = ok.bounded p (closure_from_forced s _ g _ l.forced) in
        longer p h l.long,
  )
    where
      apart : (t u : ℕ) → s.meet t u ≡ None → (m : ℕ) → s.meet t u ≡ Some m → ⊥
      apart t u a m b = absurd cc

      longer : (p : Path) → length p ≤ s.path_limit → length p ≡ s.path_limit + 1 → ⊥
      longer p a b = absurd (omega arith)

  one_pair : (p : Path) (t u v w : ℕ) → IsFirstClash s g p t u → IsFirstClash s g p v w → (t ≡ v) × (u ≡ w)
  one_pair p t u v w a b = go (a.smaller v w b.clashes) (b.smaller t u a.clashes)
    where
      go : (t < v) ⊎ ((t ≡ v) × ((u ≡ w) ⊎ (u < w))) → (v < t) ⊎ ((v ≡ t) × ((w ≡ u) ⊎ (w < u))) → (t ≡ v) × (u ≡ w)
      go (inl x) (inl y) = absurd (omega arith)
      go (inl x) (inr y) = absurd (omega (arith, y.0))
      go (inr x) (inl y) = absurd (omega (arith, x.0))
      go (inr x) (inr y) = (x.0, second x.1 y.1)
        where
          second : (u ≡ w) ⊎ (u < w) → (w ≡ u) ⊎ (w < u) → u ≡ w
          second (inl e) _ = e
          second (inr k) (inl e) = sym e
          second (inr k) (inr l) = absurd (omega arith)

  pub one_verdict : (a b : Verdict) → IsVerdict s g a → IsVerdict s g b → a ≡ b
  one_verdict Fits Fits h k = refl
  one_verdict Fits (Clash p t u) h k = absurd (h.0 p t u k.clashes)
  one_verdict Fits (TooLong p) h k = absurd (h.1 p k.1.long)
  one_verdict (Clash p t u) Fits h k = absurd (k.0 p t u h.clashes)
  one_verdict (Clash p t u) (Clash q v w) h k = go (one_least p q (h.least q v w k.clashes) (k.least p t u h.clashes)) h
    where
      go : p ≡ q → IsFirstClash s g p t u → Clash p t u ≡ Clash q v w
      go e h' =
          let moved : IsFirstClash s g q t u = subst (λ x. IsFirstClash s g x t u) e h' in
          let both = one_pair q t u v w moved k in
          let first = both.0 in
          let second = both.1 in
          cc
  one_verdict (Clash p t u) (TooLong q) h k = absurd (k.0 p t u h.clashes)
  one_verdict (TooLong p) Fits h k = absurd (k.1 p h.1.long)
  one_verdict (TooLong p) (Clash q v w) h k = absurd (h.0 q v w k.clashes)
  one_verdict (TooLong p) (TooLong q) h k = ap TooLong (one_least p q (h.1.least q k.1.long) (k.1.least p h.1.long))

  -- within a limit too
  pub one_within : (limit : ℕ) (a b : Option Verdict) → IsVerdictWithin s g limit a → IsVerdictWithin s g limit b → a ≡ b
  one_within limit None None h k = refl
  one_within limit None (Some b) h k = absurd (k.1 h)
  one_within limit (Some a) None h k = absurd (h.1 k)
  one_within limit (Some a) (Some b) h k = ap Some (one_verdict a b h.0 k.0)
