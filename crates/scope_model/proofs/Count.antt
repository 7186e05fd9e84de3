-- In a reading the labels are one more than the openings.
use Rattle.std.proofs.Common.{ℕ, zero, suc, ◌+◌, ◌≡◌, ◌⊎◌, inl, inr, Bool, true, false, List, [], ◌∷◌, length, refl, sym, ◌∙◌, ap, ap₂, subst, arith, ◌==◌}
use Rattle.std.specs.Prelude.{Contains, ◌↔◌, if◌then◌else◌}
use Rattle.std.proofs.lemmas.Bool.{eqb-true}
use Rattle.scope_model.specs.declared.Opening.{Opening}
use Rattle.scope_model.specs.Frames.{Frame}
use Rattle.scope_model.specs.Readings.{Plugged, IsLabel, label_at, times_led, IsReading}
use Rattle.scope_model.specs.States.{AreOnce}
use Rattle.scope_model.proofs.Lists.{In, in_of, contains_of}
use Rattle.scope_model.proofs.Led.{hole_label}
use Rattle.scope_model.proofs.Under.{yes, led_test}

abbrev total : List ℕ → (ℕ → ℕ) → ℕ
total [] g = 0
total (l ∷ ls) g = g l + total ls g

once_in : (l : ℕ) (ls : List ℕ) → AreOnce (l ∷ ls) → In l ls → ⊥
once_in l ls d i = d.0 (contains_of ls l i)

module _ (p : Plugged) where
  none_zero : (ls : List ℕ) → total ls (times_led [] p) ≡ 0
  none_zero [] = refl
  none_zero (l ∷ ls) = let e = none_zero ls in ap (λ n. 0 + n) e

  kept : (x : Opening) (os : List Opening) (l : ℕ) → (label_at p x.hole ≡ l → ⊥) → times_led (x ∷ os) p l ≡ times_led os p l
  kept x os l never = by_test (label_at p x.hole == l) refl
    where
      by_test : (b : Bool) → b ≡ (label_at p x.hole == l) → (if b then 1 + times_led os p l else times_led os p l) ≡ times_led os p l
      by_test true e = absurd (never (eqb-true (label_at p x.hole) l (sym e)))
      by_test false e = refl

  total_kept : (x : Opening) (os : List Opening) (ls : List ℕ) → (In (label_at p x.hole) ls → ⊥) → total ls (times_led (x ∷ os) p) ≡ total ls (times_led os p)
  total_kept x os [] never = refl
  total_kept x os (l ∷ ls) never = ap₂ (λ m n. m + n) (kept x os l (λ e. never (inl e))) (total_kept x os ls (λ i. never (inr i)))

  total_more : (x : Opening) (os : List Opening) (ls : List ℕ) → AreOnce ls → In (label_at p x.hole) ls → total ls (times_led (x ∷ os) p) ≡ 1 + total ls (times_led os p)
  total_more x os [] d i = absurd i
  total_more x os (l ∷ ls) d (inl e) =
      let one : times_led (x ∷ os) p l ≡ 1 + times_led os p l = yes (label_at p x.hole == l) (times_led os p l) (led_test p l x e) in
      let rest = total_kept x os ls (λ i. once_in l ls d (subst (λ z. In z ls) e i)) in
      let g : (1 + times_led os p l) + total ls (times_led os p) ≡ 1 + (times_led os p l + total ls (times_led os p)) = omega arith in
      ap₂ (λ m n. m + n) one rest ∙ g
  total_more x os (l ∷ ls) d (inr i) =
      let same = kept x os l (λ e. once_in l ls d (subst (λ z. In z ls) e i)) in
      let rest = total_more x os ls d.1 i in
      let g : times_led os p l + (1 + total ls (times_led os p)) ≡ 1 + (times_led os p l + total ls (times_led os p)) = omega arith in
      ap₂ (λ m n. m + n) same rest ∙ g

  total_all : (os : List Opening) (ls : List ℕ) → AreOnce ls → ((o : Opening) → In o os → In (label_at p o.hole) ls) → total ls (times_led os p) ≡ length os
  total_all [] ls d h = none_zero ls
  total_all (x ∷ os) ls d h =
      let one = total_more x os ls d (h x (inl refl)) in
      let rest = total_all os ls d (λ o i. h o (inr i)) in
      omega (arith, one, rest)

module _ (top : ℕ) (t : ℕ → ℕ) (zero_top : t top ≡ 0) where
  without_top : (ls : List ℕ) → ((l : ℕ) → In l ls → (l ≡ top) ⊎ (t l ≡ 1)) → (In top ls → ⊥) → total ls t ≡ length ls
  without_top [] h never = refl
  without_top (l ∷ ls) h never =
      let rest = without_top ls (λ k i. h k (inr i)) (λ i. never (inr i)) in
      elim (h l (inl refl)) [
        | inl e ↦ absurd (never (inl (sym e)))
        | inr e ↦ (let g : total (l ∷ ls) t ≡ t l + total ls t = refl in omega (arith, g, e, rest))
      ]

  with_top : (ls : List ℕ) → AreOnce ls → ((l : ℕ) → In l ls → (l ≡ top) ⊎ (t l ≡ 1)) → In top ls → total ls t + 1 ≡ length ls
  with_top [] d h i = absurd i
  with_top (l ∷ ls) d h (inl e) =
      let rest = without_top ls (λ k i. h k (inr i)) (λ i. once_in l ls d (subst (λ z. In z ls) e i)) in
      let z : t l ≡ 0 = ap t (sym e) ∙ zero_top in
      let g : total (l ∷ ls) t ≡ t l + total ls t = refl in
      omega (arith, g, z, rest)
  with_top (l ∷ ls) d h (inr i) =
      let rest = with_top ls d.1 (λ k j. h k (inr j)) i in
      let g : total (l ∷ ls) t ≡ t l + total ls t = refl in
      elim (h l (inl refl)) [
        | inl e ↦ absurd (once_in l ls d (subst (λ z. In z ls) (sym e) i))
        | inr e ↦ omega (arith, g, e, rest)
      ]

pub count : (f : Frame) (p : Plugged) → IsReading f p → (ls : List ℕ) → AreOnce ls → ((l : ℕ) → Contains ls l ↔ IsLabel f l) → length ls ≡ length f.openings + 1
count f p r ls once same =
    let all = total_all p f.openings ls once (λ o i. in_of ls (label_at p o.hole) ((same (label_at p o.hole)).1 (hole_label f p r o i))) in
    let top = in_of ls p.top ((same p.top).1 r.plugging.top) in
    let ones = with_top p.top (times_led f.openings p) r.tree.root ls once (λ l i. r.tree.once l ((same l).0 (contains_of ls l i))) top in
    omega (arith, all, ones)
