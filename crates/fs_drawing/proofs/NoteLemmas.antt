-- Numbers above a floor.
use Rattle.std.proofs.Common.{ℕ, ◌≡◌, ◌≢◌, ◌≤◌, ◌<◌, ◌+◌, ◌-◌, ◌++◌, ◌⊎◌, inl, inr, List, length, take, replicate, slice_index, refl, sym, ◌∙◌, ap, subst, arith}
use Rattle.std.proofs.Math.ListN.{set, get_or-append}
use Rattle.std.proofs.lemmas.Bool.{cases_lt}
use Rattle.std.proofs.lemmas.List.{get_or-map, get_or_past, get_or-set_same, get_or-set_other, length-set, length-map, get_or-append_right, get_or-replicate, length-replicate, take_all}
use Rattle.fs_model.proofs.StepLemmas.{same_or_other}
use Rattle.fs_drawing.specs.Noting.{Noted}
use Rattle.fs_drawing.specs.Inner.Floors.{all_over, AreBelow}

pub over_at : (floor : ℕ) (written : List ℕ) (n : ℕ) → slice_index (all_over floor written) n ≡ slice_index written n - floor
over_at floor written n = go (cases_lt n (length written))
  where
    go : (n < length written) ⊎ (length written ≤ n) → slice_index (all_over floor written) n ≡ slice_index written n - floor
    go (inl h) = get_or-map (λ v. v - floor) written n 0 0 h
    go (inr h) =
        let a = get_or_past (all_over floor written) n 0 (omega (arith, h, length-map written (λ v. v - floor))) in
        let b = get_or_past written n 0 h in
        omega (arith, a, b)

pub over_size : (floor : ℕ) (written : List ℕ) → length (all_over floor written) ≡ length written
over_size floor written = length-map written (λ v. v - floor)

-- a number that is written
module _ (floor top : ℕ) (written : List ℕ) (n number : ℕ) (h : n < length written) (below : AreBelow floor top written) where
  here_is : slice_index (set written n (floor + number)) n ≡ floor + number
  here_is = get_or-set_same written n (floor + number) 0 h

  other_is : (k : ℕ) → k ≢ n → slice_index (set written n (floor + number)) k ≡ slice_index written k
  other_is k e = get_or-set_other written n k (floor + number) 0 e

  pub notes : Noted n number (all_over floor written) (all_over floor (set written n (floor + number)))
  notes = record {
    here = let a = over_at floor (set written n (floor + number)) n in let b = here_is in omega (arith, a, b);
    others = λ k e. over_at floor (set written n (floor + number)) k ∙ ap (λ v. v - floor) (other_is k e) ∙ sym (over_at floor written k);
    size = over_size floor (set written n (floor + number)) ∙ length-set written n (floor + number) ∙ sym (over_size floor written);
  }

  pub below_noted : (new : ℕ) → top ≤ new → floor + number ≤ new → AreBelow floor new (set written n (floor + number))
  below_noted new a b = record { low = let l = below.low in omega (arith, l, a); past = λ k. past k (same_or_other k n) }
    where
      past : (k : ℕ) → (k ≡ n) ⊎ (k ≢ n) → slice_index (set written n (floor + number)) k ≤ new
      past k (inl e) = let i = here_is in subst (λ z. slice_index (set written n (floor + number)) z ≤ new) (sym e) (omega (arith, i, b))
      past k (inr e) = let o = other_is k e in let p = below.past k in omega (arith, o, p, a)

-- nothing is written above the floor
pub none_over : (floor : ℕ) (written : List ℕ) → ((n : ℕ) → slice_index written n ≤ floor) → (n : ℕ) → slice_index (all_over floor written) n ≡ 0
none_over floor written below n = let a = over_at floor written n in let b = below n in omega (arith, a, b)

pub below_cleared : (floor : ℕ) (written : List ℕ) → ((n : ℕ) → slice_index written n ≤ floor) → AreBelow floor floor written
below_cleared floor written below = record { low = omega arith; past = below }

-- more places
module _ (floor top : ℕ) (written : List ℕ) (more : ℕ) (below : AreBelow floor top written) where
  abbrev pub longer : List ℕ
  longer = written ++ replicate more 0

  new_at : (n : ℕ) → length written ≤ n → slice_index longer n ≡ 0
  new_at n h = get_or-append_right written (replicate more 0) (length written) n 0 refl h ∙ go (cases_lt (n - length written) more)
    where
      go : (n - length written < more) ⊎ (more ≤ n - length written) → slice_index (replicate more 0) (n - length written) ≡ 0
      go (inl i) = get_or-replicate {A = ℕ} more (n - length written) 0 0 i
      go (inr i) = get_or_past (replicate more 0) (n - length written) 0 (omega (arith, i, length-replicate {A = ℕ} more 0))

  same_at : (n : ℕ) → slice_index longer n ≡ slice_index written n
  same_at n = go (cases_lt n (length written))
    where
      go : (n < length written) ⊎ (length written ≤ n) → slice_index longer n ≡ slice_index written n
      go (inl i) = get_or-append written (replicate more 0) 0 n i
      go (inr i) = new_at n i ∙ sym (get_or_past written n 0 i)

  pub below_longer : AreBelow floor top (written ++ replicate more 0)
  below_longer = record { low = below.low; past = λ n. let s = same_at n in let p = below.past n in omega (arith, s, p) }

  pub kept_longer : (n : ℕ) → slice_index (all_over floor (written ++ replicate more 0)) n ≡ slice_index (all_over floor written) n
  kept_longer n = over_at floor longer n ∙ ap (λ v. v - floor) (same_at n) ∙ sym (over_at floor written n)

-- what a call of the code adds
pub widened : (xs ys : List ℕ) (n l : ℕ) → ys ≡ take n xs ++ replicate (n - l) 0 → l ≡ length xs → length xs ≤ n →
    ys ≡ xs ++ replicate (n - length xs) 0
widened xs ys n l is len h =
    is ∙ ap (λ z. z ++ replicate (n - l) 0) (take_all n xs h) ∙ ap (λ k. xs ++ replicate (n - k) 0) len
