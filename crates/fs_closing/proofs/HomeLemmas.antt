-- Where the graph of each node is found.
use Rattle.std.proofs.Common.{ℕ, ◌≡◌, ◌≢◌, ◌≤◌, ◌<◌, ◌+◌, ◌-◌, ◌⊎◌, inl, inr, None, Some, List, [], ◌∷◌, ◌++◌, length, take, replicate, slice_index_or, refl, sym, ◌∙◌, ap, arith, length-append}
use Rattle.std.proofs.Math.ListN.{get_or-append}
use Rattle.std.proofs.Math.Seq.{get_or-append_seam}
use Rattle.std.proofs.lemmas.Bool.{cases_lt}
use Rattle.std.proofs.lemmas.List.{get_or_past, get_or-append_right, get_or-replicate, length-replicate, get_or-take, length-take-le, take_all}
use Rattle.fs_closing.specs.declared.parts.Based.{Based}
use Rattle.fs_closing.specs.Beside.{home, ArePlaced}
use Rattle.fs_closing.specs.Inner.Homes.{HaveHomes}
use Rattle.fs_closing.proofs.BesideLemmas.{home_none, home_old, home_new, home_past}

-- no graphs
pub homes_none : HaveHomes [] []
homes_none = record {
  none = λ n e. refl;
  some = λ n k e. absurd (let d : 0 ≡ k + 1 = e in omega (arith, d));
}

-- a place that is read
pub homes_read : (parts : List Based) (homes : List ℕ) (n behind : ℕ) → HaveHomes parts homes → behind ≡ slice_index_or homes n 0 → behind ≢ 0 →
    (behind - 1 < length parts) × ((d : Based) → home n parts ≡ Some (slice_index_or parts (behind - 1) d))
homes_read parts homes n behind h is some = h.some n (behind - 1) (omega (arith, is, some))

-- zeros are no places
pub at_zeros : (count n x : ℕ) → x ≡ 0 → slice_index_or (replicate count x) n 0 ≡ x
at_zeros count n x is = go (cases_lt n count)
  where
    go : (n < count) ⊎ (count ≤ n) → slice_index_or (replicate count x) n 0 ≡ x
    go (inl h) = get_or-replicate {A = ℕ} count n x 0 h
    go (inr h) = get_or_past (replicate count x) n 0 (omega (arith, length-replicate {A = ℕ} count x)) ∙ sym is

-- a list that was brought to a length
module _ (xs ys : List ℕ) (n l x : ℕ) (is : ys ≡ take n xs ++ replicate (n - l) x) (len : l ≡ length xs) where
  resized_long : n ≤ length xs → ys ≡ take n xs
  resized_long h = is ∙ ap (λ k. take n xs ++ replicate k x) (let z : n - l ≡ 0 = omega (arith, len, h) in z) ∙ nil (take n xs)
    where
      nil : (zs : List ℕ) → zs ++ [] ≡ zs
      nil [] = refl
      nil (z ∷ zs) = ap (λ k. z ∷ k) (nil zs)

  resized_short : length xs ≤ n → ys ≡ xs ++ replicate (n - length xs) x
  resized_short h = is ∙ ap (λ z. z ++ replicate (n - l) x) (take_all n xs h) ∙ ap (λ k. xs ++ replicate (n - k) x) len

  pub resized_size : length ys ≡ n
  resized_size = go (cases_lt n (length xs))
    where
      go : (n < length xs) ⊎ (length xs ≤ n) → length ys ≡ n
      go (inl h) = let low : n ≤ length xs = omega (arith, h) in ap length (resized_long low) ∙ length-take-le n xs low
      go (inr h) =
          let e = ap length (resized_short h) ∙ length-append xs (replicate (n - length xs) x) in
          omega (arith, e, length-replicate {A = ℕ} (n - length xs) x, h)

  -- what stood before its end stands there still
  pub resized_old : (i : ℕ) → i < n → i < length xs → slice_index_or ys i 0 ≡ slice_index_or xs i 0
  resized_old i in_n in_xs = go (cases_lt n (length xs))
    where
      go : (n < length xs) ⊎ (length xs ≤ n) → slice_index_or ys i 0 ≡ slice_index_or xs i 0
      go (inl h) = ap (λ l. slice_index_or l i 0) (resized_long (let low : n ≤ length xs = omega (arith, h) in low)) ∙ get_or-take n xs i 0 in_n
      go (inr h) = ap (λ l. slice_index_or l i 0) (resized_short h) ∙ get_or-append xs (replicate (n - length xs) x) 0 i in_xs

  -- past what stood before, the new value stands
  pub resized_new : (i : ℕ) → i < n → length xs ≤ i → slice_index_or ys i 0 ≡ x
  resized_new i in_n past =
      let low : length xs ≤ n = omega (arith, in_n, past) in
      let inside : i - length xs < n - length xs = omega (arith, in_n, past) in
      ap (λ l. slice_index_or l i 0) (resized_short low) ∙ get_or-append_right xs (replicate (n - length xs) x) (length xs) i 0 refl past
      ∙ get_or-replicate {A = ℕ} (n - length xs) (i - length xs) x 0 inside

  pub resized_past : (i : ℕ) → n ≤ i → slice_index_or ys i 0 ≡ 0
  resized_past i past = get_or_past ys i 0 (let h : length ys ≤ i = omega (arith, resized_size, past) in h)

-- No graph begins before a number: nodes up to there, and none from there on.
pub homes_begun : (parts : List Based) (homes homes' : List ℕ) (begin l : ℕ) → HaveHomes parts homes → ArePlaced parts begin →
    homes' ≡ take begin homes ++ replicate (begin - l) 0 → l ≡ length homes → HaveHomes parts homes'
homes_begun parts homes homes' begin l old placed is len = record {
  none = λ n e. none n e (cases_lt n begin);
  some = λ n k e. some n k e (cases_lt n begin);
}
  where
    same : (n : ℕ) → n < begin → slice_index_or homes' n 0 ≡ slice_index_or homes n 0
    same n h = go (cases_lt n (length homes))
      where
        go : (n < length homes) ⊎ (length homes ≤ n) → slice_index_or homes' n 0 ≡ slice_index_or homes n 0
        go (inl i) = resized_old homes homes' begin l 0 is len n h i
        go (inr i) = resized_new homes homes' begin l 0 is len n h i ∙ sym (get_or_past homes n 0 i)

    none : (n : ℕ) → slice_index_or homes' n 0 ≡ 0 → (n < begin) ⊎ (begin ≤ n) → home n parts ≡ None
    none n e (inl h) = old.none n (sym (same n h) ∙ e)
    none n e (inr h) = home_none parts begin placed n h

    some : (n k : ℕ) → slice_index_or homes' n 0 ≡ k + 1 → (n < begin) ⊎ (begin ≤ n) →
        (k < length parts) × ((d : Based) → home n parts ≡ Some (slice_index_or parts k d))
    some n k e (inl h) = old.some n k (sym (same n h) ∙ e)
    some n k e (inr h) = absurd (omega (arith, e, resized_past homes homes' begin l 0 is len n h))

-- one graph more, whose nodes come next
pub homes_more : (parts : List Based) (p : Based) (homes homes' : List ℕ) (end l : ℕ) → HaveHomes parts homes → ArePlaced parts p.base → length homes ≡ p.base →
    end ≡ p.base + length p.graph.now.types → homes' ≡ take end homes ++ replicate (end - l) (length parts + 1) → l ≡ length homes →
    HaveHomes (parts ++ p ∷ []) homes'
homes_more parts p homes homes' end l old placed begun ends is len = record {
  none = λ n e. none n e (cases_lt n p.base) (cases_lt n end);
  some = λ n k e. some n k e (cases_lt n p.base) (cases_lt n end);
}
  where
    before : (n : ℕ) → n < p.base → slice_index_or homes' n 0 ≡ slice_index_or homes n 0
    before n h =
        resized_old homes homes' end l (length parts + 1) is len n (let a : n < end = omega (arith, h, ends) in a) (let b : n < length homes = omega (arith, h, begun) in b)

    here' : (n : ℕ) → p.base ≤ n → n < end → slice_index_or homes' n 0 ≡ length parts + 1
    here' n low high = resized_new homes homes' end l (length parts + 1) is len n high (let a : length homes ≤ n = omega (arith, low, begun) in a)

    inside : (n : ℕ) → p.base ≤ n → n < end → n - p.base < length p.graph.now.types
    inside n low high = omega (arith, ends)

    longer : length (parts ++ p ∷ []) ≡ length parts + 1
    longer = length-append parts (p ∷ [])

    none : (n : ℕ) → slice_index_or homes' n 0 ≡ 0 → (n < p.base) ⊎ (p.base ≤ n) → (n < end) ⊎ (end ≤ n) → home n (parts ++ p ∷ []) ≡ None
    none n e (inl h) _ = home_old parts p.base placed p refl n h ∙ old.none n (sym (before n h) ∙ e)
    none n e (inr low) (inl high) = absurd (omega (arith, e, here' n low high))
    none n e (inr low) (inr past) = home_past parts p.base placed p refl n low (let a : length p.graph.now.types ≤ n - p.base = omega (arith, ends, past) in a)

    some : (n k : ℕ) → slice_index_or homes' n 0 ≡ k + 1 → (n < p.base) ⊎ (p.base ≤ n) → (n < end) ⊎ (end ≤ n) →
        (k < length (parts ++ p ∷ [])) × ((d : Based) → home n (parts ++ p ∷ []) ≡ Some (slice_index_or (parts ++ p ∷ []) k d))
    some n k e (inl h) _ =
        let r = old.some n k (sym (before n h) ∙ e) in
        let low : k < length parts = r.0 in (
          (let a : k < length (parts ++ p ∷ []) = omega (arith, low, longer) in a),
          λ d. home_old parts p.base placed p refl n h ∙ r.1 d ∙ ap Some (sym (get_or-append parts (p ∷ []) d k low)),
        )
    some n k e (inr low) (inl high) =
        let is_k : k ≡ length parts = omega (arith, e, here' n low high) in (
          (let a : k < length (parts ++ p ∷ []) = omega (arith, is_k, longer) in a),
          λ d. home_new parts p.base placed p refl n low (inside n low high)
              ∙ ap Some (sym (ap (λ i. slice_index_or (parts ++ p ∷ []) i d) is_k ∙ get_or-append_seam parts p [] d)),
        )
    some n k e (inr low) (inr past) = absurd (omega (arith, e, resized_past homes homes' end l (length parts + 1) is len n past))
