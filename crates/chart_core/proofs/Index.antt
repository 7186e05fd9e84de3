-- The lists of an index as rows come and are frosted.
use Rattle.std.specs.Prelude.{◌≡◌, ℕ, ◌+◌, ◌%◌, ◌<◌, ◌≤◌, ◌++◌, ◌⊎◌, Bool, true, false, List, [], ◌∷◌, length, slice_set}
use Rattle.std.proofs.Common.{refl, ap, sym, subst, arith, zero, suc, length-append, inl, inr}
use Rattle.std.proofs.lemmas.Nat.{mod_below}
use Rattle.std.proofs.lemmas.List.{length-map}
use Rattle.chart_model.specs.At.{At, here, there, at_append, at_last, at_snoc, Snoc, old, new}
use Rattle.chart_model.specs.Picked.{Rises, no_more, next_is}
use Rattle.chart_core.specs.declared.places.Places.{Places}
use Rattle.chart_core.specs.Lists.{lists_of, list_at, bucket, slot, pushed, IsFull}
use Rattle.chart_core.specs.Sound.{Lists}

-- as many lists as are kept
pub full_lists : (p : Places) → IsFull p → 0 < length (lists_of p)
full_lists p h = subst (λ n. 0 < n) (sym (length-map p.lists.items (λ v. v.items))) h

set_at_place : (lists : List (List ℕ)) (s j : ℕ) (xs : List ℕ) → (list_at (slice_set lists s xs) j ≡ list_at lists j) ⊎ ((j ≡ s) × (list_at (slice_set lists s xs) j ≡ xs))
set_at_place [] s j xs = inl refl
set_at_place (l ∷ lists) zero zero xs = inr (refl, refl)
set_at_place (l ∷ lists) zero (suc j) xs = inl refl
set_at_place (l ∷ lists) (suc s) zero xs = inl refl
set_at_place (l ∷ lists) (suc s) (suc j) xs = elim (set_at_place lists s j xs) [ inl e ↦ inl e | inr e ↦ inr (ap suc e.0, e.1) ]

set_here : (lists : List (List ℕ)) (s : ℕ) (xs : List ℕ) → s < length lists → list_at (slice_set lists s xs) s ≡ xs
set_here [] s xs l = absurd (omega arith)
set_here (l ∷ lists) zero xs b = refl
set_here (l ∷ lists) (suc s) xs b = set_here lists s xs (omega arith)

length_set : (lists : List (List ℕ)) (s : ℕ) (xs : List ℕ) → length (slice_set lists s xs) ≡ length lists
length_set [] s xs = refl
length_set (l ∷ lists) zero xs = refl
length_set (l ∷ lists) (suc s) xs = ap suc (length_set lists s xs)

rises_more : (i n : ℕ) (ps : List ℕ) → Rises i ps → ((j p : ℕ) → At ps j p → p < n) → i ≤ n → Rises i (ps ++ n ∷ [])
rises_more i n [] r h l = next_is n l no_more
rises_more i n (_ ∷ ps) (next_is p q after) h l = next_is p q (rises_more (p + 1) n ps after (λ j x a. h (suc j) x (there a)) (let z = h zero p here in omega arith))

module _ {A : Type 0} (wanted : A → Bool) (key : A → ℕ) where
  -- one more row, whose number is put into its list
  pub lists_pushed : (rows : List A) (lists : List (List ℕ)) (w : A) → 0 < length lists → Lists wanted key rows lists → Lists wanted key (rows ++ w ∷ []) (pushed lists (key w) (length rows))
  lists_pushed rows lists w full l =
      record {
        misses_none = λ p row a want. of_row p row want (at_snoc rows w p row a);
        rising = λ j. of_rising j (set_at_place lists at j longer);
        inside = λ j n p a. of_inside j n p a (set_at_place lists at j longer);
      }
    where
      at : ℕ
      at = slot lists (key w)

      longer : List ℕ
      longer = bucket lists (key w) ++ length rows ∷ []

      next : List (List ℕ)
      next = pushed lists (key w) (length rows)

      in_next : (k m p : ℕ) → At (list_at next (slot lists k)) m p → At (bucket next k) m p
      in_next k m p a = subst (λ i. At (list_at next (k % i)) m p) (sym (length_set lists at longer)) a

      of_old : (j n p : ℕ) → At (list_at lists j) n p → (list_at next j ≡ list_at lists j) ⊎ ((j ≡ at) × (list_at next j ≡ longer)) → (m : ℕ) × At (list_at next j) m p
      of_old j n p a (inl e) = (n, subst (λ xs. At xs n p) (sym e) a)
      of_old j n p a (inr e) = (n, subst (λ xs. At xs n p) (sym e.1) (at_append (length rows ∷ []) (subst (λ i. At (list_at lists i) n p) e.0 a)))

      of_row : (p : ℕ) (row : A) → wanted row ≡ true → Snoc rows w p row → (n : ℕ) × At (bucket next (key row)) n p
      of_row p row want (old b) = let r = l.misses_none p row b want in let s = of_old (slot lists (key row)) r.0 p r.1 (set_at_place lists at (slot lists (key row)) longer) in (s.0, in_next (key row) s.0 p s.1)
      of_row p row want (new q e) =
          let here_is : list_at next at ≡ longer = set_here lists at longer (mod_below (key w) (length lists) full) in
          let a : At (list_at next at) (length (bucket lists (key w))) (length rows) = subst (λ xs. At xs (length (bucket lists (key w))) (length rows)) (sym here_is) (at_last (bucket lists (key w)) (length rows)) in
          (length (bucket lists (key w)), subst (λ r. At (bucket next (key r)) (length (bucket lists (key w))) p) e (subst (λ i. At (bucket next (key w)) (length (bucket lists (key w))) i) (sym q) (in_next (key w) _ _ a)))

      of_rising : (j : ℕ) → (list_at next j ≡ list_at lists j) ⊎ ((j ≡ at) × (list_at next j ≡ longer)) → Rises 0 (list_at next j)
      of_rising j (inl e) = subst (Rises 0) (sym e) (l.rising j)
      of_rising j (inr e) = subst (Rises 0) (sym e.1) (rises_more 0 (length rows) (bucket lists (key w)) (l.rising at) (λ i p a. l.inside at i p a) (omega arith))

      count : length (rows ++ w ∷ []) ≡ length rows + 1
      count = length-append rows (w ∷ [])

      of_last : (n p : ℕ) → Snoc (bucket lists (key w)) (length rows) n p → p < length (rows ++ w ∷ [])
      of_last n p (old b) = let z = l.inside at n p b in omega (arith, z, count)
      of_last n p (new q e) = omega (arith, e, count)

      of_inside : (j n p : ℕ) → At (list_at next j) n p → (list_at next j ≡ list_at lists j) ⊎ ((j ≡ at) × (list_at next j ≡ longer)) → p < length (rows ++ w ∷ [])
      of_inside j n p a (inl e) = let z = l.inside j n p (subst (λ xs. At xs n p) e a) in omega (arith, z, count)
      of_inside j n p a (inr e) = of_last n p (at_snoc (bucket lists (key w)) (length rows) n p (subst (λ xs. At xs n p) e.1 a))

  -- one more row that isn't wanted
  pub lists_kept : (rows : List A) (lists : List (List ℕ)) (w : A) → wanted w ≡ false → Lists wanted key rows lists → Lists wanted key (rows ++ w ∷ []) lists
  lists_kept rows lists w unwanted l =
      record { misses_none = λ p row a want. of_row p row want (at_snoc rows w p row a); rising = l.rising; inside = λ j n p a. let z = l.inside j n p a in omega (arith, z, length-append rows (w ∷ [])) }
    where
      of_row : (p : ℕ) (row : A) → wanted row ≡ true → Snoc rows w p row → (n : ℕ) × At (bucket lists (key row)) n p
      of_row p row want (old b) = l.misses_none p row b want
      of_row p row want (new q e) = absurd (let z = ap wanted e in cc)

  -- rows of which no more are wanted
  pub lists_frozen : (rows next : List A) (lists : List (List ℕ)) → length next ≡ length rows → ((p : ℕ) (row : A) → At next p row → wanted row ≡ true → (was : A) × At rows p was × (wanted was ≡ true) × (key was ≡ key row)) → Lists wanted key rows lists → Lists wanted key next lists
  lists_frozen rows next lists same thaws l =
      record { misses_none = λ p row a want. (let t = thaws p row a want in let r = l.misses_none p t.0 t.1 t.2 in (r.0, subst (λ i. At (bucket lists i) r.0 p) t.3 r.1)); rising = l.rising; inside = λ j n p a. let z = l.inside j n p a in omega (arith, z, same) }
