-- Places of names, taken in order.
use Rattle.std.proofs.Common.{ℕ, suc, ◌≡◌, ◌≤◌, ◌<◌, ◌+◌, ◌⊎◌, inl, inr, Bool, true, false, cond, not, Option, Some, None, List, [], ◌∷◌, ◌++◌, length, take, slice_index_or, nat_lt, String, refl, sym, ◌∙◌, ap, arith}
use Rattle.std.specs.Global.{Global}
use Rattle.std.specs.Option.{option_or}
use Rattle.std.specs.Prelude.{position, is_some}
use Rattle.std.specs.List.{position_or_len}
use Rattle.std.specs.Str.{bytes_eq}
use Rattle.std.specs.String.{string_bytes}
use Rattle.std.proofs.lemmas.Bool.{cases_lt}
use Rattle.std.proofs.lemmas.List.{take_more, length-append, length-take}
use Rattle.type_hierarchy.specs.Decls.{Name}
use Rattle.type_hierarchy.specs.Named.{noted, ArePlaces}
use Rattle.type_hierarchy.proofs.SetLemmas.{bool_cases, lt_true, lt_false}

pl_le : {X : Type 0} (p : X → Bool) (xs : List X) → position_or_len p xs ≤ length xs
pl_le p [] = omega arith
pl_le p (x ∷ xs) = go (bool_cases (p x)) (pl_le p xs)
  where
    go : (p x ≡ true) ⊎ (p x ≡ false) → position_or_len p xs ≤ length xs → position_or_len p (x ∷ xs) ≤ length (x ∷ xs)
    go (inl e) h = let z : position_or_len p (x ∷ xs) ≡ 0 = ap (λ b. cond (not b) (1 + position_or_len p xs) 0) e in omega (arith, z)
    go (inr e) h = let z : position_or_len p (x ∷ xs) ≡ 1 + position_or_len p xs = ap (λ b. cond (not b) (1 + position_or_len p xs) 0) e in omega (arith, z, h)

-- one more element: found before it, at it, or not at all
pl_before : {X : Type 0} (p : X → Bool) (xs : List X) (x : X) → position_or_len p xs < length xs → position_or_len p (xs ++ x ∷ []) ≡ position_or_len p xs
pl_before p [] x h = absurd (omega arith)
pl_before p (y ∷ ys) x h = go (bool_cases (p y)) (pl_before p ys x)
  where
    go : (p y ≡ true) ⊎ (p y ≡ false) → (position_or_len p ys < length ys → position_or_len p (ys ++ x ∷ []) ≡ position_or_len p ys) →
        position_or_len p (y ∷ (ys ++ x ∷ [])) ≡ position_or_len p (y ∷ ys)
    go (inl e) ih = ap (λ b. cond (not b) (1 + position_or_len p (ys ++ x ∷ [])) 0) e ∙ sym (ap (λ b. cond (not b) (1 + position_or_len p ys) 0) e)
    go (inr e) ih =
        let z : position_or_len p (y ∷ ys) ≡ 1 + position_or_len p ys = ap (λ b. cond (not b) (1 + position_or_len p ys) 0) e in
        ap (λ b. cond (not b) (1 + position_or_len p (ys ++ x ∷ [])) 0) e ∙ ap (λ n. 1 + n) (ih (omega (arith, z, h))) ∙ sym z

pl_after : {X : Type 0} (p : X → Bool) (xs : List X) (x : X) → length xs ≤ position_or_len p xs → position_or_len p (xs ++ x ∷ []) ≡ length xs + cond (p x) 0 1
pl_after p [] x h = go (p x)
  where
    go : (b : Bool) → cond (not b) 1 0 ≡ 0 + cond b 0 1
    go true = refl
    go false = refl
pl_after p (y ∷ ys) x h = go (bool_cases (p y)) (pl_after p ys x)
  where
    go : (p y ≡ true) ⊎ (p y ≡ false) → (length ys ≤ position_or_len p ys → position_or_len p (ys ++ x ∷ []) ≡ length ys + cond (p x) 0 1) →
        position_or_len p (y ∷ (ys ++ x ∷ [])) ≡ suc (length ys) + cond (p x) 0 1
    go (inl e) ih = let z : position_or_len p (y ∷ ys) ≡ 0 = ap (λ b. cond (not b) (1 + position_or_len p ys) 0) e in absurd (omega (arith, z, h))
    go (inr e) ih =
        let z : position_or_len p (y ∷ ys) ≡ 1 + position_or_len p ys = ap (λ b. cond (not b) (1 + position_or_len p ys) 0) e in
        let r = ih (omega (arith, z, h)) in
        let w : position_or_len p (y ∷ (ys ++ x ∷ [])) ≡ 1 + position_or_len p (ys ++ x ∷ []) = ap (λ b. cond (not b) (1 + position_or_len p (ys ++ x ∷ [])) 0) e in
        omega (arith, w, r)

pub position_push : {X : Type 0} (p : X → Bool) (xs : List X) (x : X) → position p (xs ++ x ∷ []) ≡ option_or (position p xs) (cond (p x) (Some (length xs)) None)
position_push p xs x = go (cases_lt (position_or_len p xs) (length xs))
  where
    size : length (xs ++ x ∷ []) ≡ length xs + 1
    size = length-append xs (x ∷ [])

    at : (n : ℕ) → position_or_len p (xs ++ x ∷ []) ≡ n → n < length (xs ++ x ∷ []) → position p (xs ++ x ∷ []) ≡ Some n
    at n e h = ap (λ m. cond (nat_lt m (length (xs ++ x ∷ []))) (Some m) None) e ∙ ap (λ b. cond b (Some n) None) (lt_true n _ h)

    go : (position_or_len p xs < length xs) ⊎ (length xs ≤ position_or_len p xs) → position p (xs ++ x ∷ []) ≡ option_or (position p xs) (cond (p x) (Some (length xs)) None)
    go (inl h) =
        at _ (pl_before p xs x h) (omega (arith, size, h))
        ∙ sym (ap (λ b. option_or (cond b (Some (position_or_len p xs)) None) (cond (p x) (Some (length xs)) None)) (lt_true _ _ h))
    go (inr h) = last (bool_cases (p x)) ∙ sym (ap (λ b. option_or (cond b (Some (position_or_len p xs)) None) (cond (p x) (Some (length xs)) None)) (lt_false _ _ h))
      where
        last : (p x ≡ true) ⊎ (p x ≡ false) → position p (xs ++ x ∷ []) ≡ cond (p x) (Some (length xs)) None
        last (inl e) =
            let n : position_or_len p (xs ++ x ∷ []) ≡ length xs = pl_after p xs x h ∙ ap (λ b. length xs + cond b 0 1) e ∙ add_zero (length xs) in
            at _ n (omega (arith, size)) ∙ sym (ap (λ b. cond b (Some (length xs)) None) e)
          where
            add_zero : (n : ℕ) → n + 0 ≡ n
            add_zero n = omega arith
        last (inr e) =
            let n : position_or_len p (xs ++ x ∷ []) ≡ length xs + 1 = pl_after p xs x h ∙ ap (λ b. length xs + cond b 0 1) e in
            ap (λ b. cond b (Some (position_or_len p (xs ++ x ∷ []))) None) (lt_false (position_or_len p (xs ++ x ∷ [])) (length (xs ++ x ∷ [])) (omega (arith, size, n)))
            ∙ sym (ap (λ b. cond b (Some (length xs)) None) e)

pub noted_push : (es : List (String Global × ℕ)) (k : String Global) (v : ℕ) (n name : Name) → string_bytes k ≡ name →
    noted (es ++ (k, v) ∷ []) n ≡ option_or (noted es n) (cond (bytes_eq n name) (Some v) None)
noted_push [] k v n name e = ap (λ m. cond (bytes_eq n m) (Some v) None) e
noted_push (f ∷ es) k v n name e = go (bytes_eq n (string_bytes f.0)) (noted_push es k v n name e)
  where
    go : (b : Bool) → noted (es ++ (k, v) ∷ []) n ≡ option_or (noted es n) (cond (bytes_eq n name) (Some v) None) →
        cond b (Some f.1) (noted (es ++ (k, v) ∷ []) n) ≡ option_or (cond b (Some f.1) (noted es n)) (cond (bytes_eq n name) (Some v) None)
    go true ih = refl
    go false ih = ih

pub none_of : (o : Option ℕ) → is_some o ≡ false → o ≡ None
none_of None e = refl
none_of (Some x) e = cc

-- one more name
pub places_more : (old new : List (String Global × ℕ)) (names : List Name) (i : ℕ) (name : Name) → i < length names → name ≡ slice_index_or names i [] →
    ((n : Name) → noted new n ≡ option_or (noted old n) (cond (bytes_eq n name) (Some i) None)) → ArePlaces old (take i names) → ArePlaces new (take (i + 1) names)
places_more old new names i name h e step are n =
    step n ∙ ap (λ o. option_or o (cond (bytes_eq n name) (Some i) None)) (are n)
    ∙ ap (λ m. option_or (position (bytes_eq n) (take i names)) (cond (bytes_eq n m) (Some i) None)) e
    ∙ ap (λ k. option_or (position (bytes_eq n) (take i names)) (cond (bytes_eq n (slice_index_or names i [])) (Some k) None)) (sym size)
    ∙ sym (position_push (bytes_eq n) (take i names) (slice_index_or names i [])) ∙ ap (position (bytes_eq n)) (sym (take_more names i [] h))
  where
    size : length (take i names) ≡ i
    size = omega (arith, length-take i names)
