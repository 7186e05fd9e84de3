-- Names of coreferences, each once.
use Rattle.std.proofs.Common.{Bor, ◌≡◌, ℕ, zero, suc, ◌∙◌, ◌<◌, ◌⊎◌, inl, inr, Bool, true, false, cond, List, [], ◌∷◌, ◌++◌, Some, None, map, refl, ap, sym, subst, length, get_or, arith, append-nil}
use Rattle.std.specs.List.{Contains, slice_get}
use Rattle.std.specs.Str.{bytes_eq}
use Rattle.std.proofs.lemmas.List.{append_assoc}
use Rattle.std.proofs.lemmas.Option.{same_Some}
use Rattle.std.proofs.lemmas.Slice.Eq.{bytes_eq-Decides}
use Rattle.mrs_reading.proofs.Predicated.{nothing_in}
use Rattle.mrs_reading.proofs.Moves.{first_or_other, is_first, is_other}
use Rattle.transfer_rules.specs.Features.{among, each_once}
use Rattle.transfer_rules.proofs.Lists.{bools, true_not_false, in_of}

-- among tells the members
pub among_in : (ns : List (List ℕ)) (n : List ℕ) → among ns n ≡ true → Contains ns n
among_in [] n e = absurd (let f : false ≡ true = e in cc)
among_in (m ∷ ns) n e = elim (bools (bytes_eq m n)) [
  | inl a ↦ subst (λ z. Contains (m ∷ ns) z) ((bytes_eq-Decides m n).0 a) (is_first m ns)
  | inr a ↦ is_other m ns n (among_in ns n (sym (ap (λ b. cond b true (among ns n)) a) ∙ e))
]

pub in_among : (ns : List (List ℕ)) (n : List ℕ) → Contains ns n → among ns n ≡ true
in_among [] n h = absurd (nothing_in n h)
in_among (m ∷ ns) n h = elim (first_or_other m ns n h) [
  | inl e ↦ ap (λ b. cond b true (among ns n)) ((bytes_eq-Decides m n).1 e)
  | inr k ↦ go (bytes_eq m n) (in_among ns n k)
]
  where
    go : (b : Bool) → among ns n ≡ true → cond b true (among ns n) ≡ true
    go true e = refl
    go false e = e

-- no name twice
abbrev pub IsSet : List (List ℕ) → Type 0
IsSet ns = (i j : ℕ) (k : List ℕ) → slice_get ns i ≡ Some k → slice_get ns j ≡ Some k → i ≡ j

pub get_cases : {A : Type 0} (xs : List A) (x : A) (i : ℕ) (y : A) → slice_get (xs ++ x ∷ []) i ≡ Some y → (slice_get xs i ≡ Some y) ⊎ ((i ≡ length xs) × (x ≡ y))
get_cases [] x zero y e = inr (refl, same_Some x y e)
get_cases [] x (suc i) y e = absurd (let f : None ≡ Some y = e in cc)
get_cases (a ∷ xs) x zero y e = inl e
get_cases (a ∷ xs) x (suc i) y e = elim (get_cases xs x i y e) [ inl h ↦ inl h | inr h ↦ inr (let g = h.0 in omega (arith, g), h.1) ]

pub set_push : (ns : List (List ℕ)) (n : List ℕ) → IsSet ns → among ns n ≡ false → IsSet (ns ++ n ∷ [])
set_push ns n s a i j k e f = elim (get_cases ns n i k e) [
  | inl x ↦ (elim (get_cases ns n j k f) [
    | inl y ↦ s i j k x y
    | inr y ↦ absurd (true_not_false (among ns n) (in_among ns n (subst (λ z. Contains ns z) (sym y.1) (in_of ns i k x))) a)
  ])
  | inr x ↦ (elim (get_cases ns n j k f) [
    | inl y ↦ absurd (true_not_false (among ns n) (in_among ns n (subst (λ z. Contains ns z) (sym x.1) (in_of ns j k y))) a)
    | inr y ↦ x.0 ∙ sym y.0
  ])
]

pub no_names : IsSet []
no_names i j k e f = absurd (let g : None ≡ Some k = e in cc)

pub once_set : (known ns : List (List ℕ)) → IsSet known → IsSet (known ++ each_once known ns)
once_set known [] s = subst IsSet (sym (append-nil known)) s
once_set known (n ∷ ns) s = elim (bools (among known n)) [
  | inl a ↦ subst (λ b. IsSet (known ++ cond b (each_once known ns) (n ∷ each_once (known ++ n ∷ []) ns))) (sym a) (once_set known ns s)
  | inr a ↦ subst (λ b. IsSet (known ++ cond b (each_once known ns) (n ∷ each_once (known ++ n ∷ []) ns))) (sym a)
      (subst IsSet (append_assoc known (n ∷ []) (each_once (known ++ n ∷ []) ns)) (once_set (known ++ n ∷ []) ns (set_push known n s a)))
]

-- what is gathered was written
pub once_in : (known ns : List (List ℕ)) (n : List ℕ) → Contains (each_once known ns) n → Contains ns n
once_in known [] n h = absurd (nothing_in n h)
once_in known (m ∷ ns) n h = elim (bools (among known m)) [
  | inl a ↦ is_other m ns n (once_in known ns n (subst (λ b. Contains (cond b (each_once known ns) (m ∷ each_once (known ++ m ∷ []) ns)) n) a h))
  | inr a ↦ (elim (first_or_other m (each_once (known ++ m ∷ []) ns) n (subst (λ b. Contains (cond b (each_once known ns) (m ∷ each_once (known ++ m ∷ []) ns)) n) a h)) [
    | inl e ↦ subst (λ z. Contains (m ∷ ns) z) e (is_first m ns)
    | inr k ↦ is_other m ns n (once_in (known ++ m ∷ []) ns n k)
  ])
]

-- in two parts
pub once_append : (known a b : List (List ℕ)) → each_once known (a ++ b) ≡ each_once known a ++ each_once (known ++ each_once known a) b
once_append known [] b = ap (λ k. each_once k b) (sym (append-nil known))
once_append known (n ∷ a) b = go (among known n) (once_append known a b) (once_append (known ++ n ∷ []) a b)
  where
    go : (t : Bool) → each_once known (a ++ b) ≡ each_once known a ++ each_once (known ++ each_once known a) b
        → each_once (known ++ n ∷ []) (a ++ b) ≡ each_once (known ++ n ∷ []) a ++ each_once ((known ++ n ∷ []) ++ each_once (known ++ n ∷ []) a) b
        → cond t (each_once known (a ++ b)) (n ∷ each_once (known ++ n ∷ []) (a ++ b))
        ≡ cond t (each_once known a) (n ∷ each_once (known ++ n ∷ []) a) ++ each_once (known ++ cond t (each_once known a) (n ∷ each_once (known ++ n ∷ []) a)) b
    go true e f = e
    go false e f = ap (λ l. n ∷ l) f ∙ ap (λ k. n ∷ (each_once (known ++ n ∷ []) a ++ each_once k b)) (append_assoc known (n ∷ []) (each_once (known ++ n ∷ []) a))

-- a name that is known, and a new one
pub known_name : (ns : List (List ℕ)) (n : List ℕ) → among ns n ≡ true → ns ≡ ns ++ each_once ns (n ∷ [])
known_name ns n e = sym (ap (λ b. ns ++ cond b [] (n ∷ [])) e ∙ append-nil ns)

pub new_name : (ns : List (List ℕ)) (n : List ℕ) → among ns n ≡ false → ns ++ n ∷ [] ≡ ns ++ each_once ns (n ∷ [])
new_name ns n e = sym (ap (λ b. ns ++ cond b [] (n ∷ [])) e)

pub get_mapped : (xs : List (Bor (List ℕ))) (i : ℕ) (x : Bor (List ℕ)) (n : List ℕ) → i < length xs → x ≡ get_or xs i x → x.now ≡ n → slice_get (map (λ b. b.now) xs) i ≡ Some n
get_mapped [] i x n l e f = absurd (omega (arith, l))
get_mapped (y ∷ xs) zero x n l e f = ap Some (ap (λ (b : Bor (List ℕ)). b.now) (sym e) ∙ f)
get_mapped (y ∷ xs) (suc i) x n l e f = get_mapped xs i x n (omega (arith, l)) e f

pub get_pushed : (xs : List (Bor (List ℕ))) (x : Bor (List ℕ)) → slice_get (map (λ b. b.now) (xs ++ x ∷ [])) (length xs) ≡ Some x.now
get_pushed [] x = refl
get_pushed (y ∷ xs) x = get_pushed xs x
