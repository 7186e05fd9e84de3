-- What a pair of variables adds.
use Rattle.std.proofs.Common.{◌≡◌, ℕ, ◌+◌, ◌<◌, inl, inr, ◌∙◌, List, [], ◌∷◌, ◌++◌, map, length, length-append, get_or, refl, ap, sym, subst, arith, slice_index, below_more, Some}
use Rattle.std.specs.List.{slice_get}
use Rattle.std.proofs.lemmas.Option.{slice_get_read, slice_get-map, slice_get-get_or}
use Rattle.std.proofs.Math.ListN.{get_or-append}
use Rattle.std.proofs.Math.Seq.{get_or-append_seam}
use Rattle.mrs_model.specs.declared.bindings.Pair.{Pair}
use Rattle.mrs_model.specs.Meanings.{Variable}
use Rattle.mrs_model.specs.Renaming.{IsVariableMap}
use Rattle.mrs_model.specs.Inner.Bindings.{lefts, rights, Agrees, Keep, IsGrown, IsNext}
use Rattle.mrs_model.proofs.Slots.{lefts_push, rights_push, length_lefts, length_rights}

pub append_nil : {X : Type 0} (xs : List X) → xs ++ [] ≡ xs
append_nil [] = refl
append_nil (x ∷ xs) = ap (λ l. x ∷ l) (append_nil xs)

-- a fact of each pair, as a fact of two lists
pairs_push : (R : ℕ → ℕ → Type 0) (xs ys : List ℕ) (n x y : ℕ) → length xs ≡ n → length ys ≡ n → ((i : ℕ) → i < n → R (get_or xs i 0) (get_or ys i 0)) → R x y
    → (i : ℕ) → i < n + 1 → R (get_or (xs ++ x ∷ []) i 0) (get_or (ys ++ y ∷ []) i 0)
pairs_push R xs ys n x y ex ey each this =
    below_more (λ i. R (get_or (xs ++ x ∷ []) i 0) (get_or (ys ++ y ∷ []) i 0)) n
    (λ k l. let p : k < length xs = omega arith in let q : k < length ys = omega arith in
    rw (get_or-append xs (x ∷ []) 0 k p, get_or-append ys (y ∷ []) 0 k q) (each k l))
    (let p : get_or (xs ++ x ∷ []) n 0 ≡ x = subst (λ (k : ℕ). get_or (xs ++ x ∷ []) k 0 ≡ x) ex (get_or-append_seam xs x [] 0) in
    let q : get_or (ys ++ y ∷ []) n 0 ≡ y = subst (λ (k : ℕ). get_or (ys ++ y ∷ []) k 0 ≡ y) ey (get_or-append_seam ys y [] 0) in
    rw (p, q) this)

agrees_push : (to : List ℕ) (old : List Pair) (x y : ℕ) → Agrees to old → slice_index to x ≡ y → Agrees to (old ++ record { left = x; right = y } ∷ [])
agrees_push to old x y a e = λ i h.
    rw (lefts_push old x y, rights_push old x y)
    (pairs_push (λ v w. get_or to v 0 ≡ w) (lefts old) (rights old) (length old) x y (length_lefts old) (length_rights old) a e i
    (omega (arith, length-append old (record { left = x; right = y } ∷ []), h)))

keep_push : (a b : List Variable) (old : List Pair) (x y : ℕ) → Keep a b old → slice_get b y ≡ slice_get a x → Keep a b (old ++ record { left = x; right = y } ∷ [])
keep_push a b old x y k e = λ i h.
    rw (lefts_push old x y, rights_push old x y)
    (pairs_push (λ v w. slice_get b w ≡ slice_get a v) (lefts old) (rights old) (length old) x y (length_lefts old) (length_rights old) k e i
    (omega (arith, length-append old (record { left = x; right = y } ∷ []), h)))

pub told_next : (to : List ℕ) (old new : List Pair) (x y : ℕ) → IsNext old new x y → Agrees to old → slice_index to x ≡ y → Agrees to new
told_next to old new x y (inl e) a f = subst (λ (ps : List Pair). Agrees to ps) (sym e) a
told_next to old new x y (inr e) a f = subst (λ (ps : List Pair). Agrees to ps) (sym e) (agrees_push to old x y a f)

pub grown_next : (a b : List Variable) (old new : List Pair) (x y : ℕ) → IsNext old new x y → slice_get b y ≡ slice_get a x → IsGrown a b old new
grown_next a b old new x y (inl e) f = record { more = []; front = e ∙ sym (append_nil old); kept = λ k. subst (λ (ps : List Pair). Keep a b ps) (sym e) k }
grown_next a b old new x y (inr e) f = record { more = record { left = x; right = y } ∷ []; front = e; kept = λ k. subst (λ (ps : List Pair). Keep a b ps) (sym e) (keep_push a b old x y k f) }

pub grown_not : (a b : List Variable) (old : List Pair) → IsGrown a b old old
grown_not a b old = record { more = []; front = sym (append_nil old); kept = λ k. k }

-- an element of a slice, as what it stands for
pub read_map : {X Y : Type 0} (f : X → Y) (xs : List X) (k : ℕ) (x : X) → k < length xs → x ≡ get_or xs k x → slice_get (map f xs) k ≡ Some (f x)
read_map f xs k x l e = rw (slice_get-map f xs k, slice_get_read xs (length xs) k x refl l e) refl

pub differ_no : (a b : List Variable) (to : List ℕ) (x y : ℕ) (v w : Variable) → slice_get a x ≡ Some v → slice_get b y ≡ Some w → (v ≡ w → ⊥) → x < length a → IsVariableMap a b to → slice_index to x ≡ y → ⊥
differ_no a b to x y v w p q ne l m e =
    let k = m.kept x (omega (arith, m.every)) in
    let k' : slice_get b y ≡ slice_get a x = rw (← e) k in
    ne (cc)

pub read_at : {X Y : Type 0} (f : X → Y) (xs : List X) (k : ℕ) (d : X) → k < length xs → slice_get (map f xs) k ≡ Some (f (get_or xs k d))
read_at f xs k d l = rw (slice_get-map f xs k, slice_get-get_or xs k d l) refl
