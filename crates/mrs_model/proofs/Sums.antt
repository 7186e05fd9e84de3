-- Sums of keys.
use Rattle.std.proofs.Common.{◌≡◌, ℕ, suc, zero, ◌+◌, ◌%◌, ◌^◌, ◌<◌, ◌≤◌, ◌∙◌, List, [], ◌∷◌, ◌++◌, map, length, take, get_or, slice_index, refl, ap, sym, arith}
use Rattle.std.specs.List.{sum_by, sum}
use Rattle.std.specs.List.Sorted.{IsPermutation}
use Rattle.std.proofs.lemmas.List.{take_more}
use Rattle.std.proofs.lemmas.List.Sums.{sum-map, sum_by-cons}
use Rattle.std.proofs.lemmas.List.Sorted.{sum_by-IsPermutation}
use Rattle.std.proofs.lemmas.Option.{get_or_from_slice_get, slice_get-get_or}
use native.Mathlib.Nat.{mod-add-mod}
use Rattle.mrs_model.specs.Meanings.{Variable, Meaning}
use Rattle.mrs_model.specs.Renaming.{IsVariableMap, AreEqual, renamed_ep, unspanned, renamed_constraint}
use Rattle.mrs_model.specs.Digest.{variable_key, ep_key, hcon_key, icon_key, text_key, digest_of}
use Rattle.mrs_model.proofs.Bags.{permutation_of}
use Rattle.mrs_model.proofs.KeyLaws.{arguments_kept}

map_push : {X Y : Type 0} (f : X → Y) (xs : List X) (x : X) → map f (xs ++ x ∷ []) ≡ map f xs ++ f x ∷ []
map_push f [] x = refl
map_push f (y ∷ xs) x = ap (λ l. f y ∷ l) (map_push f xs x)

sum_push : {Y : Type 0} (key : Y → ℕ) (ys : List Y) (y : Y) → sum_by key (ys ++ y ∷ []) ≡ sum_by key ys + key y
sum_push key [] y = refl
sum_push key (z ∷ ys) y =
    let p = sum_by-cons key z (ys ++ y ∷ []) in
    let q = sum_push key ys y in
    let r = sum_by-cons key z ys in
    omega (arith, p, q, r)

-- the sum with one more row
pub sum_more : {X Y : Type 0} (f : X → Y) (key : Y → ℕ) (xs : List X) (k : ℕ) (x : X) (sum this more : ℕ) → k < length xs → x ≡ get_or xs k x → sum ≡ sum_by key (map f (take k xs)) % 2 ^ 64
    → this ≡ key (f x) → more ≡ (sum + this) % 2 ^ 64 → more ≡ sum_by key (map f (take (k + 1) xs)) % 2 ^ 64
sum_more f key xs k x sum this more l e s t m =
    let whole : map f (take (k + 1) xs) ≡ map f (take k xs) ++ f x ∷ [] =
    ap (map f) (take_more xs k x l ∙ ap (λ y. take k xs ++ y ∷ []) (sym e)) ∙ map_push f (take k xs) x in
    m ∙ rw (s, t, whole, sum_push key (map f (take k xs)) (f x)) (mod-add-mod (sum_by key (map f (take k xs))) (2 ^ 64) (key (f x)))

take_whole : {X : Type 0} (xs : List X) (k : ℕ) → length xs ≤ k → take k xs ≡ xs
take_whole [] zero l = refl
take_whole [] (suc k) l = refl
take_whole (x ∷ xs) zero l = absurd (omega arith)
take_whole (x ∷ xs) (suc k) l = ap (λ ys. x ∷ ys) (take_whole xs k (omega arith))

pub sum_all : {X Y : Type 0} (f : X → Y) (key : Y → ℕ) (xs : List X) (k sum : ℕ) → length xs ≤ k → sum ≡ sum_by key (map f (take k xs)) % 2 ^ 64 → sum ≡ sum_by key (map f xs) % 2 ^ 64
sum_all f key xs k sum l s = s ∙ ap (λ ys. sum_by key (map f ys) % 2 ^ 64) (take_whole xs k l)

-- what is made of rows of equal keys has one sum
keys_same : {X Y : Type 0} (f : X → Y) (key : X → ℕ) (other : Y → ℕ) → ((x : X) → other (f x) ≡ key x) → (xs : List X) → map other (map f xs) ≡ map key xs
keys_same f key other h [] = refl
keys_same f key other h (x ∷ xs) = rw (h x, keys_same f key other h xs) refl

sum_same : {X Y : Type 0} (f : X → Y) (key : X → ℕ) (other : Y → ℕ) → ((x : X) → other (f x) ≡ key x) → (xs : List X) → sum_by other (map f xs) ≡ sum_by key xs
sum_same f key other h xs = sym (sum-map other (map f xs)) ∙ ap sum (keys_same f key other h xs) ∙ sum-map key xs

vars_bag : (a b : List Variable) (to : List ℕ) → IsVariableMap a b to → IsPermutation a b
vars_bag a b to m =
    let e = m.every in
    let d : Variable = record { sort = []; props = [] } in
    permutation_of d a b (record {
      even = m.onto;
      place = λ k. slice_index to k;
      within = λ k l. m.within k (omega (arith, e, l));
      apart = λ j k lj lk q. m.one_to_one j k (omega (arith, e, lj)) (omega (arith, e, lk)) q;
      same = λ k l. get_or_from_slice_get b (slice_index to k) (get_or a k d) d (m.kept k (omega (arith, e, l)) ∙ slice_get-get_or a k d l);
    })

pub digests_are : (a b : Meaning) → AreEqual a b → digest_of a ≡ digest_of b
digests_are a b (to, r) =
    let v : sum_by variable_key b.vars ≡ sum_by variable_key a.vars = sum_by-IsPermutation variable_key a.vars b.vars (vars_bag a.vars b.vars to r.vars) in
    let e : sum_by ep_key b.eps ≡ sum_by ep_key a.eps = sym (sum_same unspanned ep_key ep_key (λ x. refl) b.eps) ∙ sum_by-IsPermutation ep_key (map (renamed_ep to) a.eps) (map unspanned b.eps) r.eps
    ∙ sum_same (renamed_ep to) ep_key ep_key (λ x. arguments_kept to (text_key 1 x.pred) x.args) a.eps in
    let h : sum_by hcon_key b.hcons ≡ sum_by hcon_key a.hcons = sum_by-IsPermutation hcon_key (map (renamed_constraint to) a.hcons) b.hcons r.hcons ∙ sum_same (renamed_constraint to) hcon_key hcon_key (λ x. refl) a.hcons in
    let i : sum_by icon_key b.icons ≡ sum_by icon_key a.icons = sum_by-IsPermutation icon_key (map (renamed_constraint to) a.icons) b.icons r.icons ∙ sum_same (renamed_constraint to) icon_key icon_key (λ x. refl) a.icons in
    rw (v, e, h, i) refl
