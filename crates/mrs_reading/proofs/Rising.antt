-- Lists in byte order of names, to which something is added.
use Rattle.std.proofs.Common.{◌≡◌, ◌≢◌, ℕ, zero, suc, ◌+◌, ◌-◌, ◌<◌, ◌≤◌, inl, inr, ◌∙◌, true, List, [], ◌∷◌, Ordering, map, refl, ap, sym, subst, length, take, drop, get_or, arith}
use Rattle.std.specs.List.{Contains, insert}
use Rattle.std.specs.Str.{bytes_eq}
use Rattle.std.specs.declared.cmp.Ordering.TheVariants.{Less, Equal, Greater}
use Rattle.std.specs.Ordering.{nat_cmp, ordering_reverse, is_eq}
use Rattle.std.specs.Cmp.Lexicographic.{slice_cmp, nat_list_cmp_total}
use Rattle.std.proofs.lemmas.Bool.{cases_order}
use Rattle.std.proofs.lemmas.List.{map-append, get_or-map, length-map}
use Rattle.std.proofs.lemmas.List.Edits.{get_or-insert_below, get_or-insert_at, get_or-insert_above, length-insert}
use Rattle.std.proofs.lemmas.List.Elements.{Contains-get_or}
use Rattle.std.proofs.lemmas.Map.Text.{is_eq-slice_cmp}
use Rattle.std.proofs.lemmas.Slice.Eq.{bytes_eq-Decides}
use Rattle.mrs_model.specs.Valid.{Rise}
use Rattle.mrs_reading.specs.Inner.Tables.{IsAdded}

less_from : (o : Ordering) → o ≢ Greater → o ≢ Equal → o ≡ Less
less_from Less a b = refl
less_from Equal a b = absurd (b refl)
less_from Greater a b = absurd (a refl)

same_names : (a b : List ℕ) → slice_cmp nat_cmp a b ≡ Equal → a ≡ b
same_names a b e = let h : true ≡ bytes_eq a b = ap is_eq (sym e) ∙ is_eq-slice_cmp a b in (bytes_eq-Decides a b).0 (sym h)

turned : (a b : List ℕ) → slice_cmp nat_cmp a b ≡ Greater → slice_cmp nat_cmp b a ≡ Less
turned a b e = nat_list_cmp_total.antisymm b a ∙ ap ordering_reverse e

rise_insert : (ns : List (List ℕ)) (i : ℕ) (n : List ℕ) → i ≤ length ns → (0 < i → slice_cmp nat_cmp (get_or ns (i - 1) []) n ≡ Less) → (i < length ns → slice_cmp nat_cmp n (get_or ns i []) ≡ Less) → Rise ns → Rise (insert ns i n)
rise_insert ns i n w a b h = λ k l. (
    let o = length-insert ns i n w in
    elim (cases_order (k + 1) i) [
      | inl e ↦ at_both k (get_or ns (i - 1) []) n (get_or-insert_below ns i n [] k (omega (arith, e)) w ∙ ap (λ z. get_or ns z []) (let f : k ≡ i - 1 = omega (arith, e) in f))
          (ap (λ z. get_or (insert ns i n) z []) e ∙ get_or-insert_at ns i n [] w) (a (omega (arith, e)))
      | inr (inl m) ↦ at_both k (get_or ns k []) (get_or ns (k + 1) []) (get_or-insert_below ns i n [] k (omega (arith, m)) w) (get_or-insert_below ns i n [] (k + 1) m w) (h k (omega (arith, m, w)))
      | inr (inr m) ↦ (elim (cases_order k i) [
        | inl e ↦ at_both k n (get_or ns i []) (ap (λ z. get_or (insert ns i n) z []) e ∙ get_or-insert_at ns i n [] w) (get_or-insert_above ns i n [] k (omega (arith, e)) w ∙ ap (λ z. get_or ns z []) e) (b (omega (arith, e, l, o)))
        | inr (inl q) ↦ absurd (omega (arith, q, m))
        | inr (inr q) ↦ past k l q
      ])
    ])
  where
    at_both : (k : ℕ) (x y : List ℕ) → get_or (insert ns i n) k [] ≡ x → get_or (insert ns i n) (k + 1) [] ≡ y → slice_cmp nat_cmp x y ≡ Less → slice_cmp nat_cmp (get_or (insert ns i n) k []) (get_or (insert ns i n) (k + 1) []) ≡ Less
    at_both k x y p q r = ap (λ z. slice_cmp nat_cmp z (get_or (insert ns i n) (k + 1) [])) p ∙ ap (slice_cmp nat_cmp x) q ∙ r

    past : (k : ℕ) → k + 1 < length (insert ns i n) → i < k → slice_cmp nat_cmp (get_or (insert ns i n) k []) (get_or (insert ns i n) (k + 1) []) ≡ Less
    past k l q =
        let o = length-insert ns i n w in
        let j : k - 1 + 1 ≡ k = omega (arith, q) in
        at_both k (get_or ns (k - 1) []) (get_or ns k [])
        (ap (λ z. get_or (insert ns i n) z []) (sym j) ∙ get_or-insert_above ns i n [] (k - 1) (omega (arith, q)) w)
        (get_or-insert_above ns i n [] k (omega (arith, q)) w)
        (ap (λ z. slice_cmp nat_cmp (get_or ns (k - 1) []) (get_or ns z [])) (sym j) ∙ h (k - 1) (omega (arith, q, l, o)))

map_take : {A B : Type 0} (f : A → B) (i : ℕ) (xs : List A) → map f (take i xs) ≡ take i (map f xs)
map_take f zero xs = refl
map_take f (suc i) [] = refl
map_take f (suc i) (x ∷ xs) = ap (λ z. f x ∷ z) (map_take f i xs)

map_drop : {A B : Type 0} (f : A → B) (i : ℕ) (xs : List A) → map f (drop i xs) ≡ drop i (map f xs)
map_drop f zero xs = refl
map_drop f (suc i) [] = refl
map_drop f (suc i) (x ∷ xs) = map_drop f i xs

pub map_insert : {A B : Type 0} (f : A → B) (xs : List A) (i : ℕ) (x : A) → map f (insert xs i x) ≡ insert (map f xs) i (f x)
map_insert f xs i x = map-append f (take i xs) (x ∷ drop i xs) ∙ (let a = map_take f i xs in let b = map_drop f i xs in cc)

-- what is added behind those whose names aren't greater keeps the order, where none has its name
pub rise_added : {T : Type 0} (name : T → List ℕ) (old : List T) (x : T) (new : List T) → IsAdded name old x new → ((y : T) → Contains old y → name y ≢ name x) → Rise (map name old) → Rise (map name new)
rise_added name old x new h none r =
    let m = length-map old name in
    let w = h.within in
    subst Rise (sym (ap (map name) h.is ∙ map_insert name old h.place x))
    (rise_insert (map name old) h.place (name x) (omega (arith, m, w))
    (λ l. at_name (h.place - 1) (λ n. slice_cmp nat_cmp n (name x)) (omega (arith, l, w)) ∙ less_from (slice_cmp nat_cmp (name (get_or old (h.place - 1) x)) (name x)) (h.before l)
    (λ e. none (get_or old (h.place - 1) x) (Contains-get_or old (h.place - 1) x (omega (arith, l, w))) (same_names (name (get_or old (h.place - 1) x)) (name x) e)))
    (λ l. let o : h.place < length old = omega (arith, l, m) in at_name h.place (λ n. slice_cmp nat_cmp (name x) n) o ∙ turned (name (get_or old h.place x)) (name x) (h.after h.place (omega arith) o))
    r)
  where
    at_name : (k : ℕ) (f : List ℕ → Ordering) → k < length old → f (get_or (map name old) k []) ≡ f (name (get_or old k x))
    at_name k f l = ap f (get_or-map name old k x [] l)

-- the same of what a list stands for
pub added_map : {A B : Type 0} (f : A → B) (name : A → List ℕ) (named : B → List ℕ) → ((x : A) → named (f x) ≡ name x) → (old : List A) (x : A) (new : List A) → IsAdded name old x new → IsAdded named (map f old) (f x) (map f new)
added_map f name named s old x new h =
    let m = length-map old f in
    let w = h.within in record {
      place = h.place;
      within = omega (arith, m, w);
      is = ap (map f) h.is ∙ map_insert f old h.place x;
      before = λ l e. h.before l (same_order (h.place - 1) (omega (arith, w, l)) ∙ e);
      after = λ k l n. let o : k < length old = omega (arith, m, n) in sym (same_order k o) ∙ h.after k l o;
    }
  where
    same_order : (k : ℕ) → k < length old → slice_cmp nat_cmp (name (get_or old k x)) (name x) ≡ slice_cmp nat_cmp (named (get_or (map f old) k (f x))) (named (f x))
    same_order k l = sym (ap (λ z. slice_cmp nat_cmp (named z) (named (f x))) (get_or-map f old k x (f x) l) ∙ ap (λ n. slice_cmp nat_cmp n (named (f x))) (s (get_or old k x)) ∙ ap (slice_cmp nat_cmp (name (get_or old k x))) (s x))
