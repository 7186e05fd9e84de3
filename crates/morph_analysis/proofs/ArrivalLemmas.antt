-- Steps by the nodes at which they end.
use Rattle.std.proofs.Common.{ℕ, zero, suc, ◌≡◌, ◌<◌, ◌≤◌, ◌+◌, ◌⊎◌, ◌-◌, inl, inr, not, leb, Bool, true, false, string_bytes, String, List, [], ◌∷◌, ◌++◌, length, map, take, drop, get_or, refl, sym, ◌∙◌, ap, subst, arith}
use Rattle.std.specs.Global.{Global}
use Rattle.std.proofs.lemmas.Bool.Decides.{Decides-ltb}
use Rattle.std.specs.List.{Contains, AllPairs}
use Rattle.std.specs.Prelude.{slice_index_or}
use Rattle.std.specs.Ordering.{is_eq}
use Rattle.std.specs.declared.cmp.Ordering.{Ordering}
use Rattle.std.specs.declared.cmp.Ordering.TheVariants.{Less, Equal, Greater}
use Rattle.std.proofs.lemmas.List.Kept.{AllPairs-from_increasing}
use Rattle.std.specs.List.Sorted.{IsPermutation, IsStrictlyIncreasing}
use Rattle.std.proofs.lemmas.List.Sorted.{Contains-permutation, IsPermutation-sym}
use Rattle.std.proofs.lemmas.List.{get_or-take, length-take}
use Rattle.lexicon.specs.Words.{Word, Has}
use Rattle.morph_analysis.proofs.Lists.{true_not_false, Has-map, Has-left, Has-right, Has-next, map_take_next}
use Rattle.morph_analysis.proofs.Lists.{has_map}
use Rattle.morph_analysis.proofs.AddLemmas.{adds_one, adds_none, adds_like}
use Rattle.morph_analysis.proofs.NodeLemmas.{cases_le}
use Rattle.morph_analysis.specs.declared.lattice.Step.{Step}
use Rattle.morph_analysis.specs.Lattices.{StepTree, Carries, stays, goes, HaveSame, AreFronts, AreRising, AreAbove}
use Rattle.morph_analysis.specs.LatticeViews.{step_of}
use Rattle.morph_analysis.specs.Inner.Adding.{AddsThose, Precedes}

pub has_place : {A B : Type 0} (f : A → B) (y : B) (xs : List A) → Has y (map f xs) → (k : ℕ) × (x : A) × (k < length xs) × (x ≡ get_or xs k x) × (y ≡ f x)
has_place f y [] h = absurd h
has_place f y (x ∷ xs) (inl e) = (0, x, omega arith, refl, e)
has_place f y (x ∷ xs) (inr h) = let r = has_place f y xs h in (suc r.0, r.1, (let lt = r.2 in omega (arith, lt)), r.3, r.4)

pub place_has : {A B : Type 0} (f : A → B) (xs : List A) (i k : ℕ) (x : A) → k < i → k < length xs → x ≡ get_or xs k x → Has (f x) (map f (take i xs))
place_has f [] i k x lt len e = absurd (omega arith)
place_has f (y ∷ ys) zero k x lt len e = absurd (omega arith)
place_has f (y ∷ ys) (suc i) zero x lt len e = inl (ap f e)
place_has f (y ∷ ys) (suc i) (suc k) x lt len e = inr (place_has f ys i k x (omega arith) (omega arith) e)

pub contains_has : {A : Type 0} (xs : List A) (x : A) → Contains xs x → Has x xs
contains_has [] x c = absurd (let lt = c.1 in omega (arith, lt))
contains_has (y ∷ ys) x (zero, lt, e) = inl (sym e)
contains_has (y ∷ ys) x (suc k, lt, e) = inr (contains_has ys x (k, omega (arith, lt), e))

pub has_contains : {A : Type 0} (xs : List A) (x : A) → Has x xs → Contains xs x
has_contains [] x h = absurd h
has_contains (y ∷ ys) x (inl e) = (0, omega arith, sym e)
has_contains (y ∷ ys) x (inr h) = let r = has_contains ys x h in (suc r.0, (let lt = r.1 in omega (arith, lt)), r.2)

pub has_moved : {A : Type 0} (xs ys : List A) (x : A) → IsPermutation xs ys → Has x xs → Has x ys
has_moved xs ys x p h = contains_has ys x (Contains-permutation xs ys x p (has_contains xs x h))

has_now : {X : Type 0} (now : X → Step) (xs : List X) (y : StepTree) → Has y (map (λ x. step_of (now x)) xs) → Has y (map step_of (map now xs))
has_now now [] y h = h
has_now now (x ∷ xs) y (inl e) = inl e
has_now now (x ∷ xs) y (inr h) = inr (has_now now xs y h)

now_has : {X : Type 0} (now : X → Step) (xs : List X) (y : StepTree) → Has y (map step_of (map now xs)) → Has y (map (λ x. step_of (now x)) xs)
now_has now [] y h = h
now_has now (x ∷ xs) y (inl e) = inl e
now_has now (x ∷ xs) y (inr h) = inr (now_has now xs y h)

-- references to all steps, in another order
pub same_steps : {X : Type 0} (now : X → Step) (refs sorted : List X) (steps : List Step) → map now refs ≡ steps → IsPermutation refs sorted → HaveSame (map (λ x. step_of (now x)) sorted) (map step_of steps)
same_steps now refs sorted steps e p = record {
  there = λ s h. (let m = has_map (λ x. step_of (now x)) s sorted h in
      subst (λ l. Has s (map step_of l)) e (has_now now refs s (subst (λ t. Has t (map (λ x. step_of (now x)) refs)) (sym m.2) (Has-map (λ x. step_of (now x)) m.0 refs (has_moved sorted refs m.0 (IsPermutation-sym refs sorted p) m.1)))));
  back = λ s h. (let m = has_map (λ x. step_of (now x)) s refs (now_has now refs s (subst (λ l. Has s (map step_of l)) (sym e) h)) in
      subst (λ t. Has t (map (λ x. step_of (now x)) sorted)) (sym m.2) (Has-map (λ x. step_of (now x)) m.0 sorted (has_moved refs sorted m.0 p m.1)));
}

-- one step, and the first node from which it leads with a word to a node
pub from_step : (s : StepTree) (word : Word) (out new : List ℕ) → new ≡ out ++ s.from ∷ [] → s.word ≡ word → AddsThose (λ from. s ≡ record { from = from; to = s.to; word = word }) out new
from_step s word out new e w = adds_one (λ from. s ≡ record { from = from; to = s.to; word = word }) out new s.from e (ap (λ v. let k : StepTree = record { from = s.from; to = s.to; word = v } in k) w) (λ y p. sym (ap (λ (k : StepTree). k.from) p))

pub other_word : (s : StepTree) (word : Word) (out : List ℕ) → (s.word ≡ word → ⊥) → AddsThose (λ from. s ≡ record { from = from; to = s.to; word = word }) out out
other_word s word out never = adds_none (λ from. s ≡ record { from = from; to = s.to; word = word }) out (λ y p. never (ap (λ (k : StepTree). k.word) p))

-- the first steps, and one more
pub before_next : {X : Type 0} (see : X → StepTree) (xs : List X) (i : ℕ) (x : X) (node : ℕ) (word : Word) (first old new : List ℕ) → i < length xs → x ≡ get_or xs i x → (see x).to ≡ node
    → AddsThose (λ from. Has (record { from = from; to = node; word = word }) (map see (take i xs))) first old
    → AddsThose (λ from. see x ≡ record { from = from; to = (see x).to; word = word }) old new
    → AddsThose (λ from. Has (record { from = from; to = node; word = word }) (map see (take (i + 1) xs))) first new
before_next see xs i x node word first old new lt e to p q = record {
  kept = λ n h. q.kept n (p.kept n h);
  added = λ n h.
      elim (Has-next see xs i x (record { from = n; to = node; word = word }) lt e h) [
        | inl k ↦ q.kept n (p.added n k)
        | inr is ↦ q.added n (sym is ∙ ap (λ v. let k : StepTree = record { from = n; to = v; word = word } in k) (sym to))
      ];
  only = λ n h.
      elim (q.only n h) [
        | inl k ↦ (elim (p.only n k) [ inl m ↦ inl m | inr a ↦ inr (kept n a) ])
        | inr is ↦ inr (place_has_last n (sym is))
      ];
}
  where
    kept : (n : ℕ) → Has (record { from = n; to = node; word = word }) (map see (take i xs)) → Has (record { from = n; to = node; word = word }) (map see (take (i + 1) xs))
    kept n a = subst (Has (record { from = n; to = node; word = word })) (sym (map_take_next see xs i x lt e)) (Has-left (record { from = n; to = node; word = word }) (map see (take i xs)) (see x ∷ []) a)

    place_has_last : (n : ℕ) → record { from = n; to = (see x).to; word = word } ≡ see x → Has (record { from = n; to = node; word = word }) (map see (take (i + 1) xs))
    place_has_last n is =
        subst (Has (record { from = n; to = node; word = word })) (sym (map_take_next see xs i x lt e))
        (Has-right (record { from = n; to = node; word = word }) (map see (take i xs)) (see x ∷ []) (inl (ap (λ v. let k : StepTree = record { from = n; to = v; word = word } in k) (sym to) ∙ is)))

-- the steps before the first that ends at a node or later end before it
pub none_before : {X : Type 0} (see : X → StepTree) (xs : List X) (i node : ℕ) (word : Word) (out : List ℕ) → ((k : ℕ) (d : X) → k < i → (see (get_or xs k d)).to < node) → AddsThose (λ from. Has (record { from = from; to = node; word = word }) (map see (take i xs))) out out
none_before see xs i node word out less = adds_none (λ from. Has (record { from = from; to = node; word = word }) (map see (take i xs))) out (λ n h. absurd (go n h))
  where
    go : (n : ℕ) → Has (record { from = n; to = node; word = word }) (map see (take i xs)) → ⊥
    go n h =
        let p = has_place see (record { from = n; to = node; word = word }) (take i xs) h in
        let few : p.0 < i = omega (arith, p.2, length-take i xs) in
        let at : p.1 ≡ get_or xs p.0 p.1 = p.3 ∙ get_or-take i xs p.0 p.1 few in
        let lt = less p.0 p.1 few in
        let to : node ≡ (see (get_or xs p.0 p.1)).to = ap (λ (k : StepTree). k.to) p.4 ∙ ap (λ x. (see x).to) at in
        omega (arith, lt, to)

taken : {A : Type 0} (xs : List A) (i : ℕ) (x : A) → Has x (take i xs) → Has x xs
taken [] zero x h = h
taken [] (suc i) x h = h
taken (y ∷ ys) zero x h = absurd h
taken (y ∷ ys) (suc i) x (inl e) = inl e
taken (y ∷ ys) (suc i) x (inr h) = inr (taken ys i x h)

not_later : {X : Type 0} (see : X → StepTree) (xs : List X) (i node n k : ℕ) (word : Word) (x : X) → ((k : ℕ) (d : X) → i ≤ k → k < length xs → node < (see (get_or xs k d)).to) → k < length xs → x ≡ get_or xs k x
    → record { from = n; to = node; word = word } ≡ see x → (i ≤ k) ⊎ (k < i) → Has (record { from = n; to = node; word = word }) (map see (take i xs))
not_later see xs i node n k word x more lt e is (inr less) = subst (λ t. Has t (map see (take i xs))) (sym is) (place_has see xs i k x less lt e)
not_later see xs i node n k word x more lt e is (inl le) =
    let far = more k x le lt in
    let to : node ≡ (see (get_or xs k x)).to = ap (λ (t : StepTree). t.to) is ∙ ap (λ x. (see x).to) e in
    absurd (omega (arith, far, to))

-- no step from one that ends later ends at a node
pub none_after : {X : Type 0} (see : X → StepTree) (xs : List X) (i node : ℕ) (word : Word) (first out : List ℕ) → ((k : ℕ) (d : X) → i ≤ k → k < length xs → node < (see (get_or xs k d)).to)
    → AddsThose (λ from. Has (record { from = from; to = node; word = word }) (map see (take i xs))) first out → AddsThose (λ from. Has (record { from = from; to = node; word = word }) (map see xs)) first out
none_after see xs i node word first out more a =
    adds_like (λ from. Has (record { from = from; to = node; word = word }) (map see (take i xs))) (λ from. Has (record { from = from; to = node; word = word }) (map see xs)) first out
    (λ n h. (let m = has_map see (record { from = n; to = node; word = word }) (take i xs) h in subst (λ t. Has t (map see xs)) (sym m.2) (Has-map see m.0 xs (taken xs i m.0 m.1))))
    (λ n h. (let p = has_place see (record { from = n; to = node; word = word }) xs h in not_later see xs i node n p.0 word p.1 more p.2 p.3 p.4 (cases_le i p.0)))
    a

-- the nodes a word farther back
pub fronts_none : (steps : List StepTree) (node : ℕ) → AreFronts steps [] node (node ∷ [])
fronts_none steps node = record {
  have = have;
  all = all;
  rising = (tt, tt);
}
  where
    have : (from : ℕ) → Has from (node ∷ []) → Carries steps from [] node
    have from (inl e) = subst (λ n. Carries steps n [] node) (sym e) (stays node)
    have from (inr h) = absurd h

    all : (from : ℕ) → Carries steps from [] node → Has from (node ∷ [])
    all from (stays _) = inl refl

pub fronts_more : (steps : List StepTree) (w : Word) (ws : List Word) (node : ℕ) (nodes new : List ℕ) → AreFronts steps ws node nodes → AddsThose (Precedes steps w nodes) [] new → AreRising new → AreFronts steps (w ∷ ws) node new
fronts_more steps w ws node nodes new are a rises = record {
  have = have;
  all = all;
  rising = rises;
}
  where
    have : (from : ℕ) → Has from new → Carries steps from (w ∷ ws) node
    have from h = elim (a.only from h) [ inl k ↦ absurd k | inr p ↦ goes (record { from = from; to = p.0; word = w }) ws node p.2 (are.have p.0 p.1) ]

    all : (from : ℕ) → Carries steps from (w ∷ ws) node → Has from new
    all from (goes s _ _ h c) = a.added s.from (s.to, are.all s.to c, h)

-- numbers sorted, each once
above : (x : ℕ) (xs : List ℕ) → ((k d : ℕ) → k < length xs → x < slice_index_or xs k d) → AreAbove x xs
above x [] f = tt
above x (y ∷ ys) f = (f 0 0 (omega arith), above x ys (λ k d lt. f (suc k) d (omega arith)))

rising_by : (xs : List ℕ) → AllPairs (λ x y. x < y) xs → AreRising xs
rising_by [] h = tt
rising_by (x ∷ xs) h = (above x xs (λ k d lt. h 0 (suc k) d (omega arith) (omega arith)), rising_by xs (λ i j d lt len. h (suc i) (suc j) d (omega arith) (omega arith)))

pub rising_from : (xs : List ℕ) → IsStrictlyIncreasing xs → AreRising xs
rising_from xs h = rising_by xs (AllPairs-from_increasing xs h)

pub sorted_once : (P : ℕ → Type 0) (xs sorted once : List ℕ) → IsPermutation xs sorted → ((x : ℕ) → Contains sorted x → Contains once x) → ((x : ℕ) → Contains once x → Contains sorted x) → AddsThose P [] xs → AddsThose P [] once
sorted_once P xs sorted once p keeps adds a = record {
  kept = λ x h. absurd h;
  added = λ x q. contains_has once x (keeps x (has_contains sorted x (has_moved xs sorted x p (a.added x q))));
  only = λ x h. a.only x (has_moved sorted xs x (IsPermutation-sym xs sorted p) (contains_has sorted x (adds x (has_contains once x h))));
}

pub equal_when : (o : Ordering) → is_eq o ≡ true → o ≡ Equal
equal_when Less e = true_not_false false e refl
equal_when Equal e = refl
equal_when Greater e = true_not_false false e refl

pub not_false : (b : Bool) → not b ≡ false → b ≡ true
not_false true e = refl
not_false false e = true_not_false true refl e

pub same_get : {A : Type 0} (xs : List A) (i : ℕ) (c d : A) → i < length xs → get_or xs i c ≡ get_or xs i d
same_get [] i c d lt = absurd (omega arith)
same_get (x ∷ xs) zero c d lt = refl
same_get (x ∷ xs) (suc i) c d lt = same_get xs i c d (omega arith)

pub not_below : (a b : ℕ) → leb (suc a) b ≡ false → b ≤ a
not_below a b e = go (cases_le b a)
  where
    go : (b ≤ a) ⊎ (a < b) → b ≤ a
    go (inl le) = le
    go (inr lt) = true_not_false (leb (suc a) b) ((Decides-ltb a b).1 lt) e

pub drop_all : {A : Type 0} (xs : List A) (n : ℕ) → length xs ≤ n → drop n xs ≡ []
drop_all [] zero le = refl
drop_all [] (suc n) le = refl
drop_all (x ∷ xs) zero le = absurd (omega arith)
drop_all (x ∷ xs) (suc n) le = drop_all xs n (omega arith)

-- the words but the last
pub front_last : (ws front : List (String Global)) → 0 < length ws → front ≡ take (length ws - 1) ws → (last : Word) × (map string_bytes ws ≡ map string_bytes front ++ last ∷ [])
front_last ws front some e = let r = ends ws some in (r.0, r.1 ∙ ap (λ l. map string_bytes l ++ r.0 ∷ []) (sym e))
  where
    ends : (ws : List (String Global)) → 0 < length ws → (last : Word) × (map string_bytes ws ≡ map string_bytes (take (length ws - 1) ws) ++ last ∷ [])
    ends [] some = absurd (omega arith)
    ends (w ∷ []) some = let z : length (w ∷ []) - 1 ≡ 0 = omega arith in (string_bytes w, sym (ap (λ n. map string_bytes (take n (w ∷ [])) ++ string_bytes w ∷ []) z))
    ends (v ∷ w ∷ ws) some =
        let r = ends (w ∷ ws) (omega arith) in
        let size : length (v ∷ w ∷ ws) - 1 ≡ suc (length (w ∷ ws) - 1) = omega arith in
        (r.0, ap (λ l. string_bytes v ∷ l) r.1 ∙ ap (λ n. map string_bytes (take n (v ∷ w ∷ ws)) ++ r.0 ∷ []) (sym size))
