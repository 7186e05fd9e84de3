-- What the search for unknown words finds of a step.
use Rattle.std.proofs.Common.{ℕ, zero, suc, ◌≡◌, ◌<◌, ◌≤◌, ◌+◌, ◌-◌, ◌↔◌, Option, take, drop, length-drop, inl, inr, Bool, true, nat_eq, List, [], ◌∷◌, ◌++◌, length, map, get_or, refl, sym, ◌∙◌, ap, subst, arith}
use Rattle.std.proofs.lemmas.Bool.Decides.{Decides-eqb}
use Rattle.std.proofs.lemmas.List.{drop-map}
use Rattle.std.proofs.lemmas.List.Elements.{contains_decides, Decides-contains, filter_map-append}
use Rattle.std.proofs.lemmas.List.Sorted.{IsPermutation-sym, IsPermutation-map}
use Rattle.std.specs.List.{IsAnyAnswer, filter_map, cons_option}
use Rattle.std.specs.List.Sorted.{IsNonDecreasingBy, IsPermutation}
use Rattle.lexicon.specs.Words.{Word, Has}
use Rattle.morph_analysis.specs.Lattices.{StepTree, Carries, AreFronts}
use Rattle.morph_analysis.proofs.ArrivalLemmas.{has_place, contains_has, has_contains, has_moved, same_get}
use Rattle.morph_analysis.proofs.Lists.{all_taken, map_take_next}
use Rattle.derivation.specs.Trees.{Derivation}
use Rattle.line_charts.specs.declared.unknown.Reach.{Reach}
use Rattle.line_charts.specs.Inner.Reaches.{ReachTree, reach_seen, reach_in, reaches_in, IsSome}

pub carries_decided : (steps : List StepTree) (words : List Word) (node from : ℕ) (froms : List ℕ) (r : Bool) → AreFronts steps words node froms → IsAnyAnswer (λ y t. nat_eq y from ≡ t) froms r →
    (r ≡ true) ↔ Carries steps from words node
carries_decided steps words node from froms r are cases =
    let d = Decides-contains froms from r (contains_decides nat_eq Decides-eqb froms from r cases) in
    (λ e. are.have from (contains_has froms from (d.0 e)), λ c. d.1 (has_contains froms from (are.all from c)))

place_has : {A B : Type 0} (f : A → B) (xs : List A) (k : ℕ) (x : A) → k < length xs → x ≡ get_or xs k x → Has (f x) (map f xs)
place_has f [] k x lt e = absurd (omega arith)
place_has f (y ∷ ys) zero x lt e = inl (ap f e)
place_has f (y ∷ ys) (suc k) x lt e = inr (place_has f ys k x (omega arith) e)

-- one of these is R of the step, or none is
pub some_at : (R : ReachTree → StepTree → Type 0) (rs : List Reach) (k : ℕ) (r : Reach) (s : StepTree) → k < length rs → r ≡ get_or rs k r → R (reach_seen r) s → IsSome R (map reach_seen rs) s
some_at R rs k r s lt e p = (reach_seen r, place_has reach_seen rs k r lt e, p)

pub none_at : (R : ReachTree → StepTree → Type 0) (rs : List Reach) (s : StepTree) → ((k : ℕ) (r : Reach) → k < length rs → r ≡ get_or rs k r → R (reach_seen r) s → ⊥) → IsSome R (map reach_seen rs) s → ⊥
none_at R rs s never (t, h, p) =
    let q = has_place reach_seen t rs h in
    never q.0 q.1 q.2 q.3 (subst (λ v. R v s) q.4 p)

-- those after one that begins later begin later
pub beyond : (rs : List Reach) (i : ℕ) (x : Reach) (from : ℕ) → IsNonDecreasingBy (λ (r : Reach). r.from) rs → i < length rs → x ≡ get_or rs i x → from < x.from →
    (k : ℕ) (r : Reach) → i ≤ k → k < length rs → r ≡ get_or rs k r → r.from ≡ from → ⊥
beyond rs i x from rises low is far k r le lt e p =
    let h = rises i k r le lt in
    let same : get_or rs i r ≡ x = same_get rs i r x low ∙ sym is in
    omega (arith, h, ap (λ (v : Reach). v.from) same, ap (λ (v : Reach). v.from) e, far, p)

pub snoc_map : {A B : Type 0} (f : A → B) (xs : List A) (y : A) (us : List B) → map f (xs ++ y ∷ []) ++ us ≡ map f xs ++ f y ∷ us
snoc_map f [] y us = refl
snoc_map f (x ∷ xs) y us = ap (λ zs. f x ∷ zs) (snoc_map f xs y us)

pub append_none : {A : Type 0} (xs : List A) → xs ++ [] ≡ xs
append_none [] = refl
append_none (x ∷ xs) = ap (λ zs. x ∷ zs) (append_none xs)

-- one more tree
pub gathered : {X : Type 0} (see : X → Derivation) (single : Bool) (ts : List X) (i : ℕ) (t : X) (old new : List Reach) (o : Option ReachTree) → i < length ts → t ≡ get_or ts i t → o ≡ reach_in single (see t) →
    map reach_seen old ≡ reaches_in single (map see (take i ts)) → map reach_seen new ≡ map reach_seen old ++ cons_option o [] →
    map reach_seen new ≡ reaches_in single (map see (take (i + 1) ts))
gathered see single ts i t old new o lt e is inv more =
    more ∙ ap (λ l. l ++ cons_option o []) inv
    ∙ ap (λ p. reaches_in single (map see (take i ts)) ++ cons_option p []) is
    ∙ sym (ap (filter_map (reach_in single)) (map_take_next see ts i t lt e) ∙ filter_map-append (reach_in single) (map see (take i ts)) (see t ∷ []))

-- the words from a place on
pub rest_words : {A B : Type 0} (f : A → B) (xs : List A) (k : ℕ) → map f (take (length xs - k) (drop k xs)) ≡ drop k (map f xs)
rest_words f xs k = ap (map f) (all_taken (drop k xs) (length xs - k) (omega (arith, length-drop k xs))) ∙ sym (drop-map f k xs)

-- what is in a list that was sorted, as it is seen
pub sorted_has : {A B : Type 0} (f : A → B) (old new now : List A) (bs : List B) (b : B) → IsPermutation old new → now ≡ new → map f old ≡ bs → Has b (map f now) → Has b bs
sorted_has f old new now bs b p q e h = subst (Has b) e (has_moved (map f new) (map f old) b (IsPermutation-sym (map f old) (map f new) (IsPermutation-map f old new p)) (subst (λ l. Has b (map f l)) q h))

pub has_sorted : {A B : Type 0} (f : A → B) (old new now : List A) (bs : List B) (b : B) → IsPermutation old new → now ≡ new → map f old ≡ bs → Has b bs → Has b (map f now)
has_sorted f old new now bs b p q e h = subst (λ l. Has b (map f l)) (sym q) (has_moved (map f old) (map f new) b (IsPermutation-map f old new p) (subst (Has b) (sym e) h))
