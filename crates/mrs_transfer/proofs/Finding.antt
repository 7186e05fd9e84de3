-- The search in code.
use Rattle.std.proofs.Common.{◌≡◌, ℕ, ◌<◌, ◌≤◌, ◌∙◌, Bool, true, false, List, [], ◌∷◌, ◌++◌, length, length-append, take, get_or, refl, ap, sym, subst, arith, Some, None, Option, ◌+◌, ◌-◌}
use Rattle.std.specs.Prelude.{Contains, ◌↔◌, IfNone, map, string_bytes, nat_eq}
use Rattle.std.specs.Option.{option_map}
use Rattle.std.specs.List.{slice_get, IsAnyAnswer}
use Rattle.std.proofs.lemmas.Bool.{false≢true}
use Rattle.std.proofs.lemmas.Bool.Decides.{Decides-eqb}
use Rattle.std.proofs.lemmas.List.{length-map, get_or-map, take_at}
use Rattle.std.proofs.lemmas.List.Elements.{contains_decides, Decides-contains}
use Rattle.std.proofs.lemmas.Option.{slice_get-map, slice_get-get_or}
use Rattle.mrs_model.specs.declared.Ep.{Ep}
use Rattle.mrs_model.specs.Meanings.{Predication}
use Rattle.mrs_model.specs.Valid.{IsPredication}
use Rattle.mrs_model.specs.Views.{variable_of, predication_of}
use Rattle.transfer_model.specs.declared.Element.{Element}
use Rattle.transfer_model.specs.Views.{element_of}
use Rattle.transfer_model.specs.Sites.{Fits, Site}
use Rattle.transfer_model.specs.Rules.{Element as ElementTree, IsElement, StandsAt}
use Rattle.mrs_transfer.specs.declared.bound.Pair.{Pair}
use Rattle.mrs_transfer.specs.declared.matching.Sides.{Sides}
use Rattle.mrs_transfer.specs.Inner.Matching.{task_of, IsTask, IsPlaced, Solves, Begins, IsBound, Narrows, Refuses, IsLeast, IsNowhere, IsPassed}
use Rattle.mrs_transfer.proofs.Searching.{AreOf, all_bound, match_of, placed_more, refused, least_here, nowhere_here, least_next, nowhere_all}

elements_length : (s : Sides) → length (task_of s).elements ≡ length s.elements.now
elements_length s = length-map s.elements.now element_of

letters_length : (s : Sides) → length (task_of s).letters ≡ length s.letters.now
letters_length s = length-map s.letters.now string_bytes

eps_length : (s : Sides) → length (task_of s).eps ≡ length s.eps.now
eps_length s = length-map s.eps.now predication_of

pub full_bound : (s : Sides) (ps : List ℕ) (pairs : List Pair) → IsTask (task_of s) → IsPlaced (task_of s) ps pairs → length ps ≡ length s.elements.now → (c : ℕ) → c < length s.letters.now → IsBound pairs c
full_bound s ps pairs t h full c l =
    let n = elements_length s in
    let m = letters_length s in
    all_bound (task_of s) ps pairs t h (omega (arith, n, full)) c (omega (arith, m, l))

full_are : (s : Sides) (pairs : List Pair) (vars : List ℕ) → AreOf pairs (length s.letters.now) vars → AreOf pairs (length (task_of s).letters) vars
full_are s pairs vars a = λ c l. let m = letters_length s in a c (omega (arith, m, l))

-- a match of all elements
pub full_match : (s : Sides) (ps : List ℕ) (pairs : List Pair) (vars : List ℕ) → IsPlaced (task_of s) ps pairs → length ps ≡ length s.elements.now → length vars ≡ length s.letters.now → AreOf pairs (length s.letters.now) vars → Solves (task_of s) ps vars
full_match s ps pairs vars h full size a =
    let n = elements_length s in
    let m = letters_length s in
    match_of (task_of s) ps pairs vars h (omega (arith, n, full)) (omega (arith, m, size)) (full_are s pairs vars a)

pub full_least : (s : Sides) (A : (ℕ → Site → Bool) → Type 0) (T : (ℕ → Site → Bool) → List ℕ → List ℕ → Type 0) (ps : List ℕ) (pairs : List Pair) (vars : List ℕ) → IsPlaced (task_of s) ps pairs → length ps ≡ length s.elements.now → length vars ≡ length s.letters.now → AreOf pairs (length s.letters.now) vars
    → ((allows : ℕ → Site → Bool) → A allows → T allows ps vars) → IsLeast (task_of s) A T ps ps vars
full_least s A T ps pairs vars h full size a taken =
    let n = elements_length s in
    let m = letters_length s in
    least_here (task_of s) A T ps pairs vars h (omega (arith, n, full)) (omega (arith, m, size)) (full_are s pairs vars a) taken

pub full_nowhere : (s : Sides) (A : (ℕ → Site → Bool) → Type 0) (T : (ℕ → Site → Bool) → List ℕ → List ℕ → Type 0) (ps : List ℕ) (pairs : List Pair) (vars : List ℕ) → IsPlaced (task_of s) ps pairs → length ps ≡ length s.elements.now → length vars ≡ length s.letters.now → AreOf pairs (length s.letters.now) vars
    → ((allows : ℕ → Site → Bool) → A allows → T allows ps vars → ⊥) → IsNowhere (task_of s) A T ps
full_nowhere s A T ps pairs vars h full size a untaken =
    let n = elements_length s in
    let m = letters_length s in
    nowhere_here (task_of s) A T ps pairs vars h (omega (arith, n, full)) (omega (arith, m, size)) (full_are s pairs vars a) untaken

-- from the next place to all
pub turn_least : (s : Sides) (A : (ℕ → Site → Bool) → Type 0) (T : (ℕ → Site → Bool) → List ℕ → List ℕ → Type 0) (ps : List ℕ) (k : ℕ) (places vars : List ℕ) → length ps < length s.elements.now → IsPassed (task_of s) A T ps k → IsLeast (task_of s) A T (ps ++ k ∷ []) places vars → IsLeast (task_of s) A T ps places vars
turn_least s A T ps k places vars turn passed l = let n = elements_length s in least_next (task_of s) A T ps k places vars (omega (arith, n, turn)) passed l

pub turn_nowhere : (s : Sides) (A : (ℕ → Site → Bool) → Type 0) (T : (ℕ → Site → Bool) → List ℕ → List ℕ → Type 0) (ps : List ℕ) (k : ℕ) → length ps < length s.elements.now → length s.eps.now ≤ k → IsPassed (task_of s) A T ps k → IsNowhere (task_of s) A T ps
turn_nowhere s A T ps k turn all passed =
    let n = elements_length s in
    let m = eps_length s in
    nowhere_all (task_of s) A T ps k (omega (arith, n, turn)) (omega (arith, m, all)) passed

-- places that can't be read are few
pub short_of : (s : Sides) (ps : List ℕ) (pairs : List Pair) → IsPlaced (task_of s) ps pairs → length ps ≤ length s.elements.now
short_of s ps pairs h = let n = elements_length s in let l = h.short in omega (arith, n, l)

-- what is read in code
element_read : (s : Sides) (k n : ℕ) (x : Element) → n < length s.elements.now → k ≡ n → slice_get (task_of s).elements n ≡ Some (element_of (get_or s.elements.now k x))
element_read s k n x l e = slice_get-map element_of s.elements.now n ∙ (ap (option_map element_of) (slice_get-get_or s.elements.now n x l) ∙ ap (λ (j : ℕ). Some (element_of (get_or s.elements.now j x))) (sym e))

ep_read : (s : Sides) (k : ℕ) (e : Ep) → k < length s.eps.now → slice_get (task_of s).eps k ≡ Some (predication_of (get_or s.eps.now k e))
ep_read s k e l = slice_get-map predication_of s.eps.now k ∙ ap (option_map predication_of) (slice_get-get_or s.eps.now k e l)

pub element_held : (s : Sides) (k : ℕ) (x : Element) → IsTask (task_of s) → k < length s.elements.now → IsElement (length s.letters.now) (element_of (get_or s.elements.now k x))
element_held s k x t l =
    let n = elements_length s in
    subst (λ (m : ℕ). IsElement m (element_of (get_or s.elements.now k x))) (letters_length s)
    (subst (λ (y : ElementTree). IsElement (length (task_of s).letters) y) (get_or-map element_of s.elements.now k x (element_of x) l) (t.elements k (element_of x) (omega (arith, n, l))))

pub ep_held : (s : Sides) (k : ℕ) (e : Ep) → IsTask (task_of s) → k < length s.eps.now → IsPredication (length s.all.now) (predication_of (get_or s.eps.now k e))
ep_held s k e t l =
    let n = eps_length s in
    subst (λ (m : ℕ). IsPredication m (predication_of (get_or s.eps.now k e))) (length-map s.all.now variable_of)
    (subst (λ (y : Predication). IsPredication (length (task_of s).all) y) (get_or-map predication_of s.eps.now k e (predication_of e) l) (t.eps k (predication_of e) (omega (arith, n, l))))

pub put_placed : (s : Sides) (ps : List ℕ) (old new : List Pair) (p k : ℕ) (x : Element) (e : Ep) → IsPlaced (task_of s) ps old → (Contains ps p → ⊥) → length ps < length s.elements.now → k ≡ length ps → p < length s.eps.now
    → Narrows (map variable_of s.all.now) (map string_bytes s.letters.now) (λ vars. Fits vars (element_of (get_or s.elements.now k x)) (predication_of (get_or s.eps.now p e))) (λ c. StandsAt c (element_of (get_or s.elements.now k x))) old new → IsPlaced (task_of s) (ps ++ p ∷ []) new
put_placed s ps old new p k x e h fresh l is m n =
    placed_more (task_of s) ps old new p (element_of (get_or s.elements.now k x)) (predication_of (get_or s.eps.now p e)) h fresh (element_read s k (length ps) x l is) (ep_read s p e m) n

pub put_refused : (s : Sides) (ps : List ℕ) (old new : List Pair) (p k : ℕ) (x : Element) (e : Ep) (qs vs : List ℕ) → IsPlaced (task_of s) ps old → length ps < length s.elements.now → k ≡ length ps → p < length s.eps.now
    → Refuses (map variable_of s.all.now) (map string_bytes s.letters.now) (λ vars. Fits vars (element_of (get_or s.elements.now k x)) (predication_of (get_or s.eps.now p e))) old new → Solves (task_of s) qs vs → Begins (ps ++ p ∷ []) qs → ⊥
put_refused s ps old new p k x e qs vs h l is m n v b =
    refused (task_of s) ps old new p (element_of (get_or s.elements.now k x)) (predication_of (get_or s.eps.now p e)) qs vs h (element_read s k (length ps) x l is) (ep_read s p e m) n v b

-- whether a place is among those that are taken
pub among : (ps qs : List ℕ) (a b : ℕ) (r : Bool) → IsAnyAnswer (λ y t. nat_eq y b ≡ t) qs r → qs ≡ ps → b ≡ a → (r ≡ true) ↔ Contains ps a
among ps qs a b r h e f = subst (λ (z : ℕ). (r ≡ true) ↔ Contains ps z) f (subst (λ (z : List ℕ). (r ≡ true) ↔ Contains z b) e (Decides-contains qs b r (contains_decides nat_eq Decides-eqb qs b r h)))

pub among_not : (ps qs : List ℕ) (a b : ℕ) (r : Bool) → IsAnyAnswer (λ y t. nat_eq y b ≡ t) qs r → qs ≡ ps → b ≡ a → r ≡ false → Contains ps a → ⊥
among_not ps qs a b r h e f l c = false≢true (sym l ∙ (among ps qs a b r h e f).1 c)

-- a step back
pub pop_back : (popped found there ps : List ℕ) (n p : ℕ) → popped ≡ take (n - 1) found → n ≡ length found → found ≡ there → there ≡ ps ++ p ∷ [] → popped ≡ ps
pop_back popped found there ps n p a m f g =
    let e : found ≡ ps ++ p ∷ [] = f ∙ g in
    let k : n ≡ length ps + 1 = m ∙ (ap length e ∙ length-append ps (p ∷ [])) in
    let j : n - 1 ≡ length ps = omega (arith, k) in
    a ∙ (ap (λ (i : ℕ). take i found) j ∙ (ap (λ (z : List ℕ). take (length ps) z) e ∙ take_at ps (p ∷ []) (length ps) refl))

pub cut_back : (cut found there old start : List Pair) (n : ℕ) → cut ≡ take n found → n ≡ length start → found ≡ there → take (length old) there ≡ old → old ≡ start → cut ≡ start
cut_back cut found there old start n a m f g h =
    a ∙ (ap (λ (i : ℕ). take i found) m ∙ (ap (λ (z : List Pair). take (length start) z) f ∙ subst (λ (z : List Pair). take (length z) there ≡ z) h g))

pub none_so : {A : Type 0} (o : Option A) (P : Type 0) → P → IfNone o P
none_so None P p = p
none_so (Some x) P p = tt
