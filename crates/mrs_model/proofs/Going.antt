-- The search in code: its steps in order of making, and elements as what they stand for.
use Rattle.std.proofs.Common.{◌≡◌, ℕ, suc, ◌+◌, ◌<◌, ◌≤◌, ◌∙◌, List, [], ◌∷◌, ◌++◌, map, reverse, length, length-append, take, replicate, zero, Bool, false, get_or, refl, ap, subst, arith, Some}
use Rattle.std.specs.List.{slice_get}
use Rattle.std.proofs.lemmas.Option.{slice_get-map, slice_get_within, slice_get-get_or}
use Rattle.std.proofs.lemmas.List.{length-map, reverse-append}
use Rattle.std.proofs.lemmas.Grind.{common_steps}
use Rattle.mrs_model.specs.declared.keyed.Keyed.{Keyed}
use Rattle.mrs_model.specs.declared.search.Step.{Step}
use Rattle.mrs_model.specs.declared.bindings.Pair.{Pair}
use Rattle.mrs_model.specs.declared.Var.{Var}
use Rattle.mrs_model.specs.Views.{variable_of}
use Rattle.mrs_model.specs.Inner.Bindings.{Bound}
use Rattle.mrs_model.specs.Inner.Search.{Task, places, work_at}
use Rattle.mrs_model.specs.Inner.State.{element_of, elements_of, Knows}
use Rattle.mrs_model.proofs.Searching.{take_start, work_deeper, work_back}

pub item_at : (xs : List Keyed) (n m : ℕ) (x : Keyed) → slice_get xs n ≡ Some x → m ≡ n → slice_get (elements_of xs) m ≡ Some (element_of x)
item_at xs n m x e same = rw (same, slice_get-map element_of xs n, e) refl

pub item_read : (xs : List Keyed) (n : ℕ) (d : Keyed) → n < length xs → slice_get (elements_of xs) n ≡ Some (element_of (get_or xs n d))
item_read xs n d l = rw (slice_get-map element_of xs n, slice_get-get_or xs n d l) refl

pub places_length : (steps : List Step) → length (places (reverse steps)) ≡ length steps
places_length steps = grind (arith, common_steps, length-map)

pub elements_length : (xs : List Keyed) → length (elements_of xs) ≡ length xs
elements_length [] = refl
elements_length (x ∷ xs) = ap suc (elements_length xs)

pub reverse_push : (steps : List Step) (s : Step) → reverse (steps ++ s ∷ []) ≡ s ∷ reverse steps
reverse_push steps s = reverse-append steps (s ∷ [])

pub places_within : (xs : List Keyed) (steps : List Step) (x : Keyed) → slice_get xs (length steps) ≡ Some x → length (places (reverse steps)) < length (elements_of xs)
places_within xs steps x e = let l = slice_get_within xs (length steps) x e in rw (places_length steps, elements_length xs) l

pub forget_back : (b : Bound) (old more new : List Pair) (mark size : ℕ) → b ≡ record { pairs = take mark new; size = size } → new ≡ old ++ more → mark ≡ length old → b.pairs ≡ old
forget_back b old more new mark size e front m = ap (λ (x : Bound). x.pairs) e ∙ rw (front, m) (take_start old more)

pub forget_size : (b : Bound) (ps : List Pair) (size : ℕ) → b ≡ record { pairs = ps; size = size } → b.size ≡ size
forget_size b ps size e = ap (λ (x : Bound). x.size) e

places_push : (old new : List Step) (s : Step) → new ≡ old ++ s ∷ [] → places (reverse new) ≡ s.place ∷ places (reverse old)
places_push old new s e = rw (e, reverse_push old s) refl

pub work_push : (n elements next : ℕ) (old new : List Step) (s : Step) → new ≡ old ++ s ∷ [] → length old < elements → next ≤ s.place → s.place < n
    → work_at n elements 0 (places (reverse new)) < work_at n elements next (places (reverse old))
work_push n elements next old new s e turn le in' =
    rw (places_push old new s e) (work_deeper n elements s.place next (places (reverse old)) (let l = places_length old in omega arith) le in')

pub work_pop : (n elements next : ℕ) (old new : List Step) (s : Step) → old ≡ new ++ s ∷ [] → work_at n elements (s.place + 1) (places (reverse new)) < work_at n elements next (places (reverse old))
work_pop n elements next old new s e = rw (places_push new old s e) (work_back n elements s.place next (places (reverse new)))

-- what is known before the last step is popped
pub knows_popped : (t : Task) (old new : List Step) (s : Step) (used : List Bool) (pairs : List Pair) (size last : ℕ) → old ≡ new ++ s ∷ [] → Knows t (reverse old) used pairs size last → Knows t (s ∷ reverse new) used pairs size last
knows_popped t old new s used pairs size last e k = subst (λ (l : List Step). Knows t l used pairs size last) (ap reverse e ∙ reverse_push new s) k

pub knows_empty : (t : Task) (old : List Step) (used : List Bool) (pairs : List Pair) (size last : ℕ) → old ≡ [] → Knows t (reverse old) used pairs size last → Knows t [] used pairs size last
knows_empty t old used pairs size last e k = subst (λ (l : List Step). Knows t l used pairs size last) (ap reverse e) k

pub empty_of : {X : Type 0} (xs : List X) → length xs ≡ 0 → xs ≡ []
empty_of [] e = refl
empty_of (x ∷ xs) e = absurd (omega arith)

pub all_free : (n c : ℕ) → get_or (replicate n false) c false ≡ false
all_free zero c = refl
all_free (suc n) zero = refl
all_free (suc n) (suc c) = all_free n c

pub length_free : (n : ℕ) → length (replicate n false) ≡ n
length_free zero = refl
length_free (suc n) = ap suc (length_free n)

-- where the last step is popped there was room above it
pub turn_left : (xs : List Keyed) (old new : List Step) (s : Step) → old ≡ new ++ s ∷ [] → length old < length xs → suc (length (places (reverse new))) < length (elements_of xs)
turn_left xs old new s e lt =
    let n : length old ≡ length new + 1 = ap length e ∙ length-append new (s ∷ []) in
    let p = places_length new in
    let l = elements_length xs in
    omega (arith, n, p, l, lt)

pub length_vars : (xs : List Var) → length (map variable_of xs) ≡ length xs
length_vars [] = refl
length_vars (x ∷ xs) = ap suc (length_vars xs)
