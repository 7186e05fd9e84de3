-- The lines of types, piece by piece.
use Rattle.std.proofs.Common.{◌≡◌, ℕ, zero, suc, ◌+◌, ◌<◌, ◌≤◌, ◌∙◌, sym, ap, refl, List, [], ◌∷◌, ◌++◌, length, take, drop, map, get_or, arith, append_assoc, append-nil, subst, All, codes, slice_index_or, Option}
use Rattle.std.specs.List.{range_with_len}
use Rattle.std.proofs.lemmas.List.Elements.{All-filter}
use Rattle.std.proofs.lemmas.List.FromFn.{length-range_with_len, get_or-range_with_len, length-map-range_with_len}
use Rattle.type_hierarchy.specs.declared.types.Ty.{Ty}
use Rattle.type_hierarchy.specs.Table.{TypeTable, count_of, completed_count}
use Rattle.type_hierarchy.specs.Supertypes.{supertypes_of, numbers_of}
use Rattle.grammar_commands.specs.TypeReports.{name_at, type_line, type_lines}

pub names-of : (t : TypeTable) (ts : List Ty) → map (name_at t) (numbers_of ts) ≡ map (λ x. name_at t x.0) ts
names-of t [] = refl
names-of t (x ∷ xs) = ap (λ r. name_at t x.0 ∷ r) (names-of t xs)

-- the numbers of the supertypes are numbers of types
length-numbers : (ts : List Ty) → length (numbers_of ts) ≡ length ts
length-numbers [] = refl
length-numbers (t ∷ ts) = ap suc (length-numbers ts)

All-numbers : (ts : List Ty) (n : ℕ) → ((k d : ℕ) → k < length ts → get_or (numbers_of ts) k d < n) → (k : ℕ) (d : Ty) → k < length ts → (get_or ts k d).0 < n
All-numbers [] n h k d below = absurd (omega (arith, below))
All-numbers (t ∷ ts) n h zero d below = h zero d.0 below
All-numbers (t ∷ ts) n h (suc k) d below = All-numbers ts n (λ j e under. h (suc j) e (omega (arith, under))) k d (omega (arith, below))

All-range : (n : ℕ) → All (λ b. b < n) (range_with_len 0 n)
All-range n = λ k d below.
    let inside : k < n = subst (λ m. k < m) (length-range_with_len 0 n) below in
    let same = get_or-range_with_len 0 n k d inside in
    omega (arith, same, inside)

pub supertypes-in : (t : TypeTable) (a : ℕ) (ts : List Ty) → completed_count t ≤ count_of t → numbers_of ts ≡ supertypes_of t a → All (λ x. x.0 < count_of t) ts
supertypes-in t a ts few e =
    let all = subst (All (λ b. b < completed_count t)) (sym e) (All-filter _ (λ b. b < completed_count t) (range_with_len 0 (completed_count t)) (All-range (completed_count t))) in
    λ k d below. All-numbers ts (count_of t) (λ j e under. (let h = all j e (subst (λ m. j < m) (sym (length-numbers ts)) under) in omega (arith, h, few))) k d below

pub range-at : (n i : ℕ) → i < n → get_or (range_with_len 0 n) i i ≡ i
range-at n i h = let e = get_or-range_with_len 0 n i i h in omega (arith, e)

pub range-length : (n i : ℕ) → i < n → i < length (range_with_len 0 n)
range-length n i h = subst (λ m. i < m) (sym (length-range_with_len 0 n)) h

-- every line is before this place
pub lines-length : (t : TypeTable) (i n : ℕ) → n ≡ completed_count t → n ≤ i → length (type_lines t) ≤ i
lines-length t i n e h = let l = length-map-range_with_len (type_line t) 0 (completed_count t) in omega (arith, l, e, h)

-- one line more
pub lines-more : {X : Type 0} (f : X → List ℕ) (xs : List X) (i : ℕ) (x : X) → i < length xs → get_or xs i x ≡ x → take (suc i) (map f xs) ≡ take i (map f xs) ++ f x ∷ []
lines-more f [] i x h e = absurd (omega (arith, h))
lines-more f (y ∷ ys) zero x h e = ap (λ t. f t ∷ []) e
lines-more f (y ∷ ys) (suc i) x h e = ap (λ t. f y ∷ t) (lines-more f ys i x (omega (arith, h)) e)
