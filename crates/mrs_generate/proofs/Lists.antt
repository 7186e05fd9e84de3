-- Lists of leaves, one more at a time.
use Rattle.std.specs.Prelude.{ℕ, ◌≡◌, ◌<◌, ◌≤◌, ◌+◌, All, List, [], ◌∷◌, ◌++◌, length, map}
use Rattle.std.proofs.Common.{take, get_or, refl, sym, ◌∙◌, ap, subst, zero, suc, arith}
use Rattle.chart_model.specs.Calculus.{Along, along_none, along_more}
use Rattle.chart_model.specs.At.{At, here, there}
use Rattle.chart_model.specs.Chart as chart
use Rattle.chart_core.proofs.Grows.{all_snoc}
use Rattle.tree_model.specs.Structures.{Structure}
use Rattle.tree_model.specs.Items.{LeafTree, leaves_from}
use Rattle.morph_analysis.proofs.Lists.{map_take_next, all_taken}

pub map_snoc : {A B : Type 0} (f : A → B) (xs : List A) (x : A) → map f (xs ++ x ∷ []) ≡ map f xs ++ f x ∷ []
map_snoc f [] x = refl
map_snoc f (y ∷ xs) x = ap (λ ys. f y ∷ ys) (map_snoc f xs x)

pub map_length : {A B : Type 0} (f : A → B) (xs : List A) → length (map f xs) ≡ length xs
map_length f [] = refl
map_length f (x ∷ xs) = ap suc (map_length f xs)

pub along_snoc : {A B : Type 0} {R : A → B → Type 0} {xs : List A} {ys : List B} {x : A} {y : B} → Along R xs ys → R x y → Along R (xs ++ x ∷ []) (ys ++ y ∷ [])
along_snoc along_none r = along_more r along_none
along_snoc (along_more s more) r = along_more s (along_snoc more r)

pub along_length : {A B : Type 0} {R : A → B → Type 0} {xs : List A} {ys : List B} → Along R xs ys → length xs ≡ length ys
along_length along_none = refl
along_length (along_more r more) = ap suc (along_length more)

pub leaves_snoc : {C : Type 0} (k : ℕ) (ls : List (LeafTree C)) (l : LeafTree C) → leaves_from k (ls ++ l ∷ []) ≡ leaves_from k ls ++ record { cover = l.cover; shape = l.shape; name = k + length ls } ∷ []
leaves_snoc {C} k [] l = ap (λ n. let z : chart.Leaf Structure C = record { cover = l.cover; shape = l.shape; name = n } in z ∷ []) (let e : k ≡ k + 0 = omega arith in e)
leaves_snoc {C} k (x ∷ ls) l =
    ap (λ zs. let z : chart.Leaf Structure C = record { cover = x.cover; shape = x.shape; name = k } in z ∷ zs)
    (leaves_snoc (k + 1) ls l ∙ ap (λ n. let z : chart.Leaf Structure C = record { cover = l.cover; shape = l.shape; name = n } in leaves_from (k + 1) ls ++ z ∷ []) (let e : k + 1 + length ls ≡ k + suc (length ls) = omega arith in e))

pub all_more : {A : Type 0} (P : A → Type 0) (old new : List A) (x : A) → new ≡ old ++ x ∷ [] → P x → All P old → All P new
all_more P old new x e p h = subst (All P) (sym e) (all_snoc P old x h p)

pub all_at : {A : Type 0} (P : A → Type 0) (xs : List A) (i : ℕ) (x : A) → All P xs → i < length xs → x ≡ get_or xs i x → P x
all_at P xs i x all h e = subst P (sym e) (all i x h)

-- a property of what was seen so far, with the next one
pub next_seen : {A B : Type 0} (f : A → B) (P : List B → Type 0) (xs : List A) (i : ℕ) (x : A) → i < length xs → x ≡ get_or xs i x → P (map f (take i xs) ++ f x ∷ []) → P (map f (take (i + 1) xs))
next_seen f P xs i x h e p = subst P (sym (map_take_next f xs i x h e)) p

pub all_seen : {A B : Type 0} (f : A → B) (P : List B → Type 0) (xs : List A) (i : ℕ) → length xs ≤ i → P (map f (take i xs)) → P (map f xs)
all_seen f P xs i h p = subst (λ ys. P (map f ys)) (all_taken xs i h) p

at_map : {A B : Type 0} (f : A → B) (xs : List A) (i : ℕ) (d : A) → i < length xs → At (map f xs) i (f (get_or xs i d))
at_map f [] i d h = absurd (omega arith)
at_map f (x ∷ xs) zero d h = here
at_map f (x ∷ xs) (suc i) d h = there (at_map f xs i d (omega arith))

-- what holds of each that is seen
pub all_of : {A B : Type 0} (f : A → B) (P : B → Type 0) (xs : List A) → ((n : ℕ) (x : B) → At (map f xs) n x → P x) → All (λ a. P (f a)) xs
all_of f P xs k i d h = k i (f (get_or xs i d)) (at_map f xs i d h)

pub all_over : {A : Type 0} (P Q : A → Type 0) (xs : List A) → ((x : A) → P x → Q x) → All P xs → All Q xs
all_over P Q xs h all i d l = h (get_or xs i d) (all i d l)
