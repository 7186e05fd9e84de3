-- Every path that may be is listed.
use Rattle.std.specs.Prelude.{ℕ, ◌≡◌, ◌≤◌, ◌<◌, ◌+◌, ◌⊎◌, List, [], ◌∷◌, map, length, All}
use Rattle.std.specs.List.{range_with_len}
use Rattle.std.proofs.lemmas.Bool.{cases_lt}
use Rattle.std.proofs.Common.{sym, subst, arith, zero, suc, inl, inr}
use Rattle.fs_model.specs.Claims.{Path, Has, here, there}
use Rattle.tree_model.specs.Paths.{with_first, paths_up_to}
use Rattle.tree_model.proofs.Closures.{has_append_left, has_append_right, has_map}

has_with_first : {f : ℕ} {fs : List ℕ} {p : Path} (ps : List Path) → Has f fs → Has p ps → Has (f ∷ p) (with_first fs ps)
unfolding with_first
has_with_first {f = f} ps (here {ys = fs}) k = has_append_left (with_first fs ps) (has_map (λ p. f ∷ p) k)
has_with_first ps (there {y = g} h) k = has_append_right (map (λ p. g ∷ p) ps) (has_with_first ps h k)

pub has_path : (fs : List ℕ) (k : ℕ) (p : Path) → length p ≤ k → ((f : ℕ) → Has f p → Has f fs) → Has p (paths_up_to fs k)
unfolding paths_up_to
has_path fs zero [] l all = here
has_path fs (suc k) [] l all = here
has_path fs zero (f ∷ p) l all = absurd (omega arith)
has_path fs (suc k) (f ∷ p) l all = there (has_with_first (paths_up_to fs k) (all f here) (has_path fs k p (omega arith) (λ g h. all g (there h))))

has_range : (a k f : ℕ) → a ≤ f → f < a + k → Has f (range_with_len a k)
has_range a zero f l h = absurd (omega arith)
has_range a (suc k) f l h = by_first (λ m n. has_range (a + 1) k f m n) (cases_lt a f)
  where
    by_first : ((a + 1 ≤ f) → (f < (a + 1) + k) → Has f (range_with_len (a + 1) k)) → (a < f) ⊎ (f ≤ a) → Has f (a ∷ range_with_len (a + 1) k)
    by_first go (inl c) = there (go (omega (arith, c)) (omega (arith, h)))
    by_first go (inr c) = let e : a ≡ f = omega (arith, c, l) in subst (λ x. Has f (x ∷ range_with_len (a + 1) k)) (sym e) here

has_below : {f : ℕ} {p : List ℕ} (k : ℕ) → All (λ g. g < k) p → Has f p → f < k
has_below {p = []} k all h = elim h [ ]
has_below {p = g ∷ p} k all here = all 0 g (omega arith)
has_below {p = g ∷ p} k all (there h) = has_below k (λ i d l. all (suc i) d (omega (arith, l))) h

-- a path of features below k, of at most so many, is one that may be
pub has_path_below : (k limit : ℕ) (p : Path) → length p ≤ limit → All (λ f. f < k) p → Has p (paths_up_to (range_with_len 0 k) limit)
has_path_below k limit p l all = has_path (range_with_len 0 k) limit p l (λ f h. let z = has_below k all h in has_range 0 k f (omega arith) (omega (arith, z)))
