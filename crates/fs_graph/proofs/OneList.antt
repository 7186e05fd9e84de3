-- Lists of the paths of one structure are one.
use Rattle.std.proofs.Common.{ℕ, zero, suc, ◌≡◌, ◌≤◌, ◌<◌, ◌⊎◌, inl, inr, Option, Some, None, List, [], length, slice_index_or, refl, sym, ◌∙◌, ap, subst, arith}
use Rattle.std.proofs.lemmas.List.{get_or-map, length-map, ext_get_or}
use Rattle.std.proofs.lemmas.List.Elements.{All-get_or}
use Rattle.fs_model.specs.Claims.{Path}
use Rattle.fs_model.specs.Sources.{Reader, IsSameStructure}
use Rattle.fs_model.specs.Numbering.{IsBefore, IsLeastPath}
use Rattle.fs_model.specs.Listing.{AreLeast, IsShown, path_at, IsIn}
use Rattle.fs_model.proofs.NumberingLemmas.{IsBefore-trans, IsBefore-itself, rises_once, rank_least}
use Rattle.fs_graph.specs.Facts.{Line}
use Rattle.fs_graph.specs.PathLists.{IsLineOf, paths_of, IsPathList}

-- the same structure, from the other side
back : (a b : Reader) → IsSameStructure a b → IsSameStructure b a
back a b s = record {
  there = s.there_back;
  there_back = s.there;
  equal = λ p q n m. s.equal_back p q n m;
  equal_back = λ p q n m. s.equal p q n m;
  types = λ p n m x y. sym (s.types p m n y x);
}

-- two rising lists with the same paths
abbrev Rising : List Path → Type 0
Rising ps = (i j : ℕ) → i < j → j < length ps → IsBefore (path_at ps i) (path_at ps j)

module _ (xs ys : List Path) (rises : Rising xs) (rises' : Rising ys) (on : (i : ℕ) → i < length xs → IsIn ys (path_at xs i))
    (over : (i : ℕ) → i < length ys → IsIn xs (path_at ys i)) where
  same_place : (i : ℕ) → i < length xs → (i < length ys) × (path_at xs i ≡ path_at ys i)
  same_place i h = (subst (λ j. j < length ys) equal (on i h).1, sym (on i h).2 ∙ ap (path_at ys) equal)
    where
      turn : i ≡ (over (on i h).0 (on i h).1).0
      turn =
          rises_once (path_at xs) (length xs) rises i (over (on i h).0 (on i h).1).0 h (over (on i h).0 (on i h).1).1
          (sym (on i h).2 ∙ sym (over (on i h).0 (on i h).1).2)

      equal : (on i h).0 ≡ i
      equal =
          omega (
            arith,
            turn,
            rank_least (path_at xs) (path_at ys) (length xs) (length ys) rises rises' (λ k x. (on k x).0) (λ k x. (on k x).1) (λ k x. sym (on k x).2) i h,
            rank_least (path_at ys) (path_at xs) (length ys) (length xs) rises' rises (λ k x. (over k x).0) (λ k x. (over k x).1) (λ k x. sym (over k x).2)
                (on i h).0 (on i h).1,
          )

-- a list whose places are all places of another is no longer
no_longer : (n m : ℕ) → ((i : ℕ) → i < n → i < m) → n ≤ m
no_longer zero m h = omega arith
no_longer (suc n) m h = omega (arith, h n (omega arith))

-- a least path stays one
least_too : (a b : Reader) → IsSameStructure a b → (n m : ℕ) (p : Path) → b.node_at p ≡ Some m → IsLeastPath a n p → IsLeastPath b m p
least_too a b s n m p e l = record { leads = e; least = λ q d. l.least q (s.equal_back p q m n e d l.leads) }

-- the least path is one
one_least : (r : Reader) (n : ℕ) (p q : Path) → IsLeastPath r n p → IsLeastPath r n q → p ≡ q
one_least r n p q x y = go (x.least q y.leads) (y.least p x.leads)
  where
    go : (p ≡ q) ⊎ IsBefore p q → (q ≡ p) ⊎ IsBefore q p → p ≡ q
    go (inl e) _ = e
    go (inr _) (inl e) = sym e
    go (inr l) (inr k) = absurd (IsBefore-itself p (IsBefore-trans l k))

-- what a path goes on from stays least
are_least_too : (a b : Reader) → IsSameStructure a b → (p : Path) → AreLeast a p → AreLeast b p
are_least_too a b s p l q t f m e d = let x = s.there_back q m d in least_too a b s x.0 m q d (l q t f x.0 e x.1)

-- what is shown of a path is one
one_shown : (r : Reader) (n : ℕ) (p : Path) (x y : Option Path) → IsShown r n p x → IsShown r n p y → x ≡ y
one_shown r n p None None u v = refl
one_shown r n p None (Some q) u v = absurd (v.1 (one_least r n q p v.0 u))
one_shown r n p (Some q) None u v = absurd (u.1 (one_least r n q p u.0 v))
one_shown r n p (Some q) (Some k) u v = ap Some (one_least r n q k u.0 v.0)

shown_too : (a b : Reader) → IsSameStructure a b → (n m : ℕ) (p : Path) (x : Option Path) → a.node_at p ≡ Some n → b.node_at p ≡ Some m →
    IsShown a n p x → IsShown b m p x
shown_too a b s n m p None e d u = least_too a b s n m p d u
shown_too a b s n m p (Some q) e d u = (least_too a b s n m q (s.equal p q n m e u.0.leads d) u.0, u.1)

-- lines with one path are one
one_line : (a b : Reader) → IsSameStructure a b → (x y : Line) → IsLineOf a x → IsLineOf b y → x.path ≡ y.path → x ≡ y
one_line a b s x y u v e =
    ap (λ z. record { path = z; ty = x.ty; same_as = x.same_as }) e
    ∙ ap (λ z. record { path = y.path; ty = z; same_as = x.same_as }) (u.typed ∙ s.types x.path u.node v.node u.leads there ∙ sym v.typed)
    ∙ ap (λ z. record { path = y.path; ty = y.ty; same_as = z })
    (one_shown b v.node x.path x.same_as y.same_as (shown_too a b s u.node v.node x.path x.same_as u.leads there u.shown)
    (subst (λ z. IsShown b v.node z y.same_as) (sym e) v.shown))
  where
    there : b.node_at x.path ≡ Some v.node
    there = ap b.node_at e ∙ v.leads

abbrev none : Line
none = record { path = []; ty = 0; same_as = None }

paths_size : (l : List Line) → length (paths_of l) ≡ length l
paths_size l = length-map l (λ x. x.path)

path_of_line : (l : List Line) (i : ℕ) → i < length l → path_at (paths_of l) i ≡ (slice_index_or l i none).path
path_of_line l i h = get_or-map (λ x. x.path) l i none [] h

line_of_list : (r : Reader) (l : List Line) → IsPathList r l → (i : ℕ) → i < length l → IsLineOf r (slice_index_or l i none)
line_of_list r l o i h = All-get_or (IsLineOf r) l i none h o.sound

rising_paths : (r : Reader) (l : List Line) → IsPathList r l → Rising (paths_of l)
rising_paths r l o i j h k = o.rises i j h (let e = paths_size l in omega arith)

-- the paths of the one list are in the other
all_there : (a b : Reader) (l m : List Line) → IsSameStructure a b → IsPathList a l → IsPathList b m → (i : ℕ) → i < length (paths_of l) →
    IsIn (paths_of m) (path_at (paths_of l) i)
all_there a b l m s x y i h =
    let in_l : i < length l = (let e = paths_size l in omega arith) in
    let line = line_of_list a l x i in_l in
    let n = s.there (slice_index_or l i none).path line.node line.leads in
    subst (IsIn (paths_of m)) (sym (path_of_line l i in_l))
    (y.whole (slice_index_or l i none).path n.0 n.1 (are_least_too a b s (slice_index_or l i none).path line.first_met))

pub lists_are_one : (a b : Reader) (l m : List Line) → IsSameStructure a b → IsPathList a l → IsPathList b m → l ≡ m
lists_are_one a b l m s x y = ext_get_or none l m size (λ i h. line i h)
  where
    on : (i : ℕ) → i < length (paths_of l) → IsIn (paths_of m) (path_at (paths_of l) i)
    on = all_there a b l m s x y

    over : (i : ℕ) → i < length (paths_of m) → IsIn (paths_of l) (path_at (paths_of m) i)
    over = all_there b a m l (back a b s) y x

    place : (i : ℕ) → i < length (paths_of l) → (i < length (paths_of m)) × (path_at (paths_of l) i ≡ path_at (paths_of m) i)
    place = same_place (paths_of l) (paths_of m) (rising_paths a l x) (rising_paths b m y) on over

    place_back : (i : ℕ) → i < length (paths_of m) → (i < length (paths_of l)) × (path_at (paths_of m) i ≡ path_at (paths_of l) i)
    place_back = same_place (paths_of m) (paths_of l) (rising_paths b m y) (rising_paths a l x) over on

    size : length l ≡ length m
    size =
        omega (
          arith,
          paths_size l,
          paths_size m,
          no_longer (length (paths_of l)) (length (paths_of m)) (λ i h. (place i h).0),
          no_longer (length (paths_of m)) (length (paths_of l)) (λ i h. (place_back i h).0),
        )

    line : (i : ℕ) → i < length l → slice_index_or l i none ≡ slice_index_or m i none
    line i h =
        let h' : i < length m = (let e = size in omega arith) in
        let k : i < length (paths_of l) = (let e = paths_size l in omega arith) in
        one_line a b s (slice_index_or l i none) (slice_index_or m i none) (line_of_list a l x i h) (line_of_list b m y i h')
        (sym (path_of_line l i h) ∙ (place i k).1 ∙ path_of_line m i h')
