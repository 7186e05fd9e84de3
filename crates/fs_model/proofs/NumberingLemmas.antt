-- Two tables numbered by their least paths, with one map of paths, are equal.
use Rattle.std.proofs.Common.{ℕ, zero, suc, ◌≡◌, ◌≤◌, ◌<◌, ◌⊎◌, inl, inr, Option, Some, None, [], ◌∷◌, ◌++◌, refl, sym, ◌∙◌, ap, subst, arith}
use Rattle.std.proofs.lemmas.Bool.{cases_lt}
use Rattle.fs_model.specs.Claims.{Path}
use Rattle.fs_model.specs.Table.{Table, walk}
use Rattle.fs_model.specs.Sources.{IsSameStructure}
use Rattle.fs_model.specs.Numbering.{IsBefore, shorter, smaller, further, seen, IsNumbered, IsSameTable}
use Rattle.fs_model.proofs.TableLemmas.{walk-append, walk_ends, walk-step}

pub IsBefore-trans : {p q r : Path} → IsBefore p q → IsBefore q r → IsBefore p r
IsBefore-trans shorter (smaller _) = shorter
IsBefore-trans shorter (further _) = shorter
IsBefore-trans (smaller a) (smaller b) = smaller (omega arith)
IsBefore-trans (smaller a) (further _) = smaller a
IsBefore-trans (further _) (smaller b) = smaller b
IsBefore-trans (further a) (further b) = further (IsBefore-trans a b)

pub IsBefore-differs : {p q : Path} → IsBefore p q → p ≡ q → ⊥
IsBefore-differs shorter e = cc
IsBefore-differs (smaller {f = f} {g = g} a) e = let h : f ≡ g = cc in omega arith
IsBefore-differs (further {p = p} {q = q} a) e = IsBefore-differs a (let h : p ≡ q = cc in h)

pub IsBefore-itself : (p : Path) → IsBefore p p → ⊥
IsBefore-itself p a = IsBefore-differs a refl

-- two numbers with one path in a rising list are one
pub rises_once : (a : ℕ → Path) (n : ℕ) → ((i j : ℕ) → i < j → j < n → IsBefore (a i) (a j)) → (i j : ℕ) → i < n → j < n →
    a i ≡ a j → i ≡ j
rises_once a n rises i j h k e = go (cases_lt i j) (cases_lt j i)
  where
    go : (i < j) ⊎ (j ≤ i) → (j < i) ⊎ (i ≤ j) → i ≡ j
    go (inl x) _ = absurd (IsBefore-itself _ (subst (λ z. IsBefore z (a j)) e (rises i j x k)))
    go (inr x) (inl y) = absurd (IsBefore-itself _ (subst (λ z. IsBefore z (a i)) (sym e) (rises j i y h)))
    go (inr x) (inr y) = omega arith

-- a map between two rising lists falls below no number
module _ (a b : ℕ → Path) (n m : ℕ) (rises : (i j : ℕ) → i < j → j < n → IsBefore (a i) (a j))
    (rises' : (i j : ℕ) → i < j → j < m → IsBefore (b i) (b j)) (to : (i : ℕ) → i < n → ℕ) (to_in : (i : ℕ) (h : i < n) → to i h < m)
    (same : (i : ℕ) (h : i < n) → a i ≡ b (to i h)) where
  pub rank_rises : (i j : ℕ) (hi : i < n) (hj : j < n) → i < j → to i hi < to j hj
  rank_rises i j hi hj h = go (cases_lt (to i hi) (to j hj)) (cases_lt (to j hj) (to i hi))
    where
      up : IsBefore (b (to i hi)) (b (to j hj))
      up = subst (λ x. IsBefore x (b (to j hj))) (same i hi) (subst (IsBefore (a i)) (same j hj) (rises i j h hj))

      go : (to i hi < to j hj) ⊎ (to j hj ≤ to i hi) → (to j hj < to i hi) ⊎ (to i hi ≤ to j hj) → to i hi < to j hj
      go (inl x) _ = x
      go (inr x) (inl y) = absurd (IsBefore-itself _ (IsBefore-trans up (rises' (to j hj) (to i hi) y (to_in i hi))))
      go (inr x) (inr y) =
          let e : to i hi ≡ to j hj = omega arith in absurd (IsBefore-itself _ (subst (λ z. IsBefore (b z) (b (to j hj))) e up))

  pub rank_least : (i : ℕ) (h : i < n) → i ≤ to i h
  rank_least zero h = omega arith
  rank_least (suc i) h =
      let h' : i < n = omega arith in
      omega (arith, rank_least i h', rank_rises i (suc i) h' h (omega arith))

-- one direction: the least path of a node is the least path of a node of the other table
module _ (t u : Table) (a b : ℕ → Path) (nt : IsNumbered t a) (nu : IsNumbered u b) (s : IsSameStructure (seen t) (seen u)) where
  pub to : (i : ℕ) → i < t.size → (j : ℕ) × (walk u 0 (a i) ≡ Some j)
  to i h = s.there (a i) i ((nt.is_least i h).leads)

  pub least_same : (i j : ℕ) → i < t.size → walk u 0 (a i) ≡ Some j → (j < u.size) × (a i ≡ b j)
  least_same i j h e = (j_in, go ((nu.is_least j j_in).least (a i) e))
    where
      j_in : j < u.size
      j_in = (walk_ends u nu.table 0 j (a i) nu.filled e).0

      back : walk t 0 (b j) ≡ Some i
      back = s.equal_back (a i) (b j) j i e ((nu.is_least j j_in).leads) ((nt.is_least i h).leads)

      go : (b j ≡ a i) ⊎ IsBefore (b j) (a i) → a i ≡ b j
      go (inl x) = sym x
      go (inr x) = other ((nt.is_least i h).least (b j) back)
        where
          other : (a i ≡ b j) ⊎ IsBefore (a i) (b j) → a i ≡ b j
          other (inl y) = y
          other (inr y) = absurd (IsBefore-itself _ (IsBefore-trans x y))

pub back_map : (t u : Table) → IsSameStructure (seen t) (seen u) → IsSameStructure (seen u) (seen t)
back_map t u s = record {
  there = s.there_back;
  there_back = s.there;
  equal = λ p q n m. s.equal_back p q n m;
  equal_back = λ p q n m. s.equal p q n m;
  types = λ p n m x y. sym (s.types p m n y x);
}

-- the node of a path has one number in both tables
pub same_number : (t u : Table) (a b : ℕ → Path) → IsNumbered t a → IsNumbered u b → IsSameStructure (seen t) (seen u) → (i : ℕ) → i < t.size →
    (i < u.size) × (walk u 0 (a i) ≡ Some i)
same_number t u a b nt nu s i h =
    (subst (λ x. x < u.size) equal j_in, subst (λ x. walk u 0 (a i) ≡ Some x) equal walk_j)
  where
    f : (k : ℕ) → k < t.size → ℕ
    f k x = (to t u a b nt nu s k x).0

    g : (k : ℕ) → k < u.size → ℕ
    g k x = (to u t b a nu nt (back_map t u s) k x).0

    f_in : (k : ℕ) (x : k < t.size) → f k x < u.size
    f_in k x = (least_same t u a b nt nu s k (f k x) x (to t u a b nt nu s k x).1).0

    g_in : (k : ℕ) (x : k < u.size) → g k x < t.size
    g_in k x = (least_same u t b a nu nt (back_map t u s) k (g k x) x (to u t b a nu nt (back_map t u s) k x).1).0

    f_same : (k : ℕ) (x : k < t.size) → a k ≡ b (f k x)
    f_same k x = (least_same t u a b nt nu s k (f k x) x (to t u a b nt nu s k x).1).1

    g_same : (k : ℕ) (x : k < u.size) → b k ≡ a (g k x)
    g_same k x = (least_same u t b a nu nt (back_map t u s) k (g k x) x (to u t b a nu nt (back_map t u s) k x).1).1

    walk_j : walk u 0 (a i) ≡ Some (f i h)
    walk_j = (to t u a b nt nu s i h).1

    j_in : f i h < u.size
    j_in = f_in i h

    there_and_back : i ≡ g (f i h) j_in
    there_and_back = rises_once a t.size nt.rises i (g (f i h) j_in) h (g_in (f i h) j_in) (f_same i h ∙ g_same (f i h) j_in)

    equal : f i h ≡ i
    equal =
        omega (
          arith,
          there_and_back,
          rank_least a b t.size u.size nt.rises nu.rises f f_in f_same i h,
          rank_least b a u.size t.size nu.rises nt.rises g g_in g_same (f i h) j_in,
        )

-- every walk ends at one number in both tables
pub same_walk : (t u : Table) (a b : ℕ → Path) → IsNumbered t a → IsNumbered u b → IsSameStructure (seen t) (seen u) → (p : Path) (n : ℕ) →
    walk t 0 p ≡ Some n → walk u 0 p ≡ Some n
same_walk t u a b nt nu s p n e =
    let in_table = (walk_ends t nt.table 0 n p nt.filled e).0 in
    s.equal (a n) p n n ((nt.is_least n in_table).leads) e (same_number t u a b nt nu s n in_table).1

pub same_size : (t u : Table) (a b : ℕ → Path) → IsNumbered t a → IsNumbered u b → IsSameStructure (seen t) (seen u) → t.size ≡ u.size
same_size t u a b nt nu s = omega (arith, le t u a b nt nu s, le u t b a nu nt (back_map t u s))
  where
    le : (t u : Table) (a b : ℕ → Path) → IsNumbered t a → IsNumbered u b → IsSameStructure (seen t) (seen u) → t.size ≤ u.size
    le t u a b nt nu s = go t.size refl
      where
        go : (k : ℕ) → t.size ≡ k → t.size ≤ u.size
        go zero e = omega arith
        go (suc k) e = let x : k < t.size = omega arith in omega (arith, (same_number t u a b nt nu s k x).0)

pub same_type : (t u : Table) (a b : ℕ → Path) → IsNumbered t a → IsNumbered u b → IsSameStructure (seen t) (seen u) → (n : ℕ) → n < t.size →
    t.type_of n ≡ u.type_of n
same_type t u a b nt nu s n h = s.types (a n) n n ((nt.is_least n h).leads) (same_number t u a b nt nu s n h).1

pub same_arc : (t u : Table) (a b : ℕ → Path) → IsNumbered t a → IsNumbered u b → IsSameStructure (seen t) (seen u) → (n f m : ℕ) → n < t.size →
    t.arc n f ≡ Some m → u.arc n f ≡ Some m
same_arc t u a b nt nu s n f m h e =
    let number = same_number t u a b nt nu s n h in
    let one : walk t n (f ∷ []) ≡ Some m = walk-step t n m f [] (ap (λ x. t.arc x f) (nt.live_is n) ∙ e) ∙ ap Some (nt.live_is m) in
    let long : walk t 0 (a n ++ f ∷ []) ≡ Some m = walk-append t nt.table 0 n (a n) (f ∷ []) ((nt.is_least n h).leads) ∙ one in
    let other : walk u n (f ∷ []) ≡ Some m =
    sym (walk-append u nu.table 0 n (a n) (f ∷ []) number.1) ∙ same_walk t u a b nt nu s (a n ++ f ∷ []) m long in
    go (u.arc n f) refl other
  where
    go : (o : Option ℕ) → u.arc n f ≡ o → walk u n (f ∷ []) ≡ Some m → u.arc n f ≡ Some m
    go None is w =
        let stops : None ≡ walk u n (f ∷ []) =
        ap (λ o. elim o as (λ _. Option ℕ) [ None ↦ None | Some i ↦ walk u i [] ]) (sym (ap (λ x. u.arc x f) (nu.live_is n) ∙ is)) in
        absurd cc
    go (Some k) is w =
        let x : walk u n (f ∷ []) ≡ Some k = walk-step u n k f [] (ap (λ y. u.arc y f) (nu.live_is n) ∙ is) ∙ ap Some (nu.live_is k) in
        cc

-- one structure has one numbered table
pub numbers_are_one : (t u : Table) (a b : ℕ → Path) → IsNumbered t a → IsNumbered u b → IsSameStructure (seen t) (seen u) → IsSameTable t u
numbers_are_one t u a b nt nu s = record {
  size = same_size t u a b nt nu s;
  types = same_type t u a b nt nu s;
  arcs = λ n f h. arcs n f h (t.arc n f) (u.arc n f) refl refl;
}
  where
    arcs : (n f : ℕ) → n < t.size → (o r : Option ℕ) → t.arc n f ≡ o → u.arc n f ≡ r → t.arc n f ≡ u.arc n f
    arcs n f h (Some m) r e d = e ∙ sym (same_arc t u a b nt nu s n f m h e)
    arcs n f h None None e d = e ∙ sym d
    arcs n f h None (Some m) e d =
        let in_u : n < u.size = omega (arith, same_size t u a b nt nu s) in
        let back : t.arc n f ≡ Some m = same_arc u t b a nu nt (back_map t u s) n f m in_u d in
        absurd cc
