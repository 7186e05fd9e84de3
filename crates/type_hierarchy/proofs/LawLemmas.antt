-- The laws of types.
use Rattle.std.proofs.Common.{ℕ, ◌≡◌, ◌≤◌, ◌<◌, ◌==◌, ◌&&◌, ◌||◌, ◌⊎◌, inl, inr, Bool, true, false, cond, Some, None, List, [], length, nat_lt, refl, sym, ◌∙◌, ap, subst, arith}
use Rattle.std.proofs.lemmas.Bool.{cases_lt}
use Rattle.std.proofs.lemmas.Slice.Eq.{bytes_eq-Decides}
use Rattle.type_hierarchy.specs.Table.{TypeTable, set_of, has_member, intersection, is_same, is_set_below, is_below, type_of_set, meet_of, count_of}
use Rattle.type_hierarchy.specs.Laws.{HasTypeLaws, IsOrder, IsClosed}
use Rattle.type_hierarchy.proofs.SetLemmas.{bool_cases, lt_true, lt_of, lt_false, eq_true, eq_of, and_left, and_right, and_both, or_cases, or_left, or_right, rising_below, rising_same, subset_intro, subset_elim, member_intersection, some_member, not_empty, position_some, position_at}

-- is_below by the kinds of its arguments
pub below_sets : (t : TypeTable) (a b : ℕ) → a < length t.sets → is_below t a b ≡ is_set_below t a b
below_sets t a b h = ap (λ c. cond c (is_set_below t a b) ((a == b) || is_set_below t t.string_type b)) (lt_true a (length t.sets) h)

pub below_string : (t : TypeTable) (a b : ℕ) → length t.sets ≤ a → is_below t a b ≡ ((a == b) || is_set_below t t.string_type b)
below_string t a b h = ap (λ c. cond c (is_set_below t a b) ((a == b) || is_set_below t t.string_type b)) (lt_false a (length t.sets) h)

pub set_below : (t : TypeTable) (a b : ℕ) → b < length t.sets → ((x : ℕ) → has_member (set_of t a) x ≡ true → has_member (set_of t b) x ≡ true) → is_set_below t a b ≡ true
set_below t a b h sub = and_both (nat_lt b (length t.sets)) _ (lt_true b _ h) (subset_intro _ _ sub)

pub set_below_in : (t : TypeTable) (a b : ℕ) → is_set_below t a b ≡ true → b < length t.sets
set_below_in t a b e = lt_of b _ (and_left (nat_lt b (length t.sets)) _ e)

pub set_below_members : (t : TypeTable) (a b x : ℕ) → is_set_below t a b ≡ true → has_member (set_of t a) x ≡ true → has_member (set_of t b) x ≡ true
set_below_members t a b x e m = subset_elim _ _ x (and_right (nat_lt b (length t.sets)) _ e) m

set_below_trans : (t : TypeTable) (a b c : ℕ) → is_set_below t a b ≡ true → is_set_below t b c ≡ true → is_set_below t a c ≡ true
set_below_trans t a b c e f = set_below t a c (set_below_in t b c f) (λ x m. set_below_members t b c x f (set_below_members t a b x e m))

pub below_refl : (t : TypeTable) (a : ℕ) → is_below t a a ≡ true
below_refl t a = go (cases_lt a (length t.sets))
  where
    go : (a < length t.sets) ⊎ (length t.sets ≤ a) → is_below t a a ≡ true
    go (inl h) = below_sets t a a h ∙ set_below t a a h (λ x m. m)
    go (inr h) = below_string t a a h ∙ or_left (a == a) _ (eq_true a)

pub below_trans : (t : TypeTable) (a b c : ℕ) → is_below t a b ≡ true → is_below t b c ≡ true → is_below t a c ≡ true
below_trans t a b c e f = go (cases_lt a (length t.sets))
  where
    go : (a < length t.sets) ⊎ (length t.sets ≤ a) → is_below t a c ≡ true
    go (inl h) =
        let e' : is_set_below t a b ≡ true = sym (below_sets t a b h) ∙ e in
        below_sets t a c h ∙ set_below_trans t a b c e' (sym (below_sets t b c (set_below_in t a b e')) ∙ f)
    go (inr h) = string (or_cases (a == b) _ (sym (below_string t a b h) ∙ e))
      where
        string : ((a == b) ≡ true) ⊎ (is_set_below t t.string_type b ≡ true) → is_below t a c ≡ true
        string (inl k) = subst (λ x. is_below t x c ≡ true) (sym (eq_of a b k)) f
        string (inr k) = below_string t a c h ∙ or_right (a == c) _ (set_below_trans t t.string_type b c k (sym (below_sets t b c (set_below_in t t.string_type b k)) ∙ f))

-- what is at or below a string is that string
below_a_string : (t : TypeTable) (a b : ℕ) → length t.sets ≤ b → is_below t a b ≡ true → a ≡ b
below_a_string t a b h e = go (cases_lt a (length t.sets))
  where
    go : (a < length t.sets) ⊎ (length t.sets ≤ a) → a ≡ b
    go (inl k) = let in' = set_below_in t a b (sym (below_sets t a b k) ∙ e) in absurd (omega arith)
    go (inr k) = string (or_cases (a == b) _ (sym (below_string t a b k) ∙ e))
      where
        string : ((a == b) ≡ true) ⊎ (is_set_below t t.string_type b ≡ true) → a ≡ b
        string (inl m) = eq_of a b m
        string (inr m) = let in' = set_below_in t t.string_type b m in absurd (omega arith)

pub same_sets : (t : TypeTable) (o : IsOrder t) (a b : ℕ) → a < length t.sets → b < length t.sets → set_of t a ≡ set_of t b → a ≡ b
same_sets t o a b h k e = go (cases_lt a b) (cases_lt b a)
  where
    go : (a < b) ⊎ (b ≤ a) → (b < a) ⊎ (a ≤ b) → a ≡ b
    go (inl l) _ = absurd (o.distinct a b l k e)
    go (inr l) (inl m) = absurd (o.distinct b a m h (sym e))
    go (inr l) (inr m) = omega arith

pub below_anti : (t : TypeTable) (o : IsOrder t) (a b : ℕ) → is_below t a b ≡ true → is_below t b a ≡ true → a ≡ b
below_anti t o a b e f = go (cases_lt a (length t.sets)) (cases_lt b (length t.sets))
  where
    go : (a < length t.sets) ⊎ (length t.sets ≤ a) → (b < length t.sets) ⊎ (length t.sets ≤ b) → a ≡ b
    go _ (inr k) = below_a_string t a b k e
    go (inr h) (inl k) = sym (below_a_string t b a h f)
    go (inl h) (inl k) = same_sets t o a b h k (rising_same t.written _ _ (o.rising a h) (o.rising b k) (λ x l. same x))
      where
        same : (x : ℕ) → has_member (set_of t a) x ≡ has_member (set_of t b) x
        same x = go2 (bool_cases (has_member (set_of t a) x)) (bool_cases (has_member (set_of t b) x))
          where
            there : has_member (set_of t a) x ≡ true → has_member (set_of t b) x ≡ true
            there m = set_below_members t a b x (sym (below_sets t a b h) ∙ e) m

            back : has_member (set_of t b) x ≡ true → has_member (set_of t a) x ≡ true
            back m = set_below_members t b a x (sym (below_sets t b a k) ∙ f) m

            go2 : (has_member (set_of t a) x ≡ true) ⊎ (has_member (set_of t a) x ≡ false) → (has_member (set_of t b) x ≡ true) ⊎ (has_member (set_of t b) x ≡ false) →
                has_member (set_of t a) x ≡ has_member (set_of t b) x
            go2 (inl m) _ = m ∙ sym (there m)
            go2 (inr m) (inl n) = back n ∙ sym n
            go2 (inr m) (inr n) = m ∙ sym n

below_top : (t : TypeTable) (o : IsOrder t) (a : ℕ) → is_below t a 0 ≡ true
below_top t o a = go (cases_lt a (length t.sets))
  where
    zero_in : 0 < length t.sets
    zero_in = omega (arith, o.at_least_top, o.written_first)

    under : (b : ℕ) → b < length t.sets → is_set_below t b 0 ≡ true
    under b h = set_below t b 0 zero_in (λ x m. o.top_has_all x (rising_below t.written _ x (o.rising b h) m))

    go : (a < length t.sets) ⊎ (length t.sets ≤ a) → is_below t a 0 ≡ true
    go (inl h) = below_sets t a 0 h ∙ under a h
    go (inr h) = below_string t a 0 h ∙ or_right (a == 0) _ (under t.string_type (omega (arith, o.string_in, o.written_first)))

-- meets by the kinds of their arguments
pub meet_sets : (t : TypeTable) (a b : ℕ) → a < length t.sets → b < length t.sets → meet_of t a b ≡ type_of_set t (intersection (set_of t a) (set_of t b))
meet_sets t a b h k = ap (λ c. cond c (type_of_set t (intersection (set_of t a) (set_of t b))) (cond (is_below t a b) (Some a) (cond (is_below t b a) (Some b) None)))
    (and_both (nat_lt a (length t.sets)) _ (lt_true a _ h) (lt_true b _ k))

pub meet_string : (t : TypeTable) (a b : ℕ) → (length t.sets ≤ a) ⊎ (length t.sets ≤ b) → meet_of t a b ≡ cond (is_below t a b) (Some a) (cond (is_below t b a) (Some b) None)
meet_string t a b h = ap (λ c. cond c (type_of_set t (intersection (set_of t a) (set_of t b))) (cond (is_below t a b) (Some a) (cond (is_below t b a) (Some b) None))) (go h)
  where
    either : (p q : Bool) → (p ≡ false) ⊎ (q ≡ false) → (p && q) ≡ false
    either true q (inl e) = cc
    either false q _ = refl
    either true q (inr e) = e

    go : (length t.sets ≤ a) ⊎ (length t.sets ≤ b) → (nat_lt a (length t.sets) && nat_lt b (length t.sets)) ≡ false
    go (inl l) = either _ _ (inl (lt_false a _ l))
    go (inr l) = either _ _ (inr (lt_false b _ l))

kinds : (t : TypeTable) (a b : ℕ) → ((a < length t.sets) × (b < length t.sets)) ⊎ ((length t.sets ≤ a) ⊎ (length t.sets ≤ b))
kinds t a b = go (cases_lt a (length t.sets)) (cases_lt b (length t.sets))
  where
    go : (a < length t.sets) ⊎ (length t.sets ≤ a) → (b < length t.sets) ⊎ (length t.sets ≤ b) → ((a < length t.sets) × (b < length t.sets)) ⊎ ((length t.sets ≤ a) ⊎ (length t.sets ≤ b))
    go (inl h) (inl k) = inl (h, k)
    go (inr h) _ = inr (inl h)
    go (inl h) (inr k) = inr (inr k)

some_same : (m n : ℕ) → Some m ≡ Some n → m ≡ n
some_same m n e = cc

-- a type found for a set stands for it
pub found_set : (t : TypeTable) (xs : List ℕ) (m : ℕ) → type_of_set t xs ≡ Some m → (m < length t.sets) × (set_of t m ≡ xs)
found_set t xs m e =
    let f = position_some (is_same xs) t.sets m [] e in
    (f.0, sym ((bytes_eq-Decides xs (set_of t m)).0 f.1))

string_meet : (t : TypeTable) (a b m : ℕ) (p q : Bool) → is_below t a b ≡ p → is_below t b a ≡ q → cond p (Some a) (cond q (Some b) None) ≡ Some m →
    ((m ≡ a) × (is_below t a b ≡ true)) ⊎ ((m ≡ b) × (is_below t b a ≡ true))
string_meet t a b m true q e f k = inl (sym (some_same a m k), e)
string_meet t a b m false true e f k = inr (sym (some_same b m k), f)
string_meet t a b m false false e f k = cc

meet_in : (t : TypeTable) (o : IsOrder t) (a b m : ℕ) → a < count_of t → b < count_of t → meet_of t a b ≡ Some m → m < count_of t
meet_in t o a b m in_a in_b e = go (kinds t a b)
  where
    go : ((a < length t.sets) × (b < length t.sets)) ⊎ ((length t.sets ≤ a) ⊎ (length t.sets ≤ b)) → m < count_of t
    go (inl h) = let f = found_set t _ m (sym (meet_sets t a b h.0 h.1) ∙ e) in omega (arith, f.0, o.named)
    go (inr h) = string (string_meet t a b m _ _ refl refl (sym (meet_string t a b h) ∙ e))
      where
        string : ((m ≡ a) × (is_below t a b ≡ true)) ⊎ ((m ≡ b) × (is_below t b a ≡ true)) → m < count_of t
        string (inl k) = subst (λ x. x < count_of t) (sym k.0) in_a
        string (inr k) = subst (λ x. x < count_of t) (sym k.0) in_b

meet_under : (t : TypeTable) (o : IsOrder t) (a b m : ℕ) → meet_of t a b ≡ Some m → (is_below t m a ≡ true) × (is_below t m b ≡ true)
meet_under t o a b m e = go (kinds t a b)
  where
    go : ((a < length t.sets) × (b < length t.sets)) ⊎ ((length t.sets ≤ a) ⊎ (length t.sets ≤ b)) → (is_below t m a ≡ true) × (is_below t m b ≡ true)
    go (inl h) =
        let f = found_set t _ m (sym (meet_sets t a b h.0 h.1) ∙ e) in
        let both = λ (x : ℕ) (k : has_member (set_of t m) x ≡ true). sym (member_intersection (set_of t a) (set_of t b) x) ∙ subst (λ l. has_member l x ≡ true) f.1 k in (
          below_sets t m a f.0 ∙ set_below t m a h.0 (λ x k. and_right _ _ (both x k)),
          below_sets t m b f.0 ∙ set_below t m b h.1 (λ x k. and_left _ _ (both x k)),
        )
    go (inr h) = string (string_meet t a b m _ _ refl refl (sym (meet_string t a b h) ∙ e))
      where
        string : ((m ≡ a) × (is_below t a b ≡ true)) ⊎ ((m ≡ b) × (is_below t b a ≡ true)) → (is_below t m a ≡ true) × (is_below t m b ≡ true)
        string (inl k) = (subst (λ x. is_below t x a ≡ true) (sym k.0) (below_refl t a), subst (λ x. is_below t x b ≡ true) (sym k.0) k.1)
        string (inr k) = (subst (λ x. is_below t x a ≡ true) (sym k.0) k.1, subst (λ x. is_below t x b ≡ true) (sym k.0) (below_refl t b))

-- two sets with a common subset have a meet above it
sets_meet : (t : TypeTable) (o : IsOrder t) (c : IsClosed t) (a b v : ℕ) → a < length t.sets → b < length t.sets → v < length t.sets →
    is_set_below t v a ≡ true → is_set_below t v b ≡ true → (m : ℕ) × (meet_of t a b ≡ Some m) × (is_set_below t v m ≡ true)
sets_meet t o c a b v h k l e f =
    let both = λ (x : ℕ) (m : has_member (set_of t v) x ≡ true). member_intersection (set_of t a) (set_of t b) x ∙ and_both _ _ (set_below_members t v b x f m) (set_below_members t v a x e m) in
    let one = some_member (set_of t v) (o.nonempty v l) in
    let at = c a b h k (not_empty _ one.0 (both one.0 one.1)) in
    let found = position_at (is_same (intersection (set_of t a) (set_of t b))) t.sets at.0 [] at.1 ((bytes_eq-Decides (intersection (set_of t a) (set_of t b)) (set_of t at.0)).1 (sym at.2)) in
    let is = found_set t (intersection (set_of t a) (set_of t b)) found.0 found.1 in
    (found.0, meet_sets t a b h k ∙ found.1, set_below t v found.0 is.0 (λ x m. subst (λ y. has_member y x ≡ true) (sym is.1) (both x m)))

meet_above : (t : TypeTable) (o : IsOrder t) (c : IsClosed t) (a b v : ℕ) → is_below t v a ≡ true → is_below t v b ≡ true → (m : ℕ) × (meet_of t a b ≡ Some m) × (is_below t v m ≡ true)
meet_above t o c a b v e f = go (kinds t a b)
  where
    go : ((a < length t.sets) × (b < length t.sets)) ⊎ ((length t.sets ≤ a) ⊎ (length t.sets ≤ b)) → (m : ℕ) × (meet_of t a b ≡ Some m) × (is_below t v m ≡ true)
    go (inl h) = kind (cases_lt v (length t.sets))
      where
        kind : (v < length t.sets) ⊎ (length t.sets ≤ v) → (m : ℕ) × (meet_of t a b ≡ Some m) × (is_below t v m ≡ true)
        kind (inl l) =
            let r = sets_meet t o c a b v h.0 h.1 l (sym (below_sets t v a l) ∙ e) (sym (below_sets t v b l) ∙ f) in
            (r.0, r.1, below_sets t v r.0 l ∙ r.2)
        kind (inr l) =
            let s_in : t.string_type < length t.sets = omega (arith, o.string_in, o.written_first) in
            let under = λ (y : ℕ) (y_in : y < length t.sets) (k : is_below t v y ≡ true). of y y_in (or_cases (v == y) _ (sym (below_string t v y l) ∙ k)) in
            let r = sets_meet t o c a b t.string_type h.0 h.1 s_in (under a h.0 e) (under b h.1 f) in
            (r.0, r.1, below_string t v r.0 l ∙ or_right (v == r.0) _ r.2)
          where
            of : (y : ℕ) → y < length t.sets → ((v == y) ≡ true) ⊎ (is_set_below t t.string_type y ≡ true) → is_set_below t t.string_type y ≡ true
            of y y_in (inl k) = let same = eq_of v y k in absurd (omega arith)
            of y y_in (inr k) = k
    go (inr (inl h)) =
        let same = below_a_string t v a h e in
        (a, meet_string t a b (inl h) ∙ ap (λ p. cond p (Some a) (cond (is_below t b a) (Some b) None)) (subst (λ x. is_below t x b ≡ true) same f), e)
    go (inr (inr h)) = pick (bool_cases (is_below t a b))
      where
        same : v ≡ b
        same = below_a_string t v b h f

        pick : (is_below t a b ≡ true) ⊎ (is_below t a b ≡ false) → (m : ℕ) × (meet_of t a b ≡ Some m) × (is_below t v m ≡ true)
        pick (inl k) = (a, meet_string t a b (inr h) ∙ ap (λ p. cond p (Some a) (cond (is_below t b a) (Some b) None)) k, e)
        pick (inr k) = (
          b,
          meet_string t a b (inr h) ∙ ap (λ p. cond p (Some a) (cond (is_below t b a) (Some b) None)) k
              ∙ ap (λ p. cond p (Some b) None) (subst (λ x. is_below t x a ≡ true) same e),
          f,
        )

meet_highest : (t : TypeTable) (o : IsOrder t) (c : IsClosed t) (a b m v : ℕ) → meet_of t a b ≡ Some m → is_below t v a ≡ true → is_below t v b ≡ true → is_below t v m ≡ true
meet_highest t o c a b m v e f g =
    let r = meet_above t o c a b v f g in
    subst (λ x. is_below t v x ≡ true) (some_same r.0 m (sym r.1 ∙ e)) r.2

pub type_laws : (t : TypeTable) → IsOrder t → IsClosed t → HasTypeLaws t
type_laws t o c = record {
  reflexive = λ a. below_refl t a;
  transitive = λ a b d e f. below_trans t a b d e f;
  antisymmetric = λ a b e f. below_anti t o a b e f;
  below_top = λ a. below_top t o a;
  meet_in = λ a b m h k e. meet_in t o a b m h k e;
  meet_below = λ a b m e. meet_under t o a b m e;
  meet_greatest = λ a b m v e f g. meet_highest t o c a b m v e f g;
  meet_exists = λ a b v e f. let r = meet_above t o c a b v e f in (r.0, r.1);
}
