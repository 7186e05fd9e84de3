-- Rows of bits and the order.
use Rattle.std.proofs.Common.{ℕ, ◌≡◌, ◌≢◌, ◌≤◌, ◌<◌, ◌+◌, ◌*◌, ◌/◌, ◌%◌, ◌^◌, ◌==◌, ◌||◌, ◌⊎◌, inl, inr, Bool, true, false, List, [], ◌∷◌, ◌++◌, length, take, drop, slice_index, slice_index_or, slice_set, replicate, Vec, All, refl, sym, ◌∙◌, ap, subst, arith, lit<}
use Rattle.std.specs.Global.{Global}
use Rattle.std.specs.Int.{bit_at}
use Rattle.std.proofs.lemmas.Nat.Bits.{bit_at-zero}
use Rattle.std.proofs.lemmas.Bool.{cases_lt}
use Rattle.std.proofs.lemmas.List.{length-set, length-append, get_or-set_same, get_or-set_other, get_or-map, get_or_past, get_or_default, get_or-replicate, length-replicate, take_all, drop_all, append-nil, take_more, get_or_append_left, get_or_push, map-append}
use Rattle.std.proofs.lemmas.List.Folds.{list_any-append}
use Rattle.type_hierarchy.specs.Bits.{has_bit, IsRow}
use Rattle.type_hierarchy.specs.Inner.Reach.{lists, IsReach}
use Rattle.std.proofs.Common.{◌↔◌}
use Rattle.type_hierarchy.specs.Inner.Rows.{AreRows, row_at, Marks}
use Rattle.type_hierarchy.specs.Order.{IsAtOrBelow, itself, above_parent, IsBelow}
use Rattle.type_hierarchy.specs.Table.{has_member}
use Rattle.type_hierarchy.proofs.SetLemmas.{differ, bool_cases, eq_true, eq_of, or_cases, or_left, or_right}

-- a Vec after its whole slice was written
pub written_back : (v : Vec ℕ Global) (w : List ℕ) → length w ≡ length v.items → take v.len (w ++ drop (length w) v.items) ≡ w
written_back v w h =
    ap (take v.len) (ap (λ l. w ++ l) (drop_all (length w) v.items (omega arith)) ∙ append-nil w) ∙ take_all v.len w (omega (arith, v.ok, h))

-- rows of zeros
pub no_bits : (xs : List ℕ) (n : ℕ) → xs ≡ replicate n 0 → (x : ℕ) → has_bit xs x ≡ false
no_bits xs n e x = ap (λ w. bit_at w (x % 64) == 1) (at_zero (cases_lt (x / 64) n)) ∙ ap (λ w. w == 1) (bit_at-zero (x % 64))
  where
    at_zero : (x / 64 < n) ⊎ (n ≤ x / 64) → slice_index xs (x / 64) ≡ 0
    at_zero (inl h) = ap (λ l. slice_index l (x / 64)) e ∙ get_or-replicate n (x / 64) 0 0 h
    at_zero (inr h) = ap (λ l. slice_index l (x / 64)) e ∙ get_or_past (replicate n 0) (x / 64) 0 (omega (arith, length-replicate {A = ℕ} n 0))

pub zero_row : (xs : List ℕ) (n count : ℕ) → xs ≡ replicate n 0 → count ≤ 64 * n → 64 * n < count + 64 → IsRow count xs
zero_row xs n count e h k = record {
  enough = omega (arith, len, h);
  spare = omega (arith, len, k);
  words_fit = λ i d l. subst (λ w. w < 2 ^ 64) (sym (ap (λ zs. slice_index_or zs i d) e ∙ get_or-replicate n i 0 d (omega (arith, len, l)))) (lit< tt);
  none_past = λ x _. no_bits xs n e x;
}
  where
    len : length xs ≡ n
    len = ap length e ∙ length-replicate {A = ℕ} n 0

-- one more member
pub member_more : (row new : List ℕ) (ms : List ℕ) (i x : ℕ) → i < length ms → slice_index_or ms i 0 ≡ x → ((y : ℕ) → has_bit row y ≡ has_member (take i ms) y) →
    has_bit new x ≡ (has_bit row x || true) → ((y : ℕ) → y ≢ x → has_bit new y ≡ has_bit row y) → (y : ℕ) → has_bit new y ≡ has_member (take (i + 1) ms) y
member_more row new ms i x h at old has others y = go (bool_cases (x == y)) ∙ sym grown
  where
    grown : has_member (take (i + 1) ms) y ≡ (has_member (take i ms) y || ((x == y) || false))
    grown = ap (λ l. has_member l y) (take_more ms i 0 h) ∙ list_any-append (λ z. z == y) (take i ms) (slice_index_or ms i 0 ∷ []) ∙ ap (λ z. has_member (take i ms) y || ((z == y) || false)) at

    or_true : (b : Bool) → (b || true) ≡ true
    or_true true = refl
    or_true false = refl

    or_false : (b : Bool) → (b || false) ≡ b
    or_false true = refl
    or_false false = refl

    go : ((x == y) ≡ true) ⊎ ((x == y) ≡ false) → has_bit new y ≡ (has_member (take i ms) y || ((x == y) || false))
    go (inl e) = rw e (subst (λ z. has_bit new z ≡ true) (same e) (has ∙ or_true (has_bit row x)) ∙ sym (or_true (has_member (take i ms) y)))
      where
        same : (x == y) ≡ true → x ≡ y
        same k = eq_of x y k
    go (inr e) = rw e (others y (λ k. differ _ (ap (λ z. x == z) k ∙ eq_true x) e) ∙ old y ∙ sym (or_false (has_member (take i ms) y)))

-- a step through the rows
pub record Spreading (first rows : List (Vec ℕ Global)) (marks : List Bool) (t b : ℕ) : Type 0 where
  pub rows_are : AreRows rows
  pub size : length rows ≡ length first
  pub others : (k : ℕ) → k < length first → (x : ℕ) → x ≢ t → has_bit (row_at (lists rows) k) x ≡ has_bit (row_at (lists first) k) x
  pub done : (k : ℕ) → k < b → k < length first → has_bit (row_at (lists rows) k) t ≡ (has_bit (row_at (lists first) k) t || (slice_index_or marks k false || (k == t)))
  pub rest : (k : ℕ) → b ≤ k → k < length first → has_bit (row_at (lists rows) k) t ≡ has_bit (row_at (lists first) k) t

pub row_is : (rows : List (Vec ℕ Global)) (k : ℕ) (v : Vec ℕ Global) → k < length rows → v ≡ slice_index_or rows k v → row_at (lists rows) k ≡ v.items
row_is rows k v h e = get_or-map (λ r. r.items) rows k v [] h ∙ ap (λ r. r.items) (sym e)

pub spread_more : (first rows new : List (Vec ℕ Global)) (marks : List Bool) (t b : ℕ) (old row : Vec ℕ Global) → Spreading first rows marks t b → b < length rows → t < length rows →
    old ≡ slice_index_or rows b old → new ≡ slice_set rows b row →
    has_bit row.items t ≡ (has_bit old.items t || (slice_index_or marks b false || (b == t))) →
    ((y : ℕ) → y ≢ t → has_bit row.items y ≡ has_bit old.items y) →
    ((n : ℕ) → t < n → IsRow n old.items → IsRow n row.items) → Spreading first new marks t (b + 1)
spread_more first rows new marks t b old row s h t_in is set has others keeps = record {
  rows_are = λ k d l. rows_at k d l (split k);
  size = len ∙ s.size;
  others = λ k l x ne. others_at k l x ne (split k);
  done = λ k l l'. done_at k l l' (split k);
  rest = λ k l l'. rest_at k l l' (split k);
}
  where
    len : length new ≡ length rows
    len = ap length set ∙ length-set rows b row

    split : (k : ℕ) → (k ≡ b) ⊎ (k ≢ b)
    split k = go (cases_lt k b) (cases_lt b k)
      where
        go : (k < b) ⊎ (b ≤ k) → (b < k) ⊎ (k ≤ b) → (k ≡ b) ⊎ (k ≢ b)
        go (inl l) _ = inr (λ e. omega arith)
        go (inr l) (inl m) = inr (λ e. omega arith)
        go (inr l) (inr m) = inl (omega arith)

    here : (d : Vec ℕ Global) → slice_index_or new b d ≡ row
    here d = ap (λ l. slice_index_or l b d) set ∙ get_or-set_same rows b row d h

    apart : (k : ℕ) (d : Vec ℕ Global) → k ≢ b → slice_index_or new k d ≡ slice_index_or rows k d
    apart k d ne = ap (λ l. slice_index_or l k d) set ∙ get_or-set_other rows b k row d ne

    row_here : row_at (lists new) b ≡ row.items
    row_here = get_or-map (λ r. r.items) new b old [] (omega (arith, len, h)) ∙ ap (λ r. r.items) (here old)

    row_old : row_at (lists rows) b ≡ old.items
    row_old = row_is rows b old h is

    row_apart : (k : ℕ) → k < length first → k ≢ b → row_at (lists new) k ≡ row_at (lists rows) k
    row_apart k l ne = get_or-map (λ r. r.items) new k old [] (omega (arith, len, s.size, l)) ∙ ap (λ r. r.items) (apart k old ne)
        ∙ sym (get_or-map (λ r. r.items) rows k old [] (omega (arith, s.size, l)))

    old_row : IsRow (length rows) old.items
    old_row = subst (λ v. IsRow (length rows) v.items) (sym is) (s.rows_are b old h)

    rows_at : (k : ℕ) (d : Vec ℕ Global) → k < length new → (k ≡ b) ⊎ (k ≢ b) → IsRow (length new) (slice_index_or new k d).items
    rows_at k d l (inl e) = subst (λ n. IsRow n (slice_index_or new k d).items) (sym len)
        (subst (λ v. IsRow (length rows) v.items) (sym (ap (λ j. slice_index_or new j d) e ∙ here d)) (keeps (length rows) t_in old_row))
    rows_at k d l (inr ne) = subst (λ n. IsRow n (slice_index_or new k d).items) (sym len)
        (subst (λ v. IsRow (length rows) v.items) (sym (apart k d ne)) (s.rows_are k d (omega (arith, len, l))))

    others_at : (k : ℕ) → k < length first → (x : ℕ) → x ≢ t → (k ≡ b) ⊎ (k ≢ b) → has_bit (row_at (lists new) k) x ≡ has_bit (row_at (lists first) k) x
    others_at k l x ne (inr a) = ap (λ w. has_bit w x) (row_apart k l a) ∙ s.others k l x ne
    others_at k l x ne (inl e) = ap (λ j. has_bit (row_at (lists new) j) x) e ∙ ap (λ w. has_bit w x) row_here ∙ others x ne ∙ ap (λ w. has_bit w x) (sym row_old)
        ∙ ap (λ j. has_bit (row_at (lists rows) j) x) (sym e) ∙ s.others k l x ne

    done_at : (k : ℕ) → k < b + 1 → k < length first → (k ≡ b) ⊎ (k ≢ b) → has_bit (row_at (lists new) k) t ≡ (has_bit (row_at (lists first) k) t || (slice_index_or marks k false || (k == t)))
    done_at k l l' (inr a) = ap (λ w. has_bit w t) (row_apart k l' a) ∙ s.done k (below_b a) l'
      where
        below_b : k ≢ b → k < b
        below_b ne = go (cases_lt k b)
          where
            go : (k < b) ⊎ (b ≤ k) → k < b
            go (inl m) = m
            go (inr m) = absurd (ne (omega arith))
    done_at k l l' (inl e) =
        ap (λ j. has_bit (row_at (lists new) j) t) e ∙ ap (λ w. has_bit w t) row_here ∙ has
        ∙ ap (λ p. p || (slice_index_or marks b false || (b == t))) (ap (λ w. has_bit w t) (sym row_old) ∙ s.rest b (omega arith) (subst (λ j. j < length first) e l'))
        ∙ ap (λ j. has_bit (row_at (lists first) j) t || (slice_index_or marks j false || (j == t))) (sym e)

    rest_at : (k : ℕ) → b + 1 ≤ k → k < length first → (k ≡ b) ⊎ (k ≢ b) → has_bit (row_at (lists new) k) t ≡ has_bit (row_at (lists first) k) t
    rest_at k l l' (inl e) = absurd (omega arith)
    rest_at k l l' (inr a) = ap (λ w. has_bit w t) (row_apart k l' a) ∙ s.rest k (omega arith) l'

-- rows that are pushed
pub push_all : {X : Type 0} (P : X → Type 0) (xs new : List X) (x : X) → All P xs → P x → new ≡ xs ++ x ∷ [] → All P new
push_all P xs new x all one is k d h = go (cases_lt k (length xs))
  where
    go : (k < length xs) ⊎ (length xs ≤ k) → P (slice_index_or new k d)
    go (inl l) = subst P (sym (ap (λ l. slice_index_or l k d) is ∙ get_or_append_left xs (x ∷ []) d k l)) (all k d l)
    go (inr l) = subst P (sym (ap (λ l. slice_index_or l k d) is ∙ get_or_push xs x d k (omega (arith, ap length is, length-append xs (x ∷ []), h)))) one

pub push_empty : (rows new : List (Vec ℕ Global)) (v : Vec ℕ Global) → ((b : ℕ) → b < length (lists rows) → (x : ℕ) → has_bit (row_at (lists rows) b) x ≡ false) →
    ((x : ℕ) → has_bit v.items x ≡ false) → new ≡ rows ++ v ∷ [] → (b : ℕ) → b < length (lists new) → (x : ℕ) → has_bit (row_at (lists new) b) x ≡ false
push_empty rows new v old one is b h x =
    push_all (λ r. has_bit r x ≡ false) (lists rows) (lists new) v.items (λ k d l. subst (λ r. has_bit r x ≡ false) (get_or_default (lists rows) k [] d l) (old k l x)) (one x) (ap lists is ∙ map-append (λ r. r.items) rows (v ∷ [])) b [] h

-- the order, as far as rows have been filled
pub record Filled (parents : List (List ℕ)) (rows : List (List ℕ)) (t : ℕ) : Type 0 where
  pub told : (a b : ℕ) → a < t → b < length rows → (has_bit (row_at rows b) a ≡ true) ↔ IsAtOrBelow parents a b
  pub unset : (a b : ℕ) → t ≤ a → b < length rows → has_bit (row_at rows b) a ≡ false

at_or_below_cases : (parents : List (List ℕ)) (a b : ℕ) → IsAtOrBelow parents a b → (b ≡ a) ⊎ IsBelow parents a b
at_or_below_cases parents a _ (itself _) = inl refl
at_or_below_cases parents a b (above_parent _ p _ h r) = inr (p, h, r)

pub fill_more : (parents old new : List (List ℕ)) (marks : List Bool) (t : ℕ) → Filled parents old t → length old ≡ length parents → Marks old new marks t → IsReach parents t marks → Filled parents new (t + 1)
fill_more parents old new marks t f size m r = record {
  told = λ a b h k. told a b h k (cases_lt a t);
  unset = λ a b h k. m.1 b (omega (arith, m.0, k)) a (λ e. omega arith) ∙ f.unset a b (omega arith) (omega (arith, m.0, k));
}
  where
    told : (a b : ℕ) → a < t + 1 → b < length new → (a < t) ⊎ (t ≤ a) → (has_bit (row_at new b) a ≡ true) ↔ IsAtOrBelow parents a b
    told a b h k (inl l) =
        let in_b : b < length old = omega (arith, m.0, k) in
        let same = m.1 b in_b a (λ e. omega arith) in
        (λ e. (f.told a b l in_b).0 (sym same ∙ e), λ i. same ∙ (f.told a b l in_b).1 i)
    told a b h k (inr l) = subst (λ x. (has_bit (row_at new b) x ≡ true) ↔ IsAtOrBelow parents x b) here
        (λ e. there (or_cases _ (b == t) (sym is ∙ e)), λ i. is ∙ back (at_or_below_cases parents t b i))
      where
        here : t ≡ a
        here = omega arith

        in_b : b < length old
        in_b = omega (arith, m.0, k)

        is : has_bit (row_at new b) t ≡ (slice_index_or marks b false || (b == t))
        is = m.2 b in_b ∙ ap (λ p. p || (slice_index_or marks b false || (b == t))) (f.unset t b (omega arith) in_b)

        there : (slice_index_or marks b false ≡ true) ⊎ ((b == t) ≡ true) → IsAtOrBelow parents t b
        there (inl e) = let up = (r.told b (omega (arith, size, in_b))).0 e in above_parent t up.0 b up.1 up.2
        there (inr e) = subst (λ x. IsAtOrBelow parents t x) (sym (eq_of b t e)) (itself t)

        back : (b ≡ t) ⊎ IsBelow parents t b → (slice_index_or marks b false || (b == t)) ≡ true
        back (inl e) = or_right _ (b == t) (ap (λ x. b == x) (sym e) ∙ eq_true b)
        back (inr u) = or_left (slice_index_or marks b false) _ ((r.told b (omega (arith, size, in_b))).1 u)
