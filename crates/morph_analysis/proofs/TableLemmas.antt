-- Tables of bits.
use Rattle.std.proofs.Common.{ℕ, zero, suc, ◌≡◌, ◌≢◌, ◌<◌, ◌≤◌, ◌+◌, ◌*◌, ◌/◌, ◌%◌, ◌⊎◌, ◌==◌, ◌&&◌, inl, inr, Bool, true, false, not, List, length, map, set, replicate, refl, sym, ◌∙◌, ap, subst, arith}
use Rattle.std.proofs.lemmas.Bool.Decides.{Decides-eqb, Decides-ltb, Decides-and}
use Rattle.std.proofs.lemmas.Nat.{same_from_place, mul-add-lt, div-add-mod'}
use Rattle.std.proofs.Math.Nat.{mul_comm}
use Rattle.std.proofs.lemmas.Nat.Bits.{bit_at-zero}
use Rattle.std.proofs.lemmas.List.{get_or-set_same, get_or-set_other}
use Rattle.std.specs.Prelude.{nat_lt, slice_index}
use Rattle.std.specs.Int.{bit_at}
use Rattle.morph_analysis.proofs.Lists.{bools, true_not_false, same_eq, eq_same}
use Rattle.morph_analysis.proofs.NodeLemmas.{cases_le}
use Rattle.std.specs.List.{range_with_len}
use Rattle.morph_analysis.specs.Allowed.{in_row, in_table, AllMay, MayBut}
use Rattle.morph_analysis.specs.Inner.Bits.{has_bit, is_inside, allows_by, cells_by}

and_true : (b : Bool) → (b && true) ≡ b
and_true true = refl
and_true false = refl

and_false : (b : Bool) → (b && false) ≡ false
and_false true = refl
and_false false = refl

equal_or : (a b : ℕ) → (a ≡ b) ⊎ (a ≢ b)
equal_or a b = go (bools (a == b))
  where
    go : ((a == b) ≡ true) ⊎ ((a == b) ≡ false) → (a ≡ b) ⊎ (a ≢ b)
    go (inl t) = inl (eq_same a b t)
    go (inr f) = inr (λ e. true_not_false (a == b) (same_eq a b e) f)

zeros_at : (n i : ℕ) → slice_index (replicate n 0) i ≡ 0
zeros_at zero i = refl
zeros_at (suc n) zero = refl
zeros_at (suc n) (suc i) = zeros_at n i

-- zeros forbid nothing
pub none_set : (rows width n : ℕ) (words : List ℕ) → words ≡ replicate n 0 → (row rule : ℕ) → allows_by rows width words row rule ≡ true
none_set rows width n words e row rule =
    ap (λ b. not (is_inside rows width row rule && b)) (ap (λ w. bit_at w (place % 64) == 1) (ap (λ l. slice_index l (place / 64)) e ∙ zeros_at n (place / 64)) ∙ ap (λ b. b == 1) (bit_at-zero (place % 64)))
    ∙ ap not (and_false (is_inside rows width row rule))
  where
    place : ℕ
    place = row * width + rule

-- a place of a table has its word
pub word_within : (rows width size r p : ℕ) → r < rows → p < width → rows * width ≤ 64 * size → (r * width + p) / 64 < size
word_within rows width size r p rl pl fits = let inside = mul-add-lt r width p rows rl pl in omega (arith, inside, fits, commuted)
  where
    commuted : width * rows ≡ rows * width
    commuted = mul_comm width rows

bit_other : (words : List ℕ) (i j new : ℕ) → i / 64 < length words → ((k : ℕ) → k ≢ i % 64 → bit_at new k ≡ bit_at (slice_index words (i / 64)) k) → j ≢ i → has_bit (set words (i / 64) new) j ≡ has_bit words j
bit_other words i j new lt others ne = go (equal_or (j / 64) (i / 64))
  where
    go : (j / 64 ≡ i / 64) ⊎ (j / 64 ≢ i / 64) → has_bit (set words (i / 64) new) j ≡ has_bit words j
    go (inr away) = ap (λ w. bit_at w (j % 64) == 1) (get_or-set_other words (i / 64) (j / 64) new 0 away)
    go (inl same) =
        let differ : j % 64 ≢ i % 64 = λ e. ne (sym (div-add-mod' j 64) ∙ ap (λ q. q * 64 + j % 64) same ∙ ap (λ m. i / 64 * 64 + m) e ∙ div-add-mod' i 64) in
        ap (λ w. bit_at w (j % 64) == 1) (ap (slice_index (set words (i / 64) new)) same ∙ get_or-set_same words (i / 64) new 0 lt)
        ∙ ap (λ b. b == 1) (others (j % 64) differ ∙ ap (λ q. bit_at (slice_index words q) (j % 64)) (sym same))

-- a bit that is set forbids its place alone
pub may_but : (rows width : ℕ) (words : List ℕ) (r p new : ℕ) → r < rows → p < width → rows * width ≤ 64 * length words → bit_at new ((r * width + p) % 64) ≡ 1
    → ((k : ℕ) → k ≢ (r * width + p) % 64 → bit_at new k ≡ bit_at (slice_index words ((r * width + p) / 64)) k)
    → (row rule : ℕ) → allows_by rows width (set words ((r * width + p) / 64) new) row rule ≡ (allows_by rows width words row rule && not ((row == r) && (rule == p)))
may_but rows width words r p new rl pl fits one others row rule = go (equal_or row r) (equal_or rule p) (bools (nat_lt row rows)) (bools (nat_lt rule width))
  where
    i : ℕ
    i = r * width + p

    within : (r * width + p) / 64 < length words
    within = word_within rows width (length words) r p rl pl fits

    Goal : Type 0
    Goal = allows_by rows width (set words ((r * width + p) / 64) new) row rule ≡ (allows_by rows width words row rule && not ((row == r) && (rule == p)))

    -- another place
    away : ((row == r) && (rule == p)) ≡ false → allows_by rows width (set words ((r * width + p) / 64) new) row rule ≡ allows_by rows width words row rule → Goal
    away f e = e ∙ sym (ap (λ b. allows_by rows width words row rule && not b) f ∙ and_true (allows_by rows width words row rule))

    -- a place outside allows
    out : is_inside rows width row rule ≡ false → ((row == r) && (rule == p)) ≡ false → Goal
    out f g = away g (ap (λ b. not (b && has_bit (set words ((r * width + p) / 64) new) (row * width + rule))) f ∙ sym (ap (λ b. not (b && has_bit words (row * width + rule))) f))

    differ : (row ≢ r) ⊎ (rule ≢ p) → ((row == r) && (rule == p)) ≡ false
    differ d = pick (bools ((row == r) && (rule == p)))
      where
        pick : (((row == r) && (rule == p)) ≡ true) ⊎ (((row == r) && (rule == p)) ≡ false) → ((row == r) && (rule == p)) ≡ false
        pick (inr f) = f
        pick (inl t) = let both = (Decides-and (row == r) (rule == p) (Decides-eqb row r) (Decides-eqb rule p)).0 t in absurd (elim d [ inl a ↦ a both.0 | inr b ↦ b both.1 ])

    beside : (row ≢ r) ⊎ (rule ≢ p) → (nat_lt row rows ≡ true) ⊎ (nat_lt row rows ≡ false) → (nat_lt rule width ≡ true) ⊎ (nat_lt rule width ≡ false) → Goal
    beside d (inr f) w = out (ap (λ b. b && nat_lt rule width) f) (differ d)
    beside d (inl t) (inr f) = out (ap (λ b. nat_lt row rows && b) f ∙ and_false (nat_lt row rows)) (differ d)
    beside d (inl t) (inl u) =
        let other : row * width + rule ≢ r * width + p =
        λ e. (let s = same_from_place row rule r p width ((Decides-ltb rule width).0 u) pl e in elim d [ inl a ↦ a s.0 | inr b ↦ b s.1 ]) in
        away (differ d) (ap (λ b. not (is_inside rows width row rule && b)) (bit_other words i (row * width + rule) new within others other))

    go : (row ≡ r) ⊎ (row ≢ r) → (rule ≡ p) ⊎ (rule ≢ p) → (nat_lt row rows ≡ true) ⊎ (nat_lt row rows ≡ false) → (nat_lt rule width ≡ true) ⊎ (nat_lt rule width ≡ false) → Goal
    go (inr a) q x y = beside (inl a) x y
    go (inl e) (inr b) x y = beside (inr b) x y
    go (inl e) (inl f) x y =
        let place : row * width + rule ≡ r * width + p = ap (λ n. n * width + rule) e ∙ ap (λ n. r * width + n) f in
        let inside : is_inside rows width row rule ≡ true =
        (Decides-and (nat_lt row rows) (nat_lt rule width) (Decides-ltb row rows) (Decides-ltb rule width)).1 (subst (λ n. n < rows) (sym e) rl, subst (λ n. n < width) (sym f) pl) in
        let bit : has_bit (set words ((r * width + p) / 64) new) (row * width + rule) ≡ true =
        ap (has_bit (set words ((r * width + p) / 64) new)) place ∙ ap (λ w. bit_at w ((r * width + p) % 64) == 1) (get_or-set_same words ((r * width + p) / 64) new 0 within) ∙ ap (λ b. b == 1) one in
        let left : allows_by rows width (set words ((r * width + p) / 64) new) row rule ≡ false = ap (λ b. not (b && has_bit (set words ((r * width + p) / 64) new) (row * width + rule))) inside ∙ ap not bit in
        let same : ((row == r) && (rule == p)) ≡ true = (Decides-and (row == r) (rule == p) (Decides-eqb row r) (Decides-eqb rule p)).1 (e, f) in
        left ∙ sym (ap (λ b. allows_by rows width words row rule && not b) same ∙ and_false (allows_by rows width words row rule))

-- the cells of a table
row_at : (g : ℕ → Bool) (a n k j : ℕ) → k < n → a + k ≡ j → in_row (map g (range_with_len a n)) k ≡ g j
row_at g a zero k j lt e = absurd (omega arith)
row_at g a (suc n) zero j lt e = ap g (let q : a ≡ j = omega (arith, e) in q)
row_at g a (suc n) (suc k) j lt e = row_at g (a + 1) n k j (omega arith) (omega (arith, e))

row_past : (g : ℕ → Bool) (a n k : ℕ) → n ≤ k → in_row (map g (range_with_len a n)) k ≡ true
row_past g a zero k le = refl
row_past g a (suc n) zero le = absurd (omega arith)
row_past g a (suc n) (suc k) le = row_past g (a + 1) n k (omega arith)

table_at : (h : ℕ → List Bool) (a n k j m : ℕ) → k < n → a + k ≡ j → in_table (map h (range_with_len a n)) k m ≡ in_row (h j) m
table_at h a zero k j m lt e = absurd (omega arith)
table_at h a (suc n) zero j m lt e = ap (λ q. in_row (h q) m) (let q : a ≡ j = omega (arith, e) in q)
table_at h a (suc n) (suc k) j m lt e = table_at h (a + 1) n k j m (omega arith) (omega (arith, e))

table_past : (h : ℕ → List Bool) (a n k m : ℕ) → n ≤ k → in_table (map h (range_with_len a n)) k m ≡ true
table_past h a zero k m le = refl
table_past h a (suc n) zero m le = absurd (omega arith)
table_past h a (suc n) (suc k) m le = table_past h (a + 1) n k m (omega arith)

pub cell : (rows width : ℕ) (words : List ℕ) (row rule : ℕ) → in_table (cells_by rows width words) row rule ≡ allows_by rows width words row rule
cell rows width words row rule = go (cases_le rows row) (cases_le width rule)
  where
    line : ℕ → List Bool
    line r = map (λ m. allows_by rows width words r m) (range_with_len 0 width)

    outside : is_inside rows width row rule ≡ false → true ≡ allows_by rows width words row rule
    outside f = sym (ap (λ b. not (b && has_bit words (row * width + rule))) f)

    not_lt : (a b : ℕ) → b ≤ a → nat_lt a b ≡ false
    not_lt a b le = pick (bools (nat_lt a b))
      where
        pick : (nat_lt a b ≡ true) ⊎ (nat_lt a b ≡ false) → nat_lt a b ≡ false
        pick (inr f) = f
        pick (inl t) = let lt = (Decides-ltb a b).0 t in absurd (omega (arith, lt, le))

    go : (rows ≤ row) ⊎ (row < rows) → (width ≤ rule) ⊎ (rule < width) → in_table (cells_by rows width words) row rule ≡ allows_by rows width words row rule
    go (inl le) w = table_past line 0 rows row rule le ∙ outside (ap (λ b. b && nat_lt rule width) (not_lt row rows le))
    go (inr lt) (inl le) = table_at line 0 rows row row rule lt (omega arith) ∙ row_past (λ m. allows_by rows width words row m) 0 width rule le ∙ outside (ap (λ b. nat_lt row rows && b) (not_lt rule width le) ∙ and_false (nat_lt row rows))
    go (inr lt) (inr less) = table_at line 0 rows row row rule lt (omega arith) ∙ row_at (λ m. allows_by rows width words row m) 0 width rule rule less (omega arith)

-- the clauses of the tables
pub all_may : (rows width n : ℕ) (words : List ℕ) → words ≡ replicate n 0 → AllMay (cells_by rows width words)
all_may rows width n words e row rule = cell rows width words row rule ∙ none_set rows width n words e row rule

pub but_one : (rows width : ℕ) (words : List ℕ) (r p new : ℕ) → r < rows → p < width → rows * width ≤ 64 * length words → bit_at new ((r * width + p) % 64) ≡ 1
    → ((k : ℕ) → k ≢ (r * width + p) % 64 → bit_at new k ≡ bit_at (slice_index words ((r * width + p) / 64)) k) → MayBut (cells_by rows width words) r p (cells_by rows width (set words ((r * width + p) / 64) new))
but_one rows width words r p new rl pl fits one others row rule =
    cell rows width (set words ((r * width + p) / 64) new) row rule ∙ may_but rows width words r p new rl pl fits one others row rule ∙ sym (ap (λ b. b && not ((row == r) && (rule == p))) (cell rows width words row rule))

-- what the code reads of a cell
pub allowed_at : (rows width : ℕ) (words : List ℕ) (row rule word : ℕ) (t : List (List Bool)) → row < rows → rule < width → word ≡ slice_index words ((row * width + rule) / 64) → cells_by rows width words ≡ t
    → not (bit_at word ((row * width + rule) % 64) == 1) ≡ in_table t row rule
allowed_at rows width words row rule word t rl pl w e =
    ap (λ v. not (bit_at v ((row * width + rule) % 64) == 1)) w
    ∙ sym (ap (λ b. not (b && has_bit words (row * width + rule))) ((Decides-and (nat_lt row rows) (nat_lt rule width) (Decides-ltb row rows) (Decides-ltb rule width)).1 (rl, pl)))
    ∙ sym (cell rows width words row rule) ∙ ap (λ l. in_table l row rule) e

pub outside_at : (rows width : ℕ) (words : List ℕ) (row rule : ℕ) (t : List (List Bool)) → (rows ≤ row) ⊎ (width ≤ rule) → cells_by rows width words ≡ t → true ≡ in_table t row rule
outside_at rows width words row rule t past e = sym (sym (ap (λ l. in_table l row rule) e) ∙ cell rows width words row rule ∙ ap (λ b. not (b && has_bit words (row * width + rule))) (out past))
  where
    not_lt : (a b : ℕ) → b ≤ a → nat_lt a b ≡ false
    not_lt a b le = pick (bools (nat_lt a b))
      where
        pick : (nat_lt a b ≡ true) ⊎ (nat_lt a b ≡ false) → nat_lt a b ≡ false
        pick (inr f) = f
        pick (inl t) = let lt = (Decides-ltb a b).0 t in absurd (omega (arith, lt, le))

    out : (rows ≤ row) ⊎ (width ≤ rule) → is_inside rows width row rule ≡ false
    out (inl le) = ap (λ b. b && nat_lt rule width) (not_lt row rows le)
    out (inr le) = ap (λ b. nat_lt row rows && b) (not_lt rule width le) ∙ and_false (nat_lt row rows)
