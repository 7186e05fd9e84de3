-- Rows of bits turned to columns.
use Rattle.std.proofs.Common.{ℕ, ◌≡◌, ◌≢◌, ◌≤◌, ◌<◌, ◌+◌, ◌-◌, ◌*◌, ◌/◌, ◌%◌, ◌==◌, ◌||◌, ◌⊎◌, inl, inr, true, false, List, [], length, slice_index, slice_index_or, slice_set, replicate, Vec, All, refl, sym, ◌∙◌, ap, subst, arith}
use Rattle.std.specs.Global.{Global}
use Rattle.std.specs.Int.{bit_at}
use Rattle.std.proofs.lemmas.Bool.{cases_lt}
use Rattle.std.proofs.lemmas.List.{length-set, length-map, get_or-set_same, get_or-set_other, get_or-map, get_or_past, get_or-replicate, length-replicate}
use Rattle.std.proofs.lemmas.Nat.Bits.{bit_at-zero}
use Rattle.type_hierarchy.specs.Bits.{has_bit, IsRow}
use Rattle.type_hierarchy.specs.Inner.Columns.{AreColumns, IsGrown, cell}
use Rattle.type_hierarchy.specs.Inner.Reach.{lists}
use Rattle.type_hierarchy.specs.Inner.Rows.{row_at, AreEmpty}
use Rattle.type_hierarchy.proofs.BitLemmas.{has_bit-past}
use Rattle.type_hierarchy.proofs.SetLemmas.{same_bools, differ, or_cases, or_left, or_right}

pub same_or_other : (k x : ℕ) → (k ≡ x) ⊎ (k ≢ x)
same_or_other k x = go (cases_lt k x) (cases_lt x k)
  where
    go : (k < x) ⊎ (x ≤ k) → (x < k) ⊎ (k ≤ x) → (k ≡ x) ⊎ (k ≢ x)
    go (inl a) _ = inr (λ e. omega arith)
    go (inr a) (inl b) = inr (λ e. omega arith)
    go (inr a) (inr b) = inl (omega arith)

-- no number was put into a column
pub grown_none : (columns : List (Vec ℕ Global)) (P : ℕ → ℕ → Type 0) → ((x y : ℕ) → x < length columns → P x y → ⊥) → IsGrown columns columns P
grown_none columns P none = record {
  size = refl;
  keeps = λ x y l h. h;
  has = λ x y l p. absurd (none x y l p);
  only = λ x y l h. inl h;
}

-- some numbers were put into columns, and then others
pub grown_more : (first old new : List (Vec ℕ Global)) (P Q R : ℕ → ℕ → Type 0) → IsGrown first old P → IsGrown old new Q →
    ((x y : ℕ) → x < length first → R x y → P x y ⊎ Q x y) → ((x y : ℕ) → P x y → R x y) → ((x y : ℕ) → x < length first → Q x y → R x y) → IsGrown first new R
grown_more first old new P Q R f g split left right = record {
  size = g.size ∙ f.size;
  keeps = λ x y l h. g.keeps x y (within x l) (f.keeps x y l h);
  has = λ x y l r. has x y l (split x y l r);
  only = λ x y l h. only x y l (g.only x y (within x l) h);
}
  where
    within : (x : ℕ) → x < length first → x < length old
    within x l = omega (arith, l, f.size)

    has : (x y : ℕ) → x < length first → P x y ⊎ Q x y → has_bit (row_at (lists new) x) y ≡ true
    has x y l (inl p) = g.keeps x y (within x l) (f.has x y l p)
    has x y l (inr q) = g.has x y (within x l) q

    earlier : (x y : ℕ) → (has_bit (row_at (lists first) x) y ≡ true) ⊎ P x y → (has_bit (row_at (lists first) x) y ≡ true) ⊎ R x y
    earlier x y (inl h) = inl h
    earlier x y (inr p) = inr (left x y p)

    only : (x y : ℕ) → x < length first → (has_bit (row_at (lists old) x) y ≡ true) ⊎ Q x y → (has_bit (row_at (lists first) x) y ≡ true) ⊎ R x y
    only x y l (inl h) = earlier x y (f.only x y l h)
    only x y l (inr q) = inr (right x y l q)

pub grown_as : (old new : List (Vec ℕ Global)) (P R : ℕ → ℕ → Type 0) → IsGrown old new P → ((x y : ℕ) → x < length old → R x y → P x y) →
    ((x y : ℕ) → x < length old → P x y → R x y) → IsGrown old new R
grown_as old new P R f back to = record {
  size = f.size;
  keeps = f.keeps;
  has = λ x y l r. f.has x y l (back x y l r);
  only = λ x y l h. only x y l (f.only x y l h);
}
  where
    only : (x y : ℕ) → x < length old → (has_bit (row_at (lists old) x) y ≡ true) ⊎ P x y → (has_bit (row_at (lists old) x) y ≡ true) ⊎ R x y
    only x y l (inl h) = inl h
    only x y l (inr p) = inr (to x y l p)

-- the column of x, of which a word has more
pub one_column : (columns new : List (Vec ℕ Global)) (x place word : ℕ) (old column : Vec ℕ Global) → x < length columns → old ≡ slice_index_or columns x old →
    new ≡ slice_set columns x column →
    ((y : ℕ) → y / 64 ≡ place → has_bit column.items y ≡ (has_bit old.items y || (bit_at word (y % 64) == 1))) →
    ((y : ℕ) → y / 64 ≢ place → has_bit column.items y ≡ has_bit old.items y) →
    IsGrown columns new (λ z y. (z ≡ x) × (y / 64 ≡ place) × ((bit_at word (y % 64) == 1) ≡ true))
one_column columns new x place word old column l is set has others = record {
  size = len;
  keeps = λ z y m h. keeps z y m h (same_or_other z x) (same_or_other (y / 64) place);
  has = λ z y m p. at_x z y m p.0 ∙ has y p.1 ∙ or_right _ _ p.2;
  only = λ z y m h. only z y m h (same_or_other z x) (same_or_other (y / 64) place);
}
  where
    len : length new ≡ length columns
    len = ap length set ∙ length-set columns x column

    here : row_at (lists new) x ≡ column.items
    here = get_or-map (λ r. r.items) new x old [] (omega (arith, len, l)) ∙ ap (λ r. r.items) (ap (λ q. slice_index_or q x old) set ∙ get_or-set_same columns x column old l)

    was : row_at (lists columns) x ≡ old.items
    was = get_or-map (λ r. r.items) columns x old [] l ∙ ap (λ r. r.items) (sym is)

    apart : (z : ℕ) → z < length columns → z ≢ x → row_at (lists new) z ≡ row_at (lists columns) z
    apart z m ne =
        get_or-map (λ r. r.items) new z old [] (omega (arith, len, m)) ∙ ap (λ r. r.items) (ap (λ q. slice_index_or q z old) set ∙ get_or-set_other columns x z column old ne)
        ∙ sym (get_or-map (λ r. r.items) columns z old [] m)

    at_x : (z y : ℕ) → z < length columns → z ≡ x → has_bit (row_at (lists new) z) y ≡ has_bit column.items y
    at_x z y m e = ap (λ j. has_bit (row_at (lists new) j) y) e ∙ ap (λ r. has_bit r y) here

    was_x : (z y : ℕ) → z ≡ x → has_bit (row_at (lists columns) z) y ≡ has_bit old.items y
    was_x z y e = ap (λ j. has_bit (row_at (lists columns) j) y) e ∙ ap (λ r. has_bit r y) was

    keeps : (z y : ℕ) → z < length columns → has_bit (row_at (lists columns) z) y ≡ true → (z ≡ x) ⊎ (z ≢ x) → (y / 64 ≡ place) ⊎ (y / 64 ≢ place) →
        has_bit (row_at (lists new) z) y ≡ true
    keeps z y m h (inr ne) _ = ap (λ r. has_bit r y) (apart z m ne) ∙ h
    keeps z y m h (inl e) (inl p) = at_x z y m e ∙ has y p ∙ or_left _ _ (sym (was_x z y e) ∙ h)
    keeps z y m h (inl e) (inr p) = at_x z y m e ∙ others y p ∙ sym (was_x z y e) ∙ h

    more : (z y : ℕ) → z ≡ x → y / 64 ≡ place → (has_bit old.items y ≡ true) ⊎ ((bit_at word (y % 64) == 1) ≡ true) →
        (has_bit (row_at (lists columns) z) y ≡ true) ⊎ ((z ≡ x) × (y / 64 ≡ place) × ((bit_at word (y % 64) == 1) ≡ true))
    more z y e p (inl h) = inl (was_x z y e ∙ h)
    more z y e p (inr b) = inr (e, p, b)

    only : (z y : ℕ) → z < length columns → has_bit (row_at (lists new) z) y ≡ true → (z ≡ x) ⊎ (z ≢ x) → (y / 64 ≡ place) ⊎ (y / 64 ≢ place) →
        (has_bit (row_at (lists columns) z) y ≡ true) ⊎ ((z ≡ x) × (y / 64 ≡ place) × ((bit_at word (y % 64) == 1) ≡ true))
    only z y m h (inr ne) _ = inl (sym (ap (λ r. has_bit r y) (apart z m ne)) ∙ h)
    only z y m h (inl e) (inl p) = more z y e p (or_cases _ _ (sym (at_x z y m e ∙ has y p) ∙ h))
    only z y m h (inl e) (inr p) = inl (was_x z y e ∙ sym (at_x z y m e ∙ others y p) ∙ h)

-- one column was written, and the others are as before
pub rows_set : (n : ℕ) (columns new : List (Vec ℕ Global)) (x : ℕ) (column : Vec ℕ Global) → x < length columns → new ≡ slice_set columns x column → IsRow n column.items →
    All (λ c. IsRow n c.items) columns → All (λ c. IsRow n c.items) new
rows_set n columns new x column l set row all k d m = go (same_or_other k x)
  where
    go : (k ≡ x) ⊎ (k ≢ x) → IsRow n (slice_index_or new k d).items
    go (inl e) =
        subst (λ c. IsRow n c.items) (sym (ap (λ j. slice_index_or new j d) e ∙ ap (λ q. slice_index_or q x d) set ∙ get_or-set_same columns x column d l)) row
    go (inr ne) =
        subst (λ c. IsRow n c.items) (sym (ap (λ q. slice_index_or q k d) set ∙ get_or-set_other columns x k column d ne))
        (all k d (omega (arith, m, ap length set, length-set columns x column)))

-- rows past the last have no numbers
pub past_rows : (rows : List (Vec ℕ Global)) (k x : ℕ) → length rows ≤ k → has_bit (row_at (lists rows) k) x ≡ false
past_rows rows k x h =
    ap (λ r. has_bit r x) (get_or_past (lists rows) k [] (omega (arith, h, length-map rows (λ v. v.items)))) ∙ has_bit-past [] x (omega arith)

pub row_there : (rows : List (Vec ℕ Global)) (k x : ℕ) → has_bit (row_at (lists rows) k) x ≡ true → k < length rows
row_there rows k x e = go (cases_lt k (length rows))
  where
    go : (k < length rows) ⊎ (length rows ≤ k) → k < length rows
    go (inl h) = h
    go (inr h) = absurd (differ _ e (past_rows rows k x h))

-- all rows were entered
pub columns_told : (first columns rows : List (Vec ℕ Global)) (count groups : ℕ) → length first ≡ count → AreEmpty (lists first) → length rows ≤ 64 * groups →
    All (λ c. IsRow (length rows) c.items) columns → IsGrown first columns (λ x y. (y / 64 < groups) × (has_bit (row_at (lists rows) y) x ≡ true)) → AreColumns count rows columns
columns_told first columns rows count groups size empty enough all grown = record {
  one_each = grown.size ∙ size;
  rows_are = all;
  told = λ x k h l. same_bools _ _ (to x k (omega (arith, h, size))) (λ e. grown.has x k (omega (arith, h, size)) (omega arith, e));
}
  where
    to : (x k : ℕ) → x < length first → has_bit (row_at (lists columns) x) k ≡ true → has_bit (row_at (lists rows) k) x ≡ true
    to x k h e = go (grown.only x k h e)
      where
        go : (has_bit (row_at (lists first) x) k ≡ true) ⊎ ((k / 64 < groups) × (has_bit (row_at (lists rows) k) x ≡ true)) → has_bit (row_at (lists rows) k) x ≡ true
        go (inl f) = absurd (differ _ f (empty x (omega (arith, h, length-map first (λ v. v.items))) k))
        go (inr p) = p.1

-- a square of zeros
pub blank_cell : (square : List ℕ) (r c : ℕ) → square ≡ replicate 64 0 → cell square r c ≡ false
blank_cell square r c is = ap (λ w. bit_at w c == 1) (ap (λ l. slice_index l r) is ∙ zero_at (cases_lt r 64)) ∙ ap (λ w. w == 1) (bit_at-zero c)
  where
    zero_at : (r < 64) ⊎ (64 ≤ r) → slice_index (replicate 64 0) r ≡ 0
    zero_at (inl h) = get_or-replicate 64 r 0 0 h
    zero_at (inr h) = get_or_past (replicate 64 0) r 0 (omega (arith, length-replicate {A = ℕ} 64 0))

-- one word more of a square
pub set_more : (square : List ℕ) (j word : ℕ) (f : ℕ → ℕ) → j < length square → word ≡ f j → ((k : ℕ) → k < j → slice_index square k ≡ f k) →
    (k : ℕ) → k < j + 1 → slice_index (slice_set square j word) k ≡ f k
set_more square j word f h is done k l = go (same_or_other k j)
  where
    go : (k ≡ j) ⊎ (k ≢ j) → slice_index (slice_set square j word) k ≡ f k
    go (inl e) = ap (slice_index (slice_set square j word)) e ∙ get_or-set_same square j word 0 h ∙ is ∙ ap f (sym e)
    go (inr ne) = get_or-set_other square j k word 0 ne ∙ done k (less (cases_lt k j))
      where
        less : (k < j) ⊎ (j ≤ k) → k < j
        less (inl a) = a
        less (inr a) = absurd (ne (omega arith))

-- one column more was written
pub scattered_more : (first old new : List (Vec ℕ Global)) (square : List ℕ) (from place j : ℕ) →
    IsGrown first old (λ x y. (from ≤ x) × (x < from + j) × (y / 64 ≡ place) × (cell square (x - from) (y % 64) ≡ true)) →
    IsGrown old new (λ x y. (x ≡ from + j) × (y / 64 ≡ place) × ((bit_at (slice_index square j) (y % 64) == 1) ≡ true)) →
    IsGrown first new (λ x y. (from ≤ x) × (x < from + (j + 1)) × (y / 64 ≡ place) × (cell square (x - from) (y % 64) ≡ true))
scattered_more first old new square from place j f g = grown_more first old new P Q R f g split (λ x y p. (p.0, omega (arith, p.1), p.2, p.3)) right
  where
    P : ℕ → ℕ → Type 0
    P x y = (from ≤ x) × (x < from + j) × (y / 64 ≡ place) × (cell square (x - from) (y % 64) ≡ true)

    Q : ℕ → ℕ → Type 0
    Q x y = (x ≡ from + j) × (y / 64 ≡ place) × ((bit_at (slice_index square j) (y % 64) == 1) ≡ true)

    R : ℕ → ℕ → Type 0
    R x y = (from ≤ x) × (x < from + (j + 1)) × (y / 64 ≡ place) × (cell square (x - from) (y % 64) ≡ true)

    split : (x y : ℕ) → x < length first → (from ≤ x) × (x < from + (j + 1)) × (y / 64 ≡ place) × (cell square (x - from) (y % 64) ≡ true) →
        ((from ≤ x) × (x < from + j) × (y / 64 ≡ place) × (cell square (x - from) (y % 64) ≡ true))
        ⊎ ((x ≡ from + j) × (y / 64 ≡ place) × ((bit_at (slice_index square j) (y % 64) == 1) ≡ true))
    split x y l (a, b, c, d) = go (cases_lt x (from + j))
      where
        go : (x < from + j) ⊎ (from + j ≤ x) →
            ((from ≤ x) × (x < from + j) × (y / 64 ≡ place) × (cell square (x - from) (y % 64) ≡ true))
            ⊎ ((x ≡ from + j) × (y / 64 ≡ place) × ((bit_at (slice_index square j) (y % 64) == 1) ≡ true))
        go (inl h) = inl (a, h, c, d)
        go (inr h) = let at : x - from ≡ j = omega arith in inr (omega arith, c, ap (λ k. cell square k (y % 64)) (sym at) ∙ d)

    right : (x y : ℕ) → x < length first → (x ≡ from + j) × (y / 64 ≡ place) × ((bit_at (slice_index square j) (y % 64) == 1) ≡ true) →
        (from ≤ x) × (x < from + (j + 1)) × (y / 64 ≡ place) × (cell square (x - from) (y % 64) ≡ true)
    right x y l (a, b, c) = let at : x - from ≡ j = omega arith in (omega arith, omega arith, b, ap (λ k. cell square k (y % 64)) at ∙ c)

-- a square has the bits of rows, turned
pub square_grown : (old new rows : List (Vec ℕ Global)) (square : List ℕ) (place group : ℕ) →
    ((r c : ℕ) → r < 64 → c < 64 → cell square r c ≡ has_bit (row_at (lists rows) (64 * group + c)) (64 * place + r)) →
    IsGrown old new (λ x y. (64 * place ≤ x) × (x < 64 * place + 64) × (y / 64 ≡ group) × (cell square (x - 64 * place) (y % 64) ≡ true)) →
    IsGrown old new (λ x y. (x / 64 ≡ place) × (y / 64 ≡ group) × (has_bit (row_at (lists rows) y) x ≡ true))
square_grown old new rows square place group cells f = grown_as old new P R f back to
  where
    P : ℕ → ℕ → Type 0
    P x y = (64 * place ≤ x) × (x < 64 * place + 64) × (y / 64 ≡ group) × (cell square (x - 64 * place) (y % 64) ≡ true)

    R : ℕ → ℕ → Type 0
    R x y = (x / 64 ≡ place) × (y / 64 ≡ group) × (has_bit (row_at (lists rows) y) x ≡ true)

    is : (x y : ℕ) → x / 64 ≡ place → y / 64 ≡ group → cell square (x - 64 * place) (y % 64) ≡ has_bit (row_at (lists rows) y) x
    is x y a b =
        let column : 64 * group + y % 64 ≡ y = omega arith in
        let row : 64 * place + (x - 64 * place) ≡ x = omega arith in
        cells (x - 64 * place) (y % 64) (omega arith) (omega arith) ∙ ap (λ k. has_bit (row_at (lists rows) k) (64 * place + (x - 64 * place))) column
        ∙ ap (has_bit (row_at (lists rows) y)) row

    back : (x y : ℕ) → x < length old → (x / 64 ≡ place) × (y / 64 ≡ group) × (has_bit (row_at (lists rows) y) x ≡ true) →
        (64 * place ≤ x) × (x < 64 * place + 64) × (y / 64 ≡ group) × (cell square (x - 64 * place) (y % 64) ≡ true)
    back x y l (a, b, c) = (omega arith, omega arith, b, is x y a b ∙ c)

    to : (x y : ℕ) → x < length old → (64 * place ≤ x) × (x < 64 * place + 64) × (y / 64 ≡ group) × (cell square (x - 64 * place) (y % 64) ≡ true) →
        (x / 64 ≡ place) × (y / 64 ≡ group) × (has_bit (row_at (lists rows) y) x ≡ true)
    to x y l (a, b, c, d) = let at : x / 64 ≡ place = omega arith in (at, c, sym (is x y at c) ∙ d)
