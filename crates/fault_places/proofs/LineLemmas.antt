-- Lines of a text, byte by byte.
use Rattle.std.proofs.Common.{ℕ, zero, suc, ◌≡◌, ◌<◌, ◌≤◌, ◌+◌, ◌-◌, ◌==◌, ◌||◌, nat_lt, Bool, true, false, if◌then◌else◌, List, [], ◌∷◌, ◌++◌, length, take, drop, get_or, refl, sym, ap, ◌∙◌, arith}
use Rattle.std.proofs.lemmas.List.{take_more, length-take-le}
use Rattle.std.proofs.lemmas.Bool.Decides.{Decides-ltb}
use Rattle.std.specs.List.{list_any}
use Rattle.fault_places.specs.Places.{is_end, last_part, line_begin}

or-true : (a : Bool) → (a || true) ≡ true
or-true true = refl
or-true false = refl

any_after : (xs : List ℕ) → list_any is_end (xs ++ 10 ∷ []) ≡ true
any_after [] = refl
any_after (b ∷ bs) = ap (λ t. is_end b || t) (any_after bs) ∙ or-true (is_end b)

any_more : (xs : List ℕ) (b : ℕ) → (b == 10) ≡ false → list_any is_end (xs ++ b ∷ []) ≡ list_any is_end xs
any_more [] b e = ap (λ t. t || false) e
any_more (c ∷ cs) b e = ap (λ t. is_end c || t) (any_more cs b e)

-- after a line end stands nothing
last_part-end : (xs : List ℕ) → last_part (xs ++ 10 ∷ []) ≡ []
last_part-end [] = refl
last_part-end (b ∷ bs) = ap (λ t. if t then last_part (bs ++ 10 ∷ []) else b ∷ (bs ++ 10 ∷ [])) (any_after (b ∷ bs)) ∙ last_part-end bs

-- another byte stands after the last line end too
last_part-more : (xs : List ℕ) (b : ℕ) → (b == 10) ≡ false → last_part (xs ++ b ∷ []) ≡ last_part xs ++ b ∷ []
last_part-more [] b e = ap (λ t. if (t || false) then [] else b ∷ []) e
last_part-more (c ∷ cs) b e = go (list_any is_end (c ∷ cs)) refl (last_part-more cs b e)
  where
    go : (t : Bool) → list_any is_end (c ∷ cs) ≡ t → last_part (cs ++ b ∷ []) ≡ last_part cs ++ b ∷ [] → last_part ((c ∷ cs) ++ b ∷ []) ≡ last_part (c ∷ cs) ++ b ∷ []
    go true is rest =
        ap (λ t. if t then last_part (cs ++ b ∷ []) else c ∷ (cs ++ b ∷ [])) (any_more (c ∷ cs) b e ∙ is) ∙ rest
        ∙ sym (ap (λ t. (if t then last_part cs else c ∷ cs) ++ b ∷ []) is)
    go false is rest =
        ap (λ t. if t then last_part (cs ++ b ∷ []) else c ∷ (cs ++ b ∷ [])) (any_more (c ∷ cs) b e ∙ is)
        ∙ sym (ap (λ t. (if t then last_part cs else c ∷ cs) ++ b ∷ []) is)

drop_front : (n : ℕ) (xs ys : List ℕ) → n ≤ length xs → drop n (xs ++ ys) ≡ drop n xs ++ ys
drop_front zero xs ys h = refl
drop_front (suc n) [] ys h = absurd (omega arith)
drop_front (suc n) (x ∷ xs) ys h = drop_front n xs ys (omega arith)

pub take_all : (n : ℕ) (xs : List ℕ) → length xs ≤ n → take n xs ≡ xs
take_all zero [] h = refl
take_all zero (x ∷ xs) h = absurd (omega arith)
take_all (suc n) [] h = refl
take_all (suc n) (x ∷ xs) h = ap (λ l. x ∷ l) (take_all n xs (omega arith))

pub drop_all : (n : ℕ) (xs : List ℕ) → length xs ≤ n → drop n xs ≡ []
drop_all zero [] h = refl
drop_all zero (x ∷ xs) h = absurd (omega arith)
drop_all (suc n) [] h = refl
drop_all (suc n) (x ∷ xs) h = drop_all n xs (omega arith)

-- what stands after the last line end, with a line end at this place
pub part-at_end : (text : List ℕ) (i : ℕ) → i < length text → get_or text i 0 ≡ 10 → drop (i + 1) (take (i + 1) text) ≡ last_part (take (i + 1) text)
part-at_end text i h e =
    let size = length-take-le (i + 1) text (omega arith) in
    drop_all (i + 1) (take (i + 1) text) (omega (arith, size))
    ∙ sym (ap last_part (take_more text i 0 h ∙ ap (λ b. take i text ++ b ∷ []) e) ∙ last_part-end (take i text))

-- and with another byte there
pub part-at_other : (text : List ℕ) (i begin : ℕ) → i < length text → (get_or text i 0 == 10) ≡ false → begin ≤ i → drop begin (take i text) ≡ last_part (take i text)
    → drop begin (take (i + 1) text) ≡ last_part (take (i + 1) text)
part-at_other text i begin h e low is =
    let size = length-take-le i text (omega arith) in
    ap (drop begin) (take_more text i 0 h) ∙ drop_front begin (take i text) (get_or text i 0 ∷ []) (omega (arith, size))
    ∙ ap (λ l. l ++ get_or text i 0 ∷ []) is ∙ sym (last_part-more (take i text) (get_or text i 0) e) ∙ sym (ap last_part (take_more text i 0 h))

drop_next : (xs : List ℕ) (i : ℕ) → i < length xs → drop i xs ≡ get_or xs i 0 ∷ drop (i + 1) xs
drop_next [] i h = absurd (omega arith)
drop_next (x ∷ xs) zero h = refl
drop_next (x ∷ xs) (suc i) h =
    let after : suc (i + 1) ≡ suc i + 1 = omega arith in
    drop_next xs i (omega arith) ∙ ap (λ n. get_or xs i 0 ∷ drop n (x ∷ xs)) after

-- the first line begins at once
pub begin-here : (bs : List ℕ) (line : ℕ) → line ≤ 1 → line_begin bs line ≡ 0
begin-here [] line h = refl
begin-here (b ∷ bs) line h = go (nat_lt 1 line) refl
  where
    go : (t : Bool) → nat_lt 1 line ≡ t → (if t then 1 + line_begin bs (if is_end b then line - 1 else line) else 0) ≡ 0
    go true e = let low : 1 < line = (Decides-ltb 1 line).0 e in absurd (omega arith)
    go false e = refl

begin-next : (b : ℕ) (bs : List ℕ) (line : ℕ) → 1 < line → line_begin (b ∷ bs) line ≡ 1 + line_begin bs (if is_end b then line - 1 else line)
begin-next b bs line h = ap (λ t. if t then 1 + line_begin bs (if is_end b then line - 1 else line) else 0) ((Decides-ltb 1 line).1 h)

-- a later line begins after the byte at this place
pub begin-after : (text : List ℕ) (i line left next : ℕ) → i < length text → 1 < left → line_begin text line ≡ i + line_begin (drop i text) left
    → next ≡ (if is_end (get_or text i 0) then left - 1 else left) → line_begin text line ≡ (i + 1) + line_begin (drop (i + 1) text) next
begin-after text i line left next h more is e =
    let step : line_begin (drop i text) left ≡ 1 + line_begin (drop (i + 1) text) next =
    ap (λ l. line_begin l left) (drop_next text i h) ∙ begin-next (get_or text i 0) (drop (i + 1) text) left more ∙ ap (λ n. 1 + line_begin (drop (i + 1) text) n) (sym e) in
    omega (arith, is, step)

pub begin-end : (text : List ℕ) (line left : ℕ) → line_begin text line ≡ length text + line_begin (drop (length text) text) left → line_begin text line ≡ length text
begin-end text line left is =
    let none : line_begin (drop (length text) text) left ≡ 0 = ap (λ l. line_begin l left) (drop_all (length text) text (omega arith)) in
    omega (arith, is, none)
