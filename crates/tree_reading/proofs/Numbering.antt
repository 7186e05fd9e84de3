-- Numbers in digits: how one more digit is read, and where a number stops.
use Rattle.std.proofs.Common.{◌≡◌, ℕ, suc, zero, Bool, true, false, not, List, [], ◌∷◌, ◌++◌, length, Option, Some, None, refl, sym, ap, subst, ◌∙◌, append_assoc, ◌<◌, ◌≤◌, ◌+◌, ◌-◌, ◌*◌, ◌/◌, ◌%◌, ◌^◌, arith, rules, decimal, tests, get_or, ltb, ltb-true, ltb-false, length-append}
use Rattle.std.proofs.lemmas.List.Elements.{All-head, All-tail}
use Rattle.std.proofs.lemmas.Fmt.{decimal_step, decimal_digit, decimal_injective, decimal_nonempty, first_decimal}
use Rattle.tree_reading.specs.Inner.Shapes.{Begins}
use Rattle.tree_reading.specs.Inner.Stops.{is_digit, IsNext, spelling, EndsAt, IsAlike, BeginsNumber}
use Rattle.tree_reading.proofs.Runs.{heads, rests, run_within}
use Rattle.tree_reading.proofs.NodeTexts.{all_digits, AreDigits}

digit_range : (b : ℕ) → is_digit b ≡ true → (48 ≤ b) × (b ≤ 57)
digit_range b h = search (tests, rules)

next_some : (n b next : ℕ) → is_digit b ≡ true → 0 < n → next ≡ 10 * n + (b - 48) → next < 2 ^ 32 → decimal next ≡ decimal n ++ b ∷ []
next_some n b next d pos e fits =
    let r = digit_range b d in
    let q : next / 10 ≡ n = omega arith in
    let m : 48 + next % 10 ≡ b = omega arith in
    decimal_step next (omega arith) (omega arith) ∙ ap (λ k. decimal k ++ (48 + next % 10) ∷ []) q ∙ ap (λ k. decimal n ++ k ∷ []) m

pub spelling_next : (number : Option ℕ) (b next : ℕ) → IsNext number b next → spelling (Some next) ≡ spelling number ++ b ∷ []
spelling_next None b next h =
    let r = digit_range b h.0 in
    decimal_digit next (omega (arith, h.1)) ∙ ap (λ k. k ∷ []) (omega (arith, h.1))
spelling_next (Some n) b next h = next_some n b next h.0 h.1 h.2 h.3

pub next_fits : (number : Option ℕ) (b next : ℕ) → IsNext number b next → next < 2 ^ 32
next_fits None b next h = let r = digit_range b h.0 in omega (arith, h.1)
next_fits (Some n) b next h = h.3

-- the last element of a list that has one
record Ended (x : ℕ) (xs : List ℕ) : Type 0 where
  front : List ℕ
  last : ℕ
  is : x ∷ xs ≡ front ++ last ∷ []
  size : length front ≡ length xs

ended : (x : ℕ) (xs : List ℕ) → Ended x xs
ended x [] = record { front = []; last = x; is = refl; size = refl }
ended x (y ∷ ys) = let e = ended y ys in record { front = x ∷ e.front; last = e.last; is = ap (λ t. x ∷ t) e.is; size = ap suc e.size }

last_same : (a b : List ℕ) (x y : ℕ) → a ++ x ∷ [] ≡ b ++ y ∷ [] → (a ≡ b) × (x ≡ y)
last_same [] [] x y e = (refl, heads _ _ _ _ e)
last_same [] (c ∷ b) x y e = absurd (omega (arith, ap length e, length-append b (y ∷ [])))
last_same (c ∷ a) [] x y e = absurd (omega (arith, ap length e, length-append a (x ∷ [])))
last_same (c ∷ a) (d ∷ b) x y e = let h = last_same a b x y (rests _ _ _ _ e) in (cc (h.0, heads c d _ _ e), h.1)

too_short : (m n d : ℕ) (ds : List ℕ) → m < 10 → n < 2 ^ 64 → decimal m ≡ decimal n ++ d ∷ ds → ⊥
too_short m n d ds lt hn e =
    omega (arith, ap length (sym (decimal_digit m lt) ∙ e), length-append (decimal n) (d ∷ ds), decimal_nonempty n hn)

-- a number whose digits begin with those of another and one more
begins_front : (m n d c : ℕ) (ds front : List ℕ) (last : ℕ) → d ∷ c ∷ ds ≡ front ++ last ∷ [] → length front ≡ suc (length ds) → decimal (m / 10) ≡ decimal n ++ front →
    ((e : ℕ) (es : List ℕ) → decimal (m / 10) ≡ decimal n ++ e ∷ es → e ≡ d → 10 * n + (d - 48) ≤ m / 10) → 10 * n + (d - 48) ≤ m
begins_front m n d c ds [] last is size h more = absurd (omega (arith, size))
begins_front m n d c ds (e ∷ es) last is size h more = omega (arith, more e es h (sym (heads _ _ _ _ is)))

begins_by : (m n d : ℕ) (ds : List ℕ) (w : Ended d ds) → 10 ≤ m → m < 2 ^ 64 → n < 2 ^ 64 → decimal m ≡ decimal n ++ d ∷ ds →
    ((e : ℕ) (es : List ℕ) → decimal (m / 10) ≡ decimal n ++ e ∷ es → e ≡ d → 10 * n + (d - 48) ≤ m / 10) → 10 * n + (d - 48) ≤ m
begins_by m n d [] w le hm hn e more =
    let h = last_same (decimal (m / 10)) (decimal n) (48 + m % 10) d (sym (decimal_step m le hm) ∙ e) in
    let q = decimal_injective (m / 10) n (omega arith) hn h.0 in
    omega (arith, q, h.1)
begins_by m n d (c ∷ ds) w le hm hn e more =
    let whole : decimal (m / 10) ++ (48 + m % 10) ∷ [] ≡ (decimal n ++ w.front) ++ w.last ∷ [] =
    sym (decimal_step m le hm) ∙ e ∙ ap (λ t. decimal n ++ t) w.is ∙ sym (append_assoc (decimal n) w.front (w.last ∷ [])) in
    let h = last_same (decimal (m / 10)) (decimal n ++ w.front) (48 + m % 10) w.last whole in
    begins_front m n d c ds w.front w.last w.is w.size h.0 more

begins_some : (k m n d : ℕ) (ds : List ℕ) (small : Bool) → ltb m 10 ≡ small → m < 2 ^ 64 → n < 2 ^ 64 → decimal m ≡ decimal n ++ d ∷ ds →
    ((e : ℕ) (es : List ℕ) → decimal (m / 10) ≡ decimal n ++ e ∷ es → 10 * n + (e - 48) ≤ m / 10) → 10 * n + (d - 48) ≤ m
begins_some k m n d ds true h hm hn e more = absurd (too_short m n d ds (ltb-true m 10 h) hn e)
begins_some k m n d ds false h hm hn e more =
    begins_by m n d ds (ended d ds) (ltb-false m 10 h) hm hn e (λ c es q same. subst (λ t. 10 * n + (t - 48) ≤ m / 10) same (more c es q))

begins_next : (k m n d : ℕ) (ds : List ℕ) → m ≤ k → m < 2 ^ 64 → n < 2 ^ 64 → decimal m ≡ decimal n ++ d ∷ ds → 10 * n + (d - 48) ≤ m
begins_next zero m n d ds le hm hn e = absurd (too_short m n d ds (omega arith) hn e)
begins_next (suc k) m n d ds le hm hn e =
    begins_some k m n d ds (ltb m 10) refl hm hn e (λ c es q. begins_next k (m / 10) n c es (omega arith) (omega arith) hn q)

digit_by : (t : Bool) → not t ≡ false → t ≡ true
digit_by true h = refl
digit_by false h = cc

digit_from : (b : ℕ) → not (is_digit b) ≡ false → is_digit b ≡ true
digit_from b h = digit_by (is_digit b) h

pub digit_at : (w : List ℕ) (d : ℕ) (ds : List ℕ) → AreDigits (w ++ d ∷ ds) → is_digit d ≡ true
digit_at [] d ds h = digit_from d (All-head (λ b. not (is_digit b) ≡ false) d ds h)
digit_at (c ∷ w) d ds h = digit_at w d ds (All-tail (λ b. not (is_digit b) ≡ false) c (w ++ d ∷ ds) h)

first_by : (bs : List ℕ) → AreDigits bs → 0 < length bs → (b : ℕ) × (cs : List ℕ) × (bs ≡ b ∷ cs) × (is_digit b ≡ true)
first_by [] h lt = absurd (omega (arith, lt))
first_by (b ∷ bs) h lt = (b, bs, refl, digit_at [] b bs h)

no_first : (end : ℕ) (rest : List ℕ) (b : ℕ) (bs : List ℕ) → EndsAt None rest → is_digit b ≡ true → IsAlike rest (b ∷ bs) → ⊥
no_first end [] b bs ends low alike = alike
no_first end (x ∷ rest) b bs ends low alike = ends (x - 48) (subst (λ c. is_digit c ≡ true) (sym alike) low, refl)

-- the digits of a number begin with one
first_digit : (m : ℕ) → m < 2 ^ 64 → (b : ℕ) × (bs : List ℕ) × (decimal m ≡ b ∷ bs) × (is_digit b ≡ true)
first_digit m h = first_by (decimal m) (all_digits m h) (decimal_nonempty m h)

after_zero : (m d : ℕ) (ds : List ℕ) → m < 2 ^ 64 → decimal m ≡ decimal 0 ++ d ∷ ds → ⊥
after_zero zero d ds h e = too_short 0 0 d ds (omega arith) (omega arith) e
after_zero (suc m) d ds h e =
    omega (arith, first_decimal (suc m) (omega arith) h, ap (λ t. get_or t 0 0) (e ∙ ap (λ t. t ++ d ∷ ds) (decimal_digit 0 (omega arith))))

no_more : (n m d end : ℕ) (ds rest after : List ℕ) → n < 2 ^ 32 → m < 2 ^ 32 → EndsAt (Some n) rest → is_digit d ≡ true → IsAlike rest (d ∷ after) → decimal m ≡ decimal n ++ d ∷ ds → ⊥
no_more n m d end ds [] after hn hm ends low alike e = alike
no_more zero m d end ds (x ∷ rest) after hn hm ends low alike e = after_zero m d ds (omega arith) e
no_more (suc n) m d end ds (x ∷ rest) after hn hm ends low alike e =
    let le = begins_next m m (suc n) d ds (omega arith) (omega arith) (omega arith) e in
    ends (10 * suc n + (x - 48)) (subst (λ b. is_digit b ≡ true) (sym alike) low, omega arith, refl, omega (arith, le, alike))

by_rest : (n m end : ℕ) (ds rest more after : List ℕ) → n < 2 ^ 32 → m < 2 ^ 32 → EndsAt (Some n) rest → (Begins end rest → ⊥) → IsAlike rest more → AreDigits (decimal m) →
    decimal m ≡ decimal n ++ ds → more ≡ ds ++ end ∷ after → ⊥
by_rest n m end [] [] more after hn hm ends other alike all e is = subst (IsAlike []) is alike
by_rest n m end [] (x ∷ rest) more after hn hm ends other alike all e is = other (subst (IsAlike (x ∷ rest)) is alike)
by_rest n m end (d ∷ ds) rest more after hn hm ends other alike all e is =
    no_more n m d end ds rest (ds ++ end ∷ after) hn hm ends (digit_at (decimal n) d ds (subst AreDigits e all)) (subst (IsAlike rest) is alike) e

-- where digits stop, no number goes on as the text does
pub no_number : (n end : ℕ) (rest more : List ℕ) → n < 2 ^ 32 → EndsAt (Some n) rest → not (is_digit end) ≡ true → (Begins end rest → ⊥) → IsAlike rest more → BeginsNumber end (decimal n ++ more) → ⊥
no_number n end rest more hn ends low other alike h =
    let k = run_within (λ b. not (is_digit b)) (decimal n) (decimal h.0) end more h.1 (all_digits n (omega arith)) low h.3 in
    by_rest n h.0 end k.0 rest more h.1 hn h.2 ends other alike (all_digits h.0 (omega (arith, h.2))) k.1 k.2

pub no_digits : (end : ℕ) (rest more : List ℕ) → EndsAt None rest → IsAlike rest more → BeginsNumber end more → ⊥
no_digits end rest more ends alike h =
    let f = first_digit h.0 (omega (arith, h.2)) in
    no_first end rest f.0 (f.1 ++ end ∷ h.1) ends f.3 (subst (IsAlike rest) (h.3 ∙ ap (λ t. t ++ end ∷ h.1) f.2) alike)
