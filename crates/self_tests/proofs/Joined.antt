-- Words that are joined by blanks, and phrases that are added one by one.
use Rattle.std.proofs.Common.{◌≡◌, ℕ, zero, suc, ◌+◌, ◌%◌, ◌∙◌, sym, ap, List, [], ◌∷◌, ◌++◌, arith, append_assoc, append-nil, add-one, decimal}
use Rattle.std.specs.List.{flat_map, range_with_len, join_with_byte}
use Rattle.std.proofs.lemmas.Grind.{flat_map-append}
use Rattle.self_tests.specs.WorkloadInner.{spaced}
use Rattle.self_tests.specs.Lines.{noun, verb, phrases, line}

joined : (w : List ℕ) (ws : List (List ℕ)) → join_with_byte 32 (w ∷ ws) ≡ w ++ spaced ws
joined w [] = sym (append-nil w)
joined w (v ∷ ws) = ap (λ t. w ++ 32 ∷ t) (joined v ws)

-- one number more
range-more : (a n : ℕ) → range_with_len a (suc n) ≡ range_with_len a n ++ (a + n) ∷ []
range-more a zero = let e : a ≡ a + 0 = omega arith in ap (λ k. k ∷ []) e
range-more a (suc n) =
    let e : a + 1 + n ≡ a + suc n = omega arith in
    ap (λ t. a ∷ t) (range-more (a + 1) n ∙ ap (λ k. range_with_len (a + 1) n ++ k ∷ []) e)

-- one phrase more
spaced-more : (f : ℕ → List (List ℕ)) (n : ℕ) → spaced (flat_map f (range_with_len 1 (n + 1))) ≡ spaced (flat_map f (range_with_len 1 n)) ++ spaced (f (n + 1))
spaced-more f n =
    let one : 1 + n ≡ n + 1 = omega arith in
    ap (λ k. spaced (flat_map f (range_with_len 1 k))) (add-one n)
    ∙ ap (λ r. spaced (flat_map f r)) (range-more 1 n)
    ∙ ap spaced (flat_map-append f (range_with_len 1 n) ((1 + n) ∷ []))
    ∙ ap (λ t. spaced (flat_map f (range_with_len 1 n) ++ t)) (append-nil (f (1 + n)))
    ∙ ap (λ k. spaced (flat_map f (range_with_len 1 n) ++ f k)) one
    ∙ flat_map-append (λ word. 32 ∷ word) (flat_map f (range_with_len 1 n)) (f (n + 1))

-- a phrase was added to a line
pub phrases-step : (f : ℕ → List (List ℕ)) (line before new : List ℕ) (n : ℕ) → before ≡ line ++ spaced (flat_map f (range_with_len 1 n)) → new ≡ before ++ spaced (f (n + 1))
    → new ≡ line ++ spaced (flat_map f (range_with_len 1 (n + 1)))
phrases-step f line before new n inv e =
    e ∙ ap (λ t. t ++ spaced (f (n + 1))) inv ∙ append_assoc line (spaced (flat_map f (range_with_len 1 n))) (spaced (f (n + 1)))
    ∙ ap (λ t. line ++ t) (sym (spaced-more f n))

-- noun, verb and noun, and then the phrases
pub line-of : (place : ℕ) (start verbal nominal whole : List ℕ) → start ≡ [] ++ 110 ∷ decimal (place % 10) → verbal ≡ start ++ 32 ∷ 118 ∷ decimal (place % 5)
    → nominal ≡ verbal ++ 32 ∷ 110 ∷ decimal ((place + 3) % 10) → whole ≡ nominal ++ spaced (phrases place (place % 7)) → whole ≡ line place
line-of place start verbal nominal whole a b c d =
    let same : place ≡ place + 0 = omega arith in
    let rest = spaced (phrases place (place % 7)) in
    let v = 32 ∷ 118 ∷ decimal (place % 5) in
    let n = 32 ∷ 110 ∷ decimal ((place + 3) % 10) in
    d ∙ ap (λ t. t ++ rest) (c ∙ ap (λ t. t ++ n) (b ∙ ap (λ t. t ++ v) a))
    ∙ append_assoc ((110 ∷ decimal (place % 10)) ++ v) n rest
    ∙ append_assoc (110 ∷ decimal (place % 10)) v (n ++ rest)
    ∙ ap (λ k. (110 ∷ decimal (k % 10)) ++ (v ++ (n ++ rest))) same
    ∙ sym (joined (noun place 0) (verb place ∷ noun place 1 ∷ phrases place (place % 7)))
