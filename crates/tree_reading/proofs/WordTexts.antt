-- What stands between quotes is that of one list of words.
use Rattle.std.proofs.Common.{◌≡◌, ℕ, Bool, true, false, ◌==◌, ◌||◌, if◌then◌else◌, eqb-true, List, [], ◌∷◌, ◌++◌, refl, sym, ap, subst, ◌∙◌, append_assoc, append-nil, ◌⊎◌, inl, inr, arith}
use Rattle.std.specs.List.{All, flat_map, join_with_byte}
use Rattle.std.proofs.lemmas.Bool.{false≢true}
use Rattle.std.proofs.lemmas.List.Elements.{All-head, All-tail}
use Rattle.std.proofs.lemmas.List.Concat.{flat_map-append}
use Rattle.derivation.specs.Text.{escaped}
use Rattle.tree_reading.specs.Grammars.{IsWord, AreWords}
use Rattle.tree_reading.specs.Inner.Stops.{body, EndsWord}
use Rattle.tree_reading.proofs.Runs.{heads, rests}

abbrev pub IsUnbroken : List ℕ → Type 0
IsUnbroken word = All (λ byte. (byte == 32) ≡ false) word

abbrev pub EscapeCases : ℕ → Type 0
EscapeCases b = ((escaped b ≡ 92 ∷ b ∷ []) × ((b ≡ 34) ⊎ (b ≡ 92))) ⊎ ((escaped b ≡ b ∷ []) × ((b == 34) ≡ false) × ((b == 92) ≡ false))

escape_by : (b : ℕ) (p q : Bool) → (b == 34) ≡ p → (b == 92) ≡ q → EscapeCases b
escape_by b true q e f = inl (ap (λ t. if (t || (b == 92)) then 92 ∷ b ∷ [] else b ∷ []) e, inl (eqb-true b 34 e))
escape_by b false true e f =
    inl (ap (λ t. if (t || (b == 92)) then 92 ∷ b ∷ [] else b ∷ []) e ∙ ap (λ t. if (false || t) then 92 ∷ b ∷ [] else b ∷ []) f, inr (eqb-true b 92 f))
escape_by b false false e f =
    inr (ap (λ t. if (t || (b == 92)) then 92 ∷ b ∷ [] else b ∷ []) e ∙ ap (λ t. if (false || t) then 92 ∷ b ∷ [] else b ∷ []) f, e, f)

pub escape_cases : (b : ℕ) → EscapeCases b
escape_cases b = escape_by b (b == 34) (b == 92) refl refl

-- a byte that isn't another
unlike : (b c : ℕ) → (b == c) ≡ false → (c == c) ≡ true → b ≡ c → ⊥
unlike b c e t h = false≢true (sym e ∙ ap (λ k. k == c) h ∙ t)

opened : (c : ℕ) (w more us : List ℕ) → escaped c ≡ us → flat_map escaped (c ∷ w) ++ more ≡ us ++ (flat_map escaped w ++ more)
opened c w more us e = ap (λ t. (t ++ flat_map escaped w) ++ more) e ∙ append_assoc us (flat_map escaped w) more

-- a byte of a word isn't what ends one
not_end : (c x : ℕ) (us vs : List ℕ) → (c == 32) ≡ false → EndsWord x → EscapeCases c → escaped c ++ us ≡ x ∷ vs → ⊥
not_end c x us vs low (inl e) (inl h) k = let j : 92 ∷ c ∷ us ≡ x ∷ vs = ap (λ t. t ++ us) (sym h.0) ∙ k in omega (arith, heads _ _ _ _ j, e)
not_end c x us vs low (inr e) (inl h) k = let j : 92 ∷ c ∷ us ≡ x ∷ vs = ap (λ t. t ++ us) (sym h.0) ∙ k in omega (arith, heads _ _ _ _ j, e)
not_end c x us vs low (inl e) (inr h) k = let j : c ∷ us ≡ x ∷ vs = ap (λ t. t ++ us) (sym h.0) ∙ k in unlike c 32 low refl (heads _ _ _ _ j ∙ e)
not_end c x us vs low (inr e) (inr h) k = let j : c ∷ us ≡ x ∷ vs = ap (λ t. t ++ us) (sym h.0) ∙ k in unlike c 34 h.1 refl (heads _ _ _ _ j ∙ e)

-- the same byte at the beginning
same_byte : (c d : ℕ) (us vs : List ℕ) → EscapeCases c → EscapeCases d → escaped c ++ us ≡ escaped d ++ vs → (c ≡ d) × (us ≡ vs)
same_byte c d us vs (inl h) (inl k) e = let j : 92 ∷ c ∷ us ≡ 92 ∷ d ∷ vs = ap (λ t. t ++ us) (sym h.0) ∙ e ∙ ap (λ t. t ++ vs) k.0 in (heads _ _ _ _ (rests _ _ _ _ j), rests _ _ _ _ (rests _ _ _ _ j))
same_byte c d us vs (inl h) (inr k) e = let j : 92 ∷ c ∷ us ≡ d ∷ vs = ap (λ t. t ++ us) (sym h.0) ∙ e ∙ ap (λ t. t ++ vs) k.0 in absurd (unlike d 92 k.2 refl (sym (heads _ _ _ _ j)))
same_byte c d us vs (inr h) (inl k) e = let j : c ∷ us ≡ 92 ∷ d ∷ vs = ap (λ t. t ++ us) (sym h.0) ∙ e ∙ ap (λ t. t ++ vs) k.0 in absurd (unlike c 92 h.2 refl (heads _ _ _ _ j))
same_byte c d us vs (inr h) (inr k) e = let j : c ∷ us ≡ d ∷ vs = ap (λ t. t ++ us) (sym h.0) ∙ e ∙ ap (λ t. t ++ vs) k.0 in (heads _ _ _ _ j, rests _ _ _ _ j)

-- a part of a word is a part of the word that stands there
pub word_within : (w m : List ℕ) (x : ℕ) (more u : List ℕ) → IsUnbroken w → EndsWord x → flat_map escaped w ++ more ≡ flat_map escaped m ++ x ∷ u →
    (rest : List ℕ) × (m ≡ w ++ rest) × (more ≡ flat_map escaped rest ++ x ∷ u)
word_within [] m x more u a hx e = (m, refl, e)
word_within (c ∷ w) [] x more u a hx e =
    absurd (not_end c x _ u (All-head (λ b. (b == 32) ≡ false) c w a) hx (escape_cases c) (sym (append_assoc (escaped c) (flat_map escaped w) more) ∙ e))
word_within (c ∷ w) (d ∷ m) x more u a hx e =
    let s = same_byte c d _ _ (escape_cases c) (escape_cases d) (sym (append_assoc (escaped c) (flat_map escaped w) more) ∙ e ∙ append_assoc (escaped d) (flat_map escaped m) (x ∷ u)) in
    let h = word_within w m x more u (All-tail (λ b. (b == 32) ≡ false) c w a) hx s.1 in
    (h.0, cc (s.0, h.1), h.2)

pub unbroken_at : (w : List ℕ) (c : ℕ) (rest : List ℕ) → IsUnbroken (w ++ c ∷ rest) → (c == 32) ≡ false
unbroken_at [] c rest h = All-head (λ b. (b == 32) ≡ false) c rest h
unbroken_at (d ∷ w) c rest h = unbroken_at w c rest (All-tail (λ b. (b == 32) ≡ false) d (w ++ c ∷ rest) h)

word_ends : (w v : List ℕ) (x y : ℕ) (r s rest : List ℕ) → IsUnbroken v → EndsWord x → v ≡ w ++ rest → x ∷ r ≡ flat_map escaped rest ++ y ∷ s → (w ≡ v) × (x ≡ y) × (r ≡ s)
word_ends w v x y r s [] b hx is k = (sym (append-nil w) ∙ sym is, heads _ _ _ _ k, rests _ _ _ _ k)
word_ends w v x y r s (c ∷ rest) b hx is k =
    let whole : IsUnbroken (w ++ c ∷ rest) = subst IsUnbroken is b in
    absurd (not_end c x _ r (unbroken_at w c rest whole) hx (escape_cases c) (sym (append_assoc (escaped c) (flat_map escaped rest) (y ∷ s)) ∙ sym k))

pub word_splits : (w v : List ℕ) (x y : ℕ) (r s : List ℕ) → IsUnbroken w → IsUnbroken v → EndsWord x → EndsWord y →
    flat_map escaped w ++ x ∷ r ≡ flat_map escaped v ++ y ∷ s → (w ≡ v) × (x ≡ y) × (r ≡ s)
word_splits w v x y r s a b hx hy e =
    let h = word_within w v y (x ∷ r) s a hy e in
    word_ends w v x y r s h.0 b hx h.1 h.2

-- each word and a blank after it
abbrev pub spelled : List (List ℕ) → List ℕ
spelled [] = []
spelled (w ∷ ws) = flat_map escaped w ++ 32 ∷ spelled ws

pub body_one : (v s : List ℕ) → body (v ∷ []) ++ s ≡ flat_map escaped v ++ 34 ∷ s
body_one v s = append_assoc (flat_map escaped v) (34 ∷ []) s

pub body_more : (v w : List ℕ) (ws : List (List ℕ)) (s : List ℕ) → body (v ∷ w ∷ ws) ++ s ≡ flat_map escaped v ++ 32 ∷ (body (w ∷ ws) ++ s)
body_more v w ws s =
    ap (λ t. (t ++ 34 ∷ []) ++ s) (flat_map-append escaped v (32 ∷ join_with_byte 32 (w ∷ ws)))
    ∙ ap (λ t. t ++ s) (append_assoc (flat_map escaped v) (32 ∷ flat_map escaped (join_with_byte 32 (w ∷ ws))) (34 ∷ []))
    ∙ append_assoc (flat_map escaped v) (32 ∷ body (w ∷ ws)) s

pub are_more : (v w : List ℕ) (ws : List (List ℕ)) → AreWords (v ∷ w ∷ ws) → AreWords (w ∷ ws)
are_more v w ws h = (omega arith, All-tail IsWord v (w ∷ ws) h.1)

pub first_word : (v : List ℕ) (vs : List (List ℕ)) → AreWords (v ∷ vs) → IsWord v
first_word v vs h = All-head IsWord v vs h.1

pub decode_body : (ws vs : List (List ℕ)) (r s : List ℕ) → AreWords ws → AreWords vs → body ws ++ r ≡ body vs ++ s → (ws ≡ vs) × (r ≡ s)
decode_body [] vs r s a b e = absurd (omega (arith, a.0))
decode_body (w ∷ ws) [] r s a b e = absurd (omega (arith, b.0))
decode_body (w ∷ []) (v ∷ []) r s a b e =
    let h = word_splits w v 34 34 r s (first_word w [] a).1 (first_word v [] b).1 (inr refl) (inr refl) (sym (body_one w r) ∙ e ∙ body_one v s) in
    (cc (h.0), h.2)
decode_body (w ∷ []) (v ∷ x ∷ vs) r s a b e =
    let h = word_splits w v 34 32 r _ (first_word w [] a).1 (first_word v (x ∷ vs) b).1 (inr refl) (inl refl) (sym (body_one w r) ∙ e ∙ body_more v x vs s) in
    absurd (omega (arith, h.1))
decode_body (w ∷ x ∷ ws) (v ∷ []) r s a b e =
    let h = word_splits w v 32 34 _ s (first_word w (x ∷ ws) a).1 (first_word v [] b).1 (inl refl) (inr refl) (sym (body_more w x ws r) ∙ e ∙ body_one v s) in
    absurd (omega (arith, h.1))
decode_body (w ∷ x ∷ ws) (v ∷ y ∷ vs) r s a b e =
    let h = word_splits w v 32 32 _ _ (first_word w (x ∷ ws) a).1 (first_word v (y ∷ vs) b).1 (inl refl) (inl refl) (sym (body_more w x ws r) ∙ e ∙ body_more v y vs s) in
    let d = decode_body (x ∷ ws) (y ∷ vs) r s (are_more w x ws a) (are_more v y vs b) h.2 in
    (cc (h.0, d.0), d.1)

-- the words that are read, the next one and those after it
pub split_body : (done vs : List (List ℕ)) (r s : List ℕ) → All IsWord done → AreWords vs → spelled done ++ r ≡ body vs ++ s →
    (v : List ℕ) × (later : List (List ℕ)) × (r ≡ body (v ∷ later) ++ s) × AreWords (v ∷ later)
split_body [] [] r s a b e = absurd (omega (arith, b.0))
split_body [] (v ∷ vs) r s a b e = (v, vs, e, b)
split_body (d ∷ ds) [] r s a b e = absurd (omega (arith, b.0))
split_body (d ∷ ds) (v ∷ []) r s a b e =
    let h = word_splits d v 32 34 _ s (All-head IsWord d ds a).1 (first_word v [] b).1 (inl refl) (inr refl) (sym (append_assoc (flat_map escaped d) (32 ∷ spelled ds) r) ∙ e ∙ body_one v s) in
    absurd (omega (arith, h.1))
split_body (d ∷ ds) (v ∷ w ∷ ws) r s a b e =
    let h = word_splits d v 32 32 _ _ (All-head IsWord d ds a).1 (first_word v (w ∷ ws) b).1 (inl refl) (inl refl) (sym (append_assoc (flat_map escaped d) (32 ∷ spelled ds) r) ∙ e ∙ body_more v w ws s) in
    split_body ds (w ∷ ws) r s (All-tail IsWord d ds a) (are_more v w ws b) h.2

-- one word more
pub spelled_more : (ws : List (List ℕ)) (w : List ℕ) → spelled (ws ++ w ∷ []) ≡ spelled ws ++ (flat_map escaped w ++ 32 ∷ [])
spelled_more [] w = refl
spelled_more (v ∷ ws) w = ap (λ t. flat_map escaped v ++ 32 ∷ t) (spelled_more ws w) ∙ sym (append_assoc (flat_map escaped v) (32 ∷ spelled ws) (flat_map escaped w ++ 32 ∷ []))

-- the last word
pub body_last : (ws : List (List ℕ)) (w s : List ℕ) → body (ws ++ w ∷ []) ++ s ≡ spelled ws ++ (flat_map escaped w ++ 34 ∷ s)
body_last [] w s = body_one w s
body_last (v ∷ []) w s = body_more v w [] s ∙ ap (λ t. flat_map escaped v ++ 32 ∷ t) (body_one w s) ∙ sym (append_assoc (flat_map escaped v) (32 ∷ []) (flat_map escaped w ++ 34 ∷ s))
body_last (v ∷ x ∷ ws) w s =
    body_more v x (ws ++ w ∷ []) s ∙ ap (λ t. flat_map escaped v ++ 32 ∷ t) (body_last (x ∷ ws) w s)
    ∙ sym (append_assoc (flat_map escaped v) (32 ∷ spelled (x ∷ ws)) (flat_map escaped w ++ 34 ∷ s))
