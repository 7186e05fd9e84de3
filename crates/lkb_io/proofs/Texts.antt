-- A text and its lines, both ways.
use Rattle.std.proofs.Common.{◌≡◌, ◌≢◌, ℕ, ◌∙◌, sym, ap, refl, List, [], ◌∷◌, ◌++◌, append_assoc, append-nil, arith, subst, true, false, Bool, ◌==◌, if◌then◌else◌}
use Rattle.std.proofs.lemmas.Grind.{common_steps}
use Rattle.lkb_io.specs.Lines.{HasNoEnd, HaveNoEnd, cut, put_before, lines_of, last_line, text_of}
use Rattle.lkb_io.proofs.Ends.{cut-line, cut-rest}

-- whole lines before any text
pub cut-text : (lines : List (List ℕ)) (rest : List ℕ) → HaveNoEnd lines → cut (text_of lines ++ rest) ≡ (lines ++ (cut rest).0, (cut rest).1)
cut-text [] rest h = refl
cut-text (l ∷ ls) rest h =
    ap cut (append_assoc l (10 ∷ text_of ls) rest) ∙ cut-line l (text_of ls ++ rest) h.0
    ∙ ap (λ p. (l ∷ p.0, p.1)) (cut-text ls rest h.1)

-- whole lines, and then a text without an end
pub cut-whole : (lines : List (List ℕ)) (rest : List ℕ) → HaveNoEnd lines → HasNoEnd rest → cut (text_of lines ++ rest) ≡ (lines, rest)
cut-whole lines rest h k =
    cut-text lines rest h ∙ ap (λ p. (lines ++ p.0, p.1)) (cut-rest rest k) ∙ ap (λ t. (t, rest)) (append-nil lines)

pub lines-text : (lines : List (List ℕ)) (rest : List ℕ) → HaveNoEnd lines → HasNoEnd rest → lines_of (text_of lines ++ rest) ≡ lines ++ last_line rest
lines-text lines rest h k = ap (λ p. p.0 ++ last_line p.1) (cut-whole lines rest h k)

-- these are whole lines and a rest, and the text is made of them
IsCut : List ℕ → List (List ℕ) × List ℕ → Type 0
IsCut bytes p = (bytes ≡ text_of p.0 ++ p.1) × HaveNoEnd p.0 × HasNoEnd p.1

IsCut-end : (bytes : List ℕ) (p : List (List ℕ) × List ℕ) → IsCut bytes p → IsCut (10 ∷ bytes) ([] ∷ p.0, p.1)
unfolding IsCut
IsCut-end bytes p h = (ap (λ t. 10 ∷ t) h.0, (tt, h.1), h.2)

IsCut-put : (b : ℕ) (bytes : List ℕ) (p : List (List ℕ) × List ℕ) → b ≢ 10 → IsCut bytes p → IsCut (b ∷ bytes) (put_before b p)
unfolding IsCut
IsCut-put b bytes ([], rest) n h = (ap (λ t. b ∷ t) h.0, tt, (n, h.2))
IsCut-put b bytes (line ∷ lines, rest) n h = (ap (λ t. b ∷ t) h.0, ((n, h.1.0), h.1.1), h.2)

cut-more : (b : ℕ) (bytes : List ℕ) (t : Bool) → (b == 10) ≡ t → IsCut bytes (cut bytes) → IsCut (b ∷ bytes) (if t then ([] ∷ (cut bytes).0, (cut bytes).1) else put_before b (cut bytes))
cut-more b bytes true e h = let same : b ≡ 10 = grind (arith, common_steps) in subst (λ x. IsCut (x ∷ bytes) ([] ∷ (cut bytes).0, (cut bytes).1)) (sym same) (IsCut-end bytes (cut bytes) h)
cut-more b bytes false e h = IsCut-put b bytes (cut bytes) (λ same. grind (arith, common_steps)) h

is_cut : (bytes : List ℕ) → IsCut bytes (cut bytes)
unfolding IsCut
is_cut [] = (refl, tt, tt)
is_cut (b ∷ bs) = cut-more b bs (b == 10) refl (is_cut bs)

-- what a text is cut into
pub cut-parts : (bytes : List ℕ) → (bytes ≡ text_of (cut bytes).0 ++ (cut bytes).1) × HaveNoEnd (cut bytes).0 × HasNoEnd (cut bytes).1
unfolding IsCut
cut-parts bytes = is_cut bytes
