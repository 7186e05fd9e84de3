-- What a line gives, by its parts; and the first line of bytes.
use Rattle.std.proofs.Common.{◌≡◌, ℕ, ◌+◌, ◌-◌, ◌<◌, ◌≤◌, Bool, true, false, List, [], ◌∷◌, ◌++◌, length, take, drop, Some, None, if◌then◌else◌, refl, ap, sym, ◌∙◌, arith, get_or, add-one}
use Rattle.std.specs.Str.{IsUtf8, is_utf8, chars}
use Rattle.std.proofs.lemmas.Str.{is_utf8-from_IsUtf8, IsUtf8-from_is_utf8}
use Rattle.std.proofs.lemmas.List.{take_rest}
use Rattle.lkb_io.specs.Lines.{HasNoEnd, lines_of, last_line}
use Rattle.lkb_io.proofs.Ends.{HasNoEnd-all, split-at, cut-line, cut-rest}
use Rattle.grammar_settings.specs.SettingsFiles.{words, is_comment, entry_of, line_gives}

by_true : {A : Type 0} (b : Bool) (x y : A) → b ≡ true → (if b then x else y) ≡ x
by_true b x y e = rw e refl

by_false : {A : Type 0} (b : Bool) (x y : A) → b ≡ false → (if b then x else y) ≡ y
by_false b x y e = rw e refl

not_utf8 : (line : List ℕ) (b : Bool) → is_utf8 line ≡ b → (IsUtf8 line → ⊥) → b ≡ false
not_utf8 line true e bad = absurd (bad (IsUtf8-from_is_utf8 line e))
not_utf8 line false e bad = refl

pub gives_no_utf8 : (n : ℕ) (line : List ℕ) → (IsUtf8 line → ⊥) → line_gives n line ≡ None
gives_no_utf8 n line bad = by_false (is_utf8 line) _ _ (not_utf8 line (is_utf8 line) refl bad)

pub gives_comment : (n : ℕ) (line : List ℕ) → IsUtf8 line → is_comment line ≡ true → line_gives n line ≡ Some None
gives_comment n line u e = by_true (is_utf8 line) _ _ (is_utf8-from_IsUtf8 line u) ∙ by_true (is_comment line) _ _ e

pub gives_words : (n : ℕ) (line : List ℕ) (cs : List ℕ) (ws : List (List ℕ)) → IsUtf8 line → is_comment line ≡ false → cs ≡ chars line → ws ≡ words cs
    → line_gives n line ≡ entry_of n ws
gives_words n line cs ws u e f g =
    by_true (is_utf8 line) _ _ (is_utf8-from_IsUtf8 line u) ∙ by_false (is_comment line) _ _ e ∙ ap (λ t. entry_of n (words t)) (sym f) ∙ ap (entry_of n) (sym g)

pub lines-line : (line rest : List ℕ) → HasNoEnd line → lines_of (line ++ 10 ∷ rest) ≡ line ∷ lines_of rest
lines-line line rest h = ap (λ p. p.0 ++ last_line p.1) (cut-line line rest h)

lines-cons : (b : ℕ) (bs : List ℕ) → HasNoEnd (b ∷ bs) → lines_of (b ∷ bs) ≡ (b ∷ bs) ∷ []
lines-cons b bs h = ap (λ p. p.0 ++ last_line p.1) (cut-rest (b ∷ bs) h)

pub lines-rest : (bs : List ℕ) (i : ℕ) → 0 < length bs → length bs ≤ i → HasNoEnd (take i bs) → lines_of bs ≡ bs ∷ []
lines-rest [] i some all h = absurd (omega (arith, some))
lines-rest (b ∷ bs) i some all h = lines-cons b bs (HasNoEnd-all (b ∷ bs) i all h)

pub lines-at : (bs : List ℕ) (i : ℕ) → i < length bs → HasNoEnd (take i bs) → get_or bs i 0 ≡ 10
    → lines_of bs ≡ take i bs ∷ lines_of (take (length bs - (i + 1)) (drop (i + 1) bs))
lines-at bs i h k e =
    ap lines_of (split-at bs i 0 h e ∙ ap (λ j. take i bs ++ 10 ∷ drop j bs) (sym (add-one i))) ∙ lines-line (take i bs) (drop (i + 1) bs) k ∙ ap (λ t. take i bs ∷ lines_of t) (sym (take_rest bs (i + 1)))
