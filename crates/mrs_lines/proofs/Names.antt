-- Names of TDL, in ASCII lower case, are names of an MRS without dots, and names in the texts of trees.
use Rattle.std.proofs.Common.{ℕ, ◌≡◌, ◌+◌, ◌-◌, ◌<◌, ◌≤◌, Bool, true, false, List, [], ◌∷◌, length, refl, sym, ◌∙◌, ap, subst, arith}
use Rattle.std.specs.Prelude.{All, Contains, ◌||◌, ◌==◌, nat_lt, encode_utf8_all, slice_index_or}
use Rattle.std.specs.Char.{to_ascii_lowercase}
use Rattle.std.specs.List.{list_all}
use Rattle.std.specs.Str.{chars, NonePass}
use Rattle.std.proofs.Math.Utf8.{scalar, scalars, low_scalar}
use Rattle.std.proofs.lemmas.Bool.{eqb-true, false_from_ne_true, true≢false, and_parts, ltb-true, ltb-false, agree_below_at}
use Rattle.std.proofs.lemmas.List.{length-map}
use Rattle.std.proofs.lemmas.Grind.{get_or_default_zero}
use Rattle.std.proofs.lemmas.List.Elements.{All-nil, All-cons, All-from_get_or}
use Rattle.std.proofs.lemmas.Str.{chars-encodes, length-le-encodes, NoCharPasses-byte}
use Rattle.std.proofs.lemmas.Str.Ascii.{lowercase_is}
use Rattle.tdl_lexer.specs.Characters.{is_name}
use Rattle.tdl_lexer.specs.Spelling.{lower}
use Rattle.tdl_lexer.proofs.Complete.{name_not_white, name_is_not}
use Rattle.mrs_model.specs.Texts.{ends_name, is_capital, IsName}
use Rattle.mrs_lines.specs.Fitting.{is_mark, IsInstanceName}

-- one or more name characters, in ASCII lower case
pub record IsTdlName (name : List ℕ) : Type 0 where
  pub word : List ℕ
  pub filled : 0 < length word
  pub signs : list_all is_name word ≡ true
  pub are_scalars : scalars word ≡ true
  pub is : name ≡ encode_utf8_all (lower word)

not_both : (a b : Bool) → a ≡ false → b ≡ false → (a || b) ≡ false
not_both a b e f = rw (e, f) refl

-- a name character ends no name
ends_nothing : (c : ℕ) → is_name c ≡ true → ends_name c ≡ false
unfolding is_name
ends_nothing c e =
    rw (name_not_white c e, name_is_not c 91 e refl, name_is_not c 93 e refl, name_is_not c 60 e refl, name_is_not c 62 e refl, name_is_not c 58 e refl, name_is_not c 34 e refl) refl

no_capital : (c : ℕ) → (64 < c → c < 91 → ⊥) → is_capital c ≡ false
no_capital c h = false_from_ne_true (is_capital c) (λ e. let p = and_parts (nat_lt 64 c) (nat_lt c 91) e in absurd (h (ltb-true 64 c p.0) (ltb-true c 91 p.1)))

abbrev fails : (ℕ → Bool) → ℕ → Type 0
fails test c = test c ≡ false

abbrev is_foreign : ℕ → Bool
is_foreign c = ends_name c || is_capital c

-- the small letters
small : (c : ℕ) → 65 ≤ c → c < 91 → fails is_foreign (c + 32)
small c l u =
    let e : 97 + (c - 65) ≡ c + 32 = omega (arith, l) in
    subst (fails is_foreign) e (agree_below_at (λ i. is_foreign (97 + i)) (λ _. false) 26 (c - 65) refl (omega (arith, l, u)))

small_dot : (c : ℕ) → 65 ≤ c → (c + 32 == 46) ≡ false
small_dot c l = false_from_ne_true (c + 32 == 46) (λ e. let h : c + 32 ≡ 46 = eqb-true (c + 32) 46 e in absurd (omega (arith, h, l)))

-- what holds of other name characters and of small letters holds of name characters in lower case
pub in_lower : (P : ℕ → Type 0) (c : ℕ) → ((64 < c → c < 91 → ⊥) → P c) → (65 ≤ c → c < 91 → P (c + 32)) → P (to_ascii_lowercase c)
in_lower P c other letter = low (nat_lt c 65) refl
  where
    high : (b : Bool) → nat_lt c 91 ≡ b → 65 ≤ c → P (to_ascii_lowercase c)
    high true e l = let u = ltb-true c 91 e in subst P (sym ((lowercase_is c).0 (l, omega (arith, u)))) (letter l u)
    high false e l = let u = ltb-false c 91 e in subst P (sym ((lowercase_is c).2 (omega (arith, u)))) (other (λ _ k. omega (arith, u, k)))

    low : (b : Bool) → nat_lt c 65 ≡ b → P (to_ascii_lowercase c)
    low true e = let u = ltb-true c 65 e in subst P (sym ((lowercase_is c).1 u)) (other (λ k _. omega (arith, u, k)))
    low false e = high (nat_lt c 91) refl (ltb-false c 65 e)

sign_named : (c : ℕ) → is_name c ≡ true → fails is_foreign (to_ascii_lowercase c)
sign_named c e = in_lower (fails is_foreign) c (λ k. not_both (ends_name c) (is_capital c) (ends_nothing c e) (no_capital c k)) (small c)

sign_undotted : (c : ℕ) → is_name c ≡ true → (to_ascii_lowercase c == 46) ≡ false
unfolding is_name
sign_undotted c e = in_lower (λ d. (d == 46) ≡ false) c (λ _. name_is_not c 46 e refl) (λ l _. small_dot c l)

sign_scalar : (c : ℕ) → scalar c ≡ true → scalar (to_ascii_lowercase c) ≡ true
sign_scalar c e = in_lower (λ d. scalar d ≡ true) c (λ _. e) (λ l u. low_scalar (c + 32) (omega (arith, u)))

scalars_lower : (w : List ℕ) → scalars w ≡ true → scalars (lower w) ≡ true
scalars_lower [] e = refl
scalars_lower (c ∷ w) e = let p = and_parts (scalar c) (scalars w) e in rw (sign_scalar c p.0, scalars_lower w p.1) refl

signs_named : (w : List ℕ) → list_all is_name w ≡ true → All (fails is_foreign) (lower w)
signs_named [] e = All-nil (fails is_foreign)
signs_named (c ∷ w) e = let p = and_parts (is_name c) (list_all is_name w) e in All-cons (fails is_foreign) (to_ascii_lowercase c) (lower w) (sign_named c p.0) (signs_named w p.1)

signs_undotted : (w : List ℕ) → list_all is_name w ≡ true → NonePass (λ c. c == 46) (lower w)
signs_undotted [] e = tt
signs_undotted (c ∷ w) e = let p = and_parts (is_name c) (list_all is_name w) e in (sign_undotted c p.0, signs_undotted w p.1)

filled_name : (name : List ℕ) → IsTdlName name → 0 < length name
filled_name name n =
    let long : length (lower n.word) ≤ length (encode_utf8_all (lower n.word)) = length-le-encodes (lower n.word) in
    let same : length (lower n.word) ≡ length n.word = length-map n.word to_ascii_lowercase in
    let size : length name ≡ length (encode_utf8_all (lower n.word)) = ap length n.is in
    let filled = n.filled in
    omega (arith, long, same, size, filled)

-- a name of an MRS
pub named : (name : List ℕ) → IsTdlName name → IsName name
named name n =
    let spelled : chars name ≡ lower n.word = ap chars n.is ∙ chars-encodes (lower n.word) (scalars_lower n.word n.are_scalars) in
    record { filled = filled_name name n; signs = subst (All (fails is_foreign)) (sym spelled) (signs_named n.word n.signs) }

-- without dots
pub undotted : (name : List ℕ) → IsTdlName name → Contains name 46 → ⊥
undotted name n h =
    let at : slice_index_or name h.0 0 ≡ 46 = sym (get_or_default_zero name h.0 46 h.1) ∙ h.2 in
    let none = NoCharPasses-byte (λ c. c == 46) name h.0 (lower n.word, sym n.is, signs_undotted n.word n.signs) h.1 (omega (arith, at)) in
    true≢false (subst (λ c. (c == 46) ≡ false) at none)

no_mark : (c : ℕ) → (c == 32) ≡ false → (c == 34) ≡ false → (c == 40) ≡ false → (c == 41) ≡ false → is_mark c ≡ false
no_mark c a b d e = rw (a, b, d, e) refl

is_other : (c k : ℕ) → k < c → (c == k) ≡ false
is_other c k l = false_from_ne_true (c == k) (λ e. let h : c ≡ k = eqb-true c k e in absurd (omega (arith, h, l)))

beyond_marks : (c : ℕ) → 41 < c → fails is_mark c
beyond_marks c l = no_mark c (is_other c 32 (omega (arith, l))) (is_other c 34 (omega (arith, l))) (is_other c 40 (omega (arith, l))) (is_other c 41 l)

sign_unmarked : (c : ℕ) → is_name c ≡ true → fails is_mark (to_ascii_lowercase c)
unfolding is_name
sign_unmarked c e =
    in_lower (fails is_mark) c (λ _. no_mark c (name_is_not c 32 e refl) (name_is_not c 34 e refl) (name_is_not c 40 e refl) (name_is_not c 41 e refl)) (λ l _. beyond_marks (c + 32) (omega (arith, l)))

signs_unmarked : (w : List ℕ) → list_all is_name w ≡ true → NonePass is_mark (lower w)
signs_unmarked [] e = tt
signs_unmarked (c ∷ w) e = let p = and_parts (is_name c) (list_all is_name w) e in (sign_unmarked c p.0, signs_unmarked w p.1)

-- each byte of such a name, since those past ASCII are no marks
byte_unmarked : (name : List ℕ) → IsTdlName name → (i : ℕ) → i < length name → fails is_mark (slice_index_or name i 0)
byte_unmarked name n i l = go (nat_lt (slice_index_or name i 0) 128) refl
  where
    go : (b : Bool) → nat_lt (slice_index_or name i 0) 128 ≡ b → fails is_mark (slice_index_or name i 0)
    go true e = NoCharPasses-byte is_mark name i (lower n.word, sym n.is, signs_unmarked n.word n.signs) l (ltb-true (slice_index_or name i 0) 128 e)
    go false e = let u = ltb-false (slice_index_or name i 0) 128 e in beyond_marks (slice_index_or name i 0) (omega (arith, u))

-- a name of an instance
pub unmarked : (name : List ℕ) → IsTdlName name → IsInstanceName name
unmarked name n = (filled_name name n, All-from_get_or (fails is_mark) name 0 (byte_unmarked name n))
