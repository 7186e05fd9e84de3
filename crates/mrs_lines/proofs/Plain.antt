-- Names that are written in small ASCII letters, digits and other ASCII name characters.
use Rattle.std.proofs.Common.{ℕ, ◌≡◌, ◌+◌, ◌<◌, ◌≤◌, ◌^◌, ◌%◌, Bool, true, false, not, List, [], ◌∷◌, length, length-append, refl, sym, ◌∙◌, ap, arith}
use Rattle.std.specs.Prelude.{All, ◌&&◌, nat_lt, encode_utf8_all, codes}
use Rattle.std.specs.Fmt.{decimal}
use Rattle.std.specs.List.{list_all}
use Rattle.std.proofs.Math.Utf8.{scalars, low_scalar}
use Rattle.std.proofs.lemmas.Bool.{and_parts, ltb-true, lt-ltb, agree_below_at}
use Rattle.std.proofs.lemmas.Fmt.{decimal_by_steps}
use Rattle.std.proofs.lemmas.List.Elements.{All-nil, All-cons}
use Rattle.std.proofs.lemmas.List.Folds.{list_all-append}
use Rattle.std.proofs.lemmas.Str.{encodes-IsAscii}
use Rattle.std.proofs.lemmas.Str.Ascii.{IsAscii-from_all}
use Rattle.std.specs.Char.{to_ascii_lowercase}
use Rattle.tdl_lexer.specs.Characters.{is_name}
use Rattle.tdl_lexer.specs.Spelling.{lower}
use Rattle.type_hierarchy.specs.Table.{glb_name}
use Rattle.mrs_model.specs.Texts.{is_capital}
use Rattle.mrs_lines.proofs.Names.{IsTdlName, in_lower}

abbrev pub is_plain : ℕ → Bool
is_plain c = nat_lt c 128 && (is_name c && not (is_capital c))

pub record Plain (c : ℕ) : Type 0 where
  pub low : c < 128
  pub sign : is_name c ≡ true
  pub small : not (is_capital c) ≡ true

plain_parts : (c : ℕ) → is_plain c ≡ true → Plain c
plain_parts c e =
    let p = and_parts (nat_lt c 128) (is_name c && not (is_capital c)) e in
    let q = and_parts (is_name c) (not (is_capital c)) p.1 in
    record { low = ltb-true c 128 p.0; sign = q.0; small = q.1 }

capital : (c : ℕ) → 65 ≤ c → c < 91 → is_capital c ≡ true
capital c l u = rw (lt-ltb 64 c (omega (arith, l)), lt-ltb c 91 u) refl

stays : (c : ℕ) → not (is_capital c) ≡ true → to_ascii_lowercase c ≡ c
stays c e = in_lower (λ d. d ≡ c) c (λ _. refl) (λ l u. absurd (let z : false ≡ true = sym (ap not (capital c l u)) ∙ e in cc))

all_stay : (w : List ℕ) → list_all is_plain w ≡ true → lower w ≡ w
all_stay [] e = refl
all_stay (c ∷ w) e =
    let p = and_parts (is_plain c) (list_all is_plain w) e in
    let head = stays c (plain_parts c p.0).small in
    let rest = all_stay w p.1 in
    λ i. head i ∷ rest i

all_signs : (w : List ℕ) → list_all is_plain w ≡ true → list_all is_name w ≡ true
all_signs [] e = refl
all_signs (c ∷ w) e = let p = and_parts (is_plain c) (list_all is_plain w) e in rw ((plain_parts c p.0).sign, all_signs w p.1) refl

all_low : (w : List ℕ) → list_all is_plain w ≡ true → All (λ c. c < 128) w
all_low [] e = All-nil (λ c. c < 128)
all_low (c ∷ w) e = let p = and_parts (is_plain c) (list_all is_plain w) e in All-cons (λ c. c < 128) c w (plain_parts c p.0).low (all_low w p.1)

all_scalars : (w : List ℕ) → list_all is_plain w ≡ true → scalars w ≡ true
all_scalars [] e = refl
all_scalars (c ∷ w) e =
    let p = and_parts (is_plain c) (list_all is_plain w) e in
    let l = (plain_parts c p.0).low in
    rw (low_scalar c (omega (arith, l)), all_scalars w p.1) refl

pub plain_name : (name : List ℕ) → 0 < length name → list_all is_plain name ≡ true → IsTdlName name
plain_name name filled e =
    record {
      word = name;
      filled = filled;
      signs = all_signs name e;
      are_scalars = all_scalars name e;
      is = sym (ap encode_utf8_all (all_stay name e) ∙ encodes-IsAscii name (IsAscii-from_all name (all_low name e)));
    }

digit : (n : ℕ) → n < 10 → is_plain (48 + n) ≡ true
unfolding is_name
digit n l = agree_below_at (λ i. is_plain (48 + i)) (λ _. true) 10 n refl l

one_digit : (n : ℕ) → n < 10 → list_all is_plain ((48 + n) ∷ []) ≡ true
one_digit n l = rw (digit n l) refl

digits_plain : (n : ℕ) → n < 2 ^ 64 → list_all is_plain (decimal n) ≡ true
digits_plain n l =
    decimal_by_steps (λ _ ds. list_all is_plain ds ≡ true) one_digit
    (λ m ds _ h. list_all-append is_plain ds ((48 + m % 10) ∷ []) ∙ rw (h, one_digit (m % 10) (omega arith)) refl) n l

-- the names of added types
pub glb_named : (k : ℕ) → k < 2 ^ 64 → IsTdlName (glb_name k)
unfolding is_name
glb_named k l =
    let front : list_all is_plain (codes "glbtype") ≡ true = refl in
    let size : length (glb_name k) ≡ 7 + length (decimal k) = length-append (codes "glbtype") (decimal k) in
    plain_name (glb_name k) (omega (arith, size)) (list_all-append is_plain (codes "glbtype") (decimal k) ∙ rw (front, digits_plain k l) refl)
