-- What a word of digits writes.
use Rattle.std.proofs.Common.{◌≡◌, ℕ, ◌^◌, ◌<◌, ◌==◌, ◌&&◌, not, nat_lt, Bool, true, false, if◌then◌else◌, List, [], ◌∷◌, length, Some, None, Option, Result, Ok, Err, refl, sym, ap, ◌∙◌, arith}
use Rattle.std.specs.Str.{all_ascii_digits}
use Rattle.std.specs.Str.Parse.{digits_value, ParsesUnsigned}
use Rattle.std.specs.Result.{OkIff}
use Rattle.std.proofs.lemmas.Str.Parse.{IsNumeralModel, numerals_by_value, tells_all_ascii_digits, parse_digits}
use Rattle.profile_reports.specs.declared.profiles.Expected.{Expected}
use Rattle.profile_reports.specs.declared.profiles.Expected.TheVariants.{Readings}
use Rattle.profile_reports.specs.Profiles.{is_number, number_of}

own : IsNumeralModel (λ ds. all_ascii_digits ds ≡ true) (digits_value 10)
own = numerals_by_value _ tells_all_ascii_digits

by_true : {A : Type 0} (b : Bool) (x y : A) → b ≡ true → (if b then x else y) ≡ x
by_true b x y e = rw e refl

by_false : {A : Type 0} (b : Bool) (x y : A) → b ≡ false → (if b then x else y) ≡ y
by_false b x y e = rw e refl

digits_in : (w : List ℕ) → is_number w ≡ true → all_ascii_digits w ≡ true
digits_in w e = grind (arith, e)

some_in : (w : List ℕ) → is_number w ≡ true → 0 < length w
some_in [] e = grind (arith, e)
some_in (c ∷ cs) e = omega arith

pub read_err : {E : Type 0} (w : List ℕ) (x : E) → is_number w ≡ true → ParsesUnsigned {E = E} 32 10 w (Err x) → None ≡ number_of w
read_err w x e p =
    let q = parse_digits own 32 w (Err x) p (digits_in w e) in
    let big : digits_value 10 w < 2 ^ 32 → ⊥ = λ lt. q (some_in w e, lt) in
    let large : nat_lt (digits_value 10 w) (2 ^ 32) ≡ false = grind (arith, big) in
    sym (by_true (is_number w) _ _ e ∙ by_false (nat_lt (digits_value 10 w) (2 ^ 32)) _ _ large)
