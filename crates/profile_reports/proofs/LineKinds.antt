-- What a line writes, by its kind.
use Rattle.std.proofs.Common.{◌≡◌, ℕ, nat_lt, Bool, true, false, if◌then◌else◌, List, length, refl, sym, ◌∙◌}
use Rattle.std.specs.Str.{IsUtf8, is_utf8, chars, skip_leading_whitespace}
use Rattle.std.proofs.lemmas.Str.{is_utf8-from_IsUtf8, IsUtf8-from_is_utf8}
use Rattle.profile_reports.specs.Profiles.{not_utf8, written, item_of}

by_true : {A : Type 0} (b : Bool) (x y : A) → b ≡ true → (if b then x else y) ≡ x
by_true b x y e = rw e refl

by_false : {A : Type 0} (b : Bool) (x y : A) → b ≡ false → (if b then x else y) ≡ y
by_false b x y e = rw e refl

is_not : (line : List ℕ) (b : Bool) → is_utf8 line ≡ b → (IsUtf8 line → ⊥) → b ≡ false
is_not line true e bad = absurd (bad (IsUtf8-from_is_utf8 line e))
is_not line false e bad = refl

pub of_bytes : (line : List ℕ) (trees : List (List ℕ)) → nat_lt 65535 (length line) ≡ false → (IsUtf8 line → ⊥) → not_utf8 ≡ item_of line trees
of_bytes line trees short bad = sym (by_false (nat_lt 65535 (length line)) _ _ short ∙ by_false (is_utf8 line) _ _ (is_not line (is_utf8 line) refl bad))

pub of_text : (line : List ℕ) (trees : List (List ℕ)) → nat_lt 65535 (length line) ≡ false → IsUtf8 line → written (skip_leading_whitespace (chars line)) trees ≡ item_of line trees
of_text line trees short text = sym (by_false (nat_lt 65535 (length line)) _ _ short ∙ by_true (is_utf8 line) _ _ (is_utf8-from_IsUtf8 line text))
