-- Strings without their escapes.
use Rattle.std.proofs.Common.{◌≡◌, ℕ, ◌∙◌, Bool, true, false, not, cond, eqb, ◌&&◌, List, [], ◌∷◌, ◌++◌, refl, ap, sym, append_assoc, append-nil}
use Rattle.std.specs.Str.{encode_utf8_all}
use Rattle.std.specs.Char.{encode_utf8}
use Rattle.mrs_reading.specs.Meaning.{without_escapes}

next_is : (b : Bool) (c : ℕ) (cs : List ℕ) → without_escapes b (c ∷ cs) ≡ cond (not b && eqb c 92) (without_escapes true cs) (c ∷ without_escapes false cs)
next_is true c cs = refl
next_is false c cs = refl

pub escape_opens : (b : Bool) (c : ℕ) (cs old : List ℕ) → (not b && eqb c 92) ≡ true → old ++ encode_utf8_all (without_escapes true cs) ≡ old ++ encode_utf8_all (without_escapes b (c ∷ cs))
escape_opens b c cs old e = ap (λ z. old ++ encode_utf8_all z) (sym (next_is b c cs ∙ ap (λ z. cond z (without_escapes true cs) (c ∷ without_escapes false cs)) e))

pub sign_stands : (b : Bool) (c : ℕ) (cs old new : List ℕ) → (not b && eqb c 92) ≡ false → new ≡ old ++ encode_utf8 c → new ++ encode_utf8_all (without_escapes false cs) ≡ old ++ encode_utf8_all (without_escapes b (c ∷ cs))
sign_stands b c cs old new e f =
    ap (λ z. z ++ encode_utf8_all (without_escapes false cs)) f ∙ append_assoc old (encode_utf8 c) (encode_utf8_all (without_escapes false cs))
    ∙ ap (λ z. old ++ encode_utf8_all z) (sym (next_is b c cs ∙ ap (λ z. cond z (without_escapes true cs) (c ∷ without_escapes false cs)) e))

pub escape_more : (next b : Bool) (c : ℕ) (cs ds old new whole : List ℕ) → cs ≡ c ∷ ds → new ++ encode_utf8_all (without_escapes next ds) ≡ old ++ encode_utf8_all (without_escapes b (c ∷ ds))
    → old ++ encode_utf8_all (without_escapes b cs) ≡ whole → new ++ encode_utf8_all (without_escapes next ds) ≡ whole
escape_more next b c cs ds old new whole e f g = f ∙ ap (λ z. old ++ encode_utf8_all (without_escapes b z)) (sym e) ∙ g

pub escape_end : (b : Bool) (cs old whole : List ℕ) → cs ≡ [] → old ++ encode_utf8_all (without_escapes b cs) ≡ whole → old ≡ whole
escape_end b cs old whole e g = sym (ap (λ z. old ++ encode_utf8_all (without_escapes b z)) e ∙ append-nil old) ∙ g
