-- A list that begins another.
use Rattle.std.proofs.Common.{Result, Ok, Err, OnErr, [], ◌∷◌, ◌≡◌, ◌≤◌, ℕ, List, ◌++◌, length, take, sym, ap, ◌∙◌, refl, arith, length-append}
use Rattle.std.proofs.lemmas.List.{take-take, take_at}
use Rattle.derivation.specs.Text.{IsFront}

pub front_of : (old new xs : List ℕ) → new ≡ old ++ xs → IsFront old new
front_of old new xs e = ap (take (length old)) e ∙ take_at old xs (length old) refl

-- what begins with more of it begins with it
pub front_beyond : (old mid new xs : List ℕ) → mid ≡ old ++ xs → IsFront mid new → IsFront old new
front_beyond old mid new xs e front =
    let le : length old ≤ length mid = omega (arith, ap length e, length-append old xs) in
    sym (take-take (length old) (length mid) new le) ∙ ap (take (length old)) front ∙ front_of old mid xs e

-- a fact that always holds, at an error too
pub on_err : {T E P : Type 0} (r : Result T E) → P → OnErr r P
on_err (Ok x) p = tt
on_err (Err e) p = p

-- after one byte more
pub front_byte : (old mid new : List ℕ) (xs : List ℕ) (byte : ℕ) (last : List ℕ) →
    mid ≡ old ++ xs → last ≡ mid ++ byte ∷ [] → IsFront last new → IsFront old new
front_byte old mid new xs byte last e f front = front_beyond old mid new xs e (front_beyond mid last new (byte ∷ []) f front)
