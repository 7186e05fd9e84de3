-- Texts of the characters of names.
use Rattle.std.proofs.Common.{◌≡◌, ℕ, Bool, true, false, not, ◌||◌, List, ◌∷◌, subst, refl}
use Rattle.std.specs.List.{All}
use Rattle.std.proofs.lemmas.List.Elements.{All-head, All-tail, All-cons}
use Rattle.mrs_model.specs.Texts.{ends_name, is_capital}

abbrev pub IsSign : ℕ → Type 0
IsSign c = (ends_name c || is_capital c) ≡ false

pub passes : (b : Bool) → not b ≡ true → b ≡ false
passes true e = absurd (cc)
passes false e = refl

pub first_is : (cs ds : List ℕ) (c : ℕ) → cs ≡ c ∷ ds → All IsSign cs → IsSign c
first_is cs ds c e h = All-head IsSign c ds (subst (All IsSign) e h)

pub others_are : (cs ds : List ℕ) (c : ℕ) → cs ≡ c ∷ ds → All IsSign cs → All IsSign ds
others_are cs ds c e h = All-tail IsSign c ds (subst (All IsSign) e h)

pub all_are : (cs ds : List ℕ) (c : ℕ) → c ∷ ds ≡ cs → IsSign c → All IsSign ds → All IsSign cs
all_are cs ds c e p h = subst (All IsSign) e (All-cons IsSign c ds p h)
