-- Paths that carry one coreference are equal.
use Rattle.std.proofs.Common.{ℕ, ◌≡◌, Bool, true, false, cond, Some, List, [], ◌∷◌, map, refl, ap, subst}
use Rattle.std.specs.Prelude.{unwrap_or}
use Rattle.std.specs.Str.{bytes_eq}
use Rattle.std.proofs.lemmas.Slice.Eq.{bytes_eq-Decides}
use Rattle.type_hierarchy.specs.Decls.{Name}
use Rattle.type_hierarchy.specs.Table.{TypeTable}
use Rattle.fs_model.specs.Claims.{Path, System, Has, here, there, same}
use Rattle.fs_model.specs.Closure.{Closure, given_claim, same_sym, same_trans}
use Rattle.body_facts.specs.Claimed.{first_carrier, claim_said, claims_of_sayings}
use Rattle.body_facts.specs.Sayings.{Saying, has_type, has_text, carries, is_there, are_equal}

found : (name : Name) (p : Path) (xs : List (Saying ℕ)) → Has (carries p name) xs → (f : Path) × (first_carrier name xs ≡ Some f)
found name p [] h = elim h [ ]
found name p (carries q other ∷ xs) here = (p, ap (λ b. cond b (Some p) (first_carrier name xs)) ((bytes_eq-Decides name name).1 refl))
found name p (has_type q other ∷ xs) (there h) = found name p xs h
found name p (has_text q other ∷ xs) (there h) = found name p xs h
found name p (carries q other ∷ xs) (there h) = go (bytes_eq name other) (found name p xs h)
  where
    go : (b : Bool) → (f : Path) × (first_carrier name xs ≡ Some f) → (f : Path) × (cond b (Some q) (first_carrier name xs) ≡ Some f)
    go true r = (q, refl)
    go false r = r
found name p (is_there q ∷ xs) (there h) = found name p xs h
found name p (are_equal q r ∷ xs) (there h) = found name p xs h

told : (types : TypeTable) (all xs : List (Saying ℕ)) (x : Saying ℕ) → Has x xs → Has (claim_said types all x) (map (claim_said types all) xs)
told types all [] y h = elim h [ ]
told types all (x ∷ xs) y here = here
told types all (x ∷ xs) y (there h) = there (told types all xs y h)

pub equal_in : (s : System) (types : TypeTable) (all : List (Saying ℕ)) (name : Name) (p q : Path) → Has (carries p name) all → Has (carries q name) all →
    Closure s (λ c. Has c (claims_of_sayings types all)) (same p q)
equal_in s types all name p q hp hq = same_trans p first.0 q (same_sym first.0 p (one p hp)) (one q hq)
  where
    first : (f : Path) × (first_carrier name all ≡ Some f)
    first = found name p all hp

    one : (r : Path) → Has (carries r name) all → Closure s (λ c. Has c (claims_of_sayings types all)) (same first.0 r)
    one r h =
        subst (λ o. Closure s (λ c. Has c (claims_of_sayings types all)) (same (unwrap_or o r) r)) first.1 (given_claim _ (told types all all (carries r name) h))
