-- What is passed on while rules are put together.
use Rattle.std.proofs.Common.{Bor, ◌≡◌, ◌∙◌, ℕ, ◌+◌, ◌<◌, Bool, Vec, Global, List, [], ◌∷◌, ◌++◌, Result, Ok, Err, IsErrAnd, map, refl, ap, sym, subst, length, get_or, take, drop}
use Rattle.std.specs.List.{All, Contains}
use Rattle.std.proofs.lemmas.List.{map-append}
use Rattle.std.proofs.lemmas.List.Elements.{All-contains, Contains-append_right}
use Rattle.mrs_reading.proofs.Moves.{is_first}
use Rattle.transfer_rules.specs.declared.fault.Refusal.{Refusal}
use Rattle.transfer_rules.specs.declared.features.Feature.{Feature as DeclaredFeature}
use Rattle.transfer_rules.specs.Features.{Feature}
use Rattle.transfer_rules.specs.Forms.{letters_in}
use Rattle.transfer_rules.specs.Inner.Drafts.{IsSaid, AreSaid}
use Rattle.transfer_rules.specs.Inner.Views.{feature_of, features_seen}
use Rattle.transfer_rules.proofs.Stepping.{all_seen, said_step}

-- a refusal that is passed on
pub passed_on : {A B : Type 0} (r : Result A Refusal) (e f : Refusal) → IsErrAnd r (λ y. y ≡ e) → r ≡ Err f → ◌≡◌ {A = Result B Refusal} (Err e) (Err f)
passed_on (Ok x) e f is h = absurd is
passed_on (Err y) e f is h = let same : y ≡ f = cc in ap Err (sym is ∙ same)

-- the letters of names, as they are seen
pub letters_seen : (xs : List (Bor (List ℕ))) → map (λ n. letters_in n.now) xs ≡ map letters_in (map (λ n. n.now) xs)
letters_seen [] = refl
letters_seen (x ∷ xs) = ap (λ l. letters_in x.now ∷ l) (letters_seen xs)

-- one of the elements that are said, borrowed
pub one_said : (P : List Feature → Type 0) (fss : List (Vec DeclaredFeature Global)) (i : ℕ) (fs : Vec DeclaredFeature Global) (s : List DeclaredFeature) → i < length fss → fs ≡ get_or fss i fs → s ≡ fs.items → All P (map features_seen fss) → P (map feature_of s)
one_said P fss i fs s l e q all =
    subst (λ z. P (map feature_of z)) (sym q) (All-contains P (map features_seen fss) (features_seen fs) all
    (subst (λ z. Contains z (features_seen fs)) (sym (all_seen features_seen fss i fs l e))
    (Contains-append_right (map features_seen (take i fss)) (features_seen fs ∷ map features_seen (drop (i + 1) fss)) (features_seen fs) (is_first (features_seen fs) (map features_seen (drop (i + 1) fss))))))

-- one element further, as the elements are seen
pub seen_step : {A D : Type 0} (f : D → A) (R : List (List ℕ) → List Feature → A → Type 0) → ((names more : List (List ℕ)) (fs : List Feature) (x : A) → R names fs x → R (names ++ more) fs x) → (out : Bool) (a b c : List (List ℕ)) (fss : List (Vec DeclaredFeature Global)) (i : ℕ)
    (fs : Vec DeclaredFeature Global) (s : List DeclaredFeature) (xs ys : List D) (x : D) → i < length fss → fs ≡ get_or fss i fs → s ≡ fs.items → ys ≡ xs ++ x ∷ []
    → AreSaid R out a b (map features_seen (take i fss)) (map f xs) → IsSaid R out b c (map feature_of s) (f x) → AreSaid R out a c (map features_seen (take (i + 1) fss)) (map f ys)
seen_step f R grow out a b c fss i fs s xs ys x l e q more h is =
    subst (AreSaid R out a c (map features_seen (take (i + 1) fss))) (sym (ap (map f) more ∙ map-append f xs (x ∷ [])))
    (said_step R grow out a b c fss i fs (map f xs) (f x) l e h (subst (λ z. IsSaid R out b c (map feature_of z) (f x)) q is))
