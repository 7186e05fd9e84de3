-- Loops over features and elements, one step further.
use Rattle.std.proofs.Common.{◌≡◌, ℕ, ◌+◌, ◌∙◌, ◌<◌, Bool, true, false, Vec, Global, List, [], ◌∷◌, ◌++◌, map, ap, sym, subst, length, get_or, take, drop, append-nil}
use Rattle.std.specs.Option.{is_some}
use Rattle.std.specs.List.{All}
use Rattle.std.proofs.lemmas.List.{append_assoc, map-append}
use Rattle.std.proofs.lemmas.List.Elements.{All-push}
use Rattle.transfer_rules.specs.declared.features.Feature.{Feature as DeclaredFeature}
use Rattle.transfer_rules.specs.Features.{Feature, DifferInName, IsFeature, coref_of, corefs_in, each_once}
use Rattle.transfer_rules.specs.Forms.{value_at}
use Rattle.transfer_rules.specs.Inner.Drafts.{Draft, IsDraft, IsSaid, AreSaid}
use Rattle.transfer_rules.specs.Inner.Views.{feature_of, features_seen}
use Rattle.transfer_rules.proofs.Numbering.{once_append}
use Rattle.transfer_rules.proofs.Fronts.{take_at, parts_at, differ_end, differ_front, differ_stop}
use Rattle.transfer_rules.proofs.Drafting.{flat_more, said_more}

-- the front of a list that goes one further, as it is seen
pub front_seen : {A B : Type 0} (f : A → B) (xs : List A) (i : ℕ) (x : A) → i < length xs → x ≡ get_or xs i x → map f (take (i + 1) xs) ≡ map f (take i xs) ++ f x ∷ []
front_seen f xs i x l e = ap (map f) (take_at xs i x l e) ∙ map-append f (take i xs) (x ∷ [])

pub all_seen : {A B : Type 0} (f : A → B) (xs : List A) (i : ℕ) (x : A) → i < length xs → x ≡ get_or xs i x → map f xs ≡ map f (take i xs) ++ f x ∷ map f (drop (i + 1) xs)
all_seen f xs i x l e = ap (map f) (parts_at xs i x l e) ∙ map-append f (take i xs) (x ∷ drop (i + 1) xs)

differ_upto : (xs : List DeclaredFeature) (i : ℕ) (x : DeclaredFeature) → i < length xs → x ≡ get_or xs i x → DifferInName (map feature_of xs) → DifferInName (map feature_of (take i xs) ++ feature_of x ∷ [])
differ_upto xs i x l e d = differ_front (map feature_of (take i xs) ++ feature_of x ∷ []) (map feature_of (drop (i + 1) xs))
    (subst DifferInName (all_seen feature_of xs i x l e ∙ sym (append_assoc (map feature_of (take i xs)) (feature_of x ∷ []) (map feature_of (drop (i + 1) xs)))) d)

names_step : (a b c : List (List ℕ)) (fs : List Feature) (f : Feature) → b ≡ a ++ each_once a (corefs_in fs) → c ≡ b ++ each_once b (coref_of f.value) → c ≡ a ++ each_once a (corefs_in (fs ++ f ∷ []))
names_step a b c fs f e g =
    g ∙ ap (λ z. z ++ each_once z (coref_of f.value)) e ∙ append_assoc a (each_once a (corefs_in fs)) (each_once (a ++ each_once a (corefs_in fs)) (coref_of f.value))
    ∙ ap (λ z. a ++ z) (sym (once_append a (corefs_in fs) (coref_of f.value)))
    ∙ ap (λ z. a ++ each_once a z) (sym (flat_more (λ f. coref_of f.value) fs (f ∷ []) ∙ ap (λ z. corefs_in fs ++ z) (append-nil (coref_of f.value))))

abbrev pub IsTaken : List (List ℕ) → List (List ℕ) → List Feature → Draft → Type 0
IsTaken a b fs d = IsDraft b fs d × (b ≡ a ++ each_once a (corefs_in fs)) × All IsFeature fs

pub taken_more : (xs : List DeclaredFeature) (i : ℕ) (x : DeclaredFeature) (a b c : List (List ℕ)) (d e : Draft) → i < length xs → x ≡ get_or xs i x → DifferInName (map feature_of xs) → IsTaken a b (map feature_of (take i xs)) d
    → ((fs : List Feature) → IsDraft b fs d → DifferInName (fs ++ feature_of x ∷ []) → IsDraft c (fs ++ feature_of x ∷ []) e) → c ≡ b ++ each_once b (coref_of (feature_of x).value) → IsFeature (feature_of x)
    → IsTaken a c (map feature_of (take (i + 1) xs)) e
taken_more xs i x a b c d e l r once h step names form =
    let fs = map feature_of (take i xs) in
    subst (λ z. IsTaken a c z e) (sym (front_seen feature_of xs i x l r))
    (step fs h.0 (differ_upto xs i x l r once), names_step a b c fs (feature_of x) h.1 names, All-push IsFeature fs (feature_of x) h.2 form)

pub said_step : {A : Type 0} (R : List (List ℕ) → List Feature → A → Type 0) → ((names more : List (List ℕ)) (fs : List Feature) (x : A) → R names fs x → R (names ++ more) fs x) → (out : Bool) (a b c : List (List ℕ)) (fss : List (Vec DeclaredFeature Global)) (i : ℕ) (fs : Vec DeclaredFeature Global)
    (xs : List A) (x : A) → i < length fss → fs ≡ get_or fss i fs → AreSaid R out a b (map features_seen (take i fss)) xs → IsSaid R out b c (features_seen fs) x → AreSaid R out a c (map features_seen (take (i + 1) fss)) (xs ++ x ∷ [])
said_step R grow out a b c fss i fs xs x l e h s =
    subst (λ z. AreSaid R out a c z (xs ++ x ∷ [])) (sym (front_seen features_seen fss i fs l e)) (said_more R grow out a b c (map features_seen (take i fss)) xs (features_seen fs) x h s)

-- names that differ, one feature further
pub differ_next : (xs : List DeclaredFeature) (i : ℕ) (x : DeclaredFeature) → i < length xs → x ≡ get_or xs i x → DifferInName (map feature_of (take i xs)) → is_some (value_at x.name.now (map feature_of (take i xs))) ≡ false → DifferInName (map feature_of (take (i + 1) xs))
differ_next xs i x l e d n = subst DifferInName (sym (front_seen feature_of xs i x l e)) (differ_end (map feature_of (take i xs)) (feature_of x) d n)

pub differ_over : (xs : List DeclaredFeature) (i : ℕ) (x : DeclaredFeature) → i < length xs → x ≡ get_or xs i x → is_some (value_at x.name.now (map feature_of (take i xs))) ≡ true → DifferInName (map feature_of xs) → ⊥
differ_over xs i x l e n d = differ_stop (map feature_of (take i xs)) (feature_of x) (map feature_of (drop (i + 1) xs)) n (subst DifferInName (all_seen feature_of xs i x l e) d)
