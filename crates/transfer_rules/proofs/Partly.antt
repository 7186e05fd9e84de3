-- The parts of a statement, from its features.
use Rattle.std.proofs.Common.{◌≡◌, ℕ, ◌+◌, ◌∙◌, ◌<◌, ◌≤◌, Bool, true, false, List, [], ◌∷◌, Some, None, map, ap, sym, subst, length, get_or, take, arith, codes}
use Rattle.std.specs.List.{All, Contains}
use Rattle.std.specs.Str.{bytes_eq}
use Rattle.std.proofs.lemmas.List.{get_or-map, length-map, map-append, take_all}
use Rattle.std.proofs.lemmas.List.Elements.{All-get_or, All-push}
use Rattle.std.proofs.lemmas.Option.{same_Some}
use Rattle.std.proofs.lemmas.Slice.Eq.{bytes_eq-Decides}
use Rattle.tdl_reader.specs.Trees.{BodyTree, StatementTree, defines}
use Rattle.transfer_rules.specs.declared.features.Feature.{Feature as DeclaredFeature}
use Rattle.transfer_rules.specs.Features.{Feature, DifferInName, features_of}
use Rattle.transfer_rules.specs.Forms.{Parts, HasLists, HasParts, AreFew, part_names}
use Rattle.transfer_rules.specs.Inner.Views.{feature_of}
use Rattle.transfer_rules.proofs.Fronts.{take_at}
use Rattle.transfer_rules.proofs.Lists.{true_not_false}
use Rattle.transfer_rules.proofs.One.{one_lists}

-- the names of parts
pub same_text : (n m : List ℕ) (b : Bool) → b ≡ bytes_eq n m → b ≡ true → n ≡ m
same_text n m b e t = (bytes_eq-Decides n m).0 (sym e ∙ t)

pub input_named : (n : List ℕ) → n ≡ codes "input" → Contains part_names n
input_named n e = (0, omega arith, sym e)

pub context_named : (n : List ℕ) → n ≡ codes "context" → Contains part_names n
context_named n e = (1, omega arith, sym e)

pub filter_named : (n : List ℕ) → n ≡ codes "filter" → Contains part_names n
filter_named n e = (2, omega arith, sym e)

-- features that are parts, one by one
abbrev pub AreNamed : List DeclaredFeature → Type 0
AreNamed xs = All (λ f. Contains part_names f.name) (map feature_of xs)

pub not_named : (xs : List DeclaredFeature) (i : ℕ) (x : DeclaredFeature) (b : Bool) → i < length xs → x ≡ get_or xs i x → b ≡ false → (Contains part_names x.name.now → b ≡ true) → AreNamed xs → ⊥
not_named xs i x b l e n h all =
    let m : i < length (map feature_of xs) = omega (arith, l, length-map xs feature_of) in
    let a = All-get_or (λ f. Contains part_names f.name) (map feature_of xs) i (feature_of x) m all in
    let q : get_or (map feature_of xs) i (feature_of x) ≡ feature_of x = get_or-map feature_of xs i x (feature_of x) l ∙ ap feature_of (sym e) in
    true_not_false b (h (subst (λ (f : Feature). Contains part_names f.name) q a)) n

pub more_named : (xs : List DeclaredFeature) (i : ℕ) (x : DeclaredFeature) → i < length xs → x ≡ get_or xs i x → Contains part_names x.name.now → AreNamed (take i xs) → AreNamed (take (i + 1) xs)
more_named xs i x l e h all =
    subst (All (λ f. Contains part_names f.name)) (sym (ap (map feature_of) (take_at xs i x l e) ∙ map-append feature_of (take i xs) (x ∷ [])))
    (All-push (λ f. Contains part_names f.name) (map feature_of (take i xs)) (feature_of x) all h)

pub all_named : (xs : List DeclaredFeature) (i : ℕ) → length xs ≤ i → AreNamed (take i xs) → AreNamed xs
all_named xs i l all = subst AreNamed (take_all i xs l) all

-- a statement whose body has features
same_body : (a b : List ℕ) (i j : ℕ) (x y : BodyTree) → defines a i None x ≡ defines b j None y → x ≡ y
same_body a b i j x y e = cc

module _ (s : StatementTree) (name : List ℕ) (at : ℕ) (body : BodyTree) (fs : List Feature) (d : s ≡ defines name at None body) (f : features_of body ≡ Some fs) where
  same_features : (p : Parts) (h : HasParts s p) → h.fs ≡ fs
  same_features p h = same_Some h.fs fs (sym h.features ∙ ap features_of (same_body p.name name h.at at h.body body (sym h.defined ∙ d)) ∙ f)

  pub parts_named : (p : Parts) → HasParts s p → All (λ f. Contains part_names f.name) fs
  parts_named p h = subst (All (λ f. Contains part_names f.name)) (same_features p h) h.named

  pub parts_differ : (p : Parts) → HasParts s p → DifferInName fs
  parts_differ p h = subst DifferInName (same_features p h) h.once

  pub are_parts : (p : Parts) → p.name ≡ name → All (λ f. Contains part_names f.name) fs → DifferInName fs → HasLists fs p → AreFew p → HasParts s p
  are_parts p n all once l few = record { at = at; body = body; fs = fs; defined = d ∙ ap (λ m. defines m at None body) (sym n); features = f; named = all; once = once; lists = l; few = few }

  defined_name : (p : Parts) → HasParts s p → p.name ≡ name
  defined_name p h = same_name p.name name h.at at h.body body (sym h.defined ∙ d)
    where
      same_name : (a b : List ℕ) (i j : ℕ) (x y : BodyTree) → defines a i None x ≡ defines b j None y → a ≡ b
      same_name a b i j x y e = cc

  pub parts_few : (q p : Parts) → q.name ≡ name → HasLists fs q → HasParts s p → AreFew q
  parts_few q p n l h = subst AreFew (one_lists fs p q (subst (λ z. HasLists z p) (same_features p h) h.lists) l (defined_name p h ∙ sym n)) h.few

-- what tests of the same features say
module _ (fs ds : List DeclaredFeature) where
  pub named_not : (b : Bool) → ds ≡ fs → (AreNamed ds → b ≡ true) → b ≡ false → AreNamed fs → ⊥
  named_not b e h n all = true_not_false b (h (subst AreNamed (sym e) all)) n

  pub named_is : (b : Bool) → ds ≡ fs → (b ≡ true → AreNamed ds) → b ≡ true → AreNamed fs
  named_is b e h n = subst AreNamed e (h n)

  pub differ_not : (b : Bool) → ds ≡ fs → (DifferInName (map feature_of ds) → b ≡ true) → b ≡ false → DifferInName (map feature_of fs) → ⊥
  differ_not b e h n all = true_not_false b (h (subst (λ (z : List DeclaredFeature). DifferInName (map feature_of z)) (sym e) all)) n

  pub differ_is : (b : Bool) → ds ≡ fs → (b ≡ true → DifferInName (map feature_of ds)) → b ≡ true → DifferInName (map feature_of fs)
  differ_is b e h n = subst (λ (z : List DeclaredFeature). DifferInName (map feature_of z)) e (h n)

  pub lists_is : (p : Parts) → ds ≡ fs → HasLists (map feature_of ds) p → HasLists (map feature_of fs) p
  lists_is p e h = subst (λ (z : List DeclaredFeature). HasLists (map feature_of z) p) e h
