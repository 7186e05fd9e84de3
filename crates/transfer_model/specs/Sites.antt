-- Where a rule of transfer applies (Oepen et al. 2004).
use Rattle.std.specs.Prelude.{ℕ, ◌≡◌, ◌⊎◌, ◌<◌, ◌++◌, Bool, true, List, ◌∷◌, MatchOption, IfSome, All, Contains, codes, slice_index}
use Rattle.std.specs.List.{slice_get, AllZip}
use Rattle.mrs_model.specs.Meanings.{Variable, Predication, Meaning}
use Rattle.mrs_model.specs.Renaming.{IsOneToOne, renamed_argument}
use Rattle.transfer_model.specs.Rules.{Element, Rule}

-- a place among the elementary predications for each element of INPUT and then of CONTEXT, and a variable for each of their coreferences
pub record Site : Type 0 where
  pub places : List ℕ
  pub vars : List ℕ

-- The predicate is the element's, and each label and role that it writes is there with the variable of its coreference, or its text.
pub record Fits (vars : List ℕ) (x : Element) (e : Predication) : Type 0 where
  pub pred : e.pred ≡ x.pred
  pub label : IfSome x.label (λ c. slice_index vars c ≡ e.label)
  pub args : All (λ a. Contains e.args (renamed_argument vars a)) x.args

-- the letters of a coreference are its variable's sort, or `u`
abbrev pub HasLetters : List ℕ → Variable → Type 0
HasLetters letters v = (letters ≡ codes "u") ⊎ (letters ≡ v.sort)

-- Each element fits the elementary predication at its place, all different, and each coreference has a variable of its letters.
pub record IsMatch (m : Meaning) (letters : List (List ℕ)) (xs : List Element) (places vars : List ℕ) : Type 0 where
  pub elements : AllZip (λ x p. MatchOption (slice_get m.eps p) ⊥ (Fits vars x)) xs places
  pub apart : IsOneToOne places
  pub sorts : AllZip (λ l v. MatchOption (slice_get m.vars v) ⊥ (HasLetters l)) letters vars

abbrev pub IsSite : Meaning → Rule → Site → Type 0
IsSite m r s = IsMatch m r.letters (r.input ++ r.context) s.places s.vars

-- Some choice of different places for the elements of FILTER, and of variables for its other coreferences, meets it.
pub record IsMet (m : Meaning) (r : Rule) (s : Site) (xs : List Element) : Type 0 where
  pub places : List ℕ
  pub others : List ℕ
  pub matches : IsMatch m (r.letters ++ r.filter_letters) xs places (s.vars ++ others)

-- The rule of this number applies at the site: it is allowed there, and FILTER is absent, or is there and isn't met.
pub record Applies (allows : ℕ → Site → Bool) (number : ℕ) (r : Rule) (m : Meaning) (s : Site) : Type 0 where
  pub site : IsSite m r s
  pub allowed : allows number s ≡ true
  pub unmet : IfSome r.filter (λ xs. IsMet m r s xs → ⊥)

-- of two lists of places as long as one another: at the first at which they differ, the one has the less
abbrev pub Before : List ℕ → List ℕ → Type 0
Before (p ∷ ps) (q ∷ qs) = (p < q) ⊎ ((p ≡ q) × Before ps qs)
Before ps qs = ⊥

-- the least site at which it applies, by the places
pub record IsLeastSite (allows : ℕ → Site → Bool) (number : ℕ) (r : Rule) (m : Meaning) (s : Site) : Type 0 where
  pub applies : Applies allows number r m s
  pub least : (t : Site) → Applies allows number r m t → Before t.places s.places → ⊥
