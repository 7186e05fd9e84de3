-- The search for the places of elements: they are taken in turn, and each is given a place.
use Rattle.std.specs.Prelude.{ℕ, ⊤, ◌≡◌, ◌⊎◌, ◌<◌, ◌≤◌, ◌↔◌, Bool, List, [], ◌∷◌, ◌++◌, Some, MatchOption, All, Contains, length, map, take, slice_index, slice_index_or, string_bytes}
use Rattle.std.specs.List.{slice_get, Any}
use Rattle.mrs_model.specs.Meanings.{Variable, Predication}
use Rattle.mrs_model.specs.Renaming.{IsOneToOne}
use Rattle.transfer_model.specs.Rules.{Element, IsElement, StandsAt}
use Rattle.transfer_model.specs.Sites.{Fits, HasLetters, Before, Site}
use Rattle.mrs_model.specs.Valid.{IsPredication}
use Rattle.mrs_model.specs.Views.{variable_of, predication_of}
use Rattle.transfer_model.specs.Views.{element_of}
use Rattle.mrs_transfer.specs.declared.bound.Pair.{Pair}
use Rattle.mrs_transfer.specs.declared.matching.Sides.{Sides}

-- what elements are looked for in, the letters of their coreferences, and the variables that are given
pub record Task : Type 0 where
  pub eps : List Predication
  pub all : List Variable
  pub letters : List (List ℕ)
  pub elements : List Element
  pub given : List Pair

abbrev pub task_of : Sides → Task
task_of s = record { eps = map predication_of s.eps.now; all = map variable_of s.all.now; letters = map string_bytes s.letters.now; elements = map element_of s.elements.now; given = s.given.now }

-- a coreference may have the variable: both are there, and its letters are the variable's
pub record MayHave (all : List Variable) (letters : List (List ℕ)) (c v : ℕ) : Type 0 where
  pub coref : c < length letters
  pub var : v < length all
  pub fit : (d : Variable) → HasLetters (slice_index_or letters c []) (slice_index_or all v d)

-- each coreference has a variable that it may have
pub record AreOfLetters (all : List Variable) (letters : List (List ℕ)) (vars : List ℕ) : Type 0 where
  pub size : length vars ≡ length letters
  pub each : (c : ℕ) → c < length letters → MayHave all letters c (slice_index vars c)

-- the coreferences' variables are those of the pairs
abbrev pub Agree : List ℕ → List Pair → Type 0
Agree vars pairs = All (λ p. slice_index vars p.coref ≡ p.var) pairs

-- a coreference has a pair
abbrev pub IsBound : List Pair → ℕ → Type 0
IsBound pairs c = (v : ℕ) × Contains pairs (record { coref = c; var = v })

-- a variable that it may have for each coreference that has one
pub record ArePairs (all : List Variable) (letters : List (List ℕ)) (pairs : List Pair) : Type 0 where
  pub each : All (λ p. MayHave all letters p.coref p.var) pairs
  pub single : (c v w : ℕ) → Contains pairs (record { coref = c; var = v }) → Contains pairs (record { coref = c; var = w }) → v ≡ w

-- Pairs were added: exactly the variables that met the old ones and meet P meet the new ones, and each coreference in W has a pair.
pub record Narrows (all : List Variable) (letters : List (List ℕ)) (P : List ℕ → Type 0) (W : ℕ → Type 0) (old new : List Pair) : Type 0 where
  pub pairs : ArePairs all letters new
  pub front : take (length old) new ≡ old
  pub told : (vars : List ℕ) → AreOfLetters all letters vars → Agree vars new ↔ (Agree vars old × P vars)
  pub bound : (c : ℕ) → W c → IsBound new c

-- No variables that met the old pairs meet P; some pairs may have been added.
pub record Refuses (all : List Variable) (letters : List (List ℕ)) (P : List ℕ → Type 0) (old new : List Pair) : Type 0 where
  pub front : take (length old) new ≡ old
  pub none : (vars : List ℕ) → AreOfLetters all letters vars → Agree vars old → P vars → ⊥

-- what holds of each: its elements write all coreferences that aren't given
pub record IsTask (t : Task) : Type 0 where
  pub eps : All (IsPredication (length t.all)) t.eps
  pub elements : All (IsElement (length t.letters)) t.elements
  pub standing : (c : ℕ) → c < length t.letters → IsBound t.given c ⊎ Any (StandsAt c) t.elements

-- the element fits at the place
abbrev pub FitsAt : List Predication → List ℕ → Element → ℕ → Type 0
FitsAt eps vars x p = MatchOption (slice_get eps p) ⊥ (Fits vars x)

-- the elements fit at these places, as far as they go
abbrev pub FitAll : List Predication → List ℕ → List Element → List ℕ → Type 0
FitAll eps vars xs [] = ⊤
FitAll eps vars [] (p ∷ ps) = ⊥
FitAll eps vars (x ∷ xs) (p ∷ ps) = FitsAt eps vars x p × FitAll eps vars xs ps

-- The first elements have these places, all different, and the pairs say exactly which variables their coreferences then have.
pub record IsPlaced (t : Task) (places : List ℕ) (pairs : List Pair) : Type 0 where
  pub short : length places ≤ length t.elements
  pub apart : IsOneToOne places
  pub are : ArePairs t.all t.letters pairs
  pub told : (vars : List ℕ) → AreOfLetters t.all t.letters vars → Agree vars pairs ↔ (Agree vars t.given × FitAll t.eps vars t.elements places)
  pub given : (c : ℕ) → IsBound t.given c → IsBound pairs c
  pub bound : (k c : ℕ) (x : Element) → k < length places → slice_get t.elements k ≡ Some x → StandsAt c x → IsBound pairs c

-- a match of all elements: their places and the variables of their coreferences
pub record Solves (t : Task) (places vars : List ℕ) : Type 0 where
  pub all : length places ≡ length t.elements
  pub apart : IsOneToOne places
  pub fits : FitAll t.eps vars t.elements places
  pub sorts : AreOfLetters t.all t.letters vars
  pub given : Agree vars t.given

-- the places begin with these
abbrev pub Begins : List ℕ → List ℕ → Type 0
Begins [] qs = ⊤
Begins (p ∷ ps) [] = ⊥
Begins (p ∷ ps) (q ∷ qs) = (q ≡ p) × Begins ps qs

-- The match of these places and variables begins with the front and is taken, and none that is taken and begins so comes before it; said for each
-- relation that is answered.
pub record IsLeast (t : Task) (Answered : (ℕ → Site → Bool) → Type 0) (Takes : (ℕ → Site → Bool) → List ℕ → List ℕ → Type 0) (front places vars : List ℕ) : Type 0 where
  pub solves : Solves t places vars
  pub begins : Begins front places
  pub taken : (allows : ℕ → Site → Bool) → Answered allows → Takes allows places vars
  pub least : (allows : ℕ → Site → Bool) (qs vs : List ℕ) → Answered allows → Solves t qs vs → Begins front qs → Takes allows qs vs → Before qs places → ⊥

-- no match that begins with the front is taken
pub record IsNowhere (t : Task) (Answered : (ℕ → Site → Bool) → Type 0) (Takes : (ℕ → Site → Bool) → List ℕ → List ℕ → Type 0) (front : List ℕ) : Type 0 where
  pub none : (allows : ℕ → Site → Bool) (qs vs : List ℕ) → Answered allows → Solves t qs vs → Begins front qs → Takes allows qs vs → ⊥

-- no match that begins with the front is taken whose next place is less than this
pub record IsPassed (t : Task) (Answered : (ℕ → Site → Bool) → Type 0) (Takes : (ℕ → Site → Bool) → List ℕ → List ℕ → Type 0) (front : List ℕ) (k : ℕ) : Type 0 where
  pub none : (allows : ℕ → Site → Bool) (p : ℕ) (qs vs : List ℕ) → p < k → Answered allows → Solves t qs vs → Begins (front ++ p ∷ []) qs → Takes allows qs vs → ⊥
