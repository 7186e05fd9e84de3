-- What is read of elementary predications.
use Rattle.std.specs.Prelude.{ℕ, ◌≡◌, ◌≢◌, ◌++◌, ◌∷◌, Bool, true, false, List, [], map, Option, Some, None, codes, Contains}
use Rattle.std.specs.Option.{MatchOption, option_map, option_to_list}
use Rattle.std.specs.List.{AllZip}
use Rattle.mrs_model.specs.declared.Extent.{Extent}
use Rattle.mrs_model.specs.Meanings.{Filler, of_var, Argument, Predication}
use Rattle.mrs_model.specs.Views.{predication_of}
use Rattle.mrs_reading.specs.declared.eps.Eps.{Eps}
use Rattle.mrs_reading.specs.Meaning.{Piece, Normal, Spans, Is, IsPredOf, IsSpanOf, Filling, Known, nothing_known, known_after, predications, after_all, AreArgumentsOf, IsPredicationOf}
use Rattle.mrs_reading.specs.Inner.Stages.{Stage, in_ep, at_role, at_text, named}
use Rattle.mrs_reading.specs.Inner.Tables.{IsAdded}
use Rattle.mrs_reading.specs.Inner.Built.{roles_in}

-- what was read before a property list
abbrev pub root : Stage → Stage
root (named s) = root s
root s = s

abbrev pub in_body : Stage → Bool
in_body in_ep = true
in_body at_role = true
in_body at_text = true
in_body _ = false

-- the elementary predication that is open, with the names of its roles
pub record IsBody (keys : List (List ℕ)) (c : Known) (current : Option Predication) (roles : List (List ℕ)) : Type 0 where
  pub ep : Predication
  pub is : current ≡ Some ep
  pub piece : Piece
  pub first : c.pred ≡ Some piece
  pub pred : IsPredOf piece ep.pred
  pub span : IsSpanOf c.mark ep.span
  pub label : (f : Filling) → Contains c.fills f → f.role ≡ codes "lbl" → Is keys f.by ep.label
  pub args : AreArgumentsOf keys c.fills ep.args
  pub names : roles ≡ map (λ f. f.role) c.fills ++ option_to_list c.role
  pub fresh : (r : List ℕ) → c.role ≡ Some r → Contains (map (λ f. f.role) c.fills) r → ⊥

-- the same by what was read last
pub record IsOpen (keys : List (List ℕ)) (s : Stage) (c : Known) (current : Option Predication) (roles : List (List ℕ)) : Type 0 where
  pub body : in_body (root s) ≡ true → IsBody keys c current roles
  pub free : root s ≡ in_ep → c.role ≡ None
  pub waiting : root s ≡ at_role → (r : List ℕ) × (c.role ≡ Some r)
  pub texted : root s ≡ at_text → (r : List ℕ) × (c.role ≡ Some r) × (r ≢ codes "lbl")

pub record ArePredications (keys : List (List ℕ)) (ps : List Piece) (s : Stage) (list : List Predication) (current : Option Predication) (roles : List (List ℕ)) : Type 0 where
  pub done : AllZip (IsPredicationOf keys) (predications ps) list
  pub last : IsOpen keys s (after_all known_after nothing_known ps) current roles

abbrev pub opened : Eps → Option Predication
opened e = option_map predication_of e.current

abbrev pub closed : Eps → List Predication
closed e = map predication_of e.list.items

abbrev pub AreEps : List (List ℕ) → List Piece → Stage → Eps → Type 0
AreEps keys ps s e = ArePredications keys ps s (closed e) (opened e) (roles_in e)

-- a new elementary predication of this predicate
pub record IsNew (text : List ℕ) (current : Option Predication) : Type 0 where
  pub ep : Predication
  pub is : current ≡ Some ep
  pub pred : Normal text ep.pred
  pub span : ep.span ≡ None
  pub args : ep.args ≡ []

-- a mark is its span, or it has none
pub record IsSpanned (mark : List ℕ) (ep : Predication) (current : Option Predication) : Type 0 where
  pub span : Option Extent
  pub is : current ≡ Some (record ep { span = span })
  pub told : MatchOption span ((e : Extent) → Spans mark e → ⊥) (Spans mark)

-- one argument more
pub record IsArgumentAdded (role : List ℕ) (f : Filler) (old new : Predication) : Type 0 where
  pub pred : new.pred ≡ old.pred
  pub label : new.label ≡ old.label
  pub span : new.span ≡ old.span
  pub args : IsAdded (λ (a : Argument). a.role) old.args (record { role = role; filler = f }) new.args

-- The variable is the label where the role is LBL, otherwise an argument.
pub data IsFilled (role : List ℕ) (n : ℕ) (old : Predication) : Predication → Type 0 where
  label : role ≡ codes "lbl" → IsFilled role n old (record old { label = n })
  argument : (new : Predication) → role ≢ codes "lbl" → IsArgumentAdded role (of_var n) old new → IsFilled role n old new

-- the last of these roles of the open one was filled
pub record FillsLast (current : Option Predication) (roles : List (List ℕ)) (after : Option Predication) (By : List ℕ → Predication → Predication → Type 0) : Type 0 where
  pub filled : (ep : Predication) (before : List (List ℕ)) (r : List ℕ) → current ≡ Some ep → roles ≡ before ++ r ∷ [] → (new : Predication) × (after ≡ Some new) × By r ep new
