-- What is read of an element, feature by feature.
use Rattle.std.specs.Prelude.{ℕ, ◌≡◌, ◌≢◌, ◌++◌, ◌∷◌, Bool, true, false, List, [], Option, Some, None, IfSome, All, Contains, codes, map}
use Rattle.std.specs.List.{slice_get, AllZip, Any}
use Rattle.std.specs.Option.{option_map}
use Rattle.std.proofs.Common.{Vec, Global, Bor}
use Rattle.mrs_model.specs.Meanings.{Argument}
use Rattle.mrs_model.specs.Valid.{Rise}
use Rattle.mrs_model.specs.Views.{argument_of}
use Rattle.mrs_reading.specs.Inner.Tables.{IsAdded}
use Rattle.std.specs.String.{string_bytes}
use Rattle.transfer_model.specs.declared.Filter.{Filter}
use Rattle.transfer_model.specs.Views.{element_of}
use Rattle.transfer_rules.specs.Forms.{letters_in}
use Rattle.transfer_rules.specs.declared.elements.Draft.{Draft as DeclaredDraft}
use Rattle.transfer_rules.specs.Features.{Feature, IsElementForm, IsElementOf, IsRole, coref_of, corefs_in, corefs_of, each_once, is_role, pred_in}

-- the names of coreferences in order of their numbers
abbrev pub names_seen : Vec (Bor (List ℕ)) Global → List (List ℕ)
names_seen names = map (λ n. n.now) names.items

-- a predicate as it is written, the coreference of a label, and roles
pub record Draft : Type 0 where
  pub pred : Option (List ℕ)
  pub label : Option ℕ
  pub args : List Argument

abbrev pub draft_of : DeclaredDraft → Draft
draft_of d = record { pred = option_map (λ s. s.now) d.pred; label = d.label; args = map argument_of d.roles.items }

abbrev pub no_draft : Draft
no_draft = record { pred = None; label = None; args = [] }

abbrev pub with_pred : List ℕ → Draft → Draft
with_pred text d = record { pred = Some text; label = d.label; args = d.args }

abbrev pub with_label : ℕ → Draft → Draft
with_label c d = record { pred = d.pred; label = Some c; args = d.args }

-- the role that a feature is was added in its place
pub record HasRole (names : List (List ℕ)) (f : Feature) (old new : Draft) : Type 0 where
  pub argument : Argument
  pub is : IsRole names f argument
  pub added : IsAdded (λ a. a.role) old.args argument new.args
  pub pred : new.pred ≡ old.pred
  pub label : new.label ≡ old.label

-- what these features say
pub record IsDraft (names : List (List ℕ)) (fs : List Feature) (d : Draft) : Type 0 where
  pub pred : (f : Feature) → Contains fs f → f.name ≡ codes "pred" → pred_in f.value ≡ d.pred
  pub no_pred : All (λ f. f.name ≢ codes "pred") fs → d.pred ≡ None
  pub label : (f : Feature) (name : List ℕ) → Contains fs f → f.name ≡ codes "lbl" → coref_of f.value ≡ name ∷ [] → IfSome d.label (λ c. slice_get names c ≡ Some name) × (d.label ≢ None)
  pub no_label : All (λ f. f.name ≢ codes "lbl") fs → d.label ≡ None
  pub order : Rise (map (λ a. a.role) d.args)
  pub each : (f : Feature) → Contains fs f → is_role f ≡ true → Any (IsRole names f) d.args
  pub all : (a : Argument) → Contains d.args a → Any (λ f. (is_role f ≡ true) × IsRole names f a) fs

-- The features of an element say this value, and its coreferences got numbers: the names before and after.
pub record IsSaid {A : Type 0} (R : List (List ℕ) → List Feature → A → Type 0) (out : Bool) (before after : List (List ℕ)) (fs : List Feature) (x : A) : Type 0 where
  pub names : after ≡ before ++ each_once before (corefs_in fs)
  pub form : IsElementForm out fs
  pub is : R after fs x

-- the same of a list of elements
pub record AreSaid {A : Type 0} (R : List (List ℕ) → List Feature → A → Type 0) (out : Bool) (before after : List (List ℕ)) (fss : List (List Feature)) (xs : List A) : Type 0 where
  pub names : after ≡ before ++ each_once before (corefs_of fss)
  pub forms : All (IsElementForm out) fss
  pub each : AllZip (R after) fss xs

-- What FILTER says over the names of INPUT and CONTEXT, and the letters of all its coreferences.
pub data IsFilterSaid (front : List (List ℕ)) : Option (List (List Feature)) → Option Filter → Type 0 where
  none_said : IsFilterSaid front None None
  some_said : (after : List (List ℕ)) (fss : List (List Feature)) (f : Filter) → AreSaid IsElementOf false front after fss (map element_of f.elements.items)
      → map string_bytes f.letters.items ≡ map letters_in after → IsFilterSaid front (Some fss) (Some f)
