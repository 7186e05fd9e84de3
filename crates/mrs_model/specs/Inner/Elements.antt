-- The elements of an MRS, of three kinds, and their keys.
use Rattle.std.specs.Prelude.{ℕ, List, ◌++◌, map}
use Rattle.mrs_model.specs.Meanings.{Predication, Constraint, Meaning}
use Rattle.mrs_model.specs.Valid.{StandsIn, IsEnd}
use Rattle.mrs_model.specs.Digest.{ep_key, hcon_key, icon_key}
use Rattle.mrs_model.specs.Renaming.{renamed_ep, unspanned, renamed_constraint}

-- an elementary predication without its span, or a constraint of either kind
pub data Element : Type 0 where
  an_ep : Predication → Element
  an_hcon : Constraint → Element
  an_icon : Constraint → Element

abbrev pub elements : Meaning → List Element
elements m = map (λ e. an_ep (unspanned e)) m.eps ++ (map an_hcon m.hcons ++ map an_icon m.icons)

abbrev pub renamed : List ℕ → Element → Element
renamed to (an_ep e) = an_ep (renamed_ep to e)
renamed to (an_hcon c) = an_hcon (renamed_constraint to c)
renamed to (an_icon c) = an_icon (renamed_constraint to c)

-- the variable stands in the element
abbrev pub IsIn : ℕ → Element → Type 0
IsIn v (an_ep e) = StandsIn v e
IsIn v (an_hcon c) = IsEnd v c
IsIn v (an_icon c) = IsEnd v c

-- A key is a number that no renaming changes: elements with different keys differ.
abbrev pub key_of : Element → ℕ
key_of (an_ep e) = ep_key e
key_of (an_hcon c) = hcon_key c
key_of (an_icon c) = icon_key c
