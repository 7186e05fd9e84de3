-- What the program keeps of the matches.
use Rattle.std.proofs.Common.{◌≡◌, ◌∙◌, sym, ap, refl, subst, ℕ, ◌<◌, ◌^◌, List, [], ◌∷◌, Option, None, Some, Bool, true, false, slice_get, arith, inl, inr, ◌⊎◌, codes, option_map, option_and_then, is_some, if◌then◌else◌}
use Rattle.std.specs.Str.{bytes_eq}
use Rattle.std.specs.Str.Parse.{IsNumeral, without_leading_plus}
use Rattle.clap.specs.Walk.{Row, Text, one_of, first_of, row_text, rows_of}
use Rattle.clap.specs.Matches.{one_text, first_value}
use Rattle.clap.specs.declared.parser.matches.Found.{Found}
use Rattle.clap.proofs.WalkLemmas.{one_text-rows, first_value-rows}
use Rattle.command_line.specs.Words.{OptionName, Settings, Mrs, Lattice, Verbose, in_range, option_id, value_of, number_of, number_or, only, IsValue, Item, positional, option as an_option, AreItems, positionals, value_in, FillPlaces}
use Rattle.command_line.specs.declared.reading.Places.{Places}
use Rattle.command_line.specs.declared.reading.Places.TheVariants.{NoPlace, OneName, TwoNames, TwoNumbers}
use Rattle.command_line.specs.Inner.Matches.{final, item_rows}
use Rattle.command_line.specs.Inner.Rules.{place_id}
use Rattle.command_line.specs.Inner.Reading.{places_in, names_in}
use Rattle.command_line.proofs.Built.{ArePlaces, none, one, two, numbers}
use Rattle.command_line.proofs.Uses.{option-bounded, IsBounded, ids-apart}
use Rattle.command_line.proofs.Looking.{option_row, place_row, value-final, first-final, second-final, mrs-final, lattice-final, verbose-final, flag_text}

pub places-are : (p : Places) → ArePlaces (places_in p)
places-are NoPlace = none
places-are OneName = one
places-are TwoNames = two
places-are TwoNumbers = numbers

-- an option's value is in its form
pub value-fits : (o : OptionName) (items : List Item) (vs : List Text) → AreItems items → value_in o items ≡ Some vs → IsValue (value_of o) vs
value-fits o [] vs are e = cc
value-fits o (positional w ∷ items) vs are e = value-fits o items vs are.1 e
value-fits o (an_option p ws ∷ items) vs are e = by_same (bytes_eq (option_id p) (option_id o)) (ids-apart p o) refl e (value-fits o items vs are.1)
  where
    by_same : (t : Bool) → (p ≡ o) ⊎ (bytes_eq (option_id p) (option_id o) ≡ false) → bytes_eq (option_id p) (option_id o) ≡ t → (if t then Some ws else value_in o items) ≡ Some vs
        → (value_in o items ≡ Some vs → IsValue (value_of o) vs) → IsValue (value_of o) vs
    by_same true (inl same) f g go = let here : ws ≡ vs = cc in subst (λ q. IsValue (value_of q) vs) same (subst (IsValue (value_of p)) here are.0)
    by_same true (inr apart) f g go = let bad : true ≡ false = sym f ∙ apart in cc
    by_same false s f g go = go g

-- the text that `get_one` reads of an option
option-text : (o : OptionName) (items : List Item) (f : Found) → rows_of f ≡ final (item_rows 0 items) → bytes_eq (option_id Verbose) (option_id o) ≡ false → bytes_eq (option_id Lattice) (option_id o) ≡ false → bytes_eq (option_id Mrs) (option_id o) ≡ false
    → one_text f (option_id o) ≡ option_and_then row_text (option_map (option_row o) (value_in o items))
option-text o items f rows v e g = one_text-rows f (option_id o) ∙ ap (one_of (option_id o)) rows ∙ ap (option_and_then row_text) (value-final o items v e g)

pub number-kept : (o : OptionName) (least greatest default r : ℕ) (items : List Item) (f : Found) → value_of o ≡ in_range least greatest → rows_of f ≡ final (item_rows 0 items) → AreItems items
    → bytes_eq (option_id Verbose) (option_id o) ≡ false → bytes_eq (option_id Lattice) (option_id o) ≡ false → bytes_eq (option_id Mrs) (option_id o) ≡ false
    → (one_text f (option_id o) ≡ None → r ≡ default)
    → ((t : Text) → one_text f (option_id o) ≡ Some t → IsNumeral 10 (without_leading_plus t) → number_of t < 2 ^ 64 → r ≡ number_of t)
    → r ≡ number_or default (value_in o items)
number-kept o least greatest default r items f is rows are v e g absent given = by_value (value_in o items) refl
  where
    text : one_text f (option_id o) ≡ option_and_then row_text (option_map (option_row o) (value_in o items))
    text = option-text o items f rows v e g

    by_number : (vs : List Text) → value_in o items ≡ Some vs → IsValue (in_range least greatest) vs → IsBounded (in_range least greatest) → r ≡ number_or default (Some vs)
    by_number (w ∷ []) there fits few = given w (text ∙ ap (λ v. option_and_then row_text (option_map (option_row o) v)) there ∙ rw is refl) fits.1.0 (omega (arith, few, fits))
    by_number vs there fits few = absurd fits

    by_value : (v : Option (List Text)) → value_in o items ≡ v → r ≡ number_or default v
    by_value None there = absent (text ∙ ap (λ v. option_and_then row_text (option_map (option_row o) v)) there)
    by_value (Some vs) there = by_number vs there (subst (λ v. IsValue v vs) is (value-fits o items vs are there)) (subst IsBounded is (option-bounded o))

pub settings-kept : (items : List Item) (f : Found) (r : Option Text) → rows_of f ≡ final (item_rows 0 items) → AreItems items → r ≡ first_value f (option_id Settings) → r ≡ only (value_in Settings items)
settings-kept items f r rows are is = is ∙ first_value-rows f (option_id Settings) ∙ ap (first_of (option_id Settings)) rows
    ∙ ap (option_and_then (λ (x : Row). slice_get x.values 0)) (value-final Settings items refl refl refl) ∙ by_value (value_in Settings items)
  where
    by_value : (v : Option (List Text)) → option_and_then (λ (x : Row). slice_get x.values 0) (option_map (option_row Settings) v) ≡ only v
    by_value None = refl
    by_value (Some []) = refl
    by_value (Some (w ∷ ws)) = refl

flag-kept : (t r : Bool) (f : Found) (id : Text) → one_text f id ≡ Some (flag_text t) → (one_text f id ≡ Some (codes "true") → r ≡ true) → (one_text f id ≡ Some (codes "false") → r ≡ false) → r ≡ t
flag-kept true r f id e on off = on e
flag-kept false r f id e on off = off e

pub mrs-kept : (items : List Item) (f : Found) (r : Bool) → rows_of f ≡ final (item_rows 0 items) → (one_text f (option_id Mrs) ≡ Some (codes "true") → r ≡ true) → (one_text f (option_id Mrs) ≡ Some (codes "false") → r ≡ false) → r ≡ is_some (value_in Mrs items)
mrs-kept items f r rows = flag-kept (is_some (value_in Mrs items)) r f (option_id Mrs) (one_text-rows f (option_id Mrs) ∙ ap (one_of (option_id Mrs)) rows ∙ mrs-final items)

pub lattice-kept : (items : List Item) (f : Found) (r : Bool) → rows_of f ≡ final (item_rows 0 items) → (one_text f (option_id Lattice) ≡ Some (codes "true") → r ≡ true) → (one_text f (option_id Lattice) ≡ Some (codes "false") → r ≡ false) → r ≡ is_some (value_in Lattice items)
lattice-kept items f r rows = flag-kept (is_some (value_in Lattice items)) r f (option_id Lattice) (one_text-rows f (option_id Lattice) ∙ ap (one_of (option_id Lattice)) rows ∙ lattice-final items)

pub verbose-kept : (items : List Item) (f : Found) (r : Bool) → rows_of f ≡ final (item_rows 0 items) → (one_text f (option_id Verbose) ≡ Some (codes "true") → r ≡ true) → (one_text f (option_id Verbose) ≡ Some (codes "false") → r ≡ false) → r ≡ is_some (value_in Verbose items)
verbose-kept items f r rows = flag-kept (is_some (value_in Verbose items)) r f (option_id Verbose) (one_text-rows f (option_id Verbose) ∙ ap (one_of (option_id Verbose)) rows ∙ verbose-final items)

-- the positional words
place-text : (o : Option Text) (k : ℕ) → option_and_then (λ (x : Row). slice_get x.values 0) (option_map (place_row k) o) ≡ o
place-text None k = refl
place-text (Some w) k = refl

pub first-kept : (items : List Item) (f : Found) → rows_of f ≡ final (item_rows 0 items) → first_value f (place_id 0) ≡ slice_get (positionals items) 0
first-kept items f rows = first_value-rows f (place_id 0) ∙ ap (first_of (place_id 0)) rows ∙ ap (option_and_then (λ (x : Row). slice_get x.values 0)) (first-final items) ∙ place-text (slice_get (positionals items) 0) 0

pub second-kept : (items : List Item) (f : Found) → rows_of f ≡ final (item_rows 0 items) → first_value f (place_id 1) ≡ slice_get (positionals items) 1
second-kept items f rows = first_value-rows f (place_id 1) ∙ ap (first_of (place_id 1)) rows ∙ ap (option_and_then (λ (x : Row). slice_get x.values 0)) (second-final items) ∙ place-text (slice_get (positionals items) 1) 1

-- the names, by what is found of them
pub names-kept : (p : Places) (ws : List Text) (a b : Text) → FillPlaces (places_in p) ws → ((w : Text) → slice_get ws 0 ≡ Some w → a ≡ w) → ((w : Text) → slice_get ws 1 ≡ Some w → b ≡ w) → ws ≡ names_in p a b
names-kept NoPlace [] a b fill f g = refl
names-kept NoPlace (w ∷ ws) a b fill f g = absurd fill
names-kept OneName [] a b fill f g = absurd fill
names-kept OneName (w ∷ []) a b fill f g = ap (λ x. x ∷ []) (sym (f w refl))
names-kept OneName (w ∷ x ∷ ws) a b fill f g = absurd fill.1
names-kept TwoNames [] a b fill f g = absurd fill
names-kept TwoNames (w ∷ []) a b fill f g = absurd fill.1
names-kept TwoNames (w ∷ x ∷ []) a b fill f g = rw (f w refl, g x refl) refl
names-kept TwoNames (w ∷ x ∷ y ∷ ws) a b fill f g = absurd fill.1.1
names-kept TwoNumbers [] a b fill f g = absurd fill
names-kept TwoNumbers (w ∷ []) a b fill f g = absurd fill.1
names-kept TwoNumbers (w ∷ x ∷ []) a b fill f g = rw (f w refl, g x refl) refl
names-kept TwoNumbers (w ∷ x ∷ y ∷ ws) a b fill f g = absurd fill.1.1
