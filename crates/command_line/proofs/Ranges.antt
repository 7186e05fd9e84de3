-- The numbers of a form are in their ranges.
use Rattle.std.proofs.Common.{◌≡◌, ◌∙◌, sym, refl, subst, arith, ℕ, List, [], ◌∷◌, Option, None, Some}
use Rattle.command_line.specs.Words.{OptionName, Workers, Edges, Readings, Lexical, Unary, Empty, in_range, value_of, number_or, IsValue, Item, AreItems, value_in, FillPlaces, options_of, Options, Task, self_test, run, IsForm, IsWithin, AreWithin}
use Rattle.command_line.proofs.Keeping.{value-fits}

-- an option's number, or a default that is in its range
number-within : (o : OptionName) (least greatest default : ℕ) (items : List Item) → value_of o ≡ in_range least greatest → IsWithin (in_range least greatest) default → AreItems items
    → IsWithin (in_range least greatest) (number_or default (value_in o items))
number-within o least greatest default items is within are = by_value (value_in o items) refl
  where
    by_words : (vs : List (List ℕ)) → IsValue (in_range least greatest) vs → IsWithin (in_range least greatest) (number_or default (Some vs))
    by_words (w ∷ []) fits = (fits.1.1, fits.1.2)
    by_words vs fits = absurd fits

    by_value : (v : Option (List (List ℕ))) → value_in o items ≡ v → IsWithin (in_range least greatest) (number_or default v)
    by_value None there = within
    by_value (Some vs) there = by_words vs (subst (λ v. IsValue v vs) is (value-fits o items vs are there))

pub options-within : (items : List Item) → AreItems items → AreWithin (options_of items)
options-within items are = (
  number-within Workers 1 64 1 items refl (omega arith, omega arith) are,
  number-within Edges 1 20000 5000 items refl (omega arith, omega arith) are,
  number-within Readings 1 100000 10000 items refl (omega arith, omega arith) are,
  number-within Lexical 0 15 7 items refl (omega arith, omega arith) are,
  number-within Unary 0 32 8 items refl (omega arith, omega arith) are,
  number-within Empty 0 16 4 items refl (omega arith, omega arith) are,
)

pub form-within : (words : List (List ℕ)) (task : Task) (options : Options) → IsForm words (run task options) → AreWithin options
form-within words task options h = let a = h.3 in subst AreWithin (sym a.6) (options-within a.0 a.2)

pub size-within : (words : List (List ℕ)) (number size : ℕ) (options : Options) → IsForm words (run (self_test number size) options) → IsWithin (in_range 1 1000) size
size-within words number size options h =
    let a = h.3 in
    let n = h.4 in
    let fill : FillPlaces (in_range 0 18446744073709551615 ∷ in_range 1 1000 ∷ []) (n.0 ∷ n.1 ∷ []) = subst (FillPlaces (in_range 0 18446744073709551615 ∷ in_range 1 1000 ∷ [])) (a.5 ∙ n.2) a.4 in
    subst (IsWithin (in_range 1 1000)) (sym n.4) (fill.1.0.1.1, fill.1.0.1.2)
