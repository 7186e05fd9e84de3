-- What is found of items.
use Rattle.std.proofs.Common.{◌≡◌, ◌∙◌, sym, ap, refl, ℕ, suc, List, [], ◌∷◌, ◌++◌, Option, None, Some, Bool, true, false, ◌||◌, slice_get, inl, inr, codes, fold, find, option_map, option_and_then, is_some, if◌then◌else◌}
use Rattle.std.proofs.lemmas.Slice.Eq.{bytes_eq-Decides}
use Rattle.std.specs.Str.{bytes_eq}
use Rattle.clap.specs.Walk.{Rule, Row, Text, has_row, with_values, with_default, one_of, row_text}
use Rattle.clap.specs.declared.builder.value_parser.Reading.TheVariants.{AsWritten}
use Rattle.clap.specs.declared.builder.value_parser.ValueParser.{ValueParser}
use Rattle.clap.specs.declared.builder.value_parser.ValueParser.TheVariants as vp
use Rattle.clap.specs.declared.parser.matches.ValueSource.TheVariants.{DefaultValue}
use Rattle.command_line.specs.Words.{OptionName, Workers, Edges, Readings, Lexical, Unary, Empty, Settings, Mrs, Lattice, Verbose, Value, nothing, option_id, value_of, Item, positional, option as an_option, positionals, value_in}
use Rattle.command_line.specs.Inner.Rules.{place_id}
pub use Rattle.command_line.specs.Inner.Matches.{with_flag, final}
use Rattle.command_line.proofs.Built.{full_rule, one_rule, place_rules, rules_with}
use Rattle.command_line.proofs.Uses.{row_by, values_given, item_rows, ids-apart, place-apart}

abbrev pub found : Text → List Row → Option Row
found id rows = find (λ r. bytes_eq r.id id) rows

-- a row that isn't the one looked for
found-skip : (id : Text) (r : Row) (rows : List Row) → bytes_eq r.id id ≡ false → found id (r ∷ rows) ≡ found id rows
found-skip id r rows e = rw e refl

found-here : (id : Text) (r : Row) (rows : List Row) → bytes_eq r.id id ≡ true → found id (r ∷ rows) ≡ Some r
found-here id r rows e = rw e refl

-- an option among the items
abbrev pub option_row : OptionName → List Text → Row
option_row o vs = row_by (option_id o) (values_given (value_of o) vs)

pub option-found : (o : OptionName) (items : List Item) (k : ℕ) → found (option_id o) (item_rows k items) ≡ option_map (option_row o) (value_in o items)
option-found o [] k = refl
option-found o (positional w ∷ items) k = found-skip (option_id o) _ (item_rows (suc k) items) (place-apart k o).0 ∙ option-found o items (suc k)
option-found o (an_option p vs ∷ items) k = elim (ids-apart p o) [
  | inl same ↦ (let here : bytes_eq (option_id p) (option_id o) ≡ true = (bytes_eq-Decides (option_id p) (option_id o)).1 (ap option_id same) in
      found-here (option_id o) (option_row p vs) (item_rows k items) here ∙ ap (λ q. Some (option_row q vs)) same ∙ sym (rw here refl))
  | inr apart ↦ found-skip (option_id o) (option_row p vs) (item_rows k items) apart ∙ option-found o items k ∙ sym (rw apart refl)
]

abbrev pub place_row : ℕ → Text → Row
place_row k w = row_by (place_id k) (w ∷ [])

pub first-found : (items : List Item) → found (place_id 0) (item_rows 0 items) ≡ option_map (place_row 0) (slice_get (positionals items) 0)
first-found [] = refl
first-found (positional w ∷ items) = refl
first-found (an_option p vs ∷ items) = found-skip (place_id 0) (option_row p vs) (item_rows 0 items) (place-apart 0 p).1 ∙ first-found items

later-found : (items : List Item) (k : ℕ) → found (place_id 1) (item_rows (suc k) items) ≡ option_map (place_row 1) (slice_get (positionals items) 0)
later-found [] k = refl
later-found (positional w ∷ items) k = refl
later-found (an_option p vs ∷ items) k = found-skip (place_id 1) (option_row p vs) (item_rows (suc k) items) (place-apart 1 p).1 ∙ later-found items k

pub second-found : (items : List Item) → found (place_id 1) (item_rows 0 items) ≡ option_map (place_row 1) (slice_get (positionals items) 1)
second-found [] = refl
second-found (positional w ∷ items) = later-found items 0
second-found (an_option p vs ∷ items) = found-skip (place_id 1) (option_row p vs) (item_rows 0 items) (place-apart 1 p).1 ∙ second-found items

-- defaults
abbrev default_row : Text → Row
default_row id = record (row_by id (codes "false" ∷ [])) { source = Some DefaultValue }

if-same : {X : Type 0} (t : Bool) (x : X) → (if t then x else x) ≡ x
if-same true x = refl
if-same false x = refl

flag-row : (id : Text) (rows : List Row) → has_row id rows ≡ false → with_values id AsWritten DefaultValue (codes "false" ∷ []) rows ≡ rows ++ default_row id ∷ []
flag-row id [] h = refl
flag-row id (r ∷ rows) h = by_cases (bytes_eq r.id id) refl h (flag-row id rows)
  where
    by_cases : (t : Bool) → bytes_eq r.id id ≡ t → (t || has_row id rows) ≡ false → (has_row id rows ≡ false → with_values id AsWritten DefaultValue (codes "false" ∷ []) rows ≡ rows ++ default_row id ∷ [])
        → with_values id AsWritten DefaultValue (codes "false" ∷ []) (r ∷ rows) ≡ r ∷ (rows ++ default_row id ∷ [])
    by_cases true e g go = cc
    by_cases false e g go = rw e (ap (λ x. r ∷ x) (go g))

one-default : (parser : ValueParser) (id : Text) (rows : List Row) → with_default rows (one_rule parser id) ≡ rows
one-default parser id rows = if-same (has_row id rows) rows

places-default : (places : List Value) (k : ℕ) (rows : List Row) → fold with_default rows (place_rules k places) ≡ rows
places-default [] k rows = refl
places-default (v ∷ places) k rows = ap (λ x. fold with_default x (place_rules (suc k) places)) (if-same (has_row (place_id k) rows) rows) ∙ places-default places (suc k) rows

skip-one : (a : Rule) (rest : List Rule) (rows : List Row) → with_default rows a ≡ rows → fold with_default rows (a ∷ rest) ≡ fold with_default rows rest
skip-one a rest rows e = ap (λ x. fold with_default x rest) e

pub finished-is : (places : List Value) (rows : List Row) → fold with_default rows (rules_with places) ≡ with_flag (option_id Verbose) (with_flag (option_id Lattice) (with_flag (option_id Mrs) rows))
finished-is places rows =
    let from_flags = full_rule Mrs ∷ full_rule Lattice ∷ full_rule Verbose ∷ place_rules 0 places in
    let from_settings = full_rule Settings ∷ from_flags in
    let from_empty = full_rule Empty ∷ from_settings in
    let from_unary = full_rule Unary ∷ from_empty in
    let from_lexical = full_rule Lexical ∷ from_unary in
    let from_readings = full_rule Readings ∷ from_lexical in
    let from_edges = full_rule Edges ∷ from_readings in
    skip-one (full_rule Workers) from_edges rows (one-default (vp.Unsigned 1 64) (codes "workers") rows)
    ∙ skip-one (full_rule Edges) from_readings rows (one-default (vp.Unsigned 1 20000) (codes "edges") rows)
    ∙ skip-one (full_rule Readings) from_lexical rows (one-default (vp.Unsigned 1 100000) (codes "readings") rows)
    ∙ skip-one (full_rule Lexical) from_unary rows (one-default (vp.Unsigned 0 15) (codes "lexical") rows)
    ∙ skip-one (full_rule Unary) from_empty rows (one-default (vp.Unsigned 0 32) (codes "unary") rows)
    ∙ skip-one (full_rule Empty) from_settings rows (one-default (vp.Unsigned 0 16) (codes "empty") rows)
    ∙ skip-one (full_rule Settings) from_flags rows (one-default vp.String (codes "settings") rows)
    ∙ places-default places 0 (with_flag (option_id Verbose) (with_flag (option_id Lattice) (with_flag (option_id Mrs) rows)))

found-end : (id other : Text) (rows : List Row) → bytes_eq other id ≡ false → found id (rows ++ default_row other ∷ []) ≡ found id rows
found-end id other [] e = rw e refl
found-end id other (r ∷ rows) e = by_cases (bytes_eq r.id id) refl (found-end id other rows e)
  where
    by_cases : (t : Bool) → bytes_eq r.id id ≡ t → found id (rows ++ default_row other ∷ []) ≡ found id rows → found id (r ∷ (rows ++ default_row other ∷ [])) ≡ found id (r ∷ rows)
    by_cases true f ih = rw f refl
    by_cases false f ih = rw f ih

-- another's default changes nothing
flag-skip : (id other : Text) (rows : List Row) → bytes_eq other id ≡ false → found id (with_flag other rows) ≡ found id rows
flag-skip id other rows e = by_cases (has_row other rows) refl
  where
    by_cases : (t : Bool) → has_row other rows ≡ t → found id (with_flag other rows) ≡ found id rows
    by_cases true f = rw f refl
    by_cases false f = rw f (ap (found id) (flag-row other rows f) ∙ found-end id other rows e)

-- what is found of a flag
found-row : (id : Text) (rows : List Row) → has_row id rows ≡ is_some (found id rows)
found-row id [] = refl
found-row id (r ∷ rows) = by_cases (bytes_eq r.id id) refl (found-row id rows)
  where
    by_cases : (t : Bool) → bytes_eq r.id id ≡ t → has_row id rows ≡ is_some (found id rows) → (t || has_row id rows) ≡ is_some (if t then Some r else found id rows)
    by_cases true f ih = refl
    by_cases false f ih = ih

found-last : (id : Text) (rows : List Row) → has_row id rows ≡ false → found id (rows ++ default_row id ∷ []) ≡ Some (default_row id)
found-last id [] h = rw ((bytes_eq-Decides id id).1 refl) refl
found-last id (r ∷ rows) h = by_cases (bytes_eq r.id id) refl h (found-last id rows)
  where
    by_cases : (t : Bool) → bytes_eq r.id id ≡ t → (t || has_row id rows) ≡ false → (has_row id rows ≡ false → found id (rows ++ default_row id ∷ []) ≡ Some (default_row id))
        → found id (r ∷ (rows ++ default_row id ∷ [])) ≡ Some (default_row id)
    by_cases true f g ih = cc
    by_cases false f g ih = rw f (ih g)

flag-found : (id : Text) (rows : List Row) (r : Row) → found id rows ≡ Some r → found id (with_flag id rows) ≡ Some r
flag-found id rows r e = let here : has_row id rows ≡ true = found-row id rows ∙ ap is_some e in rw here e

flag-default : (id : Text) (rows : List Row) → found id rows ≡ None → found id (with_flag id rows) ≡ Some (default_row id)
flag-default id rows e = let none_there : has_row id rows ≡ false = found-row id rows ∙ ap is_some e in rw none_there (ap (found id) (flag-row id rows none_there) ∙ found-last id rows none_there)

-- ---- what stands in the end
final-skip : (id : Text) (rows : List Row) → bytes_eq (option_id Verbose) id ≡ false → bytes_eq (option_id Lattice) id ≡ false → bytes_eq (option_id Mrs) id ≡ false → found id (final rows) ≡ found id rows
final-skip id rows v e f = flag-skip id (option_id Verbose) (with_flag (option_id Lattice) (with_flag (option_id Mrs) rows)) v ∙ flag-skip id (option_id Lattice) (with_flag (option_id Mrs) rows) e ∙ flag-skip id (option_id Mrs) rows f

-- an option with a value
pub value-final : (o : OptionName) (items : List Item) → bytes_eq (option_id Verbose) (option_id o) ≡ false → bytes_eq (option_id Lattice) (option_id o) ≡ false → bytes_eq (option_id Mrs) (option_id o) ≡ false
    → found (option_id o) (final (item_rows 0 items)) ≡ option_map (option_row o) (value_in o items)
value-final o items v e f = final-skip (option_id o) (item_rows 0 items) v e f ∙ option-found o items 0

pub first-final : (items : List Item) → found (place_id 0) (final (item_rows 0 items)) ≡ option_map (place_row 0) (slice_get (positionals items) 0)
first-final items = final-skip (place_id 0) (item_rows 0 items) refl refl refl ∙ first-found items

pub second-final : (items : List Item) → found (place_id 1) (final (item_rows 0 items)) ≡ option_map (place_row 1) (slice_get (positionals items) 1)
second-final items = final-skip (place_id 1) (item_rows 0 items) refl refl refl ∙ second-found items

-- the text of a flag
abbrev pub flag_text : Bool → Text
flag_text true = codes "true"
flag_text false = codes "false"

-- what is read of a flag whose default was given after that of others
flag-final : (o : OptionName) (items : List Item) (rows : List Row) → value_of o ≡ nothing → found (option_id o) rows ≡ option_map (option_row o) (value_in o items)
    → option_and_then row_text (found (option_id o) (with_flag (option_id o) rows)) ≡ Some (flag_text (is_some (value_in o items)))
flag-final o items rows is e = by_value (value_in o items) e
  where
    by_value : (v : Option (List (List ℕ))) → found (option_id o) rows ≡ option_map (option_row o) v → option_and_then row_text (found (option_id o) (with_flag (option_id o) rows)) ≡ Some (flag_text (is_some v))
    by_value (Some vs) e = ap (option_and_then row_text) (flag-found (option_id o) rows (option_row o vs) e) ∙ rw is refl
    by_value None e = ap (option_and_then row_text) (flag-default (option_id o) rows e)

pub mrs-final : (items : List Item) → one_of (option_id Mrs) (final (item_rows 0 items)) ≡ Some (flag_text (is_some (value_in Mrs items)))
mrs-final items =
    let rows = item_rows 0 items in
    ap (option_and_then row_text) (flag-skip (option_id Mrs) (option_id Verbose) (with_flag (option_id Lattice) (with_flag (option_id Mrs) rows)) refl ∙ flag-skip (option_id Mrs) (option_id Lattice) (with_flag (option_id Mrs) rows) refl)
    ∙ flag-final Mrs items rows refl (option-found Mrs items 0)

pub lattice-final : (items : List Item) → one_of (option_id Lattice) (final (item_rows 0 items)) ≡ Some (flag_text (is_some (value_in Lattice items)))
lattice-final items =
    let rows = item_rows 0 items in
    ap (option_and_then row_text) (flag-skip (option_id Lattice) (option_id Verbose) (with_flag (option_id Lattice) (with_flag (option_id Mrs) rows)) refl)
    ∙ flag-final Lattice items (with_flag (option_id Mrs) rows) refl (flag-skip (option_id Lattice) (option_id Mrs) rows refl ∙ option-found Lattice items 0)

pub verbose-final : (items : List Item) → one_of (option_id Verbose) (final (item_rows 0 items)) ≡ Some (flag_text (is_some (value_in Verbose items)))
verbose-final items =
    let rows = item_rows 0 items in
    flag-final Verbose items (with_flag (option_id Lattice) (with_flag (option_id Mrs) rows)) refl
    (flag-skip (option_id Verbose) (option_id Lattice) (with_flag (option_id Mrs) rows) refl ∙ flag-skip (option_id Verbose) (option_id Mrs) rows refl ∙ option-found Verbose items 0)
