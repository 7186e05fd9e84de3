-- The uses of items pass exactly where the items are in their form.
use Rattle.std.proofs.Common.{◌≡◌, ◌∙◌, sym, ap, refl, subst, ℕ, zero, suc, ◌≤◌, ◌<◌, ◌^◌, List, [], ◌∷◌, ◌++◌, length, Some, Bool, true, false, ◌||◌, slice_get, arith, inl, inr, ◌⊎◌, codes, nat_le, nat_lt, append_assoc, append-nil}
use Rattle.std.proofs.lemmas.Bool.Decides.{Decides-and, Decides-ltb, nat_tests}
use Rattle.std.proofs.lemmas.Slice.Eq.{bytes_eq-Decides}
use Rattle.std.specs.Bool.{Decides}
use Rattle.std.specs.Char.{digit_value}
use Rattle.std.specs.List.{list_all}
use Rattle.std.specs.Str.{bytes_eq}
use Rattle.std.specs.Str.Parse.{AllDigits, without_leading_plus}
use Rattle.clap.specs.Walk.{Row, Text, used, has_row, with_values, without}
use Rattle.clap.specs.Kinds.{Kinds, or_else, values_kinds}
use Rattle.clap.specs.Faults.{use_fault, repeat_fault}
use Rattle.clap.specs.ValueTests.{accepts, is_unsigned_in}
use Rattle.clap.specs.declared.builder.value_parser.Reading.TheVariants.{AsWritten}
use Rattle.clap.specs.declared.parser.matches.ValueSource.TheVariants.{CommandLine}
use Rattle.clap.specs.declared.builder.value_parser.ValueParser.{ValueParser}
use Rattle.clap.specs.declared.builder.value_parser.ValueParser.TheVariants as vp
use Rattle.command_line.specs.Words.{OptionName, Workers, Edges, Readings, Lexical, Unary, Empty, Settings, Mrs, Lattice, Verbose, Value, in_range, name, nothing, option_id, value_of, is_name, number_of, IsNumber, IsValue, Item, positional, option as an_option, AreItems, IsNotIn, AreOnce, positionals}
use Rattle.command_line.specs.Inner.Rules.{place_id}
pub use Rattle.command_line.specs.Inner.Matches.{row_by, values_given, item_rows}
use Rattle.command_line.proofs.Built.{ArePlaces, none, one, two, numbers, full_rule_by, full_place, full_parser, flag_rule}
use Rattle.command_line.proofs.Cutting.{IsShaped, AreShaped, ItemsPass, rows_after, few-places}

-- rows
new-row : (id : Text) (vs : List Text) (rows : List Row) → has_row id rows ≡ false → with_values id AsWritten CommandLine vs (without id rows) ≡ rows ++ row_by id vs ∷ []
new-row id vs [] h = refl
new-row id vs (r ∷ rows) h = by_cases (bytes_eq r.id id) refl h (new-row id vs rows)
  where
    by_cases : (t : Bool) → bytes_eq r.id id ≡ t → (t || has_row id rows) ≡ false → (has_row id rows ≡ false → with_values id AsWritten CommandLine vs (without id rows) ≡ rows ++ row_by id vs ∷ [])
        → with_values id AsWritten CommandLine vs (without id (r ∷ rows)) ≡ r ∷ (rows ++ row_by id vs ∷ [])
    by_cases true e g go = cc
    by_cases false e g go = rw (e, e) (ap (λ x. r ∷ x) (go g))

pub has-more : (id : Text) (rows : List Row) (r : Row) → has_row id (rows ++ r ∷ []) ≡ (has_row id rows || bytes_eq r.id id)
has-more id [] r = by_cases (bytes_eq r.id id)
  where
    by_cases : (t : Bool) → (t || false) ≡ (false || t)
    by_cases true = refl
    by_cases false = refl
has-more id (x ∷ rows) r = ap (λ t. bytes_eq x.id id || t) (has-more id rows r) ∙ regroup (bytes_eq x.id id) (has_row id rows) (bytes_eq r.id id)
  where
    regroup : (a b c : Bool) → (a || (b || c)) ≡ ((a || b) || c)
    regroup true b c = refl
    regroup false b c = refl

-- values
digits-Decides : (ds : List ℕ) → Decides (list_all (λ d. nat_lt (digit_value d) 10) ds) (AllDigits 10 ds)
digits-Decides [] = (λ e. tt, λ h. refl)
digits-Decides (b ∷ bs) = Decides-and _ _ (Decides-ltb (digit_value b) 10) (digits-Decides bs)

leb-Decides : (a b : ℕ) → Decides (nat_le a b) (a ≤ b)
leb-Decides a b = (λ e. grind (arith, nat_tests), λ h. grind (arith, nat_tests))

number-Decides : (least greatest : ℕ) (w : List ℕ) → greatest < 2 ^ 64 → Decides (is_unsigned_in least greatest w) (IsNumber least greatest w)
number-Decides least greatest w few =
    let digits = Decides-and _ _ (Decides-ltb 0 (length (without_leading_plus w))) (digits-Decides (without_leading_plus w)) in
    let parts = Decides-and _ _ digits (Decides-and _ _ (Decides-ltb (number_of w) (2 ^ 64)) (Decides-and _ _ (leb-Decides least (number_of w)) (leb-Decides (number_of w) greatest))) in
    (λ e. (let h = parts.0 e in ((h.0.0, h.0.1), h.1.1.0, h.1.1.1)), λ h. parts.1 ((h.0.0, h.0.1), (omega (arith, few, h), (h.1, h.2))))

-- the numbers of a value fit in 64 bits
abbrev pub IsBounded : Value → Type 0
IsBounded (in_range least greatest) = greatest < 2 ^ 64
IsBounded v = Unit {0}

pub value-accepts : (v : Value) (w : Text) → IsBounded v → accepts false (full_parser v) w ≡ true → IsShaped v (w ∷ []) → IsValue v (w ∷ [])
value-accepts (in_range least greatest) w few e h = (h, (number-Decides least greatest w few).0 e)
value-accepts name w few e h = h
value-accepts nothing w few e h = absurd h

pub accepts-value : (v : Value) (w : Text) → IsBounded v → IsValue v (w ∷ []) → accepts false (full_parser v) w ≡ true
accepts-value (in_range least greatest) w few h = (number-Decides least greatest w few).1 h.1
accepts-value name w few h = refl
accepts-value nothing w few h = absurd h

pub value-shaped : (v : Value) (vs : List Text) → IsValue v vs → IsShaped v vs
value-shaped (in_range least greatest) (w ∷ []) h = h.0
value-shaped name (w ∷ []) h = h
value-shaped nothing [] h = tt
value-shaped v vs h = absurd h

-- a use with one value
abbrev one_kinds : Text → ValueParser → Text → List Row → Kinds
one_kinds id parser w rows = or_else (repeat_fault false id rows) (values_kinds false parser (w ∷ []))

one-passes : (id : Text) (parser : ValueParser) (w : Text) (rows : List Row) → one_kinds id parser w rows ≡ [] → (has_row id rows ≡ false) × (accepts false parser w ≡ true)
one-passes id parser w rows e = by_cases (has_row id rows) (accepts false parser w) refl refl
  where
    by_cases : (t u : Bool) → has_row id rows ≡ t → accepts false parser w ≡ u → (t ≡ false) × (u ≡ true)
    by_cases false true f g = (refl, refl)
    by_cases true u f g = absurd (let bad = rw f at e in cc)
    by_cases false false f g = absurd (let bad = rw (f, g) at e in cc)

passes-one : (id : Text) (parser : ValueParser) (w : Text) (rows : List Row) → has_row id rows ≡ false → accepts false parser w ≡ true → one_kinds id parser w rows ≡ []
passes-one id parser w rows f g = rw (f, g) refl

-- a use of a flag
flag-passes : (id : Text) (rows : List Row) → use_fault false (flag_rule id) [] rows ≡ [] → has_row id rows ≡ false
flag-passes id rows e = by_cases (has_row id rows) refl
  where
    by_cases : (t : Bool) → has_row id rows ≡ t → t ≡ false
    by_cases false f = refl
    by_cases true f = absurd (let bad = rw f at e in cc)

passes-flag : (id : Text) (rows : List Row) → has_row id rows ≡ false → use_fault false (flag_rule id) [] rows ≡ []
passes-flag id rows f = rw f refl

-- the use of an option
record Use (v : Value) (id : Text) (vs : List Text) (rows : List Row) : Type 0 where
  new : has_row id rows ≡ false
  value : IsValue v vs
  row : used (full_rule_by v id) vs rows ≡ rows ++ row_by id (values_given v vs) ∷ []

option-use : (v : Value) (id : Text) (vs : List Text) (rows : List Row) → IsBounded v → IsShaped v vs → use_fault false (full_rule_by v id) vs rows ≡ [] → Use v id vs rows
option-use (in_range least greatest) id (w ∷ []) rows few h e =
    let p = one-passes id (vp.Unsigned least greatest) w rows e in record { new = p.0; value = value-accepts (in_range least greatest) w few p.1 h; row = new-row id (w ∷ []) rows p.0 }
option-use name id (w ∷ []) rows few h e =
    let p = one-passes id vp.String w rows e in record { new = p.0; value = h; row = new-row id (w ∷ []) rows p.0 }
option-use nothing id [] rows few h e =
    let p = flag-passes id rows e in record { new = p; value = tt; row = new-row id (codes "true" ∷ []) rows p }
option-use v id vs rows few h e = absurd h

use-option : (v : Value) (id : Text) (vs : List Text) (rows : List Row) → IsBounded v → IsValue v vs → has_row id rows ≡ false
    → (use_fault false (full_rule_by v id) vs rows ≡ []) × (used (full_rule_by v id) vs rows ≡ rows ++ row_by id (values_given v vs) ∷ [])
use-option (in_range least greatest) id (w ∷ []) rows few h new = (passes-one id (vp.Unsigned least greatest) w rows new (accepts-value (in_range least greatest) w few h), new-row id (w ∷ []) rows new)
use-option name id (w ∷ []) rows few h new = (passes-one id vp.String w rows new refl, new-row id (w ∷ []) rows new)
use-option nothing id [] rows few h new = (passes-flag id rows new, new-row id (codes "true" ∷ []) rows new)
use-option v id vs rows few h new = absurd h

-- the use of a place
place-row : (k : ℕ) (v : Value) (w : Text) (rows : List Row) → has_row (place_id k) rows ≡ false → used (full_place k v) (w ∷ []) rows ≡ rows ++ row_by (place_id k) (w ∷ []) ∷ []
place-row k (in_range least greatest) w rows new = new-row (place_id k) (w ∷ []) rows new
place-row k name w rows new = new-row (place_id k) (w ∷ []) rows new
place-row k nothing w rows new = new-row (place_id k) (w ∷ []) rows new

-- the values of options are bounded
pub option-bounded : (o : OptionName) → IsBounded (value_of o)
option-bounded Workers = omega arith
option-bounded Edges = omega arith
option-bounded Readings = omega arith
option-bounded Lexical = omega arith
option-bounded Unary = omega arith
option-bounded Empty = omega arith
option-bounded Settings = tt
option-bounded Mrs = tt
option-bounded Lattice = tt
option-bounded Verbose = tt

pub ids-apart : (p o : OptionName) → (p ≡ o) ⊎ (bytes_eq (option_id p) (option_id o) ≡ false)
ids-apart Workers Workers = inl refl
ids-apart Edges Edges = inl refl
ids-apart Readings Readings = inl refl
ids-apart Lexical Lexical = inl refl
ids-apart Unary Unary = inl refl
ids-apart Empty Empty = inl refl
ids-apart Settings Settings = inl refl
ids-apart Mrs Mrs = inl refl
ids-apart Lattice Lattice = inl refl
ids-apart Verbose Verbose = inl refl
ids-apart p o = inr refl

pub place-apart : (k : ℕ) (o : OptionName) → (bytes_eq (place_id k) (option_id o) ≡ false) × (bytes_eq (option_id o) (place_id k) ≡ false)
place-apart zero Workers = (refl, refl)
place-apart zero o = (refl, refl)
place-apart (suc k) Workers = (refl, refl)
place-apart (suc k) o = (refl, refl)

bounded-places : (places : List Value) (k : ℕ) (v : Value) → ArePlaces places → slice_get places k ≡ Some v → IsBounded v
bounded-places places k v none e = cc
bounded-places places zero v one e = let same : name ≡ v = cc in subst IsBounded same tt
bounded-places places (suc k) v one e = cc
bounded-places places zero v two e = let same : name ≡ v = cc in subst IsBounded same tt
bounded-places places (suc zero) v two e = let same : name ≡ v = cc in subst IsBounded same tt
bounded-places places (suc (suc k)) v two e = cc
bounded-places places zero v numbers e = let same : in_range 0 18446744073709551615 ≡ v = cc in subst IsBounded same (omega arith)
bounded-places places (suc zero) v numbers e = let same : in_range 1 1000 ≡ v = cc in subst IsBounded same (omega arith)
bounded-places places (suc (suc k)) v numbers e = cc

place-shaped : (places : List Value) (k : ℕ) (v : Value) (w : Text) → ArePlaces places → slice_get places k ≡ Some v → is_name w ≡ true → IsShaped v (w ∷ [])
place-shaped places k v w none e h = cc
place-shaped places zero v w one e h = let same : name ≡ v = cc in subst (λ x. IsShaped x (w ∷ [])) same h
place-shaped places (suc k) v w one e h = cc
place-shaped places zero v w two e h = let same : name ≡ v = cc in subst (λ x. IsShaped x (w ∷ [])) same h
place-shaped places (suc zero) v w two e h = let same : name ≡ v = cc in subst (λ x. IsShaped x (w ∷ [])) same h
place-shaped places (suc (suc k)) v w two e h = cc
place-shaped places zero v w numbers e h = let same : in_range 0 18446744073709551615 ≡ v = cc in subst (λ x. IsShaped x (w ∷ [])) same h
place-shaped places (suc zero) v w numbers e h = let same : in_range 1 1000 ≡ v = cc in subst (λ x. IsShaped x (w ∷ [])) same h
place-shaped places (suc (suc k)) v w numbers e h = cc

or-true : (a b : Bool) → (a || b) ≡ true → (a ≡ true) ⊎ (b ≡ true)
or-true true b e = inl refl
or-true false b e = inr e

module _ (places : List Value) (are : ArePlaces places) where
  -- these positional words are values of the places from this one on
  abbrev pub PlacesFrom : ℕ → List Text → Type 0
  PlacesFrom k [] = Unit {0}
  PlacesFrom k (w ∷ ws) = (v : Value) × (slice_get places k ≡ Some v) × IsValue v (w ∷ []) × PlacesFrom (suc k) ws

  pub record Sound (k : ℕ) (rows : List Row) (items : List Item) : Type 0 where
    pub items_are : AreItems items
    pub once : AreOnce items
    pub new : (o : OptionName) → has_row (option_id o) rows ≡ true → IsNotIn o items
    pub placed : PlacesFrom k (positionals items)
    pub end : rows_after places are k rows items ≡ rows ++ item_rows k items

  after-more : (k : ℕ) (rows : List Row) (r : Row) (items : List Item) (rest : List Row) → rows_after places are k (rows ++ r ∷ []) items ≡ (rows ++ r ∷ []) ++ rest → rows_after places are k (rows ++ r ∷ []) items ≡ rows ++ r ∷ rest
  after-more k rows r items rest e = e ∙ append_assoc rows (r ∷ []) rest

  pub sound : (items : List Item) (k : ℕ) (rows : List Row) → AreShaped items → ItemsPass places are k rows items → Sound k rows items
  sound [] k rows shaped pass = record { items_are = tt; once = tt; new = λ o e. tt; placed = tt; end = sym (append-nil rows) }
  sound (positional w ∷ items) k rows shaped pass =
      let v = pass.0 in
      let at = pass.1 in
      let p = one-passes (place_id k) (full_parser v) w rows pass.2 in
      let row = place-row k v w rows p.0 in
      let r = sound items (suc k) (rows ++ row_by (place_id k) (w ∷ []) ∷ []) shaped.1 (subst (λ x. ItemsPass places are (suc k) x items) row pass.3) in
      record {
        items_are = (shaped.0, r.items_are);
        once = r.once;
        new = λ o e. r.new o (has-more (option_id o) rows (row_by (place_id k) (w ∷ [])) ∙ rw e refl);
        placed = (v, at, value-accepts v w (bounded-places places k v are at) p.1 (place-shaped places k v w are at shaped.0), r.placed);
        end = rw at (ap (λ x. rows_after places are (suc k) x items) row ∙ r.end ∙ append_assoc rows (row_by (place_id k) (w ∷ []) ∷ []) (item_rows (suc k) items));
      }
  sound (an_option o vs ∷ items) k rows shaped pass =
      let u = option-use (value_of o) (option_id o) vs rows (option-bounded o) shaped.0 pass.0 in
      let own = row_by (option_id o) (values_given (value_of o) vs) in
      let r = sound items k (rows ++ own ∷ []) shaped.1 (subst (λ x. ItemsPass places are k x items) u.row pass.1) in
      let own_in : has_row (option_id o) (rows ++ own ∷ []) ≡ true = has-more (option_id o) rows own ∙ rw (u.new, (bytes_eq-Decides (option_id o) (option_id o)).1 refl) refl in
      record {
        items_are = (u.value, r.items_are);
        once = (r.new o own_in, r.once);
        new = λ q e. ((λ same. (let bad : true ≡ false = sym e ∙ ap (λ x. has_row (option_id x) rows) same ∙ u.new in cc)), r.new q (has-more (option_id q) rows own ∙ rw e refl));
        placed = r.placed;
        end = ap (λ x. rows_after places are k x items) u.row ∙ r.end ∙ append_assoc rows (own ∷ []) (item_rows k items);
      }

  -- no place from this one on is filled
  abbrev pub AreOpen : ℕ → List Row → Type 0
  AreOpen k rows = (j : ℕ) → k ≤ j → j < 2 → has_row (place_id j) rows ≡ false

  pub shaped-items : (items : List Item) → AreItems items → AreShaped items
  shaped-items [] are_items = tt
  shaped-items (positional w ∷ items) are_items = (are_items.0, shaped-items items are_items.1)
  shaped-items (an_option o vs ∷ items) are_items = (value-shaped (value_of o) vs are_items.0, shaped-items items are_items.1)

  places-apart : (k j : ℕ) → k < j → j < 2 → bytes_eq (place_id k) (place_id j) ≡ false
  places-apart zero (suc j) less few = refl
  places-apart zero zero less few = absurd (omega (arith, less))
  places-apart (suc k) j less few = absurd (omega (arith, less, few))

  pub complete : (items : List Item) (k : ℕ) (rows : List Row) → AreItems items → AreOnce items → ((o : OptionName) → has_row (option_id o) rows ≡ true → IsNotIn o items)
      → PlacesFrom k (positionals items) → AreOpen k rows → ItemsPass places are k rows items
  complete [] k rows are_items once new placed open_at = tt
  complete (positional w ∷ items) k rows are_items once new placed open_at =
      let v = placed.0 in
      let at = placed.1 in
      let few = few-places places are k v at in
      let own = row_by (place_id k) (w ∷ []) in
      let is_new : has_row (place_id k) rows ≡ false = open_at k (omega arith) few in
      let row = place-row k v w rows is_new in
      let later : (o : OptionName) → has_row (option_id o) (rows ++ own ∷ []) ≡ true → IsNotIn o items = λ o e. (
      let parts = or-true (has_row (option_id o) rows) (bytes_eq (place_id k) (option_id o)) (sym (has-more (option_id o) rows own) ∙ e) in
      elim parts [ inl x ↦ new o x | inr x ↦ (let bad : true ≡ false = sym x ∙ (place-apart k o).0 in cc) ]) in
      let others : AreOpen (suc k) (rows ++ own ∷ []) = λ j more fits. has-more (place_id j) rows own ∙ rw (open_at j (omega (arith, more)) fits, places-apart k j (omega (arith, more)) fits) refl in (
        v,
        at,
        passes-one (place_id k) (full_parser v) w rows is_new (accepts-value v w (bounded-places places k v are at) placed.2),
        subst (λ x. ItemsPass places are (suc k) x items) (sym row) (complete items (suc k) (rows ++ own ∷ []) are_items.1 once later placed.3 others),
      )
  complete (an_option o vs ∷ items) k rows are_items once new placed open_at =
      let is_new : has_row (option_id o) rows ≡ false = not-given (has_row (option_id o) rows) refl in
      let u = use-option (value_of o) (option_id o) vs rows (option-bounded o) are_items.0 is_new in
      let own = row_by (option_id o) (values_given (value_of o) vs) in
      let later : (q : OptionName) → has_row (option_id q) (rows ++ own ∷ []) ≡ true → IsNotIn q items = λ q e. (
      let parts = or-true (has_row (option_id q) rows) (bytes_eq (option_id o) (option_id q)) (sym (has-more (option_id q) rows own) ∙ e) in
      elim parts [ inl x ↦ (new q x).1 | inr x ↦ elim (ids-apart o q) [ inl same ↦ subst (λ y. IsNotIn y items) same once.0 | inr apart ↦ (let bad : true ≡ false = sym x ∙ apart in cc) ] ]) in
      let others : AreOpen k (rows ++ own ∷ []) = λ j more fits. has-more (place_id j) rows own ∙ rw (open_at j more fits, (place-apart j o).1) refl in
      (u.0, subst (λ x. ItemsPass places are k x items) (sym u.1) (complete items k (rows ++ own ∷ []) are_items.1 once.1 later placed others))
    where
      not-given : (t : Bool) → has_row (option_id o) rows ≡ t → t ≡ false
      not-given false e = refl
      not-given true e = absurd ((new o e).0 refl)
