-- `clap` takes exactly the words of items that fill the places.
use Rattle.std.proofs.Common.{◌≡◌, ◌∙◌, sym, ap, ap₂, refl, subst, ℕ, suc, List, [], ◌∷◌, Option, None, Some, Bool, true, false, slice_get, inl, inr, ◌⊎◌, fold, option_map, is_some}
use Rattle.std.specs.Option.{option_map_or}
use Rattle.clap.specs.Walk.{Held, walk, Rule, Row, Text, has_row, is_empty, with_default, rows_after as clap_rows}
use Rattle.clap.specs.Simple.{App, entered, matches_of, names_of}
use Rattle.clap.specs.Takes.{is_given}
use Rattle.clap.specs.Facts.{explicit_source}
use Rattle.clap.specs.Kinds.{Kinds, or_else}
use Rattle.clap.specs.Faults.{fault_of, built_fault, defaults_fault, default_fault, given_default_fault, check_fault, entered_fault, settle_fault, level_fault}
use Rattle.command_line.specs.Words.{Value, in_range, name, IsValue, Item, words_of, AreItems, AreOnce, positionals, FillPlaces}
use Rattle.command_line.specs.Inner.Reading.{AreWords}
use Rattle.command_line.specs.Inner.Rules.{app_with, place_id}
use Rattle.command_line.proofs.Built.{ArePlaces, built_with, built-is, place_rules, rules_with, shape_with, one, two, numbers, none}
use Rattle.command_line.proofs.Walking.{between, walks, walk_to, or-parts, or-none}
use Rattle.command_line.proofs.Cutting.{reads, passes, all_faults, last_rows}
use Rattle.command_line.proofs.Uses.{item_rows, sound, complete, shaped-items, PlacesFrom, AreOpen}
use Rattle.command_line.proofs.Looking.{final, finished-is, first-final, second-final, place_row}

-- defaults pass
IsGood : Rule → Type 0
IsGood a = (is_empty a.defaults ≡ true) ⊎ (given_default_fault a a.defaults ≡ [])

good-passes : (rows : List Row) (a : Rule) → IsGood a → default_fault rows a ≡ []
unfolding IsGood
good-passes rows a good = by_cases (has_row a.id rows) refl good
  where
    by_cases : (t : Bool) → has_row a.id rows ≡ t → (is_empty a.defaults ≡ true) ⊎ (given_default_fault a a.defaults ≡ []) → default_fault rows a ≡ []
    by_cases true e g = rw e refl
    by_cases false e (inl g) = rw (e, g) refl
    by_cases false e (inr g) = by_empty (is_empty a.defaults) refl
      where
        by_empty : (u : Bool) → is_empty a.defaults ≡ u → default_fault rows a ≡ []
        by_empty true f = rw (e, f) refl
        by_empty false f = rw (e, f) g

AreGood : List Rule → Type 0
AreGood [] = Unit {0}
AreGood (a ∷ rules) = IsGood a × AreGood rules

defaults-pass : (rules : List Rule) (rows : List Row) → AreGood rules → defaults_fault rows rules ≡ []
unfolding defaults_fault AreGood
defaults-pass [] rows good = refl
defaults-pass (a ∷ rules) rows good = rw (good-passes rows a good.0) (defaults-pass rules (with_default rows a) good.1)

places-good : (places : List Value) (k : ℕ) → AreGood (place_rules k places)
unfolding AreGood IsGood
places-good [] k = tt
places-good (v ∷ places) k = (inl refl, places-good places (suc k))

rules-good : (places : List Value) → AreGood (rules_with places)
unfolding AreGood IsGood
rules-good places = (inl refl, (inl refl, (inl refl, (inl refl, (inl refl, (inl refl, (inl refl, (inr refl, (inr refl, (inr refl, places-good places 0))))))))))

no-entered : (places : List Value) (stop : Option (Text × List Text)) → (entered (built_with places) stop ≡ None) × (entered_fault (built_with places) stop ≡ [])
no-entered places None = (refl, refl)
no-entered places (Some p) = (refl, refl)

module _ (places : List Value) (are : ArePlaces places) where
  abbrev start : List Text → List Row
  start ws = last_rows places are (between [] None 0) ws

  abbrev checks : List Row → Kinds
  checks rows = check_fault (shape_with places) rows false

  nothing_yet : Held
  nothing_yet = record { rows = []; pending = None; skip = 0 }

  -- the faults of `clap`, part by part
  fault-built : (ws : List Text) → fault_of (app_with places) ws ≡ built_fault (built_with places) nothing_yet ws
  unfolding nothing_yet
  fault-built ws = by_places places are
    where
      by_places : (ps : List Value) → ArePlaces ps → fault_of (app_with ps) ws ≡ built_fault (built_with ps) nothing_yet ws
      by_places ps none = ap (λ b. built_fault b nothing_yet ws) (built-is [] none)
      by_places ps one = ap (λ b. built_fault b nothing_yet ws) (built-is (name ∷ []) one)
      by_places ps two = ap (λ b. built_fault b nothing_yet ws) (built-is (name ∷ name ∷ []) two)
      by_places ps numbers = ap (λ b. built_fault b nothing_yet ws) (built-is (in_range 0 18446744073709551615 ∷ in_range 1 1000 ∷ []) numbers)

  fault-level : (ws : List Text) → built_fault (built_with places) nothing_yet ws ≡ level_fault (shape_with places) [] nothing_yet ws false []
  unfolding nothing_yet
  fault-level ws = let stop = (walk (rules_with places) [] nothing_yet ws).stopped in
      ap₂ (λ (b : Option (Text × List Row)) (k : Kinds). level_fault (shape_with places) [] nothing_yet ws (is_some b) k) (no-entered places stop).0 (no-entered places stop).1

  record Parts (ws : List Text) : Type 0 where
    walk : all_faults places are (between [] None 0) ws ≡ []
    check : checks (final (start ws)) ≡ []

  fault-parts : (ws : List Text) → fault_of (app_with places) ws ≡ [] → Parts ws
  unfolding nothing_yet
  fault-parts ws e =
      let walk_all = walks places are (between [] None 0) ws in
      let settle = settle_fault (rules_with places) false (walk_to places are (between [] None 0) ws).held in
      let defaults = defaults_fault (start ws) (rules_with places) in
      let check = checks (fold with_default (start ws) (rules_with places)) in
      let p = or-parts places are walk_all (or_else settle (or_else defaults check)) (sym (fault-built ws ∙ fault-level ws) ∙ e) in
      let q = or-parts places are settle (or_else defaults check) p.1 in
      let r = or-parts places are defaults check q.1 in
      record {
        walk = or-none places are _ _ p.0 q.0;
        check = subst (λ x. checks x ≡ []) (finished-is places (start ws)) r.1;
      }

  parts-fault : (ws : List Text) → Parts ws → fault_of (app_with places) ws ≡ []
  unfolding nothing_yet
  parts-fault ws parts =
      let p = or-parts places are _ _ parts.walk in
      fault-built ws ∙ fault-level ws ∙ or-none places are _ _ p.0 (or-none places are _ _ p.1
      (or-none places are _ _ (defaults-pass (rules_with places) (start ws) (rules-good places)) (subst (λ x. checks x ≡ []) (sym (finished-is places (start ws))) parts.check)))

  -- the rows of `clap`
  matches-are : (ws : List Text) → matches_of (app_with places) ws ≡ final (start ws)
  unfolding nothing_yet
  matches-are ws = by_places places are ∙ finished-is places (start ws)
    where
      by_places : (ps : List Value) → ArePlaces ps → matches_of (app_with ps) ws ≡ clap_rows (rules_with ps) [] ws
      by_places ps none = ap (λ (b : App). clap_rows b.top.rules (names_of b) ws) (built-is [] none)
      by_places ps one = ap (λ (b : App). clap_rows b.top.rules (names_of b) ws) (built-is (name ∷ []) one)
      by_places ps two = ap (λ (b : App). clap_rows b.top.rules (names_of b) ws) (built-is (name ∷ name ∷ []) two)
      by_places ps numbers = ap (λ (b : App). clap_rows b.top.rules (names_of b) ws) (built-is (in_range 0 18446744073709551615 ∷ in_range 1 1000 ∷ []) numbers)

-- whether a place is filled
given-first : (items : List Item) → is_given (place_id 0) (final (item_rows 0 items)) ≡ is_some (slice_get (positionals items) 0)
given-first items = ap (λ (r : Option Row). option_map_or (λ x. explicit_source x.source) r false) (first-final items) ∙ by_cases (slice_get (positionals items) 0)
  where
    by_cases : (w : Option Text) → option_map_or (λ x. explicit_source x.source) (option_map (place_row 0) w) false ≡ is_some w
    by_cases None = refl
    by_cases (Some w) = refl

given-second : (items : List Item) → is_given (place_id 1) (final (item_rows 0 items)) ≡ is_some (slice_get (positionals items) 1)
given-second items = ap (λ (r : Option Row). option_map_or (λ x. explicit_source x.source) r false) (second-final items) ∙ by_cases (slice_get (positionals items) 1)
  where
    by_cases : (w : Option Text) → option_map_or (λ x. explicit_source x.source) (option_map (place_row 1) w) false ≡ is_some w
    by_cases None = refl
    by_cases (Some w) = refl

one-checked : (v : Value) (rows : List Row) → check_fault (shape_with (v ∷ [])) rows false ≡ [] → is_given (place_id 0) rows ≡ true
one-checked v rows e = by_cases (is_given (place_id 0) rows) refl
  where
    by_cases : (t : Bool) → is_given (place_id 0) rows ≡ t → t ≡ true
    by_cases true f = refl
    by_cases false f = absurd (let bad = rw f at e in cc)

two-checked : (v u : Value) (rows : List Row) → check_fault (shape_with (v ∷ u ∷ [])) rows false ≡ [] → (is_given (place_id 0) rows ≡ true) × (is_given (place_id 1) rows ≡ true)
two-checked v u rows e = by_cases (is_given (place_id 0) rows) (is_given (place_id 1) rows) refl refl
  where
    by_cases : (s t : Bool) → is_given (place_id 0) rows ≡ s → is_given (place_id 1) rows ≡ t → (s ≡ true) × (t ≡ true)
    by_cases true true f g = (refl, refl)
    by_cases false t f g = absurd (let bad = rw f at e in cc)
    by_cases true false f g = absurd (let bad = rw (f, g) at e in cc)

fill : (places : List Value) (are : ArePlaces places) (ws : List Text) → PlacesFrom places are 0 ws → (is_some (slice_get places 0) ≡ true → is_some (slice_get ws 0) ≡ true)
    → (is_some (slice_get places 1) ≡ true → is_some (slice_get ws 1) ≡ true) → FillPlaces places ws
fill places none [] placed f g = tt
fill places none (w ∷ ws) placed f g = let bad = placed.1 in cc
fill places one [] placed f g = let bad = f refl in cc
fill places one (w ∷ []) placed f g = let same : name ≡ placed.0 = (let e = placed.1 in cc) in (subst (λ v. IsValue v (w ∷ [])) (sym same) placed.2, tt)
fill places one (w ∷ x ∷ ws) placed f g = let bad = placed.3.1 in cc
fill places two [] placed f g = let bad = f refl in cc
fill places two (w ∷ []) placed f g = let bad = g refl in cc
fill places two (w ∷ x ∷ []) placed f g =
    let same : name ≡ placed.0 = (let e = placed.1 in cc) in let other : name ≡ placed.3.0 = (let e = placed.3.1 in cc) in
    (subst (λ v. IsValue v (w ∷ [])) (sym same) placed.2, (subst (λ v. IsValue v (x ∷ [])) (sym other) placed.3.2, tt))
fill places two (w ∷ x ∷ y ∷ ws) placed f g = let bad = placed.3.3.1 in cc
fill places numbers [] placed f g = let bad = f refl in cc
fill places numbers (w ∷ []) placed f g = let bad = g refl in cc
fill places numbers (w ∷ x ∷ []) placed f g =
    let same : in_range 0 18446744073709551615 ≡ placed.0 = (let e = placed.1 in cc) in let other : in_range 1 1000 ≡ placed.3.0 = (let e = placed.3.1 in cc) in
    (subst (λ v. IsValue v (w ∷ [])) (sym same) placed.2, (subst (λ v. IsValue v (x ∷ [])) (sym other) placed.3.2, tt))
fill places numbers (w ∷ x ∷ y ∷ ws) placed f g = let bad = placed.3.3.1 in cc

-- `clap` takes the words: they are those of items that fill the places
pub record Accepted (places : List Value) (ws : List Text) : Type 0 where
  pub items : List Item
  pub written : ws ≡ words_of items
  pub items_are : AreItems items
  pub once : AreOnce items
  pub filled : FillPlaces places (positionals items)
  pub rows : matches_of (app_with places) ws ≡ final (item_rows 0 items)

filled-by : (places : List Value) (are : ArePlaces places) (items : List Item) → PlacesFrom places are 0 (positionals items) → check_fault (shape_with places) (final (item_rows 0 items)) false ≡ [] → FillPlaces places (positionals items)
filled-by places none items placed e = fill [] none (positionals items) placed (λ x. cc) (λ x. cc)
filled-by places one items placed e = fill (name ∷ []) one (positionals items) placed (λ x. sym (given-first items) ∙ one-checked name (final (item_rows 0 items)) e) (λ x. cc)
filled-by places two items placed e = let c = two-checked name name (final (item_rows 0 items)) e in fill (name ∷ name ∷ []) two (positionals items) placed (λ x. sym (given-first items) ∙ c.0) (λ x. sym (given-second items) ∙ c.1)
filled-by places numbers items placed e = let c = two-checked (in_range 0 18446744073709551615) (in_range 1 1000) (final (item_rows 0 items)) e in fill (in_range 0 18446744073709551615 ∷ in_range 1 1000 ∷ []) numbers (positionals items) placed (λ x. sym (given-first items) ∙ c.0) (λ x. sym (given-second items) ∙ c.1)

pub accepted : (places : List Value) → ArePlaces places → (ws : List Text) → AreWords ws → fault_of (app_with places) ws ≡ [] → Accepted places ws
accepted places are ws words e =
    let parts = fault-parts places are ws e in
    let r = reads places are ws words 0 [] None parts.walk in
    let s = sound places are r.items 0 [] r.shaped r.pass in
    let rows_are = r.end ∙ s.end in
    record {
      items = r.items;
      written = r.written;
      items_are = s.items_are;
      once = s.once;
      filled = filled-by places are r.items s.placed (subst (λ x. check_fault (shape_with places) (final x) false ≡ []) rows_are parts.check);
      rows = matches-are places are ws ∙ ap final rows_are;
    }

filled-places : (places : List Value) (are : ArePlaces places) (ws : List Text) → FillPlaces places ws → PlacesFrom places are 0 ws
filled-places places none [] h = tt
filled-places places none (w ∷ ws) h = absurd h
filled-places places one [] h = absurd h
filled-places places one (w ∷ []) h = (name, refl, h.0, tt)
filled-places places one (w ∷ x ∷ ws) h = absurd h.1
filled-places places two [] h = absurd h
filled-places places two (w ∷ []) h = absurd h.1
filled-places places two (w ∷ x ∷ []) h = (name, refl, h.0, (name, refl, h.1.0, tt))
filled-places places two (w ∷ x ∷ y ∷ ws) h = absurd h.1.1
filled-places places numbers [] h = absurd h
filled-places places numbers (w ∷ []) h = absurd h.1
filled-places places numbers (w ∷ x ∷ []) h = (in_range 0 18446744073709551615, refl, h.0, (in_range 1 1000, refl, h.1.0, tt))
filled-places places numbers (w ∷ x ∷ y ∷ ws) h = absurd h.1.1

check-passes : (places : List Value) (are : ArePlaces places) (items : List Item) → FillPlaces places (positionals items) → check_fault (shape_with places) (final (item_rows 0 items)) false ≡ []
check-passes places none items h = refl
check-passes places one items h = by_words (positionals items) h (given-first items)
  where
    by_words : (ws : List Text) → FillPlaces (name ∷ []) ws → is_given (place_id 0) (final (item_rows 0 items)) ≡ is_some (slice_get ws 0) → check_fault (shape_with (name ∷ [])) (final (item_rows 0 items)) false ≡ []
    by_words [] f e = absurd f
    by_words (w ∷ ws) f e = rw e refl
check-passes places two items h = by_words (positionals items) h (given-first items) (given-second items)
  where
    by_words : (ws : List Text) → FillPlaces (name ∷ name ∷ []) ws → is_given (place_id 0) (final (item_rows 0 items)) ≡ is_some (slice_get ws 0) → is_given (place_id 1) (final (item_rows 0 items)) ≡ is_some (slice_get ws 1)
        → check_fault (shape_with (name ∷ name ∷ [])) (final (item_rows 0 items)) false ≡ []
    by_words [] f e g = absurd f
    by_words (w ∷ []) f e g = absurd f.1
    by_words (w ∷ x ∷ ws) f e g = rw (e, g) refl
check-passes places numbers items h = by_words (positionals items) h (given-first items) (given-second items)
  where
    by_words : (ws : List Text) → FillPlaces (in_range 0 18446744073709551615 ∷ in_range 1 1000 ∷ []) ws → is_given (place_id 0) (final (item_rows 0 items)) ≡ is_some (slice_get ws 0) → is_given (place_id 1) (final (item_rows 0 items)) ≡ is_some (slice_get ws 1)
        → check_fault (shape_with (in_range 0 18446744073709551615 ∷ in_range 1 1000 ∷ [])) (final (item_rows 0 items)) false ≡ []
    by_words [] f e g = absurd f
    by_words (w ∷ []) f e g = absurd f.1
    by_words (w ∷ x ∷ ws) f e g = rw (e, g) refl

-- The words of items that fill the places have no fault.
pub no-fault : (places : List Value) → ArePlaces places → (items : List Item) → AreItems items → AreOnce items → FillPlaces places (positionals items) → fault_of (app_with places) (words_of items) ≡ []
no-fault places are items items_are once filled =
    let shaped = shaped-items places are items items_are in
    let open_now : AreOpen places are 0 [] = λ j more few. refl in
    let pass = complete places are items 0 [] items_are once (λ o e. cc) (filled-places places are (positionals items) filled) open_now in
    let walk_so = passes places are items 0 shaped [] None refl pass in
    let s = sound places are items 0 [] shaped pass in
    parts-fault places are (words_of items) (record {
      walk = walk_so.0;
      check = subst (λ x. check_fault (shape_with places) (final x) false ≡ []) (sym (walk_so.1 ∙ s.end)) (check-passes places are items filled);
    })
