-- How `clap` walks over the words of items.
use Rattle.std.proofs.Common.{◌≡◌, ◌∙◌, sym, ap, refl, ℕ, zero, suc, ◌<◌, ◌==◌, List, [], ◌∷◌, fold, Option, None, Some, Bool, true, false, not, slice_get, arith, ◌&&◌}
use Rattle.std.specs.Str.{bytes_eq}
use Rattle.std.proofs.lemmas.Slice.Eq.{bytes_eq-Decides}
use Rattle.clap.specs.Walk.{Row, Text, Walk, Held, walked, idle, option, settled, used, is_pending}
use Rattle.clap.specs.Lexer.{long_of, short_of}
use Rattle.clap.specs.Kinds.{Kinds, or_else}
use Rattle.clap.specs.Faults.{walk_fault, settle_fault, use_fault}
use Rattle.clap.specs.declared.error.kind.ErrorKind.TheVariants as kind
use Rattle.command_line.specs.Words.{OptionName, Value, in_range, name, nothing, option_id, word_of, value_of, is_name}
use Rattle.command_line.specs.Inner.Rules.{place_id}
use Rattle.command_line.proofs.Built.{ArePlaces, full_rule, flag_rule, full_place, rules_with, shape_with, long-is, id-is, long-word, not-dashes, place-at, no-place}

-- between two items: the rows, the argument that is still to be used, and the number of positional words so far
abbrev pub between : List Row → Option (Text × List Text) → ℕ → Walk
between rows p k = record { held = record { rows = rows; pending = p; skip = 0 }; waiting = idle; position = suc k; is_trailing = false; stopped = None }

abbrev pub held_at : List Row → Option (Text × List Text) → Held
held_at rows p = record { rows = rows; pending = p; skip = 0 }

-- after the word of an option with a value
abbrev pub opened : List Row → Text → ℕ → Walk
opened rows id k = record { held = record { rows = rows; pending = Some (id, []); skip = 0 }; waiting = option id; position = suc k; is_trailing = false; stopped = None }

module _ (places : List Value) (are : ArePlaces places) where
  abbrev pub walk_to : Walk → List Text → Walk
  walk_to w ws = fold (walked (rules_with places) []) w ws

  abbrev pub settles : List Row → Option (Text × List Text) → Kinds
  settles rows p = settle_fault (rules_with places) false (held_at rows p)

  abbrev pub settled_at : List Row → Option (Text × List Text) → List Row
  settled_at rows p = (settled (rules_with places) (held_at rows p)).rows

  -- the faults of the walk
  abbrev pub walks : Walk → List Text → Kinds
  walks w ws = walk_fault (shape_with places) [] w ws

  -- a word that begins with no `-`
  pub name-long : (w : List ℕ) → is_name w ≡ true → (long_of w ≡ None) × (short_of w ≡ None) × (bytes_eq w (45 ∷ 45 ∷ []) ≡ false)
  name-long [] h = cc
  name-long (b ∷ bs) h = by_cases (b == 45) refl
    where
      by_cases : (t : Bool) → (b == 45) ≡ t → (long_of (b ∷ bs) ≡ None) × (short_of (b ∷ bs) ≡ None) × (bytes_eq (b ∷ bs) (45 ∷ 45 ∷ []) ≡ false)
      by_cases true e = let bad : true ≡ false = sym h ∙ ap not e in cc
      by_cases false e = (rw e refl, rw e refl, rw e refl)

  pub and-false : (b : Bool) → (b && false) ≡ false
  and-false true = refl
  and-false false = refl

  pub same-bytes : (w : List ℕ) → bytes_eq w w ≡ true
  same-bytes w = (bytes_eq-Decides w w).1 refl

  or-nil : (a : Kinds) → or_else a [] ≡ a
  or-nil [] = refl
  or-nil (x ∷ a) = refl

  -- a flag
  pub flag-turn : (o : OptionName) (rows : List Row) (p : Option (Text × List Text)) (k : ℕ) (ws : List Text) → value_of o ≡ nothing
      → walks (between rows p k) (word_of o ∷ ws) ≡ or_else (or_else (settles rows p) (use_fault false (full_rule o) [] (settled_at rows p))) (walks (between (used (full_rule o) [] (settled_at rows p)) None k) ws)
  unfolding walk_fault walked
  flag-turn o rows p k ws e = rw (not-dashes o, long-word o, long-is places o, e) (ap (λ x. or_else x (walks (between (used (flag_rule (option_id o)) [] (settled_at rows p)) None k) ws)) (or-nil (or_else (settles rows p) (use_fault false (flag_rule (option_id o)) [] (settled_at rows p)))))

  -- an option, up to its value
  pub open-turn : (o : OptionName) (rows : List Row) (p : Option (Text × List Text)) (k : ℕ) (ws : List Text) (v : Value) → value_of o ≡ v → (v ≡ nothing → ⊥)
      → walks (between rows p k) (word_of o ∷ ws) ≡ or_else (settles rows p) (walks (opened (settled_at rows p) (option_id o) k) ws)
  unfolding walk_fault walked
  open-turn o rows p k ws (in_range least greatest) e valued = rw (not-dashes o, long-word o, long-is places o, e) (ap (λ x. or_else x (walks (opened (settled_at rows p) (option_id o) k) ws)) (or-nil (settles rows p)))
  open-turn o rows p k ws name e valued = rw (not-dashes o, long-word o, long-is places o, e) (ap (λ x. or_else x (walks (opened (settled_at rows p) (option_id o) k) ws)) (or-nil (settles rows p)))
  open-turn o rows p k ws nothing e valued = absurd (valued refl)

  -- its value
  pub value-turn : (o : OptionName) (rows : List Row) (k : ℕ) (w : Text) (ws : List Text) (v : Value) → value_of o ≡ v → (v ≡ nothing → ⊥) → is_name w ≡ true
      → walks (opened rows (option_id o) k) (w ∷ ws) ≡ walks (between rows (Some (option_id o, w ∷ [])) k) ws
  unfolding walk_fault walked
  value-turn o rows k w ws (in_range least greatest) e valued h = let f = name-long w h in rw (f.0, f.1, f.2, id-is places o, e, same-bytes (option_id o)) refl
  value-turn o rows k w ws name e valued h = let f = name-long w h in rw (f.0, f.1, f.2, id-is places o, e, same-bytes (option_id o)) refl
  value-turn o rows k w ws nothing e valued h = absurd (valued refl)

  -- a positional word
  pub place-turn : (v : Value) (rows : List Row) (p : Option (Text × List Text)) (k : ℕ) (w : Text) (ws : List Text) → is_name w ≡ true → slice_get places k ≡ Some v → k < 2
      → walks (between rows p k) (w ∷ ws) ≡ or_else (settles rows p) (walks (between (settled_at rows p) (Some (place_id k, w ∷ [])) (suc k)) ws)
  unfolding walk_fault walked
  place-turn v rows p zero w ws h at few = let f = name-long w h in rw (f.0, f.1, f.2, place-at places zero v are at, and-false (is_pending (full_place zero v) p)) refl
  place-turn v rows p (suc zero) w ws h at few = let f = name-long w h in rw (f.0, f.1, f.2, place-at places (suc zero) v are at, and-false (is_pending (full_place (suc zero) v) p)) refl
  place-turn v rows p (suc (suc k)) w ws h at few = absurd (omega (arith, few))

  -- a positional word too many
  pub stray-turn : (rows : List Row) (p : Option (Text × List Text)) (k : ℕ) (w : Text) (ws : List Text) → is_name w ≡ true → slice_get places k ≡ None
      → walks (between rows p k) (w ∷ ws) ≡ [] → ⊥
  unfolding walk_fault walked
  stray-turn rows p k w ws h at e = let f = name-long w h in let bad : kind.UnknownArgument ∷ [] ≡ [] = sym (rw (f.0, f.1, f.2, no-place places k are at) refl) ∙ e in cc

  -- an option without its value
  pub open-end : (o : OptionName) (rows : List Row) (k : ℕ) (v : Value) → value_of o ≡ v → (v ≡ nothing → ⊥) → settles rows (Some (option_id o, [])) ≡ [] → ⊥
  open-end o rows k (in_range least greatest) e valued h = let bad : kind.InvalidValue ∷ [] ≡ [] = sym (rw (id-is places o, e) refl) ∙ h in cc
  open-end o rows k name e valued h = let bad : kind.InvalidValue ∷ [] ≡ [] = sym (rw (id-is places o, e) refl) ∙ h in cc
  open-end o rows k nothing e valued h = absurd (valued refl)

  pub or-parts : (a b : Kinds) → or_else a b ≡ [] → (a ≡ []) × (b ≡ [])
  or-parts [] b e = (refl, e)
  or-parts (x ∷ a) b e = cc

  pub or-none : (a b : Kinds) → a ≡ [] → b ≡ [] → or_else a b ≡ []
  or-none a b e f = rw (e, f) refl

  -- another option in place of the value
  pub open-option : (o q : OptionName) (rows : List Row) (k : ℕ) (ws : List Text) (v : Value) → value_of o ≡ v → (v ≡ nothing → ⊥) → walks (opened rows (option_id o) k) (word_of q ∷ ws) ≡ [] → ⊥
  unfolding walk_fault walked
  open-option o q rows k ws v e valued h = by_values v (value_of q) e refl valued
    where
      by_values : (v u : Value) → value_of o ≡ v → value_of q ≡ u → (v ≡ nothing → ⊥) → ⊥
      by_values nothing u e f valued = valued refl
      by_values (in_range a b) (in_range l g) e f valued = let step : walks (opened rows (option_id o) k) (word_of q ∷ ws) ≡ kind.InvalidValue ∷ [] = rw (not-dashes q, long-word q, long-is places q, f, id-is places o, e) refl in let bad : kind.InvalidValue ∷ [] ≡ [] = sym step ∙ h in cc
      by_values (in_range a b) name e f valued = let step : walks (opened rows (option_id o) k) (word_of q ∷ ws) ≡ kind.InvalidValue ∷ [] = rw (not-dashes q, long-word q, long-is places q, f, id-is places o, e) refl in let bad : kind.InvalidValue ∷ [] ≡ [] = sym step ∙ h in cc
      by_values (in_range a b) nothing e f valued = let step : walks (opened rows (option_id o) k) (word_of q ∷ ws) ≡ kind.InvalidValue ∷ [] = rw (not-dashes q, long-word q, long-is places q, f, id-is places o, e) refl in let bad : kind.InvalidValue ∷ [] ≡ [] = sym step ∙ h in cc
      by_values name (in_range l g) e f valued = let step : walks (opened rows (option_id o) k) (word_of q ∷ ws) ≡ kind.InvalidValue ∷ [] = rw (not-dashes q, long-word q, long-is places q, f, id-is places o, e) refl in let bad : kind.InvalidValue ∷ [] ≡ [] = sym step ∙ h in cc
      by_values name name e f valued = let step : walks (opened rows (option_id o) k) (word_of q ∷ ws) ≡ kind.InvalidValue ∷ [] = rw (not-dashes q, long-word q, long-is places q, f, id-is places o, e) refl in let bad : kind.InvalidValue ∷ [] ≡ [] = sym step ∙ h in cc
      by_values name nothing e f valued = let step : walks (opened rows (option_id o) k) (word_of q ∷ ws) ≡ kind.InvalidValue ∷ [] = rw (not-dashes q, long-word q, long-is places q, f, id-is places o, e) refl in let bad : kind.InvalidValue ∷ [] ≡ [] = sym step ∙ h in cc
