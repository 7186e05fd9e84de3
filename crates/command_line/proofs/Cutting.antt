-- Words over which `clap` walks without a fault are the words of items.
use Rattle.std.proofs.Common.{◌≡◌, ◌∙◌, sym, ap, refl, subst, ℕ, zero, suc, ◌<◌, List, [], ◌∷◌, ◌++◌, Option, None, Some, true, false, slice_get, arith}
use Rattle.clap.specs.Walk.{Row, Text, Walk, walked, settled, used}
use Rattle.clap.specs.Kinds.{Kinds, or_else}
use Rattle.clap.specs.Faults.{walk_fault, settle_fault, use_fault}
use Rattle.command_line.specs.Words.{OptionName, Value, in_range, name, nothing, option_id, word_of, value_of, is_name, Item, positional, option as an_option, words_of}
use Rattle.command_line.specs.Inner.Reading.{IsWord, of_option, of_name, AreWords, no_word, a_word}
use Rattle.command_line.specs.Inner.Rules.{place_id}
use Rattle.command_line.proofs.Built.{ArePlaces, full_rule, full_place, rules_with, long-is, id-is, long-word, not-dashes, place-at, place-by}
use Rattle.command_line.proofs.Walking.{between, opened, walk_to, settles, settled_at, walks, name-long, and-false, same-bytes, flag-turn, open-turn, value-turn, place-turn, stray-turn, open-end, open-option, or-parts, or-none}
use Rattle.clap.specs.Walk.{is_pending}
use Rattle.std.specs.Option.{option_map_or}

-- an option has one word after it, or none
abbrev pub IsShaped : Value → List Text → Type 0
IsShaped nothing [] = Unit {0}
IsShaped nothing (w ∷ ws) = ⊥
IsShaped v (w ∷ []) = is_name w ≡ true
IsShaped v ws = ⊥

abbrev pub AreShaped : List Item → Type 0
AreShaped [] = Unit {0}
AreShaped (positional w ∷ items) = (is_name w ≡ true) × AreShaped items
AreShaped (an_option o vs ∷ items) = IsShaped (value_of o) vs × AreShaped items

module _ (places : List Value) (are : ArePlaces places) where
  -- each item's use passes
  abbrev pub ItemsPass : ℕ → List Row → List Item → Type 0
  ItemsPass k rows [] = Unit {0}
  ItemsPass k rows (positional w ∷ items) = (v : Value) × (slice_get places k ≡ Some v) × (use_fault false (full_place k v) (w ∷ []) rows ≡ []) × ItemsPass (suc k) (used (full_place k v) (w ∷ []) rows) items
  ItemsPass k rows (an_option o vs ∷ items) = (use_fault false (full_rule o) vs rows ≡ []) × ItemsPass k (used (full_rule o) vs rows) items

  -- the rows after the items
  abbrev pub rows_after : ℕ → List Row → List Item → List Row
  rows_after k rows [] = rows
  rows_after k rows (positional w ∷ items) = option_map_or (λ v. rows_after (suc k) (used (full_place k v) (w ∷ []) rows) items) (slice_get places k) rows
  rows_after k rows (an_option o vs ∷ items) = rows_after k (used (full_rule o) vs rows) items

  -- the next walk
  flag-next : (o : OptionName) (rows : List Row) (p : Option (Text × List Text)) (k : ℕ) → value_of o ≡ nothing
      → walked (rules_with places) [] (between rows p k) (word_of o) ≡ between (used (full_rule o) [] (settled_at places are rows p)) None k
  unfolding walked
  flag-next o rows p k e = rw (not-dashes o, long-word o, long-is places o, e) refl

  open-next : (o : OptionName) (rows : List Row) (p : Option (Text × List Text)) (k : ℕ) (v : Value) → value_of o ≡ v → (v ≡ nothing → ⊥)
      → walked (rules_with places) [] (between rows p k) (word_of o) ≡ opened (settled_at places are rows p) (option_id o) k
  unfolding walked
  open-next o rows p k (in_range least greatest) e valued = rw (not-dashes o, long-word o, long-is places o, e) refl
  open-next o rows p k name e valued = rw (not-dashes o, long-word o, long-is places o, e) refl
  open-next o rows p k nothing e valued = absurd (valued refl)

  value-next : (o : OptionName) (rows : List Row) (k : ℕ) (w : Text) (v : Value) → value_of o ≡ v → (v ≡ nothing → ⊥) → is_name w ≡ true
      → walked (rules_with places) [] (opened rows (option_id o) k) w ≡ between rows (Some (option_id o, w ∷ [])) k
  unfolding walked
  value-next o rows k w (in_range least greatest) e valued h = let f = name-long places are w h in rw (f.0, f.1, f.2, id-is places o, e, same-bytes places are (option_id o)) refl
  value-next o rows k w name e valued h = let f = name-long places are w h in rw (f.0, f.1, f.2, id-is places o, e, same-bytes places are (option_id o)) refl
  value-next o rows k w nothing e valued h = absurd (valued refl)

  place-next : (v : Value) (rows : List Row) (p : Option (Text × List Text)) (k : ℕ) (w : Text) → is_name w ≡ true → slice_get places k ≡ Some v → k < 2
      → walked (rules_with places) [] (between rows p k) w ≡ between (settled_at places are rows p) (Some (place_id k, w ∷ [])) (suc k)
  unfolding walked
  place-next v rows p zero w h at few = let f = name-long places are w h in rw (f.0, f.1, f.2, place-at places zero v are at, and-false places are (is_pending (full_place zero v) p)) refl
  place-next v rows p (suc zero) w h at few = let f = name-long places are w h in rw (f.0, f.1, f.2, place-at places (suc zero) v are at, and-false places are (is_pending (full_place (suc zero) v) p)) refl
  place-next v rows p (suc (suc k)) w h at few = absurd (omega (arith, few))

  -- all faults up to the last use
  abbrev pub all_faults : Walk → List Text → Kinds
  all_faults w ws = or_else (walks places are w ws) (settle_fault (rules_with places) false (walk_to places are w ws).held)

  abbrev pub last_rows : Walk → List Text → List Row
  last_rows w ws = (settled (rules_with places) (walk_to places are w ws).held).rows

  pub record Reads (rows : List Row) (p : Option (Text × List Text)) (k : ℕ) (ws : List Text) : Type 0 where
    pub items : List Item
    pub written : ws ≡ words_of items
    pub shaped : AreShaped items
    pub settles : settles places are rows p ≡ []
    pub pass : ItemsPass k (settled_at places are rows p) items
    pub end : last_rows (between rows p k) ws ≡ rows_after k (settled_at places are rows p) items

  pub few-places : (k : ℕ) (v : Value) → slice_get places k ≡ Some v → k < 2
  few-places k v e = by_cases places are k e
    where
      by_cases : (ps : List Value) → ArePlaces ps → (k : ℕ) → slice_get ps k ≡ Some v → k < 2
      by_cases [] a k e = cc
      by_cases ps a zero e = grind arith
      by_cases ps a (suc zero) e = grind arith
      by_cases (x ∷ []) a (suc (suc k)) e = cc
      by_cases (x ∷ y ∷ []) a (suc (suc k)) e = cc
      by_cases (x ∷ y ∷ z ∷ ps) a (suc (suc k)) e = elim a [ ]

  -- what an option with its value makes pending
  pending-use : (o : OptionName) (rows : List Row) (w : Text) → settles places are rows (Some (option_id o, w ∷ [])) ≡ use_fault false (full_rule o) (w ∷ []) rows
  pending-use o rows w = rw (id-is places o) refl

  pending-rows : (o : OptionName) (rows : List Row) (w : Text) → settled_at places are rows (Some (option_id o, w ∷ [])) ≡ used (full_rule o) (w ∷ []) rows
  pending-rows o rows w = rw (id-is places o) refl

  place-use : (k : ℕ) (v : Value) (rows : List Row) (w : Text) → slice_get places k ≡ Some v → settles places are rows (Some (place_id k, w ∷ [])) ≡ use_fault false (full_place k v) (w ∷ []) rows
  place-use k v rows w at = rw (place-by places k v are at) refl

  place-rows : (k : ℕ) (v : Value) (rows : List Row) (w : Text) → slice_get places k ≡ Some v → settled_at places are rows (Some (place_id k, w ∷ [])) ≡ used (full_place k v) (w ∷ []) rows
  place-rows k v rows w at = rw (place-by places k v are at) refl

  -- what the words after are read to
  abbrev GoesOn : ℕ → List Text → Type 0
  GoesOn k ws = (rows : List Row) (p : Option (Text × List Text)) → all_faults (between rows p k) ws ≡ [] → Reads rows p k ws

  no-words : (rows : List Row) (p : Option (Text × List Text)) (k : ℕ) → all_faults (between rows p k) [] ≡ [] → Reads rows p k []
  unfolding walk_fault
  no-words rows p k e = record { items = []; written = refl; shaped = tt; settles = e; pass = tt; end = refl }

  after-flag : (o : OptionName) (rows : List Row) (p : Option (Text × List Text)) (k : ℕ) (ws : List Text) → value_of o ≡ nothing
      → all_faults (between rows p k) (word_of o ∷ ws) ≡ [] → GoesOn k ws → Reads rows p k (word_of o ∷ ws)
  after-flag o rows p k ws is e go =
      let parts = or-parts places are _ _ e in
      let turn = or-parts places are _ _ (sym (flag-turn places are o rows p k ws is) ∙ parts.0) in
      let usage = or-parts places are _ _ turn.0 in
      let last = subst (λ x. settle_fault (rules_with places) false (walk_to places are x ws).held ≡ []) (flag-next o rows p k is) parts.1 in
      let r = go (used (full_rule o) [] (settled_at places are rows p)) None (or-none places are _ _ turn.1 last) in
      record {
        items = an_option o [] ∷ r.items;
        written = ap (λ x. word_of o ∷ x) r.written;
        shaped = (subst (λ v. IsShaped v []) (sym is) tt, r.shaped);
        settles = usage.0;
        pass = (usage.1, r.pass);
        end = ap (λ x. last_rows x ws) (flag-next o rows p k is) ∙ r.end;
      }

  is-shaped : (v : Value) (w : Text) → (v ≡ nothing → ⊥) → is_name w ≡ true → IsShaped v (w ∷ [])
  is-shaped (in_range least greatest) w valued h = h
  is-shaped name w valued h = h
  is-shaped nothing w valued h = absurd (valued refl)

  after-value : (o : OptionName) (rows : List Row) (p : Option (Text × List Text)) (k : ℕ) (w : Text) (ws : List Text) (v : Value) → value_of o ≡ v → (v ≡ nothing → ⊥) → is_name w ≡ true
      → all_faults (between rows p k) (word_of o ∷ w ∷ ws) ≡ [] → GoesOn k ws → Reads rows p k (word_of o ∷ w ∷ ws)
  after-value o rows p k w ws v is valued h e go =
      let parts = or-parts places are _ _ e in
      let first = or-parts places are _ _ (sym (open-turn places are o rows p k (w ∷ ws) v is valued) ∙ parts.0) in
      let rest = sym (value-turn places are o (settled_at places are rows p) k w ws v is valued h) ∙ first.1 in
      let next = ap (λ x. walked (rules_with places) [] x w) (open-next o rows p k v is valued) ∙ value-next o (settled_at places are rows p) k w v is valued h in
      let last = subst (λ x. settle_fault (rules_with places) false (walk_to places are x ws).held ≡ []) next parts.1 in
      let r = go (settled_at places are rows p) (Some (option_id o, w ∷ [])) (or-none places are _ _ rest last) in
      let same = pending-rows o (settled_at places are rows p) w in
      record {
        items = an_option o (w ∷ []) ∷ r.items;
        written = ap (λ x. word_of o ∷ w ∷ x) r.written;
        shaped = (subst (λ u. IsShaped u (w ∷ [])) (sym is) (is-shaped v w valued h), r.shaped);
        settles = first.0;
        pass = (sym (pending-use o (settled_at places are rows p) w) ∙ r.settles, subst (λ x. ItemsPass k x r.items) same r.pass);
        end = ap (λ x. last_rows x ws) next ∙ r.end ∙ ap (λ x. rows_after k x r.items) same;
      }

  after-place : (v : Value) (rows : List Row) (p : Option (Text × List Text)) (k : ℕ) (w : Text) (ws : List Text) → is_name w ≡ true → slice_get places k ≡ Some v
      → all_faults (between rows p k) (w ∷ ws) ≡ [] → GoesOn (suc k) ws → Reads rows p k (w ∷ ws)
  after-place v rows p k w ws h at e go =
      let few = few-places k v at in
      let parts = or-parts places are _ _ e in
      let turn = or-parts places are _ _ (sym (place-turn places are v rows p k w ws h at few) ∙ parts.0) in
      let next = place-next v rows p k w h at few in
      let last = subst (λ x. settle_fault (rules_with places) false (walk_to places are x ws).held ≡ []) next parts.1 in
      let r = go (settled_at places are rows p) (Some (place_id k, w ∷ [])) (or-none places are _ _ turn.1 last) in
      let same = place-rows k v (settled_at places are rows p) w at in
      record {
        items = positional w ∷ r.items;
        written = ap (λ x. w ∷ x) r.written;
        shaped = (h, r.shaped);
        settles = turn.0;
        pass = (v, at, sym (place-use k v (settled_at places are rows p) w at) ∙ r.settles, subst (λ x. ItemsPass (suc k) x r.items) same r.pass);
        end = ap (λ x. last_rows x ws) next ∙ r.end ∙ ap (λ x. rows_after (suc k) x r.items) same ∙ sym (rw at refl);
      }

  -- an option whose value doesn't follow
  no-value : (o : OptionName) (rows : List Row) (p : Option (Text × List Text)) (k : ℕ) (v : Value) → value_of o ≡ v → (v ≡ nothing → ⊥) → all_faults (between rows p k) (word_of o ∷ []) ≡ [] → ⊥
  no-value o rows p k v is valued e =
      let parts = or-parts places are _ _ e in
      open-end places are o (settled_at places are rows p) k v is valued (subst (λ x. settle_fault (rules_with places) false x.held ≡ []) (open-next o rows p k v is valued) parts.1)

  other-value : (o q : OptionName) (rows : List Row) (p : Option (Text × List Text)) (k : ℕ) (ws : List Text) (v : Value) → value_of o ≡ v → (v ≡ nothing → ⊥) → all_faults (between rows p k) (word_of o ∷ word_of q ∷ ws) ≡ [] → ⊥
  other-value o q rows p k ws v is valued e =
      let parts = or-parts places are _ _ e in
      let first = or-parts places are _ _ (sym (open-turn places are o rows p k (word_of q ∷ ws) v is valued) ∙ parts.0) in
      open-option places are o q (settled_at places are rows p) k ws v is valued first.1

  by-place : (x : Option Value) (rows : List Row) (p : Option (Text × List Text)) (k : ℕ) (w : Text) (rest : List Text) → is_name w ≡ true → slice_get places k ≡ x
      → all_faults (between rows p k) (w ∷ rest) ≡ [] → GoesOn (suc k) rest → Reads rows p k (w ∷ rest)
  by-place None rows p k w rest h at e go = absurd (stray-turn places are rows p k w rest h at (or-parts places are _ _ e).0)
  by-place (Some v) rows p k w rest h at e go = after-place v rows p k w rest h at e go

  by-last : (v : Value) (o : OptionName) (rows : List Row) (p : Option (Text × List Text)) (k : ℕ) → value_of o ≡ v
      → all_faults (between rows p k) (word_of o ∷ []) ≡ [] → Reads rows p k (word_of o ∷ [])
  by-last nothing o rows p k is e = after-flag o rows p k [] is e (λ rs q f. no-words rs q k f)
  by-last (in_range least greatest) o rows p k is e = absurd (no-value o rows p k (in_range least greatest) is (λ x. cc) e)
  by-last name o rows p k is e = absurd (no-value o rows p k name is (λ x. cc) e)

  by-option : (v : Value) (o q : OptionName) (rows : List Row) (p : Option (Text × List Text)) (k : ℕ) (later : List Text) → value_of o ≡ v
      → all_faults (between rows p k) (word_of o ∷ word_of q ∷ later) ≡ [] → GoesOn k (word_of q ∷ later) → Reads rows p k (word_of o ∷ word_of q ∷ later)
  by-option nothing o q rows p k later is e go = after-flag o rows p k (word_of q ∷ later) is e go
  by-option (in_range least greatest) o q rows p k later is e go = absurd (other-value o q rows p k later (in_range least greatest) is (λ x. cc) e)
  by-option name o q rows p k later is e go = absurd (other-value o q rows p k later name is (λ x. cc) e)

  by-name : (v : Value) (o : OptionName) (rows : List Row) (p : Option (Text × List Text)) (k : ℕ) (x : Text) (later : List Text) → value_of o ≡ v → is_name x ≡ true
      → all_faults (between rows p k) (word_of o ∷ x ∷ later) ≡ [] → GoesOn k (x ∷ later) → GoesOn k later → Reads rows p k (word_of o ∷ x ∷ later)
  by-name nothing o rows p k x later is h e go after = after-flag o rows p k (x ∷ later) is e go
  by-name (in_range least greatest) o rows p k x later is h e go after = after-value o rows p k x later (in_range least greatest) is (λ y. cc) h e after
  by-name name o rows p k x later is h e go after = after-value o rows p k x later name is (λ y. cc) h e after

  abbrev AfterFirst : ℕ → List Text → Type 0
  AfterFirst k [] = Unit {0}
  AfterFirst k (w ∷ ws) = GoesOn k ws

  by-first : (w : Text) (rest : List Text) (k : ℕ) → IsWord w → AreWords rest → GoesOn (suc k) rest → GoesOn k rest → AfterFirst k rest → GoesOn k (w ∷ rest)
  by-first w rest k (of_name v h) more place go after rows p e = by-place (slice_get places k) rows p k v rest h refl e place
  by-first w rest k (of_option o) no_word place go after rows p e = by-last (value_of o) o rows p k refl e
  by-first w rest k (of_option o) (a_word x later (of_option q) more) place go after rows p e = by-option (value_of o) o q rows p k later refl e go
  by-first w rest k (of_option o) (a_word x later (of_name v h) more) place go after rows p e = by-name (value_of o) o rows p k v later refl h e go after

  both-read : (ws : List Text) → AreWords ws → (k : ℕ) → GoesOn k ws × AfterFirst k ws
  both-read ws no_word k = (no-words-at, tt)
    where
      no-words-at : GoesOn k []
      no-words-at rows p e = no-words rows p k e
  both-read ws (a_word w rest i more) k = let r = both-read rest more k in (by-first w rest k i more (both-read rest more (suc k)).0 r.0 r.1, r.0)

  -- Words over which the walk has no fault are the words of items.
  pub reads : (ws : List Text) → AreWords ws → (k : ℕ) → GoesOn k ws
  reads ws words k = (both-read ws words k).0

  -- The other way: the walk over items whose uses pass has no fault.
  abbrev PassesOn : ℕ → List Item → Type 0
  PassesOn k items = (rows : List Row) (p : Option (Text × List Text)) → settles places are rows p ≡ [] → ItemsPass k (settled_at places are rows p) items → (all_faults (between rows p k) (words_of items) ≡ []) × (last_rows (between rows p k) (words_of items) ≡ rows_after k (settled_at places are rows p) items)

  value-passes : (v : Value) (o : OptionName) (w : Text) (items : List Item) (k : ℕ) (rows : List Row) (p : Option (Text × List Text)) → value_of o ≡ v → (v ≡ nothing → ⊥) → is_name w ≡ true
      → settles places are rows p ≡ [] → use_fault false (full_rule o) (w ∷ []) (settled_at places are rows p) ≡ [] → PassesOn k items → ItemsPass k (used (full_rule o) (w ∷ []) (settled_at places are rows p)) items
      → (all_faults (between rows p k) (word_of o ∷ w ∷ words_of items) ≡ []) × (last_rows (between rows p k) (word_of o ∷ w ∷ words_of items) ≡ rows_after k (used (full_rule o) (w ∷ []) (settled_at places are rows p)) items)
  value-passes v o w items k rows p is valued h settle used_so go pass =
      let now = settled_at places are rows p in
      let rest = go now (Some (option_id o, w ∷ [])) (pending-use o now w ∙ used_so) (subst (λ x. ItemsPass k x items) (sym (pending-rows o now w)) pass) in
      let parts = or-parts places are _ _ rest.0 in
      let next = ap (λ x. walked (rules_with places) [] x w) (open-next o rows p k v is valued) ∙ value-next o now k w v is valued h in (
        or-none places are _ _ (open-turn places are o rows p k (w ∷ words_of items) v is valued ∙ or-none places are _ _ settle (value-turn places are o now k w (words_of items) v is valued h ∙ parts.0))
            (subst (λ x. settle_fault (rules_with places) false (walk_to places are x (words_of items)).held ≡ []) (sym next) parts.1),
        ap (λ x. last_rows x (words_of items)) next ∙ rest.1 ∙ ap (λ x. rows_after k x items) (pending-rows o now w),
      )

  flag-passes : (o : OptionName) (items : List Item) (k : ℕ) (rows : List Row) (p : Option (Text × List Text)) → value_of o ≡ nothing
      → settles places are rows p ≡ [] → use_fault false (full_rule o) [] (settled_at places are rows p) ≡ [] → PassesOn k items → ItemsPass k (used (full_rule o) [] (settled_at places are rows p)) items
      → (all_faults (between rows p k) (word_of o ∷ words_of items) ≡ []) × (last_rows (between rows p k) (word_of o ∷ words_of items) ≡ rows_after k (used (full_rule o) [] (settled_at places are rows p)) items)
  flag-passes o items k rows p is settle used_so go pass =
      let now = settled_at places are rows p in
      let rest = go (used (full_rule o) [] now) None refl pass in
      let parts = or-parts places are _ _ rest.0 in (
        or-none places are _ _ (flag-turn places are o rows p k (words_of items) is ∙ or-none places are _ _ (or-none places are _ _ settle used_so) parts.0)
            (subst (λ x. settle_fault (rules_with places) false (walk_to places are x (words_of items)).held ≡ []) (sym (flag-next o rows p k is)) parts.1),
        ap (λ x. last_rows x (words_of items)) (flag-next o rows p k is) ∙ rest.1,
      )

  option-passes : (v : Value) (vs : List Text) (o : OptionName) (items : List Item) (k : ℕ) (rows : List Row) (p : Option (Text × List Text)) → value_of o ≡ v → IsShaped v vs
      → settles places are rows p ≡ [] → use_fault false (full_rule o) vs (settled_at places are rows p) ≡ [] → PassesOn k items → ItemsPass k (used (full_rule o) vs (settled_at places are rows p)) items
      → (all_faults (between rows p k) (word_of o ∷ (vs ++ words_of items)) ≡ []) × (last_rows (between rows p k) (word_of o ∷ (vs ++ words_of items)) ≡ rows_after k (used (full_rule o) vs (settled_at places are rows p)) items)
  option-passes nothing [] o items k rows p is shape settle used_so go pass = flag-passes o items k rows p is settle used_so go pass
  option-passes (in_range least greatest) (w ∷ []) o items k rows p is shape settle used_so go pass = value-passes (in_range least greatest) o w items k rows p is (λ x. cc) shape settle used_so go pass
  option-passes name (w ∷ []) o items k rows p is shape settle used_so go pass = value-passes name o w items k rows p is (λ x. cc) shape settle used_so go pass
  option-passes v vs o items k rows p is shape settle used_so go pass = absurd shape

  pub passes : (items : List Item) (k : ℕ) → AreShaped items → PassesOn k items
  unfolding walk_fault
  passes [] k shaped rows p settle pass = (settle, refl)
  passes (positional w ∷ items) k shaped rows p settle pass =
      let v = pass.0 in
      let at = pass.1 in
      let now = settled_at places are rows p in
      let same = place-rows k v now w at in
      let rest = passes items (suc k) shaped.1 now (Some (place_id k, w ∷ [])) (place-use k v now w at ∙ pass.2) (subst (λ x. ItemsPass (suc k) x items) (sym same) pass.3) in
      let parts = or-parts places are _ _ rest.0 in
      let next = place-next v rows p k w shaped.0 at (few-places k v at) in (
        or-none places are _ _ (place-turn places are v rows p k w (words_of items) shaped.0 at (few-places k v at) ∙ or-none places are _ _ settle parts.0)
            (subst (λ x. settle_fault (rules_with places) false (walk_to places are x (words_of items)).held ≡ []) (sym next) parts.1),
        ap (λ x. last_rows x (words_of items)) next ∙ rest.1 ∙ ap (λ x. rows_after (suc k) x items) same ∙ sym (rw at refl),
      )
  passes (an_option o vs ∷ items) k shaped rows p settle pass = option-passes (value_of o) vs o items k rows p refl shaped.0 settle pass.0 (passes items k shaped.1) pass.1
