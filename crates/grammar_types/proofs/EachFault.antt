-- Statements have a first fault of types, or define types without one.
use Rattle.std.proofs.Common.{ℕ, zero, suc, ◌≡◌, ◌<◌, ◌≤◌, ◌+◌, ◌^◌, ◌-◌, ◌||◌, ◌⊎◌, inl, inr, Bool, true, false, cond, ◌&&◌, List, [], ◌∷◌, ◌++◌, length, map, filter, take, min, get_or, slice_index_or, string_bytes, refl, sym, ◌∙◌, ap, subst, arith}
use Rattle.std.specs.List.{flat_map}
use Rattle.std.specs.Str.{bytes_eq}
use Rattle.std.proofs.lemmas.Bool.{cases_lt}
use Rattle.std.proofs.lemmas.List.{get_or-map}
use Rattle.tdl_reader.specs.declared.Status.{Status}
use Rattle.tdl_reader.specs.declared.Status.TheVariants.{TypeDef, Entry, LexRule, Rule, Root, Other}
use Rattle.type_hierarchy.specs.declared.decl.TypeFault.{TypeFault}
use Rattle.type_hierarchy.specs.declared.decl.TypeFault.TheVariants.{Duplicate, Unknown, Cycle, Reserved, TooMany, NoMemory}
use Rattle.type_hierarchy.specs.Decls.{Declared, bare, at_place, is_type, unwritten, parents_of}
use Rattle.type_hierarchy.specs.Order.{Has, here, there, IsBelow}
use Rattle.type_hierarchy.specs.Faults.{IsFirst, IsUnknown, IsCyclic, IsReserved, is_glb_name, most_types, HasNoDuplicate, HasNoUnknown, HasNoCycle, HasNoReserved, IsFaultless, NamesFirst, NamesFirstUnknown, IsFaultOf}
use Rattle.grammar_files.specs.Placings.{PlacedTree}
use Rattle.grammar_files.specs.Statements.{is_status, is_of_types, is_define, name_of, body_of, defines_type}
use Rattle.grammar_settings.specs.Forms.{Name}
use Rattle.grammar_files.specs.declared.fault.Why.TheVariants.{Typing}
use Rattle.grammar_files.specs.Faults.{FoundFault}
use Rattle.grammar_files.specs.Walks.{WalkedTree}
use Rattle.grammar_types.specs.Typings.{is_heeded, statement_at, no_statement, name_written, body_written, type_definitions, adds_to, defines_under, has_name, names_under, top_names, parents_added, declared_in, decls_in, IsRepeatUnder, IsRepeat, HasNoRepeat, IsTypesFault, repeats, unsettled, fault_of}
use Rattle.grammar_types.specs.Outcomes.{IsStringBytes, HaveTexts}
use Rattle.grammar_types.proofs.FirstPlaces.{FirstBelow, first_below}
use Rattle.grammar_types.proofs.ReachedNodes.{cyclic_told}
use Rattle.grammar_types.proofs.SettleLists.{bools, true_not_false}
use Rattle.grammar_types.proofs.SettlePlaces.{within, not_duplicate, has_place}

-- whether a statement repeats a name
under_told : (s : Status) (ps : List PlacedTree) (k : ℕ) → IsRepeatUnder s ps k ⊎ (IsRepeatUnder s ps k → ⊥)
under_told s ps k = go (cases_lt k (length ps)) (bools (defines_under s (statement_at ps k))) (bools (has_name (names_under s (take k ps)) (name_written (statement_at ps k).statement)))
  where
    go : (k < length ps) ⊎ (length ps ≤ k) → (defines_under s (statement_at ps k) ≡ true) ⊎ (defines_under s (statement_at ps k) ≡ false)
        → (has_name (names_under s (take k ps)) (name_written (statement_at ps k).statement) ≡ true) ⊎ (has_name (names_under s (take k ps)) (name_written (statement_at ps k).statement) ≡ false)
        → IsRepeatUnder s ps k ⊎ (IsRepeatUnder s ps k → ⊥)
    go (inl l) (inl d) (inl h) = inl (l, d, h)
    go (inr l) d h = inr (λ r. absurd (omega (arith, l, r.0)))
    go (inl l) (inr d) h = inr (λ r. true_not_false (defines_under s (statement_at ps k)) r.1 d)
    go (inl l) (inl d) (inr h) = inr (λ r. true_not_false _ r.2 h)

repeat_told : (ps : List PlacedTree) (k : ℕ) → IsRepeat ps k ⊎ (IsRepeat ps k → ⊥)
repeat_told ps k = go (under_told TypeDef ps k) (under_told Entry ps k) (under_told LexRule ps k) (under_told Rule ps k) (under_told Root ps k)
  where
    go : (IsRepeatUnder TypeDef ps k ⊎ (IsRepeatUnder TypeDef ps k → ⊥)) → (IsRepeatUnder Entry ps k ⊎ (IsRepeatUnder Entry ps k → ⊥)) → (IsRepeatUnder LexRule ps k ⊎ (IsRepeatUnder LexRule ps k → ⊥))
        → (IsRepeatUnder Rule ps k ⊎ (IsRepeatUnder Rule ps k → ⊥)) → (IsRepeatUnder Root ps k ⊎ (IsRepeatUnder Root ps k → ⊥)) → IsRepeat ps k ⊎ (IsRepeat ps k → ⊥)
    go (inl r) _ _ _ _ = inl (TypeDef, refl, r)
    go (inr a) (inl r) _ _ _ = inl (Entry, refl, r)
    go (inr a) (inr b) (inl r) _ _ = inl (LexRule, refl, r)
    go (inr a) (inr b) (inr c) (inl r) _ = inl (Rule, refl, r)
    go (inr a) (inr b) (inr c) (inr d) (inl r) = inl (Root, refl, r)
    go (inr a) (inr b) (inr c) (inr d) (inr e) = inr (λ r. none r.0 r.1 r.2)
      where
        none : (s : Status) → is_heeded s ≡ true → IsRepeatUnder s ps k → ⊥
        none TypeDef h r = a r
        none Entry h r = b r
        none LexRule h r = c r
        none Rule h r = d r
        none Root h r = e r
        none Other h r = true_not_false false h refl

-- the first statement that repeats a name, or none
first_repeat : (ps : List PlacedTree) → ((k : ℕ) × IsFirst (IsRepeat ps) k) ⊎ HasNoRepeat ps
first_repeat ps = go (first_below (IsRepeat ps) (repeat_told ps) (length ps))
  where
    go : FirstBelow (IsRepeat ps) (length ps) → ((k : ℕ) × IsFirst (IsRepeat ps) k) ⊎ HasNoRepeat ps
    go (inl r) = inl (r.0, (r.2, r.3))
    go (inr none) = inr (λ k r. none k r.2.0 r)

-- elements of lists
has_at : {X : Type 0} (xs : List X) (k : ℕ) (d : X) → k < length xs → Has (get_or xs k d) xs
has_at [] k d h = absurd (omega arith)
has_at (x ∷ xs) zero d h = here
has_at (x ∷ xs) (suc k) d h = there (has_at xs k d (omega arith))

onward : {X : Type 0} (x y : X) (zs ws : List X) → Has x (y ∷ zs) → (Has x zs → Has x ws) → Has x (y ∷ ws)
onward x _ zs ws here k = here
onward x y zs ws (there h) k = there (k h)

pub split : {X : Type 0} (x : X) (xs ys : List X) → Has x (xs ++ ys) → Has x xs ⊎ Has x ys
split x [] ys h = inr h
split x _ ys here = inl here
split {X = X} x (z ∷ xs) ys (there h) = go (split x xs ys h)
  where
    go : Has x xs ⊎ Has x ys → Has x (z ∷ xs) ⊎ Has x ys
    go (inl k) = inl (there k)
    go (inr k) = inr k

kept : {X : Type 0} (q : X → Bool) (x : X) (xs : List X) → Has x (filter q xs) → Has x xs
kept q x [] h = h
kept {X = X} q x (y ∷ xs) h = go (q y) h (kept q x xs)
  where
    go : (b : Bool) → Has x (cond b (y ∷ filter q xs) (filter q xs)) → (Has x (filter q xs) → Has x xs) → Has x (y ∷ xs)
    go true k later = onward x y (filter q xs) xs k later
    go false k later = there (later k)

passes : {X : Type 0} (q : X → Bool) (x : X) (xs : List X) → Has x (filter q xs) → q x ≡ true
passes q x [] h = elim h [ ]
passes {X = X} q x (y ∷ xs) h = go (q y) refl h (passes q x xs)
  where
    go : (b : Bool) → q y ≡ b → Has x (cond b (y ∷ filter q xs) (filter q xs)) → (Has x (filter q xs) → q x ≡ true) → q x ≡ true
    go true e k later = passed x y (filter q xs) e k later
      where
        passed : (u v : X) (zs : List X) → q v ≡ true → Has u (v ∷ zs) → (Has u zs → q u ≡ true) → q u ≡ true
        passed u _ zs f here l = f
        passed u v zs f (there m) l = l m
    go false e k later = later k

unflat : {X A : Type 0} (S : X → List A) (a : A) (xs : List X) → Has a (flat_map S xs) → (x : X) × Has x xs × Has a (S x)
unflat S a [] h = elim h [ ]
unflat {X = X} {A = A} S a (x ∷ xs) h = go (split a (S x) (flat_map S xs) h) (unflat S a xs)
  where
    go : Has a (S x) ⊎ Has a (flat_map S xs) → (Has a (flat_map S xs) → (y : X) × Has y xs × Has a (S y)) → (y : X) × Has y (x ∷ xs) × Has a (S y)
    go (inl k) later = (x, here, k)
    go (inr k) later = let r = later k in (r.0, there r.1, r.2)

front_true : (a b : Bool) → (a && b) ≡ true → a ≡ true
front_true true b e = refl
front_true false b e = e

module _ (top text : Name) (ps : List PlacedTree) (texts : HaveTexts ps) where
  abbrev ds : List Declared
  ds = decls_in ps

  -- the definition of a declaration
  abbrev definition : ℕ → PlacedTree
  definition k = get_or (type_definitions ps) k no_statement

  declared_at : (k : ℕ) → k < length ds → at_place ds k ≡ declared_in ps (definition k)
  declared_at k h = get_or-map (declared_in ps) (type_definitions ps) k no_statement (bare []) (within ps k h)

  defined_there : (k : ℕ) → k < length ds → Has (definition k) (type_definitions ps)
  defined_there k h = has_at (type_definitions ps) k no_statement (within ps k h)

  -- the names of declarations and of their parents are texts
  name_text : (k : ℕ) → k < length ds → IsStringBytes (at_place ds k).name
  name_text k h =
      let there_it : Has (definition k) (type_definitions ps) = defined_there k h in
      subst (λ d. IsStringBytes d.name) (sym (declared_at k h))
      (texts.defined (definition k) (kept defines_type (definition k) ps there_it) (front_true (is_define (definition k).statement) (is_of_types (definition k).status) (passes defines_type (definition k) ps there_it)))

  parent_text : (k i : ℕ) → k < length ds → i < length (at_place ds k).parents → IsStringBytes (slice_index_or (at_place ds k).parents i [])
  parent_text k i h l = found (split n (top_names (body_of (definition k))) (parents_added (name_of (definition k)) ps) (subst (λ d. Has n d.parents) (declared_at k h) (has_at (at_place ds k).parents i [] l)))
    where
      n : Name
      n = slice_index_or (at_place ds k).parents i []

      found : Has n (top_names (body_of (definition k))) ⊎ Has n (parents_added (name_of (definition k)) ps) → IsStringBytes n
      found (inl m) = texts.parents (definition k) n (kept defines_type (definition k) ps (defined_there k h)) m
      found (inr m) =
          let r = unflat (λ p. top_names (body_written p.statement)) n (filter (adds_to (name_of (definition k))) ps) m in
          texts.parents r.0 n (kept (adds_to (name_of (definition k))) r.0 ps r.1) r.2

  -- whether a declaration has a fault
  unknown_told : (k i : ℕ) → IsUnknown top text ds k i ⊎ (IsUnknown top text ds k i → ⊥)
  unknown_told k i = go (cases_lt k (length ds)) (cases_lt i (length (at_place ds k).parents)) (bools (is_type top text ds (slice_index_or (at_place ds k).parents i [])))
    where
      go : (k < length ds) ⊎ (length ds ≤ k) → (i < length (at_place ds k).parents) ⊎ (length (at_place ds k).parents ≤ i)
          → (is_type top text ds (slice_index_or (at_place ds k).parents i []) ≡ true) ⊎ (is_type top text ds (slice_index_or (at_place ds k).parents i []) ≡ false)
          → IsUnknown top text ds k i ⊎ (IsUnknown top text ds k i → ⊥)
      go (inl a) (inl b) (inr c) = inl (a, b, c)
      go (inr a) b c = inr (λ r. absurd (omega (arith, a, r.0)))
      go (inl a) (inr b) c = inr (λ r. absurd (omega (arith, b, r.1)))
      go (inl a) (inl b) (inl c) = inr (λ r. true_not_false _ c r.2)

  abbrev HasUnknown : ℕ → Type 0
  HasUnknown k = (i : ℕ) × IsUnknown top text ds k i

  first_parent : (k : ℕ) → FirstBelow (IsUnknown top text ds k) (length (at_place ds k).parents)
  first_parent k = first_below (IsUnknown top text ds k) (unknown_told k) (length (at_place ds k).parents)

  has_unknown_told : (k : ℕ) → HasUnknown k ⊎ (HasUnknown k → ⊥)
  has_unknown_told k = go (first_parent k)
    where
      go : FirstBelow (IsUnknown top text ds k) (length (at_place ds k).parents) → HasUnknown k ⊎ (HasUnknown k → ⊥)
      go (inl r) = inl (r.0, r.2)
      go (inr none) = inr (λ r. none r.0 r.1.1 r.1)

  cyclic_at : (k : ℕ) → IsCyclic top text ds k ⊎ (IsCyclic top text ds k → ⊥)
  cyclic_at k = go (cases_lt k (length ds)) (cyclic_told (parents_of top text ds) (length (unwritten top text ds) + k))
    where
      go : (k < length ds) ⊎ (length ds ≤ k) → IsBelow (parents_of top text ds) (length (unwritten top text ds) + k) (length (unwritten top text ds) + k) ⊎ (IsBelow (parents_of top text ds) (length (unwritten top text ds) + k) (length (unwritten top text ds) + k) → ⊥)
          → IsCyclic top text ds k ⊎ (IsCyclic top text ds k → ⊥)
      go (inl a) (inl b) = inl (a, b)
      go (inr a) b = inr (λ r. absurd (omega (arith, a, r.0)))
      go (inl a) (inr b) = inr (λ r. b r.1)

  reserved_at : (k : ℕ) → IsReserved top ds k ⊎ (IsReserved top ds k → ⊥)
  reserved_at k = go (cases_lt k (length ds)) (bools (bytes_eq (at_place ds k).name top || is_glb_name (at_place ds k).name))
    where
      go : (k < length ds) ⊎ (length ds ≤ k) → ((bytes_eq (at_place ds k).name top || is_glb_name (at_place ds k).name) ≡ true) ⊎ ((bytes_eq (at_place ds k).name top || is_glb_name (at_place ds k).name) ≡ false)
          → IsReserved top ds k ⊎ (IsReserved top ds k → ⊥)
      go (inl a) (inl b) = inl (a, b)
      go (inr a) b = inr (λ r. absurd (omega (arith, a, r.0)))
      go (inl a) (inr b) = inr (λ r. true_not_false _ r.1 b)

  -- a first fault, or none
  abbrev HasFault : Type 0
  HasFault = (e : TypeFault) × IsFaultOf top text ds e × (e ≡ NoMemory → ⊥)

  none_past : (P : ℕ → Type 0) → ((k : ℕ) → P k → k < length ds) → ((j : ℕ) → j < length ds → P j → ⊥) → (k : ℕ) → P k → ⊥
  none_past P inside none k p = none k (inside k p) p

  with_few : HasNoDuplicate ds → HasNoUnknown top text ds → HasNoCycle top text ds → HasNoReserved top ds → HasFault ⊎ IsFaultless top text ds
  with_few d u c r = go (cases_lt most_types (length ds))
    where
      go : (most_types < length ds) ⊎ (length ds ≤ most_types) → HasFault ⊎ IsFaultless top text ds
      go (inl many) = inl (TooMany (min (length ds) (2 ^ 32 - 1)), (d, u, c, r, many, refl), λ e. cc)
      go (inr few) = inr (record { no_duplicate = d; no_unknown = u; no_cycle = c; no_reserved = r; few = few })

  with_reserved : HasNoDuplicate ds → HasNoUnknown top text ds → HasNoCycle top text ds → HasFault ⊎ IsFaultless top text ds
  with_reserved d u c = go (first_below (IsReserved top ds) reserved_at (length ds))
    where
      go : FirstBelow (IsReserved top ds) (length ds) → HasFault ⊎ IsFaultless top text ds
      go (inl r) = let t = name_text r.0 r.1 in inl (Reserved t.0, (d, u, c, (r.0, (r.2, r.3), t.1)), λ e. cc)
      go (inr none) = with_few d u c (none_past (IsReserved top ds) (λ k p. p.0) none)

  with_cycles : HasNoDuplicate ds → HasNoUnknown top text ds → HasFault ⊎ IsFaultless top text ds
  with_cycles d u = go (first_below (IsCyclic top text ds) cyclic_at (length ds))
    where
      go : FirstBelow (IsCyclic top text ds) (length ds) → HasFault ⊎ IsFaultless top text ds
      go (inl r) = let t = name_text r.0 r.1 in inl (Cycle t.0, (d, u, (r.0, (r.2, r.3), t.1)), λ e. cc)
      go (inr none) = with_reserved d u (none_past (IsCyclic top text ds) (λ k p. p.0) none)

  pub with_unknown : HasNoDuplicate ds → HasFault ⊎ IsFaultless top text ds
  with_unknown d = go (first_below HasUnknown has_unknown_told (length ds))
    where
      at_first : (k : ℕ) → k < length ds → HasUnknown k → ((j : ℕ) → j < k → HasUnknown j → ⊥) → FirstBelow (IsUnknown top text ds k) (length (at_place ds k).parents) → HasFault ⊎ IsFaultless top text ds
      at_first k l some before (inl r) =
          let t = name_text k l in
          let v = parent_text k r.0 l r.1 in
          let first : NamesFirstUnknown top text ds (string_bytes t.0) (string_bytes v.0) = record {
            place = k;
            parent_place = r.0;
            is_unknown = r.2;
            none_before = λ j i h x. before j h (i, x);
            first_parent = r.3;
            name_is = t.1;
            parent_is = v.1;
          } in
          inl (Unknown t.0 v.0, (d, first), λ e. cc)
      at_first k l some before (inr none) = absurd (none some.0 some.1.1 some.1)

      go : FirstBelow HasUnknown (length ds) → HasFault ⊎ IsFaultless top text ds
      go (inl r) = at_first r.0 r.1 r.2 r.3 (first_parent r.0)
      go (inr none) = with_cycles d (λ k i x. none k x.0 (i, x))

-- No name is given a second time under one status, and the types that are defined have no fault.
pub record DefinesTypes (w : WalkedTree) : Type 0 where
  pub no_repeat : HasNoRepeat w.statements
  pub faultless : IsFaultless w.settings.top_type w.settings.string_type (decls_in w.statements)

-- a first fault, or none
abbrev pub HasOutcome : WalkedTree → Type 0
HasOutcome w = ((f : FoundFault) × IsTypesFault w f) ⊎ DefinesTypes w

pub fault_or_none : (w : WalkedTree) → HaveTexts w.statements → HasOutcome w
fault_or_none w texts = go (first_repeat w.statements)
  where
    declared_so : HasNoRepeat w.statements → HasFault w.settings.top_type w.settings.string_type w.statements texts ⊎ IsFaultless w.settings.top_type w.settings.string_type (decls_in w.statements) → HasOutcome w
    declared_so once (inl r) = let p = has_place w.settings.top_type w.settings.string_type w.statements r.0 once r.1 r.2 in inl (fault_of w p.0 (Typing r.0), unsettled r.0 p.0 once r.1 p.1)
    declared_so once (inr is) = inr (record { no_repeat = once; faultless = is })

    go : ((k : ℕ) × IsFirst (IsRepeat w.statements) k) ⊎ HasNoRepeat w.statements → HasOutcome w
    go (inl r) =
        let u : IsRepeatUnder r.1.0.0 w.statements r.0 = r.1.0.2 in
        let p : PlacedTree = statement_at w.statements r.0 in
        let t : IsStringBytes (name_of p) = texts.defined p (has_at w.statements r.0 no_statement u.0) (front_true (is_define p.statement) (is_status r.1.0.0 p.status) u.1) in
        inl (fault_of w p (Typing (Duplicate t.0)), repeats r.0 t.0 r.1 t.1)
    go (inr once) =
        declared_so once (with_unknown w.settings.top_type w.settings.string_type w.statements texts (λ k d. not_duplicate w.statements k once d))
