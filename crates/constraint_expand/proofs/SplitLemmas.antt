-- Writers, and the faults of features without introducers.
use Rattle.std.proofs.Common.{ℕ, suc, ◌≡◌, ◌<◌, ◌≤◌, ◌+◌, ◌⊎◌, inl, inr, ◌&&◌, ◌||◌, not, Bool, true, false, cond, List, [], ◌∷◌, ◌++◌, length, filter, take, get_or, slice_index_or, Option, Some, None, unwrap_or, String, refl, sym, ◌∙◌, ap, subst, arith}
use Rattle.std.specs.Global.{Global}
use Rattle.std.specs.List.{flat_map, AllZip}
use Rattle.std.specs.Str.{bytes_eq}
use Rattle.std.specs.String.{string_bytes}
use Rattle.std.proofs.lemmas.List.{length-take, map-append}
use Rattle.std.proofs.lemmas.List.Quantifiers.{position-Some}
use Rattle.fs_model.specs.Claims.{Has, here, there}
use Rattle.type_hierarchy.specs.declared.types.Ty.{Ty}
use Rattle.type_hierarchy.specs.Decls.{Name, texts}
use Rattle.type_hierarchy.specs.Named.{type_named}
use Rattle.type_hierarchy.specs.Table.{TypeTable, count_of, completed_count}
use Rattle.body_facts.specs.Numbers.{type_number}
use Rattle.body_facts.specs.Writing.{ListNames}
use Rattle.body_facts.specs.BracketUses.{Used}
use Rattle.grammar_files.specs.declared.expand_fault.ExpandFault.{ExpandFault}
use Rattle.grammar_files.specs.declared.expand_fault.ExpandFault.TheVariants.{UnknownName, NoIntro, Intro, NoStructure, NoMemory}
use Rattle.grammar_files.specs.Placings.{PlacedTree}
use Rattle.constraint_expand.specs.Statements.{no_statement, statement_at, name_of, body_of, place_of, speaks_of_type, defines_type, adds_to_type, defines_instance}
use Rattle.constraint_expand.specs.Conditions.{AreTypesFor, IsDefined}
use Rattle.constraint_expand.specs.Unknowns.{is_defined, own_unknown, NamesUnknown}
use Rattle.constraint_expand.specs.Features.{uses_in, all_uses, features_used, is_writing, writings_in, writers_of}
use Rattle.constraint_expand.specs.Introducers.{numbers_of, IsIntroducer, AreFirstTwo}
use Rattle.constraint_expand.specs.Systems.{Settled}
use Rattle.constraint_expand.specs.Faults.{UsesUnwritten, IsUnwritten, AreKnown, AreWritten, HasIntroducer}
use Rattle.constraint_expand.specs.Found.{with_each, AreNoted, HasNoted, IsSplitOf, IsSplitHere, IsSplitAmong, IsSplitFault}
use Rattle.type_facts.proofs.ListLemmas.{bools, Has-either, Has-cons, Has-of_map, Has-place, map_next}
use Rattle.constraint_expand.proofs.NameLemmas.{first_met, bytes_eq-same}
use Rattle.type_hierarchy.proofs.ListLemmas.{any_index}
use Rattle.body_facts.specs.Mentions.{mention, unknown_in}
use Rattle.std.specs.Option.{option_or}
use Rattle.std.proofs.lemmas.Bool.{and_parts, cases_lt}

pub Has-of_flat : {X Y : Type 0} (f : X → List Y) (y : Y) (xs : List X) → Has y (flat_map f xs) → (x : X) × Has x xs × Has y (f x)
Has-of_flat f y [] h = elim h [ ]
Has-of_flat f y (x ∷ xs) h = go (Has-either y (f x) (flat_map f xs) h) (Has-of_flat f y xs)
  where
    go : Has y (f x) ⊎ Has y (flat_map f xs) → (Has y (flat_map f xs) → (z : _) × Has z xs × Has y (f z)) → (z : _) × Has z (x ∷ xs) × Has y (f z)
    go (inl a) rest = (x, here, a)
    go (inr a) rest = let r = rest a in (r.0, there r.1, r.2)

-- an element that passes a test stands in the list
pub Has-of_filter : {X : Type 0} (p : X → Bool) (x : X) (xs : List X) → Has x (filter p xs) → Has x xs × (p x ≡ true)
Has-of_filter p x [] h = elim h [ ]
Has-of_filter p x (y ∷ ys) h = go (p y) refl h (Has-of_filter p x ys)
  where
    later : Has x ys × (p x ≡ true) → Has x (y ∷ ys) × (p x ≡ true)
    later r = (there r.0, r.1)

    one : p y ≡ true → (x ≡ y) ⊎ Has x (filter p ys) → (Has x (filter p ys) → Has x ys × (p x ≡ true)) → Has x (y ∷ ys) × (p x ≡ true)
    one e (inl same) rest = (subst (λ z. Has z (y ∷ ys)) (sym same) here, ap p same ∙ e)
    one e (inr k) rest = later (rest k)

    go : (b : Bool) → p y ≡ b → Has x (cond b (y ∷ filter p ys) (filter p ys)) → (Has x (filter p ys) → Has x ys × (p x ≡ true)) → Has x (y ∷ ys) × (p x ≡ true)
    go true e k rest = one e (Has-cons x y (filter p ys) k) rest
    go false e k rest = later (rest k)

-- the number of a type's name
pub number_in : (types : TypeTable) (name : Name) → 0 < completed_count types → completed_count types ≤ count_of types → type_number types name < count_of types
number_in types name some le = go (type_named types name) refl
  where
    go : (o : Option ℕ) → type_named types name ≡ o → unwrap_or o 0 < count_of types
    go None e = omega arith
    go (Some k) e =
        let r = position-Some (bytes_eq name) (take (completed_count types) types.names) k [] e in
        omega (arith, r.0, length-take (completed_count types) types.names, le)

pub writers_within : (types : TypeTable) (n : ListNames) (ps : List PlacedTree) (f : Name) → 0 < completed_count types → completed_count types ≤ count_of types →
    (t : ℕ) → Has t (writers_of types n ps f) → t < count_of types
writers_within types n ps f some le t h =
    let r = Has-of_flat (writings_in types n f) t (filter speaks_of_type ps) h in
    let u = Has-of_map (λ u. type_number types (name_of r.0)) t (filter (is_writing f) (uses_in n r.0)) r.2 in
    subst (λ m. m < count_of types) (sym u.2) (number_in types (name_of r.0) some le)

-- where a feature is used
pub used_somewhere : (n : ListNames) (ps : List PlacedTree) (f : Name) → Has f (features_used n ps) →
    (p : PlacedTree) × (u : Used) × Has p ps × ((speaks_of_type p ≡ true) ⊎ (defines_instance p ≡ true)) × Has u (uses_in n p) × (f ≡ u.feature)
used_somewhere n ps f h =
    let r = Has-of_map (λ u. u.feature) f (all_uses n ps) h in
    go r.0 r.2 (Has-either r.0 (flat_map (uses_in n) (filter speaks_of_type ps)) (flat_map (uses_in n) (filter defines_instance ps)) r.1)
  where
    go : (u : Used) → f ≡ u.feature → Has u (flat_map (uses_in n) (filter speaks_of_type ps)) ⊎ Has u (flat_map (uses_in n) (filter defines_instance ps)) →
        (p : PlacedTree) × (v : Used) × Has p ps × ((speaks_of_type p ≡ true) ⊎ (defines_instance p ≡ true)) × Has v (uses_in n p) × (f ≡ v.feature)
    go u e (inl k) =
        let s = Has-of_flat (uses_in n) u (filter speaks_of_type ps) k in
        let t = Has-of_filter speaks_of_type s.0 ps s.1 in
        (s.0, u, t.0, inl t.1, s.2, e)
    go u e (inr k) =
        let s = Has-of_flat (uses_in n) u (filter defines_instance ps) k in
        let t = Has-of_filter defines_instance s.0 ps s.1 in
        (s.0, u, t.0, inr t.1, s.2, e)

-- a feature that is used has writers
pub writers_some : (types : TypeTable) (s : Settled) (ps : List PlacedTree) (f : Name) → AreWritten types s ps → Has f (features_used s.lists ps) →
    0 < length (writers_of types s.lists ps f)
writers_some types s ps f written h = go (used_somewhere s.lists ps f h)
  where
    some_of : (ws : List ℕ) → writers_of types s.lists ps f ≡ ws → (ws ≡ [] → ⊥) → 0 < length ws
    some_of [] e no' = absurd (no' refl)
    some_of (w ∷ ws) e no' = omega arith

    refute : (p : PlacedTree) (u : Used) → Has p ps → (speaks_of_type p ≡ true) ⊎ (defines_instance p ≡ true) → Has u (uses_in s.lists p) → IsUnwritten types s.lists ps u → ⊥
    refute p u has (inl t) at no' =
        let r = Has-place p no_statement ps has in
        written.of_types r.0 r.1 (subst (λ q. speaks_of_type q ≡ true) (sym r.2) t) (subst (UsesUnwritten types s.lists ps) (sym r.2) (u, at, no'))
    refute p u has (inr t) at no' =
        let r = Has-place p no_statement ps has in
        written.of_instances r.0 r.1 (subst (λ q. defines_instance q ≡ true) (sym r.2) t) (subst (UsesUnwritten types s.lists ps) (sym r.2) (u, at, no'))

    go : ((p : PlacedTree) × (u : Used) × Has p ps × ((speaks_of_type p ≡ true) ⊎ (defines_instance p ≡ true)) × Has u (uses_in s.lists p) × (f ≡ u.feature)) →
        0 < length (writers_of types s.lists ps f)
    go (p, u, has, kind, at, e) =
        some_of (writers_of types s.lists ps f) refl (λ none. refute p u has kind at (ap (writers_of types s.lists ps) (sym e) ∙ none))

pub are_noted : (types : TypeTable) (s : Settled) (ps : List PlacedTree) (f : Name) (ws : List ℕ) → 0 < completed_count types → completed_count types ≤ count_of types →
    AreWritten types s ps → Has f (features_used s.lists ps) → ws ≡ writers_of types s.lists ps f → AreNoted (count_of types) ws
are_noted types s ps f ws some le written used e =
    record {
      some = subst (λ l. 0 < length l) (sym e) (writers_some types s ps f written used);
      within = λ t h. writers_within types s.lists ps f some le t (subst (Has t) e h);
    }

-- the fault of one feature is the first, where all before it have introducers
pub split_here : (types : TypeTable) (ps : List PlacedTree) (writers : Name → List ℕ) (features : List Name) (i : ℕ) (f : Name) (e : ExpandFault) → i < length features →
    slice_index_or features i [] ≡ f → ((j : ℕ) → j < i → HasNoted types (writers (slice_index_or features j []))) → IsSplitHere types ps (writers f) f e →
    IsSplitAmong types ps writers features e
split_here types ps writers features i f NoMemory within is before h = tt
split_here types ps writers features i f (Intro feature a b k) within is before h =
    (i, within, subst (λ g. IsSplitHere types ps (writers g) g (Intro feature a b k)) (sym is) h, before)
split_here types ps writers features i f (UnknownName name at k) within is before h =
    (i, within, subst (λ g. IsSplitHere types ps (writers g) g (UnknownName name at k)) (sym is) h, before)
split_here types ps writers features i f (NoIntro name at k) within is before h =
    (i, within, subst (λ g. IsSplitHere types ps (writers g) g (NoIntro name at k)) (sym is) h, before)
split_here types ps writers features i f (NoStructure name k) within is before h =
    (i, within, subst (λ g. IsSplitHere types ps (writers g) g (NoStructure name k)) (sym is) h, before)

-- and so the first by order of writing
pub split_is : (types : TypeTable) (s : Settled) (ps : List PlacedTree) (writers : Name → List ℕ) (keys : List Name) (e : ExpandFault) →
    ((f : Name) → writers f ≡ writers_of types s.lists ps f) → keys ≡ with_each [] (features_used s.lists ps) → IsSplitAmong types ps writers keys e →
    IsSplitFault types s ps e
split_is types s ps writers keys NoMemory same keys_are h = tt
split_is types s ps writers keys (UnknownName name at k) same keys_are (i, within, (first, second, none, two, bad), before) = bad
split_is types s ps writers keys (NoIntro name at k) same keys_are (i, within, (first, second, none, two, bad), before) = bad
split_is types s ps writers keys (NoStructure name k) same keys_are (i, within, (first, second, none, two, bad), before) = bad
split_is types s ps writers keys (Intro feature a b k) same keys_are (i, within, (first, second, none, two, (f_is, a_is, b_is, stands)), before) =
    let used = features_used s.lists ps in
    let lt : i < length (with_each [] used) = subst (λ l. i < length l) keys_are within in
    let met = first_met [] used i (omega arith) lt in
    let key_is : slice_index_or keys i [] ≡ slice_index_or used met.0 [] = ap (λ l. slice_index_or l i []) keys_are ∙ sym met.2 in
    let name_is : string_bytes feature ≡ slice_index_or used met.0 [] = f_is ∙ key_is in
    let writers_are : writers (slice_index_or keys i []) ≡ writers_of types s.lists ps (string_bytes feature) =
    same (slice_index_or keys i []) ∙ ap (writers_of types s.lists ps) (sym f_is) in
    record {
      place = met.0;
      within = met.1;
      feature_is = name_is;
      split = λ has. none (subst (HasNoted types) (sym writers_are) has);
      before = λ j h. earlier j (met.3 j h);
      first = first;
      second = second;
      two = subst (λ ws. AreFirstTwo types ws first second) writers_are two;
      a_is = a_is;
      b_is = b_is;
      stands = stands;
    }
  where
    earlier : (j : ℕ) → (m : ℕ) × (m < i) × (slice_index_or (with_each [] (features_used s.lists ps)) m [] ≡ slice_index_or (features_used s.lists ps) j []) →
        HasIntroducer types s.lists ps (slice_index_or (features_used s.lists ps) j [])
    earlier j (m, lt, e) =
        let key_is : slice_index_or keys m [] ≡ slice_index_or (features_used s.lists ps) j [] = ap (λ l. slice_index_or l m []) keys_are ∙ e in
        subst (HasNoted types) (same (slice_index_or keys m []) ∙ ap (writers_of types s.lists ps) key_is) (before m lt)

-- one more introducer
pub zip_push : {A B : Type 0} (R : A → B → Type 0) (xs : List A) (ys : List B) (x : A) (y : B) → AllZip R xs ys → R x y → AllZip R (xs ++ x ∷ []) (ys ++ y ∷ [])
zip_push R [] [] x y h r = (r, tt)
zip_push R [] (z ∷ zs) x y h r = absurd h
zip_push R (w ∷ ws) [] x y h r = absurd h
zip_push R (w ∷ ws) (z ∷ zs) x y h r = (h.0, zip_push R ws zs x y h.1 r)

pub zip_moved : {A B : Type 0} (R S : A → B → Type 0) (xs : List A) (ys : List B) → ((x : A) (y : B) → R x y → S x y) → AllZip R xs ys → AllZip S xs ys
zip_moved R S [] [] to h = tt
zip_moved R S [] (z ∷ zs) to h = absurd h
zip_moved R S (w ∷ ws) [] to h = absurd h
zip_moved R S (w ∷ ws) (z ∷ zs) to h = (to w z h.0, zip_moved R S ws zs to h.1)

pub zip_length : {A B : Type 0} (R : A → B → Type 0) (xs : List A) (ys : List B) → AllZip R xs ys → length ys ≡ length xs
zip_length R [] [] h = refl
zip_length R [] (z ∷ zs) h = absurd h
zip_length R (w ∷ ws) [] h = absurd h
zip_length R (w ∷ ws) (z ∷ zs) h = ap suc (zip_length R ws zs h.1)

-- the writers of a feature are types that are defined
pub writers_defined : (types : TypeTable) (s : Settled) (ps : List PlacedTree) (f : Name) → AreTypesFor types ps → AreKnown types s ps →
    (t : ℕ) → Has t (writers_of types s.lists ps f) → IsDefined types ps t
writers_defined types s ps f types_for known t h =
    let r = Has-of_flat (writings_in types s.lists f) t (filter speaks_of_type ps) h in
    let u = Has-of_map (λ u. type_number types (name_of r.0)) t (filter (is_writing f) (uses_in s.lists r.0)) r.2 in
    let m = Has-of_filter speaks_of_type r.0 ps r.1 in
    subst (IsDefined types ps) (sym u.2) (go r.0 m.0 m.1 (bools (defines_type r.0)))
  where
    of_name : (n : Name) → is_defined ps n ≡ true → IsDefined types ps (type_number types n)
    of_name n e =
        let k = any_index (λ p. defines_type p && bytes_eq n (name_of p)) no_statement ps e in
        let parts = and_parts (defines_type (statement_at ps k.0)) (bytes_eq n (name_of (statement_at ps k.0))) k.2 in
        let named = types_for.named k.0 k.1 parts.0 in
        let same : type_named types n ≡ Some named.0 = ap (type_named types) (bytes_eq-same n (name_of (statement_at ps k.0)) parts.1) ∙ named.1 in
        (k.0, k.1, parts.0, named.1 ∙ ap Some (sym (ap (λ o. unwrap_or o 0) same)))

    go : (p : PlacedTree) → Has p ps → speaks_of_type p ≡ true → (defines_type p ≡ true) ⊎ (defines_type p ≡ false) → IsDefined types ps (type_number types (name_of p))
    go p has speaks (inl d) =
        let k = Has-place p no_statement ps has in
        let d' : defines_type (statement_at ps k.0) ≡ true = subst (λ q. defines_type q ≡ true) (sym k.2) d in
        let named = types_for.named k.0 k.1 d' in
        let same : type_named types (name_of p) ≡ Some named.0 = subst (λ q. type_named types (name_of q) ≡ Some named.0) k.2 named.1 in
        (k.0, k.1, d', named.1 ∙ ap Some (sym (ap (λ o. unwrap_or o 0) same)))
    go p has speaks (inr d) = of_name (name_of p) (known_name (bools (is_defined ps (name_of p))))
      where
        adds : adds_to_type p ≡ true
        adds = sym (ap (λ b. b || adds_to_type p) d) ∙ speaks

        refuted : is_defined ps (name_of p) ≡ false → ⊥
        refuted e =
            let k = Has-place p no_statement ps has in
            let own : own_unknown ps p ≡ Some (mention (place_of p.statement) (name_of p)) =
            ap (λ b. cond b (Some (mention (place_of p.statement) (name_of p))) None) (ap (λ b. b && not (is_defined ps (name_of p))) adds ∙ ap not e) in
            known.of_types k.0 k.1 (subst (λ q. speaks_of_type q ≡ true) (sym k.2) speaks)
            (subst (NamesUnknown types s.lists ps) (sym k.2) (mention (place_of p.statement) (name_of p), ap (λ o. option_or o (unknown_in types s.lists (body_of p))) own))

        known_name : (is_defined ps (name_of p) ≡ true) ⊎ (is_defined ps (name_of p) ≡ false) → is_defined ps (name_of p) ≡ true
        known_name (inl e) = e
        known_name (inr e) = absurd (refuted e)

-- one more introducer, of the next feature
pub zip_next : (R : Name → ℕ → Type 0) (xs : List (String Global)) (i : ℕ) (x : String Global) (old new : List Ty) (t : Ty) → i < length xs → x ≡ get_or xs i x → new ≡ old ++ t ∷ [] →
    AllZip R (texts (take i xs)) (numbers_of old) → R (string_bytes x) t.0 → AllZip R (texts (take (i + 1) xs)) (numbers_of new)
zip_next R xs i x old new t h e is had one =
    subst (λ l. AllZip R l (numbers_of new)) (sym (map_next string_bytes xs i x h e))
    (subst (λ l. AllZip R (texts (take i xs) ++ string_bytes x ∷ []) l) (sym (ap numbers_of is ∙ map-append (λ y. y.0) old (t ∷ [])))
    (zip_push R (texts (take i xs)) (numbers_of old) (string_bytes x) t.0 had one))

pub introduced_next : (types : TypeTable) (writers : Name → List ℕ) (features : List Name) (i : ℕ) → ((j : ℕ) → j < i → HasNoted types (writers (slice_index_or features j []))) →
    HasNoted types (writers (slice_index_or features i [])) → (j : ℕ) → j < i + 1 → HasNoted types (writers (slice_index_or features j []))
introduced_next types writers features i old new j h = go (cases_lt j i)
  where
    go : (j < i) ⊎ (i ≤ j) → HasNoted types (writers (slice_index_or features j []))
    go (inl a) = old j a
    go (inr a) = let same : i ≡ j = omega arith in subst (λ k. HasNoted types (writers (slice_index_or features k []))) same new

pub introduced_all : (types : TypeTable) (writers : Name → List ℕ) (features : List Name) (i : ℕ) → length features ≤ i →
    ((j : ℕ) → j < i → HasNoted types (writers (slice_index_or features j []))) → (f : Name) → Has f features → HasNoted types (writers f)
introduced_all types writers features i past all f h =
    let r = Has-place f [] features h in
    subst (λ g. HasNoted types (writers g)) r.2 (all r.0 (omega (arith, r.1, past)))

-- what is found of a feature without introducer
pub split_found : (types : TypeTable) (ps : List PlacedTree) (writers : List ℕ) (f : Name) (first second : ℕ) (e : ExpandFault) → (HasNoted types writers → ⊥) →
    AreFirstTwo types writers first second → IsSplitOf types ps f first second e → IsSplitHere types ps writers f e
split_found types ps writers f first second (Intro feature a b k) none two h = (first, second, none, two, h)
split_found types ps writers f first second (UnknownName name at k) none two h = (first, second, none, two, h)
split_found types ps writers f first second (NoIntro name at k) none two h = (first, second, none, two, h)
split_found types ps writers f first second (NoStructure name k) none two h = (first, second, none, two, h)
split_found types ps writers f first second NoMemory none two h = tt

pub split_noted : (types : TypeTable) (ps : List PlacedTree) (list noted : List Ty) (f : Name) (a b : Ty) (e : ExpandFault) → list ≡ noted →
    ((t : ℕ) → IsIntroducer types (numbers_of list) t → ⊥) × AreFirstTwo types (numbers_of list) a.0 b.0 → IsSplitOf types ps f a.0 b.0 e →
    IsSplitHere types ps (numbers_of noted) f e
split_noted types ps list noted f a b e same found h =
    split_found types ps (numbers_of noted) f a.0 b.0 e
    (λ has. found.0 has.0 (subst (λ l. IsIntroducer types (numbers_of l) has.0) (sym same) has.1))
    (subst (λ l. AreFirstTwo types (numbers_of l) a.0 b.0) same found.1) h
