-- Declarations, and the definitions that they stand for.
use Rattle.std.proofs.Common.{ℕ, zero, suc, ◌≡◌, ◌<◌, ◌+◌, ◌-◌, ◌≤◌, ◌&&◌, ◌⊎◌, inl, inr, Bool, true, false, cond, List, [], ◌∷◌, ◌++◌, length, map, filter, take, drop, get_or, slice_get, Option, Some, None, String, Vec, refl, sym, ◌∙◌, ap, subst, arith}
use Rattle.std.specs.Global.{Global}
use Rattle.std.specs.List.{flat_map, find}
use Rattle.std.specs.Str.{bytes_eq}
use Rattle.std.specs.Option.{option_map_or, unwrap_or}
use Rattle.std.proofs.lemmas.List.{at_drop_more, at_drop_all, append-nil, map-append}
use Rattle.std.proofs.lemmas.List.Concat.{flat_map_single}
use Rattle.grammar_files.specs.declared.placed.Placed.{Placed}
use Rattle.grammar_files.specs.Placings.{PlacedTree, placed_of}
use Rattle.grammar_files.specs.Statements.{defines_type}
use Rattle.type_hierarchy.specs.declared.decl.Decl.{Decl}
use Rattle.type_hierarchy.specs.Decls.{Declared, declared, decls_of, texts}
use Rattle.grammar_settings.specs.Forms.{Name}
use Rattle.grammar_types.specs.SettleViews.{declared_with, decl_by, defines_type_named, parents_by}
use Rattle.grammar_types.specs.Typings.{name_written, body_written, top_names, type_definitions, adds_to, parents_added, declared_in, decls_in}
use Rattle.grammar_types.proofs.SettleLists.{bools, bytes_eq-same, bytes_eq-swap, flat_map-map, flat_map-if}

map-same : {X Y : Type 0} (f g : X → Y) → ((x : X) → f x ≡ g x) → (xs : List X) → map f xs ≡ map g xs
map-same f g h [] = refl
map-same f g h (x ∷ xs) = ap (λ y. y ∷ map f xs) (h x) ∙ ap (λ l. g x ∷ l) (map-same f g h xs)

pub decls_are : (added : Name → List Name) (xs : List Placed) → ((n : Name) → added n ≡ parents_added n (map placed_of xs)) →
    flat_map (λ p. decl_by added (placed_of p)) xs ≡ decls_in (map placed_of xs)
decls_are added xs h =
    flat_map-map (decl_by added) placed_of xs ∙ flat_map-if defines_type (λ p. declared_with added p ∷ []) (map placed_of xs)
    ∙ flat_map_single (declared_with added) (type_definitions (map placed_of xs))
    ∙ map-same (declared_with added) (declared_in (map placed_of xs))
    (λ p. ap (λ l. let d : Declared = record { name = name_written p.statement; parents = top_names (body_written p.statement) ++ l } in d) (h (name_written p.statement)))
    (type_definitions (map placed_of xs))

pub added_are : (n : Name) (xs : List Placed) → flat_map (λ p. parents_by (placed_of p) n) xs ≡ parents_added n (map placed_of xs)
added_are n xs = flat_map-map (λ p. parents_by p n) placed_of xs ∙ flat_map-if (adds_to n) (λ p. top_names (body_written p.statement)) (map placed_of xs)

-- a search among those that pass a test
find-filter : {X : Type 0} (p q : X → Bool) → (xs : List X) → find (λ x. p x && q x) xs ≡ find q (filter p xs)
find-filter p q [] = refl
find-filter p q (x ∷ xs) = go (p x) (find-filter p q xs)
  where
    go : (b : Bool) → find (λ y. p y && q y) xs ≡ find q (filter p xs) →
        cond (b && q x) (Some x) (find (λ y. p y && q y) xs) ≡ find q (cond b (x ∷ filter p xs) (filter p xs))
    go true e = ap (λ o. cond (q x) (Some x) o) e
    go false e = e

pub find_named : (n : Name) (ps : List PlacedTree) → find (defines_type_named n) ps ≡ find (λ d. bytes_eq n (name_written d.statement)) (type_definitions ps)
find_named n ps = find-filter defines_type (λ d. bytes_eq n (name_written d.statement)) ps

abbrev pub found_from : Name → List Placed → Option PlacedTree
found_from n xs = find (defines_type_named n) (map placed_of xs)

pub found_here : (n : Name) (xs : List Placed) (i : ℕ) (x : Placed) → i < length xs → x ≡ get_or xs i x → defines_type_named n (placed_of x) ≡ true →
    find (defines_type_named n) (map placed_of (drop i xs)) ≡ find (defines_type_named n) (map placed_of xs) → Some (placed_of x) ≡ find (defines_type_named n) (map placed_of xs)
found_here n xs i x h e t inv =
    sym (at_drop_more (found_from n) xs i x h ∙ ap (λ y. found_from n (y ∷ drop (i + 1) xs)) (sym e) ∙ ap (λ b. cond b (Some (placed_of x)) (found_from n (drop (i + 1) xs))) t) ∙ inv

pub found_later : (n : Name) (xs : List Placed) (i : ℕ) (x : Placed) → i < length xs → x ≡ get_or xs i x → defines_type_named n (placed_of x) ≡ false →
    find (defines_type_named n) (map placed_of (drop i xs)) ≡ find (defines_type_named n) (map placed_of xs) →
    find (defines_type_named n) (map placed_of (drop (i + 1) xs)) ≡ find (defines_type_named n) (map placed_of xs)
found_later n xs i x h e t inv =
    sym (at_drop_more (found_from n) xs i x h ∙ ap (λ y. found_from n (y ∷ drop (i + 1) xs)) (sym e) ∙ ap (λ b. cond b (Some (placed_of x)) (found_from n (drop (i + 1) xs))) t) ∙ inv

pub found_nowhere : (n : Name) (xs : List Placed) (i : ℕ) → length xs ≤ i →
    find (defines_type_named n) (map placed_of (drop i xs)) ≡ find (defines_type_named n) (map placed_of xs) → None ≡ find (defines_type_named n) (map placed_of xs)
found_nowhere n xs i h inv = sym (at_drop_all (found_from n) xs i h) ∙ inv

abbrev pub nth_from : ℕ → List Placed → Option PlacedTree
nth_from k xs = slice_get (type_definitions (map placed_of xs)) k

nth_step : (k : ℕ) (xs : List Placed) (i : ℕ) (x : Placed) (b : Bool) → i < length xs → x ≡ get_or xs i x → defines_type (placed_of x) ≡ b →
    nth_from k (drop i xs) ≡ slice_get (cond b (placed_of x ∷ type_definitions (map placed_of (drop (i + 1) xs))) (type_definitions (map placed_of (drop (i + 1) xs)))) k
nth_step k xs i x b h e t =
    at_drop_more (nth_from k) xs i x h ∙ ap (λ y. nth_from k (y ∷ drop (i + 1) xs)) (sym e)
    ∙ ap (λ c. slice_get (cond c (placed_of x ∷ type_definitions (map placed_of (drop (i + 1) xs))) (type_definitions (map placed_of (drop (i + 1) xs)))) k) t

pub nth_skip : (k n : ℕ) (xs : List Placed) (i : ℕ) (x : Placed) → i < length xs → x ≡ get_or xs i x → defines_type (placed_of x) ≡ false →
    nth_from k (drop i xs) ≡ nth_from n xs → nth_from k (drop (i + 1) xs) ≡ nth_from n xs
nth_skip k n xs i x h e t inv = sym (nth_step k xs i x false h e t) ∙ inv

pub nth_here : (k n : ℕ) (xs : List Placed) (i : ℕ) (x : Placed) → i < length xs → x ≡ get_or xs i x → defines_type (placed_of x) ≡ true → k ≡ 0 →
    nth_from k (drop i xs) ≡ nth_from n xs → Some (placed_of x) ≡ nth_from n xs
nth_here k n xs i x h e t z inv =
    sym (nth_step k xs i x true h e t ∙ ap (λ j. slice_get (placed_of x ∷ type_definitions (map placed_of (drop (i + 1) xs))) j) z) ∙ inv

pub nth_next : (k n : ℕ) (xs : List Placed) (i : ℕ) (x : Placed) → i < length xs → x ≡ get_or xs i x → defines_type (placed_of x) ≡ true → (k ≡ 0 → ⊥) →
    nth_from k (drop i xs) ≡ nth_from n xs → nth_from (k - 1) (drop (i + 1) xs) ≡ nth_from n xs
nth_next k n xs i x h e t z inv =
    let up : k ≡ suc (k - 1) = omega (arith, z) in
    sym (nth_step k xs i x true h e t ∙ ap (λ j. slice_get (placed_of x ∷ type_definitions (map placed_of (drop (i + 1) xs))) j) up) ∙ inv

pub nth_nowhere : (k n : ℕ) (xs : List Placed) (i : ℕ) → length xs ≤ i → nth_from k (drop i xs) ≡ nth_from n xs → None ≡ nth_from n xs
nth_nowhere k n xs i h inv = sym (at_drop_all (nth_from k) xs i h) ∙ inv

abbrev pub noted_names : Option (Vec (String Global) Global) → List Name
noted_names o = option_map_or (λ v. texts v.items) o []

names_or_none : (o : Option (Vec (String Global) Global)) (e : Vec (String Global) Global) → e.items ≡ [] → texts (unwrap_or o e).items ≡ noted_names o
names_or_none None e h = ap texts h
names_or_none (Some v) e h = refl

-- What is noted once a name's old names were taken out, and put back with more. A map is what it gives for a name.
pub noted_step : (m0 m1 m2 : Name → Option (Vec (String Global) Global)) (x k j n : Name) (e d p v : Vec (String Global) Global) (top : List Name) →
    k ≡ x → j ≡ x → d.items ≡ [] → p ≡ unwrap_or (m0 k) d → texts v.items ≡ texts p.items ++ top →
    m1 n ≡ cond (bytes_eq k n) (Some e) (m0 n) → m2 n ≡ cond (bytes_eq j n) (Some v) (m1 n) → noted_names (m2 n) ≡ noted_names (m0 n) ++ cond (bytes_eq n x) top []
noted_step m0 m1 m2 x k j n e d p v top kx jx none was grown first last = go (bools (bytes_eq x n))
  where
    go : (bytes_eq x n ≡ true) ⊎ (bytes_eq x n ≡ false) → noted_names (m2 n) ≡ noted_names (m0 n) ++ cond (bytes_eq n x) top []
    go (inl h) =
        ap noted_names (last ∙ ap (λ b. cond b (Some v) (m1 n)) (ap (λ z. bytes_eq z n) jx ∙ h)) ∙ grown
        ∙ ap (λ l. l ++ top) (ap (λ q. texts q.items) was ∙ names_or_none (m0 k) d none ∙ ap (λ z. noted_names (m0 z)) (kx ∙ bytes_eq-same x n h))
        ∙ sym (ap (λ b. noted_names (m0 n) ++ cond b top []) (bytes_eq-swap n x ∙ h))
    go (inr h) =
        ap noted_names (last ∙ ap (λ b. cond b (Some v) (m1 n)) (ap (λ z. bytes_eq z n) jx ∙ h) ∙ first ∙ ap (λ b. cond b (Some e) (m0 n)) (ap (λ z. bytes_eq z n) kx ∙ h))
        ∙ sym (ap (λ b. noted_names (m0 n) ++ cond b top []) (bytes_eq-swap n x ∙ h) ∙ append-nil (noted_names (m0 n)))

-- one more declaration
pub decl_push : (added : Name → List Name) (p : PlacedTree) (decls new : List Decl) (d : Decl) → new ≡ decls ++ d ∷ [] → defines_type p ≡ true →
    declared d ≡ declared_with added p → decls_of new ≡ decls_of decls ++ decl_by added p
decl_push added p decls new d is t e =
    ap decls_of is ∙ map-append declared decls (d ∷ []) ∙ ap (λ y. decls_of decls ++ y ∷ []) e
    ∙ sym (ap (λ b. decls_of decls ++ cond b (declared_with added p ∷ []) []) t)
