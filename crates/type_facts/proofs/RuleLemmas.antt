-- The facts of types by their addenda.
use Rattle.std.proofs.Common.{ℕ, zero, suc, ◌≡◌, ◌<◌, ◌≤◌, ◌+◌, ◌⊎◌, inl, inr, Bool, true, false, cond, List, [], ◌∷◌, ◌++◌, length, map, filter, take, get_or, Option, Some, None, Vec, refl, sym, ◌∙◌, ap, subst, arith, zero-add}
use Rattle.std.specs.Global.{Global}
use Rattle.std.specs.List.{flat_map, range_with_len, All}
use Rattle.std.specs.Option.{option_map_or, unwrap_or}
use Rattle.std.specs.Str.{bytes_eq}
use Rattle.std.proofs.lemmas.List.{take_more, take_all, map-append, append-nil}
use Rattle.std.proofs.lemmas.List.Concat.{flat_map-append, flat_map_single}
use Rattle.fs_model.specs.Claims.{Has, here, there}
use Rattle.type_hierarchy.specs.Decls.{Name}
use Rattle.fs_unify.specs.Rules.{Rule}
use Rattle.fs_unify.specs.Systems.{rule_of as rule_kept, rules_of}
use Rattle.fs_closing.specs.declared.facts.TypeFacts.{TypeFacts}
use Rattle.body_facts.specs.Claimed.{WordTable}
use Rattle.grammar_files.specs.declared.placed.Placed.{Placed}
use Rattle.grammar_files.specs.Placings.{PlacedTree, placed_of}
use Rattle.grammar_files.specs.Statements.{no_statement, statement_at, adds_to, addenda_to, defines_type, type_definitions, name_of}
use Rattle.type_facts.specs.Facts.{said_by, rule_of, rules_in}
use Rattle.type_facts.specs.Addenda.{place_by, addenda_places}
use Rattle.fs_graph.specs.Facts.{claims_of}
use Rattle.body_facts.specs.Numbers.{type_number}
use Rattle.type_facts.proofs.ListLemmas.{bools, flat_map-if, flat_map-map, Has-either, Has-one, Has-at}
use Rattle.type_facts.proofs.Bytes.{bytes_eq-same, bytes_eq-swap}

range_more : (a n : ℕ) → range_with_len a (suc n) ≡ range_with_len a n ++ (a + n) ∷ []
range_more a zero = ap (λ x. x ∷ []) (let e : a ≡ a + 0 = omega arith in e)
range_more a (suc n) = ap (λ l. a ∷ l) (range_more (a + 1) n ∙ ap (λ x. range_with_len (a + 1) n ++ x ∷ []) (let e : a + 1 + n ≡ a + suc n = omega arith in e))

pub range_push : (n : ℕ) → range_with_len 0 (n + 1) ≡ range_with_len 0 n ++ n ∷ []
range_push n =
    ap (range_with_len 0) (let e : n + 1 ≡ suc n = omega arith in e) ∙ range_more 0 n ∙ ap (λ x. range_with_len 0 n ++ x ∷ []) (zero-add n)

-- one turn of a loop over places
pub places_next : {A : Type 0} (S : ℕ → List A) (now new : List A) (i : ℕ) → new ≡ now ++ S i → now ≡ flat_map S (range_with_len 0 i) →
    new ≡ flat_map S (range_with_len 0 (i + 1))
places_next S now new i grown had =
    grown ∙ ap (λ l. l ++ S i) had
    ∙ sym (ap (flat_map S) (range_push i) ∙ flat_map-append S (range_with_len 0 i) (i ∷ []) ∙ ap (λ l. flat_map S (range_with_len 0 i) ++ l) (append-nil (S i)))

-- what the statements at the places that pass say is what the statements that pass say
places_take : {A : Type 0} (g : PlacedTree → List A) (test : PlacedTree → Bool) (ps : List PlacedTree) (m : ℕ) → m ≤ length ps →
    flat_map (λ k. g (statement_at ps k)) (flat_map (λ k. cond (test (statement_at ps k)) (k ∷ []) []) (range_with_len 0 m)) ≡ flat_map g (filter test (take m ps))
places_take g test [] zero h = refl
places_take g test (p ∷ ps) zero h = refl
places_take {A} g test ps (suc m) h =
    let up : suc m ≡ m + 1 = omega arith in
    let within : m < length ps = omega arith in
    ap (λ r. flat_map (λ k. g (statement_at ps k)) (flat_map places r)) (ap (range_with_len 0) up ∙ range_push m)
    ∙ ap (flat_map (λ k. g (statement_at ps k))) (flat_map-append places (range_with_len 0 m) (m ∷ []) ∙ ap (λ l. flat_map places (range_with_len 0 m) ++ l) (append-nil (places m)))
    ∙ flat_map-append (λ k. g (statement_at ps k)) (flat_map places (range_with_len 0 m)) (places m)
    ∙ ap (λ l. l ++ flat_map (λ k. g (statement_at ps k)) (places m)) (places_take g test ps m (omega arith))
    ∙ ap (λ l. flat_map g (filter test (take m ps)) ++ l) (one (test (statement_at ps m)) refl)
    ∙ sym (flat_map-append g (filter test (take m ps)) (filter test (statement_at ps m ∷ [])))
    ∙ ap (flat_map g) (sym (filter_split (take m ps) (statement_at ps m ∷ [])))
    ∙ ap (λ l. flat_map g (filter test l)) (sym (ap (λ n. take n ps) up ∙ take_more ps m no_statement within))
  where
    places : ℕ → List ℕ
    places k = cond (test (statement_at ps k)) (k ∷ []) []

    one : (b : Bool) → test (statement_at ps m) ≡ b →
        flat_map (λ k. g (statement_at ps k)) (cond (test (statement_at ps m)) (m ∷ []) []) ≡ flat_map g (cond (test (statement_at ps m)) (statement_at ps m ∷ []) [])
    one true e = rw e refl
    one false e = rw e refl

    filter_split : (xs ys : List PlacedTree) → filter test (xs ++ ys) ≡ filter test xs ++ filter test ys
    filter_split [] ys = refl
    filter_split (x ∷ xs) ys = go (test x) (filter_split xs ys)
      where
        go : (b : Bool) → filter test (xs ++ ys) ≡ filter test xs ++ filter test ys →
            cond b (x ∷ filter test (xs ++ ys)) (filter test (xs ++ ys)) ≡ cond b (x ∷ filter test xs) (filter test xs) ++ filter test ys
        go true e = ap (λ l. x ∷ l) e
        go false e = e

pub addenda_are : {A : Type 0} (g : PlacedTree → List A) (n : Name) (ps : List PlacedTree) →
    flat_map (λ k. g (statement_at ps k)) (addenda_places n ps) ≡ flat_map g (addenda_to n ps)
addenda_are g n ps =
    places_take g (adds_to n) ps (length ps) (omega arith) ∙ ap (λ l. flat_map g (filter (adds_to n) l)) (take_all (length ps) ps (omega arith))

-- the places are those of statements
places_in : (n : Name) (ps : List PlacedTree) (ks : List ℕ) → ((k : ℕ) → Has k ks → k < length ps) → (k : ℕ) → Has k (flat_map (λ k. place_by n (statement_at ps k) k) ks) → k < length ps
places_in n ps [] below k h = elim h [ ]
places_in n ps (j ∷ ks) below k h =
    go (Has-either k (place_by n (statement_at ps j) j) (flat_map (λ k. place_by n (statement_at ps k) k) ks) h) (places_in n ps ks (λ m b. below m (there b)) k)
  where
    one : (b : Bool) → Has k (cond b (j ∷ []) []) → k < length ps
    one true a = subst (λ m. m < length ps) (sym (Has-one k j a)) (below j here)
    one false a = elim a [ ]

    go : Has k (place_by n (statement_at ps j) j) ⊎ Has k (flat_map (λ k. place_by n (statement_at ps k) k) ks) →
        (Has k (flat_map (λ k. place_by n (statement_at ps k) k) ks) → k < length ps) → k < length ps
    go (inl a) rest = one (adds_to n (statement_at ps j)) a
    go (inr a) rest = rest a

range_below : (a n k : ℕ) → Has k (range_with_len a n) → k < a + n
range_below a zero k h = elim h [ ]
range_below a (suc n) _ here = omega arith
range_below a (suc n) k (there h) = omega (arith, range_below (a + 1) n k h)

pub addenda_within : (n : Name) (ps : List PlacedTree) (k : ℕ) → Has k (addenda_places n ps) → k < length ps
addenda_within n ps k h =
    places_in n ps (range_with_len 0 (length ps)) (λ m b. omega (arith, range_below 0 (length ps) m b)) k h

-- the facts of all types
pub rules_are : (w : WordTable) (xs : List Placed) →
    flat_map (λ p. cond (defines_type (placed_of p)) (rule_of w (map placed_of xs) (placed_of p) ∷ []) []) xs ≡ rules_in w (map placed_of xs)
rules_are w xs =
    flat_map-map (λ p. cond (defines_type p) (rule_of w (map placed_of xs) p ∷ []) []) placed_of xs
    ∙ flat_map-if defines_type (λ p. rule_of w (map placed_of xs) p ∷ []) (map placed_of xs)
    ∙ flat_map_single (rule_of w (map placed_of xs)) (type_definitions (map placed_of xs))

-- one more rule
pub rule_push : (w : WordTable) (ps : List PlacedTree) (p : PlacedTree) (rules new : List TypeFacts) (r : TypeFacts) → new ≡ rules ++ r ∷ [] → defines_type p ≡ true →
    rule_kept r ≡ rule_of w ps p → rules_of new ≡ rules_of rules ++ cond (defines_type p) (rule_of w ps p ∷ []) []
rule_push w ps p rules new r is t e =
    ap rules_of is ∙ map-append rule_kept rules (r ∷ []) ∙ ap (λ y. rules_of rules ++ y ∷ []) e
    ∙ sym (ap (λ b. rules_of rules ++ cond b (rule_of w ps p ∷ []) []) t)

pub rule_passed : (w : WordTable) (ps : List PlacedTree) (p : PlacedTree) (rules : List TypeFacts) → defines_type p ≡ false →
    rules_of rules ≡ rules_of rules ++ cond (defines_type p) (rule_of w ps p ∷ []) []
rule_passed w ps p rules d = sym (ap (λ b. rules_of rules ++ cond b (rule_of w ps p ∷ []) []) d ∙ append-nil (rules_of rules))

-- what is noted once a name's old list was taken out, and put back with one more

abbrev pub list_noted : {T : Type 0} → Option (Vec T Global) → List T
list_noted o = option_map_or (λ v. v.items) o []

list_or_none : {T : Type 0} (o : Option (Vec T Global)) (e : Vec T Global) → e.items ≡ [] → (unwrap_or o e).items ≡ list_noted o
list_or_none None e h = h
list_or_none (Some v) e h = refl

pub noted_step : {T : Type 0} (m0 m1 m2 : Name → Option (Vec T Global)) (x k j n : Name) (e d p v : Vec T Global) (y : T) →
    k ≡ x → j ≡ x → d.items ≡ [] → p ≡ unwrap_or (m0 k) d → v.items ≡ p.items ++ y ∷ [] →
    m1 n ≡ cond (bytes_eq k n) (Some e) (m0 n) → m2 n ≡ cond (bytes_eq j n) (Some v) (m1 n) → list_noted (m2 n) ≡ list_noted (m0 n) ++ cond (bytes_eq n x) (y ∷ []) []
noted_step m0 m1 m2 x k j n e d p v y kx jx none was grown first last = go (bools (bytes_eq x n))
  where
    go : (bytes_eq x n ≡ true) ⊎ (bytes_eq x n ≡ false) → list_noted (m2 n) ≡ list_noted (m0 n) ++ cond (bytes_eq n x) (y ∷ []) []
    go (inl h) =
        ap list_noted (last ∙ ap (λ b. cond b (Some v) (m1 n)) (ap (λ z. bytes_eq z n) jx ∙ h)) ∙ grown
        ∙ ap (λ l. l ++ y ∷ []) (ap (λ q. q.items) was ∙ list_or_none (m0 k) d none ∙ ap (λ z. list_noted (m0 z)) (kx ∙ bytes_eq-same x n h))
        ∙ sym (ap (λ b. list_noted (m0 n) ++ cond b (y ∷ []) []) (bytes_eq-swap n x ∙ h))
    go (inr h) =
        ap list_noted (last ∙ ap (λ b. cond b (Some v) (m1 n)) (ap (λ z. bytes_eq z n) jx ∙ h) ∙ first ∙ ap (λ b. cond b (Some e) (m0 n)) (ap (λ z. bytes_eq z n) kx ∙ h))
        ∙ sym (ap (λ b. list_noted (m0 n) ++ cond b (y ∷ []) []) (bytes_eq-swap n x ∙ h) ∙ append-nil (list_noted (m0 n)))

-- a rule that is kept is that of a definition
pub rule_same : (r : TypeFacts) (w : WordTable) (ps : List PlacedTree) (p : PlacedTree) → r.ty.0 ≡ type_number w.types (name_of p) →
    claims_of r.facts.items ≡ said_by w p ++ flat_map (λ k. said_by w (statement_at ps k)) (addenda_places (name_of p) ps) → rule_kept r ≡ rule_of w ps p
rule_same r w ps p ty claims =
    ap (λ t. let x : Rule = record { ty = t; claims = claims_of r.facts.items } in x) ty
    ∙ ap (λ l. let x : Rule = record { ty = type_number w.types (name_of p); claims = l } in x)
    (claims ∙ ap (λ l. said_by w p ++ l) (addenda_are (said_by w) (name_of p) ps))

-- the places are those of statements, as a fact of all of them
pub all_within : (n : Name) (ps : List PlacedTree) (ks : List ℕ) (m : ℕ) → ks ≡ addenda_places n ps → m ≡ length ps → All (λ k. k < m) ks
all_within n ps ks m e size k d lt =
    subst (λ x. get_or ks k d < x) (sym size) (addenda_within n ps (get_or ks k d) (subst (Has (get_or ks k d)) e (Has-at ks k d lt)))
