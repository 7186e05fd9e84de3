-- The type system of a grammar's statements, and what it keeps.
use Rattle.std.proofs.Common.{ℕ, zero, suc, ◌≡◌, ◌<◌, ◌≤◌, ◌⊎◌, inl, inr, ◌||◌, ◌==◌, Bool, true, false, cond, List, [], ◌∷◌, ◌++◌, length, filter, slice_index_or, Option, Some, None, unwrap_or, refl, sym, ◌∙◌, ap, subst, arith}
use Rattle.std.specs.List.{AllZip, flat_map, position}
use Rattle.std.specs.List.Sorted.{IsPermutation, IsSorted}
use Rattle.std.specs.Cmp.Lexicographic.{slice_cmp}
use Rattle.std.specs.Ordering.{nat_cmp}
use Rattle.std.specs.Str.{bytes_eq}
use Rattle.std.proofs.lemmas.Bool.{and_parts, eqb-true}
use Rattle.std.proofs.lemmas.List.{get_or-map, length-map, length-drop}
use Rattle.std.proofs.lemmas.List.Elements.{All-nil}
use Rattle.std.proofs.lemmas.List.Quantifiers.{position-Some}
use Rattle.std.proofs.lemmas.List.Sorted.{IsPermutation-sym}
use Rattle.fs_model.specs.Claims.{Claim, exists_at, Has, here, there, IsBare}
use Rattle.type_hierarchy.specs.Decls.{Name, number_of}
use Rattle.type_hierarchy.specs.Laws.{HasTypeLaws}
use Rattle.type_hierarchy.specs.Named.{type_named}
use Rattle.type_hierarchy.specs.Table.{TypeTable, count_of, completed_count, is_below}
use Rattle.fs_unify.specs.Rules.{Rule, no_rule, Grammar, facts_in, system_of, IsClaimIn, IsGrammar}
use Rattle.type_hierarchy.specs.declared.types.Ty.{Ty}
use Rattle.fs_closing.specs.declared.facts.TypeFacts.{TypeFacts}
use Rattle.fs_unify.specs.Systems.{rules_of, grammar_of}
use Rattle.body_facts.specs.Claimed.{WordTable}
use Rattle.body_facts.specs.Numbers.{type_number, strings_of, text_number}
use Rattle.body_facts.specs.BracketUses.{Used}
use Rattle.body_facts.specs.Writing.{ListNames}
use Rattle.grammar_files.specs.Placings.{PlacedTree}
use Rattle.constraint_expand.specs.Statements.{no_statement, statement_at, name_of, body_of, defines_type, adds_to_type, adds_to, addenda_to, type_definitions, speaks_of_type, defines_instance}
use Rattle.grammar_files.specs.BodyStrings.{strings_of_body}
use Rattle.constraint_expand.specs.Conditions.{AreTypesFor}
use Rattle.constraint_expand.specs.Features.{uses_in, all_uses, features_used, writers_of, AreFeatures}
use Rattle.constraint_expand.specs.Introducers.{IsIntroducer, numbers_of}
use Rattle.constraint_expand.specs.Systems.{Settled, words_of, said_by, rule_of, rules_in, instance_claims, IsSystemOf}
use Rattle.constraint_expand.specs.Found.{with_each, IsIntroduced}
use Rattle.constraint_expand.specs.Shaped.{HaveClaimsIn, AreFactsDefined}
use Rattle.type_facts.proofs.ListLemmas.{Has-left, Has-right, Has-either, Has-map, Has-at, Has-place}
use Rattle.constraint_expand.proofs.NameLemmas.{times, with_each-all, with_each-only, times_with_each, moved_distinct, moved_has}
use Rattle.constraint_expand.proofs.RangeLemmas.{Each, said_in, each_cons}
use Rattle.constraint_expand.proofs.SplitLemmas.{Has-of_flat, Has-of_filter, number_in, writers_within, zip_length}

Has-flat : {X Y : Type 0} (f : X → List Y) (x : X) (y : Y) (xs : List X) → Has x xs → Has y (f x) → Has y (flat_map f xs)
Has-flat f x y [] h i = elim h [ ]
Has-flat f x y (_ ∷ xs) here h = Has-left y (f x) (flat_map f xs) h
Has-flat f x y (z ∷ xs) (there i) h = Has-right y (f z) (flat_map f xs) (Has-flat f x y xs i h)

Has-filter : {X : Type 0} (p : X → Bool) (x : X) (xs : List X) → Has x xs → p x ≡ true → Has x (filter p xs)
Has-filter p x [] h e = elim h [ ]
Has-filter p x (_ ∷ xs) here e = rw e here
Has-filter p x (y ∷ ys) (there h) e = go (p y) (Has-filter p x ys h e)
  where
    go : (b : Bool) → Has x (filter p ys) → Has x (cond b (y ∷ filter p ys) (filter p ys))
    go true k = there k
    go false k = k

-- the features in their order
pub features_are : (n : ListNames) (ps : List PlacedTree) (keys feats : List Name) → keys ≡ with_each [] (features_used n ps) → IsPermutation keys feats →
    IsSorted (slice_cmp nat_cmp) feats → AreFeatures n ps feats
features_are n ps keys feats keys_are moved sorted =
    record {
      in_order = sorted;
      once = moved_distinct keys feats moved (λ x. subst (λ l. times x l ≤ 1) (sym keys_are) (times_with_each x [] (features_used n ps) (let z : 0 ≤ 1 = omega arith in z)));
      used = λ f h. only f (with_each-only [] (features_used n ps) f (subst (Has f) keys_are (moved_has feats keys (IsPermutation-sym keys feats moved) f h)));
      all = λ f h. moved_has keys feats moved f (subst (Has f) (sym keys_are) (with_each-all [] (features_used n ps) f (inr h)));
    }
  where
    only : (f : Name) → Has f [] ⊎ Has f (features_used n ps) → Has f (features_used n ps)
    only f (inl h) = elim h [ ]
    only f (inr h) = h

place_in : (names : List Name) (x y : Name) → Has y names → number_of names x < length names
place_in names x y h = go (position (bytes_eq x) names) refl
  where
    some : (xs : List Name) → Has y xs → 0 < length xs
    some [] k = elim k [ ]
    some (z ∷ zs) k = omega arith

    go : (o : Option ℕ) → position (bytes_eq x) names ≡ o → unwrap_or o 0 < length names
    go None e = some names h
    go (Some k) e = (position-Some (bytes_eq x) names k [] e).0

-- the parts that every statement that is heeded gives
heeded_uses : (n : ListNames) (ps : List PlacedTree) (p : PlacedTree) (u : Used) → Has p ps → (speaks_of_type p ≡ true) ⊎ (defines_instance p ≡ true) → Has u (uses_in n p) →
    Has u.feature (features_used n ps)
heeded_uses n ps p u has (inl e) h =
    Has-map (λ u. u.feature) u (all_uses n ps) (Has-left u (flat_map (uses_in n) (filter speaks_of_type ps)) (flat_map (uses_in n) (filter defines_instance ps))
    (Has-flat (uses_in n) p u (filter speaks_of_type ps) (Has-filter speaks_of_type p ps has e) h))
heeded_uses n ps p u has (inr e) h =
    Has-map (λ u. u.feature) u (all_uses n ps) (Has-right u (flat_map (uses_in n) (filter speaks_of_type ps)) (flat_map (uses_in n) (filter defines_instance ps))
    (Has-flat (uses_in n) p u (filter defines_instance ps) (Has-filter defines_instance p ps has e) h))

or_either : (a b : Bool) → (a ≡ true) ⊎ (b ≡ true) → (a || b) ≡ true
or_either true b h = refl
or_either false b (inl e) = absurd (let z : false ≡ true = e in cc)
or_either false b (inr e) = e

-- what a heeded statement says speaks of types and features that are there
pub said_known : (types : TypeTable) (s : Settled) (ps : List PlacedTree) (feats : List Name) → AreTypesFor types ps → completed_count types ≤ count_of types → AreFeatures s.lists ps feats →
    (p : PlacedTree) → Has p ps → (speaks_of_type p ≡ true) ⊎ (defines_instance p ≡ true) → Each (IsClaimIn (count_of types) (length feats)) (said_by (words_of types s.lists feats) p)
said_known types s ps feats types_for le features p has heeded =
    said_in types (count_of types) feats s.lists (body_of p)
    (λ m h. number_in types m.name types_for.top_is_there le)
    (λ u h. place_in feats u.feature u.feature (features.all u.feature (heeded_uses s.lists ps p u has heeded h)))
    (λ t h. text_in t (strings t h))
  where
    strings : (t : Name) → Has t (strings_of_body (body_of p)) → Has t (strings_of types)
    strings t h =
        let r = Has-place p no_statement ps has in
        types_for.strings r.0 t r.1 (subst (λ q. (speaks_of_type q || defines_instance q) ≡ true) (sym r.2) (or_either (speaks_of_type p) (defines_instance p) heeded))
        (subst (λ q. Has t (strings_of_body (body_of q))) (sym r.2) h)

    text_in : (t : Name) → Has t (strings_of types) → text_number types t < count_of types
    text_in t h = omega (arith, place_in (strings_of types) t t h, length-drop (completed_count types) types.names, le)

zip_each : {A : Type 0} (R : A → ℕ → Type 0) (P : ℕ → Type 0) → ((x : A) (y : ℕ) → R x y → P y) → (xs : List A) (ys : List ℕ) → AllZip R xs ys → (i : ℕ) → i < length ys → P (slice_index_or ys i 0)
zip_each R P to [] [] h i lt = absurd (omega arith)
zip_each R P to [] (y ∷ ys) h i lt = absurd h
zip_each R P to (x ∷ xs) [] h i lt = absurd h
zip_each R P to (x ∷ xs) (y ∷ ys) h zero lt = to x y h.0
zip_each R P to (x ∷ xs) (y ∷ ys) h (suc i) lt = zip_each R P to xs ys h.1 i (omega arith)

speaks_defines : (p : PlacedTree) → defines_type p ≡ true → speaks_of_type p ≡ true
speaks_defines p e = ap (λ b. b || adds_to_type p) e

speaks_adds : (p : PlacedTree) → adds_to_type p ≡ true → speaks_of_type p ≡ true
speaks_adds p e = go (defines_type p)
  where
    go : (b : Bool) → (b || adds_to_type p) ≡ true
    go true = refl
    go false = e

-- the rule at a place is that of a definition
rule_at : (w : WordTable) (ps : List PlacedTree) (j : ℕ) → j < length (rules_in w ps) →
    (p : PlacedTree) × Has p ps × (defines_type p ≡ true) × (slice_index_or (rules_in w ps) j no_rule ≡ rule_of w ps p)
rule_at w ps j h =
    let lt : j < length (type_definitions ps) = omega (arith, length-map (type_definitions ps) (rule_of w ps)) in
    let r = Has-of_filter defines_type (slice_index_or (type_definitions ps) j no_statement) ps (Has-at (type_definitions ps) j no_statement lt) in
    (slice_index_or (type_definitions ps) j no_statement, r.0, r.1, get_or-map (rule_of w ps) (type_definitions ps) j no_statement no_rule lt)

-- the type system that is made of these parts
pub system_is : (types : TypeTable) (s : Settled) (ps : List PlacedTree) (feats : List Name) (introducers : List Ty) (rules : List TypeFacts) (g : Grammar) →
    g ≡ grammar_of types introducers rules s.path_limit → IsIntroduced types s ps feats (numbers_of introducers) → rules_of rules ≡ rules_in (words_of types s.lists feats) ps →
    IsSystemOf types s ps feats g
system_is types s ps feats introducers rules g is introduced rules_are =
    record {
      features = introduced.features;
      types_are = ap (λ (y : Grammar). y.types) is;
      introducers = subst (λ l. AllZip (λ f t. IsIntroducer types (writers_of types s.lists ps f) t) feats l) (sym (ap (λ (y : Grammar). y.introducers) is)) introduced.introducers;
      rules = ap (λ (y : Grammar). y.rules) is ∙ rules_are;
      limit = ap (λ (y : Grammar). y.path_limit) is;
    }

-- all of it is in range
pub grammar_in_range : (types : TypeTable) (s : Settled) (ps : List PlacedTree) (feats : List Name) (g : Grammar) → AreTypesFor types ps → completed_count types ≤ count_of types →
    IsSystemOf types s ps feats g → IsGrammar g
grammar_in_range types s ps feats g types_for le sys =
    record {
      some = subst (λ y. 0 < count_of y) (sym sys.types_are) (let z : 0 < count_of types = omega (arith, types_for.top_is_there, le) in z);
      introducers = λ f h. subst (λ y. slice_index_or g.introducers f 0 < count_of y) (sym sys.types_are)
          (zip_each (λ f t. IsIntroducer types (writers_of types s.lists ps f) t) (λ t. t < count_of types)
          (λ f t i. writers_within types s.lists ps f types_for.top_is_there le t i.writes) feats g.introducers sys.introducers f h);
      rule_types = λ j h. type_in j (subst (λ l. j < length l) sys.rules h);
      claims = λ j c h has. claim_in j c (subst (λ l. j < length l) sys.rules h) (subst (λ l. Has c (slice_index_or l j no_rule).claims) sys.rules has);
    }
  where
    w : WordTable
    w = words_of types s.lists feats

    type_in : (j : ℕ) → j < length (rules_in w ps) → (slice_index_or g.rules j no_rule).ty < count_of g.types
    type_in j h =
        let r = rule_at w ps j h in
        subst (λ y. (slice_index_or g.rules j no_rule).ty < count_of y) (sym sys.types_are)
        (subst (λ l. (slice_index_or l j no_rule).ty < count_of types) (sym sys.rules)
        (subst (λ q. q.ty < count_of types) (sym r.3) (number_in types (name_of r.0) types_for.top_is_there le)))

    size : length g.introducers ≡ length feats
    size = zip_length (λ f t. IsIntroducer types (writers_of types s.lists ps f) t) feats g.introducers sys.introducers

    of_rule : (p : PlacedTree) (c : Claim) → Has p ps → defines_type p ≡ true → Has c (rule_of w ps p).claims → IsClaimIn (count_of types) (length feats) c
    of_rule p c has d h = go (Has-either c (said_by w p) (flat_map (said_by w) (addenda_to (name_of p) ps)) h)
      where
        go : Has c (said_by w p) ⊎ Has c (flat_map (said_by w) (addenda_to (name_of p) ps)) → IsClaimIn (count_of types) (length feats) c
        go (inl a) = said_known types s ps feats types_for le sys.features p has (inl (speaks_defines p d)) c a
        go (inr a) =
            let q = Has-of_flat (said_by w) c (addenda_to (name_of p) ps) a in
            let r = Has-of_filter (adds_to (name_of p)) q.0 ps q.1 in
            said_known types s ps feats types_for le sys.features q.0 r.0 (inl (speaks_adds q.0 (and_parts (adds_to_type q.0) (bytes_eq (name_of p) (name_of q.0)) r.1).0)) c q.2

    claim_in : (j : ℕ) (c : Claim) → j < length (rules_in w ps) → Has c (slice_index_or (rules_in w ps) j no_rule).claims → IsClaimIn (count_of g.types) (length g.introducers) c
    claim_in j c h has =
        let r = rule_at w ps j h in
        subst (λ y. IsClaimIn (count_of y) (length g.introducers) c) (sym sys.types_are)
        (subst (λ m. IsClaimIn (count_of types) m c) (sym size) (of_rule r.0 c r.1 r.2 (subst (λ q. Has c q.claims) r.3 has)))

-- nothing is said of number 0
bare_rules : (rules : List Rule) (c : Claim) → ((j : ℕ) → j < length rules → 0 < (slice_index_or rules j no_rule).ty) → Has c (facts_in rules 0) → ⊥
bare_rules [] c above h = elim h [ ]
bare_rules (r ∷ rules) c above h = go (r.ty == 0) refl h (bare_rules rules c (λ j lt. above (suc j) (omega (arith, lt))))
  where
    go : (b : Bool) → (r.ty == 0) ≡ b → Has c (elim b [ true ↦ r.claims ++ facts_in rules 0 | false ↦ facts_in rules 0 ]) → (Has c (facts_in rules 0) → ⊥) → ⊥
    go true e k rest = let z : r.ty ≡ 0 = eqb-true r.ty 0 e in omega (arith, above 0 (omega arith), z)
    go false e k rest = rest k

pub grammar_bare : (types : TypeTable) (s : Settled) (ps : List PlacedTree) (feats : List Name) (g : Grammar) → AreTypesFor types ps → HasTypeLaws types →
    IsSystemOf types s ps feats g → IsBare (system_of g)
grammar_bare types s ps feats g types_for laws sys t c below h =
    let low : is_below types 0 t ≡ true = subst (λ y. is_below y 0 t ≡ true) sys.types_are below in
    let top : t ≡ 0 = laws.antisymmetric t 0 (laws.below_top t) low in
    bare_rules (rules_in w ps) c above (subst (λ l. Has c (facts_in l 0)) sys.rules (subst (λ u. Has c (facts_in g.rules u)) top h))
  where
    w : WordTable
    w = words_of types s.lists feats

    positive : (p : PlacedTree) → Has p ps → defines_type p ≡ true → 0 < type_number types (name_of p)
    positive p has d =
        let r = Has-place p no_statement ps has in
        let n = types_for.named r.0 r.1 (subst (λ q. defines_type q ≡ true) (sym r.2) d) in
        let at : type_named types (name_of p) ≡ Some n.0 = subst (λ q. type_named types (name_of q) ≡ Some n.0) r.2 n.1 in
        subst (λ m. 0 < m) (sym (ap (λ o. unwrap_or o 0) at)) n.2

    above : (j : ℕ) → j < length (rules_in w ps) → 0 < (slice_index_or (rules_in w ps) j no_rule).ty
    above j lt =
        let r = rule_at w ps j lt in
        subst (λ q. 0 < q.ty) (sym r.3) (positive r.0 r.1 r.2)

-- what an instance says is in range
pub instance_in_range : (types : TypeTable) (s : Settled) (ps : List PlacedTree) (feats : List Name) (g : Grammar) → AreTypesFor types ps → completed_count types ≤ count_of types →
    IsSystemOf types s ps feats g → (k : ℕ) → k < length ps → defines_instance (statement_at ps k) ≡ true →
    HaveClaimsIn g (instance_claims (words_of types s.lists feats) (statement_at ps k))
instance_in_range types s ps feats g types_for le sys k lt d c h =
    subst (λ y. IsClaimIn (count_of y) (length g.introducers) c) (sym sys.types_are)
    (subst (λ m. IsClaimIn (count_of types) m c) (sym (zip_length (λ f t. IsIntroducer types (writers_of types s.lists ps f) t) feats g.introducers sys.introducers))
    (each_cons (IsClaimIn (count_of types) (length feats)) (exists_at []) (said_by (words_of types s.lists feats) (statement_at ps k)) (All-nil (λ f. f < length feats))
    (said_known types s ps feats types_for le sys.features (statement_at ps k) (Has-at ps k no_statement lt) (inr d)) c h))

-- facts of a type come from a rule of that type
facts_from : (rules : List Rule) (u : ℕ) (c : Claim) → Has c (facts_in rules u) → (j : ℕ) × (j < length rules) × ((slice_index_or rules j no_rule).ty ≡ u)
facts_from [] u c h = elim h [ ]
facts_from (r ∷ rules) u c h = go (r.ty == u) refl h (facts_from rules u c)
  where
    later : (j : ℕ) × (j < length rules) × ((slice_index_or rules j no_rule).ty ≡ u) → (j : ℕ) × (j < length (r ∷ rules)) × ((slice_index_or (r ∷ rules) j no_rule).ty ≡ u)
    later (j, lt, e) = (suc j, omega (arith, lt), e)

    go : (b : Bool) → (r.ty == u) ≡ b → Has c (elim b [ true ↦ r.claims ++ facts_in rules u | false ↦ facts_in rules u ]) →
        (Has c (facts_in rules u) → (j : ℕ) × (j < length rules) × ((slice_index_or rules j no_rule).ty ≡ u)) →
        (j : ℕ) × (j < length (r ∷ rules)) × ((slice_index_or (r ∷ rules) j no_rule).ty ≡ u)
    go true e k rest = (0, omega arith, eqb-true r.ty u e)
    go false e k rest = later (rest k)

pub facts_defined : (types : TypeTable) (s : Settled) (ps : List PlacedTree) (feats : List Name) (g : Grammar) → AreTypesFor types ps → IsSystemOf types s ps feats g →
    AreFactsDefined g ps
facts_defined types s ps feats g types_for sys u c h =
    let j = facts_from (rules_in w ps) u c (subst (λ l. Has c (facts_in l u)) sys.rules h) in
    let r = rule_at w ps j.0 j.1 in
    let k = Has-place r.0 no_statement ps r.1 in
    let d : defines_type (statement_at ps k.0) ≡ true = subst (λ q. defines_type q ≡ true) (sym k.2) r.2 in
    let named = types_for.named k.0 k.1 d in
    let number : type_number types (name_of (statement_at ps k.0)) ≡ u =
    ap (λ q. type_number types (name_of q)) k.2 ∙ sym (ap (λ q. q.ty) r.3) ∙ j.2 in
    let at : named.0 ≡ u = sym (ap (λ o. unwrap_or o 0) named.1) ∙ number in
    (k.0, k.1, d, ap (λ y. type_named y (name_of (statement_at ps k.0))) sys.types_are ∙ named.1 ∙ ap Some at)
  where
    w : WordTable
    w = words_of types s.lists feats
