-- The statements of a grammar have a book or one first fault of expansion.
use Rattle.std.proofs.Common.{ℕ, ◌≡◌, ◌≢◌, ◌<◌, ◌≤◌, ◌⊎◌, inl, inr, Bool, true, List, [], length, filter, slice_index_or, Some, refl, sym, ◌∙◌, ap, subst, arith, string_bytes}
use Rattle.std.specs.List.{flat_map}
use Rattle.std.proofs.lemmas.Bool.{cases_lt}
use Rattle.type_hierarchy.specs.Decls.{Name, texts}
use Rattle.type_hierarchy.specs.Laws.{HasTypeLaws}
use Rattle.type_hierarchy.specs.Named.{type_named}
use Rattle.type_hierarchy.specs.Table.{TypeTable}
use Rattle.fs_model.specs.Claims.{Has}
use Rattle.fs_unify.specs.Rules.{Grammar}
use Rattle.body_facts.specs.Writing.{ListNames}
use Rattle.body_facts.specs.BracketUses.{Used}
use Rattle.body_facts.specs.Mentions.{Mention, mention}
use Rattle.constraint_expand.specs.declared.books.Book.{Book}
use Rattle.grammar_files.specs.declared.expand_fault.ExpandFault.{ExpandFault}
use Rattle.grammar_files.specs.declared.expand_fault.ExpandFault.TheVariants.{UnknownName, NoIntro, Intro, NoStructure, NoMemory}
use Rattle.constraint_expand.specs.Books.{IsBookOf}
use Rattle.constraint_expand.specs.Faults.{IsUnknownName, IsUnwritten, UsesUnwritten, use_at, IsFirstUse, NamesFirstUse, IsNoIntro, HasIntroducer, type_name, IsIntro, HasNoStructure, IsNoStructure, IsFaultOf}
use Rattle.constraint_expand.specs.Features.{uses_in, all_uses, features_used, writers_of}
use Rattle.constraint_expand.specs.Introducers.{IsIntroducer, AreFirstTwo}
use Rattle.grammar_files.specs.Placings.{PlacedTree}
use Rattle.constraint_expand.specs.Statements.{name_of, defines_type, speaks_of_type, defines_instance, no_statement, statement_at, IsFirstAmong, IsFirst, first_of_types, first_of_instances, IsNowhere}
use Rattle.constraint_expand.specs.Systems.{Settled, IsSystemOf}
use Rattle.constraint_expand.specs.Unknowns.{unknown_of, NamesUnknown}
use Rattle.type_facts.proofs.ListLemmas.{Has-left, Has-right, Has-map, Has-at}
use Rattle.grammar_load.specs.Outcomes.{IsSameExpandFault}
use Rattle.grammar_load.proofs.Members.{has-filter, has-flat, zip-of}
use Rattle.grammar_load.proofs.OneSystem.{one-system}

-- the first statement that a test picks is one
one-among : (test : PlacedTree → Bool) (ps : List PlacedTree) (P : PlacedTree → Type 0) (k j : ℕ) → IsFirstAmong test ps P k → IsFirstAmong test ps P j → k ≡ j
one-among test ps P k j a b = go (cases_lt k j) (cases_lt j k)
  where
    go : (k < j) ⊎ (j ≤ k) → (j < k) ⊎ (k ≤ j) → k ≡ j
    go (inl l) m = absurd (b.none_before k l a.picked a.holds)
    go (inr l) (inl m) = absurd (a.none_before j m b.picked b.holds)
    go (inr l) (inr m) = omega arith

one-first : (ps : List PlacedTree) (P : PlacedTree → Type 0) (k j : ℕ) → IsFirst ps P k → IsFirst ps P j → k ≡ j
one-first ps P k j (first_of_types a) (first_of_types b) = one-among speaks_of_type ps P k j a b
one-first ps P k j (first_of_types a) (first_of_instances none b) = absurd (none k a.within a.picked a.holds)
one-first ps P k j (first_of_instances none a) (first_of_types b) = absurd (none j b.within b.picked b.holds)
one-first ps P k j (first_of_instances none a) (first_of_instances others b) = one-among defines_instance ps P k j a b

nowhere-first : (ps : List PlacedTree) (P : PlacedTree → Type 0) (k : ℕ) → IsNowhere ps P → IsFirst ps P k → ⊥
nowhere-first ps P k n (first_of_types a) = n.of_types k a.within a.picked a.holds
nowhere-first ps P k n (first_of_instances none a) = n.of_instances k a.within a.picked a.holds

-- what is known of a first statement
record IsMet (ps : List PlacedTree) (P : PlacedTree → Type 0) (k : ℕ) : Type 0 where
  pub within : k < length ps
  pub heeded : (speaks_of_type (statement_at ps k) ≡ true) ⊎ (defines_instance (statement_at ps k) ≡ true)
  pub holds : P (statement_at ps k)

met : (ps : List PlacedTree) (P : PlacedTree → Type 0) (k : ℕ) → IsFirst ps P k → IsMet ps P k
met ps P k (first_of_types a) = record { within = a.within; heeded = inl a.picked; holds = a.holds }
met ps P k (first_of_instances none a) = record { within = a.within; heeded = inr a.picked; holds = a.holds }

-- a feature that a heeded statement uses
used-in : (n : ListNames) (ps : List PlacedTree) (k : ℕ) (u : Used) → k < length ps → (speaks_of_type (statement_at ps k) ≡ true) ⊎ (defines_instance (statement_at ps k) ≡ true)
    → Has u (uses_in n (statement_at ps k)) → Has u.feature (features_used n ps)
used-in n ps k u h heeded has = Has-map (λ v. v.feature) u (all_uses n ps) (by_cases heeded)
  where
    by_cases : (speaks_of_type (statement_at ps k) ≡ true) ⊎ (defines_instance (statement_at ps k) ≡ true) → Has u (all_uses n ps)
    by_cases (inl e) = Has-left u _ _ (has-flat (uses_in n) (statement_at ps k) u (filter speaks_of_type ps) (has-filter speaks_of_type (statement_at ps k) ps (Has-at ps k no_statement h) e) has)
    by_cases (inr e) = Has-right u (flat_map (uses_in n) (filter speaks_of_type ps)) _
        (has-flat (uses_in n) (statement_at ps k) u (filter defines_instance ps) (has-filter defines_instance (statement_at ps k) ps (Has-at ps k no_statement h) e) has)

has-none : {X : Type 0} (x : X) (xs : List X) → xs ≡ [] → Has x xs → ⊥
has-none x xs e h = elim (subst (Has x) e h) [ ]

-- a type system has an introducer for each feature that is used
introduced : (types : TypeTable) (s : Settled) (ps : List PlacedTree) (feats : List Name) (g : Grammar) (f : Name) → IsSystemOf types s ps feats g → Has f (features_used s.lists ps) → HasIntroducer types s.lists ps f
introduced types s ps feats g f is h = zip-of (λ n t. IsIntroducer types (writers_of types s.lists ps n) t) f feats g.introducers (is.features.all f h) is.introducers

not-unwritten : (types : TypeTable) (s : Settled) (ps : List PlacedTree) (feats : List Name) (g : Grammar) (feature : Name) (at k : ℕ) → IsSystemOf types s ps feats g → IsNoIntro types s.lists ps feature at k → ⊥
not-unwritten types s ps feats g feature at k is f =
    let m = met ps (UsesUnwritten types s.lists ps) k f.first in
    let u = m.holds.0 in
    let i = introduced types s ps feats g u.feature is (used-in s.lists ps k u m.within m.heeded m.holds.1) in
    has-none i.0 (writers_of types s.lists ps u.feature) m.holds.2 i.1.writes

not-split : (types : TypeTable) (s : Settled) (ps : List PlacedTree) (feats : List Name) (g : Grammar) (feature a b : Name) (k : ℕ) → IsSystemOf types s ps feats g → IsIntro types s.lists ps feature a b k → ⊥
not-split types s ps feats g feature a b k is f =
    f.split (introduced types s ps feats g feature is (subst (λ f. Has f (features_used s.lists ps)) (sym f.feature_is) (Has-at (features_used s.lists ps) f.place [] f.within)))

pub book-or-fault : (types : TypeTable) (s : Settled) (ps : List PlacedTree) → HasTypeLaws types → (b : Book) (e : ExpandFault) → e ≢ NoMemory → IsBookOf types s ps b → IsFaultOf types s ps e → ⊥
book-or-fault types s ps laws b (UnknownName name at k) own x f = nowhere-first ps (NamesUnknown types s.lists ps) k x.known f.first
book-or-fault types s ps laws b (NoIntro feature at k) own x f = not-unwritten types s ps (texts b.feats.items) b.system (string_bytes feature) at k x.system f.1
book-or-fault types s ps laws b (Intro feature c d k) own x f = not-split types s ps (texts b.feats.items) b.system (string_bytes feature) (string_bytes c) (string_bytes d) k x.system f.2
book-or-fault types s ps laws b (NoStructure name k) own x f =
    let n = f.1 in
    let same = one-system types s ps laws n.feats (texts b.feats.items) n.system b.system n.is_system x.system in
    nowhere-first ps (HasNoStructure b.system s (texts b.feats.items)) k x.shaped
    (subst (λ (fs : List Name). IsFirst ps (HasNoStructure b.system s fs) k) same.0 (subst (λ (g : Grammar). IsFirst ps (HasNoStructure g s n.feats) k) same.1 n.first))
book-or-fault types s ps laws b NoMemory own x f = own refl

one-unknown : (types : TypeTable) (n : ListNames) (ps : List PlacedTree) (a b : Name) (at au k j : ℕ) → IsUnknownName types n ps a at k → IsUnknownName types n ps b au j → (k ≡ j) × (a ≡ b) × (at ≡ au)
one-unknown types n ps a b at au k j x y =
    let same : k ≡ j = one-first ps (NamesUnknown types n ps) k j x.first y.first in
    let mentions : Some (mention at a) ≡ Some (mention au b) = sym x.mentioned ∙ ap (λ i. unknown_of types n ps (statement_at ps i)) same ∙ y.mentioned in
    let one : mention at a ≡ mention au b = cc in
    (same, ap (λ (m : Mention). m.name) one, ap (λ (m : Mention). m.at) one)

one-use : (uses : List Used) (P : Used → Type 0) (i j : ℕ) → IsFirstUse uses P i → IsFirstUse uses P j → i ≡ j
one-use uses P i j a b = go (a.least j b.within b.holds) (b.least i a.within a.holds)
  where
    go : ((use_at uses i).at < (use_at uses j).at) ⊎ (((use_at uses i).at ≡ (use_at uses j).at) × (i ≤ j)) → ((use_at uses j).at < (use_at uses i).at) ⊎ (((use_at uses j).at ≡ (use_at uses i).at) × (j ≤ i)) → i ≡ j
    go (inl l) (inl m) = absurd (omega (arith, l, m))
    go (inl l) (inr m) = absurd (omega (arith, l, m.0))
    go (inr l) (inl m) = absurd (omega (arith, l.0, m))
    go (inr l) (inr m) = omega (arith, l.1, m.1)

one-unwritten : (types : TypeTable) (n : ListNames) (ps : List PlacedTree) (a b : Name) (at au k j : ℕ) → IsNoIntro types n ps a at k → IsNoIntro types n ps b au j → (k ≡ j) × (a ≡ b) × (at ≡ au)
one-unwritten types n ps a b at au k j x y =
    let same : k ≡ j = one-first ps (UsesUnwritten types n ps) k j x.first y.first in
    let uses = uses_in n (statement_at ps j) in
    let own : NamesFirstUse uses (IsUnwritten types n ps) a at = subst (λ i. NamesFirstUse (uses_in n (statement_at ps i)) (IsUnwritten types n ps) a at) same x.first_use in
    let one : own.place ≡ y.first_use.place = one-use uses (IsUnwritten types n ps) own.place y.first_use.place own.first y.first_use.first in
    (same, own.feature_is ∙ ap (λ i. (use_at uses i).feature) one ∙ sym y.first_use.feature_is, own.at_is ∙ ap (λ i. (use_at uses i).at) one ∙ sym y.first_use.at_is)

one-two : (types : TypeTable) (writers : List ℕ) (a b c d : ℕ) → AreFirstTwo types writers a b → AreFirstTwo types writers c d → (a ≡ c) × (b ≡ d)
one-two types writers a b c d x y = (firsts, seconds firsts)
  where
    first : (c ≡ a) ⊎ (b ≤ c) → (a ≡ c) ⊎ (d ≤ a) → a ≡ c
    first (inl e) m = sym e
    first (inr l) (inl e) = e
    first (inr l) (inr m) = absurd (omega (arith, l, m, x.in_order, y.in_order))

    firsts : a ≡ c
    firsts = first (x.others c y.first) (y.others a x.first)

    second : a ≡ c → (d ≡ a) ⊎ (b ≤ d) → (b ≡ c) ⊎ (d ≤ b) → b ≡ d
    second e (inl f) m = absurd (omega (arith, e, f, y.in_order))
    second e (inr l) (inl f) = absurd (omega (arith, e, f, x.in_order))
    second e (inr l) (inr m) = omega (arith, l, m)

    seconds : a ≡ c → b ≡ d
    seconds e = second e (x.others d y.second) (y.others b x.second)

one-split : (types : TypeTable) (n : ListNames) (ps : List PlacedTree) (f g a b c d : Name) (k j : ℕ) → IsIntro types n ps f a b k → IsIntro types n ps g c d j → (k ≡ j) × (f ≡ g) × (a ≡ c) × (b ≡ d)
one-split types n ps f g a b c d k j x y = (
  one-among defines_type ps (λ p. type_named types (name_of p) ≡ Some y.second) k j (subst (λ t. IsFirstAmong defines_type ps (λ p. type_named types (name_of p) ≡ Some t) k) two.1 x.stands) y.stands,
  features,
  x.a_is ∙ ap (type_name types) two.0 ∙ sym y.a_is,
  x.b_is ∙ ap (type_name types) two.1 ∙ sym y.b_is,
)
  where
    go : (x.place < y.place) ⊎ (y.place ≤ x.place) → (y.place < x.place) ⊎ (x.place ≤ y.place) → x.place ≡ y.place
    go (inl l) m = absurd (x.split (subst (HasIntroducer types n ps) (sym x.feature_is) (y.before x.place l)))
    go (inr l) (inl m) = absurd (y.split (subst (HasIntroducer types n ps) (sym y.feature_is) (x.before y.place m)))
    go (inr l) (inr m) = omega (arith, l, m)

    features : f ≡ g
    features = x.feature_is ∙ ap (λ i. slice_index_or (features_used n ps) i []) (go (cases_lt x.place y.place) (cases_lt y.place x.place)) ∙ sym y.feature_is

    two : (x.first ≡ y.first) × (x.second ≡ y.second)
    two = one-two types (writers_of types n ps g) x.first x.second y.first y.second (subst (λ h. AreFirstTwo types (writers_of types n ps h) x.first x.second) features x.two) y.two

one-inconsistent : (types : TypeTable) (s : Settled) (ps : List PlacedTree) → HasTypeLaws types → (a b : Name) (k j : ℕ) → IsNoStructure types s ps a k → IsNoStructure types s ps b j → (k ≡ j) × (a ≡ b)
one-inconsistent types s ps laws a b k j x y =
    let same = one-system types s ps laws x.feats y.feats x.system y.system x.is_system y.is_system in
    let own = subst (λ (fs : List Name). IsFirst ps (HasNoStructure y.system s fs) k) same.0 (subst (λ (g : Grammar). IsFirst ps (HasNoStructure g s x.feats) k) same.1 x.first) in
    let one : k ≡ j = one-first ps (HasNoStructure y.system s y.feats) k j own y.first in
    (one, x.name_is ∙ ap (λ i. name_of (statement_at ps i)) one ∙ sym y.name_is)

pub one-fault : (types : TypeTable) (s : Settled) (ps : List PlacedTree) → HasTypeLaws types → (e f : ExpandFault) → e ≢ NoMemory → f ≢ NoMemory → IsFaultOf types s ps e → IsFaultOf types s ps f → IsSameExpandFault e f
one-fault types s ps laws NoMemory f own other x y = absurd (own refl)
one-fault types s ps laws (UnknownName a at k) (UnknownName b au j) own other x y =
    let r = one-unknown types s.lists ps (string_bytes a) (string_bytes b) at au k j x y in
    (r.1, r.2, r.0)
one-fault types s ps laws (UnknownName a at k) (NoIntro f au j) own other x y = absurd (nowhere-first ps (NamesUnknown types s.lists ps) k y.0 x.first)
one-fault types s ps laws (UnknownName a at k) (Intro f c d j) own other x y = absurd (nowhere-first ps (NamesUnknown types s.lists ps) k y.0 x.first)
one-fault types s ps laws (UnknownName a at k) (NoStructure b j) own other x y = absurd (nowhere-first ps (NamesUnknown types s.lists ps) k y.0 x.first)
one-fault types s ps laws (UnknownName a at k) NoMemory own other x y = absurd (other refl)
one-fault types s ps laws (NoIntro f at k) (UnknownName b au j) own other x y = absurd (nowhere-first ps (NamesUnknown types s.lists ps) j x.0 y.first)
one-fault types s ps laws (NoIntro f at k) (NoIntro g au j) own other x y =
    let r = one-unwritten types s.lists ps (string_bytes f) (string_bytes g) at au k j x.1 y.1 in
    (r.1, r.2, r.0)
one-fault types s ps laws (NoIntro f at k) (Intro g c d j) own other x y = absurd (nowhere-first ps (UsesUnwritten types s.lists ps) k y.1 x.1.first)
one-fault types s ps laws (NoIntro f at k) (NoStructure b j) own other x y = absurd (not-unwritten types s ps y.1.feats y.1.system (string_bytes f) at k y.1.is_system x.1)
one-fault types s ps laws (NoIntro f at k) NoMemory own other x y = absurd (other refl)
one-fault types s ps laws (Intro f a b k) (UnknownName c au j) own other x y = absurd (nowhere-first ps (NamesUnknown types s.lists ps) j x.0 y.first)
one-fault types s ps laws (Intro f a b k) (NoIntro g au j) own other x y = absurd (nowhere-first ps (UsesUnwritten types s.lists ps) j x.1 y.1.first)
one-fault types s ps laws (Intro f a b k) (Intro g c d j) own other x y =
    let r = one-split types s.lists ps (string_bytes f) (string_bytes g) (string_bytes a) (string_bytes b) (string_bytes c) (string_bytes d) k j x.2 y.2 in
    (r.1, r.2, r.3, r.0)
one-fault types s ps laws (Intro f a b k) (NoStructure c j) own other x y = absurd (not-split types s ps y.1.feats y.1.system (string_bytes f) (string_bytes a) (string_bytes b) k y.1.is_system x.2)
one-fault types s ps laws (Intro f a b k) NoMemory own other x y = absurd (other refl)
one-fault types s ps laws (NoStructure a k) (UnknownName c au j) own other x y = absurd (nowhere-first ps (NamesUnknown types s.lists ps) j x.0 y.first)
one-fault types s ps laws (NoStructure a k) (NoIntro g au j) own other x y = absurd (not-unwritten types s ps x.1.feats x.1.system (string_bytes g) au j x.1.is_system y.1)
one-fault types s ps laws (NoStructure a k) (Intro g c d j) own other x y = absurd (not-split types s ps x.1.feats x.1.system (string_bytes g) (string_bytes c) (string_bytes d) j x.1.is_system y.2)
one-fault types s ps laws (NoStructure a k) (NoStructure b j) own other x y =
    let r = one-inconsistent types s ps laws (string_bytes a) (string_bytes b) k j x.1 y.1 in
    (r.1, r.0)
one-fault types s ps laws (NoStructure a k) NoMemory own other x y = absurd (other refl)
