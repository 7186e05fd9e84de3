-- Structures of types and instances, and their faults.
use Rattle.std.proofs.Common.{ℕ, ◌≡◌, ◌<◌, ◌≤◌, ◌+◌, ◌⊎◌, inl, inr, ◌&&◌, ◌||◌, Bool, true, false, cond, List, [], ◌∷◌, ◌++◌, length, map, filter, take, Option, Some, None, unwrap_or, refl, sym, ◌∙◌, ap, subst, arith}
use Rattle.std.specs.List.{AllZip, range_with_len}
use Rattle.std.specs.Str.{bytes_eq}
use Rattle.std.proofs.lemmas.Bool.{cases_lt, and_parts}
use Rattle.std.proofs.lemmas.List.{length-take, take_all, append-nil, map-append}
use Rattle.std.proofs.lemmas.List.Elements.{filter_more}
use Rattle.std.proofs.lemmas.List.Quantifiers.{position-Some}
use Rattle.fs_model.specs.Claims.{Claim}
use Rattle.fs_model.specs.Sources.{Reader, IsUnified}
use Rattle.fs_unify.specs.Limits.{IsUnifiedWithin}
use Rattle.type_hierarchy.specs.Decls.{Name}
use Rattle.type_hierarchy.specs.Named.{type_named}
use Rattle.type_hierarchy.specs.Table.{TypeTable, completed_count}
use Rattle.fs_graph.specs.GraphMap.{GraphMap, reader_of}
use Rattle.fs_unify.specs.Rules.{Grammar, system_of}
use Rattle.fs_unify.specs.Given.{facts_source}
use Rattle.body_facts.specs.Claimed.{WordTable}
use Rattle.body_facts.specs.Numbers.{type_number}
use Rattle.tdl_reader.specs.declared.Status.{Status}
use Rattle.tdl_reader.specs.declared.Status.TheVariants.{TypeDef, Entry, LexRule, Rule, Root, Other}
use Rattle.tdl_reader.specs.Trees.{StatementTree, defines, adds, begins, ends, includes, letters}
use Rattle.grammar_files.specs.declared.expand_fault.ExpandFault.{ExpandFault}
use Rattle.grammar_files.specs.declared.expand_fault.ExpandFault.TheVariants.{UnknownName, NoIntro, Intro, NoStructure, NoMemory}
use Rattle.grammar_files.specs.Placings.{PlacedTree}
use Rattle.constraint_expand.specs.Statements.{no_statement, statement_at, name_of, is_define, is_addendum, is_of_types, is_of_instances, defines_type, adds_to_type, defines_instance, speaks_of_type, instances_in, HoldsOfNone, IsNowhere, first_of_types, first_of_instances}
use Rattle.constraint_expand.specs.Conditions.{AreTypesFor}
use Rattle.constraint_expand.specs.Systems.{Settled, words_of, constraint_claims, instance_claims, IsSystemOf}
use Rattle.constraint_expand.specs.declared.books.Instance.{Instance}
use Rattle.constraint_expand.specs.Books.{InstanceMap, instance_of, IsInstanceOf, IsConstraintOf, AreConstraints, AreInstances}
use Rattle.constraint_expand.specs.Faults.{claims_of_definition, HasNoStructure}
use Rattle.constraint_expand.specs.Shaped.{IsInstanceBy, AddsInstance, AreShaped, IsAnswerFor, HasNoConstraint, HasNoShape, IsFaultyType, IsFaultyAmongTypes, IsFaultyHere, IsFaultyAmongInstances}
use Rattle.constraint_expand.proofs.FirstLemmas.{first_here}
use Rattle.constraint_expand.specs.Found.{HasNoneBefore, IsStructureFault}
use Rattle.type_facts.proofs.ListLemmas.{bools}
use Rattle.type_facts.proofs.RuleLemmas.{range_push}
use Rattle.constraint_expand.proofs.SplitLemmas.{zip_push, zip_moved}

zip_join : {A B : Type 0} (R : A → B → Type 0) (xs xs' : List A) (ys ys' : List B) → AllZip R xs ys → AllZip R xs' ys' → AllZip R (xs ++ xs') (ys ++ ys')
zip_join R [] xs' [] ys' h k = k
zip_join R [] xs' (z ∷ zs) ys' h k = absurd h
zip_join R (w ∷ ws) xs' [] ys' h k = absurd h
zip_join R (w ∷ ws) xs' (z ∷ zs) ys' h k = (h.0, zip_join R ws xs' zs ys' h.1 k)

-- what has a structure within a limit doesn't lack one
pub shaped_is : (g : Grammar) (limit : ℕ) (claims : List Claim) (r : Reader) → IsUnifiedWithin (system_of g) limit (facts_source claims) (Some r) →
    IsUnifiedWithin (system_of g) limit (facts_source claims) None → ⊥
shaped_is g limit claims r has (inl none) = none has.0.0
shaped_is g limit claims r has (inr more) = has.1 more

-- the constraints of the types so far
pub record AreConstraintsTo (g : Grammar) (limit n : ℕ) (graphs : List GraphMap) : Type 0 where
  pub structures : AllZip (IsConstraintOf g) (range_with_len 0 n) graphs
  pub none : (u : ℕ) → u < n → HasNoConstraint g limit u → ⊥

pub constraints_none : (g : Grammar) (limit : ℕ) → AreConstraintsTo g limit 0 []
constraints_none g limit = record { structures = tt; none = λ u h. absurd (omega arith) }

pub constraints_more : (g : Grammar) (limit n : ℕ) (graphs new : List GraphMap) (graph : GraphMap) → new ≡ graphs ++ graph ∷ [] → AreConstraintsTo g limit n graphs →
    IsConstraintOf g n graph → (HasNoConstraint g limit n → ⊥) → AreConstraintsTo g limit (n + 1) new
constraints_more g limit n graphs new graph is had one some =
    record {
      structures = subst (λ l. AllZip (IsConstraintOf g) (range_with_len 0 (n + 1)) l) (sym is)
          (subst (λ l. AllZip (IsConstraintOf g) l (graphs ++ graph ∷ [])) (sym (range_push n))
          (zip_push (IsConstraintOf g) (range_with_len 0 n) graphs n graph had.structures one));
      none = λ u h. go u (cases_lt u n) h;
    }
  where
    go : (u : ℕ) → (u < n) ⊎ (n ≤ u) → u < n + 1 → HasNoConstraint g limit u → ⊥
    go u (inl a) h = had.none u a
    go u (inr a) h = let same : n ≡ u = omega arith in subst (λ m. HasNoConstraint g limit m → ⊥) same some

-- a definition is no addendum
define_only : (x : StatementTree) → is_define x ≡ true → is_addendum x ≡ true → ⊥
define_only (defines name at affix body) d a = let z : false ≡ true = a in cc
define_only (adds name at body) d a = let z : false ≡ true = d in cc
define_only (begins status at) d a = let z : false ≡ true = d in cc
define_only (ends instance at) d a = let z : false ≡ true = d in cc
define_only (includes file at) d a = let z : false ≡ true = d in cc
define_only (letters set at) d a = let z : false ≡ true = d in cc

-- what defines among what speaks of types defines a type
defines_of : (p : PlacedTree) → speaks_of_type p ≡ true → is_define p.statement ≡ true → defines_type p ≡ true
defines_of p s d = go (bools (defines_type p))
  where
    go : (defines_type p ≡ true) ⊎ (defines_type p ≡ false) → defines_type p ≡ true
    go (inl e) = e
    go (inr e) =
        let a : adds_to_type p ≡ true = sym (ap (λ b. b || adds_to_type p) e) ∙ s in
        absurd (define_only p.statement d (and_parts (is_addendum p.statement) (is_of_types p.status) a).0)

speaks_if : (p : PlacedTree) → defines_type p ≡ true → speaks_of_type p ≡ true
speaks_if p e = ap (λ b. b || adds_to_type p) e

is_define_if : (p : PlacedTree) → defines_type p ≡ true → is_define p.statement ≡ true
is_define_if p e = (and_parts (is_define p.statement) (is_of_types p.status) e).0

status_only : (s : Status) → is_of_instances s ≡ true → is_of_types s ≡ false
status_only TypeDef h = absurd (let z : false ≡ true = h in cc)
status_only Entry h = refl
status_only LexRule h = refl
status_only Rule h = refl
status_only Root h = refl
status_only Other h = refl

and_false : (b c : Bool) → c ≡ false → (b && c) ≡ false
and_false true c e = e
and_false false c e = refl

-- an instance isn't a type
instance_only : (p : PlacedTree) → defines_instance p ≡ true → defines_type p ≡ false
instance_only p e =
    and_false (is_define p.statement) (is_of_types p.status) (status_only p.status (and_parts (is_define p.statement) (is_of_instances p.status) e).1)

-- the claims of a type's definition, and those of an instance's
claims_of_type : (g : Grammar) (s : Settled) (feats : List Name) (p : PlacedTree) (t : ℕ) → defines_type p ≡ true → type_named g.types (name_of p) ≡ Some t →
    claims_of_definition g s feats p ≡ constraint_claims t
claims_of_type g s feats p t d named =
    ap (λ b. cond b (constraint_claims (type_number g.types (name_of p))) (instance_claims (words_of g.types s.lists feats) p)) d
    ∙ ap constraint_claims (ap (λ o. unwrap_or o 0) named)

claims_of_instance : (g : Grammar) (s : Settled) (feats : List Name) (p : PlacedTree) → defines_instance p ≡ true →
    claims_of_definition g s feats p ≡ instance_claims (words_of g.types s.lists feats) p
claims_of_instance g s feats p d =
    ap (λ b. cond b (constraint_claims (type_number g.types (name_of p))) (instance_claims (words_of g.types s.lists feats) p)) (instance_only p d)

-- a type whose definition has no structure has no constraint
type_bad : (types : TypeTable) (s : Settled) (ps : List PlacedTree) (feats : List Name) (g : Grammar) → AreTypesFor types ps → g.types ≡ types → (j : ℕ) → j < length ps →
    speaks_of_type (statement_at ps j) ≡ true → HasNoStructure g s feats (statement_at ps j) →
    (t : ℕ) × (type_named types (name_of (statement_at ps j)) ≡ Some t) × (defines_type (statement_at ps j) ≡ true) × HasNoConstraint g s.node_limit t
type_bad types s ps feats g types_for same j h speaks bad =
    let d = defines_of (statement_at ps j) speaks bad.0 in
    let t = types_for.named j h d in (
      t.0,
      t.1,
      d,
      subst (λ c. IsUnifiedWithin (system_of g) s.node_limit (facts_source c) None)
          (claims_of_type g s feats (statement_at ps j) t.0 d (ap (λ y. type_named y (name_of (statement_at ps j))) same ∙ t.1)) bad.1,
    )

-- the fault of the first type without constraint
pub structure_of_types : (types : TypeTable) (s : Settled) (ps : List PlacedTree) (feats : List Name) (g : Grammar) (e : ExpandFault) → AreTypesFor types ps →
    IsSystemOf types s ps feats g → IsFaultyAmongTypes g s.node_limit ps e → IsStructureFault types s ps e
structure_of_types types s ps feats g NoMemory types_for sys h = tt
structure_of_types types s ps feats g (UnknownName name at k) types_for sys (t, none, bad, before) = bad
structure_of_types types s ps feats g (NoIntro name at k) types_for sys (t, none, bad, before) = bad
structure_of_types types s ps feats g (Intro f a b k) types_for sys (t, none, bad, before) = bad
structure_of_types types s ps feats g (NoStructure name k) types_for sys (t, none, (name_is, stands), before) =
    record {
      feats = feats;
      system = g;
      is_system = sys;
      first = first_of_types (record {
        within = stands.within;
        picked = speaks_if (statement_at ps k) stands.picked;
        holds = (
          is_define_if (statement_at ps k) stands.picked,
          subst (λ c. IsUnifiedWithin (system_of g) s.node_limit (facts_source c) None) (sym (claims_of_type g s feats (statement_at ps k) t stands.picked stands.holds)) none,
        );
        none_before = λ j lt speaks bad.
            let r = type_bad types s ps feats g types_for sys.types_are j (omega (arith, lt, stands.within)) speaks bad in
            before r.0 (types_for.rising j k r.0 t lt stands.within r.2 stands.picked r.1
            (ap (λ y. type_named y (name_of (statement_at ps k))) (sym sys.types_are) ∙ stands.holds)) r.3;
      });
      name_is = name_is;
    }

named_below : (types : TypeTable) (name : Name) (t : ℕ) → type_named types name ≡ Some t → t < completed_count types
named_below types name t e =
    let r = position-Some (bytes_eq name) (take (completed_count types) types.names) t [] e in
    omega (arith, r.0, length-take (completed_count types) types.names)

pub structure_of_instances : (types : TypeTable) (s : Settled) (ps : List PlacedTree) (feats : List Name) (g : Grammar) (e : ExpandFault) → AreTypesFor types ps →
    IsSystemOf types s ps feats g → ((t : ℕ) → t < completed_count types → HasNoConstraint g s.node_limit t → ⊥) → IsFaultyAmongInstances g s.node_limit (words_of types s.lists feats) ps e → IsStructureFault types s ps e
structure_of_instances types s ps feats g NoMemory types_for sys all h = tt
structure_of_instances types s ps feats g (UnknownName name at k) types_for sys all h = h
structure_of_instances types s ps feats g (NoIntro name at k) types_for sys all h = h
structure_of_instances types s ps feats g (Intro f a b k) types_for sys all h = h
structure_of_instances types s ps feats g (NoStructure name k) types_for sys all (stands, name_is) =
    record {
      feats = feats;
      system = g;
      is_system = sys;
      first = first_of_instances none (record {
        within = stands.within;
        picked = stands.picked;
        holds = (
          (and_parts (is_define (statement_at ps k).statement) (is_of_instances (statement_at ps k).status) stands.picked).0,
          subst (λ c. IsUnifiedWithin (system_of g) s.node_limit (facts_source c) None) (sym (claims_are (statement_at ps k) stands.picked)) stands.holds,
        );
        none_before = λ j lt picked bad.
            stands.none_before j lt picked (subst (λ c. IsUnifiedWithin (system_of g) s.node_limit (facts_source c) None) (claims_are (statement_at ps j) picked) bad.1);
      });
      name_is = name_is;
    }
  where
    claims_are : (p : PlacedTree) → defines_instance p ≡ true → claims_of_definition g s feats p ≡ instance_claims (words_of types s.lists feats) p
    claims_are p d = claims_of_instance g s feats p d ∙ ap (λ y. instance_claims (words_of y s.lists feats) p) sys.types_are

    none : HoldsOfNone speaks_of_type ps (HasNoStructure g s feats)
    none j h speaks bad =
        let r = type_bad types s ps feats g types_for sys.types_are j h speaks bad in
        all r.0 (named_below types (name_of (statement_at ps j)) r.0 r.1) r.3

-- where all types and instances have structures, no definition lacks one
pub none_lacks : (types : TypeTable) (s : Settled) (ps : List PlacedTree) (feats : List Name) (g : Grammar) → AreTypesFor types ps → IsSystemOf types s ps feats g →
    ((t : ℕ) → t < completed_count types → HasNoConstraint g s.node_limit t → ⊥) → HoldsOfNone defines_instance ps (HasNoShape g s.node_limit (words_of types s.lists feats)) →
    IsNowhere ps (HasNoStructure g s feats)
none_lacks types s ps feats g types_for sys all shapes = record {
  of_types = λ j h speaks bad.
      let r = type_bad types s ps feats g types_for sys.types_are j h speaks bad in
      all r.0 (named_below types (name_of (statement_at ps j)) r.0 r.1) r.3;
  of_instances = λ j h picked bad.
      shapes j h picked (subst (λ c. IsUnifiedWithin (system_of g) s.node_limit (facts_source c) None)
      (claims_of_instance g s feats (statement_at ps j) picked ∙ ap (λ y. instance_claims (words_of y s.lists feats) (statement_at ps j)) sys.types_are) bad.1);
}

-- the instances, by the grammar's own types
pub instances_are : (types : TypeTable) (s : Settled) (ps : List PlacedTree) (feats : List Name) (g : Grammar) (is : List InstanceMap) → g.types ≡ types →
    AreShaped g (words_of types s.lists feats) ps is → AreInstances g s feats ps is
instances_are types s ps feats g is same h =
    zip_moved (IsInstanceBy g (words_of types s.lists feats)) (IsInstanceOf g s feats) (instances_in ps) is
    (λ p i r. record {
      status = r.status;
      structure = subst (λ y. IsUnified (system_of g) (facts_source (instance_claims (words_of y s.lists feats) p)) (Some (reader_of i.structure))) (sym same) r.structure;
      answer = r.answer;
    }) h

-- one more instance
pub map_pushed : (old new : List Instance) (x : Instance) → new ≡ old ++ x ∷ [] → map instance_of new ≡ map instance_of old ++ instance_of x ∷ []
map_pushed old new x is = ap (map instance_of) is ∙ map-append instance_of old (x ∷ [])

pub adds_one : (g : Grammar) (w : WordTable) (p : PlacedTree) (old new : List InstanceMap) (i : InstanceMap) → new ≡ old ++ i ∷ [] → IsInstanceBy g w p i →
    defines_instance p ≡ true → AddsInstance g w p old new
adds_one g w p old new i is by picked =
    (i ∷ [], is, subst (λ b. AllZip (IsInstanceBy g w) (cond b (p ∷ []) []) (i ∷ [])) (sym picked) (by, tt))

pub adds_none : (g : Grammar) (w : WordTable) (p : PlacedTree) (old : List InstanceMap) → defines_instance p ≡ false → AddsInstance g w p old old
adds_none g w p old picked =
    ([], sym (append-nil old), subst (λ b. AllZip (IsInstanceBy g w) (cond b (p ∷ []) []) []) (sym picked) tt)

-- the structure of an instance within a limit, as the book has it
pub instance_by : (g : Grammar) (limit : ℕ) (w : WordTable) (p : PlacedTree) (graph : GraphMap) (o : Option GraphMap) → o ≡ Some graph →
    IsAnswerFor g limit (instance_claims w p) o → IsInstanceBy g w p (record { status = p.status; structure = graph }) × (HasNoShape g limit w p → ⊥)
instance_by g limit w p graph o some answer =
    let here = subst (IsAnswerFor g limit (instance_claims w p)) some answer in
    (record { status = refl; structure = here.unified.0; answer = here.answer }, shaped_is g limit (instance_claims w p) (reader_of graph) here.unified)

pub instances_none : (g : Grammar) (w : WordTable) (ps : List PlacedTree) → AllZip (IsInstanceBy g w) (filter defines_instance (take 0 ps)) []
instances_none g w [] = tt
instances_none g w (p ∷ ps) = tt

pub instances_next : (g : Grammar) (w : WordTable) (ps : List PlacedTree) (i : ℕ) (p : PlacedTree) (old new : List InstanceMap) → i < length ps → statement_at ps i ≡ p →
    AddsInstance g w p old new → AllZip (IsInstanceBy g w) (filter defines_instance (take i ps)) old → AllZip (IsInstanceBy g w) (filter defines_instance (take (i + 1) ps)) new
instances_next g w ps i p old new lt here (more, is, shaped) had =
    subst (λ l. AllZip (IsInstanceBy g w) (filter defines_instance (take (i + 1) ps)) l) (sym is)
    (subst (λ l. AllZip (IsInstanceBy g w) l (old ++ more))
    (sym (filter_more defines_instance ps i no_statement lt ∙ ap (λ q. filter defines_instance (take i ps) ++ filter defines_instance (q ∷ [])) here))
    (zip_join (IsInstanceBy g w) (filter defines_instance (take i ps)) (filter defines_instance (p ∷ [])) old more had shaped))

pub instances_all : (g : Grammar) (w : WordTable) (ps : List PlacedTree) (i : ℕ) (all : List InstanceMap) → length ps ≤ i →
    AllZip (IsInstanceBy g w) (filter defines_instance (take i ps)) all → AreShaped g w ps all
instances_all g w ps i all past had = subst (λ l. AllZip (IsInstanceBy g w) (filter defines_instance l) all) (take_all i ps past) had

-- the fault of one type is the first, where all before it have constraints
pub faulty_type : (g : Grammar) (limit : ℕ) (ps : List PlacedTree) (t : ℕ) (e : ExpandFault) → HasNoConstraint g limit t → IsFaultyType g.types ps t e →
    ((u : ℕ) → u < t → HasNoConstraint g limit u → ⊥) → IsFaultyAmongTypes g limit ps e
faulty_type g limit ps t NoMemory none h before = tt
faulty_type g limit ps t (UnknownName name at k) none h before = (t, none, h, before)
faulty_type g limit ps t (NoIntro name at k) none h before = (t, none, h, before)
faulty_type g limit ps t (Intro f a b k) none h before = (t, none, h, before)
faulty_type g limit ps t (NoStructure name k) none h before = (t, none, h, before)

-- what is met at a type before which all have constraints: want of memory, or the fault of the first that has none
pub faulty_first : (g : Grammar) (limit : ℕ) (ps : List PlacedTree) (t : ℕ) (e : ExpandFault) → (e ≡ NoMemory) ⊎ (HasNoConstraint g limit t × IsFaultyType g.types ps t e) →
    ((u : ℕ) → u < t → HasNoConstraint g limit u → ⊥) → IsFaultyAmongTypes g limit ps e
faulty_first g limit ps t e (inl is) before = subst (IsFaultyAmongTypes g limit ps) (sym is) tt
faulty_first g limit ps t e (inr (none, h)) before = faulty_type g limit ps t e none h before

pub constraints_all : (g : Grammar) (limit n : ℕ) (graphs : List GraphMap) → n ≡ completed_count g.types → AreConstraintsTo g limit n graphs → AreConstraints g graphs
constraints_all g limit n graphs e had = subst (λ m. AllZip (IsConstraintOf g) (range_with_len 0 m) graphs) e had.structures

-- the fault of one instance is the first, where all before it have structures
pub faulty_here : (g : Grammar) (limit : ℕ) (w : WordTable) (ps : List PlacedTree) (i : ℕ) (p : PlacedTree) (e : ExpandFault) → statement_at ps i ≡ p → i < length ps →
    HasNoneBefore defines_instance ps (HasNoShape g limit w) i → IsFaultyHere g limit w p i e → IsFaultyAmongInstances g limit w ps e
faulty_here g limit w ps i p NoMemory here within none h = h
faulty_here g limit w ps i p (UnknownName name at k) here within none h = h
faulty_here g limit w ps i p (NoIntro name at k) here within none h = h
faulty_here g limit w ps i p (Intro f a b k) here within none h = h
faulty_here g limit w ps i p (NoStructure name k) here within none (same, picked, name_is, shape) =
    subst (λ j. IsFaultyAmongInstances g limit w ps (NoStructure name j)) (sym same) (
      first_here defines_instance ps (HasNoShape g limit w) i within (subst (λ q. defines_instance q ≡ true) (sym here) picked) (subst (HasNoShape g limit w) (sym here) shape) none,
      name_is ∙ ap name_of (sym here),
    )
