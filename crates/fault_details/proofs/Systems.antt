-- The type system of statements, and the verdict in it.
use Rattle.std.proofs.Common.{ℕ, ◌≡◌, ◌≢◌, ◌<◌, ◌||◌, ◌∙◌, Bool, true, false, if◌then◌else◌, List, [], ◌∷◌, map, length, String, string_bytes, Vec, Option, None, Some, option_map, Result, Ok, Err, IfOk, OnOk, refl, sym, ap, subst, arith}
use Rattle.std.specs.Global.{Global}
use Rattle.std.specs.List.{AllZip}
use Rattle.std.proofs.lemmas.List.{length-map}
use Rattle.type_hierarchy.specs.Decls.{Name, texts}
use Rattle.type_hierarchy.specs.Table.{TypeTable}
use Rattle.type_hierarchy.specs.Laws.{HasTypeLaws}
use Rattle.fs_model.specs.Claims.{Claim}
use Rattle.fs_model.specs.Sources.{Told}
use Rattle.fs_graph.specs.declared.facts.Fact.{Fact}
use Rattle.fs_graph.specs.Facts.{claim_of, claims_of}
use Rattle.fs_graph.specs.GraphMap.{GraphMap, reader_of}
use Rattle.fs_unify.specs.Rules.{Grammar, system_of}
use Rattle.fs_unify.specs.Given.{facts_source}
use Rattle.fs_unify.specs.Limits.{IsUnifiedWithin}
use Rattle.forced_types.specs.Verdicts.{Verdict}
use Rattle.forced_types.specs.Limits.{IsVerdictWithin}
use Rattle.forced_types.specs.declared.placed.Verdict.{Verdict as Answer}
use Rattle.forced_types.specs.Views.{source_of_facts, verdict_of}
use Rattle.body_facts.specs.Numbers.{type_number}
use Rattle.grammar_files.specs.declared.expand_fault.ExpandFault.{ExpandFault}
use Rattle.grammar_files.specs.declared.expand_fault.ExpandFault.TheVariants.{UnknownName, NoIntro, Intro, NoStructure, NoMemory}
use Rattle.grammar_files.specs.declared.placed.Placed.{Placed}
use Rattle.grammar_files.specs.Placings.{PlacedTree, placed_of}
use Rattle.constraint_expand.specs.declared.definitions.Typed.{Typed}
use Rattle.constraint_expand.specs.Statements.{name_of, statement_at, defines_type, defines_instance}
use Rattle.constraint_expand.specs.Conditions.{AreTypesFor}
use Rattle.constraint_expand.specs.Introducers.{IsIntroducer}
use Rattle.constraint_expand.specs.Features.{writers_of}
use Rattle.constraint_expand.specs.Systems.{Settled, IsSystemOf, constraint_claims, instance_claims, words_of}
use Rattle.constraint_expand.specs.Faults.{IsFaultOf, claims_of_definition}
use Rattle.constraint_expand.specs.Found.{IsEarlyFault}
use Rattle.constraint_expand.proofs.StructureLemmas.{shaped_is}
use Rattle.grammar_files.specs.Walks.{WalkedTree}
use Rattle.grammar_types.specs.Typings.{AreTypesOf}
use Rattle.grammar_load.specs.Expanding.{names_by}
use Rattle.grammar_load.proofs.OneFault.{one-fault}
use Rattle.grammar_load.proofs.OneSystem.{tree-laws, one-system}
use Rattle.fault_places.specs.declared.Lack.{Lack}
use Rattle.fault_places.specs.Places.{set_in}
use Rattle.fault_details.specs.Further.{IsClashLine, told_text}
use Rattle.fault_details.specs.Inner.{IsTypedBy, IsVerdictAt, IsLackAt, IsNoStructureAt, LacksStructure}
use Rattle.fault_details.proofs.Definitions.{first-met}

-- a fault of names or features is not the lack of a structure
pub early-apart : (types : TypeTable) (s : Settled) (ps : List PlacedTree) → HasTypeLaws types → (e : ExpandFault) (name : String Global) (k : ℕ) → e ≢ NoMemory
    → IsEarlyFault types s ps e → IsFaultOf types s ps (NoStructure name k) → ⊥
early-apart types s ps laws (UnknownName a at j) name k own x y = one-fault types s ps laws (UnknownName a at j) (NoStructure name k) own (λ e. absurd cc) x y
early-apart types s ps laws (NoIntro f at j) name k own x y = one-fault types s ps laws (NoIntro f at j) (NoStructure name k) own (λ e. absurd cc) x y
early-apart types s ps laws (Intro f a b j) name k own x y = one-fault types s ps laws (Intro f a b j) (NoStructure name k) own (λ e. absurd cc) x y
early-apart types s ps laws (NoStructure a j) name k own x y = absurd x
early-apart types s ps laws NoMemory name k own x y = absurd (own refl)

pub structured : (w : WalkedTree) (s : Settled) (types : TypeTable) → AreTypesOf w types → (e : ExpandFault) → e ≢ NoMemory → IsEarlyFault types s w.statements e → LacksStructure w s types → ⊥
structured w s types typed e own early l = early-apart types s w.statements (tree-laws w types typed) e l.lacks.name l.place own early l.lacks.fault

abbrev pub OneTable : Type 0
OneTable = (w : WalkedTree) (t u : TypeTable) → AreTypesOf w t → AreTypesOf w u → t ≡ u

-- a definition that has no structure lacks one in the type system of the statements
pub lack-apart : OneTable → (w : WalkedTree) (s : Settled) (t : Typed) (k : ℕ) → IsTypedBy w s t → (IsLackAt w s t k → ⊥)
    → (types : TypeTable) → AreTypesOf w types → IsNoStructureAt w s types k → ⊥
lack-apart one w s t k by some types typed lacks =
    let p = statement_at w.statements k in
    let feats = texts t.feats.items in
    let no = lacks.fault.1 in
    let same : types ≡ by.types = one w types by.types typed by.typed in
    let other = subst (λ (y : TypeTable). IsSystemOf y s w.statements no.feats no.system) same no.is_system in
    let both = one-system by.types s w.statements (tree-laws w by.types by.typed) feats no.feats t.system no.system by.system other in
    let moved = subst (λ (l : List Name). IsUnifiedWithin (system_of t.system) s.node_limit (facts_source (claims_of_definition t.system s l p)) None → ⊥) both.0 some in
    let again = subst (λ (g : Grammar). IsUnifiedWithin (system_of g) s.node_limit (facts_source (claims_of_definition g s no.feats p)) None → ⊥) both.1 moved in
    again (first-met w.statements _ k no.first).holds.1

-- what the structure of a definition is the closure of is something
pub claims-some : (g : Grammar) (s : Settled) (feats : List Name) (p : PlacedTree) → 0 < length (claims_of_definition g s feats p)
claims-some g s feats p = go (defines_type p)
  where
    go : (b : Bool) → 0 < length (if b then constraint_claims (type_number g.types (name_of p)) else instance_claims (words_of g.types s.lists feats) p)
    go true = omega arith
    go false = omega arith

pub facts-some : (facts : List Fact) (g : Grammar) (s : Settled) (feats : List Name) (p : PlacedTree) → claims_of facts ≡ claims_of_definition g s feats p → 0 < length facts
facts-some facts g s feats p is =
    let some = claims-some g s feats p in
    let size = length-map facts claim_of in
    omega (arith, some, ap length is)

-- the verdict on facts, as one on the claims that they are
pub verdicts-moved : (g : Grammar) (limit : ℕ) (facts read : List Fact) (claims : List Claim) (r : Result (Option Answer) Lack) → claims_of facts ≡ claims → read ≡ facts
    → IfOk r (λ o. IsVerdictWithin (system_of g) (Told (source_of_facts read)) limit (option_map verdict_of o))
    → IfOk r (λ o. IsVerdictWithin (system_of g) (Told (facts_source claims)) limit (option_map verdict_of o))
verdicts-moved g limit facts read claims (Ok o) is same h =
    let own = subst (λ (l : List Fact). IsVerdictWithin (system_of g) (Told (source_of_facts l)) limit (option_map verdict_of o)) same h in
    subst (λ (l : List Claim). IsVerdictWithin (system_of g) (Told (facts_source l)) limit (option_map verdict_of o)) is own
verdicts-moved g limit facts read claims (Err e) is same h = tt

-- that facts have no structure, as of the claims that they are
lack-moved : (g : Grammar) (limit : ℕ) (facts read : List Fact) (claims : List Claim) → claims_of facts ≡ claims → read ≡ facts
    → IsUnifiedWithin (system_of g) limit (facts_source (claims_of read)) None → IsUnifiedWithin (system_of g) limit (facts_source claims) None
lack-moved g limit facts read claims is same h =
    subst (λ (l : List Claim). IsUnifiedWithin (system_of g) limit (facts_source l) None) (ap claims_of same ∙ is) h

pub lacks-moved : (g : Grammar) (limit : ℕ) (facts read : List Fact) (claims : List Claim) (r : Result (Option Answer) Lack) → claims_of facts ≡ claims → read ≡ facts
    → OnOk r (IsUnifiedWithin (system_of g) limit (facts_source (claims_of read)) None) → OnOk r (IsUnifiedWithin (system_of g) limit (facts_source claims) None)
lacks-moved g limit facts read claims (Ok v) is same h = lack-moved g limit facts read claims is same h
lacks-moved g limit facts read claims (Err e) is same h = tt

pub lack-back : (g : Grammar) (limit : ℕ) (facts read : List Fact) (claims : List Claim) → claims_of facts ≡ claims → read ≡ facts
    → IsUnifiedWithin (system_of g) limit (facts_source claims) None → IsUnifiedWithin (system_of g) limit (facts_source (claims_of read)) None
lack-back g limit facts read claims is same h =
    subst (λ (l : List Claim). IsUnifiedWithin (system_of g) limit (facts_source l) None) (sym (ap claims_of same ∙ is)) h

-- claims that have a structure don't lack one
pub lack-none : (g : Grammar) (limit : ℕ) (claims : List Claim) (o : Option GraphMap) (x : GraphMap) → o ≡ Some x
    → IsUnifiedWithin (system_of g) limit (facts_source claims) (option_map reader_of o) → IsUnifiedWithin (system_of g) limit (facts_source claims) None → ⊥
lack-none g limit claims o x e has none =
    shaped_is g limit claims (reader_of x) (subst (λ (y : Option GraphMap). IsUnifiedWithin (system_of g) limit (facts_source claims) (option_map reader_of y)) e has) none

-- there are as many features as introducers
zip-long : {A B : Type 0} (R : A → B → Type 0) (xs : List A) (ys : List B) → AllZip R xs ys → length xs ≡ length ys
zip-long R [] [] h = refl
zip-long R [] (y ∷ ys) h = absurd h
zip-long R (x ∷ xs) [] h = absurd h
zip-long R (x ∷ xs) (y ∷ ys) h = let rest = zip-long R xs ys h.1 in omega (arith, rest)

pub feats-many : (w : WalkedTree) (s : Settled) (t : Typed) → IsTypedBy w s t → length t.feats.items ≡ length t.system.introducers
feats-many w s t by =
    sym (length-map t.feats.items string_bytes) ∙ zip-long (λ f u. IsIntroducer by.types (writers_of by.types s.lists w.statements f) u) (texts t.feats.items) t.system.introducers by.system.introducers

-- the types and the system as one has them who only has the system
pub types-for : (w : WalkedTree) (s : Settled) (t : Typed) → IsTypedBy w s t → AreTypesFor t.system.types w.statements
types-for w s t by = subst (λ (y : TypeTable). AreTypesFor y w.statements) (sym by.system.types_are) by.types_for

pub own-system : (w : WalkedTree) (s : Settled) (t : Typed) → IsTypedBy w s t → IsSystemOf t.system.types s w.statements (texts t.feats.items) t.system
own-system w s t by = subst (λ (y : TypeTable). IsSystemOf y s w.statements (texts t.feats.items) t.system) (sym by.system.types_are) by.system

pub clash-line : (w : WalkedTree) (s : Settled) (t : Typed) (k : ℕ) (v : Option Verdict) → s ≡ names_by w.settings → IsTypedBy w s t → k < length w.statements
    → (defines_type (statement_at w.statements k) || defines_instance (statement_at w.statements k)) ≡ true → IsVerdictAt w s t k v → IsLackAt w s t k
    → IsClashLine w k (told_text t.system.types (texts t.feats.items) v)
clash-line w s t k v names by there defines is lacks = record {
  there = there;
  defines = defines;
  types = by.types;
  typed = by.typed;
  feats = texts t.feats.items;
  system = t.system;
  system_is = subst (λ (x : Settled). IsSystemOf by.types x w.statements (texts t.feats.items) t.system) names by.system;
  verdict = v;
  verdict_is = subst (λ (x : Settled). IsVerdictAt w x t k v) names is;
  lacks = subst (λ (x : Settled). IsLackAt w x t k) names lacks;
  line_is = ap (λ (y : TypeTable). told_text y (texts t.feats.items) v) by.system.types_are;
}

pub clash-told : (w : WalkedTree) (s : Settled) (t : Typed) (k : ℕ) (v : Option Verdict) → s ≡ names_by w.settings → IsTypedBy w s t → k < length w.statements
    → (defines_type (statement_at w.statements k) || defines_instance (statement_at w.statements k)) ≡ true → IsVerdictAt w s t k v → IsLackAt w s t k → (r : Result (Vec ℕ Global) Lack)
    → IfOk r (λ x. x.items ≡ set_in (told_text t.system.types (texts t.feats.items) v))
    → IfOk r (λ x. (line : List ℕ) × IsClashLine w k line × (x.items ≡ set_in line))
clash-told w s t k v names by there defines is lacks (Ok x) told = (told_text t.system.types (texts t.feats.items) v, clash-line w s t k v names by there defines is lacks, told)
clash-told w s t k v names by there defines is lacks (Err e) told = tt

-- there are as many statements as were placed
pub placed-there : (all : List Placed) (k : ℕ) → k < length all → k < length (map placed_of all)
placed-there all k h = omega (arith, length-map all placed_of)
