-- The faults of statements that name unknown types.
use Rattle.std.proofs.Common.{ℕ, ◌≡◌, ◌<◌, true, List, length, Some, sym, subst}
use Rattle.std.specs.String.{string_bytes}
use Rattle.type_hierarchy.specs.Table.{TypeTable}
use Rattle.body_facts.specs.Writing.{ListNames}
use Rattle.body_facts.specs.Mentions.{mention}
use Rattle.constraint_expand.specs.declared.kinds.Kind.{Kind}
use Rattle.constraint_expand.specs.declared.kinds.Kind.TheVariants.{Types, Instances}
use Rattle.grammar_files.specs.declared.expand_fault.ExpandFault.{ExpandFault}
use Rattle.grammar_files.specs.declared.expand_fault.ExpandFault.TheVariants.{UnknownName, NoIntro, Intro, NoStructure, NoMemory}
use Rattle.grammar_files.specs.Placings.{PlacedTree}
use Rattle.constraint_expand.specs.Statements.{statement_at, HoldsOfNone, first_of_types, first_of_instances}
use Rattle.constraint_expand.specs.Kinds.{picks}
use Rattle.constraint_expand.specs.Systems.{Settled}
use Rattle.constraint_expand.specs.Unknowns.{NamesUnknown, unknown_of}
use Rattle.constraint_expand.specs.Faults.{AreKnown}
use Rattle.constraint_expand.specs.Found.{HasNoneBefore, IsUnknownHere, IsUnknownAmong, IsUnknownFault}
use Rattle.constraint_expand.proofs.FirstLemmas.{first_here}

-- the fault of one statement is that of its kind, where no earlier one has a fault
pub unknown_here : (types : TypeTable) (n : ListNames) (ps : List PlacedTree) (kind : Kind) (i : ℕ) (p : PlacedTree) (e : ExpandFault) → statement_at ps i ≡ p → i < length ps →
    HasNoneBefore (picks kind) ps (NamesUnknown types n ps) i → IsUnknownHere types n ps kind p i e → IsUnknownAmong types n ps kind e
unknown_here types n ps kind i p (UnknownName name at statement) here within none (same, picked, found) =
    subst (λ k. IsUnknownAmong types n ps kind (UnknownName name at k)) (sym same) (
      first_here (picks kind) ps (NamesUnknown types n ps) i within (subst (λ q. picks kind q ≡ true) (sym here) picked)
          (subst (NamesUnknown types n ps) (sym here) (mention at (string_bytes name), found)) none,
      subst (λ q. unknown_of types n ps q ≡ Some (mention at (string_bytes name))) (sym here) found,
    )
unknown_here types n ps kind i p (NoIntro feature at statement) here within none h = h
unknown_here types n ps kind i p (Intro feature a b statement) here within none h = h
unknown_here types n ps kind i p (NoStructure name statement) here within none h = h
unknown_here types n ps kind i p NoMemory here within none h = h

pub unknown_of_types : (types : TypeTable) (s : Settled) (ps : List PlacedTree) (e : ExpandFault) → IsUnknownAmong types s.lists ps Types e → IsUnknownFault types s ps e
unknown_of_types types s ps (UnknownName name at k) h = record { first = first_of_types h.0; mentioned = h.1 }
unknown_of_types types s ps (NoIntro feature at statement) h = h
unknown_of_types types s ps (Intro feature a b statement) h = h
unknown_of_types types s ps (NoStructure name statement) h = h
unknown_of_types types s ps NoMemory h = h

pub unknown_of_instances : (types : TypeTable) (s : Settled) (ps : List PlacedTree) (e : ExpandFault) → HoldsOfNone (picks Types) ps (NamesUnknown types s.lists ps) →
    IsUnknownAmong types s.lists ps Instances e → IsUnknownFault types s ps e
unknown_of_instances types s ps (UnknownName name at k) none h = record { first = first_of_instances none h.0; mentioned = h.1 }
unknown_of_instances types s ps (NoIntro feature at statement) none h = h
unknown_of_instances types s ps (Intro feature a b statement) none h = h
unknown_of_instances types s ps (NoStructure name statement) none h = h
unknown_of_instances types s ps NoMemory none h = h

-- what is known of both kinds
pub names_known : (types : TypeTable) (s : Settled) (ps : List PlacedTree) → HoldsOfNone (picks Types) ps (NamesUnknown types s.lists ps) →
    HoldsOfNone (picks Instances) ps (NamesUnknown types s.lists ps) → AreKnown types s ps
names_known types s ps a b = record { of_types = a; of_instances = b }
