-- What is known of a type system of statements, for its structures and their faults.
use Rattle.std.proofs.Common.{ℕ, ◌≡◌, ◌<◌, ◌≤◌, ◌⊎◌, true, List, length, map, sym, ◌∙◌, ap, subst}
use Rattle.fs_model.specs.Claims.{IsBare}
use Rattle.type_hierarchy.specs.Decls.{Name, texts}
use Rattle.type_hierarchy.specs.Table.{TypeTable, count_of, completed_count}
use Rattle.fs_unify.specs.Rules.{Grammar, IsGrammar, system_of}
use Rattle.constraint_expand.specs.declared.books.Book.{Book}
use Rattle.grammar_files.specs.declared.expand_fault.ExpandFault.{ExpandFault}
use Rattle.grammar_files.specs.Placings.{PlacedTree}
use Rattle.constraint_expand.specs.Statements.{statement_at, defines_instance, HoldsOfNone, IsNowhere}
use Rattle.constraint_expand.specs.Conditions.{AreTypesFor, IsDefined, HasLesserBelow, HasNoneAbove}
use Rattle.constraint_expand.specs.Systems.{Settled, IsSystemOf, words_of, instance_claims}
use Rattle.constraint_expand.specs.Faults.{HasNoStructure, AreKnown, IsFaultOf}
use Rattle.constraint_expand.specs.Books.{instance_of, numbered_of, numbered_in, AreConstraints, IsBookOf}
use Rattle.constraint_expand.specs.Shaped.{HaveClaimsIn, AreShaped, HasNoConstraint, HasNoShape, IsFaultyAmongTypes, IsFaultyAmongInstances}
use Rattle.constraint_expand.proofs.ExpandLemmas.{instance_in_range}
use Rattle.constraint_expand.proofs.FaultLemmas.{fault_structure}
use Rattle.constraint_expand.proofs.StructureLemmas.{structure_of_types, structure_of_instances, none_lacks, instances_are}

module _ (types : TypeTable) (s : Settled) (ps : List PlacedTree) (feats : List Name) (g : Grammar) (types_for : AreTypesFor types ps) (sys : IsSystemOf types s ps feats g) where
  pub all_covered : (t : ℕ) → t < completed_count g.types → IsDefined g.types ps t ⊎ (HasLesserBelow g.types ps t ⊎ HasNoneAbove g.types ps t)
  all_covered =
      subst (λ (y : TypeTable). (t : ℕ) → t < completed_count y → IsDefined y ps t ⊎ (HasLesserBelow y ps t ⊎ HasNoneAbove y ps t)) (sym sys.types_are) types_for.covered

  pub all_in_range : completed_count types ≤ count_of types → (k : ℕ) → k < length ps → defines_instance (statement_at ps k) ≡ true →
      HaveClaimsIn g (instance_claims (words_of g.types s.lists feats) (statement_at ps k))
  all_in_range le k lt d =
      subst (λ (y : TypeTable). HaveClaimsIn g (instance_claims (words_of y s.lists feats) (statement_at ps k))) (sym sys.types_are)
      (instance_in_range types s ps feats g types_for le sys k lt d)

  pub fault_of_types : (e : ExpandFault) → AreKnown types s ps → IsFaultyAmongTypes g s.node_limit ps e → IsFaultOf types s ps e
  fault_of_types e known h = fault_structure types s ps e known (structure_of_types types s ps feats g e types_for sys h)

  pub fault_of_instances : (e : ExpandFault) → AreKnown types s ps → ((t : ℕ) → t < completed_count g.types → HasNoConstraint g s.node_limit t → ⊥) →
      IsFaultyAmongInstances g s.node_limit (words_of g.types s.lists feats) ps e → IsFaultOf types s ps e
  fault_of_instances e known all h =
      fault_structure types s ps e known
      (structure_of_instances types s ps feats g e types_for sys
      (subst (λ (y : TypeTable). (t : ℕ) → t < completed_count y → HasNoConstraint g s.node_limit t → ⊥) sys.types_are all)
      (subst (λ (y : TypeTable). IsFaultyAmongInstances g s.node_limit (words_of y s.lists feats) ps e) sys.types_are h))

  pub all_shaped : ((t : ℕ) → t < completed_count g.types → HasNoConstraint g s.node_limit t → ⊥) →
      HoldsOfNone defines_instance ps (HasNoShape g s.node_limit (words_of g.types s.lists feats)) → IsNowhere ps (HasNoStructure g s feats)
  all_shaped all shapes =
      none_lacks types s ps feats g types_for sys
      (subst (λ (y : TypeTable). (t : ℕ) → t < completed_count y → HasNoConstraint g s.node_limit t → ⊥) sys.types_are all)
      (subst (λ (y : TypeTable). HoldsOfNone defines_instance ps (HasNoShape g s.node_limit (words_of y s.lists feats))) sys.types_are shapes)

-- the book that is made of these parts, where the names of its features are had in three places
pub book_is : (types : TypeTable) (s : Settled) (ps : List PlacedTree) (b : Book) (first second third : List Name) (table : TypeTable) → first ≡ texts b.feats.items →
    second ≡ texts b.feats.items → third ≡ texts b.feats.items → table ≡ b.system.types → AreKnown types s ps → IsSystemOf types s ps first b.system → IsGrammar b.system →
    IsBare (system_of b.system) → IsNowhere ps (HasNoStructure b.system s first) → AreConstraints b.system b.constraints.items →
    AreShaped b.system (words_of b.system.types s.lists second) ps (map instance_of b.instances.items) → numbered_of b.names ≡ numbered_in table third s → IsBookOf types s ps b
book_is types s ps b first second third table a1 a2 a3 at known sys in_range bare has constraints shaped names =
    record {
      known = known;
      system = subst (λ (l : List Name). IsSystemOf types s ps l b.system) a1 sys;
      in_range = in_range;
      bare = bare;
      shaped = subst (λ (l : List Name). IsNowhere ps (HasNoStructure b.system s l)) a1 has;
      constraints = constraints;
      instances = instances_are types s ps (texts b.feats.items) b.system (map instance_of b.instances.items) sys.types_are
          (subst (λ (l : List Name). AreShaped b.system (words_of types s.lists l) ps (map instance_of b.instances.items)) a2
          (subst (λ (y : TypeTable). AreShaped b.system (words_of y s.lists second) ps (map instance_of b.instances.items)) sys.types_are shaped));
      names = names ∙ ap (λ (y : TypeTable). numbered_in y third s) (at ∙ sys.types_are) ∙ ap (λ (l : List Name). numbered_in types l s) a3;
    }
