-- Faults of each kind, where there is none of an earlier kind.
use Rattle.std.proofs.Common.{ℕ, ◌≡◌, ◌≤◌, ◌⊎◌, inl, inr, List, [], String, Vec, subst}
use Rattle.std.specs.Global.{Global}
use Rattle.std.specs.List.{AllZip}
use Rattle.std.specs.List.Sorted.{IsPermutation, IsSorted}
use Rattle.std.specs.Cmp.Lexicographic.{slice_cmp}
use Rattle.std.specs.Ordering.{nat_cmp}
use Rattle.std.proofs.lemmas.List.Sorted.{IsPermutation-sym}
use Rattle.fs_model.specs.Claims.{Has}
use Rattle.type_hierarchy.specs.declared.types.Ty.{Ty}
use Rattle.type_hierarchy.specs.Decls.{Name}
use Rattle.type_hierarchy.specs.Table.{TypeTable, count_of, completed_count}
use Rattle.grammar_files.specs.declared.expand_fault.ExpandFault.{ExpandFault}
use Rattle.grammar_files.specs.declared.expand_fault.ExpandFault.TheVariants.{UnknownName, NoIntro, Intro, NoStructure, NoMemory}
use Rattle.grammar_files.specs.Placings.{PlacedTree}
use Rattle.constraint_expand.specs.Conditions.{AreTypesFor, IsDefined}
use Rattle.constraint_expand.specs.Features.{features_used, writers_of}
use Rattle.constraint_expand.specs.Introducers.{IsIntroducer}
use Rattle.constraint_expand.specs.Systems.{Settled}
use Rattle.constraint_expand.specs.Faults.{AreKnown, AreWritten, IsFaultOf}
use Rattle.constraint_expand.specs.Found.{numbers_noted, with_each, AreNoted, HasNoted, IsUnknownFault, IsUnwrittenFault, IsSplitFault, IsSplitAmong, IsStructureFault, IsEarlyFault, IsIntroduced}
use Rattle.constraint_expand.proofs.NameLemmas.{with_each-only, moved_has}
use Rattle.constraint_expand.proofs.SplitLemmas.{are_noted, writers_defined, split_is, zip_moved}
use Rattle.constraint_expand.proofs.ExpandLemmas.{features_are}

pub fault_unknown : (types : TypeTable) (s : Settled) (ps : List PlacedTree) (e : ExpandFault) → IsUnknownFault types s ps e → IsEarlyFault types s ps e
fault_unknown types s ps (UnknownName name at k) h = h
fault_unknown types s ps (NoIntro f at k) h = absurd h
fault_unknown types s ps (Intro f a b k) h = absurd h
fault_unknown types s ps (NoStructure name k) h = absurd h
fault_unknown types s ps NoMemory h = tt

pub fault_unwritten : (types : TypeTable) (s : Settled) (ps : List PlacedTree) (e : ExpandFault) → AreKnown types s ps → IsUnwrittenFault types s ps e → IsEarlyFault types s ps e
fault_unwritten types s ps (UnknownName name at k) known h = absurd h
fault_unwritten types s ps (NoIntro f at k) known h = (known, h)
fault_unwritten types s ps (Intro f a b k) known h = absurd h
fault_unwritten types s ps (NoStructure name k) known h = absurd h
fault_unwritten types s ps NoMemory known h = tt

fault_split : (types : TypeTable) (s : Settled) (ps : List PlacedTree) (e : ExpandFault) → AreKnown types s ps → AreWritten types s ps → IsSplitFault types s ps e → IsEarlyFault types s ps e
fault_split types s ps (UnknownName name at k) known written h = absurd h
fault_split types s ps (NoIntro f at k) known written h = absurd h
fault_split types s ps (Intro f a b k) known written h = (known, written, h)
fault_split types s ps (NoStructure name k) known written h = absurd h
fault_split types s ps NoMemory known written h = tt

pub early_fault : (types : TypeTable) (s : Settled) (ps : List PlacedTree) (e : ExpandFault) → IsEarlyFault types s ps e → IsFaultOf types s ps e
early_fault types s ps (UnknownName name at k) h = h
early_fault types s ps (NoIntro f at k) h = h
early_fault types s ps (Intro f a b k) h = h
early_fault types s ps (NoStructure name k) h = absurd h
early_fault types s ps NoMemory h = h

pub fault_structure : (types : TypeTable) (s : Settled) (ps : List PlacedTree) (e : ExpandFault) → AreKnown types s ps → IsStructureFault types s ps e → IsFaultOf types s ps e
fault_structure types s ps (UnknownName name at k) known h = absurd h
fault_structure types s ps (NoIntro f at k) known h = absurd h
fault_structure types s ps (Intro f a b k) known h = absurd h
fault_structure types s ps (NoStructure name k) known h = (known, h)
fault_structure types s ps NoMemory known h = tt

key_used : (used keys : List Name) (f : Name) → keys ≡ with_each [] used → Has f keys → Has f used
key_used used keys f e h = go (with_each-only [] used f (subst (Has f) e h))
  where
    go : Has f [] ⊎ Has f used → Has f used
    go (inl k) = elim k [ ]
    go (inr k) = k

-- what is known of the features of a grammar and their writers, as they are noted
module _ (types : TypeTable) (s : Settled) (ps : List PlacedTree) (entries : List (String Global × Vec Ty Global)) (keys : List Name)
    (types_for : AreTypesFor types ps) (le : completed_count types ≤ count_of types) (known : AreKnown types s ps) (written : AreWritten types s ps)
    (noted_are : (f : Name) → numbers_noted entries f ≡ writers_of types s.lists ps f) (keys_are : keys ≡ with_each [] (features_used s.lists ps)) where
  pub keys_noted : (f : Name) → Has f keys → AreNoted (count_of types) (numbers_noted entries f)
  keys_noted f h =
      are_noted types s ps f (numbers_noted entries f) types_for.top_is_there le written (key_used (features_used s.lists ps) keys f keys_are h) (noted_are f)

  pub keys_defined : (f : Name) (t : ℕ) → Has f keys → Has t (numbers_noted entries f) → IsDefined types ps t
  keys_defined f t _ h = writers_defined types s ps f types_for known t (subst (Has t) (noted_are f) h)

  pub keys_fault : (e : ExpandFault) → IsSplitAmong types ps (numbers_noted entries) keys e → IsEarlyFault types s ps e
  keys_fault e h = fault_split types s ps e known written (split_is types s ps (numbers_noted entries) keys e noted_are keys_are h)

  pub feats_noted : (feats : List Name) → IsPermutation keys feats → (f : Name) → Has f feats → AreNoted (count_of types) (numbers_noted entries f)
  feats_noted feats moved f h = keys_noted f (moved_has feats keys (IsPermutation-sym keys feats moved) f h)

  pub feats_introduced : (feats : List Name) → IsPermutation keys feats → ((f : Name) → Has f keys → HasNoted types (numbers_noted entries f)) →
      (f : Name) → Has f feats → HasNoted types (numbers_noted entries f)
  feats_introduced feats moved has f h = has f (moved_has feats keys (IsPermutation-sym keys feats moved) f h)

  pub introduced_is : (feats : List Name) (found : List ℕ) → IsPermutation keys feats → IsSorted (slice_cmp nat_cmp) feats →
      AllZip (λ f t. IsIntroducer types (numbers_noted entries f) t) feats found → IsIntroduced types s ps feats found
  introduced_is feats found moved sorted zip =
      record {
        known = known;
        features = features_are s.lists ps keys feats keys_are moved sorted;
        introducers = zip_moved (λ f t. IsIntroducer types (numbers_noted entries f) t) (λ f t. IsIntroducer types (writers_of types s.lists ps f) t) feats found
            (λ f t i. subst (λ ws. IsIntroducer types ws t) (noted_are f) i) zip;
      }
