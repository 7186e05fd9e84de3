-- Statements settle types or have a first fault.
use Rattle.std.proofs.Common.{◌≡◌, ◌⊎◌, inl, inr}
use Rattle.type_hierarchy.specs.Table.{TypeTable}
use Rattle.glb_completion.specs.Completion.{IsCompletionOf, HasTooMany}
use Rattle.grammar_files.specs.declared.fault.Why.TheVariants.{TooManyTypes}
use Rattle.grammar_files.specs.Faults.{FoundFault}
use Rattle.grammar_files.specs.Walks.{WalkedTree, fault_at}
use Rattle.grammar_files.specs.WalkViews.{CanSettle}
use Rattle.grammar_types.specs.Typings.{decls_in, strings_in, file_name, IsWritten, AreTypesOf, IsTypesFault, too_many}
use Rattle.grammar_types.specs.Outcomes.{HaveTexts}
use Rattle.grammar_types.proofs.EachCompletion.{end_of}
use Rattle.grammar_types.proofs.EachFault.{DefinesTypes, HasOutcome, fault_or_none}
use Rattle.grammar_types.proofs.EachHierarchy.{table, hierarchy, rising}

pub types_or_fault : (w : WalkedTree) → CanSettle w → HaveTexts w.statements → ((t : TypeTable) × AreTypesOf w t) ⊎ ((f : FoundFault) × IsTypesFault w f)
types_or_fault w can texts = go (fault_or_none w texts)
  where
    ended : (h : TypeTable) → IsWritten w h → ((t : TypeTable) × IsCompletionOf h (strings_in w.statements) t) ⊎ HasTooMany h → ((t : TypeTable) × AreTypesOf w t) ⊎ ((f : FoundFault) × IsTypesFault w f)
    ended h is (inl r) = inl (r.0, (h, is, r.1))
    ended h is (inr many) = inr (fault_at (file_name w 0) 0 TooManyTypes, too_many h is many)

    settled : DefinesTypes w → ((t : TypeTable) × AreTypesOf w t) ⊎ ((f : FoundFault) × IsTypesFault w f)
    settled d =
        let h : TypeTable = table w.settings.top_type w.settings.string_type (decls_in w.statements) can.apart d.faultless in
        let is : IsWritten w h = record {
          no_repeat = d.no_repeat;
          faultless = d.faultless;
          hierarchy = hierarchy w.settings.top_type w.settings.string_type (decls_in w.statements) can.apart d.faultless;
          rising = rising w.settings.top_type w.settings.string_type (decls_in w.statements) can.apart d.faultless;
        } in
        ended h is (end_of h is.rising (strings_in w.statements))

    go : HasOutcome w → ((t : TypeTable) × AreTypesOf w t) ⊎ ((f : FoundFault) × IsTypesFault w f)
    go (inl r) = inr r
    go (inr d) = settled d
