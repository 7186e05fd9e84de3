use Rattle.grammar_files.proofs.OneLemmas.{OneReading}
use Rattle.transfer_commands.proofs.OneAnswers.{TextLaws, ResultLaws}
use Rattle.transfer_commands.proofs.TransferLaws.{RuleLaws, transfer-laws}
use Rattle.transfer_commands.proofs.laws.transfer_lawful.Goals as goal

pub returns : goal.returns
returns c =
    let reading : OneReading = record { lexed = c.one_reading.ensures; statements = c.one_reading-2.ensures.statements; faults = c.one_reading-2.ensures.faults; not_both = c.one_reading-2.ensures.not_both } in
    let rules : RuleLaws = record { one_rules = c.one_rules.ensures; rules_or_fault = c.rules_or_fault.ensures; one_outside = c.one_outside.ensures; all_rules = c.all_rules.ensures } in
    let texts : TextLaws = record {
      one_meaning = c.one_meaning.ensures;
      all_valid = c.all_valid.ensures;
      no_fault = c.no_fault.ensures;
      one_place = c.one_place.ensures;
      one_text = c.renumbered_text.ensures;
    } in
    let results : ResultLaws = record { valid = c.valid_result.ensures; not_both = c.one_result.ensures.not_both; one_result = c.renumbered_result.ensures.result; none = c.renumbered_result.ensures.none } in
    transfer-laws reading rules texts results
