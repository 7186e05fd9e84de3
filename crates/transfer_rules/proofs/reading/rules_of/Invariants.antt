use Rattle.std.proofs.Common.{map, take}
use Rattle.tdl_reader.specs.Views.{statement_of}
use Rattle.transfer_model.specs.Views.{rule_of}
use Rattle.transfer_rules.specs.Forms.{AreRules}
use Rattle.transfer_rules.specs.Inner.Read.{AreRead}
use Rattle.transfer_rules.proofs.reading.rules_of.Given as goal

abbrev pub invariant-loop-statement : goal.invariant-loop-statement
invariant-loop-statement l =
    record {
      rules : AreRules (map statement_of (take l.statement-index l.statements)) (map rule_of l.reading.rules.items);
      read : AreRead l.reading.names.keys l.reading.rules.items;
    }
