-- What the faults of tokens, of statements and of rules are as faults of a text.
use Rattle.tdl_lexer.specs.declared.LexFault.{LexFault}
use Rattle.tdl_reader.specs.declared.ReadFault.{ReadFault}
use Rattle.tdl_lexer.specs.declared.LexFault.TheVariants.{NoMemory as NoRoomForTokens}
use Rattle.tdl_reader.specs.declared.ReadFault.TheVariants.{NoMemory as NoRoomForTrees}
use Rattle.transfer_rules.specs.declared.fault.RulesFault.{RulesFault}
use Rattle.transfer_rules.specs.declared.fault.RulesFault.TheVariants.{Form as RulesForm, NoMemory as NoRoomForRules}
use Rattle.transfer_rules.specs.declared.fault.TransferFault.{TransferFault}
use Rattle.transfer_rules.specs.declared.fault.TransferFault.TheVariants.{Lex, Read, Form, NoMemory}

abbrev pub lex_fault : LexFault → TransferFault
lex_fault NoRoomForTokens = NoMemory
lex_fault fault = Lex fault

abbrev pub read_fault : ReadFault → TransferFault
read_fault NoRoomForTrees = NoMemory
read_fault fault = Read fault

abbrev pub form_fault : RulesFault → TransferFault
form_fault (RulesForm at) = Form at
form_fault NoRoomForRules = NoMemory
