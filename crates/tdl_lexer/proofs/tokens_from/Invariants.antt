use Rattle.std.proofs.Common.{◌+◌, ◌-◌, ◌≤◌, List, ◌++◌, length, Option}
use denote.Text.{Utf8}
use denote.Shadow.{shadow}
use Rattle.std.specs.Str.{chars}
use Rattle.tdl_lexer.specs.declared.Token.{Token}
use Rattle.tdl_lexer.specs.declared.LexFault.{LexFault}
use Rattle.tdl_lexer.specs.declared.Mode.TheVariants.{Plain}
use Rattle.tdl_lexer.specs.Readings.{Reads}
use Rattle.tdl_lexer.proofs.tokens_from.Given as goal

abbrev pub decreases-loop-rest : goal.decreases-loop-rest
decreases-loop-rest l = length l.rest

abbrev pub invariant-loop-rest : goal.invariant-loop-rest
invariant-loop-rest l = record {
  text : shadow (Utf8 l.rest);
  room : length l.rest ≤ length l.text;
  reads : (ts : List Token) (end : Option LexFault) → Reads l.mode (l.start + (length l.text - length l.rest)) (chars l.rest) ts end → Reads Plain l.start (chars l.text) (l.out.items ++ ts) end;
}
