use Rattle.std.proofs.Common.{ℕ, List, drop}
use denote.Text.{Utf8}
use denote.Shadow.{shadow}
use Rattle.std.specs.Str.{chars}
use Rattle.mrs_spelling.specs.declared.tokens.Token.{Token}
use Rattle.mrs_spelling.specs.Grammar.{word}
use Rattle.mrs_spelling.specs.Scanning.{HasRead}
use Rattle.mrs_spelling.specs.Reading.{Outcome}
use Rattle.mrs_spelling.proofs.words.read_word.Given as goal

abbrev pub invariant-loop-byte : goal.invariant-loop-byte
invariant-loop-byte l = record {
  text : shadow (Utf8 l.rest);
  leads_on : (o : Outcome) (rest : List ℕ) (old new : List Token) → HasRead (word (drop l.byte-index l.terminal)) o (chars l.rest) rest old new → HasRead (word l.terminal) o (chars l.text) rest old new;
}
