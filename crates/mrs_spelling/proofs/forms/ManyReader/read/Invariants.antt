use Rattle.std.proofs.Common.{ℕ, List, length}
use denote.Text.{Utf8}
use denote.Shadow.{shadow}
use Rattle.std.specs.Str.{chars}
use Rattle.mrs_spelling.specs.declared.tokens.Token.{Token}
use Rattle.mrs_spelling.specs.Forms.{many}
use Rattle.mrs_spelling.specs.Scanning.{HasRead}
use Rattle.mrs_spelling.specs.Reading.{Outcome}
use Rattle.mrs_spelling.proofs.forms.ManyReader.read.Given as goal

abbrev pub invariant-loop-tokens : goal.invariant-loop-tokens
invariant-loop-tokens g l = record {
  text : shadow (Utf8 l.rest);
  leads_on : (o : Outcome) (rest : List ℕ) (new : List Token) → HasRead (many g.C.CharClass.class g.P.Reader.form) o (chars l.rest) rest l.tokens.items new
      → HasRead (many g.C.CharClass.class g.P.Reader.form) o (chars l.text) rest l.fn.tokens.items new;
}

abbrev pub decreases-loop-tokens : goal.decreases-loop-tokens
decreases-loop-tokens g l = length (chars l.rest)
