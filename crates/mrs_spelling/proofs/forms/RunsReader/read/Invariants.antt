use Rattle.std.proofs.Common.{ℕ, List, length}
use denote.Text.{Utf8}
use denote.Shadow.{shadow}
use Rattle.std.specs.Str.{chars}
use Rattle.mrs_spelling.specs.declared.tokens.Token.{Token}
use Rattle.mrs_spelling.specs.Forms.{many, sign}
use Rattle.mrs_spelling.specs.Scanning.{HasRead}
use Rattle.mrs_spelling.specs.Reading.{done}
use Rattle.mrs_spelling.proofs.forms.RunsReader.read.Given as goal

abbrev pub invariant-loop-c : goal.invariant-loop-c
invariant-loop-c g l = record {
  text : shadow (Utf8 l.rest);
  leads_on : (rest : List ℕ) (old : List Token) → HasRead (many g.C.CharClass.class (sign g.C.CharClass.class)) done (chars l.rest) rest old old
      → HasRead (many g.C.CharClass.class (sign g.C.CharClass.class)) done (chars l.text) rest old old;
}

abbrev pub decreases-loop-c : goal.decreases-loop-c
decreases-loop-c g l = length (chars l.rest)
