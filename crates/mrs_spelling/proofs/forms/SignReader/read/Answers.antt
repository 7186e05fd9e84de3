use Rattle.std.proofs.Common.{◌∙◌, sym}
use Rattle.std.specs.Str.{chars}
use Rattle.mrs_spelling.proofs.Scanned.{sign_read, sign_stops, not_at, not_at_end}
use Rattle.mrs_spelling.proofs.forms.SignReader.read.Goals as goal
use Rattle.mrs_spelling.proofs.forms.SignReader.read.Goals.{in_default-via-in-Some+else-has, in_default-via-in_default}

pub returns-in-Some-clause-read : goal.returns-in-Some-clause-read
returns-in-Some-clause-read g c = sign_read g.C.CharClass.class (chars c.args.text.now) (chars c.in-Some.rest.now) c.in-Some.c c.args._tokens.now.items c.in-Some.ensures.parts (sym c.has.ensures ∙ c.if-has.true)

pub returns-in_default-clause-stopped : goal.returns-in_default-clause-stopped
returns-in_default-clause-stopped g c =
    let x = g.C.CharClass.class in
    let cs = chars c.args.text.now in
    sign_stops x c.args.text.now c.args._tokens.now.items c.utf8.text (elim c.in_default.branch [
      | in_default-via-in-Some+else-has w ↦ not_at x cs (chars w.in-Some.rest.now) w.in-Some.c w.in-Some.ensures.parts (sym w.has.ensures ∙ w.if-has.false)
      | in_default-via-in_default w ↦ not_at_end x cs w.in_default.ensures.parts
    ])
