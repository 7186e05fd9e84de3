use Rattle.std.proofs.Common.{◌∙◌, sym}
use Rattle.std.specs.Str.{chars}
use Rattle.std.proofs.lemmas.Result.{IfOk-weaker, IfErr-weaker}
use Rattle.mrs_spelling.specs.Forms.{either}
use Rattle.mrs_spelling.specs.Scanning.{HasRead, HasStopped}
use Rattle.mrs_spelling.specs.Reading.{either_yes, either_no, done}
use Rattle.mrs_spelling.proofs.Scanned.{read_as, stops_as}
use Rattle.mrs_spelling.proofs.forms.EitherReader.read.Goals as goal

pub returns-then-begins-clause-read : goal.returns-then-begins-clause-read
returns-then-begins-clause-read g c =
    let x = g.C.CharClass.class in
    let p = g.P.Reader.form in
    let q = g.Q.Reader.form in
    let cs = chars c.args.text.now in
    let t = sym c.begins.ensures ∙ c.if-begins.true in
    IfOk-weaker c.read.result (λ rest. HasRead p done cs (chars rest.now) c.args.tokens.now.items c.read.new.tokens.items) (λ rest. HasRead (either x p q) done cs (chars rest.now) c.args.tokens.now.items c.read.new.tokens.items)
    (λ rest h. read_as p (either x p q) done cs (chars rest.now) c.args.tokens.now.items c.read.new.tokens.items (λ b d es k. either_yes x p q b cs d (chars rest.now) es done t k) h) c.read.ensures.read

pub returns-then-begins-clause-stopped : goal.returns-then-begins-clause-stopped
returns-then-begins-clause-stopped g c =
    let x = g.C.CharClass.class in
    let p = g.P.Reader.form in
    let q = g.Q.Reader.form in
    let cs = chars c.args.text.now in
    let t = sym c.begins.ensures ∙ c.if-begins.true in
    IfErr-weaker c.read.result (λ e. HasStopped p cs c.args.tokens.now.items c.read.new.tokens.items e) (λ e. HasStopped (either x p q) cs c.args.tokens.now.items c.read.new.tokens.items e)
    (λ e h. stops_as p (either x p q) cs c.args.tokens.now.items c.read.new.tokens.items e (λ b d rest es k. either_yes x p q b cs d rest es _ t k) h) c.read.ensures.stopped

pub returns-else-begins-clause-read : goal.returns-else-begins-clause-read
returns-else-begins-clause-read g c =
    let x = g.C.CharClass.class in
    let p = g.P.Reader.form in
    let q = g.Q.Reader.form in
    let cs = chars c.args.text.now in
    let t = sym c.begins.ensures ∙ c.if-begins.false in
    let new = c.read-else-begins.new.tokens.items in
    IfOk-weaker c.read-else-begins.result (λ rest. HasRead q done cs (chars rest.now) c.args.tokens.now.items new) (λ rest. HasRead (either x p q) done cs (chars rest.now) c.args.tokens.now.items new)
    (λ rest h. read_as q (either x p q) done cs (chars rest.now) c.args.tokens.now.items new (λ b d es k. either_no x p q b cs d (chars rest.now) es done t k) h) c.read-else-begins.ensures.read

pub returns-else-begins-clause-stopped : goal.returns-else-begins-clause-stopped
returns-else-begins-clause-stopped g c =
    let x = g.C.CharClass.class in
    let p = g.P.Reader.form in
    let q = g.Q.Reader.form in
    let cs = chars c.args.text.now in
    let t = sym c.begins.ensures ∙ c.if-begins.false in
    let new = c.read-else-begins.new.tokens.items in
    IfErr-weaker c.read-else-begins.result (λ e. HasStopped q cs c.args.tokens.now.items new e) (λ e. HasStopped (either x p q) cs c.args.tokens.now.items new e)
    (λ e h. stops_as q (either x p q) cs c.args.tokens.now.items new e (λ b d rest es k. either_no x p q b cs d rest es _ t k) h) c.read-else-begins.ensures.stopped
