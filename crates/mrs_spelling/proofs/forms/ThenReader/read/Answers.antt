use Rattle.std.specs.Str.{chars}
use Rattle.std.proofs.lemmas.Result.{IfOk-weaker, IfErr-weaker}
use Rattle.mrs_spelling.specs.Forms.{seq}
use Rattle.mrs_spelling.specs.Scanning.{HasRead, HasStopped}
use Rattle.mrs_spelling.specs.Reading.{seq_stop, seq_go, done}
use Rattle.mrs_spelling.proofs.Scanned.{at_exit, stops_as, stops_after, seq_read}
use Rattle.mrs_spelling.proofs.forms.ThenReader.read.Goals as goal

pub returns-in_err-rest-clause-stopped : goal.returns-in_err-rest-clause-stopped
returns-in_err-rest-clause-stopped g c =
    let p = g.P.Reader.form in
    let q = g.Q.Reader.form in
    let cs = chars c.args.text.now in
    at_exit (λ e. HasStopped (seq p q) cs c.args.tokens.now.items c.read.new.tokens.items e) c.from_residual.result c.in_err-rest.field-0.0 c.from_residual.ensures.1
    (stops_as p (seq p q) cs c.args.tokens.now.items c.read.new.tokens.items c.in_err-rest.field-0.0 (λ b d rest es h. seq_stop p q b cs d rest es h) c.in_err-rest.ensures.stopped)

pub returns-clause-read : goal.returns-clause-read
returns-clause-read g c =
    let p = g.P.Reader.form in
    let q = g.Q.Reader.form in
    let cs = chars c.args.text.now in
    let mid = chars c.in_ok-rest.rest.now in
    IfOk-weaker c.read-2.result (λ rest. HasRead q done mid (chars rest.now) c.read.new.tokens.items c.read-2.new.tokens.items) (λ rest. HasRead (seq p q) done cs (chars rest.now) c.args.tokens.now.items c.read-2.new.tokens.items)
    (λ rest h. seq_read p q done cs mid (chars rest.now) c.args.tokens.now.items c.read.new.tokens.items c.read-2.new.tokens.items c.in_ok-rest.ensures.read h) c.read-2.ensures.read

pub returns-clause-stopped : goal.returns-clause-stopped
returns-clause-stopped g c =
    let p = g.P.Reader.form in
    let q = g.Q.Reader.form in
    let cs = chars c.args.text.now in
    let mid = chars c.in_ok-rest.rest.now in
    IfErr-weaker c.read-2.result (λ e. HasStopped q mid c.read.new.tokens.items c.read-2.new.tokens.items e) (λ e. HasStopped (seq p q) cs c.args.tokens.now.items c.read-2.new.tokens.items e)
    (λ e h. stops_after p q (seq p q) cs mid c.args.tokens.now.items c.read.new.tokens.items c.read-2.new.tokens.items e (λ b n d rest es fs k l. seq_go p q b cs n mid d rest es fs _ k l) c.in_ok-rest.ensures.read h) c.read-2.ensures.stopped
