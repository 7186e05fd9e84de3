use Rattle.std.proofs.Common.{sym}
use Rattle.std.specs.Str.{chars}
use Rattle.mrs_spelling.specs.declared.tokens.Stop.TheVariants.{NoMemory}
use Rattle.mrs_spelling.specs.Forms.{token}
use Rattle.mrs_spelling.specs.Scanning.{HasStopped}
use Rattle.mrs_spelling.specs.Reading.{token_no}
use Rattle.mrs_spelling.proofs.Scanned.{at_exit, stops_as, token_reads, cut_at, cut_length, cut_boundary, cut_front, size_of_text, spelled_back}
use Rattle.mrs_spelling.proofs.forms.AsReader.read.Goals as goal

pub returns-in_err-rest-clause-stopped : goal.returns-in_err-rest-clause-stopped
returns-in_err-rest-clause-stopped g c =
    let k = g.K.Mark.KIND in
    let p = g.P.Reader.form in
    let cs = chars c.args.text.now in
    let e = c.in_err-rest.field-0.0 in
    at_exit (λ e. HasStopped (token k p) cs c.args.tokens.now.items c.read.new.tokens.items e) c.from_residual.result e c.from_residual.ensures.1
    (stops_as p (token k p) cs c.args.tokens.now.items c.read.new.tokens.items e (λ b d rest es h. token_no k p b cs d rest es h) c.in_err-rest.ensures.stopped)

pub overflow_sub-left : goal.overflow_sub-left
overflow_sub-left g c = cut_length c.args.text.now c.in_ok-rest.rest.now (cut_at g.P.Reader.form c.args.text.now c.in_ok-rest.rest.now c.args.tokens.now.items c.read.new.tokens.items c.utf8.text c.in_ok-rest.ensures.utf8 c.in_ok-rest.ensures.read)

pub range-requires-clause-end_boundary : goal.range-requires-clause-end_boundary
range-requires-clause-end_boundary g c = cut_boundary c.args.text.now c.in_ok-rest.rest.now c.in_ok-rest.ensures.utf8
    (cut_at g.P.Reader.form c.args.text.now c.in_ok-rest.rest.now c.args.tokens.now.items c.read.new.tokens.items c.utf8.text c.in_ok-rest.ensures.utf8 c.in_ok-rest.ensures.read)

pub returns-in_err-push-clause-stopped : goal.returns-in_err-push-clause-stopped
returns-in_err-push-clause-stopped g c =
    at_exit (λ e. HasStopped (token g.K.Mark.KIND g.P.Reader.form) (chars c.args.text.now) c.args.tokens.now.items c.push.new.self.items e) c.from_residual-in_err-push.result NoMemory c.from_residual-in_err-push.ensures.1 tt

pub returns-clause-read : goal.returns-clause-read
returns-clause-read g c =
    let text = c.args.text.now in
    let rest = c.in_ok-rest.rest.now in
    let w = cut_at g.P.Reader.form text rest c.args.tokens.now.items c.read.new.tokens.items c.utf8.text c.in_ok-rest.ensures.utf8 c.in_ok-rest.ensures.read in
    token_reads g.K.Mark.KIND g.P.Reader.form (chars text) (chars rest) (chars c.range.result.now) c.args.tokens.now.items c.read.new.tokens.items c.push.new.self.items _ c.in_ok-rest.ensures.read
    (cut_front text rest c.range.result.now w c.range.utf8 c.range.ensures.value) (sym c.KIND.ensures) (spelled_back c.range.result.now c.range.utf8) (sym (size_of_text text c.utf8.text)) c.in_ok-push.ensures.items
