use Rattle.std.proofs.Common.{◌∙◌, sym}
use Rattle.std.specs.Str.{chars}
use Rattle.mrs_spelling.specs.Forms.{many}
use Rattle.mrs_spelling.specs.Scanning.{HasStopped}
use Rattle.mrs_spelling.proofs.Scanned.{at_exit, many_reads, many_ends, stops_as, gets_on, stops_on}
use Rattle.mrs_spelling.specs.Reading.{done, stuck, many_stop}
use Rattle.mrs_spelling.proofs.forms.ManyReader.read.Goals as goal

pub loop-tokens-smaller : goal.loop-tokens-smaller
loop-tokens-smaller g c = gets_on g.C.CharClass.class g.P.Reader.form (chars c.loop-tokens.rest.now) (chars c.in_ok-rest.rest.now) c.loop-tokens.tokens.items c.read.new.tokens.items
    g.met.P.Begins.leads (sym c.begins.ensures ∙ c.loop-tokens-test.true) c.in_ok-rest.ensures.read

pub loop-tokens-preserved : goal.loop-tokens-preserved
loop-tokens-preserved g c = record {
  text = c.in_ok-rest.ensures.utf8;
  leads_on = λ o rest new h. c.loop-tokens.invariant.leads_on o rest new
      (many_reads g.C.CharClass.class g.P.Reader.form o (chars c.loop-tokens.rest.now) (chars c.in_ok-rest.rest.now) rest c.loop-tokens.tokens.items c.read.new.tokens.items new (sym c.begins.ensures ∙ c.loop-tokens-test.true) c.in_ok-rest.ensures.read h);
}

pub returns-clause-read : goal.returns-clause-read
returns-clause-read g c = c.loop-tokens.invariant.leads_on done (chars c.loop-tokens.rest.now) c.loop-tokens.tokens.items (many_ends g.C.CharClass.class g.P.Reader.form (chars c.loop-tokens.rest.now) c.loop-tokens.tokens.items (sym c.begins.ensures ∙ c.loop-tokens-test.false))

pub returns-in_err-rest-clause-stopped : goal.returns-in_err-rest-clause-stopped
returns-in_err-rest-clause-stopped g c =
    let x = g.C.CharClass.class in
    let p = g.P.Reader.form in
    let cs = chars c.loop-tokens.rest.now in
    let old = c.loop-tokens.tokens.items in
    let new = c.read.new.tokens.items in
    let e = c.in_err-rest.field-0.0 in
    at_exit (λ e. HasStopped (many x p) (chars c.args.text.now) c.args.tokens.now.items new e) c.from_residual.result e c.from_residual.ensures.1
    (stops_on (many x p) (chars c.args.text.now) cs c.args.tokens.now.items old new e (λ rest h. c.loop-tokens.invariant.leads_on stuck rest new h)
    (stops_as p (many x p) cs old new e (λ b d rest es h. many_stop x p b cs d rest es (sym c.begins.ensures ∙ c.loop-tokens-test.true) h) c.in_err-rest.ensures.stopped))
