use Rattle.std.proofs.Common.{◌∙◌, sym, ap, length, arith}
use Rattle.std.specs.Str.{chars}
use Rattle.mrs_spelling.specs.Forms.{sign}
use Rattle.mrs_spelling.proofs.Scanned.{run_goes_on, many_ends, not_at, not_at_end}
use Rattle.mrs_spelling.proofs.forms.RunsReader.read.Goals as goal

pub loop-c-smaller : goal.loop-c-smaller
loop-c-smaller g c = let e = ap length c.in-Some.ensures.parts in omega (arith, e)

pub loop-c-preserved : goal.loop-c-preserved
loop-c-preserved g c = record {
  text = c.in-Some.ensures.utf8;
  leads_on = λ rest old h. c.loop-c.invariant.leads_on rest old
      (run_goes_on g.C.CharClass.class (chars c.loop-c.rest.now) (chars c.in-Some.after.now) rest c.in-Some.c old c.in-Some.ensures.parts (sym c.has.ensures ∙ c.if-not-has.false) h);
}

pub returns-then-not-has-clause-read : goal.returns-then-not-has-clause-read
returns-then-not-has-clause-read g c =
    let x = g.C.CharClass.class in
    let cs = chars c.loop-c.rest.now in
    let old = c.args._tokens.now.items in
    c.loop-c.invariant.leads_on cs old (many_ends x (sign x) cs old (not_at x cs (chars c.in-Some.after.now) c.in-Some.c c.in-Some.ensures.parts (sym c.has.ensures ∙ c.if-not-has.true)))

pub returns-clause-read : goal.returns-clause-read
returns-clause-read g c =
    let x = g.C.CharClass.class in
    let cs = chars c.loop-c.rest.now in
    let old = c.args._tokens.now.items in
    c.loop-c.invariant.leads_on cs old (many_ends x (sign x) cs old (not_at_end x cs c.in_default.ensures.parts))
