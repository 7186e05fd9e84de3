use Rattle.std.proofs.Common.{◌∙◌, sym, subst, option_map}
use Rattle.grammar_files.specs.WalkViews.{walked_of}
use Rattle.fault_details.specs.Further.{IsFurther, no_more}
use Rattle.fault_details.proofs.Reading.{cannot-walk, further-of, cannot-tell}
use Rattle.fault_details.proofs.further.Goals as goal

pub returns-then-not-has_further-clause-further : goal.returns-then-not-has_further-clause-further
returns-then-not-has_further-clause-further g c =
    subst (IsFurther (g.S.Shelf.files c.args.shelf.now) c.args.name.now (option_map (λ n. n.now) c.args.settings) c.args.why.now) (sym c.new.ensures.items)
    (no_more (sym c.has_further.ensures ∙ c.if-not-has_further.true))

pub returns-in-Ok-clause-further : goal.returns-in-Ok-clause-further
returns-in-Ok-clause-further g c =
    further-of (g.S.Shelf.files c.args.shelf.now) c.args.name.now (option_map (λ n. n.now) c.args.settings) c.args.why.now (walked_of c.in-Ok.walked) c.in-Ok.ensures.walked
    c.further_line.result c.further_line.ensures.line

pub returns-in-Ok-clause-read : goal.returns-in-Ok-clause-read
returns-in-Ok-clause-read g c = λ unread.
    let S = g.S.Shelf in
    cannot-tell c.one_walk.ensures (S.files c.args.shelf.now) (S.faults c.args.shelf.now) (S.faults c.walked_again.new.shelf) c.args.name.now (option_map (λ n. n.now) c.args.settings) c.args.why.now
    (walked_of c.in-Ok.walked) c.in-Ok.ensures.walked (c.further_line.ensures.read unread)

pub returns-in-Err-clause-read : goal.returns-in-Err-clause-read
returns-in-Err-clause-read g c = λ unread.
    let S = g.S.Shelf in
    cannot-walk (S.files c.args.shelf.now) (S.faults c.args.shelf.now) (S.faults c.walked_again.new.shelf) c.args.name.now (option_map (λ n. n.now) c.args.settings) c.args.why.now
    (c.in-Err.ensures.read cc)
