use Rattle.std.proofs.Common.{◌∙◌}
use Rattle.grammar_files.specs.WalkViews.{walked_of}
use Rattle.grammar_load.proofs.ShapeLemmas.{defined_at, instance_in, all_past, arity_fault}
use Rattle.grammar_load.proofs.shapes.check_daughters.Goals as goal

pub shape_fault-requires : goal.shape_fault-requires
shape_fault-requires c =
    let b = c.args.book.now in
    defined_at (walked_of c.args.walked.now) b c.requires c.in-Ok.place (instance_in b c.in-Ok.place c.len.result c.if-place-len.true (c.len.ensures ∙ b.instances.ok.0))

pub returns-then-place-len-clause-fault : goal.returns-then-place-len-clause-fault
returns-then-place-len-clause-fault c =
    let b = c.args.book.now in
    arity_fault (walked_of c.args.walked.now) b c.in-Ok.place c.shape_fault.result (instance_in b c.in-Ok.place c.len.result c.if-place-len.true (c.len.ensures ∙ b.instances.ok.0)) c.in-Ok.ensures c.shape_fault.ensures

pub returns-clause-daughters : goal.returns-clause-daughters
returns-clause-daughters c = let b = c.args.book.now in all_past b c.in-Ok.place c.len.result c.if-place-len.false (c.len.ensures ∙ b.instances.ok.0) c.in-Ok.ensures
