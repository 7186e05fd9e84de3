use Rattle.std.proofs.Common.{subst}
use Rattle.grammar_files.specs.WalkViews.{walked_of}
use Rattle.book_shapes.specs.Shapes.{AreFound}
use Rattle.grammar_load.specs.Loaded.{orth_path}
use Rattle.grammar_load.proofs.ShapeLemmas.{defined_at, words_fault}
use Rattle.grammar_load.proofs.shapes.entries_with_words.Goals as goal

pub shape_fault-requires : goal.shape_fault-requires
shape_fault-requires c =
    let w = walked_of c.args.walked.now in
    let b = c.args.book.now in
    defined_at w b c.requires.book c.in-Ok-Without.place (subst (AreFound b (orth_path b w.settings)) c.in-Ok-Without.field-0-is c.in-Ok-Without.ensures).0

pub returns-in-Ok-Without-clause-fault : goal.returns-in-Ok-Without-clause-fault
returns-in-Ok-Without-clause-fault c =
    let w = walked_of c.args.walked.now in
    let b = c.args.book.now in
    words_fault w b c.in-Ok-Without.place c.shape_fault.result c.requires.daughters (subst (AreFound b (orth_path b w.settings)) c.in-Ok-Without.field-0-is c.in-Ok-Without.ensures) c.shape_fault.ensures
