use Rattle.std.proofs.Common.{subst, inr, refl, sym, ◌∙◌, arith}
use Rattle.std.proofs.lemmas.Bool.{false≢true}
use Rattle.tree_reading.specs.Inner.Stops.{IsStop, IsText}
use Rattle.tree_reading.proofs.Firsts.{no_entry_fault, tree_written, first_fault}
use Rattle.tree_reading.proofs.reading.read_tree.Goals as goal

pub returns-then-not-has_entry-clause-fault : goal.returns-then-not-has_entry-clause-fault
returns-then-not-has_entry-clause-fault c =
    inr (0, refl, no_entry_fault c.args.names.now c.args.line.now (λ h. false≢true (sym c.if-not-has_entry.true ∙ c.has_entry.ensures.entry.1 h)))

pub returns-in-Ok-read-clause-tree : goal.returns-in-Ok-read-clause-tree
returns-in-Ok-read-clause-tree c = tree_written c.args.names.now c.args.line.now c.after_blanks.result.now c.in-Ok-read.tree c.after_blanks.ensures c.in-Ok-read.ensures.tree

pub returns-in-Err-Left-clause-fault : goal.returns-in-Err-Left-clause-fault
returns-in-Err-Left-clause-fault c =
    let g = c.args.names.now in
    let stop = subst (IsStop (IsText g) (IsText g) c.after_blanks.result.now) c.in-Err-Left.field-0-is c.in-Err-Left.ensures.stopped in
    inr (_, refl, first_fault g c.args.line.now c.after_blanks.result.now c.in-Err-Left.left _ c.after_blanks.ensures stop (omega arith))
