use Rattle.book_signs.specs.Trees.{signs_of}
use Rattle.tree_model.specs.Lexical.{IsEntry}
use Rattle.rule_trees.specs.Mothers.{view_in}
use Rattle.tree_structures.specs.declared.question.Question.TheVariants.{Entry}
use Rattle.tree_structures.proofs.Keeping.{stays_same}
use Rattle.tree_structures.proofs.Asking.{entry_found, kept_stays, kept_numbered}
use Rattle.tree_structures.proofs.numbering.entry_number.Goals as goal

pub returns-in-Some-clause-stays : goal.returns-in-Some-clause-stays
returns-in-Some-clause-stays c = stays_same c.args.fulls.now c.args.memo.now c.requires.right

pub returns-in-Some-clause-number : goal.returns-in-Some-clause-number
returns-in-Some-clause-number c = entry_found c.args.fulls.now c.args.memo.now c.args.place c.in-Some.number c.requires.right c.in-Some.ensures

pub returns-in_default-2-clause-stays : goal.returns-in_default-2-clause-stays
returns-in_default-2-clause-stays c = stays_same c.args.fulls.now c.args.memo.now c.requires.right

pub returns-in_default-2-clause-number : goal.returns-in_default-2-clause-number
returns-in_default-2-clause-number c = rw c.in_default-2.is at c.in_ok-full.ensures

pub returns-clause-stays : goal.returns-clause-stays
returns-clause-stays c =
    let entry : IsEntry (signs_of c.args.fulls.now) c.args.place (view_in c.args.fulls.now c.in-Some-2.full.graph) = rw c.in-Some-2.is at c.in_ok-full.ensures in
    kept_stays c.args.fulls.now c.args.memo.now c.keep.new.self (Entry c.args.place) c.in-Some-2.full c.requires.right c.in_ok-number.ensures.known entry

pub returns-clause-number : goal.returns-clause-number
returns-clause-number c =
    let entry : IsEntry (signs_of c.args.fulls.now) c.args.place (view_in c.args.fulls.now c.in-Some-2.full.graph) = rw c.in-Some-2.is at c.in_ok-full.ensures in
    kept_numbered c.args.fulls.now c.args.memo.now c.keep.new.self (Entry c.args.place) c.in-Some-2.full c.requires.right c.in_ok-number.ensures.known (IsEntry (signs_of c.args.fulls.now) c.args.place) c.in_ok-number.number c.in_ok-number.ensures.number entry
