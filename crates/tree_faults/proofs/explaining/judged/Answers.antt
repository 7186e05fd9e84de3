use Rattle.std.proofs.Common.{rules, ◌≡◌, true}
use Rattle.std.specs.Prelude.{None}
use Rattle.derivation.specs.Views.{derivation_of}
use Rattle.book_signs.specs.Trees.{signs_of}
use Rattle.rule_trees.specs.Mothers.{view_in}
use Rattle.tree_structures.proofs.Making.{full_made}
use Rattle.tree_faults.specs.WordBooks.{said_by}
use Rattle.tree_faults.proofs.Judging.{misspelled_explains, misspelled_named, licensed_explains, unrooted_explains}
use Rattle.tree_faults.proofs.explaining.judged.Goals as goal

pub returns-in-Some-clause-explained : goal.returns-in-Some-clause-explained
returns-in-Some-clause-explained c =
    let t = c.args.signs.now in
    misspelled_explains (signs_of t) (said_by c.args.book.now) (derivation_of c.args.tree.now) (view_in t c.args.full.now.graph) c.requires.full c.in-Some.fault.place.items c.in-Some.fault.instance
    (rw c.in-Some.is at c.in_ok-fault.ensures)

pub returns-in-Some-clause-named : goal.returns-in-Some-clause-named
returns-in-Some-clause-named c =
    let t = c.args.signs.now in
    misspelled_named (signs_of t) (said_by c.args.book.now) (derivation_of c.args.tree.now) (view_in t c.args.full.now.graph) c.requires.full c.in-Some.fault.place.items c.in-Some.fault.instance
    (rw c.in-Some.is at c.in_ok-fault.ensures)

pub rooted-requires : goal.rooted-requires
rooted-requires c = let t = c.args.signs.now in full_made (signs_of t) (derivation_of c.args.tree.now) (view_in t c.args.full.now.graph) c.requires.full

pub returns-then-branch-clause-explained : goal.returns-then-branch-clause-explained
returns-then-branch-clause-explained c =
    let t = c.args.signs.now in
    let none : c.in_ok-fault.field-0 ≡ None = search rules in
    licensed_explains (signs_of t) (said_by c.args.book.now) (derivation_of c.args.tree.now) (view_in t c.args.full.now.graph) c.requires.full
    (rw none at c.in_ok-fault.ensures) (c.in_ok-rooted.ensures.0 c.if-branch.true)

pub returns-else-branch-clause-explained : goal.returns-else-branch-clause-explained
returns-else-branch-clause-explained c =
    let t = c.args.signs.now in
    let none : c.in_ok-fault.field-0 ≡ None = search rules in
    unrooted_explains (signs_of t) (said_by c.args.book.now) (derivation_of c.args.tree.now) (view_in t c.args.full.now.graph) c.requires.full c.laws.ensures.order
    (rw none at c.in_ok-fault.ensures) (λ rooted. let yes : c.in_ok-rooted.field-0 ≡ true = c.in_ok-rooted.ensures.1 rooted in let no = c.if-branch.false in absurd cc)
