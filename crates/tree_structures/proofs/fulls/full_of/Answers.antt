use Rattle.std.proofs.Common.{◌≡◌, refl, sym, subst}
use Rattle.std.specs.Arc.{arc_value}
use Rattle.derivation.specs.Views.{derivation_of}
use Rattle.tree_model.specs.Trees.{Full}
use Rattle.book_signs.specs.Trees.{signs_of}
use Rattle.tree_structures.specs.Known.{view_of}
use Rattle.tree_structures.proofs.Keeping.{kept_below, kept_full}
use Rattle.tree_structures.proofs.fulls.full_of.Goals as goal

pub full-requires : goal.full-requires
full-requires c =
    let known = rw c.in-Some.is at c.in_ok-number.ensures.number in
    kept_below c.args.fulls.now c.number_of.new.memo.known.items c.in-Some.number known.0 known.1

pub returns-in_ok-full-in-Some-clause-full : goal.returns-in_ok-full-in-Some-clause-full
returns-in_ok-full-in-Some-clause-full c =
    let t = c.args.fulls.now in
    let known = rw c.in-Some.is at c.in_ok-number.ensures.number in
    let full = c.in_ok-full-in-Some.full in
    let same : view_of t full ≡ known.0 = kept_full t c.number_of.new.memo c.in-Some.number (arc_value full) known.0 c.in_ok-full-in-Some.ensures known.1 full refl in
    subst (Full (signs_of t) (derivation_of c.args.tree.now)) (sym same) known.2
