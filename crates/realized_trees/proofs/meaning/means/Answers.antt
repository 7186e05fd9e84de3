use Rattle.mrs_model.specs.Views.{meaning_of}
use Rattle.mrs_places.specs.Paths.{paths_of}
use Rattle.mrs_extract.specs.Extraction.{HasMrs}
use Rattle.book_signs.specs.Trees.{signs_of}
use Rattle.rule_trees.specs.Mothers.{view_in}
use Rattle.realized_trees.specs.Wholes.{input_of}
use Rattle.realized_trees.proofs.Telling.{of_answer, means_none, means_told, equal_told}
use Rattle.realized_trees.proofs.meaning.means.Goals as goal

pub mrs_of-requires-clause-of : goal.mrs_of-requires-clause-of
mrs_of-requires-clause-of c = of_answer c.args.signs.now.book.system (paths_of c.args.paths.now) c.in_ok-graph.graph c.requires.feats c.in_ok-graph.ensures.within

pub returns-in-Some : goal.returns-in-Some
returns-in-Some c =
    let t = c.args.signs.now in
    let input = input_of t (paths_of c.args.paths.now) (meaning_of c.args.mrs.now) in
    let own = meaning_of c.in-Some.own in
    let has : HasMrs c.in_ok-graph.graph input.types input.paths own = rw c.in-Some.is at c.in_ok-own.ensures.has in
    means_told c.structure_laws.ensures.one c.mrs_is_one.ensures (signs_of t) c.laws.ensures.order input (view_in t c.args.full.now.graph) c.in_ok-graph.graph c.in_ok-graph.ensures.meant own has c.is_some.result
    (equal_told own input.meaning c.in_ok-renaming-in-Some.renaming c.is_some.result c.is_some.ensures c.in_ok-renaming-in-Some.ensures)

pub returns : goal.returns
returns c =
    let t = c.args.signs.now in
    let input = input_of t (paths_of c.args.paths.now) (meaning_of c.args.mrs.now) in (
      λ yes. absurd (cc),
      λ m.
          absurd
          (means_none c.structure_laws.ensures.one c.mrs_is_one.ensures (signs_of t) c.laws.ensures.order input (view_in t c.args.full.now.graph) c.in_ok-graph.graph c.in_ok-graph.ensures.meant
          (rw c.in-None.is at c.in_ok-own.ensures.has) m),
    )
