use Rattle.std.proofs.Common.{[], sym, subst}
use Rattle.std.specs.Prelude.{◌↔◌, IsTrue, All, map}
use Rattle.std.specs.Arc.{arc_value}
use Rattle.std.proofs.lemmas.List.Elements.{All-head}
use Rattle.std.proofs.lemmas.Result.{IfOk-weaker}
use Rattle.mrs_places.specs.Paths.{paths_of}
use Rattle.book_signs.specs.Trees.{signs_of}
use Rattle.rule_trees.specs.Fulls.{FullTree}
use Rattle.rule_trees.specs.Mothers.{IsMade, view_in}
use Rattle.realized_trees.specs.Sieves.{MayDrop}
use Rattle.realized_trees.specs.Inner.Parts.{HasDropped, of_part}
use Rattle.realized_trees.proofs.Tested.{part_none, part_told}
use Rattle.realized_trees.proofs.dropping.is_part_dropped.Goals as goal

pub is_dropped-requires : goal.is_dropped-requires
is_dropped-requires c =
    let P = λ (f : FullTree). IsMade (signs_of c.args.signs.now) (view_in c.args.signs.now f.graph) in
    subst P (sym c.deref.ensures) (All-head P (arc_value c.in-Some.full) [] (subst (λ o. All P (of_part o)) c.in-Some.is c.requires))

pub returns-in-None : goal.returns-in-None
returns-in-None c = part_none c.args.signs.now (paths_of c.args.paths.now) c.args.sieve.now (λ f. view_in c.args.signs.now f.graph) c.args.part.now c.in-None.is

pub returns-in-Some : goal.returns-in-Some
returns-in-Some c =
    let t = c.args.signs.now in
    let p = paths_of c.args.paths.now in
    let o = c.args.sieve.now in
    IfOk-weaker c.is_dropped.result (λ yes. IsTrue yes ↔ MayDrop t p o (view_in t c.deref.result.now.graph)) (λ yes. IsTrue yes ↔ HasDropped t p o (map (λ f. view_in t f.graph) (of_part c.args.part.now)))
    (λ yes h. part_told t p o (λ f. view_in t f.graph) c.args.part.now c.in-Some.full c.in-Some.is c.deref.result.now c.deref.ensures yes h) c.is_dropped.ensures
