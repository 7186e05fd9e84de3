use Rattle.std.proofs.Common.{subst, sym, Ok}
use Rattle.mrs_places.specs.Paths.{paths_of, feature_of}
use Rattle.mrs_places.specs.Looking.{MayElements}
use Rattle.mrs_places.specs.Inner.Walked.{mrs_place}
use Rattle.mrs_places.specs.Places.{pairs_of}
use Rattle.mrs_places.proofs.Elements.{may_none, may_told}
use Rattle.mrs_places.proofs.lists.may_elements.Goals as goal

pub returns-then-is_none-clause-told : goal.returns-then-is_none-clause-told
returns-then-is_none-clause-told c =
    let g = c.args.graph.now in
    let p = paths_of c.args.paths.now in
    let none = may_none g c.args.types.now p c.args.m.0 (feature_of c.args.feats.now.list.now) (feature_of c.args.feats.now.one.now) (feature_of c.args.feats.now.two.now) c.step.result c.step.ensures.at c.if-is_none.ensures in
    subst (λ l. MayElements g c.args.types.now p (mrs_place p c.args.m.0) (feature_of c.args.feats.now.list.now) (feature_of c.args.feats.now.one.now) (feature_of c.args.feats.now.two.now) (Ok (pairs_of l))) (sym c.new.ensures.items) none

pub returns-clause-told : goal.returns-clause-told
returns-clause-told c =
    may_told c.args.graph.now c.args.types.now (paths_of c.args.paths.now) c.args.m.0 (feature_of c.args.feats.now.list.now) (feature_of c.args.feats.now.one.now) (feature_of c.args.feats.now.two.now) (λ v. pairs_of v.items) _ c.step.result c.step.ensures.at c.if-is_none.ensures c.elements.ensures.told
