use Rattle.std.proofs.Common.{◌≡◌, ◌∙◌, sym, length, vec_len, rules}
use Rattle.mrs_places.specs.Paths.{paths_of, feature_of}
use Rattle.mrs_places.specs.Looking.{Elements}
use Rattle.mrs_places.specs.Inner.Walked.{mrs_place}
use Rattle.mrs_places.specs.Places.{pairs_of}
use Rattle.mrs_places.proofs.Elements.{list_missing, start_missing, walk_stopped, firsts_missing_after, parts_told_after, handed_on}
use Rattle.mrs_places.proofs.lists.elements.Goals as goal

pub returns-in_default-clause-told : goal.returns-in_default-clause-told
returns-in_default-clause-told c =
    list_missing c.args.graph.now c.args.types.now (paths_of c.args.paths.now) c.args.m.0 (feature_of c.args.feats.now.list.now) (feature_of c.args.feats.now.one.now) (feature_of c.args.feats.now.two.now) _ (sym c.in_default.ensures.at) c.missing_in_mrs.ensures

pub returns-in_default-step-clause-told : goal.returns-in_default-step-clause-told
returns-in_default-step-clause-told c =
    start_missing c.args.graph.now c.args.types.now (paths_of c.args.paths.now) c.args.m.0 c.in-Some.at.0 (feature_of c.args.feats.now.list.now) (feature_of c.args.feats.now.one.now) (feature_of c.args.feats.now.two.now) _
    (sym c.in-Some.ensures.at) (sym c.in_default-step.ensures.at) c.missing_in_mrs-in_default-step.ensures

pub returns-then-not-walk-clause-told : goal.returns-then-not-walk-clause-told
returns-then-not-walk-clause-told c =
    let e : vec_len c.in_ok-walk.walk.cells ≡ length c.in_ok-walk.walk.cells.items = search rules in
    walk_stopped c.args.graph.now c.args.types.now (paths_of c.args.paths.now) c.args.m.0 c.in-Some.at.0 c.in-Some-step.start.0 (feature_of c.args.feats.now.list.now) (feature_of c.args.feats.now.one.now) (feature_of c.args.feats.now.two.now)
    _ c.step-last.ensures.at c.in_ok-walk.walk.cells.items c.in_ok-walk.walk.is_whole _ _ (sym c.in-Some.ensures.at) (sym c.in-Some-step.ensures.at) c.in_ok-walk.ensures.walked c.if-not-walk.true (c.len.ensures ∙ e) c.missing_in_list.ensures

pub returns-in_err-elements-clause-told : goal.returns-in_err-elements-clause-told
returns-in_err-elements-clause-told c =
    handed_on (λ v. pairs_of v.items) (Elements c.args.graph.now c.args.types.now (paths_of c.args.paths.now) (mrs_place (paths_of c.args.paths.now) c.args.m.0) (feature_of c.args.feats.now.list.now) (feature_of c.args.feats.now.one.now) (feature_of c.args.feats.now.two.now)) _ _ c.from_residual-in_err-elements.ensures.1
    (firsts_missing_after c.args.graph.now c.args.types.now (paths_of c.args.paths.now) c.args.m.0 c.in-Some.at.0 c.in-Some-step.start.0 (feature_of c.args.feats.now.list.now) (feature_of c.args.feats.now.one.now) (feature_of c.args.feats.now.two.now)
    _ c.step-last.ensures.at c.in_ok-walk.walk.cells.items _ c.deref.ensures.value c.in_ok-walk.walk.is_whole c.in_err-elements.field-0.0 (sym c.in-Some.ensures.at) (sym c.in-Some-step.ensures.at) c.in_ok-walk.ensures.walked c.if-not-walk.false c.in_err-elements.ensures.told)

pub returns-clause-told : goal.returns-clause-told
returns-clause-told c =
    parts_told_after c.args.graph.now c.args.types.now (paths_of c.args.paths.now) c.args.m.0 c.in-Some.at.0 c.in-Some-step.start.0 (feature_of c.args.feats.now.list.now) (feature_of c.args.feats.now.one.now) (feature_of c.args.feats.now.two.now)
    _ c.step-last.ensures.at c.in_ok-walk.walk.cells.items _ c.deref.ensures.value c.in_ok-walk.walk.is_whole c.in_ok-elements.elements.items _ c.deref-2.ensures.value (λ v. pairs_of v.items) _ (sym c.in-Some.ensures.at) (sym c.in-Some-step.ensures.at) c.in_ok-walk.ensures.walked c.if-not-walk.false
    c.in_ok-elements.ensures.told c.with_parts.ensures.told
