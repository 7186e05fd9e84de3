use Rattle.mrs_places.specs.Paths.{paths_of}
use Rattle.mrs_places.specs.Looking.{LooksAtLists}
use Rattle.mrs_places.specs.Inner.Walked.{mrs_place}
use Rattle.mrs_places.specs.Places.{parts_of, pairs_of}
use Rattle.mrs_places.proofs.Elements.{handed_on, rels_missing, hcons_missing, icons_missing, lists_found}
use Rattle.mrs_places.proofs.looking.lists_at.Goals as goal

pub returns-in_err-rels-clause-told : goal.returns-in_err-rels-clause-told
returns-in_err-rels-clause-told c = λ t i et ei.
    handed_on parts_of (LooksAtLists c.args.graph.now c.args.types.now (paths_of c.args.paths.now) (mrs_place (paths_of c.args.paths.now) c.args.m.0) t i) _ _ c.from_residual.ensures.1
    (rels_missing c.args.graph.now c.args.types.now (paths_of c.args.paths.now) (mrs_place (paths_of c.args.paths.now) c.args.m.0) t i c.in_err-rels.field-0.0 c.in_err-rels.ensures.told)

pub returns-in_err-hcons-clause-told : goal.returns-in_err-hcons-clause-told
returns-in_err-hcons-clause-told c = λ t i et ei.
    handed_on parts_of (LooksAtLists c.args.graph.now c.args.types.now (paths_of c.args.paths.now) (mrs_place (paths_of c.args.paths.now) c.args.m.0) t i) _ _ c.from_residual-in_err-hcons.ensures.1
    (hcons_missing c.args.graph.now c.args.types.now (paths_of c.args.paths.now) (mrs_place (paths_of c.args.paths.now) c.args.m.0) t i (pairs_of c.in_ok-rels.rels.items) c.in_err-hcons.field-0.0 c.in_ok-rels.ensures.told c.in_err-hcons.ensures.told)

pub returns-in_err-icons-clause-told : goal.returns-in_err-icons-clause-told
returns-in_err-icons-clause-told c = λ t i et ei.
    handed_on parts_of (LooksAtLists c.args.graph.now c.args.types.now (paths_of c.args.paths.now) (mrs_place (paths_of c.args.paths.now) c.args.m.0) t i) _ _ c.from_residual-in_err-icons.ensures.1
    (icons_missing c.args.graph.now c.args.types.now (paths_of c.args.paths.now) (mrs_place (paths_of c.args.paths.now) c.args.m.0) t i (pairs_of c.in_ok-rels.rels.items) (pairs_of c.in_ok-hcons.hcons.items) c.in_err-icons.field-0.0
    c.in_ok-rels.ensures.told c.in_ok-hcons.ensures.told c.in_err-icons.ensures.told)

pub returns-clause-told : goal.returns-clause-told
returns-clause-told c = λ t i et ei.
    lists_found c.args.graph.now c.args.types.now (paths_of c.args.paths.now) (mrs_place (paths_of c.args.paths.now) c.args.m.0) t i c.args.top.0 c.args.index.0 (pairs_of c.in_ok-rels.rels.items) (pairs_of c.in_ok-hcons.hcons.items) (pairs_of c.in_ok-icons.icons.items)
    et ei c.in_ok-rels.ensures.told c.in_ok-hcons.ensures.told c.in_ok-icons.ensures.told
