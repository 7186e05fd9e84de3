use Rattle.mrs_places.specs.Paths.{paths_of}
use Rattle.mrs_places.specs.Looking.{Looks}
use Rattle.mrs_places.specs.Places.{parts_of}
use Rattle.mrs_places.proofs.Elements.{handed_on, top_missing, index_missing, lists_told, mrs_missing}
use Rattle.mrs_places.proofs.looking.look.Goals as goal

pub returns-in_err-m-clause-told : goal.returns-in_err-m-clause-told
returns-in_err-m-clause-told c = handed_on parts_of (Looks c.args.graph.now c.args.types.now (paths_of c.args.paths.now)) _ _ c.from_residual.ensures.1 (mrs_missing c.args.graph.now c.args.types.now (paths_of c.args.paths.now) c.in_err-m.field-0.0 c.in_err-m.ensures.told)

pub returns-in_err-top-clause-told : goal.returns-in_err-top-clause-told
returns-in_err-top-clause-told c =
    handed_on parts_of (Looks c.args.graph.now c.args.types.now (paths_of c.args.paths.now)) _ _ c.from_residual-in_err-top.ensures.1
    (top_missing c.args.graph.now c.args.types.now c.args.paths.now c.in_ok-m.m.0 _ c.deref.ensures.value c.in_err-top.field-0.0 c.in_ok-m.ensures.told c.in_err-top.ensures.told)

pub returns-in_err-index-clause-told : goal.returns-in_err-index-clause-told
returns-in_err-index-clause-told c =
    handed_on parts_of (Looks c.args.graph.now c.args.types.now (paths_of c.args.paths.now)) _ _ c.from_residual-in_err-index.ensures.1
    (index_missing c.args.graph.now c.args.types.now c.args.paths.now c.in_ok-m.m.0 c.in_ok-top.top.0 _ _ c.deref.ensures.value c.deref-2.ensures.value c.in_err-index.field-0.0 c.in_ok-m.ensures.told c.in_ok-top.ensures.told c.in_err-index.ensures.told)

pub returns-clause-told : goal.returns-clause-told
returns-clause-told c =
    lists_told c.args.graph.now c.args.types.now c.args.paths.now c.in_ok-m.m.0 c.in_ok-top.top.0 c.in_ok-index.index.0 _ _ c.deref.ensures.value c.deref-2.ensures.value parts_of _ c.in_ok-m.ensures.told c.in_ok-top.ensures.told c.in_ok-index.ensures.told
    c.lists_at.ensures.told
