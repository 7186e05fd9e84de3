use Rattle.std.proofs.Common.{◌≡◌, ◌∙◌, true, ap, rules}
use Rattle.mrs_places.specs.Paths.{paths_of}
use Rattle.mrs_extract.specs.Extraction.{is_role, all_noted}
use Rattle.mrs_extract.proofs.Numbering.{one_node, put_one}
use Rattle.mrs_extract.proofs.roles.put_role.Goals as goal

pub returns-clause-nodes : goal.returns-clause-nodes
returns-clause-nodes c =
    let role : is_role (paths_of c.args.paths.now) c.args.arc.feat.0 ≡ true = search rules in
    c.in_ok-role.ensures.nodes ∙ ap (all_noted c.args.numbers.now.nodes) (one_node c.args.graph.now c.args.types.now (paths_of c.args.paths.now) c.args.arc role)

pub returns-clause-each : goal.returns-clause-each
returns-clause-each c =
    let role : is_role (paths_of c.args.paths.now) c.args.arc.feat.0 ≡ true = search rules in
    put_one c.args.graph.now c.args.types.now (paths_of c.args.paths.now) _ c.args.arc _ _ _ role c.in_ok-push.ensures.items c.in_ok-role.ensures.is
