use Rattle.std.proofs.Common.{◌<◌, [], ◌++◌, length, map, refl, arith}
use Rattle.std.proofs.lemmas.List.{length-map}
use Rattle.fs_model.specs.Sources.{Told}
use Rattle.fs_model.specs.Table.{from}
use Rattle.fs_graph.specs.Facts.{claim_of, claims_of}
use Rattle.fs_closing.specs.NodeTable.{table_of}
use Rattle.fs_closing.specs.Rules.{system_of}
use Rattle.fs_closing.specs.Work.{work_of}
use Rattle.fs_closing.specs.Keeps.{deep_of}
use Rattle.fs_unify.specs.Given.{facts_source}
use Rattle.fs_unify.proofs.GivenLemmas.{starts_one, stands_one, stands_beside, gathers, flat_added}
use Rattle.fs_unify.proofs.structure.gather_facts.Goals as goal

pub returns : goal.returns
returns c =
    let g = c.args.system.now in
    let claims = claims_of c.args.facts.now in
    let some : 0 < length (claims_of c.args.facts.now) = omega (arith, c.requires.some, length-map c.args.facts.now claim_of) in
    let starts = starts_one (system_of g) (table_of c.args.nodes.now) (table_of c.add_node.new.nodes) c.requires.no_nodes refl c.in_ok-add_node.ensures.adds in
    let stands = stands_one (system_of g) claims (deep_of c.add_node.new.nodes) c.requires.bare some starts
    (λ n _. flat_added c.args.nodes.now c.add_node.new.nodes c.in_ok-add_node.ensures.depths c.requires.flat n) in
    gathers g (facts_source claims) c.add_node.new.nodes (map (from 0) claims ++ work_of g.rules c.args.tasks.now) c.apply_all.new.nodes c.apply_all.new.tasks (λ _. [])
    c.in_ok-applied.applied
    (stands_beside (system_of g) (Told (facts_source claims)) (deep_of c.add_node.new.nodes) (map (from 0) claims) (work_of g.rules c.args.tasks.now) (λ _. []) c.requires.no_work stands)
    c.in_ok-applied.ensures
