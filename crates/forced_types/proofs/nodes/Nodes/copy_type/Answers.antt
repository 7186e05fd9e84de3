use Rattle.std.proofs.Common.{sym, subst, arith}
use Rattle.fs_model.specs.Claims.{below}
use Rattle.fs_graph.specs.GraphMap.{type_at}
use Rattle.forced_types.specs.Inner.Sound.{Forces, path_in, graph_at}
use Rattle.forced_types.proofs.SoundLemmas.{entry_count}
use Rattle.forced_types.proofs.LoadLemmas.{forces_below, image_short}
use Rattle.forced_types.proofs.nodes.Nodes.copy_type.Goals as goal

pub add_type-requires-clause-forced : goal.add_type-requires-clause-forced
add_type-requires-clause-forced c =
    let g = c.args.given in
    let t = c.args.self.now in
    let im = c.in-Some.image in
    let h = c.in-Some.ensures.image in
    let there = (c.requires.entries.each c.args.n (omega (arith, entry_count t, c.in-Some.ensures.node))).there in
    subst (λ x. Forces g (below (path_in t c.args.n) x)) (sym c.image_type.ensures.value)
    (subst (λ x. Forces g (below x (type_at (graph_at g.parts.now im.part) im.node))) (sym h.path_is) (forces_below g im.part h.part_in h.inside im.node h.leads (image_short g (path_in t c.args.n) im h there)))
