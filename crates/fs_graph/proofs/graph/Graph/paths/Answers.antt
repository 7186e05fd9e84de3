use Rattle.std.proofs.Common.{◌<◌, sym, subst, arith}
use Rattle.std.proofs.lemmas.List.{nil_from_length}
use Rattle.fs_graph.specs.PathLists.{IsListed, lines_left}
use Rattle.fs_graph.proofs.LineLemmas.{listed_all}
use Rattle.fs_graph.proofs.graph.Graph.paths.Goals as goal

pub loop-next-init : goal.loop-next-init
loop-next-init c = c.in_ok-lines.ensures

pub list-requires : goal.list-requires
list-requires c = subst (λ w. IsListed c.args.self.now c.loop-next.lines.lines.items c.loop-next.lines.firsts.items w) c.in-Some.ensures.items c.loop-next.invariant

pub loop-next-smaller : goal.loop-next-smaller
loop-next-smaller c =
    subst (λ w. lines_left c.args.self.now c.list.new.lines.firsts.items c.list.new.lines.waiting.items < lines_left c.args.self.now c.loop-next.lines.firsts.items w)
    (sym c.in-Some.ensures.items) c.in_ok-list.ensures.falls

pub loop-next-preserved : goal.loop-next-preserved
loop-next-preserved c = c.in_ok-list.ensures.listed

pub returns : goal.returns
returns c =
    listed_all c.args.self.now c.loop-next.lines.lines.items c.loop-next.lines.firsts.items c.loop-next.lines.waiting.items c.loop-next.invariant
    (nil_from_length c.loop-next.lines.waiting.items (let a = c.in_default.ensures.cases.0 in let ok = c.loop-next.lines.waiting.ok in omega arith))
