use Rattle.std.proofs.Common.{◌<◌, ◌^◌, subst, refl, arith}
use Rattle.chart_core.specs.Grammar.{grammar_of}
use Rattle.chart_core.proofs.Buckets.{get_here}
use Rattle.chart_core.proofs.Facts.{fits, host_proper}
use Rattle.chart_core.proofs.chart.Core.task.Goals as goal

pub index-host-requires : goal.index-host-requires
index-host-requires g c =
    let s = c.requires.core.0 in
    let core = c.args.self.now in
    let info = c.index-info.result.now in
    let l = (fits (grammar_of g.S.Shapes g.S.Cover.Cover s) (g.met.S.Shapes.laws s) core c.requires.core.1 c.args.task.0 info (get_here core.tasks.items c.args.task.0 info c.requires.made c.index-info.ensures)).host in
    omega (arith, l)

pub size-requires : goal.size-requires
size-requires g c =
    let s = c.requires.core.0 in
    let core = c.args.self.now in
    let info = c.index-info.result.now in
    let row = c.index-host.result.now in
    let at = get_here core.tasks.items c.args.task.0 info c.requires.made c.index-info.ensures in
    let below = (fits (grammar_of g.S.Shapes g.S.Cover.Cover s) (g.met.S.Shapes.laws s) core c.requires.core.1 c.args.task.0 info at).host in
    let proper = host_proper (grammar_of g.S.Shapes g.S.Cover.Cover s) (g.met.S.Shapes.laws s) core c.requires.core.1 c.args.task.0 info row at (get_here core.rows.items info.host.0 row below c.index-host.ensures) in
    subst (λ n. n < 2 ^ 32) (g.met.S.Shapes.sizes s row.cover) ((g.met.S.Shapes.laws s).has_size row.cover proper).1

pub returns : goal.returns
returns g c =
    let s = c.requires.core.0 in
    let core = c.args.self.now in
    let info = c.index-info.result.now in
    let row = c.index-host.result.now in
    let at = get_here core.tasks.items c.args.task.0 info c.requires.made c.index-info.ensures in
    let below = (fits (grammar_of g.S.Shapes g.S.Cover.Cover s) (g.met.S.Shapes.laws s) core c.requires.core.1 c.args.task.0 info at).host in
    record { task = info; made = at; host = row; at = get_here core.rows.items info.host.0 row below c.index-host.ensures; rule = refl; size = c.size.ensures; level = refl }
