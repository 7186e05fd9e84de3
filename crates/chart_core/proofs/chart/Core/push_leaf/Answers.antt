use Rattle.std.proofs.Common.{◌∙◌, ap}
use Rattle.chart_model.specs.Chart as model
use Rattle.chart_core.specs.Grammar.{grammar_of}
use Rattle.chart_core.specs.CoreView.{chart_of, limits_of}
use Rattle.chart_core.specs.Leaves.{leaf_seen}
use Rattle.chart_core.proofs.Opened.{on_ok, leaf_leaves, leaf_opened, made_leaf}
use Rattle.chart_core.proofs.chart.Core.push_leaf.Goals as goal

pub returns-clause-core : goal.returns-clause-core
returns-clause-core g c =
    let G = grammar_of g.S.Shapes g.S.Cover.Cover c.args.shapes.now in
    let core = c.args.self.now in
    let new = c.push_whole.new.self in
    let leaf = leaf_seen G.meaning c.args.leaf in
    on_ok _ _ c.push_whole.result
    (λ chart. leaf_opened G core new leaf c.requires.core (chart ∙ ap (λ ds. model.with_whole G.calculus (limits_of core) (chart_of G.meaning core) (made_leaf ds leaf) leaf.shape) c.no_daughters.ensures.list) c.push_whole.ensures.history c.push_whole.ensures.frame c.push_whole.ensures.belongs c.push_whole.ensures.sound)
    c.push_whole.ensures.ok

pub returns-clause-leaves : goal.returns-clause-leaves
returns-clause-leaves g c =
    let G = grammar_of g.S.Shapes g.S.Cover.Cover c.args.shapes.now in
    let core = c.args.self.now in
    let new = c.push_whole.new.self in
    let leaf = leaf_seen G.meaning c.args.leaf in
    on_ok _ _ c.push_whole.result
    (λ chart. leaf_leaves G core new leaf (chart ∙ ap (λ ds. model.with_whole G.calculus (limits_of core) (chart_of G.meaning core) (made_leaf ds leaf) leaf.shape) c.no_daughters.ensures.list))
    c.push_whole.ensures.ok
