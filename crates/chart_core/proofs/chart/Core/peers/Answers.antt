use Rattle.std.proofs.Common.{◌∙◌, ◌<◌, length, sym, ap, subst, All, true}
use Rattle.std.specs.List.{filter}
use Rattle.chart_core.specs.Grammar.{grammar_of}
use Rattle.chart_core.specs.Tests.{at_place, is_peer}
use Rattle.chart_core.proofs.Peered.{peers_are}
use Rattle.chart_core.specs.Lists.{lists_of, bucket}
use Rattle.chart_core.proofs.Found.{all_at}
use Rattle.chart_core.proofs.chart.Core.peers.Goals as goal

pub peers_at-requires-clause-places : goal.peers_at-requires-clause-places
peers_at-requires-clause-places g c =
    let core = c.args.self.now in
    let rows = core.rows.items in
    let ps = bucket (lists_of core.cells) c.cell.result in
    let all : All (λ p. p < length rows) ps = all_at (λ p. p < length rows) ps (λ n p a. c.requires.core.sound.sound.cells.inside _ n p a) in
    subst (λ rs. All (λ p. p < length rs) c.at-places.result.now) (sym c.deref.ensures.value) (subst (All (λ p. p < length rows)) (sym c.at-places.ensures) all)

pub returns-clause-hosts : goal.returns-clause-hosts
returns-clause-hosts g c =
    let s = c.args.shapes.now in
    let G = grammar_of g.S.Shapes g.S.Cover.Cover s in
    let core = c.args.self.now in
    let hosts = c.in_ok-hosts.hosts.items in
    let t = at_place (is_peer G.calculus G.meaning (λ _. true) c.args.cover.now c.args.level) core.rows.items in
    let cell = c.at-places.ensures ∙ ap (bucket (lists_of core.cells)) c.cell.ensures in
    peers_are G (g.met.S.Shapes.laws s) core c.requires.core.sound c.args.cover.now c.args.level hosts
    (rw c.deref.ensures.value at c.in_ok-hosts.ensures.rows ∙ ap (filter t) cell)
    (rw c.deref.ensures.value at c.in_ok-hosts.ensures.copies)

pub returns-clause-belongs : goal.returns-clause-belongs
returns-clause-belongs g c = λ k d l. (c.in_ok-hosts.ensures.copies k d l).belongs_too
