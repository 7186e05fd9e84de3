use Rattle.std.proofs.Common.{◌≡◌, ◌∙◌, sym, ap, true, false, is_some}
use Rattle.chart_core.specs.View.{list_of, into_of, write_all}
use Rattle.chart_core.specs.Tests.{any_in}
use Rattle.chart_core.proofs.Partner.{live_test, not_both, partner_none, partner_is}
use Rattle.chart_core.proofs.search.left_partner.Goals as goal
use Rattle.chart_core.proofs.search.left_partner.Goals.{then-is_some-via-then-is_some, then-is_some-via-else-is_some+then-any_among}

pub returns-then-is_some : goal.returns-then-is_some
returns-then-is_some g c = λ n.
    let k = g.S.Shapes.calculus c.args.shapes.now in
    let row = c.args.row.now in
    let into = into_of c.args.rows.now in
    let ps = c.args.frosted.now in
    elim c.then-is_some.branch [
      | then-is_some-via-then-is_some w ↦ partner_none k (write_all into ps n) c.args.cover.now row c.in-Partial.rule c.in-Partial.is (live_test c.first_frosted.result into (list_of row.daughters) ps n true (any_in ps (list_of row.daughters)) c.first_frosted.ensures (sym c.is_some.ensures ∙ w.if-is_some.true) Rattle.std.proofs.Common.refl)
      | then-is_some-via-else-is_some+then-any_among w ↦ partner_none k (write_all into ps n) c.args.cover.now row c.in-Partial.rule c.in-Partial.is (live_test c.first_frosted.result into (list_of row.daughters) ps n (is_some c.first_frosted.result) true c.first_frosted.ensures Rattle.std.proofs.Common.refl (sym w.any_among.ensures ∙ w.if-any_among.true) ∙ not_both (is_some c.first_frosted.result))
    ]

pub returns-then-joins : goal.returns-then-joins
returns-then-joins g c = λ n.
    let k = g.S.Shapes.calculus c.args.shapes.now in
    let row = c.args.row.now in
    let ps = c.args.frosted.now in
    let live = live_test c.first_frosted.result (into_of c.args.rows.now) (list_of row.daughters) ps n false false c.first_frosted.ensures (sym c.is_some.ensures ∙ c.if-is_some.false) (sym c.any_among.ensures ∙ c.if-any_among.false) in
    let joined : is_some (k.join row.cover c.args.cover.now) ≡ true =
    ap is_some (g.met.S.Shapes.joins c.args.shapes.now row.cover c.args.cover.now ∙ ap (λ b. g.S.Cover.Cover.joined b row.cover c.args.cover.now) (sym c.bound.ensures)) ∙ sym c.joins.ensures ∙ c.if-joins.true in
    partner_is k (write_all (into_of c.args.rows.now) ps n) c.args.cover.now row c.in-Partial.rule true c.in-Partial.is live joined

pub returns-else-joins : goal.returns-else-joins
returns-else-joins g c = λ n.
    let k = g.S.Shapes.calculus c.args.shapes.now in
    let row = c.args.row.now in
    let ps = c.args.frosted.now in
    let live = live_test c.first_frosted.result (into_of c.args.rows.now) (list_of row.daughters) ps n false false c.first_frosted.ensures (sym c.is_some.ensures ∙ c.if-is_some.false) (sym c.any_among.ensures ∙ c.if-any_among.false) in
    let joined : is_some (k.join row.cover c.args.cover.now) ≡ false =
    ap is_some (g.met.S.Shapes.joins c.args.shapes.now row.cover c.args.cover.now ∙ ap (λ b. g.S.Cover.Cover.joined b row.cover c.args.cover.now) (sym c.bound.ensures)) ∙ sym c.joins.ensures ∙ c.if-joins.false in
    partner_is k (write_all (into_of c.args.rows.now) ps n) c.args.cover.now row c.in-Partial.rule false c.in-Partial.is live joined
