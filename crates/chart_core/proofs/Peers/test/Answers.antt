use Rattle.std.proofs.Common.{◌≡◌, ◌+◌, ◌++◌, List, length, map, drop, sym, ap, subst, arith}
use Rattle.chart_model.specs.At.{At}
use Rattle.chart_core.specs.Grammar.{grammar_of}
use Rattle.chart_core.specs.declared.Verdict.{Verdict}
use Rattle.chart_core.specs.Verdicts.{AreOn, OneEach}
use Rattle.chart_core.specs.Later.{AreLasting}
use Rattle.chart_core.proofs.Found.{at_get_or}
use Rattle.chart_core.proofs.Lasting.{one_on, rows_next, rows_all, lasting}
use Rattle.chart_core.proofs.Peers.test.Goals as goal

pub loop-peer-preserved : goal.loop-peer-preserved
loop-peer-preserved g c =
    let s = c.args.shapes.now in
    let k = g.S.Shapes.calculus s in
    let meaning = g.S.Shapes.meaning s in
    let hosts = c.args.self.now.hosts.items in
    let found = c.deref-peer-items.result.now in
    let i = c.loop-peer.peer-index in
    let peer = c.peer-item.result in
    let at : At hosts i peer = subst (λ xs. At xs i peer) c.deref-peer-items.ensures.value (subst (λ p. At found i p) (sym c.peer-item.is) (at_get_or found i peer c.loop-peer-test.true)) in
    let v = c.in_ok-verdict_on.field-0 in
    let stands = c.in_ok-verdict_on.ensures in
    let e = c.in_ok-push.ensures.items in
    record {
      on = subst (AreOn k meaning (meaning c.in-Whole.shape) hosts) (sym e) (one_on k meaning (meaning c.in-Whole.shape) hosts c.loop-peer.verdicts.items v i peer at stands c.loop-peer.invariant.on);
      rows = subst (λ (xs : List Verdict). map (λ x. x.row) xs ++ map (λ p. p.row) (drop (i + 1) hosts) ≡ map (λ p. p.row) hosts) (sym e) (rows_next hosts c.loop-peer.verdicts.items _ v i peer at stands.row c.loop-peer.invariant.rows);
    }

pub returns-clause-each : goal.returns-clause-each
returns-clause-each g c =
    let hosts = c.args.self.now.hosts.items in
    let end = c.loop-peer-test.false in
    let counted = c.deref-peer-items.ensures.value in
    subst (λ o. OneEach hosts o c.loop-peer.verdicts.items) (sym c.in-Whole.is) (rows_all hosts c.loop-peer.verdicts.items c.loop-peer.peer-index (omega (arith, end, ap length counted)) c.loop-peer.invariant.rows)

pub returns-clause-right : goal.returns-clause-right
returns-clause-right g c =
    let s = c.args.shapes.now in
    let G = grammar_of g.S.Shapes g.S.Cover.Cover s in
    subst (λ o. AreLasting G c.args.self.now.hosts.items o c.loop-peer.verdicts.items) (sym c.in-Whole.is)
    (lasting G (g.met.S.Shapes.laws s) c.args.self.now.hosts.items c.loop-peer.verdicts.items c.in-Whole.cover c.in-Whole.shape c.loop-peer.invariant.on)
