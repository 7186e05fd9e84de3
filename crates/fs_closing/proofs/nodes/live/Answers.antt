use Rattle.std.proofs.Common.{◌≡◌, ◌<◌, sym, ◌∙◌, ap, subst, arith}
use Rattle.fs_closing.specs.Marked.{chase, next_by}
use Rattle.fs_closing.specs.NodeTable.{at_of, own_type, own_row, table_of}
use Rattle.fs_closing.proofs.ForwardLemmas.{chase_on, chase_stays}
use Rattle.fs_closing.proofs.MarkLemmas.{table_whole}
use Rattle.fs_closing.proofs.nodes.live.Goals as goal

pub loop-left-preserved : goal.loop-left-preserved
loop-left-preserved c = record {
  same = chase_on (λ n. next_by n (at_of c.args.nodes.now n)) c.loop-left.left c.loop-left.at c.next-to.result c.loop-left-test.true c.next-to.ensures
      c.if-to-at.false ∙ c.loop-left.invariant.same;
  within = subst (λ x. x < c.args.nodes.now.size) (sym c.next-to.ensures) (c.requires.whole.stands.forward_in c.loop-left.at c.loop-left.invariant.within);
}

pub next-to-requires : goal.next-to-requires
next-to-requires c = omega (arith, c.loop-left.invariant.within, c.requires.whole.enough)

pub returns-then-to-at-clause-value : goal.returns-then-to-at-clause-value
returns-then-to-at-clause-value c =
    sym (chase_stays (λ n. next_by n (at_of c.args.nodes.now n)) c.loop-left.left c.loop-left.at (sym c.next-to.ensures ∙ c.if-to-at.true))
    ∙ c.loop-left.invariant.same

pub returns-then-to-at-clause-stays : goal.returns-then-to-at-clause-stays
returns-then-to-at-clause-stays c =
    let nodes = c.args.nodes.now in
    let is = sym (chase_stays (λ n. next_by n (at_of c.args.nodes.now n)) c.loop-left.left c.loop-left.at (sym c.next-to.ensures ∙ c.if-to-at.true))
    ∙ c.loop-left.invariant.same in
    let table = table_whole (at_of nodes) (own_type nodes) (own_row nodes) nodes.cells nodes.merges nodes.size c.requires.whole.stands in
    ap (table_of nodes).live is ∙ table.live_twice c.args.n ∙ sym is

pub returns-clause-value : goal.returns-clause-value
returns-clause-value c =
    let none : c.loop-left.left ≡ 0 = omega (arith, c.loop-left-test.false) in
    sym (ap (λ k. chase (λ n. next_by n (at_of c.args.nodes.now n)) k c.loop-left.at) none) ∙ c.loop-left.invariant.same

pub returns-clause-stays : goal.returns-clause-stays
returns-clause-stays c =
    let nodes = c.args.nodes.now in
    let none : c.loop-left.left ≡ 0 = omega (arith, c.loop-left-test.false) in
    let is = sym (ap (λ k. chase (λ n. next_by n (at_of c.args.nodes.now n)) k c.loop-left.at) none) ∙ c.loop-left.invariant.same in
    let table = table_whole (at_of nodes) (own_type nodes) (own_row nodes) nodes.cells nodes.merges nodes.size c.requires.whole.stands in
    ap (table_of nodes).live is ∙ table.live_twice c.args.n ∙ sym is
