use Rattle.std.proofs.Common.{ℕ, ◌≡◌, ◌≤◌, ◌<◌, ◌+◌, ◌⊎◌, inl, inr, sym, subst, arith}
use Rattle.std.proofs.lemmas.Bool.{cases_lt}
use Rattle.fs_model.specs.Claims.{Has}
use Rattle.fs_graph.specs.declared.graph.GraphArc.{GraphArc}
use Rattle.fs_graph.specs.Facts.{path_of}
use Rattle.fs_graph.specs.GraphMap.{arcs_at}
use Rattle.fs_unify.specs.Inner.Hanging.{IsClosedArc}
use Rattle.fs_unify.proofs.debts.are_closed.Goals as goal

pub loop-n-init : goal.loop-n-init
loop-n-init c = λ n a h i. absurd (omega arith)

pub loop-n-preserved : goal.loop-n-preserved
loop-n-preserved c = λ n a h i. one n a h i (cases_lt n c.loop-n.n)
  where
    one : (n : ℕ) (a : GraphArc) → n < c.loop-n.n + 1 → Has a (arcs_at c.args.graph.now n) → (n < c.loop-n.n) ⊎ (c.loop-n.n ≤ n) →
        IsClosedArc (path_of c.args.off.at_root.now) (path_of c.args.off.anywhere.now) c.args.hanging.now.hang.items c.args.hanging.now.lead.items n a
    one n a h i (inl x) = c.loop-n.invariant n a x i
    one n a h i (inr x) =
        let e : c.loop-n.n ≡ n = omega arith in
        subst (λ m. IsClosedArc (path_of c.args.off.at_root.now) (path_of c.args.off.anywhere.now) c.args.hanging.now.hang.items c.args.hanging.now.lead.items m a) e
        (c.is_closed.ensures c.if-not-is_closed.false a (subst (λ m. Has a (arcs_at c.args.graph.now m)) (sym e) i))

pub returns : goal.returns
returns c = λ e n a h i. c.loop-n.invariant n a (omega (arith, h, c.loop-n-test.false, c.nodes-n-end.ensures.count)) i
