use Rattle.std.proofs.Common.{◌≡◌, true, sym, subst}
use Rattle.type_hierarchy.specs.Laws.{HasTypeLaws}
use Rattle.type_hierarchy.specs.Table.{is_below}
use Rattle.fs_closing.specs.Constraints.{IsConstraint}
use Rattle.fs_closing.specs.Rules.{Grammar}
use Rattle.fs_closing.proofs.system.TypeSystem.constraint_above.Goals as goal

pub returns-then-nodes-gt1 : goal.returns-then-nodes-gt1
returns-then-nodes-gt1 c =
    let g = c.args.self.now in
    let k = c.in-Some.known.now in
    let laws = subst (λ (h : Grammar). HasTypeLaws h.types) c.self.view_is c.laws.ensures in (
      subst (λ u. is_below g.types c.args.t u ≡ true) (sym c.in-Some.ensures.0) (laws.reflexive c.args.t),
      subst (λ u. IsConstraint g u k.graph) (sym c.in-Some.ensures.0) c.in-Some.ensures.1,
    )
