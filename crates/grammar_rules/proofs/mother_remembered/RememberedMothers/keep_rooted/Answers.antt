use Rattle.std.proofs.Common.{◌∙◌, sym, subst}
use Rattle.rule_trees.specs.Fulls.{FullTree}
use Rattle.rule_trees.specs.Mothers.{view_in}
use Rattle.grammar_rules.specs.Told.{TellsRooted}
use Rattle.grammar_rules.proofs.mother_remembered.RememberedMothers.keep_rooted.Goals as goal

pub keep-requires : goal.keep-requires
keep-requires c =
    let t = c.self.inside.roots.signs.now in
    subst (λ (f : FullTree). TellsRooted t (view_in t f.graph) c.args.yes) (sym c.in_ok-key.ensures)
    (subst (λ u. TellsRooted u (view_in u c.args.full.now.graph) c.args.yes) (sym (c.self.invariant.1 ∙ c.self.view_is)) c.requires)
