use Rattle.std.proofs.Common.{sym, subst}
use Rattle.rule_trees.specs.Mothers.{view_in}
use Rattle.grammar_rules.specs.Told.{TellsRooted}
use Rattle.line_parsing.proofs.line.is_rooted.Goals as goal

pub keep_rooted-requires : goal.keep_rooted-requires
keep_rooted-requires c =
    let v = view_in c.args.of.now.line.signs.now c.args.full.now.graph in
    let told : TellsRooted c.args.of.now.line.signs.now v c.in_ok-yes.yes = (λ y. (c.in_ok-yes.ensures.0 y).2, λ r. c.in_ok-yes.ensures.1 (c.requires.from, c.requires.to, r)) in
    subst (λ t. TellsRooted t (view_in t c.args.full.now.graph) c.in_ok-yes.yes) (sym c.args.of.now.same) told

pub returns-in-Some : goal.returns-in-Some
returns-in-Some c =
    subst (λ t. TellsRooted t (view_in t c.args.full.now.graph) c.in-Some.known) c.args.of.now.same c.in-Some.ensures

pub returns : goal.returns
returns c = (λ y. (c.in_ok-yes.ensures.0 y).2, λ r. c.in_ok-yes.ensures.1 (c.requires.from, c.requires.to, r))
