use Rattle.std.proofs.Common.{sym, subst}
use Rattle.grammar_rules.specs.Told.{all_seen, TellsMother}
use Rattle.grammar_rules.proofs.mother_remembered.RememberedMothers.keep_made.Goals as goal

pub keep-requires : goal.keep-requires
keep-requires c =
    let t = c.self.inside.signs.now in
    subst (λ u. TellsMother u c.args.place (all_seen u c.in_ok-key.key) c.in_ok-copy.copy) (sym c.self.invariant.0)
    (subst (λ fs. TellsMother t c.args.place fs c.in_ok-copy.copy) (sym c.in_ok-key.ensures)
    (subst (TellsMother t c.args.place (all_seen t c.args.parts.now)) (sym c.in_ok-copy.ensures)
    (subst (λ u. TellsMother u c.args.place (all_seen u c.args.parts.now) c.args.told.now) (sym c.self.view_is) c.requires)))
