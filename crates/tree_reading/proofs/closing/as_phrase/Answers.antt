use Rattle.std.proofs.Common.{◌≡◌, length, arith}
use Rattle.derivation.specs.Views.{derivation_of}
use Rattle.tree_reading.proofs.Pushing.{phrase_made, not_made, is_phrase}
use Rattle.tree_reading.proofs.closing.as_phrase.Goals as goal

pub returns-then-phrase-len-clause-closed : goal.returns-then-phrase-len-clause-closed
returns-then-phrase-len-clause-closed c = not_made c.args.rule.rules.phrase c.in-Some.phrase c.args.rule.daughters.items c.in-Some.is (λ e. omega (arith, c.if-phrase-len.true, c.len.ensures, c.args.rule.daughters.ok.0))

pub returns-clause-closed : goal.returns-clause-closed
returns-clause-closed c =
    let size : c.in-Some.phrase.daughters ≡ length c.args.rule.daughters.items = omega (arith, c.if-phrase-len.false, c.len.ensures, c.args.rule.daughters.ok.0) in (
      phrase_made c.args.rule.rules.phrase c.in-Some.phrase c.args.rule.daughters.items (derivation_of c.in_ok-tree.tree) c.in-Some.is size c.in_ok-tree.ensures.is,
      (c.in_ok-tree.ensures.counted c.requires.counted, is_phrase _ _ _ c.in_ok-tree.ensures.is),
    )
