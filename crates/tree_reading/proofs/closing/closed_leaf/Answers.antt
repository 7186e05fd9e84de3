use Rattle.std.proofs.Common.{◌∙◌, ap, sym, Some, map}
use Rattle.std.specs.String.{string_bytes}
use Rattle.derivation.specs.Trees.{lexical}
use Rattle.tree_reading.specs.Inner.Frames.{trees_of}
use Rattle.tree_reading.specs.Inner.Closed.{leaf_of}
use Rattle.tree_reading.proofs.Pushing.{closed_lexical, closed_other, as_closed}
use Rattle.tree_reading.proofs.closing.closed_leaf.Goals as goal

pub returns-in_default-clause-closed : goal.returns-in_default-clause-closed
returns-in_default-clause-closed c = as_closed c.last.result _ _ (closed_other c.args.rule.rules (trees_of c.args.rule) (leaf_of c.args.leaf) (sym c.lexical_here.ensures ∙ c.in_default.is)) c.last.ensures.closed

pub returns-clause-closed : goal.returns-clause-closed
returns-clause-closed c =
    let l = c.args.leaf in (
      closed_lexical c.args.rule.rules (trees_of c.args.rule) l.entry c.in-Some.lexical l.rules.items (map string_bytes l.words.items) l.nodes (sym c.lexical_here.ensures ∙ c.in-Some.is)
          ∙ ap (λ rs. Some (lexical l.entry rs (map string_bytes l.words.items) l.nodes)) (sym c.in_ok-push.ensures.items),
      tt,
    )
