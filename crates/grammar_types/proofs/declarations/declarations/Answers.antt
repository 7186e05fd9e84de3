use Rattle.std.proofs.Common.{◌∙◌}
use Rattle.grammar_types.specs.SettleViews.{parents_noted}
use Rattle.grammar_types.proofs.SettleDecls.{decls_are}
use Rattle.grammar_types.proofs.declarations.declarations.Goals as goal

pub returns : goal.returns
returns c = c.in_ok-decls.ensures ∙ decls_are (parents_noted c.in_ok-added.added.entries) c.args.statements.now c.in_ok-added.ensures
