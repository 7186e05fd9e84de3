use Rattle.line_commands.proofs.ExplainLaws.{explain-laws}
use Rattle.command_files.specs.Grammars.{never}
use Rattle.line_commands.proofs.laws.explain_lawful.Goals as goal

pub returns : goal.returns
returns c =
    let laws = c.grammar_laws.ensures in
    let trees = c.tree_laws.ensures in
    λ name settings verbose mrs. explain-laws mrs laws.one_grammar laws.one_fault laws.not_both laws.calm c.said_laws.ensures.views c.one_signs.ensures
    (λ files top under g has. c.loaded_names.ensures files never top under g has) trees.one trees.apart trees.one_fault c.explained_laws.ensures.one c.mrs_line_laws.ensures.line name settings verbose
