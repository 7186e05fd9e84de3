use Rattle.std.proofs.Common.{◌∙◌, ap, subst}
use Rattle.grammar_files.specs.Walks.{WalkedTree}
use Rattle.grammar_files.specs.declared.fault.Why.TheVariants.{Expand}
use Rattle.fault_details.proofs.Reading.{IsMadeSo, made-so}
use Rattle.fault_details.proofs.expansion_line.Goals as goal

pub returns-clause-read : goal.returns-clause-read
returns-clause-read c = λ unread r f walked why made.
    let so = subst (λ (w : WalkedTree). IsMadeSo w c.in-NoStructure.statement) walked (made-so r f _ c.in-NoStructure.statement (why ∙ ap Expand c.in-NoStructure.is) made) in
    c.clash_line.ensures.read unread so.types so.typed so.lacks
