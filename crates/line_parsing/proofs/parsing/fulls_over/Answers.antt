use Rattle.std.proofs.Common.{◌∙◌, ap}
use Rattle.grammar_rules.specs.Remembered.{MemoryTree}
use Rattle.line_parsing.proofs.parsing.fulls_over.Goals as goal

pub invariant_of-result : goal.invariant_of-result
invariant_of-result c = record { same = c.mothers.ensures ∙ ap (λ (m : MemoryTree). m.signs) c.requires.shared }
