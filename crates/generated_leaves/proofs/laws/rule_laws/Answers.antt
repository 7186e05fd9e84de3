use Rattle.generated_leaves.proofs.LawLemmas.{owns_are_even, owns_agree, owns_are_told}
use Rattle.generated_leaves.proofs.laws.rule_laws.Goals as goal

pub returns : goal.returns
returns c = record { even = owns_are_even; agree = owns_agree; told = owns_are_told }
