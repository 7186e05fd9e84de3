use Rattle.std.proofs.Common.{◌≡◌, map, subst, IfOk}
use Rattle.body_facts.specs.Claimed.{WordTable}
use Rattle.fs_unify.specs.Systems.{rules_of}
use Rattle.grammar_files.specs.Placings.{placed_of}
use Rattle.constraint_expand.specs.Systems.{rules_in}
use Rattle.constraint_expand.proofs.expansion.type_facts.Goals as goal

pub returns : goal.returns
returns c =
    subst (λ (v : WordTable). IfOk c.rules_in.result (λ rules. rules_of rules.items ≡ rules_in v (map placed_of c.args.statements.now))) c.in_ok-words.ensures c.rules_in.ensures
