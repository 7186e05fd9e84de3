use Rattle.std.proofs.Common.{◌<◌, map, MatchOption}
use Rattle.body_facts.specs.BracketUses.{used_of}
use Rattle.constraint_expand.specs.Found.{HasNoWriter}
use Rattle.constraint_expand.proofs.MissingLemmas.{IsBestUse, HasNoUse}
use Rattle.constraint_expand.proofs.missing.first_use.Given as goal

abbrev pub invariant-loop-i : goal.invariant-loop-i
invariant-loop-i l =
    MatchOption l.best (HasNoUse (map used_of l.found) (HasNoWriter l.writers.entries) l.i)
    (λ b. (b < l.i) × IsBestUse (map used_of l.found) (HasNoWriter l.writers.entries) l.i b)
