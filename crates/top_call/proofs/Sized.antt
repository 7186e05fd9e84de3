-- The size of a workload is in its range.
use Rattle.std.proofs.Common.{ℕ, List, subst}
use Rattle.command_line.specs.Words.{Task, Options, IsForm, IsWithin, in_range, run, self_test}
use Rattle.top_call.specs.Commands.{IsSized}

pub form-sized : (words : List (List ℕ)) → ((number size : ℕ) (options : Options) → IsForm words (run (self_test number size) options) → IsWithin (in_range 1 1000) size)
    → (task : Task) (options : Options) → IsForm words (run task options) → IsSized task
form-sized words sized task options h = λ number size e. sized number size options (subst (λ t. IsForm words (run t options)) e h)
