-- Piles of answers.
use Rattle.std.proofs.Common.{ℕ, ◌≡◌, ◌<◌, List, All, length, get_or, sym, subst}
use Rattle.fs_graph.specs.GraphMap.{GraphMap}
use Rattle.fs_unify.specs.Rules.{Grammar}
use Rattle.fs_unify.specs.Placing.{IsAnswerIn}

-- the one at a place
pub answer_at : (g : Grammar) (pile : List GraphMap) (k : ℕ) (x : GraphMap) → All (IsAnswerIn g) pile → k < length pile → x ≡ get_or pile k x → IsAnswerIn g x
answer_at g pile k x known h at = subst (IsAnswerIn g) (sym at) (known k x h)
