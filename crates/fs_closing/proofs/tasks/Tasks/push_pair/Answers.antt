use Rattle.std.proofs.Common.{◌<◌}
use Rattle.fs_closing.proofs.HasLemmas.{each_push}
use Rattle.fs_closing.proofs.WorkLemmas.{pair_joined}
use Rattle.fs_closing.proofs.tasks.Tasks.push_pair.Goals as goal

pub returns-clause-work : goal.returns-clause-work
returns-clause-work c = λ rules. rw c.in_ok-push.ensures.items (pair_joined rules _ _ _ _)

pub returns-clause-ready : goal.returns-clause-ready
returns-clause-ready c = λ size types rules a b old. record {
  pairs = each_push (λ x. (x.node < size) × (x.other < size)) _ _ _ c.in_ok-push.ensures.items old.pairs (a, b);
  bounds = old.bounds;
  entries = old.entries;
}
