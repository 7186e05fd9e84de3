use Rattle.std.proofs.Common.{◌<◌}
use Rattle.fs_closing.proofs.HasLemmas.{each_push}
use Rattle.fs_closing.proofs.WorkLemmas.{entry_joined}
use Rattle.fs_closing.proofs.tasks.Tasks.push_entry.Goals as goal

pub returns-clause-work : goal.returns-clause-work
returns-clause-work c = λ rules. rw c.in_ok-push.ensures.items (entry_joined rules _ _ _ _)

pub returns-clause-ready : goal.returns-clause-ready
returns-clause-ready c = λ size types rules a b old. record {
  pairs = old.pairs;
  bounds = old.bounds;
  entries = each_push (λ x. (x.node < size) × (x.rule < rules)) _ _ _ c.in_ok-push.ensures.items old.entries (a, b);
}
