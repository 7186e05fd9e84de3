use Rattle.std.proofs.Common.{rules}
use Rattle.line_charts.specs.Keys.{compare_keys}
use Rattle.line_charts.specs.Inner.Hosts.{key_of}
use Rattle.line_charts.proofs.KeyLaws.{keys_total, keys_equal}
use Rattle.line_charts.proofs.Rising.{sorted_by_key}
use Rattle.line_charts.proofs.hosts.sort_hosts.Goals as goal

pub returns-clause-sorted : goal.returns-clause-sorted
returns-clause-sorted c = sorted_by_key compare_keys keys_total (λ a b. (keys_equal a b).0) key_of _ c.sort_unstable_by.ensures.sorted (λ f a r q k. search rules)
