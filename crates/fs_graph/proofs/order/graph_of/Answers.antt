use Rattle.std.proofs.Common.{length, ◌∙◌, ap}
use Rattle.fs_graph.proofs.order.graph_of.Goals as goal

pub renumbered-requires-clause-numbers : goal.renumbered-requires-clause-numbers
renumbered-requires-clause-numbers c = ap length c.deref.ensures.value ∙ c.requires.order.numbers_all

pub renumbered-requires-clause-settled : goal.renumbered-requires-clause-settled
renumbered-requires-clause-settled c = rw (c.deref.ensures.value, c.deref-2.ensures.value) c.requires.order.settled

pub returns : goal.returns
returns c = record { same = c.in_ok-graph.ensures; acyclic = c.requires.order.acyclic }
