use Rattle.std.proofs.Common.{subst}
use Rattle.fs_graph.specs.GraphMap.{reader_of}
use Rattle.fs_unify.specs.Rules.{system_of}
use Rattle.fs_unify.specs.Owing.{IsWellFormedBut}
use Rattle.fs_trim.specs.Cutting.{owed_of}
use Rattle.tree_model.specs.Views.{IsKeptOf}
use Rattle.rule_trees.proofs.FollowLemmas.{own_is}
use Rattle.rule_trees.proofs.following.own_of.Goals as goal

pub returns-clause-own : goal.returns-clause-own
returns-clause-own c =
    own_is c.args.signs.now c.args.place c.structure.result.now c.in_ok-own.own c.laws.ensures.order c.structure.ensures.facts c.structure.ensures.short
    (subst (λ k. IsKeptOf k (reader_of c.structure.result.now) (reader_of c.in_ok-own.own)) c.daughters.ensures c.in_ok-own.ensures.kept)

pub returns-clause-owes : goal.returns-clause-owes
returns-clause-owes c =
    let s = system_of c.args.signs.now.book.system in
    subst (λ k. IsWellFormedBut s (reader_of c.in_ok-own.own) (owed_of k)) c.daughters.ensures (c.in_ok-own.ensures.owes s c.structure.ensures.closed.answer.well_formed)

pub returns-clause-short : goal.returns-clause-short
returns-clause-short c = c.in_ok-own.ensures.short c.args.signs.now.book.system c.structure.ensures.short
