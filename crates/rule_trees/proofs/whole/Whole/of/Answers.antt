use Rattle.std.proofs.Common.{◌∙◌, length, ap}
use Rattle.fs_unify.specs.Rules.{Grammar}
use Rattle.type_hierarchy.specs.Table.{count_of}
use Rattle.constraint_expand.specs.declared.books.Book.{Book}
use Rattle.rule_trees.proofs.WithinLemmas.{feats_long, within_of}
use Rattle.rule_trees.proofs.whole.Whole.of.Goals as goal

pub returns-clause-types : goal.returns-clause-types
returns-clause-types c = c.counts.ensures.all ∙ ap count_of c.types.ensures ∙ ap (λ (s : Grammar). count_of s.types) c.system-system.ensures

pub returns-clause-feats : goal.returns-clause-feats
returns-clause-feats c = feats_long c.book.result.now c.len.result c.len.ensures ∙ ap (λ (b : Book). length b.feats.items) c.book.ensures ∙ c.laws.ensures.whole.features

pub returns-clause-limit : goal.returns-clause-limit
returns-clause-limit c = c.path_limit.ensures.limit ∙ ap (λ (s : Grammar). s.path_limit) c.system-system.ensures

pub invariant_of-bounded : goal.invariant_of-bounded
invariant_of-bounded c =
    record {
      within = within_of c.args.signs.now c.counts.result.all c.len.result c.path_limit.result c.args.graph
          (c.counts.ensures.all ∙ ap count_of c.types.ensures ∙ ap (λ (s : Grammar). count_of s.types) c.system-system.ensures)
          (feats_long c.book.result.now c.len.result c.len.ensures ∙ ap (λ (b : Book). length b.feats.items) c.book.ensures ∙ c.laws.ensures.whole.features)
          (c.path_limit.ensures.limit ∙ ap (λ (s : Grammar). s.path_limit) c.system-system.ensures)
          c.requires;
    }
