use Rattle.fs_graph.specs.GraphMap.{reader_of}
use Rattle.fs_unify.specs.Rules.{system_of}
use Rattle.fs_graph.specs.Facts.{path_of}
use Rattle.book_signs.specs.Trees.{signs_of}
use Rattle.rule_trees.proofs.CopyLemmas.{same_kept, same_view}
use Rattle.rule_trees.proofs.copies.copied.Goals as goal

pub returns-clause-same : goal.returns-clause-same
returns-clause-same c =
    let t = c.args.signs.now in
    same_view (system_of t.book.system) c.laws.ensures.order (signs_of t).paths (reader_of c.args.graph.now) (reader_of c.in_ok-copy.copy)
    (same_kept _ (reader_of c.args.graph.now) (reader_of c.in_ok-copy.copy) (λ i. record { at_root = path_of (c.new.ensures.items i); anywhere = path_of (c.new-2.ensures.items i) }) c.in_ok-copy.ensures.kept)

pub returns-clause-short : goal.returns-clause-short
returns-clause-short c = c.in_ok-copy.ensures.short c.args.signs.now.book.system c.requires
