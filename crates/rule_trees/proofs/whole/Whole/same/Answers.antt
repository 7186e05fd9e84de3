use Rattle.std.proofs.Common.{refl}
use Rattle.fs_graph.specs.GraphMap.{reader_of}
use Rattle.fs_unify.specs.Rules.{system_of}
use Rattle.book_signs.specs.Trees.{signs_of}
use Rattle.rule_trees.proofs.CopyLemmas.{same_view}
use Rattle.rule_trees.proofs.whole.Whole.same.Goals as goal

pub returns : goal.returns
returns c = λ yes.
    record {
      types = c.if-not-may_be.ensures.types refl;
      feats = c.if-not-may_be.ensures.feats refl;
      limit = c.if-not-may_be.ensures.limit refl;
      seen = same_view (system_of c.args.signs.now.book.system) c.laws.ensures.order (signs_of c.args.signs.now).paths (reader_of c.args.self.now.bounded.plain) (reader_of c.args.other.now.bounded.plain) (c.same.ensures.0 yes);
    }
