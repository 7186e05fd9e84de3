use Rattle.std.proofs.Common.{subst}
use Rattle.fs_unify.specs.Owing.{ListsOwed}
use Rattle.fs_trim.specs.Cutting.{owed_of}
use Rattle.tree_model.specs.Mothers.{daughters_cut}
use Rattle.tree_model.specs.Signs.{rule_system}
use Rattle.book_signs.specs.Trees.{SignTree, signs_of}
use Rattle.book_signs.proofs.signs.SignBook.owed.Goals as goal

pub returns : goal.returns
returns c =
    subst (λ (t : SignTree). ListsOwed t.book.system (owed_of (daughters_cut (rule_system (signs_of t)))) c.self.inside.owed) c.self.view_is
    (subst (λ k. ListsOwed c.self.inside.book.now.system (owed_of k) c.self.inside.owed) c.self.invariant.daughters_are c.self.invariant.owed_are)
