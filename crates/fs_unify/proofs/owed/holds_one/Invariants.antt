use Rattle.std.proofs.Common.{◌≡◌, drop}
use Rattle.std.specs.List.{list_any}
use Rattle.fs_graph.specs.Facts.{path_of}
use Rattle.fs_unify.specs.Owing.{is_one_of}
use Rattle.fs_unify.proofs.owed.holds_one.Given as goal

abbrev pub invariant-loop-feat : goal.invariant-loop-feat
invariant-loop-feat l = list_any (λ f. is_one_of (path_of l.feats) f.0) (drop l.feat-index l.path) ≡ list_any (λ f. is_one_of (path_of l.feats) f.0) l.path
