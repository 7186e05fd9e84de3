use Rattle.std.proofs.Common.{◌≡◌, drop}
use Rattle.std.specs.List.{list_any}
use Rattle.fs_graph.specs.Facts.{path_of, claim_of}
use Rattle.fs_unify.specs.Owing.{speaks_of}
use Rattle.fs_unify.proofs.owed.one_speaks_of.Given as goal

abbrev pub invariant-loop-fact : goal.invariant-loop-fact
invariant-loop-fact l =
    list_any (λ x. speaks_of (path_of l.at_root) (path_of l.anywhere) (claim_of x)) (drop l.fact-index l.facts)
    ≡ list_any (λ x. speaks_of (path_of l.at_root) (path_of l.anywhere) (claim_of x)) l.facts
