use Rattle.std.proofs.Common.{◌≡◌, ◌++◌, ℕ, List, map, drop}
use Rattle.generate_model.specs.Indexing.{entry_of, numbers_where, is_keyed, has_none, having_of}
use Rattle.generate_model.proofs.index.PredicateIndex.make.Given as goal

abbrev pub invariant-loop-k : goal.invariant-loop-k
invariant-loop-k l = record {
  having : (pred : List ℕ) → having_of l.index.keyed pred ++ numbers_where (is_keyed pred) (map entry_of (drop l.k l.entries)) ≡ numbers_where (is_keyed pred) (map entry_of l.entries);
  apart : l.index.apart ++ numbers_where has_none (map entry_of (drop l.k l.entries)) ≡ numbers_where has_none (map entry_of l.entries);
}
