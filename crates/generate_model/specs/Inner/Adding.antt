-- One entry more in an index.
use Rattle.std.specs.Prelude.{ℕ, ◌≡◌, ◌++◌, List, [], ◌∷◌}
use Rattle.generate_model.specs.Indexing.{KeyedEntry, IndexTree, having_of, numbers_where, is_keyed, has_none}

pub record IsAdded (entry : KeyedEntry) (before after : IndexTree) : Type 0 where
  pub having : (pred : List ℕ) → having_of after.keyed pred ≡ having_of before.keyed pred ++ numbers_where (is_keyed pred) (entry ∷ [])
  pub apart : after.apart ≡ before.apart ++ numbers_where has_none (entry ∷ [])
