-- Paths of MRSs that fit a grammar.
use Rattle.std.specs.Prelude.{◌≡◌, length}
use Rattle.book_signs.specs.Trees.{SignTree}
use Rattle.mrs_places.specs.Paths.{Paths}
use Rattle.mrs_extract.specs.Asked.{ArePaths}

-- they are paths over the grammar's types, and have a name for each of its features
pub record ArePathsOf (t : SignTree) (p : Paths) : Type 0 where
  pub are : ArePaths t.book.system.types p
  pub feats : length p.feats ≡ length t.book.system.introducers
