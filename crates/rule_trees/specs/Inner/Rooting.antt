-- Whether the instance at a place unifies with a structure; only private clauses cite it.
use Rattle.std.specs.Prelude.{ℕ, ◌≡◌, Some, slice_get}
use Rattle.fs_model.specs.Closure.{Closure, AreConsistent}
use Rattle.tree_model.specs.Structures.{Structure}
use Rattle.tree_model.specs.Signs.{Instance, Signs}
use Rattle.tree_model.specs.Trees.{Both}

pub record IsRootedBy (g : Signs) (f : Structure) (place : ℕ) : Type 0 where
  pub root : Instance
  pub at : slice_get g.instances place ≡ Some root
  pub unifies : AreConsistent g.system (Closure g.system (Both g root f))
