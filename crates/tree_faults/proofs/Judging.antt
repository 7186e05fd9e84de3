-- What explains a tree that has a structure.
use Rattle.std.specs.Prelude.{ℕ, ◌<◌, length}
use Rattle.std.proofs.Common.{subst}
use Rattle.fs_model.specs.Claims.{IsOrder}
use Rattle.derivation.specs.Trees.{Derivation}
use Rattle.tree_model.specs.Structures.{Structure}
use Rattle.tree_model.specs.Signs.{Signs}
use Rattle.tree_model.specs.Lexical.{Words}
use Rattle.tree_model.specs.Trees.{Full, IsRooted}
use Rattle.tree_model.proofs.Once.{one}
use Rattle.tree_structures.proofs.Forming.{formed}
use Rattle.tree_faults.specs.Nodes.{Place}
use Rattle.tree_faults.specs.Spelled.{AreSpelled, IsFirstMisspelled}
use Rattle.tree_faults.specs.Explained.{Licensed, Misspelled, Unrooted, IsExplained}
use Rattle.tree_faults.proofs.Telling.{misspelled_below}

module _ (g : Signs) (words : Words) (tree : Derivation) (f : Structure) (full : Full g tree f) where
  pub misspelled_explains : (place : Place) (instance : ℕ) → IsFirstMisspelled words tree place instance → IsExplained g words tree (Misspelled place instance)
  misspelled_explains place instance x = ((f, full), x)

  pub misspelled_named : (place : Place) (instance : ℕ) → IsFirstMisspelled words tree place instance → instance < length g.instances
  misspelled_named place instance x = misspelled_below g (formed g tree f full) x

  pub licensed_explains : AreSpelled words tree → IsRooted g f → IsExplained g words tree Licensed
  licensed_explains s r = (f, full, s, r)

  pub unrooted_explains : IsOrder g.system → AreSpelled words tree → (IsRooted g f → ⊥) → IsExplained g words tree Unrooted
  unrooted_explains o s not = ((f, full), s, λ h y r. not (subst (IsRooted g) (one g o y full) r))
