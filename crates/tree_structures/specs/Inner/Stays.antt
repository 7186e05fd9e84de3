-- What is known stays known while more is made; only private clauses cite it.
use Rattle.std.specs.Prelude.{ℕ, ◌≡◌, List, Option, Some, None, slice_get}
use Rattle.tree_model.specs.Structures.{Structure}
use Rattle.book_signs.specs.Trees.{SignTree}
use Rattle.tree_structures.specs.declared.memo.FullMemo.{FullMemo}
use Rattle.tree_structures.specs.Known.{IsRight, kept}

-- what was known stays known, by its number
abbrev pub Extends : List Structure → List Structure → Type 0
Extends old new = (n : ℕ) (f : Structure) → slice_get old n ≡ Some f → slice_get new n ≡ Some f

-- the structures are right, and those of before stay
pub record Stays (t : SignTree) (old new : FullMemo) : Type 0 where
  pub right : IsRight t new
  pub known : Extends (kept t old.known.items) (kept t new.known.items)

-- the number of a structure of which this holds; none where it holds of none
abbrev pub IsNumbered : SignTree → FullMemo → (Structure → Type 0) → Option ℕ → Type 0
IsNumbered t memo holds None = (f : Structure) → holds f → ⊥
IsNumbered t memo holds (Some n) = (f : Structure) × (slice_get (kept t memo.known.items) n ≡ Some f) × holds f
