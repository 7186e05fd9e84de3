-- What is known of the trees of an answer.
use Rattle.std.specs.Prelude.{ℕ, ◌<◌, ◌^◌, All, length}
use Rattle.derivation.specs.Text.{IsNamed}
use Rattle.tree_model.specs.Structures.{Structure}
use Rattle.tree_model.specs.Signs.{Signs}
use Rattle.tree_model.specs.Items.{Answer, Trees}
use Rattle.tree_model.specs.Trees.{Full}

-- each place in the trees of an answer is that of one of so many names
abbrev pub AreNamed : ℕ → Answer → Type 0
AreNamed count (Trees classes trees) = All (IsNamed count) trees
AreNamed count other = Unit {0}

-- each tree of an answer has a full structure
abbrev pub AreFull : Signs → Answer → Type 0
AreFull g (Trees classes trees) = All (λ t. (f : Structure) × Full g t f) trees
AreFull g other = Unit {0}

-- a `u32` can say how many trees there are
abbrev pub IsFew : Answer → Type 0
IsFew (Trees classes trees) = length trees < 2 ^ 32
IsFew other = Unit {0}
