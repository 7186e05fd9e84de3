-- What is asked of a grammar where structures are tested against an MRS.
use Rattle.std.specs.Prelude.{ℕ, ◌≡◌, Some, None}
use Rattle.fs_model.specs.Claims.{Path, Claim, same, below, System, IsOrder}
use Rattle.fs_model.specs.Sources.{Reader}
use Rattle.type_hierarchy.specs.Table.{TypeTable, is_below}
use Rattle.mrs_places.specs.Paths.{Paths}
use Rattle.tree_model.specs.Signs.{Signs}
use Rattle.generate_model.specs.Contributions.{Input}
use Rattle.relation_fit.specs.Lists.{RelList, list_in}

-- no cell is an empty list: the null type, where the grammar has it, has no meet with the type that introduces REST
abbrev pub NullApart : System → Paths → ℕ → Type 0
NullApart s p rest = (t : ℕ) → p.null ≡ Some t → s.meet t (s.introducer rest) ≡ None

-- types are in the order of the table
abbrev pub SameBelow : System → TypeTable → Type 0
SameBelow s types = (t u : ℕ) → s.is_below t u ≡ is_below types t u

-- what is asked of a grammar, an input and a list of relations: types are in order, and the list is that of the paths of the input
pub record IsAskedOf (g : Signs) (input : Input) (l : RelList) : Type 0 where
  pub order : IsOrder g.system
  pub same_below : SameBelow g.system input.types
  pub list : list_in input.paths ≡ Some l
  pub apart : NullApart g.system input.paths l.rest

-- what a graph says is among these claims
pub record IsPartOf (claims : Claim → Type 0) (r : Reader) : Type 0 where
  pub equal : (p q : Path) (n : ℕ) → r.node_at p ≡ Some n → r.node_at q ≡ Some n → claims (same p q)
  pub typed : (p : Path) (n : ℕ) → r.node_at p ≡ Some n → claims (below p (r.type_of n))
