-- Parts of an MRS as they are made, one after another.
use Rattle.std.specs.Prelude.{ℕ, ◌≡◌, ◌<◌, ◌+◌, ◌-◌, ◌*◌, ◌^◌, nat_lt, Option, Some, None, not, List, [], ◌∷◌, ◌++◌, map, filter, length, slice_index, if◌then◌else◌}
use Rattle.fs_graph.specs.declared.graph.GraphArc.{GraphArc}
use Rattle.fs_graph.specs.GraphMap.{GraphMap, type_at}
use Rattle.type_hierarchy.specs.Table.{TypeTable}
use Rattle.std.specs.List.{AllZip, flat_map}
use Rattle.mrs_places.specs.Paths.{Paths}
use Rattle.mrs_places.specs.Looking.{Pair}
use Rattle.mrs_extract.specs.Extraction.{is_string, is_role, is_digit, all_noted, IsArgumentAt}
use Rattle.mrs_model.specs.Meanings.{Argument}

-- the nodes that are variables, in order of first occurrence, and how many nodes there are
pub record NumberTree : Type 0 where
  pub nodes : List ℕ
  pub size : ℕ

-- each has its place at its slot
pub record AreSlots (nodes slots : List ℕ) : Type 0 where
  pub within : (i : ℕ) → i < length nodes → slice_index nodes i < length slots
  pub placed : (i : ℕ) → i < length nodes → slice_index slots (slice_index nodes i) ≡ i

-- one digit more, while the number stays one of 32 bits
abbrev pub small : ℕ → Option ℕ
small n = if nat_lt n (2 ^ 32) then Some n else None

abbrev pub with_digit : ℕ → ℕ → Option ℕ
with_digit n b = if is_digit b then small (10 * n + (b - 48)) else None

-- the variable that fills a role, where it is one
abbrev pub filler_nodes : GraphMap → TypeTable → ℕ → List ℕ
filler_nodes g types n = if is_string types (type_at g n) then [] else n ∷ []

-- the roles among some arcs, and the nodes that fill them as variables
abbrev pub roles_among : Paths → List GraphArc → List GraphArc
roles_among p arcs = filter (λ a. is_role p a.feat.0) arcs

abbrev pub nodes_among : GraphMap → TypeTable → Paths → List GraphArc → List ℕ
nodes_among g types p arcs = filter (λ m. not (is_string types (type_at g m))) (map (λ a. a.to.0) (roles_among p arcs))

-- the roles among some arcs came behind the others
pub record PutsRoles (g : GraphMap) (types : TypeTable) (p : Paths) (nodes : List ℕ) (arcs : List GraphArc) (old new : List Argument) : Type 0 where
  pub more : List Argument
  pub is : new ≡ old ++ more
  pub each : AllZip (IsArgumentAt g types p nodes) (roles_among p arcs) more

-- Elements of a list were made, one after the other: their nodes were noted, and each is what its pair asks for.
pub record AreMade {B : Type 0} (R : List ℕ → Pair → B → Type 0) (f : Pair → List ℕ) (before nodes : List ℕ) (xs : List Pair) (ys : List B) : Type 0 where
  pub nodes_are : nodes ≡ all_noted before (flat_map f xs)
  pub each : AllZip (R nodes) xs ys
