-- A depth-first visit in code: its lists, and what is known of them.
use Rattle.std.specs.Prelude.{ℕ, ◌≡◌, ◌≢◌, ◌<◌, ◌≤◌, ◌+◌, ◌-◌, ◌*◌, ◌^◌, ◌==◌, Bool, false, List, [], map, length, slice_index, slice_index_or}
use Rattle.std.specs.List.{count_by, sum_by}
use Rattle.fs_model.specs.Claims.{Path}
use Rattle.fs_model.specs.DepthFirst.{Plan, IsPlan, Leads, View, Going, missing}
use Rattle.fs_graph.specs.declared.graph.GraphArc.{GraphArc}
use Rattle.fs_graph.specs.declared.clash.Clash.{Clash}
use Rattle.fs_graph.specs.declared.clash.Clash.TheVariants.{Cycle, NoMemory}
use Rattle.fs_graph.specs.declared.visit.Frame.{Frame}
use Rattle.fs_graph.specs.Visits.{plan_of}

-- rows that can be visited
pub record IsVisitable (nodes : ℕ) (starts : List ℕ) (arcs : List GraphArc) : Type 0 where
  pub plan : IsPlan (plan_of nodes starts arcs)
  pub filled : 0 < nodes
  pub few : nodes < 2 ^ 32
  pub one_more : length starts ≡ nodes + 1
  pub inside : (n : ℕ) → n ≤ nodes → slice_index starts n ≤ length arcs

abbrev pub unmet : List ℕ → ℕ
unmet numbers = count_by (λ x. x == missing) numbers

abbrev pub nodes_of : List Frame → List ℕ
nodes_of frames = map (λ f. f.node) frames

abbrev pub nexts_of : List Frame → List ℕ
nexts_of frames = map (λ f. f.next) frames

abbrev pub view_from : List ℕ → List ℕ → List Bool → ℕ → List ℕ → List ℕ → View
view_from numbers order closed depth nodes nexts =
    record {
      number = slice_index numbers;
      count = length order;
      node_of = slice_index order;
      closed = λ n. slice_index_or closed n false;
      depth = depth;
      open_node = slice_index nodes;
      next = slice_index nexts;
    }

abbrev pub view_of : List ℕ → List ℕ → List Bool → List Frame → View
view_of numbers order closed frames = view_from numbers order closed (length frames) (nodes_of frames) (nexts_of frames)

-- a visit that goes on with these open nodes
pub record IsGoing (nodes : ℕ) (starts : List ℕ) (arcs : List GraphArc) (numbers order : List ℕ) (closed : List Bool) (frames : List Frame) : Type 0 where
  pub numbers_all : length numbers ≡ nodes
  pub closed_all : length closed ≡ nodes
  pub counted : unmet numbers + length order ≡ nodes
  pub going : Going (plan_of nodes starts arcs) (view_of numbers order closed frames)

-- what is left to do: arcs of open nodes, and nodes that weren't met
abbrev pub left_at : List ℕ → Frame → ℕ
left_at starts f = 1 + (slice_index starts (f.node + 1) - f.next)

abbrev pub left_of : List ℕ → ℕ → List ℕ → List Frame → ℕ
left_of starts arcs numbers frames = unmet numbers * (arcs + 2) + sum_by (left_at starts) frames

-- the node that a fault names is reached, and reaches itself
abbrev pub IsClashIn : Plan → Clash → Type 0
IsClashIn p (Cycle n) = ((q : Path) × Leads p 0 q n.0) × ((q : Path) × (q ≢ []) × Leads p n.0 q n.0)
IsClashIn p NoMemory = Unit {0}
