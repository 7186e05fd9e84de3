-- Charts that are complete below a size, and the answer of the limits by their live hosts.
use Rattle.std.specs.Prelude.{◌≡◌, ℕ, ◌+◌, ◌≤◌, ◌<◌, ◌^◌, ◌&&◌, ◌↔◌, nat_le, Bool, true, false, if◌then◌else◌, is_some, Option, Some, None, List, [], ◌∷◌, length, slice_get}
use Rattle.chart_model.specs.Calculus.{Calculus}
use Rattle.chart_model.specs.At.{At}
use Rattle.chart_model.specs.Chart.{Row, Task, Chart, Leaf, Limits, Entry, Fails, is_free, all_free, daughters, covers_at, shapes_at, IsRight, step, opened, empty, Replay}
use Rattle.chart_model.specs.Classes.{Class, Member, IsPacked, IsHost}
use Rattle.chart_model.specs.Grown.{HoldsTrees}
use Rattle.chart_model.specs.Finished.{NothingPending, IsComplete}
use Rattle.chart_model.specs.Limits.{LimitAnswer, UnaryChain, Edges, Within, HasChain, HasEdges, IsBroken, IsLimitAnswer, IsClassCount, AreProper}

module _ {M C : Type 0} (k : Calculus M C) where
  -- a host whose level is from `least` to `most` and whose size is below n
  abbrev pub is_counted : ℕ → ℕ → ℕ → Row M C → Bool
  is_counted least most n row = is_some row.shape && nat_le least row.level && nat_le row.level most && nat_le (k.size row.cover + 1) n

  -- the number of such hosts among the rows that have no representative
  abbrev pub host_count : ℕ → ℕ → ℕ → List (Row M C) → List (Option ℕ) → ℕ
  host_count least most n [] intos = 0
  host_count least most n (row ∷ rows) [] = 0
  host_count least most n (row ∷ rows) (Some r ∷ intos) = host_count least most n rows intos
  host_count least most n (row ∷ rows) (None ∷ intos) = if is_counted least most n row then host_count least most n rows intos + 1 else host_count least most n rows intos

module _ {M C : Type 0} (k : Calculus M C) (limits : Limits) where
  -- the number of live hosts of a size below n, of levels up to the limit and of the level above it
  abbrev pub edge_count : Chart M C → ℕ → ℕ
  edge_count ch n = host_count k 0 limits.unary n ch.rows ch.into

  abbrev pub chain_count : Chart M C → ℕ → ℕ
  chain_count ch n = host_count k (limits.unary + 1) (limits.unary + 1) n ch.rows ch.into

  -- what a step may add, whether or not there is room for one more host
  pub record Follows (ch : Chart M C) (e : Entry M C) : Type 0 where
    pub task : Task
    pub made : slice_get ch.tasks e.task ≡ Some task
    pub pending : is_free ch.done e.task ≡ true
    pub skipped : all_free ch.into (daughters ch.rows task) ≡ false → e.outcome ≡ Fails
    pub right : all_free ch.into (daughters ch.rows task) ≡ true → IsRight k limits task.rule (length (daughters ch.rows task)) (covers_at ch.rows (daughters ch.rows task)) (shapes_at ch.rows (daughters ch.rows task)) e.outcome

  -- each entry is one that a step may add in the state after those before it
  abbrev pub IsRun : Chart M C → List (Entry M C) → Type 0
  IsRun ch [] = Unit {0}
  IsRun ch (e ∷ es) = Follows ch e × IsRun (step k limits ch e) es

  -- a task puts together a whole tuple, whose cover, if any, has at least size n
  pub record IsWholeFrom (ch : Chart M C) (n : ℕ) (task : Task) : Type 0 where
    pub whole : length (daughters ch.rows task) ≡ k.arity task.rule
    pub size : (c : C) → k.covers task.rule (covers_at ch.rows (daughters ch.rows task)) ≡ Some c → n ≤ k.size c

  -- each pending task is such a one
  abbrev pub PendingFrom : Chart M C → ℕ → Type 0
  PendingFrom ch n = (t : ℕ) (task : Task) → At ch.tasks t task → At ch.done t None → IsWholeFrom ch n task

-- the least size by which a count, which is that of the sizes below n, is more than the limit; none where it isn't below b
abbrev pub IsLeastSize : (ℕ → ℕ) → ℕ → ℕ → Option ℕ → Type 0
IsLeastSize count limit b None = count b ≤ limit
IsLeastSize count limit b (Some n) = (n < b) × (count n ≤ limit) × (limit < count (n + 1))

-- the answer by the least sizes of a unary chain and of too many edges
abbrev pub answer_by : Option ℕ → Option ℕ → LimitAnswer
answer_by None None = Within
answer_by None (Some e) = Edges e
answer_by (Some c) None = UnaryChain c
answer_by (Some c) (Some e) = if nat_le c e then UnaryChain c else Edges e

module _ {M C : Type 0} (k : Calculus M C) (limits : Limits) (leaves : List (Leaf M C)) where
  -- a live host of the cover and level of a class subsumes it
  pub record HasHost (ch : Chart M C) (c : Class M C) : Type 0 where
    pub number : ℕ
    pub shape : M
    pub host : IsHost k limits leaves ch (record c { shape = shape }) number
    pub over : k.over shape c.shape ≡ true

  -- the live hosts of sizes below n are the packed classes of these sizes, one for each, and each member of these sizes has a host
  pub record IsCompleteBelow (ch : Chart M C) (n : ℕ) : Type 0 where
    pub sound : (c : Class M C) (i : ℕ) → k.size c.cover < n → IsHost k limits leaves ch c i → IsPacked k limits leaves c
    pub found : (c : Class M C) → k.size c.cover < n → IsPacked k limits leaves c → (i : ℕ) × IsHost k limits leaves ch c i
    pub once : (c : Class M C) (i j : ℕ) → IsHost k limits leaves ch c i → IsHost k limits leaves ch c j → i ≡ j
    pub covered : (c : Class M C) → k.size c.cover < n → Member k limits leaves c → HasHost ch c

  -- the live hosts decide the limits at each size below n
  pub record DecidesBelow (ch : Chart M C) (n : ℕ) : Type 0 where
    pub chains : (m : ℕ) → m < n → HasChain k limits leaves m ↔ (0 < chain_count k limits ch (m + 1))
    pub edges : (m : ℕ) → m < n → HasEdges k limits leaves m ↔ (limits.edges < edge_count k limits ch (m + 1))

  -- a fault is the answer of the limits; where there is none, neither limit is broken at a size below n
  abbrev pub AnswersBelow : ℕ → LimitAnswer → Type 0
  AnswersBelow n (UnaryChain m) = IsLimitAnswer k limits leaves (UnaryChain m)
  AnswersBelow n (Edges m) = IsLimitAnswer k limits leaves (Edges m)
  AnswersBelow n Within = (m : ℕ) → m < n → IsBroken k limits leaves m → ⊥

  -- what a chart with such pending tasks alone tells below n: it is complete, and its live hosts decide the limits and give their answer
  pub record IsDecidedBelow (ch : Chart M C) (n : ℕ) : Type 0 where
    pub complete : IsCompleteBelow ch n
    pub decides : DecidesBelow ch n
    pub answer : (chain edges : Option ℕ) → IsLeastSize (chain_count k limits ch) 0 n chain → IsLeastSize (edge_count k limits ch) limits.edges n edges → AnswersBelow n (answer_by chain edges)

-- where each pending task has a whole tuple whose cover, if any, has at least size n, the chart is decided below n
abbrev pub ChartsDecideBelow : {M C : Type 0} → Calculus M C → Type 0
ChartsDecideBelow {M} {C} k = (limits : Limits) (leaves : List (Leaf M C)) → AreProper k limits leaves → (history : List (Entry M C)) → IsRun k limits (opened k limits (empty k limits) leaves) history → (n : ℕ) → PendingFrom k limits (Replay k limits leaves history) n → IsDecidedBelow k limits leaves (Replay k limits leaves history) n

-- what a chart with nothing pending tells: it is complete, its live hosts of levels up to the limit are as many as the class count, and the least sizes give the answer of the limits
pub record IsDecided {M C : Type 0} (k : Calculus M C) (limits : Limits) (leaves : List (Leaf M C)) (ch : Chart M C) : Type 0 where
  pub complete : IsComplete k limits leaves ch
  pub count : IsClassCount k limits leaves (edge_count k limits ch (2 ^ 32))
  pub answer : (chain edges : Option ℕ) → IsLeastSize (chain_count k limits ch) 0 (2 ^ 32) chain → IsLeastSize (edge_count k limits ch) limits.edges (2 ^ 32) edges → IsLimitAnswer k limits leaves (answer_by chain edges)

-- so it is, in whatever order the outcomes were entered, also without regard to room
abbrev pub ChartsDecide : {M C : Type 0} → Calculus M C → Type 0
ChartsDecide {M} {C} k = (limits : Limits) (leaves : List (Leaf M C)) → AreProper k limits leaves → (history : List (Entry M C)) → IsRun k limits (opened k limits (empty k limits) leaves) history → NothingPending (Replay k limits leaves history) → IsDecided k limits leaves (Replay k limits leaves history)

-- and each tree over its leaves that has a full structure stands in exactly one group of its forest
abbrev pub RunsHoldTrees : {M C F : Type 0} → Calculus M C → (ℕ → List F → F → Type 0) → (M → F → Type 0) → Type 0
RunsHoldTrees {M} {C} {F} k full agrees = (limits : Limits) (leaves : List (Leaf M C)) (history : List (Entry M C)) → IsRun k limits (opened k limits (empty k limits) leaves) history → NothingPending (Replay k limits leaves history) → HoldsTrees k full agrees limits leaves (Replay k limits leaves history)
