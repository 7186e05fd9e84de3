-- Tasks as claims on nodes.
use Rattle.std.specs.Prelude.{ℕ, ◌≡◌, ◌<◌, Option, Some, None, List, [], ◌∷◌, ◌++◌, map, drop, slice_index_or, flat_map}
use Rattle.fs_model.specs.Claims.{Has}
use Rattle.fs_model.specs.Table.{NodeClaim, is_same, is_under, from}
use Rattle.fs_closing.specs.declared.tasks.Pair.{Pair}
use Rattle.fs_closing.specs.declared.tasks.Bound.{Bound}
use Rattle.fs_closing.specs.declared.tasks.Entry.{Entry}
use Rattle.fs_closing.specs.declared.tasks.Tasks.{Tasks}
use Rattle.fs_closing.specs.Rules.{Rule, no_rule}
use Rattle.fs_closing.specs.Joined.{IsJoined}

abbrev pub pair_claim : Pair → NodeClaim
pair_claim x = is_same x.node [] x.other []

abbrev pub bound_claim : Bound → NodeClaim
bound_claim x = is_under x.node [] x.ty

-- the claims of a rule from a place on, at a node
abbrev pub entry_claims : List Rule → Entry → List NodeClaim
entry_claims rules x = map (from x.node) (drop x.from (slice_index_or rules x.rule no_rule).claims)

abbrev pub work_of : List Rule → Tasks → List NodeClaim
work_of rules tasks =
    map pair_claim tasks.pairs.items ++ (map bound_claim tasks.bounds.items ++ flat_map (entry_claims rules) tasks.entries.items)

-- no task speaks of a node, a type or a rule that isn't there
pub record AreReady (size types rules : ℕ) (tasks : Tasks) : Type 0 where
  pub pairs : (x : Pair) → Has x tasks.pairs.items → (x.node < size) × (x.other < size)
  pub bounds : (x : Bound) → Has x tasks.bounds.items → (x.node < size) × (x.ty < types)
  pub entries : (x : Entry) → Has x tasks.entries.items → (x.node < size) × (x.rule < rules)

-- the same tasks
pub record AreSameTasks (old new : Tasks) : Type 0 where
  pub pairs : new.pairs.items ≡ old.pairs.items
  pub bounds : new.bounds.items ≡ old.bounds.items
  pub entries : new.entries.items ≡ old.entries.items

-- a task is taken from the rest, of which it was one
pub record IsTaken (claims : List Rule → List NodeClaim) (old new : Tasks) : Type 0 where
  pub work : (rules : List Rule) → IsJoined (claims rules) (work_of rules new) (work_of rules old)
  pub ready : (size types rules : ℕ) → AreReady size types rules old → AreReady size types rules new

abbrev pub TakesPair : Tasks → Tasks → Option Pair → Type 0
TakesPair old new None = (old.pairs.items ≡ []) × AreSameTasks old new
TakesPair old new (Some x) = IsTaken (λ _. pair_claim x ∷ []) old new × Has x old.pairs.items

abbrev pub TakesBound : Tasks → Tasks → Option Bound → Type 0
TakesBound old new None = (old.bounds.items ≡ []) × AreSameTasks old new
TakesBound old new (Some x) = IsTaken (λ _. bound_claim x ∷ []) old new × Has x old.bounds.items

abbrev pub TakesEntry : Tasks → Tasks → Option Entry → Type 0
TakesEntry old new None = (old.entries.items ≡ []) × AreSameTasks old new
TakesEntry old new (Some x) = IsTaken (λ rules. entry_claims rules x) old new × Has x old.entries.items
