-- Grammars whose phrase rules append the relations of their daughters, and pruning for them.
use Rattle.std.specs.Prelude.{ℕ, ◌≡◌, ◌⊎◌, ◌↔◌, ◌+◌, ◌≤◌, Some, List, [], ◌∷◌, slice_get}
use Rattle.fs_model.specs.Claims.{Path, Claim, same, Has}
use Rattle.fs_model.specs.Closure.{Closure}
use Rattle.fs_model.specs.Sources.{Told}
use Rattle.chart_model.specs.At.{At}
use Rattle.chart_model.specs.Chart.{Leaf, Limits}
use Rattle.derivation.specs.Trees.{Derivation}
use Rattle.tree_model.specs.Readings.{Wholes, IsAccepted}
use Rattle.tree_model.specs.Structures.{Structure}
use Rattle.tree_model.specs.Mothers.{Rule, RuleSystem, Meant, arity_at}
use Rattle.tree_model.specs.Laws.{rules_full}
use Rattle.chart_model.specs.Calculus.{Calculus}
use Rattle.generate_model.specs.Threads.{Open, Reaches}
use Rattle.generate_model.specs.Embedding.{Embeds, moved_to, IsOutside}
use Rattle.generate_model.specs.Pruning.{pruned}

-- from a path to a path these open lists follow one another
pub data Links (claims : Claim → Type 0) : Path → List Open → Path → Type 0 where
  links_none : {a b : Path} → claims (same a b) → Links claims a [] b
  links_next : {a b : Path} {o : Open} {os : List Open} → claims (same a o.start) → Links claims o.end os b → Links claims a (o ∷ os) b

-- By its own facts the rule appends its daughters' lists, each of them, and lists of its own: a mother's list begins where the first begins,
-- each further one begins where the one before it ends, and hers ends where the last ends.
pub record IsThreading (g : RuleSystem) (rest : ℕ) (l : Open) (rule : Rule) : Type 0 where
  pub opens : List Open
  pub links : Links (Closure g.system (Told rule.facts)) l.start opens l.end
  pub each : (o : Open) → Has o opens → ((place : Path) × Has place rule.places × (o ≡ moved_to place l)) ⊎ ((n : ℕ) × Reaches (Closure g.system (Told rule.facts)) rest o n)
  pub all : (place : Path) → Has place rule.places → Has (moved_to place l) opens

abbrev pub AllThread : RuleSystem → ℕ → Open → Type 0
AllThread g rest l = (n : ℕ) (rule : Rule) → slice_get g.rules n ≡ Some rule → IsThreading g rest l rule

-- the list reaches its end
abbrev pub Fit : RuleSystem → ℕ → Open → Structure → Type 0
Fit g rest l v = (n : ℕ) × Reaches (Meant g v) rest l n

-- no structure that is accepted has the elements of this one among those of its own list
abbrev pub Hopeless : {C : Type 0} → RuleSystem → ℕ → Open → (Structure → C → Type 0) → Structure → Type 0
Hopeless {C} g rest l accepted v = (n m before : ℕ) (u : Structure) (c : C) → Reaches (Meant g v) rest l n → Reaches (Meant g u) rest l m → before + n ≤ m → Embeds g rest l n before v u → accepted u c → ⊥

-- Where each phrase rule threads and each leaf's list reaches its end, dropping hopeless structures changes nothing of what is accepted.
abbrev pub HopelessMayBeDropped : Type 1
HopelessMayBeDropped = (C : Type 0) (g : RuleSystem) (rest : ℕ) (l : Open) → IsOutside g l → AllThread g rest l →
    (k : Calculus Structure C) → ((rule : ℕ) → k.arity rule ≡ arity_at g (slice_get g.rules rule)) → (w : Wholes Structure C) → w.full ≡ rules_full g → (limits : Limits) (leaves : List (Leaf Structure C)) →
    ((n : ℕ) (leaf : Leaf Structure C) → At leaves n leaf → Fit g rest l (w.leaf_full leaf.name)) →
    (dropped : Structure → Type 0) → ((v : Structure) → dropped v → Hopeless g rest l w.accepted v) →
    (t : Derivation) → IsAccepted k (pruned w dropped) limits leaves t ↔ IsAccepted k w limits leaves t
