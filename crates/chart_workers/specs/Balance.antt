-- What the passes of one deque know, and the rule that ties them to the tasks that the deque holds.
use Rattle.std.specs.Prelude.{◌≡◌, ℕ, ◌+◌, List, [], ◌∷◌, ◌++◌}
use mathlib.Core.Option.{some}
use lib.ListN.{get_elem?}
use Rattle.chart_core.specs.declared.TaskId.{TaskId}
use Rattle.chart_workers.specs.declared.hand.Hand.{Hand}

abbrev pub hand : ℕ → List TaskId → List TaskId → Hand
hand parts put taken = record { parts = parts; put = put; taken = taken }

-- f of each, added up
abbrev pub weigh : {A : Type 0} → (A → ℕ) → List A → ℕ
weigh h [] = 0
weigh h (x ∷ xs) = h x + weigh h xs

-- a pass with no part has put and taken nothing
abbrev pub IdleIsEmpty : List Hand → Type 0
IdleIsEmpty views = (port : ℕ) (v : Hand) → get_elem? views port ≡ some v → v.parts ≡ 0 → (v.put ≡ []) × (v.taken ≡ [])

-- what was put is what was taken and what the deque holds, however the tasks are weighed
abbrev pub Balanced : List TaskId → List Hand → Type 0
Balanced items views =
    (weigh (λ (v : Hand). v.parts) views ≡ 64)
    × ((h : TaskId → ℕ) → weigh (λ (v : Hand). weigh h v.put) views ≡ weigh (λ (v : Hand). weigh h v.taken) views + weigh h items)
    × IdleIsEmpty views

-- the same tasks, each as often
abbrev pub Same : List TaskId → List TaskId → Type 0
Same xs ys = (h : TaskId → ℕ) → weigh h xs ≡ weigh h ys

abbrev pub joined : Hand → Hand → Hand
joined v w = hand (v.parts + w.parts) (v.put ++ w.put) (v.taken ++ w.taken)

-- a measure of what is known, which two views joined have together
abbrev pub IsAdditive : (Hand → ℕ) → Type 0
IsAdditive f = (v w : Hand) → f (joined v w) ≡ f v + f w
