-- What is read off the plugs, the last one first.
use Rattle.std.specs.Prelude.{ℕ, ◌+◌, ◌==◌, Bool, true, false, if◌then◌else◌, List, [], ◌∷◌, slice_index, slice_index_or, Option, Some, None}
use Rattle.scope_model.specs.declared.Plug.{Plug}

-- some plug has the label
abbrev pub placed_in : ℕ → List Plug → Bool
placed_in l [] = false
placed_in l (k ∷ ks) = if k.label == l then true else placed_in l ks

-- the label that is plugged into a hole
abbrev pub plugged_at : ℕ → List Plug → Option ℕ
plugged_at h [] = None
plugged_at h (k ∷ ks) = if k.hole == h then Some k.label else plugged_at h ks

-- the hole is on the way up from the label, where `owner` has the label of each hole
abbrev pub is_on_way : List ℕ → ℕ → ℕ → List Plug → Bool
is_on_way owner h l [] = false
is_on_way owner h l (k ∷ ks) = if k.label == l then (if k.hole == h then true else is_on_way owner h (slice_index owner k.hole) ks) else is_on_way owner h l ks

-- the label `a` is on the way up from the label through holes of `bodies` alone
abbrev pub is_by_bodies : List ℕ → List Bool → ℕ → ℕ → List Plug → Bool
is_by_bodies owner bodies a l [] = a == l
is_by_bodies owner bodies a l (k ∷ ks) =
    if a == l then true else (if k.label == l then (if slice_index_or bodies k.hole false then is_by_bodies owner bodies a (slice_index owner k.hole) ks else false) else is_by_bodies owner bodies a l ks)

-- the label is plugged in
abbrev pub is_there : ℕ → ℕ → List Plug → Bool
is_there root l ks = if l == root then true else placed_in l ks

abbrev pub cost : Bool → ℕ
cost true = 0
cost false = 1

-- how many of the labels aren't plugged in
abbrev pub left_in : List ℕ → ℕ → List Plug → ℕ
left_in [] root ks = 0
left_in (l ∷ ls) root ks = cost (is_there root l ks) + left_in ls root ks
