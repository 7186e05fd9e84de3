-- What the workers did, and how it is put in order.
use Rattle.std.specs.Prelude.{◌≡◌, ℕ, ◌<◌, ◌≤◌, List, [], ◌∷◌, ◌++◌, ◌⊎◌, All, map, length, false, Option, Some, None, slice_get, slice_index_or}
use Rattle.std.specs.List.{Contains}
use Rattle.side_by_side.specs.Draws.{times}
use Rattle.side_by_side.specs.Plays.{all_hands}
use Rattle.side_by_side.specs.declared.draw_hand.Hand.{Hand}
use Rattle.side_by_side.specs.declared.draw_table.Draws.{Draws}
use Rattle.side_by_side.specs.declared.posts.Done.{Done}
use Rattle.side_by_side.specs.declared.posts.Post.{Post}

-- what a worker did is given for the thing at its place
abbrev pub IsDone : {T O : Type 0} → (ℕ → T → O → Type 0) → List T → Done O → Type 0
IsDone {T} gives things d = (x : T) × (slice_get things d.place ≡ Some x) × gives d.place x d.out

-- the places at which it was done
abbrev pub places_of : {O : Type 0} → List (Done O) → List ℕ
places_of ds = map (λ d. d.place) ds

-- a worker has done what stands at the places that it drew, and leaves by a number that is no place
abbrev pub IsThrough : {O : Type 0} → ℕ → List (Done O) → Hand → Type 0
IsThrough count ds v = (last : ℕ) × (count ≤ last) × (v.drawn ≡ places_of ds ++ last ∷ [])

-- a worker at its post did nothing yet
abbrev pub IsFresh : {O : Type 0} → Draws → ℕ → Post O → Type 0
IsFresh draws count p = (p.seat.table_id ≡ draws.table.shared.table_id) × (p.seat.me ≡ (all_hands count 1, [])) × (p.done.items ≡ []) × (p.refused ≡ false)

-- a worker left its post: what it did is given, and where memory wasn't wanting it is through
abbrev pub HasLeft : {T O : Type 0} → (ℕ → T → O → Type 0) → List T → Draws → Post O → Type 0
HasLeft gives things draws p = (p.seat.table_id ≡ draws.table.shared.table_id) × All (IsDone gives things) p.done.items
    × (p.refused ≡ false → (p.seat.me.1 ≡ []) × (p.seat.me.0.hands ≡ 1) × IsThrough (length things) p.done.items p.seat.me.0)

-- Workers that are joined: each place that they drew is done, and they drew a number that is none.
pub record HasJoined {T O : Type 0} (gives : ℕ → T → O → Type 0) (things : List T) (draws : Draws) (p : Post O) : Type 0 where
  pub id : p.seat.table_id ≡ draws.table.shared.table_id
  pub empty : p.seat.me.1 ≡ []
  pub some : 0 < p.seat.me.0.hands
  pub done : All (IsDone gives things) p.done.items
  pub within : (x : ℕ) → x < length things → 0 < times x p.seat.me.0.drawn → Contains (places_of p.done.items) x
  pub last : ℕ
  pub past : length things ≤ last
  pub drew_last : 0 < times last p.seat.me.0.drawn

-- Places at which stands what is given for the thing there, or nothing. For each thing it stands there, or is still to come.
pub record AreFilled {T O : Type 0} (gives : ℕ → T → O → Type 0) (things : List T) (places : List (Option O)) (done : List (Done O)) : Type 0 where
  pub count : length places ≡ length things
  pub given : (k : ℕ) → k < length places → (out : O) → slice_index_or places k None ≡ Some out → (x : T) × (slice_get things k ≡ Some x) × gives k x out
  pub still : All (IsDone gives things) done
  pub none_left : (x : ℕ) → x < length things → Contains (places_of done) x ⊎ ((out : O) × (slice_index_or places x None ≡ Some out))

-- at each place stands what is given for the thing there
abbrev pub IsFull : {T O : Type 0} → (ℕ → T → O → Type 0) → List T → List (Option O) → Type 0
IsFull {T} {O} gives things places = (k : ℕ) → k < length places → (x : T) × (out : O) × (slice_get things k ≡ Some x) × (slice_index_or places k None ≡ Some out) × gives k x out
