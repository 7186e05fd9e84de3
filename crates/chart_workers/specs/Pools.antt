-- What of a pool stays as it is while its seats work.
use Rattle.std.specs.Prelude.{◌≡◌, ℕ, zero, suc, ◌+◌, ◌<◌, ◌==◌, if◌then◌else◌, List, [], ◌∷◌, ◌++◌, length, map}
use mathlib.Core.Option.{some}
use lib.ListN.{get_elem?}
use Rattle.atomic_blocks.specs.Lent.{RowsId}
use Rattle.std.specs.declared.alloc.Global.{Global}
use Rattle.crossbeam_deque.specs.Handles.{view, worker_view, worker_deque, stealer_deque}
use Rattle.chart_workers.specs.declared.hand.Hand.{Hand}
use Rattle.chart_workers.specs.declared.seat.Door.{Door}
use Rattle.chart_workers.specs.declared.seat.Pass.{Pass}
use Rattle.chart_workers.specs.declared.seat.PoolSeat.{PoolSeat}
use Rattle.chart_workers.specs.Balance.{weigh}
use Rattle.chart_workers.specs.Seats.{hands}

-- a way to a deque: its number in the pool, which deque it is, and its parts of the right to know the whole
pub record Way : Type 0 where
  pub number : ℕ
  pub deque : RowsId × Global
  pub parts : ℕ

-- what a seat holds of the pool: the way to its own deque, and those to others
pub record Post : Type 0 where
  pub own : Way
  pub doors : List Way

abbrev pub way : ℕ → RowsId × Global → ℕ → Way
way number deque parts = record { number = number; deque = deque; parts = parts }

abbrev pub door_way : Door → Way
door_way d = way d.deque (stealer_deque d.thief) (view d.pass).parts

abbrev pub seat_post : PoolSeat → Post
seat_post s = record { own = way s.number (worker_deque s.own) (worker_view s.own).parts; doors = map door_way s.doors.items }

abbrev pub pass_post : Pass → Post
pass_post p = record { own = way p.number (worker_deque p.own) (worker_view p.own).parts; doors = map door_way p.doors.items }

-- the numbers below n, in order, but for j
abbrev pub others : ℕ → ℕ → List ℕ
others j zero = []
others j (suc n) = others j n ++ (if n == j then [] else n ∷ [])

-- the parts of the deque number t
abbrev pub part_at : ℕ → Way → ℕ
part_at t w = if t == w.number then w.parts else 0

abbrev pub parts_at : ℕ → Post → ℕ
parts_at t p = part_at t p.own + weigh (part_at t) p.doors

-- the posts of one pool: each stands at its number, with a door to each other deque, in order, that leads there, and they have
-- all parts of each deque
pub record ArePool (posts : List Post) : Type 0 where
  pub numbers : (j : ℕ) (p : Post) → get_elem? posts j ≡ some p → p.own.number ≡ j
  pub doors : (j : ℕ) (p : Post) → get_elem? posts j ≡ some p → map (λ (w : Way). w.number) p.doors ≡ others j (length posts)
  pub leads : (j : ℕ) (p : Post) → get_elem? posts j ≡ some p → (i : ℕ) (w : Way) → get_elem? p.doors i ≡ some w → get_elem? (map (λ (q : Post). q.own.deque) posts) w.number ≡ some w.deque
  pub parts : (t : ℕ) → t < length posts → weigh (parts_at t) posts ≡ 64

-- nothing was pushed or taken
abbrev pub IsFresh : PoolSeat → Type 0
IsFresh s = (k : ℕ) (v : Hand) → get_elem? (hands s) k ≡ some v → (v.put ≡ []) × (v.taken ≡ [])
