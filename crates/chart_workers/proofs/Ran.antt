-- The seats of the workers after their run.
use Rattle.std.proofs.Common.{◌≡◌, ◌∙◌, ℕ, zero, suc, ◌<◌, List, [], ◌∷◌, All, length, map, slice_index_or, refl, sym, ap, subst, arith}
use mathlib.Core.Option.{some, some-injective, some-ne-none}
use lib.ListN.{get_elem?}
use Rattle.atomic_table.proofs.Lists.{at_map}
use Rattle.chart_core.specs.declared.chart.Core.{Core}
use Rattle.chart_core.specs.Grammar.{Grammar}
use Rattle.chart_core.specs.Kept.{IsCore}
use Rattle.chart_core.specs.Later.{IsLater, later_after}
use Rattle.shared_chart.specs.declared.shared.SharedChart.{SharedChart}
use Rattle.shared_chart.specs.Seats.{ChartSeat, SameSeat, IsFirst, IsSeat, state_of, shapes_of, seat_id, chart_id, chart_shapes}
use Rattle.shared_chart.specs.Told.{Sees}
use Rattle.chart_workers.specs.declared.ended.Ended.{Ended}
use Rattle.chart_workers.specs.declared.ended.Ended.TheVariants as ended
use Rattle.chart_workers.specs.declared.posts.Post.{Post}
use Rattle.chart_workers.specs.Endings.{EndsAs}
use Rattle.chart_workers.specs.Posts.{post_seat}
use Rattle.chart_workers.proofs.Seated.{or_of, below, there}

module _ {A B : Type 0} (f : A → B) where
  at_unmap : (l : List A) (i : ℕ) (b : B) → get_elem? (map f l) i ≡ some b → (a : A) × (get_elem? l i ≡ some a) × (f a ≡ b)
  at_unmap [] i b e = absurd (some-ne-none b (sym e))
  at_unmap (x ∷ xs) zero b e = (x, refl, some-injective (f x) b e)
  at_unmap (x ∷ xs) (suc i) b e = at_unmap xs i b e

module _ {A : Type 0} where
  pub all_of : (P : A → Type 0) (l : List A) → ((i : ℕ) (a : A) → get_elem? l i ≡ some a → P a) → All P l
  all_of P l each = λ k d lt. each k (slice_index_or l k d) (there l k d lt)

module _ {X T C W B M : Type 0} (g : Grammar T M C) where
  ends_by : (a b at : ChartSeat X T C W B) → SameSeat a at → Sees g (state_of a) (state_of at) → SameSeat at b → Sees g (state_of at) (state_of b) → SameSeat a b × Sees g (state_of a) (state_of b)
  ends_by a b at p s q t = (
    record { id = q.id ∙ p.id; number = q.number ∙ p.number; shapes = q.shapes ∙ p.shapes },
    record { core = t.core; later = later_after g (state_of a) (state_of at) (state_of b) s.later t.later },
  )

  pub ends_same : (a b : ChartSeat X T C W B) (e : Ended) → EndsAs g a e b → SameSeat a b × Sees g (state_of a) (state_of b)
  ends_same a b (ended.AllDone) h = (h.0.same, h.0.sees)
  ends_same a b (ended.Stopped) h = (h.0.same, h.0.sees)
  ends_same a b (ended.Full made) h = ends_by a b h.0 h.1.same h.1.sees h.3.same h.3.sees
  ends_same a b (ended.NoMemory) h = ends_by a b h.0 h.1.same h.1.sees h.2.same h.2.sees

  -- before the run each post may be attended
  pub may_begin : (chart : SharedChart X T C W B) (core : Core X T C W B) (shapes : X) (seats : List (ChartSeat X T C W B)) (posts : List (Post X T C W B)) → map post_seat posts ≡ seats → IsCore g core → chart_shapes chart ≡ shapes
      → ((i : ℕ) (s : ChartSeat X T C W B) → get_elem? seats i ≡ some s → IsFirst chart i core s) → All (λ p. (seat_id p.seat ≡ chart_id chart) × (shapes ≡ shapes_of p.seat) × IsCore g (state_of p.seat)) posts
  may_begin chart core shapes seats posts same is by first = all_of (λ (p : Post X T C W B). (seat_id p.seat ≡ chart_id chart) × (shapes ≡ shapes_of p.seat) × IsCore g (state_of p.seat)) posts (λ i p at.
      let f = first i p.seat (ap (λ (l : List _). get_elem? l i) (sym same) ∙ at_map post_seat posts i p at) in
      (f.id, sym (f.shapes ∙ by), subst (IsCore g) (sym f.state) is))

  pub ran : (chart : SharedChart X T C W B) (core : Core X T C W B) (seats : List (ChartSeat X T C W B)) (old new : List (Post X T C W B)) → map post_seat old ≡ seats
      → ((i : ℕ) (s : ChartSeat X T C W B) → get_elem? seats i ≡ some s → IsFirst chart i core s) → length new ≡ length old
      → ((i : ℕ) (d : Post X T C W B) → i < length old → EndsAs g (slice_index_or old i d).seat (slice_index_or new i d).ended (slice_index_or new i d).seat)
      → (i : ℕ) (s : ChartSeat X T C W B) → get_elem? (map post_seat new) i ≡ some s → IsSeat chart i s × IsLater g core (state_of s)
  ran chart core seats old new same first count each i s at =
      let u = at_unmap post_seat new i s at in let p = u.0 in
      let lt = below new i p u.1 in let less : i < length old = omega arith in
      let q = slice_index_or old i p in
      let f = first i q.seat (ap (λ (l : List _). get_elem? l i) (sym same) ∙ at_map post_seat old i q (there old i p less)) in
      let e = subst (λ (x : Post X T C W B). EndsAs g q.seat x.ended x.seat) (or_of new i p p u.1) (each i p less) in
      let h = ends_same q.seat p.seat p.ended e in
      subst (λ (x : ChartSeat X T C W B). IsSeat chart i x × IsLater g core (state_of x)) u.2
      ((h.0.id ∙ f.id, h.0.number ∙ f.number), subst (λ (x : Core X T C W B). IsLater g x (state_of p.seat)) f.state h.1.later)
