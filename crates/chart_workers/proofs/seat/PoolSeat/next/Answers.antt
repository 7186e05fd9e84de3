use Rattle.std.proofs.Common.{◌∷◌, ◌∙◌, ap, map}
use Rattle.crossbeam_deque.specs.Handles.{worker_view, worker_deque}
use Rattle.chart_workers.specs.Seats.{door_hand, door_place}
use Rattle.chart_workers.specs.Making.{Deque}
use Rattle.chart_workers.specs.Pools.{door_way}
use Rattle.chart_workers.proofs.PostLemmas.{post_same}
use Rattle.chart_workers.proofs.Tooks.{took_behind}
use Rattle.chart_workers.proofs.seat.PoolSeat.next.Goals as goal

pub returns-in-Some-steal-clause-some : goal.returns-in-Some-steal-clause-some
returns-in-Some-steal-clause-some g c =
    took_behind c.in-Some-steal.task (worker_view c.pop.new.self.own) (worker_view c.steal.new.self.own) (map door_hand c.pop.new.self.doors.items) (map door_hand c.steal.new.self.doors.items) _ c.in-Some-steal.ensures.some
    (ap (λ (o : _). worker_view o) c.steal.ensures.own.0)
    (ap (λ (v : _). v ∷ map door_hand c.pop.new.self.doors.items) c.in_default.ensures.none.0 ∙ ap (λ (d : _). worker_view c.loop.self.own ∷ map door_hand d.items) c.in_default.ensures.doors ∙ c.loop.invariant.hands)

pub returns-in-Some-pop-clause-post : goal.returns-in-Some-pop-clause-post
returns-in-Some-pop-clause-post g c = let p = c.in-Some-pop.ensures in
    post_same c.loop.self c.pop.new.self p.number p.same (ap (λ v. v.parts) p.some) (ap (λ d. map door_way d.items) p.doors) ∙ c.loop.invariant.post

pub returns-in-Some-steal-clause-post : goal.returns-in-Some-steal-clause-post
returns-in-Some-steal-clause-post g c = let s = c.steal.ensures in let p = c.in_default.ensures in
    post_same c.pop.new.self c.steal.new.self s.own.1 (ap (λ o. worker_deque o) s.own.0) (ap (λ (o : Deque). (worker_view o).parts) s.own.0) s.ways ∙ post_same c.loop.self c.pop.new.self p.number p.same (ap (λ v. v.parts) p.none.0) (ap (λ d. map door_way d.items) p.doors) ∙ c.loop.invariant.post

pub returns-then-over-clause-post : goal.returns-then-over-clause-post
returns-then-over-clause-post g c = let s = c.steal.ensures in let p = c.in_default.ensures in
    post_same c.pop.new.self c.steal.new.self s.own.1 (ap (λ o. worker_deque o) s.own.0) (ap (λ (o : Deque). (worker_view o).parts) s.own.0) s.ways ∙ post_same c.loop.self c.pop.new.self p.number p.same (ap (λ v. v.parts) p.none.0) (ap (λ d. map door_way d.items) p.doors) ∙ c.loop.invariant.post

pub returns-then-over-clause-later : goal.returns-then-over-clause-later
returns-then-over-clause-later g c = g.O.Over.goes_on _ _ _ c.loop.invariant.later c.if-over.ensures.later

pub loop-preserved : goal.loop-preserved
loop-preserved g c =
    let i = c.loop.invariant in let s = c.steal.ensures in let p = c.in_default.ensures in let q = c.in_default-steal.ensures in record {
      places = ap (λ o. (worker_deque o).0 ∷ map door_place c.steal.new.self.doors.items) s.own.0 ∙ ap (λ l. (worker_deque c.pop.new.self.own).0 ∷ l) s.same ∙ ap (λ d. d.0 ∷ map door_place c.pop.new.self.doors.items) p.same ∙ ap (λ d. (worker_deque c.loop.self.own).0 ∷ map door_place d.items) p.doors ∙ i.places;
      post = post_same c.pop.new.self c.steal.new.self s.own.1 (ap (λ o. worker_deque o) s.own.0) (ap (λ (o : Deque). (worker_view o).parts) s.own.0) s.ways ∙ post_same c.loop.self c.pop.new.self p.number p.same (ap (λ v. v.parts) p.none.0) (ap (λ d. map door_way d.items) p.doors) ∙ i.post;
      hands = ap (λ o. worker_view o ∷ map door_hand c.steal.new.self.doors.items) s.own.0 ∙ ap (λ l. worker_view c.pop.new.self.own ∷ l) q.none
          ∙ (ap (λ (v : _). v ∷ map door_hand c.pop.new.self.doors.items) p.none.0 ∙ ap (λ (d : _). worker_view c.loop.self.own ∷ map door_hand d.items) p.doors ∙ i.hands);
      fit = c.if-over.ensures.fit;
      later = g.O.Over.goes_on _ _ _ i.later c.if-over.ensures.later;
    }
