-- A seat that is lent, and what it has seen when it comes back.
use Rattle.std.specs.Prelude.{refl}
use Rattle.std.proofs.Common.{◌∙◌, subst}
use Rattle.chart_core.specs.Grammar.{Grammar}
use Rattle.chart_core.specs.Kept.{IsCore}
use Rattle.chart_core.specs.Later.{later_itself, later_after}
use Rattle.shared_chart.specs.Seats.{ChartSeat, shapes_of, state_of}
use Rattle.chart_workers.specs.Turns.{GoesOn}

module _ {X T C W B M : Type 0} where
  pub goes_itself : (g : Grammar T M C) (a : ChartSeat X T C W B) → IsCore g (state_of a) → GoesOn g a a
  goes_itself g a is = record { same = record { id = refl; number = refl; shapes = refl }; sees = record { core = is; later = later_itself g (state_of a) }; saw = λ e. e; set = refl }

  pub goes_then : (g : Grammar T M C) (a b c : ChartSeat X T C W B) → GoesOn g a b → GoesOn g b c → GoesOn g a c
  goes_then g a b c p q = record {
    same = record { id = q.same.id ∙ p.same.id; number = q.same.number ∙ p.same.number; shapes = q.same.shapes ∙ p.same.shapes };
    sees = record { core = q.sees.core; later = later_after g (state_of a) (state_of b) (state_of c) p.sees.later q.sees.later };
    saw = λ e. q.saw (p.saw e);
    set = q.set ∙ p.set;
  }

  -- the grammar is that of the seat's shapes, which stay
  pub goes_by : (grammar : X → Grammar T M C) (a b c : ChartSeat X T C W B) → GoesOn (grammar (shapes_of a)) a b → GoesOn (grammar (shapes_of b)) b c → GoesOn (grammar (shapes_of a)) a c
  goes_by grammar a b c p q = goes_then (grammar (shapes_of a)) a b c p (subst (λ s. GoesOn (grammar s) b c) p.same.shapes q)
