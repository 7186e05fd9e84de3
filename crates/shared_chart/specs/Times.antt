-- A state that comes after another.
use Rattle.chart_core.specs.declared.chart.Core.{Core}
use Rattle.chart_core.specs.Grammar.{Grammar}
use Rattle.chart_core.specs.Kept.{IsCore}
use Rattle.chart_core.specs.Later.{IsLater, later_itself, later_after}

module _ {X T C W B M : Type 0} (g : Grammar T M C) where
  -- the second state stands after a legal history that begins with that of the first, which is legal too
  abbrev pub ComesAfter : Core X T C W B → Core X T C W B → Type 0
  ComesAfter x y = IsCore g x × IsLater g x y

  pub after_itself : (x : Core X T C W B) → IsCore g x → ComesAfter x x
  after_itself x is = (is, later_itself g x)

  pub after_on : (x y z : Core X T C W B) → ComesAfter x y → ComesAfter y z → ComesAfter x z
  after_on x y z p q = (p.0, later_after g x y z p.1 q.1)
