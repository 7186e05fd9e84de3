-- What was taken through a door was taken from the seat's deques.
use Rattle.std.proofs.Common.{◌≡◌, suc, List, ◌∷◌, ap, ◌∙◌, subst}
use Rattle.chart_core.specs.declared.TaskId.{TaskId}
use Rattle.chart_workers.specs.declared.hand.Hand.{Hand}
use Rattle.chart_workers.specs.Seats.{Took}

pub took_behind : (t : TaskId) (own own' : Hand) (ds ds' before : List Hand) → Took ds t ds' → own' ≡ own → own ∷ ds ≡ before → Took before t (own' ∷ ds')
took_behind t own own' ds ds' before took same is = subst (λ (b : List Hand). Took b t (own' ∷ ds')) is
    (suc took.0, took.1, took.2, ap (λ (v : Hand). v ∷ ds') same ∙ ap (λ (l : List Hand). own ∷ l) took.3)
