-- What the lists are made by, from what is asked of a finished chart.
use Rattle.std.specs.Prelude.{◌≡◌, ℕ, ◌<◌, Option, Some, List, length, map, refl}
use Rattle.std.proofs.Common.{get_or, ap, arith}
use Rattle.chart_model.specs.Calculus.{Laws}
use Rattle.chart_model.specs.At.{At}
use Rattle.chart_model.specs.Chart as chart
use Rattle.chart_core.specs.declared.ended.Finished.{Finished}
use Rattle.chart_core.specs.Grammar.{Grammar}
use Rattle.chart_core.specs.Kept.{core_of, rows_in}
use Rattle.chart_core.specs.CoreView.{chart_of, leaves_of, limits_of}
use Rattle.tree_model.specs.Readings.{Wholes}
use Rattle.forest_unpack.specs.declared.collecting.Wanted.{Wanted}
use Rattle.forest_unpack.specs.Keeping.{Asked, AllBelow, asked_of}
use Rattle.forest_unpack.specs.Plans.{IsPlan}
use Rattle.forest_unpack.specs.Ranks.{rank_by}
use Rattle.forest_unpack.specs.Inner.Members.{AreMembers}
use Rattle.forest_unpack.specs.Asking.{AreAsked}
use Rattle.forest_unpack.specs.Skeletons.{IsSkeleton}
use Rattle.forest_unpack.specs.Unpacking.{Suits}
use Rattle.forest_unpack.proofs.Telling.{source_at}
use Rattle.forest_unpack.proofs.Sizing.{proper_source}
use Rattle.forest_unpack.proofs.Building.{skeleton, plan, has_index, index_same}
use Rattle.forest_unpack.proofs.Filling.{get_map, length_map}

module _ {X T C W B M V F : Type 0} (g : Grammar T M C) (laws : Laws g.calculus) (w : Wholes V C) (f : Finished X T C W B)
    (full : ℕ → List F → F → Type 0) (agrees : M → F → Type 0) (named : ℕ → Type 0) (ruled : ℕ → ℕ → Type 0) (suits : Suits g w f full agrees named ruled)
    (extent : C → ℕ) (sizes : (c : C) → g.calculus.size c ≡ extent c)
    (ranks : List ℕ) (ranks_are : ranks ≡ map (rank_by extent) (rows_in (core_of f))) where
  proper : (i : ℕ) (row : chart.Row M C) (m : M) → At (chart_of g.meaning (core_of f)).rows i row → row.shape ≡ Some m → g.calculus.proper row.cover
  proper i row m at e =
      proper_source g.calculus g.belongs g.meaning (rows_in (core_of f)) suits.core.belongs_all i row m
      (source_at g.calculus (limits_of (core_of f)) (leaves_of g.meaning (core_of f)) g.meaning (rows_in (core_of f)) (chart_of g.meaning (core_of f)) refl refl suits.forest.complete at) e

  module _ (asked : List (Asked C)) (asked_are : AreAsked w (rows_in (core_of f)) (length (rows_in (core_of f))) asked) where
    pub skeleton_is : IsSkeleton w (leaves_of g.meaning (core_of f)) (chart_of g.meaning (core_of f)) (rows_in (core_of f)) ranks asked
    skeleton_is =
        skeleton g.calculus laws (limits_of (core_of f)) suits.core.narrow (leaves_of g.meaning (core_of f)) g.meaning (rows_in (core_of f)) (chart_of g.meaning (core_of f)) refl refl suits.forest.complete proper
        w extent sizes ranks ranks_are asked asked_are

    pub plan_is : (last before : List (Option ℕ)) → AreMembers (rows_in (core_of f)) (length (rows_in (core_of f))) last before → IsPlan named ruled (rows_in (core_of f)) last before ranks
    plan_is last before are =
        plan g.calculus laws (limits_of (core_of f)) suits.core.narrow (leaves_of g.meaning (core_of f)) g.meaning (rows_in (core_of f)) (chart_of g.meaning (core_of f)) refl refl suits.forest.complete proper
        w extent sizes ranks ranks_are asked asked_are named ruled suits.names suits.rules last before are

  pub all_below : {Y U Z : Type 0} (wanted : List (Wanted Y U C Z)) → AreAsked w (rows_in (core_of f)) (length (rows_in (core_of f))) (map asked_of wanted) → AllBelow (length (rows_in (core_of f))) wanted
  all_below wanted are i e low =
      let one = get_or wanted i e in
      let same : asked_of one ≡ get_or (map asked_of wanted) i (asked_of one) = get_map asked_of wanted i one (index_same wanted i e low) in
      let inside : i < length (map asked_of wanted) = omega (arith, low, length_map asked_of wanted) in
      let has = has_index (map asked_of wanted) i (asked_of one) inside in
      let below = (are.each (get_or (map asked_of wanted) i (asked_of one)) has).0 in
      let host = ap (λ (a : Asked C). a.host) same in
      omega (arith, below, host)
