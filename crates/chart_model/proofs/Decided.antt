-- What the live hosts tell after a run: below a size, and at its end.
use Rattle.std.specs.Prelude.{◌≡◌, ℕ, ◌<◌, ◌≤◌, ◌^◌, Some, None, List, refl}
use Rattle.std.proofs.Common.{ap, subst, arith, inl, inr}
use Rattle.std.proofs.lemmas.Bool.{cases_order}
use Rattle.chart_model.specs.Calculus.{Calculus, Laws}
use Rattle.chart_model.specs.At.{at_one}
use Rattle.chart_model.specs.Chart.{Chart, Leaf, Limits, Replay}
use Rattle.chart_model.specs.Classes.{Class, Member}
use Rattle.chart_model.specs.Finished.{NothingPending}
use Rattle.chart_model.specs.Limits.{LimitAnswer, UnaryChain, Edges, Within, HasChain, IsLeastBroken, IsLimitAnswer, IsClassCount, AreProper, AnswersAreOne}
use Rattle.chart_model.specs.Below.{PendingFrom, IsDecidedBelow, ChartsDecideBelow, ChartsDecide}
use Rattle.chart_model.proofs.Complete.{Facts}
use Rattle.chart_model.proofs.Steps.{facts_of_run}
use Rattle.chart_model.proofs.Whole.{complete_run}
use Rattle.chart_model.proofs.Fewer.{fewer}
use Rattle.chart_model.proofs.Sizes.{member_proper}
use Rattle.chart_model.proofs.Lower.{complete_below}
use Rattle.chart_model.proofs.Answer.{decides, class_count, answers, last_answer}

module _ {M C : Type 0} (k : Calculus M C) where
  -- also of a chart that is known by its facts
  pub decided_below : Laws k → (limits : Limits) (leaves : List (Leaf M C)) → AreProper k limits leaves → (ch : Chart M C) → Facts k limits leaves ch → (n : ℕ) → PendingFrom k limits ch n → IsDecidedBelow k limits leaves ch n
  decided_below laws limits leaves proper ch facts n pending =
      let whole = complete_below k limits leaves laws proper ch facts n pending in
      record { complete = whole; decides = decides k limits leaves ch n whole; answer = answers k limits leaves ch n (decides k limits leaves ch n whole) }

  pub below_run : Laws k → ChartsDecideBelow k
  below_run laws limits leaves proper history run n pending =
      decided_below laws limits leaves proper (Replay k limits leaves history) (facts_of_run k limits leaves laws history run) n pending

  -- where nothing is pending, the tasks that are have whole tuples of any size
  pub none_pending : (limits : Limits) (ch : Chart M C) → NothingPending ch → (n : ℕ) → PendingFrom k limits ch n
  none_pending limits ch all_done n t task a d = let p = all_done t task a in absurd (let e : None ≡ Some p.0 = at_one d p.1 in cc)

  pub member_small : (limits : Limits) (leaves : List (Leaf M C)) → Laws k → AreProper k limits leaves → (c : Class M C) → Member k limits leaves c → k.size c.cover < 2 ^ 32
  member_small limits leaves laws proper c member = (laws.has_size c.cover (member_proper k limits leaves laws proper c member)).1

  pub decided_run : Laws k → ChartsDecide k
  decided_run laws limits leaves proper history run all_done =
      let below = below_run laws limits leaves proper history run (2 ^ 32) (none_pending limits (Replay k limits leaves history) all_done (2 ^ 32)) in
      record {
        complete = complete_run k limits leaves laws history run all_done;
        count = class_count k limits leaves (Replay k limits leaves history) (2 ^ 32) below.complete (member_small limits leaves laws proper);
        answer = λ chain edges x y. last_answer k limits leaves (Replay k limits leaves history) (2 ^ 32) below.decides (member_small limits leaves laws proper) _ (below.answer chain edges x y);
      }

  module _ (limits : Limits) (leaves : List (Leaf M C)) where
    one_size : (m n : ℕ) → IsLeastBroken k limits leaves m → IsLeastBroken k limits leaves n → m ≡ n
    one_size m n p q = elim (cases_order m n) [ inl e ↦ e | inr o ↦ absurd (elim o [ inl l ↦ q.least m l p.broken | inr l ↦ p.least n l q.broken ]) ]

    one_of : (a b : LimitAnswer) → IsLimitAnswer k limits leaves a → IsLimitAnswer k limits leaves b → a ≡ b
    one_of (UnaryChain m) (UnaryChain n) x y = ap UnaryChain (one_size m n x.0 y.0)
    one_of (UnaryChain m) (Edges n) x y = absurd (y.1 (subst (λ z. HasChain k limits leaves z) (one_size m n x.0 y.0) x.1))
    one_of (UnaryChain m) Within x y = absurd (y m x.0.broken)
    one_of (Edges m) (UnaryChain n) x y = absurd (x.1 (subst (λ z. HasChain k limits leaves z) (one_size n m y.0 x.0) y.1))
    one_of (Edges m) (Edges n) x y = ap Edges (one_size m n x.0 y.0)
    one_of (Edges m) Within x y = absurd (y m x.0.broken)
    one_of Within (UnaryChain n) x y = absurd (x n y.0.broken)
    one_of Within (Edges n) x y = absurd (x n y.0.broken)
    one_of Within Within x y = refl

    no_more : (g h : ℕ) → IsClassCount k limits leaves g → IsClassCount k limits leaves h → g ≤ h
    no_more g h x y = let l = fewer x.classes y.classes x.none_twice (λ i c a. y.all c (x.each i c a)) in omega (arith, x.counted, y.counted, l)

  pub answers_are_one : AnswersAreOne k
  answers_are_one = record { one_answer = λ limits leaves a b x y. one_of limits leaves a b x y; one_count = λ limits leaves g h x y. let l = no_more limits leaves g h x y in let m = no_more limits leaves h g y x in omega arith }
