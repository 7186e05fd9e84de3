-- What is found of a task whose daughters are live.
use Rattle.std.specs.Prelude.{◌≡◌, ℕ, ◌≤◌, ◌<◌, ◌^◌, Some, None, List, length, map}
use Rattle.std.proofs.Common.{ap, sym, ◌∙◌, subst, arith, inl, inr}
use Rattle.std.proofs.lemmas.Bool.{cases_lt}
use Rattle.chart_model.specs.Calculus.{Calculus, Laws}
use Rattle.chart_model.specs.Tuples.{shapes_of, covers_of}
use Rattle.chart_model.specs.declared.covers.Tuple.{Tuple}
use Rattle.chart_model.specs.Chart as model
use Rattle.chart_model.specs.At.{from_get}
use Rattle.chart_core.specs.declared.chart.Core.{Core}
use Rattle.chart_core.specs.declared.Outcome.{Outcome}
use Rattle.chart_core.specs.declared.Outcome.TheVariants as outcomes
use Rattle.chart_core.specs.declared.Daughters.{Daughters}
use Rattle.chart_core.specs.Grammar.{Grammar}
use Rattle.chart_core.specs.View.{list_of}
use Rattle.chart_core.specs.CoreView.{chart_of, limits_of}
use Rattle.chart_core.specs.Kept.{IsCore}
use Rattle.chart_core.specs.Outcomes.{outcome_seen, IsRightFor, ShapeBelongs}
use Rattle.chart_core.specs.Copies.{ArePartsOf}
use Rattle.chart_core.specs.Steps.{IsTupleOf}
use Rattle.chart_core.specs.Calls.{IsReady, IsRightIn}
use Rattle.chart_core.specs.Passing.{IsHostless, IsMother}
use Rattle.chart_core.proofs.Commute.{open_task}
use Rattle.chart_core.proofs.Copied.{tells}
use Rattle.chart_core.proofs.Stand.{proper_open}

module _ {M C : Type 0} (k : Calculus M C) (some other : model.Limits) where
  as_other : (rule n : ℕ) (cs : List C) (ms : List M) (o : model.Outcome M C) → model.IsRight k some rule n cs ms o → model.IsRight k other rule n cs ms o
  as_other rule n cs ms model.Fails h = h
  as_other rule n cs ms (model.Fits c) h = h
  as_other rule n cs ms (model.Makes c m) h = h

  moved : (o : model.Outcome M C) (r q n m : ℕ) (cs ds : List C) (ms ns : List M) → r ≡ q → n ≡ m → cs ≡ ds → ms ≡ ns → model.IsRight k some r n cs ms o → model.IsRight k other q m ds ns o
  moved o r q n m cs ds ms ns e f g h x =
      as_other q m ds ns o
      (subst (λ v. model.IsRight k some q m ds v o) h
      (subst (λ v. model.IsRight k some q m v ms o) g
      (subst (λ v. model.IsRight k some q v cs ms o) f
      (subst (λ v. model.IsRight k some v n cs ms o) e x))))

module _ {X T C W B M : Type 0} (g : Grammar T M C) (laws : Laws g.calculus) (core : Core X T C W B) (is : IsCore g core) (t rule : ℕ) (d : Daughters) (parts : Tuple T C) (ready : IsReady g core t rule d) (h : ArePartsOf g.belongs g.meaning core.rows.items d parts) where
  abbrev ch : model.Chart M C
  ch = chart_of g.meaning core

  told : IsTupleOf g.meaning ch t rule parts
  told = (tells g laws core is t rule d parts ready h).0

  pub right_in : (o : Outcome X T C W B) → IsRightFor g.calculus g.meaning rule parts o → IsRightIn g core t o
  right_in o x p =
      subst (λ (u : model.Task). model.IsRight g.calculus (limits_of core) u.rule (length (model.daughters ch.rows u)) (model.covers_at ch.rows (model.daughters ch.rows u)) (model.shapes_at ch.rows (model.daughters ch.rows u)) (outcome_seen g.meaning o)) (open_task g.calculus (limits_of core) ch t told.live p)
      (moved g.calculus (record { edges = 0; unary = 0 }) (limits_of core) (outcome_seen g.meaning o) _ _ _ _ _ _ _ _ told.rule_is told.counted told.covers told.shapes x)

  counted : length (shapes_of parts) ≡ parts.count
  counted =
      let n = ap length ready.with_these.daughters in
      let m = ap (λ (u : model.Task). length (model.daughters ch.rows u)) (open_task g.calculus (limits_of core) ch t ready.with_these.live told.live) in
      omega (arith, told.counted, h.count, ready.well.counted, n, m)

  makes_whole : (o : model.Outcome M C) (c : C) (m : M) → model.IsRight g.calculus (record { edges = 0; unary = 0 }) rule (length (shapes_of parts)) (covers_of parts) (map g.meaning (shapes_of parts)) o → o ≡ model.Makes c m → length (shapes_of parts) ≡ g.calculus.arity rule
  makes_whole (model.Fails) c m x e = absurd (cc)
  makes_whole (model.Fits a) c m x e = absurd (cc)
  makes_whole (model.Makes a b) c m x e = x.0

  pub hostless : (o : Outcome X T C W B) → parts.count < g.calculus.arity rule → IsRightFor g.calculus g.meaning rule parts o → ShapeBelongs g.belongs o → IsHostless g core t o
  hostless o short right belongs = record { right = right_in o right; belongs_too = belongs; hostless = λ c m e. absurd (let w = makes_whole (outcome_seen g.meaning o) c m right e in omega (arith, w, counted)) }

  pub no_cover : g.calculus.covers rule (covers_of parts) ≡ None → IsHostless g core t (outcomes.Fails)
  no_cover e = record { right = right_in (outcomes.Fails) (inl e); belongs_too = tt; hostless = λ c m q. absurd (cc) }

  covered : (c : C) → g.calculus.covers rule (covers_of parts) ≡ Some c → g.calculus.covers told.live.task.rule (model.covers_at ch.rows (model.daughters ch.rows told.live.task)) ≡ Some c
  covered c e = subst (λ r. g.calculus.covers r (model.covers_at ch.rows (model.daughters ch.rows told.live.task)) ≡ Some c) told.rule_is (subst (λ cs. g.calculus.covers rule cs ≡ Some c) told.covers e)

  module _ (extent : C → ℕ) (sizes : (c : C) → g.calculus.size c ≡ extent c) (c : C) (e : g.calculus.covers rule (covers_of parts) ≡ Some c) where
    pub cover_small : extent c < 2 ^ 32
    cover_small = let s = (laws.has_size c (proper_open g laws core is t told.live c (covered c e))).1 in omega (arith, s, sizes c)

    pub mother_in : (size level : ℕ) → (parts.count < g.calculus.arity rule → ⊥) → size ≡ extent c → level ≡ model.level_above (model.levels_at ch.rows (list_of d)) → IsMother g core t size level
    mother_in size level long s l =
        let live = told.live in
        let short = (tells g laws core is t rule d parts ready h).1.short in
        let arity = ap g.calculus.arity told.rule_is in
        let all : length (shapes_of parts) ≡ g.calculus.arity rule = whole short in
        record {
          task = live.task;
          made = from_get ch.tasks t live.task live.made;
          pending = from_get ch.done t None live.pending;
          mother = record {
            whole = omega (arith, told.counted, all, arity);
            cover = c;
            covers = covered c e;
            size_is = s ∙ sym (sizes c);
            level_is = l ∙ ap (λ ds. model.level_above (model.levels_at ch.rows ds)) ready.with_these.daughters ∙ ap (λ (u : model.Task). model.level_above (model.levels_at ch.rows (model.daughters ch.rows u))) (open_task g.calculus (limits_of core) ch t ready.with_these.live live);
          };
        }
      where
        whole : parts.count ≤ g.calculus.arity rule → length (shapes_of parts) ≡ g.calculus.arity rule
        whole short = elim (cases_lt parts.count (g.calculus.arity rule)) [ inl q ↦ absurd (long q) | inr q ↦ omega (arith, counted) ]
