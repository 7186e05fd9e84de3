-- Ranks fall from hosts to the daughters of their rows.
use Rattle.std.specs.Prelude.{◌≡◌, ℕ, ◌+◌, ◌*◌, ◌<◌, ◌≤◌, true, Some, List, [], ◌∷◌, length, refl, All, Contains}
use Rattle.std.proofs.Common.{ap, subst, sym, ◌∙◌, arith, zero, suc}
use Rattle.std.proofs.lemmas.List.Elements.{All-nil, All-cons}
use Rattle.chart_model.specs.Calculus.{Calculus, Laws}
use Rattle.chart_model.specs.At.{At, here, there, at_one, to_get}
use Rattle.chart_model.specs.Chart as chart
use Rattle.chart_model.specs.Chart.{OfWhole, all_free, covers_at, levels_at, level_above}
use Rattle.chart_model.specs.Finished.{IsComplete}
use Rattle.chart_model.specs.Grown.{LeadsTo}
use Rattle.chart_model.proofs.Trees.{leads_one}
use Rattle.tree_model.specs.Lists as model

contains_more : {A : Type 0} (y : A) (xs : List A) (x : A) → Contains xs x → Contains (y ∷ xs) x
contains_more y xs x r = (suc r.0, omega (arith, r.1), r.2)

module _ {M C : Type 0} (k : Calculus M C) (laws : Laws k) (limits : chart.Limits) (narrow : limits.unary ≤ 32) (leaves : List (chart.Leaf M C)) (ch : chart.Chart M C)
    (complete : IsComplete k limits leaves ch) (proper : (i : ℕ) (row : chart.Row M C) (m : M) → At ch.rows i row → row.shape ≡ Some m → k.proper row.cover) where
  abbrev pub rank_of : chart.Row M C → ℕ
  rank_of row = k.size row.cover * 64 + row.level

  abbrev IsLow : ℕ → Type 0
  IsLow d = (row : chart.Row M C) × (m : M) × At ch.rows d row × (row.shape ≡ Some m) × (row.level ≤ limits.unary)

  record Covered (ds : List ℕ) : Type 0 where
    long : length (covers_at ch.rows ds) ≡ length ds
    each_proper : All k.proper (covers_at ch.rows ds)
    each : (d : ℕ) (row : chart.Row M C) → model.Has d ds → At ch.rows d row → Contains (covers_at ch.rows ds) row.cover
    levels : (d : ℕ) (row : chart.Row M C) → model.Has d ds → At ch.rows d row → row.level ≤ 32

  covered : (ds : List ℕ) → ((j d : ℕ) → At ds j d → IsLow d) → Covered ds
  covered [] low = record { long = refl; each_proper = All-nil k.proper; each = λ d row h a. elim h [ ]; levels = λ d row h a. elim h [ ] }
  covered (d ∷ ds) low =
      let l = low zero d here in
      let rest = covered ds (λ j e a. low (suc j) e (there a)) in
      record {
        long = rw (to_get l.2) (ap suc rest.long);
        each_proper = rw (to_get l.2) (All-cons k.proper l.0.cover (covers_at ch.rows ds) (proper d l.0 l.1 l.2 l.3) rest.each_proper);
        each = λ e row h a. each_of l.0 l.2 rest e row h a;
        levels = λ e row h a. level_of l.0 l.2 l.4 rest e row h a;
      }
    where
      each_of : (first : chart.Row M C) → At ch.rows d first → Covered ds → (e : ℕ) (row : chart.Row M C) → model.Has e (d ∷ ds) → At ch.rows e row → Contains (covers_at ch.rows (d ∷ ds)) row.cover
      each_of first at rest _ row model.has_here a = rw (to_get a) (0, omega arith, refl)
      each_of first at rest e row (model.has_there h) a = rw (to_get at) (contains_more first.cover (covers_at ch.rows ds) row.cover (rest.each e row h a))

      level_of : (first : chart.Row M C) → At ch.rows d first → first.level ≤ limits.unary → Covered ds → (e : ℕ) (row : chart.Row M C) → model.Has e (d ∷ ds) → At ch.rows e row → row.level ≤ 32
      level_of first at low rest _ row model.has_here a =
          let same : first ≡ row = at_one at a in
          let level = ap (λ (r : chart.Row M C). r.level) same in
          omega (arith, low, narrow, level)
      level_of first at low rest e row (model.has_there h) a = rest.levels e row h a

  -- a daughter is smaller than the mother, or of a lower level
  lower : (rule : ℕ) (ds : List ℕ) (c : C) (d : ℕ) (down : chart.Row M C) → Covered ds → ((j d : ℕ) → At ds j d → IsLow d) → length ds ≡ k.arity rule → k.covers rule (covers_at ch.rows ds) ≡ Some c → model.Has d ds → At ch.rows d down →
      k.size down.cover * 64 + down.level < k.size c * 64 + level_above (levels_at ch.rows ds)
  lower rule [] c d down is low whole covers has at = elim has [ ]
  lower rule (e ∷ []) c _ down is low whole covers model.has_here at =
      let l = low zero e here in
      let same : l.0 ≡ down = at_one l.2 at in
      let fits : k.proper down.cover = subst (λ (r : chart.Row M C). k.proper r.cover) same (proper e l.0 l.1 l.2 l.3) in
      let size = laws.no_smaller rule c down.cover (sym whole) fits (rw (to_get at) at covers) in
      rw (to_get at) (omega (arith, size))
  lower rule (e ∷ []) c d down is low whole covers (model.has_there h) at = elim h [ ]
  lower rule (e ∷ f ∷ ds) c d down is low whole covers has at =
      let long = is.long in
      let size = laws.larger rule (covers_at ch.rows (e ∷ f ∷ ds)) c down.cover (omega (arith, long)) (long ∙ whole) is.each_proper covers (is.each d down has at) in
      let level = is.levels d down has at in
      omega (arith, size, level)

  -- the rank falls from the host of a row to the row's daughters
  pub falls : (i h d rule : ℕ) (row host down : chart.Row M C) → At ch.rows i row → row.kind ≡ OfWhole rule → all_free ch.into row.daughters ≡ true → LeadsTo ch.into i h → At ch.rows h host →
      model.Has d row.daughters → At ch.rows d down → rank_of down < rank_of host
  falls i h d rule row host down at kind live leads ht has dt =
      let whole = complete.tuples.no_other i rule row at kind live in
      let o = complete.tuples.one_row rule row.daughters whole in
      let n : i ≡ o.number = o.once i row at kind refl in
      let same : row ≡ o.row = at_one (subst (λ z. At ch.rows z row) n at) o.at in
      let last = complete.reps i row o.is.shape at (ap (λ (r : chart.Row M C). r.shape) same ∙ o.is.shape_is) in
      let e : h ≡ last.end = leads_one leads last.leads in
      let f : host ≡ last.host = at_one (subst (λ n. At ch.rows n host) e ht) last.at in
      let cover : host.cover ≡ row.cover = ap (λ (r : chart.Row M C). r.cover) f ∙ last.cover in
      let level : host.level ≡ level_above (levels_at ch.rows row.daughters) = ap (λ (r : chart.Row M C). r.level) f ∙ last.level ∙ ap (λ (r : chart.Row M C). r.level) same ∙ o.is.level in
      let covers : k.covers rule (covers_at ch.rows row.daughters) ≡ Some row.cover = o.is.cover ∙ ap (λ (r : chart.Row M C). Some r.cover) (sym same) in
      let size = ap k.size cover in
      let under = lower rule row.daughters row.cover d down (covered row.daughters whole.low.hosts) whole.low.hosts whole.whole covers has dt in
      omega (arith, under, size, level)
