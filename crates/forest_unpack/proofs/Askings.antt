-- Hosts that are asked for, row by row.
use Rattle.std.specs.Prelude.{◌≡◌, ◌⊎◌, ℕ, ◌+◌, ◌<◌, ◌≤◌, true, is_some, Some, None, List, [], ◌∷◌, ◌++◌, map, slice_get}
use Rattle.std.proofs.Common.{inl, inr, ap, subst, sym, ◌∙◌, arith}
use Rattle.std.proofs.lemmas.Bool.{cases_lt}
use Rattle.chart_model.specs.At.{at_one, from_get}
use Rattle.chart_core.specs.declared.Row.{Row}
use Rattle.tree_model.specs.Readings.{Wholes}
use Rattle.tree_model.specs.Lists as model
use Rattle.tree_model.proofs.Members.{Either, on_left, on_right, has_append, has_left, has_right, has_map, differ_append}
use Rattle.forest_unpack.specs.declared.collecting.Wanted.{Wanted}
use Rattle.forest_unpack.specs.Keeping.{Asked, asked_of}
use Rattle.forest_unpack.specs.Asking.{IsLive, AreAsked}
use Rattle.forest_unpack.proofs.Adding.{map_append}

module _ {X T C W B V : Type 0} (w : Wholes V C) (rows : List (Row X T C W B)) where
  pub asked_none : AreAsked w rows 0 []
  asked_none = record { each = λ a h. elim h [ ]; all = λ h c v low live ok. absurd (omega (arith, low)); differ = model.differ_none }

  pub asked_same : {Y U Z : Type 0} (n : ℕ) (old new : List (Wanted Y U C Z)) → new ≡ old → AreAsked w rows n (map asked_of old) → AreAsked w rows n (map asked_of new)
  asked_same n old new is are = subst (AreAsked w rows n) (sym (ap (map asked_of) is)) are

  next : (P : Type 0) (j n : ℕ) → j < n + 1 → (j < n → P) → (j ≡ n → P) → P
  next P j n low below same = by (cases_lt j n)
    where
      by : ((j < n) ⊎ (n ≤ j)) → P
      by (inl a) = below a
      by (inr b) = same (omega (arith, b, low))

  module _ (n : ℕ) (row : Row X T C W B) (at : slice_get rows n ≡ Some row) where
    live_is : (c : C) → IsLive rows n c → (P : Type 0) → (is_some row.shape ≡ true → row.into ≡ None → row.cover ≡ c → P) → P
    live_is c live P f =
        let same : live.row ≡ row = at_one live.at (from_get rows n row at) in
        f (ap (λ (r : Row X T C W B). is_some r.shape) (sym same) ∙ live.shape) (ap (λ (r : Row X T C W B). r.into) (sym same) ∙ live.into) (ap (λ (r : Row X T C W B). r.cover) (sym same) ∙ live.cover)

    pub asked_skip : (asked : List (Asked C)) → AreAsked w rows n asked → (is_some row.shape ≡ true → row.into ≡ None → (v : V) → w.accepted v row.cover → ⊥) → AreAsked w rows (n + 1) asked
    asked_skip asked are never =
        record {
          each = λ a h. (let z = (are.each a h).0 in omega (arith, z), (are.each a h).1);
          all = λ h c v low live ok.
              next (model.Has h (map (λ a. a.host) asked)) h n low (λ l. are.all h c v l live ok)
              (λ e. live_is c (subst (λ i. IsLive rows i c) e live) (model.Has h (map (λ a. a.host) asked))
              (λ shape into cover. absurd (never shape into v (subst (w.accepted v) (sym cover) ok))));
          differ = are.differ;
        }

    pub asked_add : (asked : List (Asked C)) → AreAsked w rows n asked → (more : Asked C) → more.host ≡ n → more.cover ≡ row.cover → is_some row.shape ≡ true → row.into ≡ None → AreAsked w rows (n + 1) (asked ++ more ∷ [])
    asked_add asked are more host cover shape into =
        record {
          each = λ a h. each_of a (has_append asked h);
          all = λ h c v low live ok.
              subst (model.Has h) (sym hosts)
              (next (model.Has h (map (λ a. a.host) asked ++ more.host ∷ [])) h n low (λ l. has_left (more.host ∷ []) (are.all h c v l live ok))
              (λ e. has_right (map (λ a. a.host) asked) (subst (λ i. model.Has i (more.host ∷ [])) (host ∙ sym e) model.has_here)));
          differ = subst model.AllDiffer (sym hosts) (differ_append are.differ (model.differ_more (λ x. elim x [ ]) model.differ_none) apart);
        }
      where
        hosts : map (λ (a : Asked C). a.host) (asked ++ more ∷ []) ≡ map (λ (a : Asked C). a.host) asked ++ more.host ∷ []
        hosts = map_append (λ (a : Asked C). a.host) asked (more ∷ [])

        here : IsLive rows more.host more.cover
        here = subst (λ i. IsLive rows i more.cover) (sym host) (record { row = row; at = from_get rows n row at; shape = shape; into = into; cover = sym cover })

        each_of : (a : Asked C) → Either a asked (more ∷ []) → (a.host < n + 1) × IsLive rows a.host a.cover
        each_of a (on_left h) = (let z = (are.each a h).0 in omega (arith, z), (are.each a h).1)
        each_of _ (on_right model.has_here) = (omega (arith, host), here)
        each_of a (on_right (model.has_there h)) = elim h [ ]

        apart : (i : ℕ) → model.Has i (map (λ (a : Asked C). a.host) asked) → model.Has i (more.host ∷ []) → ⊥
        apart _ h model.has_here =
            let a = has_map (λ (b : Asked C). b.host) asked h in
            let low = (are.each a.source a.has).0 in
            let same = a.is in
            omega (arith, low, same, host)
        apart i h (model.has_there x) = elim x [ ]

    pub asked_next : {Y U Z : Type 0} (old new : List (Wanted Y U C Z)) (more : Wanted Y U C Z) → AreAsked w rows n (map asked_of old) → new ≡ old ++ more ∷ [] →
        more.host ≡ n → more.cover.now ≡ row.cover → is_some row.shape ≡ true → row.into ≡ None → AreAsked w rows (n + 1) (map asked_of new)
    asked_next old new more before is host cover shape into =
        subst (AreAsked w rows (n + 1)) (sym (ap (map asked_of) is ∙ map_append asked_of old (more ∷ []))) (asked_add (map asked_of old) before (asked_of more) host cover shape into)
