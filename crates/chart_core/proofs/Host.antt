-- A new host, with the rows that it frosts.
use Rattle.std.specs.Prelude.{◌≡◌, ℕ, ◌+◌, ◌≤◌, ◌<◌, ◌++◌, Option, Some, None, List, [], ◌∷◌, length, map, slice_get, All, MatchOption, Bool, false}
use Rattle.std.specs.List.{filter}
use Rattle.std.proofs.Common.{refl, ap, sym, ◌∙◌, subst, arith}
use Rattle.chart_model.specs.Calculus.{Calculus}
use Rattle.chart_model.specs.Chart as model
use Rattle.chart_core.specs.declared.Row.{Row}
use Rattle.chart_core.specs.declared.Verdict.{Verdict}
use Rattle.chart_core.specs.declared.history.TaskRow.{TaskRow}
use Rattle.chart_core.specs.declared.history.Entry.{Entry}
use Rattle.chart_core.specs.Lists.{pushed}
use Rattle.chart_core.specs.Grammar.{Keys}
use Rattle.chart_core.specs.View.{Belongs, AreDaughters, list_of, row_of, rows_of, into_of, task_of, number_of, KeepsRows, write_all}
use Rattle.chart_core.specs.Sound.{SoundOf, is_host, is_partial_kind}
use Rattle.chart_core.specs.Verdicts.{Holds, AreRight}
use Rattle.chart_model.specs.At.{At, from_get}
use Rattle.chart_core.proofs.Found.{all_at}
use Rattle.chart_model.proofs.Peers.{at_kept}
use Rattle.chart_core.proofs.Index.{lists_kept, lists_pushed}
use Rattle.chart_core.proofs.Grows.{chart_from, chart_pushed, sound_row, all_snoc}
use Rattle.chart_core.proofs.Frost.{rows_kept, sound_frost, all_kept, kept_length}

module _ {X T C W B M : Type 0} (k : Calculus M C) (limits : model.Limits) (meaning : T → M) where
  frosted_chart : (rows next : List (Row X T C W B)) (into : List (Option ℕ)) (tasks : List TaskRow) (made places : ℕ) → KeepsRows rows next → into_of next ≡ into → chart_from meaning next tasks made places ≡ record (chart_from meaning rows tasks made places) { into = into }
  frosted_chart rows next into tasks made places keeps e = rw (rows_kept meaning rows next keeps, e) refl

  -- the chart with a new host, where the rows are frosted already
  pub chart_host : (rows next : List (Row X T C W B)) (tasks found : List TaskRow) (w : Row X T C W B) (m : M) (n made places : ℕ) → n ≡ length (rows_of meaning rows) → KeepsRows rows next → into_of next ≡ model.frosted k (model.has_peer k (k.over m) w.cover w.level) n (rows_of meaning rows) (into_of rows) → All (λ t. t.done ≡ None) found → map task_of found ≡ model.tasks_of_host k limits (rows_of meaning rows) (model.frosted k (model.has_peer k (k.over m) w.cover w.level) n (rows_of meaning rows) (into_of rows)) n w.cover w.level → w.into ≡ None → chart_from meaning (next ++ w ∷ []) (tasks ++ found) (made + 1) places ≡ model.with_host k limits (model.with_frost k limits (chart_from meaning rows tasks made places) (row_of meaning w) m) (row_of meaning w)
  chart_host rows next tasks found w m n made places is keeps into fresh added live =
      let F = λ (n : ℕ). model.frosted k (model.has_peer k (k.over m) w.cover w.level) n (rows_of meaning rows) (into_of rows) in
      let added2 : map task_of found ≡ model.tasks_of_host k limits (rows_of meaning rows) (F (length (rows_of meaning rows))) (length (rows_of meaning rows)) w.cover w.level = subst (λ i. map task_of found ≡ model.tasks_of_host k limits (rows_of meaning rows) (F i) i w.cover w.level) is added in
      let into2 : into_of next ≡ F (length (rows_of meaning rows)) = into ∙ ap F is in
      ap (λ (ch : model.Chart M C). record ch { made = made + 1 })
      (chart_pushed meaning next tasks found w made places (model.tasks_of_host k limits (rows_of meaning rows) (F (length (rows_of meaning rows))) (length (rows_of meaning rows)) w.cover w.level) fresh added2
      ∙ ap (λ o. model.with_tasks (model.with_row (chart_from meaning next tasks made places) (row_of meaning w) (number_of o)) (model.tasks_of_host k limits (rows_of meaning rows) (F (length (rows_of meaning rows))) (length (rows_of meaning rows)) w.cover w.level)) live
      ∙ ap (λ (ch : model.Chart M C). model.with_tasks (model.with_row ch (row_of meaning w) None) (model.tasks_of_host k limits (rows_of meaning rows) (F (length (rows_of meaning rows))) (length (rows_of meaning rows)) w.cover w.level)) (frosted_chart rows next (F (length (rows_of meaning rows))) tasks made places keeps into2))

  pub chart_alike : (rows rows2 : List (Row X T C W B)) (tasks tasks2 : List TaskRow) (made made2 places places2 : ℕ) → rows ≡ rows2 → tasks ≡ tasks2 → made ≡ made2 → places ≡ places2 → chart_from meaning rows tasks made places ≡ chart_from meaning rows2 tasks2 made2 places2
  chart_alike rows rows2 tasks tasks2 made made2 places places2 e f h p = rw (e, f, h, p) refl

module _ {X T C W B M : Type 0} (k : Calculus M C) (belongs : T → Type 0) where
  pub belongs_host : (rows next : List (Row X T C W B)) (w : Row X T C W B) → KeepsRows rows next → All (Belongs k belongs) rows → Belongs k belongs w → All (Belongs k belongs) (next ++ w ∷ [])
  belongs_host rows next w keeps all b = all_snoc (Belongs k belongs) next w (all_kept (Belongs k belongs) (λ x y e h. subst (Belongs k belongs) e h) rows next keeps all) b

module _ {X T C W B : Type 0} (keys : Keys C) where
  -- a core stays sound as a host comes and rows are frosted
  pub sound_host : (rows next : List (Row X T C W B)) (ps : List ℕ) (n : ℕ) (tasks : List TaskRow) (history : List Entry) (capacity made : ℕ) (a b c : List (List ℕ)) → 0 < length a → 0 < length b → KeepsRows rows next → into_of next ≡ write_all (into_of rows) ps n → SoundOf keys rows tasks history capacity made a b c → (w : Row X T C W B) → is_partial_kind w.kind ≡ false → AreDaughters w.daughters → All (λ d. d < length rows) (list_of w.daughters) → (found : List TaskRow) → All (λ t. t.done ≡ None) found → (bigger : ℕ) → length tasks + length found ≤ bigger → SoundOf keys (next ++ w ∷ []) (tasks ++ found) history bigger (made + 1) (pushed a (keys.cell w.cover) (length rows)) (pushed b (keys.begins w.cover) (length rows)) c
  sound_host rows next ps n tasks history capacity made a b c fa fb keeps into s w whole ds range found fresh bigger fits =
      let s2 = sound_frost keys rows next ps n tasks history capacity made a b c keeps into s in
      let same = kept_length rows next keeps in
      let la = λ (i : ℕ). pushed a (keys.cell w.cover) i in
      let lb = λ (i : ℕ). pushed b (keys.begins w.cover) i in
      subst (λ i. SoundOf keys (next ++ w ∷ []) (tasks ++ found) history bigger (made + 1) (la i) (lb i) c) same
      (sound_row keys next tasks history capacity made a b c s2 w ds (subst (λ i. All (λ d. d < i) (list_of w.daughters)) (sym same) range) found fresh bigger (made + 1) fits (omega (arith, s2.made_few)) (la (length next)) (lb (length next)) c
      (lists_pushed is_host (λ row. keys.cell row.cover) next a w fa s2.cells)
      (lists_pushed is_host (λ row. keys.begins row.cover) next b w fb s2.begins)
      (lists_kept (λ row. is_partial_kind row.kind) (λ row. keys.ends row.cover) next c w whole s2.ends))

-- what a filter keeps of places in range is in range
pub kept_below : (t : ℕ → Bool) (n : ℕ) (ps qs : List ℕ) → qs ≡ filter t ps → ((i p : ℕ) → At ps i p → p < n) → All (λ p. p < n) qs
kept_below t n ps qs e h = all_at (λ p. p < n) qs (λ j p a. let r = at_kept t ps j p (subst (λ xs. At xs j p) e a) in h r.1.0 p r.1.1)

module _ {X T C W B M : Type 0} (k : Calculus M C) (meaning : T → M) (m : M) where
  -- a verdict that was found is right of its row
  pub verdict_right : (rows : List (Row X T C W B)) (verdicts : List Verdict) (n p : ℕ) (row : Row X T C W B) (o : Option Verdict) → AreRight k meaning m rows verdicts → slice_get rows p ≡ Some row → MatchOption o (Unit {0}) (λ v. (v.row.0 ≡ p) × (slice_get verdicts n ≡ Some v)) → MatchOption o (Unit {0}) (Holds k meaning m row)
  verdict_right rows verdicts n p row None right at found = tt
  verdict_right rows verdicts n p row (Some v) right at found = right n v row (from_get verdicts n v found.1) (subst (λ i. At rows i row) (sym found.0) (from_get rows p row at))

module _ {X T C W B : Type 0} (keys : Keys C) where
  pub sound_alike : (rows rows2 : List (Row X T C W B)) (tasks tasks2 : List TaskRow) (history history2 : List Entry) (capacity made made2 : ℕ) (a a2 b b2 c c2 : List (List ℕ)) → SoundOf keys rows tasks history capacity made a b c → rows2 ≡ rows → tasks2 ≡ tasks → history2 ≡ history → made2 ≡ made → a2 ≡ a → b2 ≡ b → c2 ≡ c → SoundOf keys rows2 tasks2 history2 capacity made2 a2 b2 c2
  sound_alike rows rows2 tasks tasks2 history history2 capacity made made2 a a2 b b2 c c2 s er et eh em ea eb ec = rw (er, et, eh, em, ea, eb, ec) s
