-- What is found of items, as a report.
use Rattle.std.proofs.Common.{suc, ◌≡◌, ◌∙◌, ◌||◌, ℕ, List, Bool, true, false, length, map, refl, sym, subst}
use Rattle.std.proofs.lemmas.List.{length-map}
use Rattle.tree_model.specs.Items.{Limits}
use Rattle.grammar_load.specs.Loaded.{GrammarTree}
use Rattle.endings.specs.declared.commands.ItemsReport.{ItemsReport}
use Rattle.engine.specs.Speeches.{Speech, IsSpeechOf}
use Rattle.side_by_side.specs.Works.{AreGiven, no_thing, a_thing}
use Rattle.profile_reports.specs.declared.profiles.ProfileItem.{ProfileItem}
use Rattle.profile_reports.specs.Profiles.{Item, items_of}
use Rattle.profile_reports.specs.ItemsViews.{item_kept}
use Rattle.profile_reports.specs.declared.ItemResult.{ItemResult}
use Rattle.profile_reports.specs.declared.report.ProfileReport.{ProfileReport}
use Rattle.profile_reports.specs.Comparing.{lacks_memory, is_some_lacking}
use Rattle.profile_reports.specs.Lines.{report_lines, is_refused}
use Rattle.profile_batch.specs.Results.{IsResult, AreResults, IsResultOrGap, a_result, a_gap, AreResultsOrGaps}
use Rattle.profile_batch.specs.Inner.Told.{IsToldOf, told_as}
use Rattle.profile_batch.proofs.Kept.{given-length}

or-first : (a b : Bool) → (a || b) ≡ false → a ≡ false
or-first false b e = refl
or-first true b e = e

or-second : (a b : Bool) → (a || b) ≡ false → b ≡ false
or-second false b e = e
or-second true b e = cc

module _ (speech : Speech) (limits : Limits) (most : ℕ) where
  -- one is found of each item
  pub as-many : (items : List ProfileItem) (results : List ItemResult) → AreResultsOrGaps speech limits most (map item_kept items) results → length results ≡ length items
  as-many items results are = given-length (IsResultOrGap speech limits most) 0 (map item_kept items) results are ∙ length-map items item_kept

  there : (place : ℕ) (i : Item) (r : ItemResult) → IsResultOrGap speech limits most place i r → lacks_memory r ≡ false → IsResult speech limits most place i r
  there place _ _ (a_result i r is) e = is
  there place _ _ (a_gap expected sentence trees) e = cc

  -- where memory was wanting for none, each has its result
  all-there : (n : ℕ) (is : List Item) (rs : List ItemResult) → AreGiven (IsResultOrGap speech limits most) n is rs → is_some_lacking rs ≡ false → AreGiven (IsResult speech limits most) n is rs
  all-there _ _ _ (no_thing n) e = no_thing n
  all-there _ _ _ (a_thing n i is r rs p ps) e =
      a_thing n i is r rs (there n i r p (or-first (lacks_memory r) (is_some_lacking rs) e)) (all-there (suc n) is rs ps (or-second (lacks_memory r) (is_some_lacking rs) e))

  pub all-results : (items : List Item) (results : List ItemResult) → AreResultsOrGaps speech limits most items results → is_some_lacking results ≡ false → AreResults speech limits most items results
  all-results items results are none = all-there 0 items results are none

  told-so : (items : List Item) (results : List ItemResult) → AreResultsOrGaps speech limits most items results → (found : ProfileReport) (lacking : Bool)
      → map (λ l. l.items) found.lines.items ≡ report_lines items results → found.refused ≡ is_refused items results → lacking ≡ is_some_lacking results
      → IsToldOf speech limits most items (told_as found lacking)
  told-so items results are found false lines some none = (results, all-results items results are (sym none), lines, some)
  told-so items results are found true lines some wanting = (results, are, lines, wanting)

module _ (g : GrammarTree) (limits : Limits) (most : ℕ) (text : List ℕ) (items : List ProfileItem) (results : List ItemResult) (same : map item_kept items ≡ items_of text)
    (z : (speech : Speech) × IsSpeechOf g speech × AreResultsOrGaps speech limits most (map item_kept items) results) where
  pub reported : (found : ProfileReport) (lacking : Bool) → map (λ l. l.items) found.lines.items ≡ report_lines (map item_kept items) results
      → found.refused ≡ is_refused (map item_kept items) results → lacking ≡ is_some_lacking results
      → (told : ItemsReport) → told ≡ told_as found lacking → (speech : Speech) × IsSpeechOf g speech × IsToldOf speech limits most (items_of text) told
  reported found lacking lines some wanting told is =
      (z.0, z.1, subst (IsToldOf z.0 limits most (items_of text)) (sym is) (subst (λ is. IsToldOf z.0 limits most is (told_as found lacking)) same (told-so z.0 limits most (map item_kept items) results z.2 found lacking lines some wanting)))
