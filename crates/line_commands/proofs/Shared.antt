-- What an engine's lines share, as the engine's speech has it.
use Rattle.std.proofs.Common.{ℕ, ◌≡◌, ◌∙◌, Bool, List, sym, ap, subst}
use Rattle.derivation.specs.Trees.{Derivation}
use Rattle.tree_model.specs.Items.{Answer}
use Rattle.book_signs.specs.Trees.{SignTree, signs_of}
use Rattle.mrs_places.specs.Paths.{Paths, paths_of}
use Rattle.mrs_lines.specs.Lines.{IsMrsLine, AreAnswerLines}
use Rattle.mrs_lines.specs.Remembered.{MrsSigns, semantics_in}
use Rattle.engine.specs.declared.lent.Engine.{Engine}
use Rattle.engine.specs.Views.{speech_of}
use Rattle.line_commands.specs.Remembered.{IsMrsMemoryOf}

module _ (e : Engine) (lines : MrsSigns) (fulls : SignTree) (of : IsMrsMemoryOf e lines) (is : fulls ≡ e.signs.now) where
  pub same-signs : lines.signs ≡ fulls
  same-signs = ap (λ (m : MrsSigns). m.signs) of ∙ sym is

  -- what holds of the engine's signs and paths holds of what is shared
  pub shared-by : (P : SignTree → Paths → Type 0) → P e.signs.now (paths_of e.paths.now) → P fulls lines.paths
  shared-by P h = subst (λ (m : MrsSigns). P fulls m.paths) (sym of) (subst (λ t. P t (paths_of e.paths.now)) (sym is) h)

  pub answer-lines : (names : List (List ℕ)) (nodes : Bool) (number : ℕ) (a : Answer) (xs : List (List ℕ)) → AreAnswerLines (signs_of fulls) (semantics_in lines) names nodes number a xs
      → AreAnswerLines (speech_of e).signs (speech_of e).semantics names nodes number a xs
  answer-lines names nodes number a xs h =
      subst (λ t. AreAnswerLines (signs_of t) (semantics_in (record { signs = e.signs.now; paths = paths_of e.paths.now })) names nodes number a xs) is
      (subst (λ m. AreAnswerLines (signs_of fulls) (semantics_in m) names nodes number a xs) of h)

  pub mrs-line : (tree : Derivation) (line : List ℕ) → IsMrsLine (signs_of fulls) (semantics_in lines) tree line → IsMrsLine (speech_of e).signs (speech_of e).semantics tree line
  mrs-line tree line h =
      subst (λ t. IsMrsLine (signs_of t) (semantics_in (record { signs = e.signs.now; paths = paths_of e.paths.now })) tree line) is
      (subst (λ m. IsMrsLine (signs_of fulls) (semantics_in m) tree line) of h)
