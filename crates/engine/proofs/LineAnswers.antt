-- What is known of a line by the grammar of its lines is known by the speech of an engine.
use Rattle.std.specs.Prelude.{ℕ, ◌≡◌}
use Rattle.std.proofs.Common.{subst}
use Rattle.chart_core.specs.declared.Limits.{Limits}
use Rattle.morph_analysis.specs.Lattices.{LatticeTree}
use Rattle.tree_model.specs.Items.{Answer}
use Rattle.lexical_items.specs.Seen.{lattice_seen}
use Rattle.tree_model.specs.Answers.{IsParseAnswer}
use Rattle.packed_items.specs.Answers.{limits_in}
use Rattle.book_signs.specs.Trees.{signs_of}
use Rattle.grammar_rules.specs.LineLeaves.{AreLineLeaves}
use Rattle.grammar_rules.specs.Lines.{IsLineAnswer, words_by}
use Rattle.grammar_rules.specs.declared.grammar.LineGrammar.{LineGrammar}
use Rattle.grammar_rules.specs.declared.leaves.LineLeaves.{LineLeaves}
use Rattle.engine.specs.declared.lent.Engine.{Engine}
use Rattle.engine.specs.Views.{speech_of}

module _ (e : Engine) (g : LineGrammar) (signs : g.signs.now ≡ e.signs.now) (words : words_by g ≡ (speech_of e).words) (lattice : LatticeTree) where
  pub speech-answer : (limits : Limits) (a : Answer) → IsLineAnswer g lattice limits a → IsParseAnswer (speech_of e).signs (speech_of e).words (lattice_seen lattice) limits.lexical (limits_in limits) a
  speech-answer limits a h =
      subst (λ t. IsParseAnswer (signs_of t) (speech_of e).words (lattice_seen lattice) limits.lexical (limits_in limits) a) signs
      (subst (λ w. IsParseAnswer (signs_of g.signs.now) w (lattice_seen lattice) limits.lexical (limits_in limits) a) words h)

  pub speech-leaves : (shapes : g.shapes.now ≡ e.shapes.now) (most : ℕ) (ls : LineLeaves) → AreLineLeaves g.signs.now g.shapes.now (words_by g) lattice most ls → AreLineLeaves e.signs.now e.shapes.now (speech_of e).words lattice most ls
  speech-leaves shapes most ls h =
      subst (λ t. AreLineLeaves t e.shapes.now (speech_of e).words lattice most ls) signs
      (subst (λ s. AreLineLeaves g.signs.now s (speech_of e).words lattice most ls) shapes
      (subst (λ w. AreLineLeaves g.signs.now g.shapes.now w lattice most ls) words h))
