-- An MRS has one answer.
use Rattle.std.specs.Prelude.{ℕ, ◌≡◌}
use Rattle.fs_model.specs.Claims.{IsOrder}
use Rattle.tree_model.specs.Signs.{Signs}
use Rattle.tree_model.specs.Lexical.{Words}
use Rattle.tree_model.specs.Items.{Limits}
use Rattle.generate_model.specs.Contributions.{Input}
use Rattle.generate_model.specs.Sentences.{GenAnswer}
use Rattle.mrs_generate.specs.Answers.{IsSentenceAnswer}

abbrev pub SentenceAnswersAreOne : Type 0
SentenceAnswersAreOne = (g : Signs) → IsOrder g.system → (words : Words) (input : Input) (most_rules most_empty : ℕ) (limits : Limits) (a b : GenAnswer) →
    IsSentenceAnswer g words input most_rules most_empty limits a → IsSentenceAnswer g words input most_rules most_empty limits b → a ≡ b
