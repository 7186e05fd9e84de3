-- The lines of an answer with MRSs, by names that are the speech's.
use Rattle.std.proofs.Common.{ℕ, ◌≡◌, Bool, true, List, sym, subst}
use Rattle.tree_model.specs.Items.{Answer}
use Rattle.mrs_lines.specs.Lines.{AreAnswerLines}
use Rattle.engine.specs.Speeches.{Speech}
use Rattle.line_commands.specs.Answers.{AreLinesOf}

pub mrs-lines : (s : Speech) (nodes : Bool) (number : ℕ) (a : Answer) (mrs : Bool) → mrs ≡ true → (names : List (List ℕ)) → names ≡ s.names
    → (lines : List (List ℕ)) → AreAnswerLines s.signs s.semantics names nodes number a lines → AreLinesOf mrs s nodes number a lines
mrs-lines s nodes number a mrs e names is lines h =
    subst (λ b. AreLinesOf b s nodes number a lines) (sym e) (subst (λ ns. AreAnswerLines s.signs s.semantics ns nodes number a lines) is h)
