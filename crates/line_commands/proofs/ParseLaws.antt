-- What holds of `parse`.
use Rattle.std.proofs.Common.{ℕ, ◌≡◌, suc, List, ◌++◌, Option, Some, Bool, refl, ◌∙◌, ap, subst}
use Rattle.endings.specs.Meanings.{Lawful}
use Rattle.endings.specs.Notes.{AreNotes, no_line_noted, a_line_noted}
use Rattle.tree_model.specs.Said.{SameViews}
use Rattle.tree_model.specs.Answers.{ParseAnswersAreOne}
use Rattle.line_charts.specs.Laws.{UnknownAreOne}
use Rattle.mrs_lines.specs.Laws.{LinesAreOne}
use Rattle.engine.proofs.Speeches.{OneSigns, one-speech, speech-ordered}
use Rattle.engine.proofs.GrammarLaws.{OneGrammar, OneFault, NotBoth, Calm}
use Rattle.line_commands.specs.Answers.{Asked, IsTreesReport, IsAnswer}
use Rattle.line_commands.specs.Notes.{IsNote}
use Rattle.line_commands.specs.Parsing.{parse_meaning}
use Rattle.line_commands.proofs.OneLine.{OneLattice, OneWrong, Apart, one-line}
use Rattle.line_commands.proofs.OneTrees.{one-trees}
use Rattle.line_commands.proofs.Noting.{one-note}
use Rattle.line_commands.proofs.LineLaws.{line-laws}

-- where each line has one note, lines have one text of notes
one-notes : (notes : ℕ → List ℕ → List ℕ → Type 0) → ((n : ℕ) (line own other : List ℕ) → notes n line own → notes n line other → own ≡ other)
    → (n : ℕ) (lines : List (List ℕ)) (text other : List ℕ) → AreNotes notes n lines text → AreNotes notes n lines other → text ≡ other
one-notes notes one _ _ _ _ (no_line_noted n) (no_line_noted _) = refl
one-notes notes one _ _ _ _ (a_line_noted n line lines own rest h k) (a_line_noted _ _ _ own' rest' h' k') =
    ap (λ x. x ++ rest) (one n line own own' h h') ∙ ap (λ x. own' ++ x) (one-notes notes one (suc n) lines rest rest' k k')

pub parse-laws : OneGrammar → OneFault → NotBoth → Calm → SameViews → OneSigns → OneLattice → OneWrong → Apart → ParseAnswersAreOne → UnknownAreOne → LinesAreOne
    → (name : List ℕ) (settings : Option (List ℕ)) (verbose : Bool) (asked : Asked) → Lawful (parse_meaning name settings verbose asked)
parse-laws one fault both calm views signs lattices wrongs apart answers unknown mrss name settings verbose asked =
    let laws = line-laws one fault both calm views signs (λ g s. IsAnswer s asked) (λ g h same s lines pieces refused a. a)
    (λ g s order n. one-line lattices wrongs apart asked.lattice (IsTreesReport s asked n) (one-trees answers mrss s order asked n) n) name settings verbose in
    record {
      loads = laws.loads;
      gaps_load = laws.gaps_load;
      no_gap = laws.no_gap;
      one_first = laws.one_first;
      not_both = laws.not_both;
      one_report = laws.one_report;
      one_notes = λ files lines text other p q. (
          let same = one files name settings p.0 q.0 p.2 q.2 in
          let speech = one-speech views signs (Some files) name settings p.0 q.0 q.2 same p.1 q.1 p.3 q.3 in
          one-notes (IsNote verbose q.1 asked) (one-note lattices wrongs apart answers unknown q.1 (speech-ordered (Some files) name settings q.0 q.1 q.2 q.3) asked verbose) 1 lines text other
          (subst (λ s. AreNotes (IsNote verbose s asked) 1 lines text) speech p.4) q.4);
      calm = laws.calm;
    }
