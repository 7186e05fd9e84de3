-- What holds of every command that answers lines with a grammar, where each line has one answer.
use Rattle.std.proofs.Common.{◌≡◌, ℕ, List, Bool, Option, Some, subst, sym, ◌∙◌}
use Rattle.endings.specs.Meanings.{Files, Lawful}
use Rattle.endings.specs.Reports.{AreAnswers}
use Rattle.endings.proofs.ToldLines.{no-gap}
use Rattle.fs_model.specs.Claims.{IsOrder}
use Rattle.tree_model.specs.Said.{SameViews}
use Rattle.grammar_load.specs.Loaded.{GrammarTree}
use Rattle.grammar_load.specs.Outcomes.{IsSameGrammar}
use Rattle.command_files.specs.Grammars.{HasGrammar}
use Rattle.engine.specs.Speeches.{Speech, IsSpeechOf}
use Rattle.engine.proofs.Speeches.{OneSigns, one-speech, speech-ordered}
use Rattle.engine.proofs.GrammarLaws.{OneGrammar, OneFault, NotBoth, Calm}
use Rattle.engine.proofs.Results.{one-answers}
use Rattle.line_commands.specs.Lines.{LineAnswers, lines_meaning}

-- grammars that are the same have the same answers
abbrev pub Carries : (GrammarTree → Speech → LineAnswers) → Type 0
Carries answers = (g h : GrammarTree) → IsSameGrammar g h → (s : Speech) (lines pieces : List (List ℕ)) (refused : Bool) → AreAnswers (answers g s) 1 lines pieces refused → AreAnswers (answers h s) 1 lines pieces refused

-- a line has one answer
abbrev pub IsOne : LineAnswers → Type 0
IsOne answers = (n : ℕ) (line : List ℕ) (own other : List (List ℕ)) (b c : Bool) → answers n line own b → answers n line other c → (own ≡ other) × (b ≡ c)

-- Where the lines have one answer by each grammar of files.
module _ (one : OneGrammar) (fault : OneFault) (both : NotBoth) (calm : Calm) (views : SameViews) (signs : OneSigns) (answers : GrammarTree → Speech → LineAnswers) (carried : Carries answers)
    (name : List ℕ) (settings : Option (List ℕ)) (verbose : Bool) where
  pub line-laws-of : ((files : Files) (g : GrammarTree) (s : Speech) → HasGrammar files name settings g → IsSpeechOf g s → IsOne (answers g s)) → Lawful (lines_meaning answers name settings verbose)
  line-laws-of single = record {
    loads = λ files lines pieces refused r. (r.0, r.2);
    gaps_load = λ files lines pieces wanting r. (r.0, r.2);
    no_gap = λ files lines pieces r. (let a = no-gap (answers r.0 r.1) 1 lines pieces r.4 in (a.0, (r.0, r.1, r.2, r.3, a.1)));
    one_first = λ files f g a b. fault files name settings verbose f g a b;
    not_both = λ files f l a. both files name settings verbose l.0 f l.1 a;
    one_report = λ files lines pieces others refused may p q. (
        let same = one files name settings p.0 q.0 p.2 q.2 in
        let speech = one-speech views signs (Some files) name settings p.0 q.0 q.2 same p.1 q.1 p.3 q.3 in
        one-answers (answers q.0 q.1) (single (Some files) q.0 q.1 q.2 q.3) 1 lines pieces others refused may
        (carried p.0 q.0 same q.1 lines pieces refused (subst (λ s. AreAnswers (answers p.0 s) 1 lines pieces refused) speech p.4)) q.4);
    one_notes = λ files lines text other p q. p ∙ sym q;
    calm = λ h f x none. calm h name settings verbose f x.0 x.1 none;
  }

-- Where they have one by any grammar whose types are in order.
pub line-laws : OneGrammar → OneFault → NotBoth → Calm → SameViews → OneSigns
    → (answers : GrammarTree → Speech → LineAnswers) → Carries answers → ((g : GrammarTree) (s : Speech) → IsOrder s.signs.system → IsOne (answers g s))
    → (name : List ℕ) (settings : Option (List ℕ)) (verbose : Bool) → Lawful (lines_meaning answers name settings verbose)
line-laws one fault both calm views signs answers carried single name settings verbose =
    line-laws-of one fault both calm views signs answers carried name settings verbose (λ files g s has is. single g s (speech-ordered files name settings g s has is))
