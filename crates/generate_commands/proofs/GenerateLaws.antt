-- What holds of `generate`.
use Rattle.std.proofs.Common.{◌≡◌, ℕ, List, Bool, Option, Some, sym, ◌∙◌, subst}
use Rattle.endings.specs.Meanings.{Lawful}
use Rattle.endings.specs.Reports.{AreAnswers}
use Rattle.endings.proofs.ToldLines.{no-gap}
use Rattle.tree_model.specs.Said.{SameViews}
use Rattle.grammar_load.specs.Loaded.{GrammarTree}
use Rattle.grammar_load.specs.Outcomes.{IsSameGrammar}
use Rattle.command_files.specs.Grammars.{HasGrammar}
use Rattle.endings.specs.Meanings.{Files}
use Rattle.mrs_places.specs.Settled.{c_cont_said}
use Rattle.mrs_generate.specs.Laws.{SentenceAnswersAreOne}
use Rattle.engine.proofs.Results.{one-answers}
use Rattle.engine.proofs.GrammarLaws.{OneGrammar, OneFault, NotBoth, Calm}
use Rattle.engine.proofs.Speeches.{OneSigns, one-speech, speech-ordered}
use Rattle.generate_commands.specs.Answers.{Speaker, Bounds, IsAnswer}
use Rattle.generate_commands.specs.Generating.{c_cont_of, IsSpeakerOf, generate_meaning}
use Rattle.generate_commands.proofs.OneAnswers.{OneMeaning, NoFault, OnePlace, one-answer}

-- grammars that are the same say the same
one-speaker : SameViews → OneSigns → (files : Files) (name : List ℕ) (settings : Option (List ℕ)) (g h : GrammarTree) → HasGrammar files name settings h → IsSameGrammar g h
    → (s t : Speaker) → IsSpeakerOf g s → IsSpeakerOf h t → s ≡ t
one-speaker views signs files name settings g h has same s t a b =
    let speech = one-speech views signs files name settings g h has same s.speech t.speech a.speech b.speech in
    let said : c_cont_of g ≡ c_cont_of h = λ i. c_cont_said (same.book.features i) (same.settings i) in
    let path : s.c_cont_path ≡ t.c_cont_path = a.c_cont_path ∙ said ∙ sym b.c_cont_path in
    λ i. record { speech = speech i; c_cont_path = path i }

pub generate-laws : OneGrammar → OneFault → NotBoth → Calm → SameViews → OneSigns → SentenceAnswersAreOne → OneMeaning → NoFault → OnePlace
    → (name : List ℕ) (settings : Option (List ℕ)) (verbose : Bool) (bounds : Bounds) → Lawful (generate_meaning name settings verbose bounds)
generate-laws one fault both calm views signs answers meanings faults places name settings verbose bounds = record {
  loads = λ files lines pieces refused r. (r.1.0, r.1.1);
  gaps_load = λ files lines pieces wanting r. (r.1.0, r.1.1);
  no_gap = λ files lines pieces r. (let a = no-gap (IsAnswer r.0 bounds) 1 lines pieces r.2 in (a.0, (r.0, r.1, a.1)));
  one_first = λ files f g a b. fault files name settings verbose f g a b;
  not_both = λ files f l a. both files name settings verbose l.0 f l.1 a;
  one_report = λ files lines pieces others refused may p q. (
      let same = one files name settings p.1.0 q.1.0 p.1.1 q.1.1 in
      let speaker = one-speaker views signs (Some files) name settings p.1.0 q.1.0 q.1.1 same p.0 q.0 p.1.2 q.1.2 in
      let order = speech-ordered (Some files) name settings q.1.0 q.0.speech q.1.1 q.1.2.speech in
      one-answers (IsAnswer q.0 bounds) (one-answer answers meanings faults places q.0 bounds order) 1 lines pieces others refused may
      (subst (λ s. AreAnswers (IsAnswer s bounds) 1 lines pieces refused) speaker p.2) q.2);
  one_notes = λ files lines text other p q. p ∙ sym q;
  calm = λ h f x none. calm h name settings verbose f x.0 x.1 none;
}
