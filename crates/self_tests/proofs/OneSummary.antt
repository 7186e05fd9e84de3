-- A workload has one summary.
use Rattle.std.proofs.Common.{◌≡◌, ◌∙◌, ℕ, List, [], ◌∷◌, ◌++◌, Option, Some, None, Bool, false, map, refl, sym, ap, subst}
use Rattle.std.specs.List.{AllZip}
use Rattle.std.specs.Str.{chars}
use Rattle.fs_model.specs.Claims.{IsOrder}
use Rattle.lexical_items.specs.Seen.{lattice_seen}
use Rattle.tree_model.specs.Signs.{Signs}
use Rattle.tree_model.specs.Lexical.{Words}
use Rattle.tree_model.specs.Items.{Limits, Answer}
use Rattle.self_tests.specs.Summaries.{summary_line, is_some_refused}
use Rattle.tree_model.specs.Answers.{ParseAnswersAreOne}
use Rattle.tree_model.specs.Said.{SameViews}
use Rattle.self_tests.specs.Lines.{lines}
use Rattle.endings.specs.Meanings.{Lawful}
use Rattle.engine.specs.Speeches.{Speech, HasSpeech, lattice_of_words}
use Rattle.engine.proofs.GrammarLaws.{OneGrammar, OneFault, NotBoth, speeches-same, has-order}
use Rattle.engine.proofs.Speeches.{OneSigns}
use Rattle.self_tests.specs.Items.{count_of, IsItem}
use Rattle.self_tests.proofs.CountedLines.{all-counted, no-gap-lines}
use Rattle.self_tests.specs.SelfTests.{workload_shelf, workload_name, IsSummed, self_test_meaning}

module _ (answers : ParseAnswersAreOne) (g : Signs) (order : IsOrder g.system) (words : Words) (limits : Limits) (most : ℕ) where
  one-items : (ls : List (List ℕ)) (xs ys : List Answer) → AllZip (IsItem g words limits most) ls xs → AllZip (IsItem g words limits most) ls ys → xs ≡ ys
  one-items [] [] [] p q = refl
  one-items [] (a ∷ xs) ys p q = absurd p
  one-items [] [] (b ∷ ys) p q = absurd q
  one-items (l ∷ ls) [] ys p q = absurd p
  one-items (l ∷ ls) (a ∷ xs) [] p q = absurd q
  one-items (l ∷ ls) (a ∷ xs) (b ∷ ys) p q =
      ap (λ x. x ∷ xs) (answers g words (lattice_seen (lattice_of_words (chars l))) most limits order a b p.0 q.0) ∙ ap (λ zs. b ∷ zs) (one-items ls xs ys p.1 q.1)

one-summary : ParseAnswersAreOne → (speech : Speech) → IsOrder speech.signs.system → (limits : Limits) (most number size : ℕ) (pieces others : List (List ℕ)) (refused may : Bool)
    → IsSummed speech limits most number size pieces refused → IsSummed speech limits most number size others may → (pieces ≡ others) × (refused ≡ may)
one-summary answers speech order limits most number size pieces others refused may p q =
    let same = one-items answers speech.signs order speech.words limits most (lines number size) p.1.answers q.1.answers p.1.items q.1.items in
    let counts : p.0 ≡ q.0 = p.1.counts_are ∙ ap (map count_of) same ∙ sym q.1.counts_are in
    (p.2 ∙ ap (λ cs. summary_line number size cs ∷ []) counts ∙ sym q.2, p.3 ∙ ap is_some_refused counts ∙ sym q.3)

-- two speeches of the one grammar are one
one-report : OneGrammar → SameViews → OneSigns → ParseAnswersAreOne → (files : List ℕ → Option (List ℕ)) (name : List ℕ) (limits : Limits) (most number size : ℕ) (pieces others : List (List ℕ)) (refused may : Bool)
    → (speech : Speech) × HasSpeech (Some files) name None speech × IsSummed speech limits most number size pieces refused
    → (speech : Speech) × HasSpeech (Some files) name None speech × IsSummed speech limits most number size others may → (pieces ≡ others) × (refused ≡ may)
one-report one views signs answers files name limits most number size pieces others refused may p q =
    let speech = speeches-same one views signs files name None p.0 q.0 p.1 q.1 in
    let order = has-order (Some files) name None q.0 q.1 in
    one-summary answers q.0 order limits most number size pieces others refused may (subst (λ s. IsSummed s limits most number size pieces refused) speech p.2) q.2

pub self-test-laws : OneGrammar → OneFault → NotBoth → SameViews → OneSigns → ParseAnswersAreOne → (number size : ℕ) (limits : Limits) (most : ℕ) → Lawful (self_test_meaning number size limits most)
self-test-laws one fault both views signs answers number size limits most = record {
  loads = λ files lines pieces refused r. (r.1.0, r.1.1);
  gaps_load = λ files lines pieces wanting r. (r.1.0, r.1.1);
  no_gap = λ files ls pieces r. (
      let counts = r.2.0 in
      let none = sym r.2.3 in
      let only = ap (λ gaps. gaps ++ summary_line number size counts ∷ []) (no-gap-lines 1 counts none) in
      (is_some_refused counts, (r.0, r.1, (counts, all-counted r.0 limits most (lines number size) counts r.2.1 none, r.2.2 ∙ only, refl))));
  one_first = λ files f g a b. fault workload_shelf workload_name None false f g a b;
  not_both = λ files f l a. both workload_shelf workload_name None false l.0 f l.1 a;
  one_report = λ files lines pieces others refused may p q. one-report one views signs answers workload_shelf workload_name limits most number size pieces others refused may p q;
  one_notes = λ files lines text other p q. p ∙ sym q;
  calm = λ h f x none. x.0;
}
