-- What holds of `batch`.
use Rattle.std.proofs.Common.{◌≡◌, ◌∙◌, ℕ, suc, List, [], ◌∷◌, Option, Some, Bool, refl, sym, ap, subst}
use Rattle.std.specs.Str.{chars}
use Rattle.lkb_io.specs.Outside.{HasRisen}
use Rattle.fs_model.specs.Claims.{IsOrder}
use Rattle.lexical_items.specs.Seen.{lattice_seen}
use Rattle.tree_model.specs.Items.{Limits}
use Rattle.tree_model.specs.Answers.{ParseAnswersAreOne}
use Rattle.tree_model.specs.Said.{SameViews}
use Rattle.grammar_files.specs.Faults.{FoundFault}
use Rattle.grammar_files.specs.Walks.{IsText}
use Rattle.grammar_load.specs.Loaded.{GrammarTree}
use Rattle.endings.specs.Meanings.{Lawful, Shelves, FileFault, has_failed}
use Rattle.command_files.specs.Told.{never, told_of, IsOfShelf}
use Rattle.command_files.specs.Texts.{IsTextFault}
use Rattle.command_files.specs.Grammars.{HasGrammar}
use Rattle.engine.specs.Speeches.{Speech, lattice_of_words}
use Rattle.engine.proofs.Speeches.{OneSigns}
use Rattle.engine.proofs.GrammarLaws.{OneGrammar, OneFault, NotBoth, Calm, speeches-same, has-order}
use Rattle.side_by_side.specs.Works.{AreGiven, no_thing, a_thing}
use Rattle.profile_reports.specs.Profiles.{Item, items_of}
use Rattle.profile_reports.specs.declared.ItemResult.{ItemResult}
use Rattle.profile_reports.specs.Comparing.{result_of}
use Rattle.profile_reports.specs.Lines.{report_lines, is_refused}
use Rattle.profile_batch.specs.Results.{IsResult, of_long, of_bytes, of_line, of_item, IsReported, outcome_of}
use Rattle.profile_batch.proofs.Reported.{all-results}
use Rattle.profile_batch.specs.Batches.{IsFirst, of_grammar, of_profile, batch_meaning}

-- laws of the text of a file
pub record TextsAreOne : Type 0 where
  pub one_text : (files : List ℕ → Option (List ℕ)) (name a b : List ℕ) → IsText (Some files) name a → IsText (Some files) name b → a ≡ b
  pub one_fault : (files : List ℕ → Option (List ℕ)) (name : List ℕ) (f g : FoundFault) → IsTextFault (Some files) never name f → IsTextFault (Some files) never name g → f ≡ g
  pub not_both : (files : List ℕ → Option (List ℕ)) (name text : List ℕ) (f : FoundFault) → IsText (Some files) name text → IsTextFault (Some files) never name f → ⊥
  pub calm : (h : Shelves) (name : List ℕ) (f : FoundFault) → IsTextFault h.files (has_failed h) name f → IsOfShelf h (told_of f []) → (HasRisen h.faults_old h.faults_new → ⊥) → IsTextFault h.files never name f

module _ (answers : ParseAnswersAreOne) (speech : Speech) (order : IsOrder speech.signs.system) (limits : Limits) (most : ℕ) where
  one-result : (place : ℕ) (i : Item) (r s : ItemResult) → IsResult speech limits most place i r → IsResult speech limits most place i s → r ≡ s
  one-result place _ _ _ of_long of_long = refl
  one-result place _ _ _ of_bytes of_bytes = refl
  one-result place _ _ _ of_line of_line = refl
  one-result place _ _ _ (of_item e sentence trees a p) (of_item _ _ _ b q) =
      ap (λ x. result_of place trees (outcome_of speech.names x)) (answers speech.signs speech.words (lattice_seen (lattice_of_words (chars sentence))) most limits order a b p q)

  one-results : (n : ℕ) (is : List Item) (rs ss : List ItemResult) → AreGiven (IsResult speech limits most) n is rs → AreGiven (IsResult speech limits most) n is ss → rs ≡ ss
  one-results _ _ _ _ (no_thing n) (no_thing _) = refl
  one-results _ _ _ _ (a_thing n i is r rs p ps) (a_thing _ _ _ s ss q qs) =
      ap (λ x. x ∷ rs) (one-result n i r s p q) ∙ ap (λ xs. s ∷ xs) (one-results (suc n) is rs ss ps qs)

  one-report : (is : List Item) (pieces others : List (List ℕ)) (refused may : Bool) → IsReported speech limits most is pieces refused → IsReported speech limits most is others may → (pieces ≡ others) × (refused ≡ may)
  one-report is pieces others refused may p q =
      let same = one-results 0 is p.0 q.0 p.1 q.1 in
      (p.2 ∙ ap (report_lines is) same ∙ sym q.2, p.3 ∙ ap (is_refused is) same ∙ sym q.3)

module _ (one : OneGrammar) (fault : OneFault) (both : NotBoth) (calm : Calm) (texts : TextsAreOne) (grammar : List ℕ) (settings : Option (List ℕ)) (verbose : Bool) (profile : List ℕ) where
  one-first : (files : List ℕ → Option (List ℕ)) (f g : FileFault) → IsFirst grammar settings verbose profile (Some files) never f → IsFirst grammar settings verbose profile (Some files) never g → f.text ≡ g.text
  one-first files _ _ (of_grammar f x) (of_grammar g y) = fault files grammar settings verbose f g x y
  one-first files _ _ (of_grammar f x) (of_profile t g d h y s) = absurd (both files grammar settings verbose t f h x)
  one-first files _ _ (of_profile t f d h x s) (of_grammar g y) = absurd (both files grammar settings verbose t g h y)
  one-first files _ _ (of_profile t f d h x s) (of_profile u g e k y r) = ap (λ z. (told_of z []).text) (texts.one_fault files profile f g x y)

  not-both : (files : List ℕ → Option (List ℕ)) (f : FileFault) (g : GrammarTree) → HasGrammar (Some files) grammar settings g → (text : List ℕ) → IsText (Some files) profile text
      → IsFirst grammar settings verbose profile (Some files) never f → ⊥
  not-both files _ g has text is (of_grammar f x) = both files grammar settings verbose g f has x
  not-both files _ g has text is (of_profile t f d h x s) = texts.not_both files profile text f is x

  calm-first : (h : Shelves) (f : FileFault) → IsFirst grammar settings verbose profile h.files (has_failed h) f → IsOfShelf h f → (HasRisen h.faults_old h.faults_new → ⊥) → IsFirst grammar settings verbose profile h.files never f
  calm-first h _ (of_grammar f x) of none = of_grammar f (calm h grammar settings verbose f x of none)
  calm-first h _ (of_profile g f d has x s) of none = of_profile g f d has (texts.calm h profile f x of none) s

  pub batch-laws : SameViews → OneSigns → ParseAnswersAreOne → (limits : Limits) (most : ℕ) → Lawful (batch_meaning grammar settings verbose profile limits most)
  batch-laws views signs answers limits most = record {
    loads = λ files lines pieces refused r. ((r.1.0, r.1.1), r.2.0, r.2.1);
    gaps_load = λ files lines pieces wanting r. ((r.1.0, r.1.1), r.2.0, r.2.1);
    no_gap = λ files lines pieces r. (
        let results = r.2.2.0 in
        let are = all-results r.0 limits most (items_of r.2.0) results r.2.2.1 (sym r.2.2.3) in
        (is_refused (items_of r.2.0) results, (r.0, r.1, (r.2.0, r.2.1, (results, are, r.2.2.2, refl)))));
    one_first = one-first;
    not_both = λ files f l a. not-both files f l.0.0 l.0.1 l.1 l.2 a;
    one_report = λ files lines pieces others refused may p q. (
        let speech = speeches-same one views signs files grammar settings p.0 q.0 p.1 q.1 in
        let text = texts.one_text files profile p.2.0 q.2.0 p.2.1 q.2.1 in
        let order = has-order (Some files) grammar settings q.0 q.1 in
        one-report answers q.0 order limits most (items_of q.2.0) pieces others refused may
        (subst (λ s. IsReported s limits most (items_of q.2.0) pieces refused) speech (subst (λ t. IsReported p.0 limits most (items_of t) pieces refused) text p.2.2)) q.2.2);
    one_notes = λ files lines text other p q. p ∙ sym q;
    calm = λ h f x none. calm-first h f x.0 x.1 none;
  }
