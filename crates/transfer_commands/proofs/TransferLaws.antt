-- What holds of `transfer`.
use Rattle.std.proofs.Common.{◌≡◌, ℕ, List, [], Bool, Option, Some, All, sym, ◌∙◌, ap, subst}
use Rattle.endings.specs.Meanings.{Lawful, FileFault, Files, has_failed}
use Rattle.endings.specs.Reports.{AreAnswers}
use Rattle.endings.proofs.ToldLines.{no-gap}
use Rattle.tdl_reader.specs.Trees.{StatementTree}
use Rattle.grammar_settings.specs.Forms.{Name}
use Rattle.grammar_settings.specs.Settled.{SettingsTree}
use Rattle.grammar_files.specs.Faults.{FoundFault}
use Rattle.grammar_files.proofs.OneLemmas.{OneReading}
use Rattle.transfer_model.specs.Rules.{Rule, IsRule}
use Rattle.transfer_rules.specs.Forms.{AreRules, IsFirstOutside}
use Rattle.command_files.specs.Told.{never, told_of}
use Rattle.command_files.proofs.ToldLemmas.{shelf_told}
use Rattle.transfer_commands.specs.Rewriters.{Rewriter, HasRewriter, skipped_by}
use Rattle.transfer_commands.specs.Faults.{form_text, IsFirstFault, unread, out_of_form}
use Rattle.transfer_commands.specs.Answers.{IsAnswer}
use Rattle.transfer_commands.specs.Transferring.{transfer_meaning}
use Rattle.transfer_commands.proofs.OneFiles.{said-one, settled-one, unread-one, unread-or-read, said-moves, settled-moves, unread-moves}
use Rattle.transfer_commands.proofs.OneAnswers.{TextLaws, ResultLaws, one-answer, one-answers}

-- what is known of the rules that statements say
pub record RuleLaws : Type 0 where
  pub one_rules : (ss : List StatementTree) (rs qs : List Rule) → AreRules ss rs → AreRules ss qs → rs ≡ qs
  pub rules_or_fault : (ss : List StatementTree) (rs : List Rule) (at : ℕ) → AreRules ss rs → IsFirstOutside ss at → ⊥
  pub one_outside : (ss : List StatementTree) (a b : ℕ) → IsFirstOutside ss a → IsFirstOutside ss b → a ≡ b
  pub all_rules : (ss : List StatementTree) (rs : List Rule) → AreRules ss rs → All IsRule rs

module _ (reading : OneReading) (rules : RuleLaws) (name : Name) (settings : Option Name) (verbose : Bool) where
  -- told files have one rewriter
  one-rewriter : (f : Name → Option (List ℕ)) (w v : Rewriter) → HasRewriter (Some f) name settings w → HasRewriter (Some f) name settings v → w ≡ v
  one-rewriter f w v a b =
      let ss : a.statements ≡ b.statements = said-one reading f name a.statements b.statements a.says b.says in
      let t : a.settled ≡ b.settled = settled-one reading f settings a.settled b.settled a.settings_are b.settings_are in
      let rs : w.rules ≡ v.rules = rules.one_rules b.statements w.rules v.rules (subst (λ x. AreRules x w.rules) ss a.rules_are) b.rules_are in
      let skipped : w.skipped ≡ v.skipped = a.skipped_are ∙ ap (λ (x : SettingsTree). skipped_by x.transfer_skip w.rules) t ∙ ap (λ x. skipped_by b.settled.transfer_skip x) rs ∙ sym b.skipped_are in
      λ i. record { rules = rs i; skipped = skipped i }

  -- one first fault
  one-fault : (f : Name → Option (List ℕ)) (g h : FileFault) → IsFirstFault name settings verbose (Some f) never g → IsFirstFault name settings verbose (Some f) never h → g.text ≡ h.text
  one-fault f _ _ (unread g d p x) (unread h e q y) = ap (λ (x : FoundFault). (told_of x []).text) (unread-one reading f name settings g h p q)
  one-fault f _ _ (unread g d p x) (out_of_form t ss at e i s o y) = absurd (unread-or-read reading f name settings g t ss p i s)
  one-fault f _ _ (out_of_form t ss at d i s o x) (unread h e q y) = absurd (unread-or-read reading f name settings h t ss q i s)
  one-fault f _ _ (out_of_form t ss a d i s o x) (out_of_form u us b e j r k y) =
      let same : ss ≡ us = said-one reading f name ss us s r in
      ap (form_text name) (rules.one_outside us a b (subst (λ x. IsFirstOutside x a) same o) k)

  -- and never both
  not-both : (f : Name → Option (List ℕ)) (w : Rewriter) (g : FileFault) → HasRewriter (Some f) name settings w → IsFirstFault name settings verbose (Some f) never g → ⊥
  not-both f w _ a (unread g d p x) = unread-or-read reading f name settings g a.settled a.statements p a.settings_are a.says
  not-both f w _ a (out_of_form t ss at d i s o x) =
      let same : a.statements ≡ ss = said-one reading f name a.statements ss a.says s in
      rules.rules_or_fault ss w.rules at (subst (λ x. AreRules x w.rules) same a.rules_are) o

  -- where the shelf counts no fault, the fault is the first
  calm : (files : Files) (fails : Name → Bool) (g : FileFault) → IsFirstFault name settings verbose files fails g → ((file : Name) → g.failed ≡ Some file → ⊥) → IsFirstFault name settings verbose files never g
  calm files fails _ (unread g d p x) none = unread g d (unread-moves files fails never name settings g (λ e. none g.file (shelf_told g.why g.file e)) p) x
  calm files fails _ (out_of_form t ss at d i s o x) none = out_of_form t ss at d (settled-moves files fails never settings t i) (said-moves files fails never name ss s) o x

pub transfer-laws : OneReading → RuleLaws → TextLaws → ResultLaws → (name : List ℕ) (settings : Option (List ℕ)) (verbose : Bool) → Lawful (transfer_meaning name settings verbose)
transfer-laws reading rules texts results name settings verbose = record {
  loads = λ files lines pieces refused r. (r.0, r.1);
  gaps_load = λ files lines pieces wanting r. (r.0, r.1);
  no_gap = λ files lines pieces r. (let a = no-gap (IsAnswer r.0) 1 lines pieces r.2 in (a.0, (r.0, r.1, a.1)));
  one_first = λ files f g a b. one-fault reading rules name settings verbose files f g a b;
  not_both = λ files f l a. not-both reading rules name settings verbose files l.0 f l.1 a;
  one_report = λ files lines pieces others refused may p q. (
      let same : p.0 ≡ q.0 = one-rewriter reading rules name settings verbose files p.0 q.0 p.1 q.1 in
      let is : All IsRule q.0.rules = rules.all_rules q.1.statements q.0.rules q.1.rules_are in
      one-answers (IsAnswer q.0) (one-answer texts results q.0 is) 1 lines pieces others refused may
      (subst (λ w. AreAnswers (IsAnswer w) 1 lines pieces refused) same p.2) q.2);
  one_notes = λ files lines text other p q. p ∙ sym q;
  calm = λ h f x none. calm reading rules name settings verbose h.files (has_failed h) f x.0 (λ file e. none (x.1 file e).0);
}
