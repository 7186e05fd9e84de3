use Rattle.std.proofs.Common.{rules, ℕ, ◌≡◌, ◌∙◌, All, Vec, Global, String, sym, ap, subst}
use Rattle.std.specs.Prelude.{IfOk, MatchOption, None}
use Rattle.chart_model.specs.At.{At}
use Rattle.derivation.specs.declared.Tree.{Tree}
use Rattle.tree_model.specs.Trees.{LeavesAre}
use Rattle.tree_faults.specs.Spelled.{AreSpelled, IsFirstMisspelled}
use Rattle.tree_faults.specs.WordBooks.{IsNumbered, said_by}
use Rattle.tree_faults.proofs.Items.{leaf_has, leaf_spelled, leaf_misspelled, within_new, phrase_is}
use Rattle.tree_faults.proofs.misspelled.first_misspelled.Goals as goal

pub leaf_fault-requires-clause-rules : goal.leaf_fault-requires-clause-rules
leaf_fault-requires-clause-rules c =
    let a = c.in-Lexical in
    let read = c.deref-in-Lexical.ensures.value ∙ ap (λ (rs : Vec ℕ Global). rs.items) c.deref.ensures in
    subst (All (λ rule. (n : ℕ) × At c.args.book.now.rules.now n rule)) (sym read) (leaf_has a.entry a.rules a.words a.nodes c.args.tree.now a.is (IsNumbered c.args.book.now) c.requires.numbered).1

pub returns-in_default : goal.returns-in_default
returns-in_default c =
    let a = c.in-Lexical in
    let read = c.deref-in-Lexical.ensures.value ∙ ap (λ (rs : Vec ℕ Global). rs.items) c.deref.ensures in
    let heard = c.deref-in-Lexical-3.ensures.value ∙ ap (λ (ws : Vec (String Global) Global). ws.items) c.deref-in-Lexical-2.ensures in
    let none : c.in_ok-fault-in-Lexical.field-0 ≡ None = search rules in
    leaf_spelled a.entry a.rules a.words a.nodes c.args.tree.now a.is (said_by c.args.book.now) c.deref-in-Lexical.result.now c.deref-in-Lexical-3.result.now read heard (rw none at c.in_ok-fault-in-Lexical.ensures)

pub returns-in_ok-go_within-in-Lexical : goal.returns-in_ok-go_within-in-Lexical
returns-in_ok-go_within-in-Lexical c =
    let a = c.in-Lexical in
    let read = c.deref-in-Lexical.ensures.value ∙ ap (λ (rs : Vec ℕ Global). rs.items) c.deref.ensures in
    let heard = c.deref-in-Lexical-3.ensures.value ∙ ap (λ (ws : Vec (String Global) Global). ws.items) c.deref-in-Lexical-2.ensures in
    leaf_misspelled a.entry a.rules a.words a.nodes c.args.tree.now a.is (said_by c.args.book.now) c.deref-in-Lexical.result.now c.deref-in-Lexical-3.result.now read heard
    c.go_within.new.place.items c.in-Some.fault.depth c.in-Some.fault.instance (within_new c.new-place.result.items c.go_within.new.place.items c.in-Some.fault.depth c.new-place.ensures.items c.in_ok-go_within-in-Lexical.ensures)
    (rw c.in-Some.is at c.in_ok-fault-in-Lexical.ensures)

pub misspelled_below-requires-clause-numbered : goal.misspelled_below-requires-clause-numbered
misspelled_below-requires-clause-numbered c =
    let a = c.in-Phrase in
    let read = c.deref-in-Phrase-2.ensures.value ∙ ap (λ (ds : Vec Tree Global). ds.items) c.deref-in-Phrase.ensures in
    subst (LeavesAre (IsNumbered c.args.book.now)) (phrase_is a.rule a.words a.daughters c.args.tree.now c.deref-in-Phrase-2.result.now a.is read) c.requires.numbered

pub returns-in-Phrase : goal.returns-in-Phrase
returns-in-Phrase c =
    let a = c.in-Phrase in
    let words = said_by c.args.book.now in
    let read = c.deref-in-Phrase-2.ensures.value ∙ ap (λ (ds : Vec Tree Global). ds.items) c.deref-in-Phrase.ensures in
    subst (λ t. IfOk c.misspelled_below.result (λ o. MatchOption o (AreSpelled words t) (λ m. IsFirstMisspelled words t m.place.items m.instance)))
    (sym (phrase_is a.rule a.words a.daughters c.args.tree.now c.deref-in-Phrase-2.result.now a.is read)) c.misspelled_below.ensures
