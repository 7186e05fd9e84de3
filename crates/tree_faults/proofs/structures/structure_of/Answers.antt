use Rattle.std.proofs.Common.{ℕ, [], ◌≡◌, replicate, Vec, Global, ap, ◌∙◌, subst, sym}
use Rattle.std.specs.Prelude.{IfOk, None}
use Rattle.derivation.specs.declared.Tree.{Tree}
use Rattle.book_signs.specs.Trees.{signs_of}
use Rattle.tree_structures.specs.Formed.{IsFormed}
use Rattle.tree_faults.specs.Inner.Found.{IsFound}
use Rattle.tree_faults.proofs.Items.{phrase_is}
use Rattle.tree_faults.proofs.Telling.{lexical_formed, lexical_has, lexical_lacks}
use Rattle.tree_faults.proofs.structures.structure_of.Goals as goal

pub lexical_full-requires-clause-entry : goal.lexical_full-requires-clause-entry
lexical_full-requires-clause-entry c =
    let a = c.in-Lexical in
    let read = c.deref-in-Lexical.ensures.value ∙ ap (λ (rs : Vec ℕ Global). rs.items) c.deref.ensures in
    (lexical_formed a.entry a.rules a.words a.nodes c.args.tree.now c.deref-in-Lexical.result.now a.is read c.args.signs.now c.requires.formed).0

pub lexical_full-requires-clause-rules : goal.lexical_full-requires-clause-rules
lexical_full-requires-clause-rules c =
    let a = c.in-Lexical in
    let read = c.deref-in-Lexical.ensures.value ∙ ap (λ (rs : Vec ℕ Global). rs.items) c.deref.ensures in
    (lexical_formed a.entry a.rules a.words a.nodes c.args.tree.now c.deref-in-Lexical.result.now a.is read c.args.signs.now c.requires.formed).1

pub returns-in-Full : goal.returns-in-Full
returns-in-Full c =
    let a = c.in-Lexical in
    let read = c.deref-in-Lexical.ensures.value ∙ ap (λ (rs : Vec ℕ Global). rs.items) c.deref.ensures in
    lexical_has a.entry a.rules a.words a.nodes c.args.tree.now c.deref-in-Lexical.result.now a.is read c.args.signs.now c.in-Full.full (rw c.in-Full.is at c.in_ok-full-in-Lexical.ensures)

pub phrase_found-requires : goal.phrase_found-requires
phrase_found-requires c =
    let a = c.in-Phrase in
    let read = c.deref-in-Phrase-2.ensures.value ∙ ap (λ (ds : Vec Tree Global). ds.items) c.deref-in-Phrase.ensures in
    record { formed = subst (IsFormed (signs_of c.args.signs.now)) (phrase_is a.rule a.words a.daughters c.args.tree.now c.deref-in-Phrase-2.result.now a.is read) c.requires.formed }

pub returns-in-Phrase : goal.returns-in-Phrase
returns-in-Phrase c =
    let a = c.in-Phrase in
    let read = c.deref-in-Phrase-2.ensures.value ∙ ap (λ (ds : Vec Tree Global). ds.items) c.deref-in-Phrase.ensures in
    subst (λ d. IfOk c.phrase_found.result (IsFound c.args.signs.now d)) (sym (phrase_is a.rule a.words a.daughters c.args.tree.now c.deref-in-Phrase-2.result.now a.is read)) c.phrase_found.ensures

pub told-requires : goal.told-requires
told-requires c = ((rw c.in-Lacking.is at c.in_ok-full-in-Lexical.ensures) [] None).refusal.unfit

pub returns-in_ok-place-in-Lacking : goal.returns-in_ok-place-in-Lacking
returns-in_ok-place-in-Lacking c =
    let a = c.in-Lexical in
    let read = c.deref-in-Lexical.ensures.value ∙ ap (λ (rs : Vec ℕ Global). rs.items) c.deref.ensures in
    let place = c.in_ok-place-in-Lacking.place.items in
    let lack = c.in-Lacking.lack in
    let at : place ≡ replicate lack.depth 1 = c.in_ok-place-in-Lacking.ensures in
    lexical_lacks a.entry a.rules a.words a.nodes c.args.tree.now c.deref-in-Lexical.result.now a.is read c.args.signs.now place lack c.told.result (rw c.in-Lacking.is at c.in_ok-full-in-Lexical.ensures) at c.told.ensures
