use Rattle.std.proofs.Common.{◌∙◌, ℕ, Vec, Global, sym, ap, subst, arith}
use Rattle.std.specs.Prelude.{All}
use Rattle.derivation.specs.declared.Tree.{Tree}
use Rattle.derivation.specs.Views.{derivation_of}
use Rattle.book_signs.specs.Trees.{signs_of}
use Rattle.tree_structures.specs.Formed.{IsFormed, IsLexicalRuleAt}
use Rattle.tree_structures.specs.Known.{kept}
use Rattle.tree_structures.proofs.Rows.{formed-Lexical}
use Rattle.tree_structures.proofs.Walking.{next_formed}
use Rattle.tree_structures.proofs.Steps.{all_count, all_most, all_has, all_full, all_never, next_is, leaf_follows, leaf_never, phrase_follows}
use Rattle.tree_structures.proofs.opened.next_of.Goals as goal

pub mother_number-requires-clause-rule : goal.mother_number-requires-clause-rule
mother_number-requires-clause-rule c =
    let t = c.args.fulls.now in
    all_has (signs_of t) c.laws.ensures.arities c.args.here.now c.requires.formed (kept t c.args.memo.now.known.items) c.requires.begun (omega arith)

pub mother_number-requires-clause-count : goal.mother_number-requires-clause-count
mother_number-requires-clause-count c =
    let t = c.args.fulls.now in
    all_most (signs_of t) c.laws.ensures.arities c.args.here.now c.requires.formed (kept t c.args.memo.now.known.items) c.requires.begun (omega arith)

pub mother_number-requires-clause-known : goal.mother_number-requires-clause-known
mother_number-requires-clause-known c = (c.requires.begun.fulls, c.requires.begun.at)

pub lexical_number-requires-clause-entry : goal.lexical_number-requires-clause-entry
lexical_number-requires-clause-entry c =
    let g = signs_of c.args.fulls.now in
    let here = c.args.here.now in
    let a = c.in-Lexical in
    let item = c.index-here-place.result in
    let next = next_is here item (omega arith) c.index-here-place.is in
    let formed = next_formed g here (derivation_of item) next c.requires.formed in
    (formed-Lexical g a.entry a.rules a.words a.nodes (subst (λ (d : Tree). IsFormed g (derivation_of d)) (c.index-here-place.is ∙ a.is) formed)).0

pub lexical_number-requires-clause-rules : goal.lexical_number-requires-clause-rules
lexical_number-requires-clause-rules c =
    let g = signs_of c.args.fulls.now in
    let here = c.args.here.now in
    let a = c.in-Lexical in
    let item = c.index-here-place.result in
    let next = next_is here item (omega arith) c.index-here-place.is in
    let formed = next_formed g here (derivation_of item) next c.requires.formed in
    let read = c.deref-in-Lexical.ensures.value ∙ ap (λ (rs : Vec ℕ Global). rs.items) c.deref.ensures in
    subst (All (IsLexicalRuleAt g)) (sym read) (formed-Lexical g a.entry a.rules a.words a.nodes (subst (λ (d : Tree). IsFormed g (derivation_of d)) (c.index-here-place.is ∙ a.is) formed)).1

pub returns-in-Some-2-clause-follows : goal.returns-in-Some-2-clause-follows
returns-in-Some-2-clause-follows c =
    let a = c.in-Lexical in
    let here = c.args.here.now in
    let item = c.index-here-place.result in
    let next = next_is here item (omega arith) c.index-here-place.is in
    let read = c.deref-in-Lexical.ensures.value ∙ ap (λ (rs : Vec ℕ Global). rs.items) c.deref.ensures in
    leaf_follows c.args.fulls.now c.lexical_number.new.memo here a.entry a.rules a.words a.nodes item c.deref-in-Lexical.result.now next (c.index-here-place.is ∙ a.is) read c.in-Some-2.number (rw c.in-Some-2.is at c.in_ok-number-in-Lexical.ensures.number)

pub returns-in-None-2-clause-follows : goal.returns-in-None-2-clause-follows
returns-in-None-2-clause-follows c =
    let a = c.in-Lexical in
    let here = c.args.here.now in
    let item = c.index-here-place.result in
    let next = next_is here item (omega arith) c.index-here-place.is in
    let read = c.deref-in-Lexical.ensures.value ∙ ap (λ (rs : Vec ℕ Global). rs.items) c.deref.ensures in
    leaf_never c.args.fulls.now c.lexical_number.new.memo here a.entry a.rules a.words a.nodes item c.deref-in-Lexical.result.now next (c.index-here-place.is ∙ a.is) read (rw c.in-None-2.is at c.in_ok-number-in-Lexical.ensures.number)

pub returns-in-Phrase-clause-follows : goal.returns-in-Phrase-clause-follows
returns-in-Phrase-clause-follows c =
    let a = c.in-Phrase in
    let here = c.args.here.now in
    let item = c.index-here-place.result in
    let next = next_is here item (omega arith) c.index-here-place.is in
    let read = c.deref-in-Phrase-2.ensures.value ∙ ap (λ (ds : Vec Tree Global). ds.items) c.deref-in-Phrase.ensures in
    phrase_follows c.args.fulls.now c.args.memo.now here c.new.result item a.rule a.words a.daughters c.deref-in-Phrase-2.result.now next (c.index-here-place.is ∙ a.is) read c.new.ensures.rule c.new.ensures.daughters c.new.ensures.none

pub returns-in-Some-clause-follows : goal.returns-in-Some-clause-follows
returns-in-Some-clause-follows c =
    let t = c.args.fulls.now in
    let ss = kept t c.args.memo.now.known.items in
    let begun = c.requires.begun in
    let m = (rw c.in-Some.is at c.in_ok-number.ensures.number) begun.fulls begun.at in
    (all_count (signs_of t) c.laws.ensures.arities c.args.here.now c.requires.formed ss begun (omega arith), (m.0, m.1, all_full (signs_of t) c.laws.ensures.arities c.args.here.now c.requires.formed ss begun (omega arith) m.0 m.2))

pub returns-in-None-clause-follows : goal.returns-in-None-clause-follows
returns-in-None-clause-follows c =
    let t = c.args.fulls.now in
    let begun = c.requires.begun in
    all_never (signs_of t) c.laws.ensures.arities c.args.here.now c.requires.formed (kept t c.args.memo.now.known.items) begun (omega arith) c.laws.ensures.order ((rw c.in-None.is at c.in_ok-number.ensures.number) begun.fulls begun.at)
