use Rattle.std.proofs.Common.{ℕ, ◌∙◌, Vec, Global, map, sym, ap, subst}
use Rattle.std.specs.Prelude.{IfOk}
use Rattle.derivation.specs.declared.Tree.{Tree}
use Rattle.derivation.specs.Trees.{phrase}
use Rattle.derivation.specs.Views.{derivation_of, in_order}
use Rattle.derivation.proofs.Rows.{derivation_of-Phrase}
use Rattle.tree_model.specs.Lexical.{FullLexical}
use Rattle.tree_model.specs.Trees.{Full}
use Rattle.book_signs.specs.Trees.{signs_of}
use Rattle.tree_structures.specs.Formed.{IsFormed}
use Rattle.tree_structures.specs.Inner.Stays.{IsNumbered}
use Rattle.tree_structures.proofs.Rows.{lexical_is, lexical_never}
use Rattle.tree_structures.proofs.Steps.{numbered_map, right_of}
use Rattle.tree_structures.proofs.fulls.number_of.Goals as goal

pub returns-in-Lexical-clause-right : goal.returns-in-Lexical-clause-right
returns-in-Lexical-clause-right c = right_of c.args.fulls.now c.args.memo.now c.lexical_number.new.memo c.lexical_number.result c.lexical_number.ensures.stays

pub returns-in-Lexical-clause-number : goal.returns-in-Lexical-clause-number
returns-in-Lexical-clause-number c =
    let t = c.args.fulls.now in
    let g = signs_of t in
    let a = c.in-Lexical in
    let read = c.deref-in-Lexical.ensures.value ∙ ap (λ (rs : Vec ℕ Global). rs.items) c.deref.ensures in
    numbered_map t c.lexical_number.new.memo (FullLexical g a.entry c.deref-in-Lexical.result.now) (Full g (derivation_of c.args.tree.now)) c.lexical_number.result
    (λ never f h. lexical_never g a.entry a.rules a.words a.nodes c.args.tree.now c.deref-in-Lexical.result.now a.is read never f h)
    (λ f h. lexical_is g a.entry a.rules a.words a.nodes c.args.tree.now c.deref-in-Lexical.result.now a.is read f h)
    c.lexical_number.ensures.number

pub phrase_number-requires-clause-formed : goal.phrase_number-requires-clause-formed
phrase_number-requires-clause-formed c =
    let g = signs_of c.args.fulls.now in
    let a = c.in-Phrase in
    let read = c.deref-in-Phrase-2.ensures.value ∙ ap (λ (ds : Vec Tree Global). ds.items) c.deref-in-Phrase.ensures in
    let is = ap derivation_of a.is ∙ derivation_of-Phrase a.rule a.words a.daughters in
    subst (λ ts. IsFormed g (phrase a.rule (in_order (map derivation_of ts)))) (sym read) (subst (IsFormed g) is c.requires.formed)

pub returns-in-Phrase-clause-number : goal.returns-in-Phrase-clause-number
returns-in-Phrase-clause-number c =
    let t = c.args.fulls.now in
    let g = signs_of t in
    let a = c.in-Phrase in
    let read = c.deref-in-Phrase-2.ensures.value ∙ ap (λ (ds : Vec Tree Global). ds.items) c.deref-in-Phrase.ensures in
    let is = ap derivation_of a.is ∙ derivation_of-Phrase a.rule a.words a.daughters ∙ ap (λ ts. phrase a.rule (in_order (map derivation_of ts))) (sym read) in
    subst (λ d. IfOk c.phrase_number.result (IsNumbered t c.phrase_number.new.memo (Full g d))) (sym is) c.phrase_number.ensures.number
