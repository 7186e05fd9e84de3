use Rattle.std.proofs.Common.{◌∙◌, ◌≤◌, ℕ, Vec, Global, length, sym, ap, subst}
use Rattle.std.specs.Prelude.{All}
use Rattle.derivation.specs.declared.Tree.{Tree}
use Rattle.derivation.specs.Views.{derivation_of}
use Rattle.book_signs.specs.Trees.{signs_of}
use Rattle.tree_structures.specs.Formed.{IsFormed, IsLexicalRuleAt}
use Rattle.tree_structures.proofs.Rows.{formed-Lexical}
use Rattle.tree_faults.proofs.BuildingWalk.{next_formed, phrase_follows}
use Rattle.tree_faults.proofs.NextStep.{item_next, known_made, here_follows, leaf_follows}
use Rattle.tree_faults.proofs.building.next_of.Goals as goal

pub mother_at-requires-clause-made : goal.mother_at-requires-clause-made
mother_at-requires-clause-made c = known_made c.args.signs.now c.args.here.now c.requires.begun

pub returns-in_default : goal.returns-in_default
returns-in_default c =
    let all : length c.args.here.now.daughters.now ≤ c.args.here.now.known.count = c.in_default.ensures.lookup.3 in
    here_follows c.args.signs.now c.args.here.now c.requires.begun c.laws.ensures.order c.requires.formed all c.in_ok-outcome.outcome c.in_ok-outcome.ensures

pub lexical_full-requires-clause-entry : goal.lexical_full-requires-clause-entry
lexical_full-requires-clause-entry c =
    let g = signs_of c.args.signs.now in
    let here = c.args.here.now in
    let item = c.in-Some.daughter.now in
    let next = item_next here item c.in-Some.ensures.lookup.3.0 c.in-Some.ensures.lookup.1 in
    let a = c.in-Lexical in
    let formed = next_formed g here (derivation_of item) next c.requires.formed in
    (formed-Lexical g a.entry a.rules a.words a.nodes (subst (λ (d : Tree). IsFormed g (derivation_of d)) a.is formed)).0

pub lexical_full-requires-clause-rules : goal.lexical_full-requires-clause-rules
lexical_full-requires-clause-rules c =
    let g = signs_of c.args.signs.now in
    let here = c.args.here.now in
    let item = c.in-Some.daughter.now in
    let next = item_next here item c.in-Some.ensures.lookup.3.0 c.in-Some.ensures.lookup.1 in
    let a = c.in-Lexical in
    let formed = next_formed g here (derivation_of item) next c.requires.formed in
    let read = c.deref-in-Lexical.ensures.value ∙ ap (λ (rs : Vec ℕ Global). rs.items) c.deref.ensures in
    subst (All (IsLexicalRuleAt g)) (sym read) (formed-Lexical g a.entry a.rules a.words a.nodes (subst (λ (d : Tree). IsFormed g (derivation_of d)) a.is formed)).1

pub returns-in_ok-outcome-in-Lexical : goal.returns-in_ok-outcome-in-Lexical
returns-in_ok-outcome-in-Lexical c =
    let here = c.args.here.now in
    let item = c.in-Some.daughter.now in
    let next = item_next here item c.in-Some.ensures.lookup.3.0 c.in-Some.ensures.lookup.1 in
    let a = c.in-Lexical in
    let read = c.deref-in-Lexical.ensures.value ∙ ap (λ (rs : Vec ℕ Global). rs.items) c.deref.ensures in
    leaf_follows c.args.signs.now here c.requires.begun a.entry a.rules a.words a.nodes item c.deref-in-Lexical.result.now next a.is read c.in_ok-outcome-in-Lexical.outcome c.in_ok-outcome-in-Lexical.ensures

pub returns-in-Phrase : goal.returns-in-Phrase
returns-in-Phrase c =
    let here = c.args.here.now in
    let item = c.in-Some.daughter.now in
    let next = item_next here item c.in-Some.ensures.lookup.3.0 c.in-Some.ensures.lookup.1 in
    let a = c.in-Phrase in
    let read = c.deref-in-Phrase-2.ensures.value ∙ ap (λ (ds : Vec Tree Global). ds.items) c.deref-in-Phrase.ensures in
    let n = c.new.ensures in
    phrase_follows c.args.signs.now here c.new.result item a.rule a.words a.daughters c.deref-in-Phrase-2.result.now next a.is read n.rule n.daughters n.parts n.none n.nothing
