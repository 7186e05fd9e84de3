use Rattle.std.proofs.Common.{◌+◌, [], map, take, string_bytes, refl, subst}
use Rattle.morph_analysis.proofs.Lists.{map_take_next, all_taken}
use Rattle.lexical_items.specs.Inner.Routes.{Puts, OfWords}
use Rattle.lexical_items.proofs.Words.{puts_stem, forms_whole}
use Rattle.lexical_items.proofs.forms.forms_of.Goals as goal

pub loop-word-preserved : goal.loop-word-preserved
loop-word-preserved c =
    let words = c.args.words.now in
    let i = c.loop-word.word-index in
    puts_stem c.args.spelling.now c.args.rule (map string_bytes (take i words)) (map string_bytes (take (i + 1) words)) (string_bytes c.word-item.result) [] (map string_bytes c.loop-word.list.items) (map string_bytes c.put_forms.new.list.items)
    (map_take_next string_bytes words i c.word-item.result c.loop-word-test.true c.word-item.is) c.loop-word.invariant c.in_ok-put_forms.ensures

pub returns : goal.returns
returns c =
    forms_whole c.args.spelling.now c.args.rule (map string_bytes c.args.words.now) [] (map string_bytes c.loop-word.list.items) refl
    (subst (λ l. Puts (OfWords c.args.spelling.now c.args.rule (map string_bytes l)) [] (map string_bytes c.loop-word.list.items)) (all_taken c.args.words.now c.loop-word.word-index c.loop-word-test.false) c.loop-word.invariant)
