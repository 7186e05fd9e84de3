use Rattle.std.proofs.Common.{◌∙◌, ◌+◌, map, take, string_bytes, ap, subst}
use Rattle.lexicon.specs.Words.{Has, put}
use Rattle.morph_analysis.proofs.Lists.{map_take_next, all_taken}
use Rattle.lexical_items.specs.Inner.Routes.{Puts}
use Rattle.lexical_items.proofs.Words.{puts_start, puts_next}
use Rattle.lexical_items.proofs.forms.put_all.Goals as goal

pub loop-word-init : goal.loop-word-init
loop-word-init c = puts_start (λ x. ⊥) (map string_bytes c.args.list.now.items) (λ x h. h)

pub loop-word-preserved : goal.loop-word-preserved
loop-word-preserved c =
    let words = c.args.words.now in
    let i = c.loop-word.word-index in
    puts_next (map string_bytes (take i words)) (map string_bytes (take (i + 1) words)) (string_bytes c.word-item.result) (map string_bytes c.args.list.now.items) (map string_bytes c.loop-word.list.items) (map string_bytes c.put.new.list.items)
    (map_take_next string_bytes words i c.word-item.result c.loop-word-test.true c.word-item.is) c.loop-word.invariant
    (c.in_ok-put.ensures ∙ ap (λ w. put w (map string_bytes c.loop-word.list.items)) c.in_ok-clone.ensures.cases)

pub returns : goal.returns
returns c = subst (λ l. Puts (λ x. Has x (map string_bytes l)) (map string_bytes c.args.list.now.items) (map string_bytes c.loop-word.list.items)) (all_taken c.args.words.now c.loop-word.word-index c.loop-word-test.false) c.loop-word.invariant
