use Rattle.std.proofs.Common.{◌≡◌, ◌∙◌, sym, ap, rules, arith, map, drop, string_bytes, add-one, String, Global, true, false, ◌&&◌, suc}
use Rattle.std.specs.List.{list_all}
use Rattle.command_line.specs.Inner.Reading.{is_word}
use Rattle.command_line.proofs.Choosing.{words-at}
use Rattle.command_line.proofs.words.are_words.Goals as goal

pub returns-then-not-is_word : goal.returns-then-not-is_word
returns-then-not-is_word c =
    let f = λ (w : String Global). string_bytes w in
    let i = c.loop-word.word-index in
    let no : is_word (f c.word-item.result) ≡ false = search rules in
    sym (c.loop-word.invariant ∙ words-at f c.args.words.now i c.word-item.result (omega arith) (sym c.word-item.is) ∙ ap (λ t. t && list_all is_word (drop (suc i) (map f c.args.words.now))) no)

pub loop-word-preserved : goal.loop-word-preserved
loop-word-preserved c =
    let f = λ (w : String Global). string_bytes w in
    let i = c.loop-word.word-index in
    let yes : is_word (f c.word-item.result) ≡ true = search rules in
    rw (add-one c.loop-word.word-index) (c.loop-word.invariant ∙ words-at f c.args.words.now i c.word-item.result (omega arith) (sym c.word-item.is) ∙ ap (λ t. t && list_all is_word (drop (suc i) (map f c.args.words.now))) yes)
