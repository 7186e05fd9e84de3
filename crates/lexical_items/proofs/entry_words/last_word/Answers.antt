use Rattle.std.proofs.Common.{map, take, string_bytes, subst, arith}
use Rattle.lexicon.specs.Words.{Has}
use Rattle.lexical_items.proofs.Chains.{some_words, last_word}
use Rattle.lexical_items.proofs.entry_words.last_word.Goals as goal

pub overflow_sub-last : goal.overflow_sub-last
overflow_sub-last c = let some = some_words string_bytes c.args.lexicon.now c.requires.have c.args.entry c.words-words.result.now c.words-words.ensures in omega (arith, some)

pub bounds-words-last : goal.bounds-words-last
bounds-words-last c = let some = some_words string_bytes c.args.lexicon.now c.requires.have c.args.entry c.words-words.result.now c.words-words.ensures in grind (arith, some)

pub returns : goal.returns
returns c =
    let words = c.words-words.result.now in
    let some = some_words string_bytes c.args.lexicon.now c.requires.have c.args.entry words c.words-words.ensures in (
      map string_bytes (take _ words),
      subst (λ (ws : _). Has (record { number = c.args.entry; words = ws }) c.args.lexicon.now) (last_word string_bytes words _ c.index-words-last.result (grind (arith, some)) c.index-words-last.is) c.words-words.ensures,
    )
