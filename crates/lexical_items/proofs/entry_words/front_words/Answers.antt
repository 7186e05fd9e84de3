use Rattle.std.proofs.Common.{◌-◌, ◌++◌, [], ◌∷◌, length, map, take, string_bytes, sym, ap, ◌∙◌, subst, arith}
use Rattle.std.proofs.lemmas.List.{map-append}
use Rattle.lexicon.specs.Words.{Has}
use Rattle.lexical_items.proofs.Chains.{some_words, last_at}
use Rattle.lexical_items.proofs.entry_words.front_words.Goals as goal

pub overflow_sub-last : goal.overflow_sub-last
overflow_sub-last c = let some = some_words string_bytes c.args.lexicon.now c.requires.have c.args.entry c.words-words.result.now c.words-words.ensures in omega (arith, some)

pub returns : goal.returns
returns c =
    let words = c.words-words.result.now in
    let some = some_words string_bytes c.args.lexicon.now c.requires.have c.args.entry words c.words-words.ensures in
    let r = last_at words (length words - 1) (omega (arith, some)) in (
      string_bytes r.0,
      subst (λ ws. Has (record { number = c.args.entry; words = ws }) c.args.lexicon.now)
          (ap (map string_bytes) r.1 ∙ map-append string_bytes (take (length words - 1) words) (r.0 ∷ []) ∙ ap (λ l. l ++ string_bytes r.0 ∷ []) (sym c.in_ok-front.ensures)) c.words-words.ensures,
    )
