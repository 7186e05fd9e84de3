use Rattle.std.proofs.Common.{◌∙◌, map, string_bytes, refl, sym, ap}
use Rattle.lexicon.specs.Groups.{group_of, found}
use Rattle.lexicon.specs.Entries.{last_word, with_words}
use Rattle.lexicon.specs.Words.{noted}
use Rattle.lexicon.proofs.lexicon.Lexicon.by_words.Goals as goal

pub returns-in-None : goal.returns-in-None
returns-in-None c =
    let ws = map string_bytes c.args.words.now in
    let all = (c.self.invariant (last_word (map string_bytes c.args.words.now))).all (map string_bytes c.args.words.now) refl in
    let mine = ap (λ l. found (map group_of l) ws) (c.noted-groups.ensures ∙ ap (noted c.self.inside.index.entries) c.last_of.ensures) in
    sym (ap (λ l. with_words l ws) (sym c.self.view_is) ∙ sym all ∙ sym mine ∙ (c.in-None.ensures 0).0)
