use Rattle.std.proofs.Common.{◌∙◌, ◌-◌, ◌++◌, ◌∷◌, [], length, map, string_bytes, ap, arith}
use Rattle.tree_faults.specs.WordBooks.{said_by}
use Rattle.tree_faults.proofs.Ends.{first_of}
use Rattle.tree_faults.proofs.endings.first_ends.Goals as goal

pub returns-clause-ends : goal.returns-clause-ends
returns-clause-ends c =
    let words = c.words_of-words.result.now in
    let some = c.words_of-words.ensures.some in
    first_of (said_by c.args.book.now) c.args.entry string_bytes words (length words - 1) c.index-words-last.result (map string_bytes c.push.new.self.items) (omega (arith, some)) c.index-words-last.is c.words_of-words.ensures.words
    (ap (map string_bytes) (c.in_ok-push.ensures.items ∙ ap (λ l. l ++ c.in_ok-clone.field-0 ∷ []) c.new-ends.ensures.items) ∙ ap (λ w. w ∷ []) c.in_ok-clone.ensures.cases)
