use Rattle.std.proofs.Common.{◌∷◌, ◌++◌, ◌%◌, ◌∙◌, ap, decimal}
use Rattle.self_tests.proofs.Joined.{line-of}
use Rattle.self_tests.proofs.lines.line.Goals as goal

pub returns : goal.returns
returns c =
    let place = c.args.place in
    let start = c.in_ok-add_word.ensures ∙ ap (λ t. t ++ 110 ∷ decimal (place % 10)) c.in_ok-line.ensures.items in
    line-of place c.add_word.new.line.items c.add_next.new.line.items c.add_next-2.new.line.items c.add_phrases.new.line.items
    start c.in_ok-add_next.ensures c.in_ok-add_next-2.ensures c.in_ok-add_phrases.ensures
