use Rattle.std.proofs.Common.{◌∙◌, sym, ap, map, string_bytes}
use Rattle.std.specs.List.{insert}
use Rattle.lexicon.specs.Words.{put}
use Rattle.lexicon.proofs.WordLemmas.{map-insert}
use Rattle.lexicon.proofs.rising.put.Goals as goal

pub returns-in_ok-insert-in-Before : goal.returns-in_ok-insert-in-Before
returns-in_ok-insert-in-Before c =
    let w = string_bytes c.args.word in
    let e = ap (map string_bytes) c.deref.ensures.value in
    ap (map string_bytes) c.in_ok-insert-in-Before.ensures.items ∙ map-insert c.args.list.now.items c.in-Before.i c.args.word
    ∙ sym (ap (put w) (sym e) ∙ c.in-Before.ensures.1 ∙ ap (λ l. insert l c.in-Before.i w) e)
