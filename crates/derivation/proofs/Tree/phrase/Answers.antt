use Rattle.std.proofs.Common.{Vec, Global, subst, sym, ap, ◌∙◌}
use Rattle.derivation.specs.declared.Tree.{Tree}
use Rattle.derivation.specs.Counts.{words_of}
use Rattle.derivation.specs.Counted.{held, AreCounted}
use Rattle.derivation.proofs.Counting.{closed}
use Rattle.derivation.proofs.Tree.phrase.Goals as goal

pub returns-clause-counted : goal.returns-clause-counted
returns-clause-counted c = λ all.
    let read = c.deref.ensures.value in
    let same = ap (λ (ds : Vec Tree Global). ds.items) c.in_ok-daughters.ensures.ok in
    let words = c.count_of_all-words.ensures (subst AreCounted (sym read) all) in
    closed c.args.rule c.count_of_all-words.result c.in_ok-daughters.daughters (subst AreCounted (sym same) all) (words ∙ ap (λ ts. held (words_of ts)) (read ∙ sym same))
