use Rattle.std.proofs.Common.{◌≡◌, ◌<◌, ◌∙◌, length, get_or, ap, sym, subst, arith}
use Rattle.std.proofs.lemmas.List.{length-map, get_or-map}
use Rattle.book_signs.specs.Signed.{kind_of}
use Rattle.book_signs.specs.Inner.Noted.{Notes}
use Rattle.book_signs.specs.Inner.Kept.{kinds_in}
use Rattle.constraint_expand.specs.declared.books.Instance.{Instance}
use Rattle.book_signs.proofs.KindLemmas.{noted_next}
use Rattle.book_signs.proofs.kinds.kinds_of.Goals as goal

pub loop-i-preserved : goal.loop-i-preserved
loop-i-preserved c =
    let xs = c.args.instances.now in
    let i = c.loop-i.i in
    let x = c.index-instances-i.result in
    let within : i < length xs = omega arith in
    let here : kind_of x.status ≡ get_or (kinds_in xs) i (kind_of x.status) = ap (λ (y : Instance). kind_of y.status) c.index-instances-i.is ∙ sym (get_or-map (λ (y : Instance). kind_of y.status) xs i x (kind_of x.status) within) in
    noted_next (kinds_in xs) i (kind_of x.status) c.loop-i.kinds c.note.new.kinds (omega (arith, length-map xs (λ (y : Instance). kind_of y.status))) here
    (subst (λ (y : Instance). Notes i (kind_of y.status) c.loop-i.kinds c.note.new.kinds) (sym c.index-instances-i.is) c.in_ok-note.ensures) c.loop-i.invariant
