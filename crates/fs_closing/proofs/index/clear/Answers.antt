use Rattle.std.proofs.Common.{◌<◌, length, sym, subst, arith}
use Rattle.std.proofs.lemmas.List.{get_or-set_same, length-set}
use Rattle.fs_closing.specs.Inner.Indexes.{IsIndex}
use Rattle.fs_closing.proofs.index.clear.Goals as goal

pub returns : goal.returns
returns c = λ cells later have d some.
    let indexes = c.args.indexes.now.items in
    let within : 0 < length c.args.indexes.now.items = omega (arith, some, length-set indexes 0 c.clear.new.self) in
    subst (IsIndex later) (sym (get_or-set_same indexes 0 c.clear.new.self d within))
    (c.clear.ensures cells later (subst (IsIndex cells) (sym c.index_mut.ensures.value) (have c.index_mut.result.now within)))
