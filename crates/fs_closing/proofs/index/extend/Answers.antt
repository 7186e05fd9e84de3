use Rattle.std.proofs.Common.{◌<◌, ◌∷◌, ◌++◌, [], length, sym, subst, arith}
use Rattle.std.proofs.lemmas.List.{get_or-set_same, length-set}
use Rattle.fs_closing.specs.Inner.Indexes.{IsIndex}
use Rattle.fs_closing.proofs.IndexLemmas.{index_pushed}
use Rattle.fs_closing.proofs.index.extend.Goals as goal

pub returns-in_err-make : goal.returns-in_err-make
returns-in_err-make c = λ cells next place have. index_pushed cells c.args.cell _ (c.make.ensures.index cells have)

pub returns-in_err-extend_in : goal.returns-in_err-extend_in
returns-in_err-extend_in c = λ cells next place have d some.
    let indexes = c.make.new.indexes.items in
    let within : 0 < length c.make.new.indexes.items = omega (arith, some, length-set indexes 0 c.extend_in.new.index) in
    subst (IsIndex (cells ++ c.args.cell ∷ [])) (sym (get_or-set_same indexes 0 c.extend_in.new.index d within))
    (c.extend_in.ensures cells next place (subst (IsIndex cells) (sym c.index_mut.ensures.value) (c.make.ensures.index cells have c.index_mut.result.now within)))

pub returns : goal.returns
returns c = λ cells next place have d some.
    let indexes = c.make.new.indexes.items in
    let within : 0 < length c.make.new.indexes.items = omega (arith, some, length-set indexes 0 c.extend_in.new.index) in
    subst (IsIndex (cells ++ c.args.cell ∷ [])) (sym (get_or-set_same indexes 0 c.extend_in.new.index d within))
    (c.extend_in.ensures cells next place (subst (IsIndex cells) (sym c.index_mut.ensures.value) (c.make.ensures.index cells have c.index_mut.result.now within)))
