use Rattle.std.proofs.Common.{◌≡◌, ◌∙◌, false, sym}
use Rattle.std.proofs.lemmas.List.Elements.{All-more}
use Rattle.tree_reading.specs.Grammars.{ends_name}
use Rattle.tree_reading.proofs.bytes.name_len.Goals as goal

pub loop-k-preserved : goal.loop-k-preserved
loop-k-preserved c =
    All-more (λ byte. ends_name byte ≡ false) c.args.bytes.now c.loop-k.k 0 c.loop-k-test.true c.loop-k.invariant (sym c.ends_name.ensures ∙ c.if-ends_name.false)
