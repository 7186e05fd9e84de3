use Rattle.std.proofs.Common.{◌≡◌, ◌∙◌, length, map, string_bytes, sym, arith}
use Rattle.tree_faults.proofs.LastWords.{said_yes, said_no}
use Rattle.tree_faults.proofs.said.are_said.Goals as goal

pub returns-then-not-are_same : goal.returns-then-not-are_same
returns-then-not-are_same c =
    let long : length c.args.said.now ≡ length c.args.words.now = grind arith in (
      λ t. absurd (cc),
      λ s. absurd (said_no c.args.words.now c.args.said.now (map string_bytes c.args.ends.now) c.requires.some long (sym c.are_same.ensures ∙ c.if-not-are_same.true) s),
    )

pub returns : goal.returns
returns c =
    let long : length c.args.said.now ≡ length c.args.words.now = grind arith in
    said_yes c.args.words.now c.args.said.now (map string_bytes c.args.ends.now) c.index-said-last.result c.requires.some long c.index-said-last.is c.is_among.result (sym c.are_same.ensures ∙ c.if-not-are_same.false) c.is_among.ensures
