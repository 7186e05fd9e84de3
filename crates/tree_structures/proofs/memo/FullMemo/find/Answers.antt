use Rattle.std.proofs.Common.{rules, ◌<◌, length}
use Rattle.tree_structures.proofs.Asking.{item_at}
use Rattle.tree_structures.proofs.memo.FullMemo.find.Goals as goal

pub returns-then-is : goal.returns-then-is
returns-then-is c =
    let low : c.in-Some.place < length c.args.self.now.known.items = search rules in
    (c.index.result.now, item_at c.args.self.now.known.items c.in-Some.place c.index.result.now low c.index.ensures, c.is.ensures c.if-is.true)
