use Rattle.std.proofs.Common.{rules, ◌<◌, ap, sym, ◌∙◌, length}
use Rattle.forest_unpack.proofs.Memos.{known_at}
use Rattle.forest_unpack.proofs.memo.Memo.find.Goals as goal

pub returns-then-same : goal.returns-then-same
returns-then-same g c =
    let value = g.F.Fulls.value c.args.fulls.now in
    let low : c.in-Some.place < length c.args.self.now.known.items = search rules in
    known_at value c.args.self.now.known.items c.in-Some.place c.index.result.now (value c.args.full.now) low c.index.ensures (ap value (sym c.deref.ensures) ∙ c.same.ensures c.if-same.true)
