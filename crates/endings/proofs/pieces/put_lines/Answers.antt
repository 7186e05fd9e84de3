use Rattle.std.proofs.Common.{arith, ◌+◌, ◌++◌, sym, subst, ◌≡◌, take, map, ℕ, add-one, Vec, Global}
use Rattle.std.proofs.lemmas.Result.{err_from_is_err_and}
use Rattle.std.specs.List.{concat}
use Rattle.lkb_io.specs.Outside.{Adds, AddsFront}
use Rattle.lkb_io.proofs.Told.{Adds-more}
use Rattle.endings.proofs.PieceLemmas.{concat-more, AddsFront-at}
use Rattle.endings.proofs.pieces.put_lines.Goals as goal

pub returns-in_err-put_all : goal.returns-in_err-put_all
returns-in_err-put_all g c =
    let w = g.O.Sink.written in
    let front = subst (AddsFront (w c.loop-line.out) (w c.put_all.new.sink)) c.deref.ensures.value c.in_err-put_all.ensures.front in
    let all = AddsFront-at (λ (v : Vec ℕ Global). v.items) c.args.lines.now c.loop-line.line-index c.line-item.result (w c.args.out.now) (w c.loop-line.out) (w c.put_all.new.sink) (omega arith) (sym c.line-item.is) c.loop-line.invariant.added front in
    let a = c.loop-line.invariant.no_fall in
    let b = c.in_err-put_all.ensures.no_fall in
    let risen = c.in_err-put_all.ensures.failed in
    let p = err_from_is_err_and c.from_residual.result c.from_residual.ensures.1 in
    rw p.1 (all, omega (arith, a, b), omega (arith, risen, a))

pub loop-line-preserved : goal.loop-line-preserved
loop-line-preserved g c =
    let w = g.O.Sink.written in
    let ok = subst (Adds (w c.loop-line.out) (w c.put_all.new.sink)) c.deref.ensures.value c.in_ok-put_all.ensures.ok in
    let more = Adds-more (w c.args.out.now) (w c.loop-line.out) (w c.put_all.new.sink) _ _ c.loop-line.invariant.added ok in
    let i = c.loop-line.line-index in
    let e : concat (take (i + 1) (map (λ (v : Vec ℕ Global). v.items) c.args.lines.now)) ≡ concat (take i (map (λ (v : Vec ℕ Global). v.items) c.args.lines.now)) ++ c.line-item.result.items =
    rw (add-one i) (concat-more (λ (v : Vec ℕ Global). v.items) c.args.lines.now i c.line-item.result (omega arith) (sym c.line-item.is)) in
    let a = c.loop-line.invariant.no_fall in
    let b = c.in_ok-put_all.ensures.no_fall in
    record { added = subst (Adds (w c.args.out.now) (w c.put_all.new.sink)) (sym e) more; no_fall = omega (arith, a, b) }
