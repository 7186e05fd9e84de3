use Rattle.std.proofs.Common.{◌≡◌, None, sym, ◌∙◌, subst, arith}
use Rattle.fs_closing.specs.Cells.{chain, find_arc}
use Rattle.fs_closing.proofs.ChainLemmas.{look_none}
use Rattle.fs_closing.proofs.cells.Cells.find_among_many.Goals as goal

pub returns-in-From-eq0 : goal.returns-in-From-eq0
returns-in-From-eq0 c =
    let same = c.deref.ensures.value ∙ c.self.view_is in
    let none = look_none c.deref.result.now c.args.feat c.in-From-eq0.field-0 (omega (arith, c.in-From-eq0.field-0-test)) in
    subst (λ l. None ≡ find_arc (chain l c.args.first) c.args.feat) same (sym (c.in-From-eq0.ensures.1 ∙ none))
