use Rattle.std.proofs.Common.{Some, is_some, sym, ap}
use Rattle.chart_core.proofs.Keyed.{none_taken, taken_at}
use Rattle.chart_core.proofs.noted.Notes.take.Goals as goal

pub returns-in_err-list : goal.returns-in_err-list
returns-in_err-list c = none_taken c.args.self.now _ c.args.size c.args.level _ c.from_residual.ensures c.get_mut.follows.holds-at-none (sym c.in_err-list.ensures.value) c.requires

pub returns : goal.returns
returns c =
    let list = c.in_ok-list.list.now in
    let found = sym c.in_ok-list.ensures.value in
    taken_at c.args.self.now _ c.args.size c.args.level (Some list) (Some c.pop_front.new.self) found
    ((c.get_mut.follows.holds c.pop_front.new.self).3 (ap is_some found)).0 c.pop_front.result _ _ list.ok.0 c.pop_front.ensures.items c.pop_front.ensures.cases c.requires
