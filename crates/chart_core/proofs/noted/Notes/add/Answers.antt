use Rattle.std.proofs.Common.{◌≡◌, ◌++◌, ◌∷◌, [], Some, None, cond, is_some, is_eq, sym, ap, subst}
use Rattle.std.specs.BTreeMap as tree
use Rattle.chart_core.specs.Noted.{Key, compare}
use Rattle.chart_core.proofs.Keyed.{adds_at}
use Rattle.chart_core.proofs.noted.Notes.add.Goals as goal

pub returns-in-Some : goal.returns-in-Some
returns-in-Some c =
    let found = sym c.in-Some.ensures.value in
    adds_at c.args.self.now _ c.args.size c.args.level (Some c.in-Some.list.now) (Some c.push_back.new.self) found
    ((c.get_mut.follows.holds c.push_back.new.self).3 (ap is_some found)).0 c.args.task c.in_ok-push_back.ensures.items

pub returns-in-Ok : goal.returns-in-Ok
returns-in-Ok c =
    let list = c.push_back-2.new.self in
    adds_at c.args.self.now _ c.args.size c.args.level None (Some list) (sym c.in_default.ensures.value)
    (subst (λ m. (q : Key) → tree.get compare c.insert.new.self q ≡ cond (is_eq (compare (c.args.size, c.args.level) q)) (Some list) (tree.get compare m q)) c.get_mut.follows.holds-at-none c.in-Ok.ensures.updates.0)
    c.args.task (subst (λ l. list.items ≡ l ++ c.args.task ∷ []) c.new-list.ensures.items c.in_ok-push_back-2.ensures.items)
