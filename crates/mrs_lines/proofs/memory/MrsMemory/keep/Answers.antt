use Rattle.std.proofs.Common.{sym, subst}
use Rattle.rule_trees.specs.Fulls.{FullTree}
use Rattle.rule_trees.specs.Mothers.{view_in}
use Rattle.mrs_places.specs.Paths.{paths_of}
use Rattle.mrs_lines.specs.Remembered.{MrsSigns, IsLineIn}
use Rattle.mrs_lines.proofs.memory.MrsMemory.keep.Goals as goal

pub keep-requires : goal.keep-requires
keep-requires c =
    let s = c.self.inside.lines in
    let m : MrsSigns = record { signs = s.signs.now; paths = paths_of s.paths.now } in
    let known = subst (λ (m : MrsSigns). IsLineIn m (view_in m.signs c.args.full.now.graph) c.args.line.now) (sym c.self.view_is) c.requires in
    let copied = subst (λ items. IsLineIn m (view_in m.signs c.args.full.now.graph) items) (sym c.in_ok-copy.ensures.items) known in
    subst (λ (f : FullTree). IsLineIn m (view_in m.signs f.graph) c.in_ok-copy.copy.items) (sym c.in_ok-key.ensures) copied
