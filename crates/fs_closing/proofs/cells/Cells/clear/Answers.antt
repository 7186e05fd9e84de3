use Rattle.fs_closing.proofs.cells.Cells.clear.Goals as goal

pub invariant_of-self : goal.invariant_of-self
invariant_of-self c = c.clear-2.ensures c.self.inside.cells.items c.clear.new.self.items c.self.invariant
