use Rattle.engine.proofs.lent.Engine.lines.Goals as goal

pub returns-clause-grammar : goal.returns-clause-grammar
returns-clause-grammar c = record { shapes = c.requires.shapes; shared = c.requires.shared; feeds = c.requires.feeds; have = c.laws.ensures.have }
