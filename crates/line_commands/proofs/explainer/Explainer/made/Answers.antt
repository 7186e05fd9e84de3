use Rattle.line_commands.proofs.explainer.Explainer.made.Goals as goal

pub returns : goal.returns
returns c = record { engine = c.requires.ready; names = c.requires.names }
