use Rattle.mrs_text.proofs.laws.text_means_mrs.Goals as goal

pub returns : goal.returns
returns c = c.written.ensures.says _ c.requires c.stored.ensures
