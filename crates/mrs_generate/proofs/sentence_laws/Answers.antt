use Rattle.mrs_generate.proofs.One.{sentence_answers_are_one}
use Rattle.mrs_generate.proofs.sentence_laws.Goals as goal

pub returns : goal.returns
returns c = sentence_answers_are_one c.generate_laws.ensures.one
