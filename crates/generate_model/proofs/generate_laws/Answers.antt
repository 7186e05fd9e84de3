use Rattle.generate_model.proofs.CoverProofs.{counts_are_covers}
use Rattle.generate_model.proofs.Contributed.{inputs_are_told}
use Rattle.generate_model.proofs.Embedded.{daughters_embed}
use Rattle.generate_model.proofs.Roots.{roots_fall}
use Rattle.generate_model.proofs.Told.{inputs_are_items, leaves_are_counted, found_is_gen_answer, gen_answers_are_one, hopeless_fall}
use Rattle.generate_model.proofs.generate_laws.Goals as goal

pub returns : goal.returns
returns c = record {
  covers = counts_are_covers;
  leaves = leaves_are_counted;
  told = inputs_are_told;
  wanted = inputs_are_items;
  found = found_is_gen_answer;
  one = gen_answers_are_one;
  stay = daughters_embed;
  dropped = hopeless_fall;
  roots = roots_fall;
}
