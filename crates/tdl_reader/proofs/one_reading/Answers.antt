use Rattle.tdl_reader.proofs.Faults.{one_spelled, one_first_fault}
use Rattle.tdl_reader.proofs.one_reading.Goals as goal

pub returns : goal.returns
returns c = record {
  statements = one_spelled;
  faults = one_first_fault;
  not_both = λ ts ss e h k. h.faultless k.front e k.stands;
}
