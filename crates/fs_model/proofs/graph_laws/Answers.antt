use Rattle.fs_model.proofs.NumberingLemmas.{numbers_are_one}
use Rattle.fs_model.proofs.SubsumeLemmas.{Subsumes-from_matching}
use Rattle.fs_model.proofs.graph_laws.Goals as goal

pub returns : goal.returns
returns c =
    record {
      numbers = numbers_are_one;
      matching = λ s t u a b to nt nu m. Subsumes-from_matching s t u nt.table nt.filled nt.live_is nu.live_is to m;
    }
