use Rattle.fs_model.specs.Sources.{Told}
use Rattle.fs_model.proofs.ClosureLemmas.{closure_grows, consistency_falls}
use Rattle.fs_model.proofs.ListedLemmas.{forms_agree}
use Rattle.fs_model.proofs.AnswerLemmas.{answer_is_one}
use Rattle.fs_model.proofs.closure_laws.Goals as goal

pub returns : goal.returns
returns c =
    record {
      grows = λ s less more k. closure_grows s (Told less) (Told more) k;
      falls = λ s less more k. consistency_falls s (Told less) (Told more) k;
      lists = λ s o bare w written source. forms_agree s o bare w written (Told source);
      one = answer_is_one;
    }
