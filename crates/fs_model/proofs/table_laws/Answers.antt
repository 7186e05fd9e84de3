use Rattle.fs_model.specs.Sources.{Told}
use Rattle.fs_model.proofs.StepLemmas.{Closes-advance, Closes-drop, Closes-grows}
use Rattle.fs_model.proofs.MoreSteps.{Closes-merges, Closes-lowers}
use Rattle.fs_model.proofs.JoinStep.{Closes-joins}
use Rattle.fs_model.proofs.Ends.{Closes-links, clash, Closes-starts}
use Rattle.fs_model.proofs.AnswerLemmas.{path_clash, walk_clash, cycle_clash, table_is_unified}
use Rattle.fs_model.proofs.PartLemmas.{part_follows}
use Rattle.fs_model.proofs.table_laws.Goals as goal

pub returns : goal.returns
returns c =
    record {
      starts = λ s bare source t st root work into only. Closes-starts s (Told source) t st root bare work into only;
      parts = λ s t work part. part_follows s t work part.reader part.place;
      advances = λ s source. Closes-advance s (Told source);
      drops = λ s source. Closes-drop s (Told source);
      grows = λ s bare source t t' d rest w w' n f h new empty leads range agrees stands old.
          Closes-grows s (Told source) t t' d rest w w' n f h new empty leads range agrees stands bare old;
      links = λ s source. Closes-links s (Told source);
      merges = λ s source. Closes-merges s (Told source);
      lowers = λ s o source. Closes-lowers s o (Told source);
      joins = λ s o source. Closes-joins s o (Told source);
      types = λ s source. clash s (Told source);
      paths = λ s source. path_clash s (Told source);
      walks = λ s o source. walk_clash s o (Told source);
      cycles = λ s o source. cycle_clash s o (Told source);
      unified = λ s o source. table_is_unified s o (Told source);
    }
