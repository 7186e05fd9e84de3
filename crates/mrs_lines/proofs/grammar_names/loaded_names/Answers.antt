use Rattle.mrs_lines.proofs.Paths.{loaded_paths_are, loaded_feats_are}
use Rattle.mrs_lines.proofs.Instances.{loaded_names_are, loaded_apart}
use Rattle.mrs_lines.proofs.grammar_names.loaded_names.Goals as goal

pub returns : goal.returns
returns c = λ files fails top settings g h.
    record {
      are = loaded_paths_are files fails top settings g h;
      feats = loaded_feats_are files fails top settings g h;
      names = loaded_names_are files fails top settings g h;
      apart = loaded_apart files fails top settings g h;
    }
