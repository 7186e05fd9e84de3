-- The commands that write one text.
use Rattle.std.specs.Prelude.{◌≡◌, ℕ, List, [], ◌∷◌, false}
use Rattle.endings.specs.Meanings.{Meaning, gapless, no_notes}

-- a command that writes this text: its report has one line, whatever files and lines are
abbrev pub plain_meaning : List ℕ → Meaning
plain_meaning text = record {
  opens = false;
  reads = false;
  loadable = λ files. Unit {0};
  first = λ files fails fault. ⊥;
  report = λ files lines pieces refused. (pieces ≡ text ∷ []) × (refused ≡ false);
  with_gaps = gapless (λ files lines pieces refused. (pieces ≡ text ∷ []) × (refused ≡ false));
  notes = no_notes;
}
