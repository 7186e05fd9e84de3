use Rattle.std.proofs.Common.{◌≡◌, drop}
use denote.Text.{Utf8}
use denote.Shadow.{shadow}
use Rattle.std.specs.Str.{chars}
use Rattle.tdl_reader.specs.GroupScan.{after_word}
use Rattle.tdl_reader.proofs.groups.after_word.Given as goal

abbrev pub invariant-loop-w : goal.invariant-loop-w
invariant-loop-w l = record { text : shadow (Utf8 l.rest); same : after_word (drop l.w-index l.word) (chars l.rest) ≡ after_word l.word (chars l.text) }
