use Rattle.std.proofs.Common.{◌≡◌, length, map, false}
use denote.Text.{Utf8}
use denote.Shadow.{shadow}
use Rattle.std.specs.Str.{chars}
use Rattle.tdl_reader.specs.GroupScan.{run, signs_after}
use Rattle.tdl_reader.specs.Views.{sign_of, set_of}
use Rattle.tdl_reader.proofs.GroupLemmas.{before}
use Rattle.tdl_reader.proofs.groups.signs_of_run.Given as goal

abbrev pub decreases-loop-c : goal.decreases-loop-c
decreases-loop-c l = length l.rest

abbrev pub invariant-loop-c : goal.invariant-loop-c
invariant-loop-c l = record { text : shadow (Utf8 l.rest); same : before (map sign_of l.out.items) (signs_after l.named (map set_of l.sets) (run (chars l.rest))) ≡ signs_after false (map set_of l.sets) (run (chars l.text)) }
