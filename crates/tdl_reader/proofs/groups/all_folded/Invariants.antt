use Rattle.std.proofs.Common.{◌≡◌, drop}
use Rattle.tdl_reader.specs.GroupScan.{fold_all}
use Rattle.tdl_reader.proofs.GroupLemmas.{before}
use Rattle.tdl_reader.proofs.groups.all_folded.Given as goal

abbrev pub invariant-loop-c : goal.invariant-loop-c
invariant-loop-c l = before (l.out.items) (fold_all (drop l.c-index l.word)) ≡ fold_all l.word
