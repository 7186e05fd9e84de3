use Rattle.std.proofs.Common.{◌≡◌, map, take}
use Rattle.tdl_reader.specs.Views as written
use Rattle.spelling_rules.specs.Views.{sign_of}
use Rattle.grammar_load.specs.Spellings.{sign_written}
use Rattle.grammar_load.proofs.written.signs_written.Given as goal

abbrev pub invariant-loop-sign : goal.invariant-loop-sign
invariant-loop-sign l = map sign_of l.out.items ≡ map sign_written (map written.sign_of (take l.sign-index l.signs))
