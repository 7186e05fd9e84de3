use Rattle.std.proofs.Common.{◌≡◌, map, drop, string_bytes}
use Rattle.std.specs.List.{list_any}
use Rattle.std.specs.Str.{bytes_eq}
use Rattle.command_line.proofs.word_reading.is_among.Given as goal

abbrev pub invariant-loop-other : goal.invariant-loop-other
invariant-loop-other l = list_any (λ w. bytes_eq w l.word) (map (λ w. string_bytes w) l.before) ≡ list_any (λ w. bytes_eq w l.word) (drop l.other-index (map (λ w. string_bytes w) l.before))
