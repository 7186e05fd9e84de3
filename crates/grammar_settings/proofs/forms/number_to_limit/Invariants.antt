use Rattle.std.proofs.Common.{◌≡◌, ◌≤◌, ◌+◌, fold, min, drop, true}
use Rattle.std.specs.List.{list_all}
use Rattle.std.specs.Char.{is_ascii_digit}
use Rattle.grammar_settings.specs.Forms.{with_digit, value_of_digits}
use Rattle.grammar_settings.proofs.forms.number_to_limit.Given as goal

abbrev pub invariant-loop-c : goal.invariant-loop-c
invariant-loop-c l = record {
  are_digits : list_all is_ascii_digit (drop l.c-index l.digits) ≡ true;
  room : l.number ≤ l.fn.most + 1;
  same : min (fold with_digit l.number (drop l.c-index l.digits)) (l.fn.most + 1) ≡ min (value_of_digits l.digits) (l.fn.most + 1);
}
