use Rattle.std.proofs.Common.{List, ℕ, Bor, sym, codes, map, take, length, ◌-◌}
use Rattle.std.specs.Str.{str_to_ascii_lowercase}
use Rattle.mrs_reading.proofs.Agreeing.{last_is}
use Rattle.mrs_reading.proofs.eps.ends_with_label.Goals as goal

pub returns-in-Some-clause-yes : goal.returns-in-Some-clause-yes
returns-in-Some-clause-yes c = λ t. (
  map (λ (r : Bor (List ℕ)). str_to_ascii_lowercase r.now) (take (length c.args.roles.now - 1) c.args.roles.now),
  last_is (λ (r : Bor (List ℕ)). str_to_ascii_lowercase r.now) c.args.roles.now c.in-Some.role.now (codes "lbl") (sym c.in-Some.ensures.value) (c.eq_ignore_ascii_case.ensures.test.0 t),
)
