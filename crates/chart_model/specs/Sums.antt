-- Counts of predicates, place by place.
use Rattle.std.specs.Prelude.{◌≡◌, ℕ, ◌+◌, ◌*◌, ◌%◌, ◌^◌, ◌==◌, ◌&&◌, nat_le, if◌then◌else◌, Option, Some, None, length, sum}
use Rattle.std.specs.List.{fold}
use Rattle.std.specs.declared.cmp.Ordering.TheVariants.{Equal}
use Rattle.std.specs.Ordering.{nat_cmp, then_cmp, on}
use Rattle.std.specs.Cmp.Lexicographic.{slice_cmp}
use Rattle.std.proofs.Common.{ap}
use Rattle.std.proofs.lemmas.Map.Lookups.{exact_pairs, exact_unsigned, exact_bytes}
use Rattle.chart_model.specs.Lists.{add_all, all_within}
use Rattle.chart_model.specs.declared.counts.Counts.{Counts}

-- two counts with as many places as the bound join where no sum passes it
abbrev pub counts_join : Counts → Counts → Counts → Option Counts
counts_join bound c d =
    if (length c.of == length bound.of) && (length d.of == length bound.of) && all_within (add_all c.of d.of) bound.of && nat_le (c.empty + d.empty) bound.empty
    then Some (record { of = add_all c.of d.of; empty = c.empty + d.empty })
    else None

abbrev pub counts_size : Counts → ℕ
counts_size c = sum c.of + c.empty

-- a number that few counts share
abbrev pub counts_cell : Counts → ℕ
counts_cell c = fold (λ sum count. ((sum * 31) % 2 ^ 32 + count) % 2 ^ 32) c.empty c.of

pub counts_told : (x y : Counts) → then_cmp (on (λ (c : Counts). c.of) (slice_cmp nat_cmp)) (on (λ (c : Counts). c.empty) nat_cmp) x y ≡ Equal → x ≡ y
counts_told x y h =
    let e = exact_pairs (slice_cmp nat_cmp) nat_cmp exact_bytes exact_unsigned (x.of, x.empty) (y.of, y.empty) h in
    ap (λ p. record { of = p.0; empty = p.1 }) e
