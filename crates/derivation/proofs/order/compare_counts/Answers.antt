use Rattle.std.proofs.Common.{◌≡◌, length, min, get_or, sym, subst, ◌∙◌}
use Rattle.std.proofs.lemmas.Slice.Zip.{zip_end, zip_turn}
use Rattle.std.specs.Ordering.{nat_cmp, on}
use Rattle.derivation.specs.Counted.{IsCounted}
use Rattle.derivation.proofs.Counting.{counted_at}
use Rattle.derivation.specs.Counts.{word_count_of}
use Rattle.derivation.proofs.Orders.{slice_cmp-end}
use Rattle.derivation.proofs.order.compare_counts.Goals as goal

pub returns : goal.returns
returns c =
    let ends : length c.loop-daughter.yielded ≡ min (length c.args.daughters.now) (length c.args.others.now) =
    zip_end c.args.daughters.now c.args.others.now c.loop-daughter.yielded _ _ c.next.new.self _ (cc) (cc) c.loop-daughter.yielded_by c.in-None.is c.next.ensures.steps in
    c.cmp.ensures ∙ sym (slice_cmp-end (on word_count_of nat_cmp) c.args.daughters.now c.args.others.now _ ends) ∙ sym c.loop-daughter.invariant

pub compare_word_counts-requires : goal.compare_word_counts-requires
compare_word_counts-requires c =
    let turn = zip_turn c.args.daughters.now c.args.others.now c.loop-daughter.yielded _ _ c.next.new.self _ (cc) (cc) c.loop-daughter.yielded_by _ c.in-Some.is c.next.ensures.steps in
    let k = length c.loop-daughter.yielded in
    let daughter = c.in-Some.daughter.now in
    let other = c.in-Some.other.now in
    let first : daughter ≡ get_or c.args.daughters.now k daughter = cc (turn.2 daughter) in
    let second : other ≡ get_or c.args.others.now k other = cc (turn.3 other) in
    λ h. (
      subst IsCounted (sym first) (counted_at c.args.daughters.now k daughter (c.requires h).0 turn.0),
      subst IsCounted (sym second) (counted_at c.args.others.now k other (c.requires h).1 turn.1),
    )
