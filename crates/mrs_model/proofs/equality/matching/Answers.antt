use Rattle.std.proofs.Common.{◌≡◌, ◌∙◌, map, length, arith, ap, sym}
use Rattle.mrs_model.specs.Views.{variable_of, meaning_of}
use Rattle.mrs_model.specs.Inner.State.{element_of}
use Rattle.mrs_model.proofs.Rows.{length_rows}
use Rattle.mrs_model.proofs.Going.{places_length}
use Rattle.mrs_model.proofs.Found.{same_counts_of, is_task, even_elements, none_equal, all_bound, found, sides_of_vars, item_of_vars}
use Rattle.mrs_model.proofs.equality.matching.Goals as goal

pub returns-then-not-same_counts : goal.returns-then-not-same_counts
returns-then-not-same_counts c = λ eq.
    let t = c.same_counts.ensures.1 (same_counts_of _ _ eq) in
    let f = c.if-not-same_counts.true in
    absurd (cc)

pub solve-requires-clause-sides : goal.solve-requires-clause-sides
solve-requires-clause-sides c =
    let a = meaning_of c.args.left.now in
    let b = meaning_of c.args.right.now in
    let is = is_task a b _ _ _ _ _ _ _ _ c.in_ok-items.ensures c.deref-3.ensures.value c.in_ok-here.ensures c.deref-4.ensures.value c.in_ok-there.ensures c.deref-5.ensures.value
    (ap (map variable_of) c.deref.ensures.value) (ap (map variable_of) c.deref-2.ensures.value) in
    let same = c.same_counts.ensures.0 c.if-not-same_counts.false in
    let n : length c.deref.result.now ≡ length a.vars = ap length c.deref.ensures.value ∙ sym (length_rows variable_of c.args.left.now.vars.items) in
    let m : length c.deref-2.result.now ≡ length b.vars = ap length c.deref-2.ensures.value ∙ sym (length_rows variable_of c.args.right.now.vars.items) in
    let w = sides_of_vars a b _ (length c.deref.result.now) is c.requires.left c.requires.right same n in
    record {
      left = item_of_vars _ _ w.0;
      right = item_of_vars _ _ w.1;
      even = m ∙ same.vars ∙ sym n;
    }

pub solve-requires-clause-fits : goal.solve-requires-clause-fits
solve-requires-clause-fits c =
    let a = meaning_of c.args.left.now in
    let b = meaning_of c.args.right.now in
    let is = is_task a b _ _ _ _ _ _ _ _ c.in_ok-items.ensures c.deref-3.ensures.value c.in_ok-here.ensures c.deref-4.ensures.value c.in_ok-there.ensures c.deref-5.ensures.value
    (ap (map variable_of) c.deref.ensures.value) (ap (map variable_of) c.deref-2.ensures.value) in
    let e = even_elements a b _ is (c.same_counts.ensures.0 c.if-not-same_counts.false) in
    let l = length_rows element_of c.deref-4.result.now in
    let r = length_rows element_of c.deref-5.result.now in
    omega (arith, e, l, r)

pub returns-in-None : goal.returns-in-None
returns-in-None c =
    let a = meaning_of c.args.left.now in
    let b = meaning_of c.args.right.now in
    let is = is_task a b _ _ _ _ _ _ _ _ c.in_ok-items.ensures c.deref-3.ensures.value c.in_ok-here.ensures c.deref-4.ensures.value c.in_ok-there.ensures c.deref-5.ensures.value
    (ap (map variable_of) c.deref.ensures.value) (ap (map variable_of) c.deref-2.ensures.value) in
    none_equal a b _ is (rw c.in-None.is at c.in_ok-solve.ensures)

pub map_of-requires : goal.map_of-requires
map_of-requires c =
    let a = meaning_of c.args.left.now in
    let b = meaning_of c.args.right.now in
    let is = is_task a b _ _ _ _ _ _ _ _ c.in_ok-items.ensures c.deref-3.ensures.value c.in_ok-here.ensures c.deref-4.ensures.value c.in_ok-there.ensures c.deref-5.ensures.value
    (ap (map variable_of) c.deref.ensures.value) (ap (map variable_of) c.deref-2.ensures.value) in
    let w = rw c.in-Some-2.is at c.in_ok-solve.ensures in
    let l = length_rows element_of c.deref-4.result.now in
    let p = places_length c.in-Some-2.search.steps.items in
    let le = w.2 in
    record { all = all_bound a b _ _ _ _ _ w.0 is c.requires.left w.1 (omega (arith, l, p, le)) }

pub returns : goal.returns
returns c =
    let a = meaning_of c.args.left.now in
    let b = meaning_of c.args.right.now in
    let is = is_task a b _ _ _ _ _ _ _ _ c.in_ok-items.ensures c.deref-3.ensures.value c.in_ok-here.ensures c.deref-4.ensures.value c.in_ok-there.ensures c.deref-5.ensures.value
    (ap (map variable_of) c.deref.ensures.value) (ap (map variable_of) c.deref-2.ensures.value) in
    let same = c.same_counts.ensures.0 c.if-not-same_counts.false in
    let w = rw c.in-Some-2.is at c.in_ok-solve.ensures in
    let l = length_rows element_of c.deref-4.result.now in
    let p = places_length c.in-Some-2.search.steps.items in
    let le = w.2 in
    found a b _ _ _ _ _ w.0 _ is same w.1 (omega (arith, l, p, le))
    (record { left = c.one_to_one.ensures.left; right = c.one_to_one.ensures.right; within = c.one_to_one.ensures.within })
    c.in_ok-to-in-Some-2.ensures.every c.in_ok-to-in-Some-2.ensures.bound
