use Rattle.std.proofs.Common.{arith, ◌≡◌, ◌∙◌, ◌<◌, ◌++◌, List, [], ◌∷◌, length, map, take, refl, sym, ap, subst}
use Rattle.std.proofs.lemmas.List.{map-append}
use Rattle.std.proofs.lemmas.Str.{length-le-encodes}
use Rattle.morph_analysis.specs.LatticeLines.{ItemTree, Items}
use Rattle.morph_analysis.specs.Inner.Lines.{item_of}
use Rattle.morph_analysis.proofs.Lists.{empty_list, filled}
use Rattle.morph_analysis.proofs.LineLemmas.{bytes_within, bytes_parted, rest_shorter, run_some, item_goes, items_end}
use Rattle.morph_analysis.proofs.items.items.Goals as goal

pub offset_bounds-left-size : goal.offset_bounds-left-size
offset_bounds-left-size c = omega (arith, length-le-encodes c.loop-left.left.letters.now, c.loop-left.invariant.size, c.requires, c.run_of-size.ensures.within)

pub bytes_of-requires : goal.bytes_of-requires
bytes_of-requires c = omega (arith, bytes_within c.loop-left.left.letters.now c.run_of-size.result, c.loop-left.invariant.size, c.requires)

pub overflow_add-left : goal.overflow_add-left
overflow_add-left c = omega (arith, bytes_within c.loop-left.left.letters.now c.run_of-size.result, c.bytes_of.ensures, c.loop-left.invariant.size, c.requires)

pub after_blanks-left-requires-in-loop-left : goal.after_blanks-left-requires-in-loop-left
after_blanks-left-requires-in-loop-left c = omega (arith, bytes_parted c.run_of-size.result c.loop-left.left.letters.now, c.bytes_of.ensures, c.loop-left.invariant.size, c.requires)

pub loop-left-smaller : goal.loop-left-smaller
loop-left-smaller c =
    let l = c.loop-left.left.letters.now in
    let some : 0 < length l = filled l (length l) refl (sym c.is_empty.ensures ∙ c.loop-left-test.true) in
    omega (arith, rest_shorter c.run_of-size.result l some (run_some l c.run_of-size.result some c.loop-left.invariant.begins c.run_of-size.ensures.stops), c.after_blanks-left-in-loop-left.ensures.shorter)

pub loop-left-preserved : goal.loop-left-preserved
loop-left-preserved c =
    let l = c.loop-left.left.letters.now in
    let some : 0 < length l = filled l (length l) refl (sym c.is_empty.ensures ∙ c.loop-left-test.true) in
    let out : List ItemTree = map item_of c.loop-left.out.items in
    let pushed : map item_of c.push.new.self.items ≡ out ++ record { at = c.loop-left.left.at; letters = take c.run_of-size.result l } ∷ [] = ap (map item_of) c.in_ok-push.ensures.items ∙ map-append item_of c.loop-left.out.items _ in
    record {
      items = λ more h.
          subst (λ k. Items 0 c.args.letters.now (k ++ more)) (sym pushed)
          (item_goes c.args.letters.now out (item_of c.loop-left.left) (item_of c.after_blanks-left-in-loop-left.result) c.run_of-size.result c.bytes_of.result c.loop-left.invariant.items c.run_of-size.ensures.within some
          c.loop-left.invariant.begins c.run_of-size.ensures.run c.run_of-size.ensures.stops c.bytes_of.ensures c.after_blanks-left-in-loop-left.ensures more h);
      begins = c.after_blanks-left-in-loop-left.ensures.begins;
      size = omega (arith, bytes_parted c.run_of-size.result l, c.after_blanks-left-in-loop-left.ensures.size, c.bytes_of.ensures, c.loop-left.invariant.size);
    }

pub returns : goal.returns
returns c =
    let l = c.loop-left.left.letters.now in
    items_end c.args.letters.now (map item_of c.loop-left.out.items) (item_of c.loop-left.left) c.loop-left.invariant.items (empty_list l (length l) refl (sym c.is_empty.ensures ∙ c.loop-left-test.false))
