use Rattle.std.proofs.Common.{◌≡◌, ◌+◌, ◌++◌, [], ◌∷◌, Some, map, take, refl, sym, ap, subst, ◌∙◌}
use Rattle.std.specs.Prelude.{slice_get}
use Rattle.std.specs.Arc.{arc_value}
use Rattle.std.proofs.lemmas.List.{map-append}
use Rattle.tree_structures.specs.Known.{AreAt, none_at, kept, numbers_of, view_of}
use Rattle.tree_structures.proofs.Keeping.{at_there, at_push, kept_below, kept_full, take_get}
use Rattle.tree_structures.proofs.numbering.fulls_at.Goals as goal

pub loop-i-init : goal.loop-i-init
loop-i-init c =
    let ss = kept c.args.fulls.now c.args.memo.now.known.items in
    subst (λ xs. AreAt ss [] (map (view_of c.args.fulls.now) xs)) (sym c.in_ok-daughters.ensures.items) none_at

pub full-requires : goal.full-requires
full-requires c =
    let t = c.args.fulls.now in
    let known = c.args.memo.now.known.items in
    let there = at_there (kept t known) (numbers_of c.args.numbers.now) c.requires.known.0 c.loop-i.i c.at.result c.requires.known.1 c.at.ensures in
    kept_below t known c.at.result there.0 there.1

pub loop-i-preserved : goal.loop-i-preserved
loop-i-preserved c =
    let t = c.args.fulls.now in
    let ss = kept t c.args.memo.now.known.items in
    let ns = numbers_of c.args.numbers.now in
    let full = c.in_ok-full.full in
    let there = at_there ss ns c.requires.known.0 c.loop-i.i c.at.result c.requires.known.1 c.at.ensures in
    let same : view_of t full ≡ there.0 = kept_full t c.args.memo.now c.at.result (arc_value full) there.0 c.in_ok-full.ensures there.1 full refl in
    let more = at_push ss (take c.loop-i.i ns) (map (view_of t) c.loop-i.daughters.items) c.at.result (view_of t full) c.loop-i.invariant (subst (λ f. slice_get ss c.at.result ≡ Some f) (sym same) there.1) in
    let grown : map (view_of t) c.push.new.self.items ≡ map (view_of t) c.loop-i.daughters.items ++ view_of t full ∷ [] = ap (map (view_of t)) c.in_ok-push.ensures.items ∙ map-append (view_of t) c.loop-i.daughters.items (full ∷ []) in
    subst (λ fs. AreAt ss (take (c.loop-i.i + 1) ns) fs) (sym grown) (subst (λ ms. AreAt ss ms (map (view_of t) c.loop-i.daughters.items ++ view_of t full ∷ [])) (sym (take_get ns c.loop-i.i c.at.result c.at.ensures)) more)
