use Rattle.std.proofs.Common.{◌≡◌, ◌+◌, ◌-◌, ◌++◌, [], ◌∷◌, length, take, replicate, vec_len, sym, ◌∙◌, ap, subst, arith, rules}
use Rattle.fs_closing.specs.Beside.{ArePlaced}
use Rattle.fs_closing.specs.Inner.Homes.{HaveHomes}
use Rattle.fs_closing.proofs.HomeLemmas.{resized_size, homes_begun, homes_more}
use Rattle.fs_closing.proofs.parts.Beside.add.Goals as goal

pub invariant_of-self-in_err-resize-2 : goal.invariant_of-self-in_err-resize-2
invariant_of-self-in_err-resize-2 c =
    let parts = c.self.inside.parts.items in
    let homes = c.self.inside.homes.items in
    let placed = subst (λ l. ArePlaced l c.args.part.base) (sym c.self.view_is) c.requires in
    let begun = homes_begun parts homes c.resize.new.self.items c.args.part.base (vec_len c.self.inside.homes) c.self.invariant placed c.in_ok-resize.ensures.items
    (omega (arith, c.self.inside.homes.ok)) in
    subst (λ l. HaveHomes l c.resize-2.new.self.items) (sym c.in_ok-reserve.ensures.items)
    (subst (λ h. HaveHomes c.self.inside.parts.items h) (sym c.in_err-resize-2.ensures.items) begun)

pub invariant_of-self-2 : goal.invariant_of-self-2
invariant_of-self-2 c =
    let p = c.args.part in
    let parts = c.self.inside.parts.items in
    let homes = c.self.inside.homes.items in
    let homes1 = c.resize.new.self.items in
    let homes2 = c.resize-2.new.self.items in
    let end = c.args.part.base + c.nodes.result in
    let placed = subst (λ l. ArePlaced l c.args.part.base) (sym c.self.view_is) c.requires in
    let len : vec_len c.self.inside.homes ≡ length c.self.inside.homes.items = omega (arith, c.self.inside.homes.ok) in
    let begun = homes_begun parts homes homes1 p.base (vec_len c.self.inside.homes) c.self.invariant placed c.in_ok-resize.ensures.items len in
    let size = resized_size homes homes1 p.base (vec_len c.self.inside.homes) 0 c.in_ok-resize.ensures.items len in
    let ends : c.args.part.base + c.nodes.result ≡ c.args.part.base + length c.args.part.graph.now.types = omega (arith, c.nodes.ensures.count) in
    let place : c.in-Ok.place ≡ length c.self.inside.parts.items + 1 = search rules in
    let is = c.in_ok-resize-2.ensures.items ∙ ap (λ k. take end homes1 ++ replicate (end - vec_len c.resize.new.self) k) place in
    let more = homes_more parts p homes1 homes2 end (vec_len c.resize.new.self) begun placed size ends is (omega (arith, c.resize.new.self.ok)) in
    subst (λ l. HaveHomes l c.resize-2.new.self.items) (sym (c.push_reserved.ensures.items ∙ ap (λ l. l ++ c.args.part ∷ []) c.in_ok-reserve.ensures.items)) more
