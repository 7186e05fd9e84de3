use Rattle.std.proofs.Common.{◌++◌, ◌∷◌, ◌∙◌, ◌-◌, length, take, drop, refl, sym, subst}
use Rattle.std.proofs.lemmas.Bool.{false≢true}
use Rattle.tree_reading.specs.Inner.Frames.{front, frames_of, is_wide}
use Rattle.tree_reading.specs.Inner.Uses.{AreUses}
use Rattle.tree_reading.specs.Inner.Near.{IsNear}
use Rattle.tree_reading.proofs.Faults.{fails, stop_open, stop_near, stop_blank}
use Rattle.tree_reading.proofs.Beginning.{near_row, near_size, name_row, named_read}
use Rattle.tree_reading.proofs.opening.read_name.Goals as goal

pub returns-in_default-clause-stopped : goal.returns-in_default-clause-stopped
returns-in_default-clause-stopped c =
    let g = c.args.names.now in
    let fs = frames_of g.names c.args.stack.now in
    fails g (front fs ++ c.args.text.now) (front fs) c.args.text.now (length c.args.text.now) refl refl
    (stop_open g c.requires.well c.requires.entry fs c.args.text.now c.requires.frames.frames c.requires.ready c.in_default.ensures)

pub returns-then-is_none-clause-stopped : goal.returns-then-is_none-clause-stopped
returns-then-is_none-clause-stopped c =
    let g = c.args.names.now in
    let fs = frames_of g.names c.args.stack.now in
    let wide = c.is_wide-wide.ensures g.names in
    let name = c.split_name.result.0.now in
    let rest = c.split_name.result.1.now in
    let n = c.near.result in
    let none = c.is_none.ensures.0 c.if-is_none.true in
    let near : IsNear g (is_wide fs) name n = subst (λ w. IsNear g w name n) wide c.near.ensures in
    fails g (front fs ++ c.args.text.now) (front fs ++ (40 ∷ take n name)) (drop n name ++ rest) (length c.in-Some.text.now - n)
    (near_row fs c.args.text.now c.in-Some.text.now name rest n c.in-Some.ensures c.split_name.ensures.whole) (near_size c.in-Some.text.now name rest n c.split_name.ensures.whole near.within)
    (stop_near g c.requires.well c.requires.entry fs name rest n c.uses_here-uses.result c.requires.frames.frames c.split_name.ensures.name c.split_name.ensures.cut near
    (subst (λ w. AreUses g w name c.uses_here-uses.result) wide c.uses_here-uses.ensures) none.0 none.1 none.2)

pub returns-in-None-clause-stopped : goal.returns-in-None-clause-stopped
returns-in-None-clause-stopped c =
    let g = c.args.names.now in
    let fs = frames_of g.names c.args.stack.now in
    let wide = c.is_wide-wide.ensures g.names in
    let name = c.split_name.result.0.now in
    let rest = c.split_name.result.1.now in
    fails g (front fs ++ c.args.text.now) (front fs ++ (40 ∷ name)) rest (length rest) (name_row fs c.args.text.now c.in-Some.text.now name rest c.in-Some.ensures c.split_name.ensures.whole) refl
    (stop_blank g c.requires.well c.requires.entry fs name rest c.uses_here-uses.result c.requires.frames.frames c.split_name.ensures.name c.split_name.ensures.cut c.in-None.ensures
    (subst (λ w. AreUses g w name c.uses_here-uses.result) wide c.uses_here-uses.ensures) (λ h. false≢true (sym c.if-is_none.false ∙ c.is_none.ensures.1 h)))

pub returns-in-Some-strip-clause-read : goal.returns-in-Some-strip-clause-read
returns-in-Some-strip-clause-read c =
    let g = c.args.names.now in
    let fs = frames_of g.names c.args.stack.now in
    let wide = c.is_wide-wide.ensures g.names in
    let name = c.split_name.result.0.now in
    named_read g c.requires.well (is_wide fs) c.args.text.now c.in-Some.text.now name c.split_name.result.1.now c.in-Some-strip.rest.now c.uses_here-uses.result c.in-Some.ensures c.split_name.ensures.whole c.in-Some-strip.ensures
    (subst (λ w. AreUses g w name c.uses_here-uses.result) wide c.uses_here-uses.ensures) (λ h. false≢true (sym c.if-is_none.false ∙ c.is_none.ensures.1 h))
