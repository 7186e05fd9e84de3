use Rattle.std.proofs.Common.{◌∙◌, ◌++◌, ◌∷◌, [], cond, ap, sym, refl}
use Rattle.std.specs.List.{list_any}
use Rattle.std.specs.Str.{bytes_eq}
use Rattle.glb_completion.specs.Inner.Kinds.{key_of, was_seen, is_first}
use Rattle.glb_completion.proofs.GrowingLemmas.{is_among}
use Rattle.glb_completion.proofs.kinds.Kinds.is_new.Goals as goal

pub returns-then-contains-clause-looks : goal.returns-then-contains-clause-looks
returns-then-contains-clause-looks c =
    let keys = c.args.self.now.keys.keys in
    let made = c.in_ok-fill.ensures ∙ ap (λ s. key_of s c.args.row.now c.deref-2.result.now) c.deref.ensures.value ∙ ap (λ p. key_of c.args.self.now.shared.items c.args.row.now p) c.deref-2.ensures.value in
    let found = is_among keys c.fill.new.key.items (ap (λ q. list_any (λ k. bytes_eq q k.items) keys) (sym c.as_slice.ensures.value) ∙ sym c.contains.ensures ∙ c.if-contains.true) in
    was_seen found.0 found.1 (found.2 ∙ made) refl refl

pub returns-clause-looks : goal.returns-clause-looks
returns-clause-looks c =
    let keys = c.args.self.now.keys.keys in
    let made = c.in_ok-fill.ensures ∙ ap (λ s. key_of s c.args.row.now c.deref-2.result.now) c.deref.ensures.value ∙ ap (λ p. key_of c.args.self.now.shared.items c.args.row.now p) c.deref-2.ensures.value in
    let same = c.in_ok-key.ensures.items ∙ c.deref-3.ensures.value in
    let none = ap (λ q. list_any (λ k. bytes_eq q k.items) keys) (same ∙ sym c.as_slice.ensures.value) ∙ sym c.contains.ensures ∙ c.if-contains.false in
    is_first c.in_ok-key.key (same ∙ made) (c.in_ok-insert.ensures.keys ∙ ap (λ b. cond b keys (keys ++ c.in_ok-key.key ∷ [])) none) refl
