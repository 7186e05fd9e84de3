use Rattle.std.proofs.Common.{◌≡◌, ◌+◌, ◌∙◌, ◌++◌, ◌∷◌, [], not, true, false, Bool, cond, ap, refl, arith}
use Rattle.std.specs.List.{list_any}
use Rattle.std.specs.Str.{bytes_eq}
use Rattle.indexmap.specs.IndexSet.{index_set_len}
use Rattle.type_hierarchy.proofs.SetLemmas.{differ}
use Rattle.glb_completion.specs.Inner.Growing.{was_there, is_pushed}
use Rattle.glb_completion.proofs.GrowingLemmas.{is_among, isnt_among}
use Rattle.glb_completion.proofs.family.Family.add.Goals as goal

known : (is_new b : Bool) → is_new ≡ not b → is_new ≡ false → b ≡ true
known is_new true e f = refl
known is_new false e f = absurd (differ is_new e f)

unknown : (is_new b : Bool) → is_new ≡ not b → is_new ≡ true → b ≡ false
unknown is_new true e t = absurd (differ is_new t e)
unknown is_new false e t = refl

pub returns-then-not-is_new-clause-added : goal.returns-then-not-is_new-clause-added
returns-then-not-is_new-clause-added c =
    let keys = c.args.self.now.sets.keys in
    let there = known c.in_ok-is_new.is_new (list_any (λ k. bytes_eq c.args.row.items k.items) keys) c.in_ok-is_new.ensures.added c.if-not-is_new.true in
    let found = is_among keys c.args.row.items there in
    was_there found.0 found.1 found.2 (c.in_ok-is_new.ensures.keys ∙ ap (λ b. cond b keys (keys ++ c.args.row ∷ [])) there) refl

pub returns-then-len-gt-MOST_COMPLETED-clause-full : goal.returns-then-len-gt-MOST_COMPLETED-clause-full
returns-then-len-gt-MOST_COMPLETED-clause-full c =
    let keys = c.args.self.now.sets.keys in
    let none = unknown c.in_ok-is_new.is_new (list_any (λ k. bytes_eq c.args.row.items k.items) keys) c.in_ok-is_new.ensures.added c.if-not-is_new.false in
    let size = c.in_ok-is_new.ensures.len ∙ ap (λ b. index_set_len c.args.self.now.sets + cond b 1 0) c.if-not-is_new.false in
    (isnt_among keys c.args.row.items none, omega (arith, c.if-len-gt-MOST_COMPLETED.true, c.len.ensures.len, size))

pub returns-clause-added : goal.returns-clause-added
returns-clause-added c =
    let keys = c.args.self.now.sets.keys in
    let none = unknown c.in_ok-is_new.is_new (list_any (λ k. bytes_eq c.args.row.items k.items) keys) c.in_ok-is_new.ensures.added c.if-not-is_new.false in
    let size = c.in_ok-is_new.ensures.len ∙ ap (λ b. index_set_len c.args.self.now.sets + cond b 1 0) c.if-not-is_new.false in
    is_pushed c.args.row c.args.above refl refl (isnt_among keys c.args.row.items none) (omega (arith, c.if-len-gt-MOST_COMPLETED.false, c.len.ensures.len, size))
    (c.in_ok-is_new.ensures.keys ∙ ap (λ b. cond b keys (keys ++ c.args.row ∷ [])) none) c.in_ok-push.ensures.items
