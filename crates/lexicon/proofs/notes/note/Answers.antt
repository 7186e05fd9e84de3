use Rattle.std.proofs.Common.{rules, ap, subst, cond, Some, ◌≡◌, ◌∙◌, ◌++◌, ◌∷◌, []}
use Rattle.std.specs.HashMap.{get_by_text}
use Rattle.std.specs.Str.{bytes_eq}
use Rattle.std.specs.String.{string_bytes}
use Rattle.std.proofs.lemmas.Map.Text.{hash_map_updates_text}
use Rattle.lexicon.proofs.WordLemmas.{noted_more, noted_first}
use Rattle.lexicon.proofs.notes.note.Goals as goal

pub returns-in-Some : goal.returns-in-Some
returns-in-Some g c = λ n.
    let v = c.push.new.self in
    noted_more (λ m. get_by_text c.args.notes.now m) (λ m. get_by_text (c.get_mut.follows.lender v) m) c.args.word.now n c.in-Some.list.now v c.args.value
    c.in-Some.ensures.value c.in_ok-push.ensures.items
    (hash_map_updates_text c.args.word.now c.args.notes.now (c.get_mut.follows.lender v) _ ((c.get_mut.follows.holds v).3 (search rules)) n)

pub returns : goal.returns
returns g c = λ n.
    noted_first (λ m. get_by_text c.args.notes.now m) (λ m. get_by_text c.insert.new.self m) c.args.word.now (string_bytes c.in_ok-key.key) n c.push-2.new.self c.args.value
    c.in_ok-key.ensures.ok c.in_default.ensures.value (c.in_ok-push-2.ensures.items ∙ ap (λ l. l ++ c.args.value ∷ []) c.new-list.ensures.items)
    (subst (λ m. get_by_text c.insert.new.self n ≡ cond (bytes_eq (string_bytes c.in_ok-key.key) n) (Some c.push-2.new.self) (get_by_text m n)) c.get_mut.follows.holds-at-none
    (hash_map_updates_text (string_bytes c.in_ok-key.key) c.get_mut.follows.lender-at-none c.insert.new.self _ c.in_ok-insert.ensures.updates n))
