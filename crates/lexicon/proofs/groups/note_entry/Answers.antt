use Rattle.std.proofs.Common.{rules, ◌≡◌, ◌∙◌, [], map, Some, string_bytes, refl, ap, subst, cond}
use Rattle.std.specs.Option.{option_map_or}
use Rattle.lexicon.proofs.GroupLemmas.{note_step}
use Rattle.lexicon.specs.Groups.{group_of}
use Rattle.lexicon.specs.Inner.Index.{entry_of, with_entry}
use Rattle.lexicon.specs.Entries.{last_word}
use Rattle.std.specs.Str.{bytes_eq}
use Rattle.std.specs.HashMap.{get_by_text}
use Rattle.std.proofs.lemmas.Map.Text.{hash_map_updates_text}
use Rattle.lexicon.proofs.groups.note_entry.Goals as goal

pub returns-in-Some : goal.returns-in-Some
returns-in-Some c = λ done h n.
    let v = c.add_entry.new.groups in
    note_step (λ m. get_by_text c.args.index.now m) (λ m. get_by_text (c.get_mut.follows.lender v) m) c.last_of-last.result.now c.last_of-last.result.now
    c.in-Some.groups.now v (entry_of c.args.entry.now) done n refl
    (c.last_of-last.ensures ∙ ap (λ l. last_word (map string_bytes l)) c.deref.ensures.value)
    (ap (λ o. option_map_or (λ q. q.items) o []) c.in-Some.ensures.value)
    (c.in_ok-add_entry.ensures ∙ ap (λ l. with_entry c.args.entry.now.number (map string_bytes l) (map group_of c.in-Some.groups.now.items)) c.deref-in-Some.ensures.value)
    (hash_map_updates_text c.last_of-last.result.now c.args.index.now (c.get_mut.follows.lender v) _ ((c.get_mut.follows.holds v).3 (search rules)) n)
    (h n)

pub returns : goal.returns
returns c = λ done h n.
    note_step (λ m. get_by_text c.args.index.now m) (λ m. get_by_text c.insert.new.self m) c.last_of-last.result.now (string_bytes c.in_ok-key.key)
    c.in_ok-groups.groups c.add_entry-2.new.groups (entry_of c.args.entry.now) done n c.in_ok-key.ensures.ok
    (c.last_of-last.ensures ∙ ap (λ l. last_word (map string_bytes l)) c.deref.ensures.value)
    (c.in_ok-groups.ensures.items ∙ ap (λ o. option_map_or (λ q. q.items) o []) c.in_default.ensures.value)
    (c.in_ok-add_entry-2.ensures ∙ ap (λ l. with_entry c.args.entry.now.number (map string_bytes l) (map group_of c.in_ok-groups.groups.items)) c.deref-2.ensures.value)
    (subst (λ m. get_by_text c.insert.new.self n ≡ cond (bytes_eq (string_bytes c.in_ok-key.key) n) (Some c.add_entry-2.new.groups) (get_by_text m n)) c.get_mut.follows.holds-at-none
    (hash_map_updates_text (string_bytes c.in_ok-key.key) c.get_mut.follows.lender-at-none c.insert.new.self _ c.in_ok-insert.ensures.updates n))
    (h n)
