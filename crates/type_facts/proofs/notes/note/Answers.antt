use Rattle.std.proofs.Common.{◌∙◌, ap}
use Rattle.std.specs.Option.{unwrap_or}
use Rattle.std.specs.HashMap.{get_by_text}
use Rattle.std.specs.String.{string_bytes}
use Rattle.std.proofs.lemmas.Map.Text.{hash_map_updates_text}
use Rattle.type_facts.proofs.RuleLemmas.{noted_step}
use Rattle.type_facts.proofs.notes.note.Goals as goal

pub returns : goal.returns
returns g c = λ n.
    noted_step (λ m. get_by_text c.args.notes.now m) (λ m. get_by_text c.insert.new.self m) (λ m. get_by_text c.insert-2.new.self m)
    c.args.name.now (string_bytes c.in_ok-key.key) (string_bytes c.in_ok-again.again) n c.new.result c.new-2.result c.unwrap_or-list.result c.push.new.self c.args.value
    c.in_ok-key.ensures.ok c.in_ok-again.ensures.ok c.new-2.ensures.items (c.unwrap_or-list.ensures ∙ ap (λ o. unwrap_or o c.new-2.result) c.in_ok-old.ensures.old)
    c.in_ok-push.ensures.items
    (hash_map_updates_text (string_bytes c.in_ok-key.key) c.args.notes.now c.insert.new.self _ c.in_ok-old.ensures.updates n)
    (hash_map_updates_text (string_bytes c.in_ok-again.again) c.insert.new.self c.insert-2.new.self _ c.in_ok-insert.ensures.updates n)
