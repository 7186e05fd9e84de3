use Rattle.std.proofs.Common.{◌≡◌, ◌∙◌, ap}
use Rattle.std.specs.Option.{unwrap_or}
use Rattle.std.specs.HashMap.{get_by_text}
use Rattle.std.specs.String.{string_bytes}
use Rattle.std.proofs.lemmas.Map.Text.{hash_map_updates_text}
use Rattle.tdl_reader.specs.Views.{body_in}
use Rattle.grammar_types.specs.Typings.{top_names}
use Rattle.grammar_types.proofs.SettleDecls.{noted_step}
use Rattle.grammar_types.proofs.declarations.note_parents.Goals as goal

pub returns : goal.returns
returns c = λ n.
    noted_step (λ m. get_by_text c.args.added.now m) (λ m. get_by_text c.insert.new.self m) (λ m. get_by_text c.insert-2.new.self m)
    (string_bytes c.args.name.now) (string_bytes c.in_ok-clone.field-0) (string_bytes c.in_ok-clone-2.field-0) n c.new.result c.new-2.result c.unwrap_or-parents.result c.push_top_names.new.names
    (top_names (body_in c.args.body.now)) c.in_ok-clone.ensures.cases c.in_ok-clone-2.ensures.cases c.new-2.ensures.items (c.unwrap_or-parents.ensures ∙ ap (λ o. unwrap_or o c.new-2.result) c.in_ok-noted.ensures.old)
    c.in_ok-push_top_names.ensures
    (hash_map_updates_text (string_bytes c.in_ok-clone.field-0) c.args.added.now c.insert.new.self _ c.in_ok-noted.ensures.updates n)
    (hash_map_updates_text (string_bytes c.in_ok-clone-2.field-0) c.insert.new.self c.insert-2.new.self _ c.in_ok-insert.ensures.updates n)
