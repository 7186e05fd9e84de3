use Rattle.std.proofs.Common.{◌≡◌, ◌∙◌, ◌++◌, ◌∷◌, [], ap, sym}
use Rattle.std.specs.String.{string_bytes}
use Rattle.std.proofs.lemmas.List.{map-append, append-nil}
use Rattle.tdl_reader.specs.Views.{term_of}
use Rattle.tdl_reader.proofs.Rows.{view_of_name, view_of_text, view_of_coref, view_of_avm, view_of_list, view_of_diff}
use Rattle.type_hierarchy.specs.Decls.{texts}
use Rattle.grammar_types.specs.Typings.{top_name}
use Rattle.grammar_types.proofs.declarations.push_top_name.Goals as goal

pub returns-in_ok-push-in-Name : goal.returns-in_ok-push-in-Name
returns-in_ok-push-in-Name c =
    let old = texts c.args.names.now.items in
    ap texts c.in_ok-push-in-Name.ensures.items ∙ map-append string_bytes c.args.names.now.items (c.in_ok-clone-in-Name.field-0 ∷ []) ∙ ap (λ n. old ++ n ∷ []) c.in_ok-clone-in-Name.ensures.cases
    ∙ sym (ap (λ l. old ++ l) (ap (λ r. top_name (term_of r)) c.in-Name.is ∙ ap top_name (view_of_name c.in-Name.name c.in-Name.at)))

pub returns-in-Text : goal.returns-in-Text
returns-in-Text c =
    let old = texts c.args.names.now.items in
    sym (ap (λ l. old ++ l) (ap (λ r. top_name (term_of r)) c.in-Text.is ∙ ap top_name (view_of_text c.in-Text.text c.in-Text.at)) ∙ append-nil old)

pub returns-in-Coref : goal.returns-in-Coref
returns-in-Coref c =
    let old = texts c.args.names.now.items in
    sym (ap (λ l. old ++ l) (ap (λ r. top_name (term_of r)) c.in-Coref.is ∙ ap top_name (view_of_coref c.in-Coref.name c.in-Coref.at)) ∙ append-nil old)

pub returns-in-Avm : goal.returns-in-Avm
returns-in-Avm c =
    let old = texts c.args.names.now.items in
    sym (ap (λ l. old ++ l) (ap (λ r. top_name (term_of r)) c.in-Avm.is ∙ ap top_name (view_of_avm c.in-Avm.attrs c.in-Avm.at)) ∙ append-nil old)

pub returns-in-List : goal.returns-in-List
returns-in-List c =
    let old = texts c.args.names.now.items in
    sym (ap (λ l. old ++ l) (ap (λ r. top_name (term_of r)) c.in-List.is ∙ ap top_name (view_of_list c.in-List.items c.in-List.rest c.in-List.at)) ∙ append-nil old)

pub returns-in-Diff : goal.returns-in-Diff
returns-in-Diff c =
    let old = texts c.args.names.now.items in
    sym (ap (λ l. old ++ l) (ap (λ r. top_name (term_of r)) c.in-Diff.is ∙ ap top_name (view_of_diff c.in-Diff.items c.in-Diff.at)) ∙ append-nil old)
