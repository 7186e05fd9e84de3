use Rattle.std.proofs.Common.{◌∙◌, ap, sym}
use Rattle.tdl_reader.specs.Views.{term_of}
use Rattle.tdl_reader.proofs.Rows.{view_of_name, view_of_text, view_of_coref, view_of_avm, view_of_list, view_of_diff}
use Rattle.transfer_rules.specs.Inner.Terms.{items_in}
use Rattle.transfer_rules.proofs.terms.items_in.Goals as goal

pub returns-in-Name : goal.returns-in-Name
returns-in-Name c = sym (ap (λ r. items_in (term_of r)) c.in-Name.is ∙ ap items_in (view_of_name c.in-Name.name c.in-Name.at))

pub returns-in-Text : goal.returns-in-Text
returns-in-Text c = sym (ap (λ r. items_in (term_of r)) c.in-Text.is ∙ ap items_in (view_of_text c.in-Text.text c.in-Text.at))

pub returns-in-Coref : goal.returns-in-Coref
returns-in-Coref c = sym (ap (λ r. items_in (term_of r)) c.in-Coref.is ∙ ap items_in (view_of_coref c.in-Coref.name c.in-Coref.at))

pub returns-in-Avm : goal.returns-in-Avm
returns-in-Avm c = sym (ap (λ r. items_in (term_of r)) c.in-Avm.is ∙ ap items_in (view_of_avm c.in-Avm.attrs c.in-Avm.at))

pub returns-in-List : goal.returns-in-List
returns-in-List c = c.closed_items.ensures ∙ sym (ap (λ r. items_in (term_of r)) c.in-List.is ∙ ap items_in (view_of_list c.in-List.items c.in-List.rest c.in-List.at))

pub returns-in-Diff : goal.returns-in-Diff
returns-in-Diff c = sym (ap (λ r. items_in (term_of r)) c.in-Diff.is ∙ ap items_in (view_of_diff c.in-Diff.items c.in-Diff.at))
