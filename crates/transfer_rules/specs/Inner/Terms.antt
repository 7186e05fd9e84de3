-- What single terms and attributes are.
use Rattle.std.specs.Prelude.{ℕ, List, Option, Some, None}
use Rattle.tdl_reader.specs.Trees.{TermTree, of_text, of_coref, of_avm, of_list, AttrTrees, ItemTrees, RestTree, closed, AttrTree}
use Rattle.transfer_rules.specs.Features.{Feature, feature_in}

abbrev pub attrs_in : TermTree → Option AttrTrees
attrs_in (of_avm attrs at) = Some attrs
attrs_in other = None

abbrev pub closed_items : ItemTrees → RestTree → Option ItemTrees
closed_items items closed = Some items
closed_items items other = None

abbrev pub items_in : TermTree → Option ItemTrees
items_in (of_list items rest at) = closed_items items rest
items_in other = None

abbrev pub text_in : TermTree → Option (List ℕ)
text_in (of_text text at) = Some text
text_in other = None

abbrev pub coref_in : TermTree → Option (List ℕ)
coref_in (of_coref name at) = Some name
coref_in other = None

abbrev pub feature_by : AttrTree → Option Feature
feature_by a = feature_in a.path a.body
