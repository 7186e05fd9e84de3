-- What rules and sites of the program stand for.
use Rattle.std.specs.Prelude.{ℕ, List, [], Option, None, Some, map, take, drop, length, string_bytes, ◌≡◌, ◌≤◌, IfSome}
use Rattle.std.specs.Option.{option_map}
use Rattle.mrs_model.specs.Views.{argument_of, predication_of}
use Rattle.transfer_model.specs.declared.Element.{Element as DeclaredElement}
use Rattle.transfer_model.specs.declared.Filter.{Filter}
use Rattle.transfer_model.specs.declared.Rule.{Rule as DeclaredRule}
use Rattle.transfer_model.specs.Rules.{Element, Rule, IsRule}

abbrev pub element_of : DeclaredElement → Element
element_of x = record { pred = string_bytes x.pred; label = x.label; args = map argument_of x.roles.items }

abbrev pub filter_letters_of : Option Filter → List (List ℕ)
filter_letters_of None = []
filter_letters_of (Some f) = map string_bytes f.letters.items

abbrev pub rule_of : DeclaredRule → Rule
rule_of r = record {
  name = string_bytes r.name;
  input = take r.inputs (map element_of r.elements.items);
  context = drop r.inputs (map element_of r.elements.items);
  filter = option_map (λ f. map element_of f.elements.items) r.filter;
  output = map predication_of r.output.items;
  letters = map string_bytes r.letters.items;
  filter_letters = drop (length r.letters.items) (filter_letters_of r.filter);
  output_letters = map string_bytes r.output_letters.items;
}

-- what holds of a rule of the program besides
pub record IsHeld (r : DeclaredRule) : Type 0 where
  pub rule : IsRule (rule_of r)
  pub inputs : r.inputs ≤ length r.elements.items
  -- FILTER's letters begin with those of INPUT and CONTEXT
  pub front : IfSome r.filter (λ f. take (length r.letters.items) (map string_bytes f.letters.items) ≡ map string_bytes r.letters.items)
