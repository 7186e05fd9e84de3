-- What features and parts of the program stand for.
use Rattle.std.specs.Prelude.{List, map}
use Rattle.std.specs.Option.{option_map}
use Rattle.std.proofs.Common.{Vec, Global}
use Rattle.tdl_reader.specs.Views.{term_of}
use Rattle.transfer_rules.specs.declared.features.Feature.{Feature as DeclaredFeature}
use Rattle.transfer_rules.specs.declared.parts.Parts.{Parts as DeclaredParts}
use Rattle.transfer_rules.specs.Features.{Feature}
use Rattle.transfer_rules.specs.Forms.{Parts}

abbrev pub feature_of : DeclaredFeature → Feature
feature_of f = record { name = f.name.now; value = term_of f.value.now }

abbrev pub features_seen : Vec DeclaredFeature Global → List Feature
features_seen fs = map feature_of fs.items

abbrev pub elements_seen : Vec (Vec DeclaredFeature Global) Global → List (List Feature)
elements_seen xs = map features_seen xs.items

abbrev pub parts_of : DeclaredParts → Parts
parts_of p = record {
  name = p.name.now;
  input = elements_seen p.input;
  context = elements_seen p.context;
  filter = option_map elements_seen p.filter;
  output = elements_seen p.output;
}
