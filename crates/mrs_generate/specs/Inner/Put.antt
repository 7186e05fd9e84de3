-- What is found over leaves, with its trees put together by their texts.
use Rattle.std.specs.Prelude.{◌≡◌, List, map}
use Rattle.fs_model.specs.Claims.{Has}
use Rattle.derivation.specs.Views.{derivation_of}
use Rattle.tree_model.specs.Readings.{Rises}
use Rattle.packed_items.specs.declared.Found.{Found}
use Rattle.packed_items.specs.declared.Found.TheVariants as found
use Rattle.generate_model.specs.Sentences.{Sentence, AreSentences, GenAnswer, ByUnaryChain, ByEdges, Readings, Sentences}

-- trees stand in the order of trees
abbrev pub InOrder : Found → Type 0
InOrder (found.UnaryChain) = Unit {0}
InOrder (found.Edges) = Unit {0}
InOrder (found.Readings) = Unit {0}
InOrder (found.Trees classes trees) = Rises (map derivation_of trees.items)

abbrev pub IsPut : Found → GenAnswer → Type 0
IsPut (found.UnaryChain) a = a ≡ ByUnaryChain
IsPut (found.Edges) a = a ≡ ByEdges
IsPut (found.Readings) a = a ≡ Readings
IsPut (found.Trees classes trees) a = (ss : List Sentence) × (a ≡ Sentences classes ss) × AreSentences (λ t. Has t (map derivation_of trees.items)) ss
