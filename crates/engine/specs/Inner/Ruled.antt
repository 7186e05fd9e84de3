-- Phrase rules by place.
use Rattle.std.specs.Prelude.{ℕ, ◌≡◌, Some, slice_get}
use Rattle.tree_model.specs.Signs.{Signs, Instance, a_phrase_rule}

-- at a place stands a phrase rule
abbrev pub IsPhraseRuleAt : Signs → ℕ → Type 0
IsPhraseRuleAt g place = (i : Instance) × (slice_get g.instances place ≡ Some i) × (i.kind ≡ a_phrase_rule)
