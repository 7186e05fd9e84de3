use Rattle.std.proofs.Common.{◌≡◌, ◌++◌, map, take}
use Rattle.std.specs.List.{All}
use Rattle.transfer_rules.specs.Features.{IsFeature, corefs_in, each_once}
use Rattle.transfer_rules.specs.Inner.Drafts.{IsDraft, draft_of, names_seen}
use Rattle.transfer_rules.specs.Inner.Views.{feature_of}
use Rattle.transfer_rules.proofs.elements.taken.Given as goal

abbrev pub invariant-loop-feature : goal.invariant-loop-feature
invariant-loop-feature l =
    let fs = map feature_of (take l.feature-index l.features) in
    IsDraft (names_seen l.names) fs (draft_of l.draft) × (names_seen l.names ≡ names_seen l.fn.names ++ each_once (names_seen l.fn.names) (corefs_in fs)) × All IsFeature fs
