use Rattle.std.proofs.Common.{◌∙◌, false, Some, None, map, take, ap, sym, subst}
use Rattle.std.specs.Option.{option_map}
use Rattle.transfer_model.specs.Views.{element_of}
use Rattle.transfer_rules.specs.Features.{IsElementOf, corefs_of, each_once}
use Rattle.transfer_rules.specs.Inner.Drafts.{AreSaid, IsFilterSaid, none_said, some_said, names_seen}
use Rattle.transfer_rules.specs.Inner.Views.{elements_seen, features_seen}
use Rattle.transfer_rules.proofs.Ruled.{names_back}
use Rattle.transfer_rules.proofs.building.Builder.filter.Goals as goal

pub returns-in_default-clause-some : goal.returns-in_default-clause-some
returns-in_default-clause-some c = subst (λ o. IsFilterSaid (names_seen c.args.names.now) (option_map elements_seen o) None) (sym c.in_default.is) none_said

pub returns-clause-some : goal.returns-clause-some
returns-clause-some c =
    let front = names_seen c.args.names.now in
    let after = names_seen c.filter_of.new.names in
    let filter = c.in_ok-filter.filter in
    subst (λ o. IsFilterSaid front (option_map elements_seen o) (Some filter)) (sym c.in-Some.is)
    (some_said after (elements_seen c.in-Some.said) filter
    (subst (λ xs. AreSaid IsElementOf false front after (map features_seen xs) (map element_of filter.elements.items)) c.deref.ensures.value c.in_ok-filter.ensures.some) c.in_ok-filter.ensures.letters)

pub returns-clause-names : goal.returns-clause-names
returns-clause-names c =
    ap (map (λ n. n.now)) (c.truncate.ensures.items ∙ ap (λ k. take k c.filter_of.new.names.items) (c.len-front.ensures ∙ c.args.names.now.ok.0))
    ∙ names_back (each_once (names_seen c.args.names.now) (corefs_of (map features_seen c.deref.result.now))) c.args.names.now.items c.filter_of.new.names.items c.in_ok-filter.ensures.some.names
