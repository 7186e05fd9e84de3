use Rattle.std.proofs.Common.{◌∙◌, sym, ap, map}
use Rattle.mrs_places.specs.Paths.{paths_of, feature_of}
use Rattle.mrs_extract.specs.Extraction.{is_among}
use Rattle.mrs_extract.proofs.Named.{role_tested, named_at}
use Rattle.mrs_extract.proofs.roles.is_role.Goals as goal

pub returns : goal.returns
returns c =
    role_tested (paths_of c.args.paths.now) c.args.f.0 _ c.as_str.result.now (sym c.has_number.ensures ∙ c.if-has_number.false) (sym c.has_number-else-has_number.ensures ∙ c.if-has_number-2.false)
    (sym (c.is_among.ensures ∙ ap (λ l. is_among (map feature_of l) c.args.f.0) c.deref.ensures.value) ∙ c.if-is_among.false)
    (c.as_str.ensures.value ∙ named_at c.args.paths.now.feats.items _ c.args.f.0 c.requires c.index.ensures) c.ne.ensures
