use Rattle.std.proofs.Common.{◌≡◌, ◌≤◌, length, map, All}
use Rattle.std.proofs.lemmas.Result.{IfOk-weaker}
use Rattle.profile_reports.specs.Profiles.{items_of}
use Rattle.profile_reports.specs.Bounds.{IsWithin}
use Rattle.profile_reports.specs.ItemsViews.{item_kept}
use Rattle.profile_reports.proofs.Bounds.{few_kept, within_kept}
use Rattle.profile_reports.proofs.items.profile.Goals as goal

pub returns-clause-few : goal.returns-clause-few
returns-clause-few c =
    let text = c.args.text.now in
    IfOk-weaker c.items_of.result (λ v. map item_kept v.items ≡ items_of text) (λ v. length v.items ≤ length text)
    (λ v e. few_kept v.items text e) c.items_of.ensures

pub returns-clause-within : goal.returns-clause-within
returns-clause-within c =
    let text = c.args.text.now in
    IfOk-weaker c.items_of.result (λ v. map item_kept v.items ≡ items_of text) (λ v. All (λ i. IsWithin (length text) (item_kept i)) v.items)
    (λ v e. within_kept v.items text e) c.items_of.ensures
