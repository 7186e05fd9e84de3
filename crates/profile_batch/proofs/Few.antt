-- The items of a text that isn't long have few trees.
use Rattle.std.proofs.Common.{ℕ, ◌<◌, ◌^◌, List, All, get_or, arith}
use Rattle.std.proofs.lemmas.List.{length-map}
use Rattle.profile_reports.specs.declared.profiles.ProfileItem.{ProfileItem}
use Rattle.profile_reports.specs.declared.profiles.ProfileItem.TheVariants.{TooLong, NotUtf8, NoItem, Item as Written}
use Rattle.profile_reports.specs.Bounds.{IsWithin}
use Rattle.profile_reports.specs.ItemsViews.{item_kept}
use Rattle.profile_batch.specs.Views.{trees_of}

of-item : (n : ℕ) (i : ProfileItem) → IsWithin n (item_kept i) → n < 2 ^ 31 → trees_of i < 2 ^ 32
of-item n TooLong w h = omega arith
of-item n NotUtf8 w h = omega arith
of-item n NoItem w h = omega arith
of-item n (Written expected sentence trees) w h =
    let same = length-map trees.items (λ t. t.items) in
    let few = w.1 in
    omega (arith, few, h, same)

pub few-trees : (n : ℕ) (items : List ProfileItem) → All (λ i. IsWithin n (item_kept i)) items → n < 2 ^ 31 → All (λ i. trees_of i < 2 ^ 32) items
few-trees n items a h = λ k d lt. of-item n (get_or items k d) (a k d lt) h
