-- The lines and the counts of items, one item more.
use Rattle.std.proofs.Common.{◌≡◌, ℕ, ◌+◌, ◌<◌, ◌≤◌, List, ◌∷◌, ◌++◌, length, map, drop, get_or, sym, ap, ◌∙◌, arith}
use Rattle.std.proofs.lemmas.List.{drop_more, append_assoc}
use Rattle.profile_reports.specs.declared.profiles.ProfileItem.{ProfileItem}
use Rattle.profile_reports.specs.Profiles.{Item}
use Rattle.profile_reports.specs.ItemsViews.{item_kept}
use Rattle.profile_reports.specs.declared.Counts.{Counts}
use Rattle.profile_reports.specs.declared.ItemResult.{ItemResult}
use Rattle.profile_reports.specs.declared.Verdict.{Verdict}
use Rattle.profile_reports.specs.declared.Verdict.TheVariants.{Same, Differs, New, Bad}
use Rattle.profile_reports.specs.Lines.{counted}
use Rattle.profile_reports.specs.Inner.{sum_counts}

abbrev counts_with : ℕ → ℕ → ℕ → ℕ → Counts
counts_with s d n b = record { same = s; differs = d; new = n; bad = b }

moved : (a b : ℕ) → a + 1 + b ≡ a + (b + 1)
moved a b = omega arith

pub counted_moves : (v : Verdict) (a b : Counts) → sum_counts (counted v a) b ≡ sum_counts a (counted v b)
counted_moves Same a b = ap (λ x. counts_with x (a.differs + b.differs) (a.new + b.new) (a.bad + b.bad)) (moved a.same b.same)
counted_moves Differs a b = ap (λ x. counts_with (a.same + b.same) x (a.new + b.new) (a.bad + b.bad)) (moved a.differs b.differs)
counted_moves New a b = ap (λ x. counts_with (a.same + b.same) (a.differs + b.differs) x (a.bad + b.bad)) (moved a.new b.new)
counted_moves Bad a b = ap (λ x. counts_with (a.same + b.same) (a.differs + b.differs) (a.new + b.new) x) (moved a.bad b.bad)

pub counted_total : (v : Verdict) (c : Counts) → (counted v c).same + (counted v c).differs + (counted v c).new + (counted v c).bad ≡ c.same + c.differs + c.new + c.bad + 1
counted_total Same c = omega arith
counted_total Differs c = omega arith
counted_total New c = omega arith
counted_total Bad c = omega arith

-- the counts of all items, after one item more
pub counts_more : (v : Verdict) (old new rest all : Counts) (from : Counts) → new ≡ counted v old → from ≡ counted v rest
    → sum_counts old from ≡ all → sum_counts new rest ≡ all
counts_more v old new rest all from n f h =
    ap (λ c. sum_counts c rest) n ∙ counted_moves v old rest ∙ ap (sum_counts old) (sym f) ∙ h

first_of : {A : Type 0} (xs : List A) (i : ℕ) (x : A) → i < length xs → x ≡ get_or xs i x → drop i xs ≡ x ∷ drop (i + 1) xs
first_of xs i x lt e = drop_more xs i x lt ∙ ap (λ y. y ∷ drop (i + 1) xs) (sym e)

-- what is said of the items from a place on begins with what is said of the item there
pub at_first : {A : Type 0} (say : List Item → List ItemResult → A) (items : List ProfileItem) (rs : List ItemResult) (i : ℕ) (item : ProfileItem) (r : ItemResult)
    → i < length items → i < length rs → item ≡ get_or items i item → r ≡ get_or rs i r
    → say (map item_kept (drop i items)) (drop i rs) ≡ say (item_kept item ∷ map item_kept (drop (i + 1) items)) (r ∷ drop (i + 1) rs)
at_first say items rs i item r lt less e f =
    ap (λ xs. say (map item_kept xs) (drop i rs)) (first_of items i item lt e)
    ∙ ap (say (item_kept item ∷ map item_kept (drop (i + 1) items))) (first_of rs i r less f)

-- the lines of all items, after those of one item more
pub lines_more : {A : Type 0} (old new item rest from all : List A) → new ≡ old ++ item → from ≡ item ++ rest → old ++ from ≡ all → new ++ rest ≡ all
lines_more old new item rest from all n f h =
    ap (λ l. l ++ rest) n ∙ append_assoc old item rest ∙ ap (λ l. old ++ l) (sym f) ∙ h

pub room_more : (v : Verdict) (old new : Counts) (i : ℕ) → new ≡ counted v old → old.same + old.differs + old.new + old.bad ≤ i
    → new.same + new.differs + new.new + new.bad ≤ i + 1
room_more v old new i n h =
    let t = ap (λ c. c.same + c.differs + c.new + c.bad) n in
    let u = counted_total v old in
    omega (arith, t, u, h)
