-- Sets of texts, what is counted of the texts that are written, and sums of counts.
use Rattle.std.specs.Prelude.{◌≡◌, ℕ, ◌+◌, not, Bool, List, length, filter}
use Rattle.std.specs.Borrow.{Bor}
use Rattle.std.specs.HashSet.{HashSet, contains_by}
use Rattle.std.specs.Str.{bytes_eq}
use Rattle.profile_reports.specs.declared.Counts.{Counts}
use Rattle.profile_reports.specs.declared.texts.Counted.{Counted}
use Rattle.profile_reports.specs.Texts.{is_among, each_once}

-- the set has this text
abbrev pub has : {S : Type 0} → HashSet (Bor (List ℕ)) S → List ℕ → Bool
has set text = contains_by (λ k. bytes_eq text k.now) set

-- The set has these texts and no other.
abbrev pub HasJust : {S : Type 0} → HashSet (Bor (List ℕ)) S → List (List ℕ) → Type 0
HasJust set texts = (t : List ℕ) → has set t ≡ is_among texts t

-- These texts were counted, each once, by whether they came.
pub record IsCountOf (came : List ℕ → Bool) (texts : List (List ℕ)) (c : Counted) : Type 0 where
  pub set : HasJust c.texts texts
  pub kept : c.kept ≡ length (filter came (each_once texts))
  pub lost : c.lost ≡ length (filter (λ t. not (came t)) (each_once texts))

-- what two parts of the items count together
abbrev pub sum_counts : Counts → Counts → Counts
sum_counts a b = record { same = a.same + b.same; differs = a.differs + b.differs; new = a.new + b.new; bad = a.bad + b.bad }
