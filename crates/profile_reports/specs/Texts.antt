-- Texts that are written beside texts that came.
use Rattle.std.specs.Prelude.{ℕ, not, Bool, if◌then◌else◌, List, [], ◌∷◌, length, filter}
use Rattle.std.specs.List.{list_any}
use Rattle.std.specs.Str.{bytes_eq}

-- a text is one of these
abbrev pub is_among : List (List ℕ) → List ℕ → Bool
is_among texts text = list_any (bytes_eq text) texts

-- each of some texts once
abbrev pub each_once : List (List ℕ) → List (List ℕ)
each_once [] = []
each_once (text ∷ texts) = if is_among texts text then each_once texts else text ∷ each_once texts

-- of the texts that are written, each counted once, how many are among those that came
abbrev pub kept : List (List ℕ) → List (List ℕ) → ℕ
kept written came = length (filter (is_among came) (each_once written))

-- and how many aren't
abbrev pub lost : List (List ℕ) → List (List ℕ) → ℕ
lost written came = length (filter (λ t. not (is_among came t)) (each_once written))

-- how many of those that came, each counted as often as it came, aren't written
abbrev pub gained : List (List ℕ) → List (List ℕ) → ℕ
gained written came = length (filter (λ t. not (is_among written t)) came)
