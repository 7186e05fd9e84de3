-- Lists of counts, place by place.
use Rattle.std.specs.Prelude.{ℕ, ◌+◌, ◌&&◌, nat_le, Bool, true, false, List, [], ◌∷◌}

-- the sums at the places that both lists have
abbrev pub add_all : List ℕ → List ℕ → List ℕ
add_all [] ds = []
add_all (c ∷ cs) [] = []
add_all (c ∷ cs) (d ∷ ds) = (c + d) ∷ add_all cs ds

-- as many numbers as the bound, each at most the bound's at its place
abbrev pub all_within : List ℕ → List ℕ → Bool
all_within [] [] = true
all_within [] (b ∷ bs) = false
all_within (c ∷ cs) [] = false
all_within (c ∷ cs) (b ∷ bs) = nat_le c b && all_within cs bs
