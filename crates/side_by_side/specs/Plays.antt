-- What each step tells the seat that makes it.
use Rattle.std.specs.Prelude.{◌≡◌, ℕ, ◌+◌, ◌-◌, ◌≤◌, nat_lt, if◌then◌else◌, [], ◌∷◌, ◌++◌, length}
use Rattle.atomic_table.specs.Table.{Me, Step}
use Rattle.side_by_side.specs.declared.draw_hand.Hand.{Hand}

-- what a seat knows once it has drawn a number more
abbrev pub after : Hand → ℕ → Hand
after v n = record { count = v.count; hands = v.hands; drawn = v.drawn ++ n ∷ []; over = if nat_lt n v.count then v.over else v.over + 1 }

module _ {S : Type 0} where
  -- A number is drawn. It is at least as large as the count of those that this seat drew before.
  abbrev pub drew : Step S → Me S Hand → ℕ → Me S Hand → Type 0
  drew st m r n = (n ≡ (after m.0 r, m.1)) × (length m.0.drawn ≤ r)

-- a seat for one worker, as it is cut from another
abbrev pub one_hand : Hand → Hand
one_hand v = record { count = v.count; hands = 1; drawn = []; over = 0 }

-- what is left of the other
abbrev pub without_one : Hand → Hand
without_one v = record { count = v.count; hands = v.hands - 1; drawn = v.drawn; over = v.over }

-- a seat to which another is joined
abbrev pub both : Hand → Hand → Hand
both v u = record { count = v.count; hands = v.hands + u.hands; drawn = v.drawn ++ u.drawn; over = v.over + u.over }

-- what is left of that one
abbrev pub spent : Hand
spent = record { count = 0; hands = 0; drawn = []; over = 0 }

-- a seat that stands for so many workers, none of which has drawn
abbrev pub all_hands : ℕ → ℕ → Hand
all_hands count seats = record { count = count; hands = seats; drawn = []; over = 0 }
