-- What contracts see of the devices in memory.
use Rattle.std.specs.Prelude.{ℕ, ◌+◌, ◌-◌, ◌^◌, ◌==◌, min, Bool, List, Option, None, Some}
use Rattle.std.specs.List.{list_any}

-- one call or one fault more, up to the greatest number of 64 bits
abbrev pub one_more : ℕ → ℕ
one_more n = min (n + 1) (2 ^ 64 - 1)

-- so many bytes, or the greatest piece where there is one and it is less
abbrev pub up_to : Option ℕ → ℕ → ℕ
up_to None n = n
up_to (Some greatest) n = min greatest n

-- whether the call of this number is one of those that are to fail
abbrev pub is_to_fail : List ℕ → ℕ → Bool
is_to_fail fails n = list_any (λ k. k == n) fails

-- a source in memory: the bytes left, the numbers of the calls that are to fail, how many calls were
-- made, how many of them failed, and the most bytes that one call gives
pub record Supply : Type 0 where
  pub left : List ℕ
  pub fails : List ℕ
  pub calls : ℕ
  pub faults : ℕ
  pub greatest : Option ℕ

-- a sink in memory: the bytes written, those that were written when it was last flushed, the numbers
-- of the writes and of the flushes that are to fail, how many of either were made, how many of them
-- failed, and the most bytes that one write takes
pub record Deposit : Type 0 where
  pub written : List ℕ
  pub flushed : List ℕ
  pub write_fails : List ℕ
  pub flush_fails : List ℕ
  pub writes : ℕ
  pub flushes : ℕ
  pub faults : ℕ
  pub greatest : Option ℕ

-- a sink that never fails: what it tells of the bytes written, and of those written when it was last
-- flushed
pub record Collected : Type 0 where
  pub written : Option (List ℕ)
  pub flushed : Option (List ℕ)
