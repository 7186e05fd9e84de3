-- A greatest piece.
use Rattle.std.proofs.Common.{ℕ, ◌≤◌, Option, None, Some, arith}
use Rattle.lkb_io.specs.Devices.{up_to}

pub up_to-within : (greatest : Option ℕ) (n : ℕ) → up_to greatest n ≤ n
up_to-within None n = omega arith
up_to-within (Some most) n = omega arith
