-- What a `RowHasher` computes.
use Rattle.std.specs.Prelude.{ℕ, ◌*◌, ◌/◌, ◌-◌, ◌^◌, ◌==◌, List, length, if◌then◌else◌, bit_and, bit_xor}
use Rattle.std.specs.Int.{w64, from_le_bytes}

-- the two halves of the 128 bits of a product, joined by xor
abbrev pub folded : ℕ → ℕ → ℕ
folded a b = bit_xor (bit_and (a * b) (2 ^ 64 - 1)) (a * b / 2 ^ 64)

-- a state with a word mixed in
abbrev pub mixed : ℕ → ℕ → ℕ
mixed state word = folded (bit_xor state word) 0x9e37_79b9_7f4a_7c15

-- what is mixed in for a write: the word, or the length where it isn't a word
abbrev pub word_of : List ℕ → ℕ
word_of bytes = if length bytes == 8 then from_le_bytes w64 bytes else length bytes
