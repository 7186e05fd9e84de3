-- Lines are ASCII, and so UTF-8.
use Rattle.std.proofs.Common.{ℕ, ◌<◌, ◌≤◌, ◌+◌, ◌*◌, ◌%◌, ◌^◌, List, [], ◌∷◌, All, map, decimal, arith}
use Rattle.std.specs.Str.{IsAscii, IsUtf8}
use Rattle.std.specs.List.{flat_map, range_with_len, join_with_byte}
use Rattle.std.proofs.lemmas.Nat.{mod_below}
use Rattle.std.proofs.lemmas.List.Elements.{All-nil, All-cons}
use Rattle.std.proofs.lemmas.Fmt.{IsAscii-decimal}
use Rattle.std.proofs.lemmas.Str.{IsAscii-append, IsUtf8-from_ascii}
use Rattle.std.proofs.lemmas.Str.Ascii.{IsAscii-nil, IsAscii-from_all}
use Rattle.self_tests.specs.Lines.{phrase, words, line, lines}

byte-ascii : (b : ℕ) → b < 128 → IsAscii (b ∷ [])
byte-ascii b small = IsAscii-from_all (b ∷ []) (All-cons (λ c. c < 128) b [] small (All-nil (λ c. c < 128)))

-- a letter and a number
word-ascii : (letter : ℕ) → letter < 128 → (n k : ℕ) → 0 < k → k ≤ 10 → IsAscii (letter ∷ decimal (n % k))
word-ascii letter small n k some few =
    let below = mod_below n k some in
    let short : n % k < 2 ^ 64 = omega (arith, below, few) in
    IsAscii-append (letter ∷ []) (decimal (n % k)) (byte-ascii letter small) (IsAscii-decimal (n % k) short)

-- a letter whose number is below ten, and one whose number is below five
ten : (letter : ℕ) → letter < 128 → (n : ℕ) → IsAscii (letter ∷ decimal (n % 10))
ten letter small n = word-ascii letter small n 10 (omega arith) (omega arith)

five : (letter : ℕ) → letter < 128 → (n : ℕ) → IsAscii (letter ∷ decimal (n % 5))
five letter small n = word-ascii letter small n 5 (omega arith) (omega arith)

-- each word is ASCII
abbrev AreAscii : List (List ℕ) → Type 0
AreAscii [] = Unit {0}
AreAscii (w ∷ ws) = IsAscii w × AreAscii ws

phrases-ascii : (place : ℕ) (ns : List ℕ) → AreAscii (flat_map (phrase place) ns)
phrases-ascii place [] = tt
phrases-ascii place (n ∷ ns) = (five 112 (omega arith) (place + n), (ten 110 (omega arith) (place + 3 * (n + 1)), phrases-ascii place ns))

words-ascii : (place : ℕ) → AreAscii (words place)
words-ascii place =
    (ten 110 (omega arith) (place + 3 * 0), (five 118 (omega arith) place, (ten 110 (omega arith) (place + 3 * 1), phrases-ascii place (range_with_len 1 (place % 7)))))

-- words with a blank between each two
joined-ascii : (ws : List (List ℕ)) → AreAscii ws → IsAscii (join_with_byte 32 ws)
joined-ascii [] a = IsAscii-nil
joined-ascii (w ∷ []) a = a.0
joined-ascii (w ∷ v ∷ ws) a =
    let rest = joined-ascii (v ∷ ws) a.1 in
    IsAscii-append w (32 ∷ join_with_byte 32 (v ∷ ws)) a.0 (IsAscii-append (32 ∷ []) (join_with_byte 32 (v ∷ ws)) (byte-ascii 32 (omega arith)) rest)

line-text : (place : ℕ) → IsUtf8 (line place)
line-text place = IsUtf8-from_ascii (line place) (joined-ascii (words place) (words-ascii place))

each-text : (start : ℕ) (is : List ℕ) → All IsUtf8 (map (λ i. line (start + i)) is)
each-text start [] = All-nil IsUtf8
each-text start (i ∷ is) = All-cons IsUtf8 (line (start + i)) (map (λ k. line (start + k)) is) (line-text (start + i)) (each-text start is)

pub lines-text : (number size : ℕ) → All IsUtf8 (lines number size)
lines-text number size = each-text (number % 1000) (range_with_len 0 size)
