-- A text has no more lines than bytes, and so no more items, and an item no more trees.
use Rattle.std.proofs.Common.{◌≡◌, ℕ, ◌+◌, ◌≤◌, ◌<◌, ◌==◌, ◌||◌, nat_lt, Bool, true, false, if◌then◌else◌, List, [], ◌∷◌, ◌++◌, length, map, All, Option, Some, None, encode_utf8_all, cond, sym, subst, refl, ap, ◌∙◌, arith}
use Rattle.std.specs.Char.{encode_utf8, is_whitespace}
use Rattle.std.specs.List.{AllByRecursion}
use Rattle.std.specs.Str.{IsUtf8, is_utf8, chars, skip_leading_whitespace}
use Rattle.std.proofs.lemmas.List.{length-append, length-map, get_or-map}
use Rattle.std.proofs.lemmas.List.Elements.{All-from_recursion}
use Rattle.std.proofs.lemmas.Str.{encodes-chars, IsUtf8-from_is_utf8}
use Rattle.lkb_io.specs.Lines.{put_before, cut, last_line, lines_of}
use Rattle.profile_reports.specs.declared.profiles.Expected.{Expected}
use Rattle.profile_reports.specs.declared.profiles.ProfileItem.{ProfileItem}
use Rattle.profile_reports.specs.Profiles.{Item, too_long, not_utf8, no_item, an_item, is_passed, is_tree, tree_in, after_run, first_run, expected_of, item_with, written, item_of, trees_before, items_in, items_of}
use Rattle.profile_reports.specs.Bounds.{IsWithin}
use Rattle.profile_reports.specs.ItemsViews.{item_kept}

-- lines

if_cut : (t : Bool) (b n : ℕ) (p : List (List ℕ) × List ℕ) → length p.0 + length p.1 ≤ n
    → length (if t then ([] ∷ p.0, p.1) else put_before b p).0 + length (if t then ([] ∷ p.0, p.1) else put_before b p).1 ≤ n + 1
if_cut true b n p h = omega (arith, h)
if_cut false b n ([], rest) h = omega (arith, h)
if_cut false b n (line ∷ lines, rest) h = omega (arith, h)

cut_small : (bs : List ℕ) → length (cut bs).0 + length (cut bs).1 ≤ length bs
cut_small [] = omega arith
cut_small (b ∷ bs) = let h = if_cut (b == 10) b (length bs) (cut bs) (cut_small bs) in omega (arith, h)

last_small : (bs : List ℕ) → length (last_line bs) ≤ length bs
last_small [] = omega arith
last_small (b ∷ bs) = omega arith

few_lines : (bs : List ℕ) → length (lines_of bs) ≤ length bs
few_lines bs =
    let h = cut_small bs in
    let k = last_small (cut bs).1 in
    let e = length-append (cut bs).0 (last_line (cut bs).1) in
    omega (arith, h, k, e)

-- items and trees

if_items : {A : Type 0} (t : Bool) (xs : List A) (x : A) (n : ℕ) → length xs ≤ n → length (if t then xs else x ∷ xs) ≤ n + 1
if_items true xs x n h = omega (arith, h)
if_items false xs x n h = omega (arith, h)

few_items : (lines : List (List ℕ)) → length (items_in lines) ≤ length lines
few_items [] = omega arith
few_items (line ∷ lines) =
    let h = if_items (is_passed line || is_tree line) (items_in lines) (item_of line (trees_before lines)) (length lines) (few_items lines) in
    omega (arith, h)

if_trees : {A : Type 0} (p t : Bool) (xs : List A) (x : A) (n : ℕ) → length xs ≤ n → length (if p then xs else (if t then x ∷ xs else [])) ≤ n + 1
if_trees true t xs x n h = omega (arith, h)
if_trees false true xs x n h = omega (arith, h)
if_trees false false xs x n h = omega (arith, h)

few_trees : (lines : List (List ℕ)) → length (trees_before lines) ≤ length lines
few_trees [] = omega arith
few_trees (line ∷ lines) =
    let h = if_trees (is_passed line) (is_tree line) (trees_before lines) (tree_in line) (length lines) (few_trees lines) in
    omega (arith, h)

-- sentences

if_after : (w : Bool) (c : ℕ) (cs ds : List ℕ) → length (encode_utf8_all ds) ≤ length (encode_utf8_all cs)
    → length (encode_utf8_all (if w then c ∷ cs else ds)) ≤ length (encode_utf8_all (c ∷ cs))
if_after true c cs ds h = omega arith
if_after false c cs ds h = let e = length-append (encode_utf8 c) (encode_utf8_all cs) in omega (arith, h, e)

after_small : (cs : List ℕ) → length (encode_utf8_all (after_run cs)) ≤ length (encode_utf8_all cs)
after_small [] = omega arith
after_small (c ∷ cs) = if_after (is_whitespace c) c cs (after_run cs) (after_small cs)

if_skip : (w : Bool) (c : ℕ) (cs ds : List ℕ) → length (encode_utf8_all ds) ≤ length (encode_utf8_all cs)
    → length (encode_utf8_all (cond w ds (c ∷ cs))) ≤ length (encode_utf8_all (c ∷ cs))
if_skip true c cs ds h = let e = length-append (encode_utf8 c) (encode_utf8_all cs) in omega (arith, h, e)
if_skip false c cs ds h = omega arith

skip_small : (cs : List ℕ) → length (encode_utf8_all (skip_leading_whitespace cs)) ≤ length (encode_utf8_all cs)
skip_small [] = omega arith
skip_small (c ∷ cs) = if_skip (is_whitespace c) c cs (skip_leading_whitespace cs) (skip_small cs)

sentence_small : (line : List ℕ) → is_utf8 line ≡ true → length (encode_utf8_all (after_run (skip_leading_whitespace (chars line)))) ≤ length line
sentence_small line u =
    let a = after_small (skip_leading_whitespace (chars line)) in
    let b = skip_small (chars line) in
    let e = ap length (encodes-chars line (IsUtf8-from_is_utf8 line u)) in
    omega (arith, a, b, e)

-- each item

within_with : (n : ℕ) (expected : Option Expected) (sentence : List ℕ) (trees : List (List ℕ)) → length sentence ≤ 65535 → length trees ≤ n
    → IsWithin n (item_with expected sentence trees)
within_with n None sentence trees s h = tt
within_with n (Some expected) sentence trees s h = (s, h)

within_line : (n : ℕ) (line : List ℕ) (trees : List (List ℕ)) (long text : Bool) → nat_lt 65535 (length line) ≡ long → is_utf8 line ≡ text
    → length trees ≤ n → IsWithin n (if long then too_long else (if text then written (skip_leading_whitespace (chars line)) trees else not_utf8))
within_line n line trees true text l u h = tt
within_line n line trees false false l u h = tt
within_line n line trees false true l u h =
    let cs = skip_leading_whitespace (chars line) in
    let short : length line ≤ 65535 = grind (arith, l) in
    let s = sentence_small line u in
    within_with n (expected_of (encode_utf8_all (first_run cs))) (encode_utf8_all (after_run cs)) trees (omega (arith, s, short)) h

within_item : (n : ℕ) (line : List ℕ) (trees : List (List ℕ)) → length trees ≤ n → IsWithin n (item_of line trees)
within_item n line trees h = within_line n line trees (nat_lt 65535 (length line)) (is_utf8 line) refl refl h

if_all : (n : ℕ) (t : Bool) (items : List Item) (item : Item) → AllByRecursion (IsWithin n) items → IsWithin n item
    → AllByRecursion (IsWithin n) (if t then items else item ∷ items)
if_all n true items item a w = a
if_all n false items item a w = (w, a)

within_lines : (n : ℕ) (lines : List (List ℕ)) → length lines ≤ n → AllByRecursion (IsWithin n) (items_in lines)
within_lines n [] h = tt
within_lines n (line ∷ lines) h =
    let f = few_trees lines in
    if_all n (is_passed line || is_tree line) (items_in lines) (item_of line (trees_before lines))
    (within_lines n lines (omega (arith, h))) (within_item n line (trees_before lines) (omega (arith, f, h)))

-- items as the program keeps them

pub few_kept : (items : List ProfileItem) (text : List ℕ) → map item_kept items ≡ items_of text → length items ≤ length text
few_kept items text e =
    let a = length-map items item_kept in
    let b = ap length e in
    let f = few_items (lines_of text) in
    let g = few_lines text in
    omega (arith, a, b, f, g)

pub within_kept : (items : List ProfileItem) (text : List ℕ) → map item_kept items ≡ items_of text
    → All (λ i. IsWithin (length text) (item_kept i)) items
within_kept items text e k d lt =
    let all = All-from_recursion (IsWithin (length text)) (items_of text) (within_lines (length text) (lines_of text) (few_lines text)) in
    let moved = subst (All (IsWithin (length text))) (sym e) all in
    let a = length-map items item_kept in
    subst (IsWithin (length text)) (get_or-map item_kept items k d (item_kept d) lt) (moved k (item_kept d) (omega (arith, lt, a)))
