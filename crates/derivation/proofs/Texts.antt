-- How the text of a tree falls into the pieces that are written.
use Rattle.std.proofs.Common.{◌≡◌, ℕ, ◌+◌, ◌<◌, Bool, List, [], ◌∷◌, ◌++◌, length, map, reverse, replicate, take, get_or, append_assoc, Vec, String, Global, append-nil, add-one, sym, ap, subst, ◌∙◌, arith, zero, suc}
use Rattle.std.proofs.lemmas.List.{reverse-append, flat_map_more, take_more}
use Rattle.std.proofs.lemmas.List.Concat.{flat_map-append}
use Rattle.std.specs.List.{flat_map, join_with_byte}
use Rattle.std.specs.String.{string_bytes}
use Rattle.derivation.specs.Views.{derivation_of, in_order}
use Rattle.derivation.specs.Text.{IsNamed, AreNamed, text_of, daughters_text, node_text, under, opening, openings, name_of, escaped}
use Rattle.derivation.specs.declared.Tree.{Tree}
use Rattle.derivation.specs.declared.Tree.TheVariants.{Phrase}
use Rattle.std.specs.Arc.{arc_value}
use Rattle.std.specs.declared.sync.Arc.{Arc}
use Rattle.derivation.proofs.Rows.{derivation_of-Phrase}

-- each of these daughters has its places in range
pub named_at : (n : ℕ) (ts : List Tree) (k : ℕ) (d : Tree) → AreNamed n (in_order (map derivation_of ts)) → k < length ts → IsNamed n (derivation_of (get_or ts k d))
named_at n [] k d h lt = absurd (omega arith)
named_at n (t ∷ ts) zero d h lt = h.0
named_at n (t ∷ ts) (suc k) d h lt = named_at n ts k d h.1 (omega arith)

pub named-Phrase : (n rule words : ℕ) (daughters : Arc (Vec Tree Global) Global) → IsNamed n (derivation_of (Phrase rule words daughters)) →
    (rule < n) × AreNamed n (in_order (map derivation_of (arc_value daughters).items))
named-Phrase n rule words daughters h = subst (IsNamed n) (derivation_of-Phrase rule words daughters) h

pub Phrase-named : (n rule words : ℕ) (daughters : Arc (Vec Tree Global) Global) → rule < n → AreNamed n (in_order (map derivation_of (arc_value daughters).items)) →
    IsNamed n (derivation_of (Phrase rule words daughters))
Phrase-named n rule words daughters lt named = subst (IsNamed n) (sym (derivation_of-Phrase rule words daughters)) (lt, named)

named_push : (n : ℕ) (ts : List Tree) (t : Tree) → AreNamed n (in_order (map derivation_of ts)) → IsNamed n (derivation_of t) →
    AreNamed n (in_order (map derivation_of (ts ++ t ∷ [])))
named_push n [] t h last = (last, tt)
named_push n (u ∷ ts) t h last = (h.0, named_push n ts t h.1 last)

pub named_more : (n : ℕ) (ts : List Tree) (k : ℕ) (t : Tree) → k < length ts → t ≡ get_or ts k t →
    AreNamed n (in_order (map derivation_of (take k ts))) → IsNamed n (derivation_of t) → AreNamed n (in_order (map derivation_of (take (k + 1) ts)))
named_more n ts k t lt at h last =
    let whole : take k ts ++ t ∷ [] ≡ take (k + 1) ts = ap (λ u. take k ts ++ u ∷ []) at ∙ sym (take_more ts k t lt) in
    subst (λ us. AreNamed n (in_order (map derivation_of us))) whole (named_push n (take k ts) t h last)

-- one more daughter
pub daughters_text-more : (names : List (List ℕ)) (asked : Bool) (ts : List Tree) (t : Tree) →
    daughters_text names asked (in_order (map derivation_of (ts ++ t ∷ []))) ≡ daughters_text names asked (in_order (map derivation_of ts)) ++ 32 ∷ text_of names asked (derivation_of t)
daughters_text-more names asked [] t = ap (λ xs. 32 ∷ xs) (append-nil (text_of names asked (derivation_of t)))
daughters_text-more names asked (u ∷ ts) t =
    ap (λ xs. 32 ∷ text_of names asked (derivation_of u) ++ xs) (daughters_text-more names asked ts t)
    ∙ sym (append_assoc (32 ∷ text_of names asked (derivation_of u)) (daughters_text names asked (in_order (map derivation_of ts))) (32 ∷ text_of names asked (derivation_of t)))

pub text_of-Phrase : (names : List (List ℕ)) (asked : Bool) (rule words : ℕ) (daughters : Arc (Vec Tree Global) Global) →
    text_of names asked (derivation_of (Phrase rule words daughters)) ≡ (40 ∷ name_of names rule) ++ daughters_text names asked (in_order (map derivation_of (arc_value daughters).items)) ++ 41 ∷ []
text_of-Phrase names asked rule words daughters = ap (text_of names asked) (derivation_of-Phrase rule words daughters)

-- pieces in a row
round_rule : (before name blank inner end after : List ℕ) →
    (before ++ ((name ++ (blank ++ inner)) ++ end)) ++ after ≡ ((before ++ (name ++ blank)) ++ inner) ++ (end ++ after)
round_rule before name blank inner end after = simp append_assoc

round_entry : (before name words nodes end after : List ℕ) →
    (before ++ ((name ++ (words ++ nodes)) ++ end)) ++ after ≡ (((before ++ name) ++ words) ++ nodes) ++ (end ++ after)
round_entry before name words nodes end after = simp append_assoc

openings-cons : (names : List (List ℕ)) (rule : ℕ) (rules : List ℕ) →
    openings names (rule ∷ rules) ≡ openings names rules ++ ((40 ∷ name_of names rule) ++ 32 ∷ [])
openings-cons names rule rules =
    ap (flat_map (opening names)) (reverse-append (rule ∷ []) rules) ∙ flat_map-append (opening names) (reverse rules) (rule ∷ [])
    ∙ ap (λ xs. openings names rules ++ xs) (append-nil (opening names rule))

-- the brackets of the rules round the innermost text
under_is : (names : List (List ℕ)) (rules inner : List ℕ) → under names rules inner ≡ openings names rules ++ inner ++ replicate (length rules) 41
under_is names [] inner = sym (append-nil inner)
under_is names (rule ∷ rules) inner =
    under_is names rules (node_text names rule (32 ∷ inner))
    ∙ round_rule (openings names rules) (40 ∷ name_of names rule) (32 ∷ []) inner (41 ∷ []) (replicate (length rules) 41)
    ∙ ap (λ xs. xs ++ inner ++ 41 ∷ replicate (length rules) 41) (sym (openings-cons names rule rules))

-- the whole text of a lexical tree
lexical_is : (names : List (List ℕ)) (rules : List ℕ) (entry : ℕ) (words nodes : List ℕ) →
    under names rules (node_text names entry (words ++ nodes))
    ≡ openings names rules ++ (40 ∷ name_of names entry) ++ words ++ nodes ++ replicate (suc (length rules)) 41
lexical_is names rules entry words nodes =
    under_is names rules (node_text names entry (words ++ nodes))
    ∙ round_entry (openings names rules) (40 ∷ name_of names entry) words nodes (41 ∷ []) (replicate (length rules) 41)

five_in_a_row : (old a b c d e xa xb xc xd xe : List ℕ) → a ≡ old ++ xa → b ≡ a ++ xb → c ≡ b ++ xc → d ≡ c ++ xd → e ≡ d ++ xe →
    e ≡ old ++ (xa ++ xb ++ xc ++ xd ++ xe)
five_in_a_row old a b c d e xa xb xc xd xe p q r s t =
    let whole : e ≡ old ++ xa ++ xb ++ xc ++ xd ++ xe = cc in whole ∙ simp append_assoc

-- the five pieces of a lexical tree
pub lexical_written : (names : List (List ℕ)) (rules : List ℕ) (entry count : ℕ) (words nodes : List ℕ) (old a b c d e : List ℕ) →
    count ≡ length rules + 1 → a ≡ old ++ openings names rules → b ≡ a ++ (40 ∷ name_of names entry) → c ≡ b ++ words → d ≡ c ++ nodes → e ≡ d ++ replicate count 41 →
    e ≡ old ++ under names rules (node_text names entry (words ++ nodes))
lexical_written names rules entry count words nodes old a b c d e is p q r s t =
    five_in_a_row old a b c d e _ _ _ _ _ p q r s t
    ∙ ap (λ n. old ++ (openings names rules ++ (40 ∷ name_of names entry) ++ words ++ nodes ++ replicate n 41)) (is ∙ add-one (length rules))
    ∙ ap (λ xs. old ++ xs) (sym (lexical_is names rules entry words nodes))

-- the three pieces of a phrase
pub phrase_written : (old b c e name daughters end : List ℕ) → b ≡ old ++ name → c ≡ b ++ daughters → e ≡ c ++ end → e ≡ old ++ (name ++ daughters ++ end)
phrase_written old b c e name daughters end p q r =
    let whole : e ≡ old ++ name ++ daughters ++ end = cc in whole ∙ simp append_assoc

-- one more element's piece
pub piece_more : {X : Type 0} (f : X → List ℕ) (xs : List X) (k m : ℕ) (x : X) (old into new : List ℕ) →
    k < length xs → x ≡ get_or xs k x → m ≡ k + 1 → into ≡ old ++ flat_map f (take k xs) → new ≡ into ++ f x → new ≡ old ++ flat_map f (take m xs)
piece_more f xs k m x old into new lt at is before after =
    after ∙ ap (λ zs. zs ++ f x) before ∙ flat_map_more f old (take k xs) x
    ∙ ap (λ y. old ++ flat_map f (take k xs ++ y ∷ [])) at ∙ ap (λ zs. old ++ flat_map f zs) (sym (take_more xs k x lt))
    ∙ ap (λ n. old ++ flat_map f (take n xs)) (sym is)

pub daughter_more : (names : List (List ℕ)) (asked : Bool) (ts : List Tree) (k : ℕ) (t : Tree) (old into blank new : List ℕ) →
    k < length ts → t ≡ get_or ts k t → into ≡ old ++ daughters_text names asked (in_order (map derivation_of (take k ts))) → blank ≡ into ++ 32 ∷ [] →
    new ≡ blank ++ text_of names asked (derivation_of t) → new ≡ old ++ daughters_text names asked (in_order (map derivation_of (take (k + 1) ts)))
daughter_more names asked ts k t old into blank new lt at before pushed after =
    let done = daughters_text names asked (in_order (map derivation_of (take k ts))) in
    let text = text_of names asked (derivation_of t) in
    phrase_written old into blank new done (32 ∷ []) text before pushed after
    ∙ ap (λ zs. old ++ zs) (append_assoc done (32 ∷ []) text ∙ sym (daughters_text-more names asked (take k ts) t))
    ∙ ap (λ y. old ++ daughters_text names asked (in_order (map derivation_of (take k ts ++ y ∷ [])))) at
    ∙ ap (λ zs. old ++ daughters_text names asked (in_order (map derivation_of zs))) (sym (take_more ts k t lt))

-- the words joined, after the first
pub escaped_join : (w : String Global) (ws : List (String Global)) →
    flat_map escaped (join_with_byte 32 (map string_bytes (w ∷ ws)))
    ≡ flat_map escaped (string_bytes w) ++ flat_map (λ v. 32 ∷ flat_map escaped (string_bytes v)) ws
escaped_join w [] = sym (append-nil (flat_map escaped (string_bytes w)))
escaped_join w (v ∷ ws) =
    flat_map-append escaped (string_bytes w) (32 ∷ join_with_byte 32 (map string_bytes (v ∷ ws)))
    ∙ ap (λ xs. flat_map escaped (string_bytes w) ++ 32 ∷ xs) (escaped_join v ws)
