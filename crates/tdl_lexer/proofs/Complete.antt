-- What the relation gives, the functions find.
use Rattle.std.proofs.Common.{◌≡◌, ℕ, zero, suc, ◌+◌, ◌-◌, ◌<◌, ◌≤◌, Bool, true, false, List, [], ◌∷◌, ◌++◌, length, Option, Some, None, sym, ◌∙◌, refl, ap, subst, arith, append_assoc, ⊎_elim}
use Rattle.std.specs.Prelude.{codes, if◌then◌else◌, ◌==◌}
use Rattle.std.specs.Char.{is_whitespace}
use Rattle.std.proofs.lemmas.Option.{same_Some, none-some}
use Rattle.std.proofs.lemmas.Bool.{eq-eqb, eqb-true, false_from_ne_true, agree_below, agree_below_at, true≢false, or_cases, and_parts, ltb-true}
use Rattle.std.proofs.Common.{length-append}
use Rattle.ucd_category.proofs.Computing.{ucd_category}
use Rattle.tdl_lexer.specs.declared.TokenKind.{TokenKind}
use Rattle.tdl_lexer.specs.declared.TokenKind.TheVariants.{Name, Text, Symbol, Coref, Directive, Group, DiffOpens, Dots}
use Rattle.tdl_lexer.specs.declared.Mode.{Mode}
use Rattle.tdl_lexer.specs.declared.Mode.TheVariants.{Plain}
use Rattle.tdl_lexer.specs.Characters.{is_name, StopsBefore, IsRun, IsName}
use Rattle.tdl_lexer.specs.Pieces.{IsQuoted, nothing, plain, escaped, IsUpTo, IsInside, empty, other, nested, Mark, defined, below, added, and, avm_opens, avm_closes, list_opens, list_closes, diff_opens, diff_closes, comma, dot, dots, IsLongest, after_group_here, Piece, blank, line, block, docstring, text, name, symbol, coref, directive, letter_set, prefix, suffix, group, mark}
use Rattle.tdl_lexer.specs.Scan.{Cut, past, after_quote, after_front, or_else, after_mark, after_group, skipped, kept, after_name, colon_at, docstring_at, piece_at}

if_true : {A : Type 0} (b : Bool) (x y : A) → b ≡ true → (if b then x else y) ≡ x
if_true b x y e = rw e refl

if_false : {A : Type 0} (b : Bool) (x y : A) → b ≡ false → (if b then x else y) ≡ y
if_false b x y e = rw e refl

-- a chosen value that is there
pub cond_some_or : {A : Type 0} (b : Bool) (o : Option A) (x : A) → (if b then o else None) ≡ Some x → (b ≡ true) × (o ≡ Some x)
cond_some_or true o x e = (refl, e)
cond_some_or false o x e = absurd (none-some _ e)

past_run : (p : ℕ → Bool) (run rest : List ℕ) → IsRun p run rest → past p (run ++ rest) ≡ rest
past_run p [] [] h = refl
past_run p [] (c ∷ cs) h = rw h.1 refl
past_run p (c ∷ cs) rest h = rw h.0.0 (past_run p cs rest (h.0.1, h.1))

quoted : (body rest : List ℕ) → IsQuoted body → after_quote false (body ++ 34 ∷ rest) ≡ Some rest
quoted [] rest nothing = refl
quoted (c ∷ cs) rest (plain _ _ e f q) = rw (e, f) (quoted cs rest q)
quoted (b ∷ c ∷ cs) rest (escaped _ _ q) = quoted cs rest q

-- past what stands inside a group, the group is still open
inside : (b rest : List ℕ) (depth : ℕ) → IsInside b → after_group depth (b ++ rest) ≡ after_group depth rest
inside [] rest depth empty = refl
inside (c ∷ cs) rest zero (other _ _ e f h) = rw (e, f) (inside cs rest zero h)
inside (c ∷ cs) rest (suc depth) (other _ _ e f h) = rw (e, f) (inside cs rest (suc depth) h)
inside (p ∷ cs) rest zero (nested b ds h k) = ap (after_group 1) (append_assoc b (41 ∷ ds) rest) ∙ (inside b (41 ∷ (ds ++ rest)) 1 h ∙ inside ds rest zero k)
inside (p ∷ cs) rest (suc depth) (nested b ds h k) = ap (after_group (suc (suc depth))) (append_assoc b (41 ∷ ds) rest) ∙ (inside b (41 ∷ (ds ++ rest)) (suc (suc depth)) h ∙ inside ds rest (suc depth) k)

front : (m cs : List ℕ) → after_front m (m ++ cs) ≡ Some cs
front [] cs = refl
front (x ∷ m) cs = rw (eq-eqb x x refl) (front m cs)

-- what stands at the front
pub front_is : (m cs r : List ℕ) → after_front m cs ≡ Some r → cs ≡ m ++ r
front_is [] cs r e = same_Some _ _ e
front_is (x ∷ m) [] r e = absurd (none-some _ e)
front_is (x ∷ m) (c ∷ cs) r e = let h = cond_some_or (c == x) (after_front m cs) r e in rw (eqb-true _ _ h.0, front_is m cs r h.1) refl

-- a front that ends within xs is one of xs
within : (m xs ys r : List ℕ) → length m ≤ length xs → xs ++ ys ≡ m ++ r → (back : List ℕ) × (xs ≡ m ++ back)
within [] xs ys r h e = (xs, refl)
within (x ∷ m) [] ys r h e = absurd (omega arith)
within (x ∷ m) (c ∷ cs) ys r h e =
    let t = within m cs ys r (omega arith) (cc) in
    let heads : c ≡ x = cc in
    let tails : cs ≡ m ++ t.0 = t.1 in
    (t.0, cc)

or_none : {A : Type 0} (o p : Option A) → ((x : A) → o ≡ Some x → ⊥) → or_else o p ≡ p
or_none None p h = refl
or_none (Some x) p h = absurd (h x refl)

-- the first mark ends what goes up to it
up_to : (m ms body rest : List ℕ) (x : ℕ) → m ≡ x ∷ ms → IsUpTo m body → after_mark m (body ++ (m ++ rest)) ≡ Some rest
up_to m ms [] rest x e h = rw e (ap (λ o. or_else o (after_mark (x ∷ ms) (ms ++ rest))) (front (x ∷ ms) rest))
up_to m ms (c ∷ cs) rest x e h =
    or_none (after_front m (c ∷ (cs ++ (m ++ rest)))) _ (λ r f.
    let g = front_is m _ r f in
    let w = within m ((c ∷ cs) ++ m) rest r (omega (arith, length-append (c ∷ cs) m)) (append_assoc (c ∷ cs) m rest ∙ g) in
    let z = h.first [] w.0 w.1 in
    let l = ap length w.1 ∙ length-append m w.0 in
    omega (arith, length-append (c ∷ cs) m, ap length z, l))
    ∙ up_to m ms cs rest x e (record { first = λ front back eq. h.first (c ∷ front) back (ap (λ l. c ∷ l) eq) })

-- a character past ASCII among these is in no name
not_from : (lo n c : ℕ) → agree_below (λ i. is_name (lo + i)) (λ _. false) n ≡ true → lo ≤ c → c < lo + n → is_name c ≡ false
not_from lo n c h l u = let e : lo + (c - lo) ≡ c = omega arith in subst (λ d. is_name d ≡ false) e (agree_below_at (λ i. is_name (lo + i)) (λ _. false) n (c - lo) h (omega arith))

not_at : (k c : ℕ) → is_name k ≡ false → (c == k) ≡ true → is_name c ≡ false
not_at k c h e = rw (eqb-true c k e) h

-- white space is in no name
white_not_name : (c : ℕ) → is_whitespace c ≡ true → is_name c ≡ false
unfolding is_name ucd_category
white_not_name c h =
    ⊎_elim (λ h. ⊎_elim (λ h. ⊎_elim (λ h. ⊎_elim (λ h. ⊎_elim (λ h. ⊎_elim (λ h. ⊎_elim (λ h. ⊎_elim (λ h. ⊎_elim (λ h. ⊎_elim (λ h.
    let p = and_parts _ _ h in not_from 9 5 c refl (ltb-true 8 c p.0) (omega (arith, ltb-true c 14 p.1)))
    (not_at 32 c refl) (or_cases _ _ h)) (not_at 133 c refl) (or_cases _ _ h)) (not_at 160 c refl) (or_cases _ _ h)) (not_at 5760 c refl) (or_cases _ _ h))
    (λ h. let p = and_parts _ _ h in not_from 8192 11 c refl (omega (arith, ltb-true 8191 c p.0)) (omega (arith, ltb-true c 8203 p.1))) (or_cases _ _ h))
    (not_at 8232 c refl) (or_cases _ _ h)) (not_at 8233 c refl) (or_cases _ _ h)) (not_at 8239 c refl) (or_cases _ _ h)) (not_at 8287 c refl) (or_cases _ _ h)) (not_at 12288 c refl) (or_cases _ _ h)

-- a name character is not one that is in no name
pub name_is_not : (c k : ℕ) → is_name c ≡ true → is_name k ≡ false → (c == k) ≡ false
name_is_not c k e f = false_from_ne_true (c == k) (λ h. absurd (true≢false (sym e ∙ (ap is_name (eqb-true c k h) ∙ f))))

pub name_not_white : (c : ℕ) → is_name c ≡ true → is_whitespace c ≡ false
name_not_white c e = false_from_ne_true (is_whitespace c) (λ h. absurd (true≢false (sym e ∙ white_not_name c h)))

next_not : (spelled rest : List ℕ) (d : ℕ) (ds : List ℕ) (kind : TokenKind) (longer : List ℕ) → IsLongest spelled rest → Mark kind longer → spelled ++ rest ≡ longer ++ ds → length spelled < length longer → ⊥
next_not spelled rest d ds kind longer h m e l = let k = h kind longer ds m e in omega arith

one_dot : {x : Cut} (b : Bool) → or_else (kept Dots Plain (if b then None else None)) (Some x) ≡ Some x
one_dot true = refl
one_dot false = refl

two_dots : {x : Cut} (ds : List ℕ) (a b : Bool) → (a ≡ true → b ≡ true → ⊥) → or_else (kept Dots Plain (if a then (if b then Some ds else None) else None)) (Some x) ≡ Some x
two_dots ds true true h = absurd (h refl refl)
two_dots ds true false h = refl
two_dots ds false b h = refl

-- each mark is found where it is the longest
marks : (mode : Mode) (kind : TokenKind) (spelled rest : List ℕ) → Mark kind spelled → IsLongest spelled rest → piece_at mode (spelled ++ rest) ≡ Some (record { what = Some kind; next = Plain; rest = rest })
unfolding is_name
marks mode _ _ rest defined h = refl
marks mode _ _ rest below h = refl
marks mode _ _ rest added h = refl
marks mode _ _ rest and h = refl
marks mode _ _ rest avm_opens h = refl
marks mode _ _ rest avm_closes h = refl
marks mode _ _ rest list_closes h = refl
marks mode _ _ rest comma h = refl
marks mode _ _ rest diff_opens h = refl
marks mode _ _ rest diff_closes h = refl
marks mode _ _ rest dots h = refl
marks mode _ _ [] list_opens h = refl
marks mode _ _ (d ∷ ds) list_opens h = rw (false_from_ne_true (d == 33) (λ e. next_not (60 ∷ []) (d ∷ ds) d ds DiffOpens (codes "<!") h diff_opens (rw (eqb-true d 33 e) refl) (omega arith))) refl
marks mode _ _ [] dot h = refl
marks mode _ _ (d ∷ []) dot h = one_dot (d == 46)
marks mode _ _ (d ∷ e ∷ ds) dot h = two_dots ds (d == 46) (e == 46) (λ p q. next_not (46 ∷ []) (d ∷ e ∷ ds) d ds Dots (codes "...") h dots (rw (eqb-true d 46 p, eqb-true e 46 q) refl) (omega arith))

-- the first name character after a mark's first character
names : (c : ℕ) (cs rest : List ℕ) → IsName (c ∷ cs) rest → after_name (c ∷ (cs ++ rest)) ≡ Some rest
names c cs rest h = rw h.1.0.0 (ap (λ r. Some r) (past_run is_name cs rest (h.1.0.1, h.1.1)))

no_quotes : (body rest : List ℕ) → IsQuoted body → (length body ≡ 0 → StopsBefore (λ c. c == 34) rest) → after_front (codes "\"\"") ((body ++ 34 ∷ []) ++ rest) ≡ None
no_quotes [] [] q h = refl
no_quotes [] (d ∷ ds) q h = rw (h refl) refl
no_quotes (c ∷ cs) rest (plain _ _ e f q) h = rw e refl
no_quotes (b ∷ c ∷ cs) rest (escaped _ _ q) h = refl

directives : (c : ℕ) (cs rest : List ℕ) → IsName (c ∷ cs) rest → (c == 61) ≡ false → (c == 60) ≡ false → (c == 43) ≡ false
    → colon_at (c ∷ (cs ++ rest)) ≡ Some (record { what = Some Directive; next = Plain; rest = rest })
directives c cs rest h i j k = rw (i, j, k) (ap (kept Directive Plain) (names c cs rest h))

-- each piece is found
pub complete : (mode next : Mode) (spelled rest : List ℕ) (what : Option TokenKind) → Piece mode spelled rest what next → piece_at mode (spelled ++ rest) ≡ Some (record { what = what; next = next; rest = rest })
unfolding is_name
complete mode _ _ rest _ (blank _ c _ h) = rw h refl
complete mode _ _ rest _ (line _ body _ h) = ap (λ r. Some (record { what = None; next = Plain; rest = r })) (past_run _ body rest h)
complete mode _ _ rest _ (block _ body _ h) = ap (skipped Plain) (ap (after_mark (codes "|#")) (append_assoc body (codes "|#") rest) ∙ up_to (codes "|#") (35 ∷ []) body rest 124 refl h)
complete mode _ _ rest _ (docstring _ body _ h) = ap (skipped Plain) (ap (after_mark (codes "\"\"\"")) (append_assoc body (codes "\"\"\"") rest) ∙ up_to (codes "\"\"\"") (34 ∷ 34 ∷ []) body rest 34 refl h)
complete mode _ _ rest _ (text _ body _ q h) = ap (docstring_at ((body ++ 34 ∷ []) ++ rest)) (no_quotes body rest q h) ∙ ap (kept Text Plain) (ap (after_quote false) (append_assoc body (34 ∷ []) rest) ∙ quoted body rest q)
complete mode _ [] rest _ (name _ _ _ h) = absurd (omega (arith, h.0))
complete mode _ (c ∷ cs) rest _ (name _ _ _ h) = rw (name_not_white c h.1.0.0, h.1.0.0) (ap (λ r. Some (record { what = Some Name; next = Plain; rest = r })) (past_run is_name cs rest (h.1.0.1, h.1.1)))
complete mode _ _ rest _ (symbol _ [] _ h) = absurd (omega (arith, h.0))
complete mode _ _ rest _ (symbol _ (c ∷ cs) _ h) = ap (kept Symbol Plain) (names c cs rest h)
complete mode _ _ rest _ (coref _ [] _ h) = absurd (omega (arith, h.0))
complete mode _ _ rest _ (coref _ (c ∷ cs) _ h) = rw (name_is_not c 124 h.1.0.0 refl) (ap (kept Coref Plain) (names c cs rest h))
complete mode _ _ rest _ (directive _ [] _ h k) = absurd (omega (arith, h.0))
complete mode _ _ rest _ (directive _ (c ∷ cs) _ h k) = directives c cs rest h (name_is_not c 61 h.1.0.0 refl) (name_is_not c 60 h.1.0.0 refl) k
complete mode _ _ _ _ (letter_set _ rest) = refl
complete mode _ _ rest _ (prefix _ _) = refl
complete mode _ _ rest _ (suffix _ _) = refl
complete mode _ _ rest _ (group _ body _ t h) = rw t (ap (kept Group (after_group_here mode)) (ap (after_group 0) (append_assoc body (41 ∷ []) rest) ∙ inside body (41 ∷ rest) 0 h))
complete mode _ spelled rest _ (mark _ kind _ _ m h) = marks mode kind spelled rest m h
