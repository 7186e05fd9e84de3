-- What the functions find, the relation gives.
use Rattle.std.proofs.Common.{◌≡◌, ℕ, zero, suc, ◌+◌, ◌-◌, ◌<◌, ◌≤◌, Bool, true, false, not, ◌&&◌, List, [], ◌∷◌, ◌++◌, length, length-append, Option, Some, None, sym, ◌∙◌, refl, ap, subst, arith, append_assoc, get_or}
use Rattle.std.specs.Prelude.{codes, if◌then◌else◌, ◌==◌}
use Rattle.std.specs.Char.{is_whitespace}
use Rattle.std.proofs.lemmas.Option.{same_Some, none-some}
use Rattle.std.proofs.lemmas.Bool.{eq-eqb, eqb-true, and_parts, false_from_ne_true}
use Rattle.tdl_lexer.specs.declared.TokenKind.{TokenKind}
use Rattle.tdl_lexer.specs.declared.TokenKind.TheVariants.{Name, Text, Symbol, Coref, Directive, LetterSet, Prefix, Suffix, Group, Defined, Added, And, AvmOpens, AvmCloses, ListOpens, ListCloses, DiffOpens, DiffCloses, Comma, Dot, Dots}
use Rattle.tdl_lexer.specs.declared.Mode.{Mode}
use Rattle.tdl_lexer.specs.declared.Mode.TheVariants.{Plain, Near, Direct}
use Rattle.tdl_lexer.specs.Characters.{is_name, is_newline, width, StopsBefore, IsRun, IsName}
use Rattle.tdl_lexer.specs.Pieces.{IsQuoted, nothing, plain, escaped, IsUpTo, IsInside, empty, other, nested, Mark, defined, below, added, and, avm_opens, avm_closes, list_opens, list_closes, diff_opens, diff_closes, comma, dot, dots, IsLongest, takes_group, after_blank, after_group_here, Piece, blank, line, block, docstring, text, name, symbol, coref, directive, letter_set, prefix, suffix, group, mark, NoPiece}
use Rattle.tdl_lexer.specs.Scan.{Cut, past, after_quote, after_front, or_else, after_mark, after_group, skipped, kept, after_name, colon_at, mark_at, docstring_at, hash_at, letter_set_at, percent_at, signed_at, piece_at}
use Rattle.tdl_lexer.specs.Readings.{Reads, passes, token, stuck, fault}
use Rattle.tdl_lexer.specs.declared.Token.{Token}
use Rattle.tdl_lexer.specs.declared.LexFault.{LexFault}
use Rattle.tdl_lexer.proofs.Complete.{front_is, complete}
use Rattle.std.specs.Str.{chars, IsUtf8}
use Rattle.std.proofs.lemmas.Str.{encodes-chars, encodes-append, length-le-encodes, chars-nil}

-- the piece of a cut
pub record Begins (mode : Mode) (cs : List ℕ) (cut : Cut) : Type 0 where
  pub spelled : List ℕ
  pub split : cs ≡ spelled ++ cut.rest
  pub piece : Piece mode spelled cut.rest cut.what cut.next

-- a way for each side of a choice
split : {A P : Type 0} (b : Bool) (x y : Option A) (a : A) → (if b then x else y) ≡ Some a → (b ≡ true → x ≡ Some a → P) → (b ≡ false → y ≡ Some a → P) → P
split true x y a e f g = f refl e
split false x y a e f g = g refl e

-- the leading characters that pass
record RunOf (p : ℕ → Bool) (cs rest : List ℕ) : Type 0 where
  run : List ℕ
  split : cs ≡ run ++ rest
  holds : IsRun p run rest

run_by : (p : ℕ → Bool) (c : ℕ) (cs : List ℕ) (b : Bool) → p c ≡ b → RunOf p cs (past p cs) → RunOf p (c ∷ cs) (if b then past p cs else c ∷ cs)
run_by p c cs true e h = record { run = c ∷ h.run; split = ap (λ l. c ∷ l) h.split; holds = ((e, h.holds.0), h.holds.1) }
run_by p c cs false e h = record { run = []; split = refl; holds = (tt, e) }

run_of : (p : ℕ → Bool) (cs : List ℕ) → RunOf p cs (past p cs)
run_of p [] = record { run = []; split = refl; holds = (tt, tt) }
run_of p (c ∷ cs) = run_by p c cs (p c) refl (run_of p cs)

-- a string's text and what follows its closing quote
record QuotedTo (cs rest : List ℕ) : Type 0 where
  body : List ℕ
  split : cs ≡ body ++ 34 ∷ rest
  quoted : IsQuoted body

quoted_by : (c d : ℕ) (ds rest : List ℕ) (b : Bool) → (c == 92) ≡ b → (c == 34) ≡ false → after_quote b (d ∷ ds) ≡ Some rest
    → (after_quote false (d ∷ ds) ≡ Some rest → QuotedTo (d ∷ ds) rest) → (after_quote false ds ≡ Some rest → QuotedTo ds rest) → QuotedTo (c ∷ d ∷ ds) rest
quoted_by c d ds rest true q n e f g = let h = g e in record { body = 92 ∷ d ∷ h.body; split = rw (eqb-true c 92 q, h.split) refl; quoted = escaped d h.body h.quoted }
quoted_by c d ds rest false q n e f g = let h = f e in record { body = c ∷ h.body; split = ap (λ l. c ∷ l) h.split; quoted = plain c h.body n q h.quoted }

quoted_end : (c : ℕ) (rest : List ℕ) (b : Bool) → after_quote b [] ≡ Some rest → QuotedTo (c ∷ []) rest
quoted_end c rest b e = absurd (none-some _ e)

quoted_of : (cs rest : List ℕ) → after_quote false cs ≡ Some rest → QuotedTo cs rest
quoted_of [] rest e = absurd (none-some _ e)
quoted_of (c ∷ []) rest e = split (c == 34) _ _ rest e (λ q f. record { body = []; split = rw (eqb-true c 34 q, same_Some _ _ f) refl; quoted = nothing }) (λ q f. quoted_end c rest (c == 92) f)
quoted_of (c ∷ d ∷ ds) rest e =
    split (c == 34) _ _ rest e
    (λ q f. record { body = []; split = rw (eqb-true c 34 q, same_Some _ _ f) refl; quoted = nothing })
    (λ q f. quoted_by c d ds rest (c == 92) refl q f (quoted_of (d ∷ ds) rest) (quoted_of ds rest))

-- what closes one more group than n, one after another
data Layers : ℕ → List ℕ → List ℕ → Type 0 where
  last : (b cs rest : List ℕ) → cs ≡ b ++ 41 ∷ rest → IsInside b → Layers zero cs rest
  more : (n : ℕ) (b cs after rest : List ℕ) → cs ≡ b ++ 41 ∷ after → IsInside b → Layers n after rest → Layers (suc n) cs rest

-- more text inside the first group
wider : (n : ℕ) (pre cs rest : List ℕ) → ((b : List ℕ) → IsInside b → IsInside (pre ++ b)) → Layers n cs rest → Layers n (pre ++ cs) rest
wider _ pre cs rest f (last b _ _ e h) = last (pre ++ b) (pre ++ cs) rest (ap (λ l. pre ++ l) e ∙ sym (append_assoc pre b (41 ∷ rest))) (f b h)
wider _ pre cs rest f (more n b _ after _ e h k) = more n (pre ++ b) (pre ++ cs) after rest (ap (λ l. pre ++ l) e ∙ sym (append_assoc pre b (41 ∷ after))) (f b h) k

opened : (n : ℕ) (cs rest : List ℕ) → Layers (suc n) cs rest → Layers n (40 ∷ cs) rest
opened n cs rest (more _ b _ after _ e h k) =
    subst (λ l. Layers n l rest) (ap (λ l. 40 ∷ l) (append_assoc b (41 ∷ []) after ∙ sym e))
    (wider n (40 ∷ (b ++ 41 ∷ [])) after rest (λ d j. subst IsInside (ap (λ l. 40 ∷ l) (sym (append_assoc b (41 ∷ []) d))) (nested b d h j)) k)

layers_of : (cs : List ℕ) (n : ℕ) (rest : List ℕ) → after_group n cs ≡ Some rest → Layers n cs rest
layers_of [] n rest e = absurd (none-some _ e)
layers_of (c ∷ cs) zero rest e =
    split (c == 40) _ _ rest e
    (λ q f. subst (λ d. Layers zero (d ∷ cs) rest) (sym (eqb-true c 40 q)) (opened zero cs rest (layers_of cs 1 rest f)))
    (λ q f. split (c == 41) _ _ rest f
    (λ r g. last [] (c ∷ cs) rest (rw (eqb-true c 41 r, same_Some _ _ g) refl) empty)
    (λ r g. wider zero (c ∷ []) cs rest (λ b. other c b q r) (layers_of cs zero rest g)))
layers_of (c ∷ cs) (suc n) rest e =
    split (c == 40) _ _ rest e
    (λ q f. subst (λ d. Layers (suc n) (d ∷ cs) rest) (sym (eqb-true c 40 q)) (opened (suc n) cs rest (layers_of cs (suc (suc n)) rest f)))
    (λ q f. split (c == 41) _ _ rest f
    (λ r g. more n [] (c ∷ cs) cs rest (rw (eqb-true c 41 r) refl) empty (layers_of cs n rest g))
    (λ r g. wider (suc n) (c ∷ []) cs rest (λ b. other c b q r) (layers_of cs (suc n) rest g)))

-- the text up to the first place of a mark
record UpTo (m cs rest : List ℕ) : Type 0 where
  body : List ℕ
  split : cs ≡ body ++ (m ++ rest)
  first : IsUpTo m body

nothing_of : {A : Type 0} (xs : List A) → length xs ≡ 0 → xs ≡ []
nothing_of [] e = refl
nothing_of (x ∷ xs) e = absurd (omega arith)

front_of : (m cs : List ℕ) → after_front m (m ++ cs) ≡ Some cs
front_of [] cs = refl
front_of (x ∷ m) cs = rw (eq-eqb x x refl) (front_of m cs)

up_to_next : (m body rest : List ℕ) (c : ℕ) → after_front m (c ∷ (body ++ (m ++ rest))) ≡ None → IsUpTo m body → (front back : List ℕ) → c ∷ (body ++ m) ≡ front ++ (m ++ back) → back ≡ []
up_to_next m body rest c none h [] back e =
    absurd (none-some _ (sym none ∙ (ap (after_front m) (ap (λ l. c ∷ l) (sym (append_assoc body m rest)) ∙ (ap (λ l. l ++ rest) e ∙ append_assoc m back rest)) ∙ front_of m (back ++ rest))))
up_to_next m body rest c none h (f ∷ fs) back e = h.first fs back (cc)

up_to_by : (m cs rest : List ℕ) (c : ℕ) (o : Option (List ℕ)) → after_front m (c ∷ cs) ≡ o → or_else o (after_mark m cs) ≡ Some rest → (after_mark m cs ≡ Some rest → UpTo m cs rest) → UpTo m (c ∷ cs) rest
up_to_by m cs rest c (Some r) f e g = record { body = []; split = front_is m (c ∷ cs) rest (f ∙ e); first = record { first = λ front back eq. nothing_of back (omega (arith, ap length eq ∙ length-append front (m ++ back), length-append m back)) } }
up_to_by m cs rest c None f e g =
    let h = g e in
    record { body = c ∷ h.body; split = ap (λ l. c ∷ l) h.split; first = record { first = up_to_next m h.body rest c (ap (λ l. after_front m (c ∷ l)) (sym h.split) ∙ f) h.first } }

up_to_of : (m cs rest : List ℕ) → after_mark m cs ≡ Some rest → UpTo m cs rest
up_to_of m [] rest e = absurd (none-some _ e)
up_to_of m (c ∷ cs) rest e = up_to_by m cs rest c (after_front m (c ∷ cs)) refl e (up_to_of m cs rest)

or_split : {A P : Type 0} (o p : Option A) (a : A) → or_else o p ≡ Some a → (o ≡ Some a → P) → (o ≡ None → p ≡ Some a → P) → P
or_split (Some x) p a e f g = f e
or_split None p a e f g = g refl e

-- what a cut that is kept, or skipped, goes on with
kept_is : {P : Type 0} (kind : TokenKind) (next : Mode) (o : Option (List ℕ)) (cut : Cut) → kept kind next o ≡ Some cut → ((rest : List ℕ) → o ≡ Some rest → record { what = Some kind; next = next; rest = rest } ≡ cut → P) → P
kept_is kind next None cut e f = absurd (none-some _ e)
kept_is kind next (Some rest) cut e f = f rest refl (same_Some _ _ e)

kept_none : (kind : TokenKind) (next : Mode) (o : Option (List ℕ)) → kept kind next o ≡ None → o ≡ None
kept_none kind next None e = refl
kept_none kind next (Some rest) e = absurd (none-some _ (sym e))

skipped_is : {P : Type 0} (next : Mode) (o : Option (List ℕ)) (cut : Cut) → skipped next o ≡ Some cut → ((rest : List ℕ) → o ≡ Some rest → record { what = None; next = next; rest = rest } ≡ cut → P) → P
skipped_is next None cut e f = absurd (none-some _ e)
skipped_is next (Some rest) cut e f = f rest refl (same_Some _ _ e)

begins : (mode next : Mode) (cs p rest : List ℕ) (what : Option TokenKind) (cut : Cut) → cs ≡ p ++ rest → Piece mode p rest what next → record { what = what; next = next; rest = rest } ≡ cut → Begins mode cs cut
begins mode next cs p rest what cut e h c = subst (Begins mode cs) c (record { spelled = p; split = e; piece = h })

other_head : {P : Type 0} (a b : ℕ) (xs ys : List ℕ) → a ∷ xs ≡ b ∷ ys → (a ≡ b → ⊥) → P
other_head a b xs ys e f = absurd (f (ap (λ l. get_or l 0 0) e))

abbrev tail_of : List ℕ → List ℕ
tail_of [] = []
tail_of (c ∷ cs) = cs

-- a mark of two characters is the longest, since those of three begin with a dot
longest_two : (a b : ℕ) (rest : List ℕ) → (a ≡ 46 → ⊥) → IsLongest (a ∷ b ∷ []) rest
longest_two a b rest h _ _ tail defined e = omega arith
longest_two a b rest h _ _ tail below e = omega arith
longest_two a b rest h _ _ tail added e = omega arith
longest_two a b rest h _ _ tail and e = omega arith
longest_two a b rest h _ _ tail avm_opens e = omega arith
longest_two a b rest h _ _ tail avm_closes e = omega arith
longest_two a b rest h _ _ tail list_opens e = omega arith
longest_two a b rest h _ _ tail list_closes e = omega arith
longest_two a b rest h _ _ tail diff_opens e = omega arith
longest_two a b rest h _ _ tail diff_closes e = omega arith
longest_two a b rest h _ _ tail comma e = omega arith
longest_two a b rest h _ _ tail dot e = omega arith
longest_two a b rest h _ _ tail dots e = other_head a 46 _ _ e h

longest_dots : (rest : List ℕ) → IsLongest (codes "...") rest
longest_dots rest _ _ tail defined e = omega arith
longest_dots rest _ _ tail below e = omega arith
longest_dots rest _ _ tail added e = omega arith
longest_dots rest _ _ tail and e = omega arith
longest_dots rest _ _ tail avm_opens e = omega arith
longest_dots rest _ _ tail avm_closes e = omega arith
longest_dots rest _ _ tail list_opens e = omega arith
longest_dots rest _ _ tail list_closes e = omega arith
longest_dots rest _ _ tail diff_opens e = omega arith
longest_dots rest _ _ tail diff_closes e = omega arith
longest_dots rest _ _ tail comma e = omega arith
longest_dots rest _ _ tail dot e = omega arith
longest_dots rest _ _ tail dots e = omega arith

not_there : {P : Type 0} (m cs tail : List ℕ) → after_front m cs ≡ None → cs ≡ m ++ tail → P
not_there m cs tail n e = absurd (none-some _ (sym n ∙ (ap (after_front m) e ∙ front_of m tail)))

-- a mark of one character that begins no longer one
longest_one : (a : ℕ) (rest : List ℕ) → (a ≡ 58 → ⊥) → (a ≡ 60 → ⊥) → (a ≡ 33 → ⊥) → (a ≡ 46 → ⊥) → IsLongest (a ∷ []) rest
longest_one a rest colon angle bang dot_sign _ _ tail defined e = other_head a 58 _ _ e colon
longest_one a rest colon angle bang dot_sign _ _ tail below e = other_head a 58 _ _ e colon
longest_one a rest colon angle bang dot_sign _ _ tail added e = other_head a 58 _ _ e colon
longest_one a rest colon angle bang dot_sign _ _ tail and e = omega arith
longest_one a rest colon angle bang dot_sign _ _ tail avm_opens e = omega arith
longest_one a rest colon angle bang dot_sign _ _ tail avm_closes e = omega arith
longest_one a rest colon angle bang dot_sign _ _ tail list_opens e = omega arith
longest_one a rest colon angle bang dot_sign _ _ tail list_closes e = omega arith
longest_one a rest colon angle bang dot_sign _ _ tail diff_opens e = other_head a 60 _ _ e angle
longest_one a rest colon angle bang dot_sign _ _ tail diff_closes e = other_head a 33 _ _ e bang
longest_one a rest colon angle bang dot_sign _ _ tail comma e = omega arith
longest_one a rest colon angle bang dot_sign _ _ tail dot e = omega arith
longest_one a rest colon angle bang dot_sign _ _ tail dots e = other_head a 46 _ _ e dot_sign

longest_opens : (rest : List ℕ) → after_front (codes "!") rest ≡ None → IsLongest (codes "<") rest
longest_opens rest n _ _ tail defined e = other_head 60 58 _ _ e (λ h. omega arith)
longest_opens rest n _ _ tail below e = other_head 60 58 _ _ e (λ h. omega arith)
longest_opens rest n _ _ tail added e = other_head 60 58 _ _ e (λ h. omega arith)
longest_opens rest n _ _ tail and e = omega arith
longest_opens rest n _ _ tail avm_opens e = omega arith
longest_opens rest n _ _ tail avm_closes e = omega arith
longest_opens rest n _ _ tail list_opens e = omega arith
longest_opens rest n _ _ tail list_closes e = omega arith
longest_opens rest n _ _ tail diff_opens e = not_there (codes "!") rest tail n (ap tail_of e)
longest_opens rest n _ _ tail diff_closes e = other_head 60 33 _ _ e (λ h. omega arith)
longest_opens rest n _ _ tail comma e = omega arith
longest_opens rest n _ _ tail dot e = omega arith
longest_opens rest n _ _ tail dots e = other_head 60 46 _ _ e (λ h. omega arith)

longest_dot : (rest : List ℕ) → after_front (codes "..") rest ≡ None → IsLongest (codes ".") rest
longest_dot rest n _ _ tail defined e = other_head 46 58 _ _ e (λ h. omega arith)
longest_dot rest n _ _ tail below e = other_head 46 58 _ _ e (λ h. omega arith)
longest_dot rest n _ _ tail added e = other_head 46 58 _ _ e (λ h. omega arith)
longest_dot rest n _ _ tail and e = omega arith
longest_dot rest n _ _ tail avm_opens e = omega arith
longest_dot rest n _ _ tail avm_closes e = omega arith
longest_dot rest n _ _ tail list_opens e = omega arith
longest_dot rest n _ _ tail list_closes e = omega arith
longest_dot rest n _ _ tail diff_opens e = other_head 46 60 _ _ e (λ h. omega arith)
longest_dot rest n _ _ tail diff_closes e = other_head 46 33 _ _ e (λ h. omega arith)
longest_dot rest n _ _ tail comma e = omega arith
longest_dot rest n _ _ tail dot e = omega arith
longest_dot rest n _ _ tail dots e = not_there (codes "..") rest tail n (ap tail_of e)

by_one : (mode : Mode) (kind : TokenKind) (k c : ℕ) (cs : List ℕ) (cut : Cut) → (c == k) ≡ true → Mark kind (k ∷ []) → IsLongest (k ∷ []) cs → kept kind Plain (Some cs) ≡ Some cut → Begins mode (c ∷ cs) cut
by_one mode kind k c cs cut q m h e = begins mode Plain (c ∷ cs) (k ∷ []) cs (Some kind) cut (ap (λ d. d ∷ cs) (eqb-true c k q)) (mark mode kind (k ∷ []) cs m h) (same_Some _ _ e)

by_more : (mode : Mode) (kind : TokenKind) (k c : ℕ) (ks cs : List ℕ) (cut : Cut) → (c == k) ≡ true → Mark kind (k ∷ ks) → ((rest : List ℕ) → IsLongest (k ∷ ks) rest) → kept kind Plain (after_front ks cs) ≡ Some cut → Begins mode (c ∷ cs) cut
by_more mode kind k c ks cs cut q m h e =
    kept_is kind Plain (after_front ks cs) cut e (λ rest o d.
    begins mode Plain (c ∷ cs) (k ∷ ks) rest (Some kind) cut (ap (λ d. d ∷ cs) (eqb-true c k q) ∙ ap (λ l. k ∷ l) (front_is ks cs rest o)) (mark mode kind (k ∷ ks) rest m (h rest)) d)

mark_of : (mode : Mode) (c : ℕ) (cs : List ℕ) (cut : Cut) → mark_at c cs ≡ Some cut → Begins mode (c ∷ cs) cut
mark_of mode c cs cut e =
    split (c == 44) _ _ cut e (λ q f. by_one mode Comma 44 c cs cut q comma (longest_one 44 cs (λ h. omega arith) (λ h. omega arith) (λ h. omega arith) (λ h. omega arith)) f)
    (λ _ e. split (c == 91) _ _ cut e (λ q f. by_one mode AvmOpens 91 c cs cut q avm_opens (longest_one 91 cs (λ h. omega arith) (λ h. omega arith) (λ h. omega arith) (λ h. omega arith)) f)
    (λ _ e. split (c == 93) _ _ cut e (λ q f. by_one mode AvmCloses 93 c cs cut q avm_closes (longest_one 93 cs (λ h. omega arith) (λ h. omega arith) (λ h. omega arith) (λ h. omega arith)) f)
    (λ _ e. split (c == 38) _ _ cut e (λ q f. by_one mode And 38 c cs cut q and (longest_one 38 cs (λ h. omega arith) (λ h. omega arith) (λ h. omega arith) (λ h. omega arith)) f)
    (λ _ e. split (c == 46) _ _ cut e
    (λ q f. or_split _ _ cut f (λ g. by_more mode Dots 46 c (codes "..") cs cut q dots longest_dots g)
    (λ n g. by_one mode Dot 46 c cs cut q dot (longest_dot cs (kept_none Dots Plain _ n)) g))
    (λ _ e. split (c == 60) _ _ cut e
    (λ q f. or_split _ _ cut f (λ g. by_more mode DiffOpens 60 c (codes "!") cs cut q diff_opens (λ rest. longest_two 60 33 rest (λ h. omega arith)) g)
    (λ n g. by_one mode ListOpens 60 c cs cut q list_opens (longest_opens cs (kept_none DiffOpens Plain _ n)) g))
    (λ _ e. split (c == 62) _ _ cut e (λ q f. by_one mode ListCloses 62 c cs cut q list_closes (longest_one 62 cs (λ h. omega arith) (λ h. omega arith) (λ h. omega arith) (λ h. omega arith)) f)
    (λ _ e. split (c == 33) _ _ cut e (λ q f. by_more mode DiffCloses 33 c (codes ">") cs cut q diff_closes (λ rest. longest_two 33 62 rest (λ h. omega arith)) f)
    (λ _ f. absurd (none-some _ f)))))))))

-- a name at the front
record NameTo (cs rest : List ℕ) : Type 0 where
  spelled : List ℕ
  split : cs ≡ spelled ++ rest
  holds : IsName spelled rest

name_to : (c : ℕ) (cs : List ℕ) → is_name c ≡ true → NameTo (c ∷ cs) (past is_name cs)
name_to c cs q = let r = run_of is_name cs in record { spelled = c ∷ r.run; split = ap (λ l. c ∷ l) r.split; holds = (omega arith, ((q, r.holds.0), r.holds.1)) }

name_of : (cs rest : List ℕ) → after_name cs ≡ Some rest → NameTo cs rest
name_of [] rest e = absurd (none-some _ e)
name_of (c ∷ cs) rest e = split (is_name c) _ _ rest e (λ q f. subst (NameTo (c ∷ cs)) (same_Some _ _ f) (name_to c cs q)) (λ q f. absurd (none-some _ f))

plain_first : (cs rest body : List ℕ) → after_front (codes "\"\"") cs ≡ None → cs ≡ body ++ 34 ∷ rest → length body ≡ 0 → StopsBefore (λ c. c == 34) rest
plain_first cs [] body n e l = tt
plain_first cs (d ∷ ds) [] n e l = false_from_ne_true (d == 34) (λ h. not_there (codes "\"\"") cs ds n (e ∙ (rw (eqb-true d 34 h) refl)))
plain_first cs (d ∷ ds) (b ∷ bs) n e l = absurd (omega arith)

docstring_of : (mode : Mode) (cs : List ℕ) (cut : Cut) (o : Option (List ℕ)) → after_front (codes "\"\"") cs ≡ o → docstring_at cs o ≡ Some cut → Begins mode (34 ∷ cs) cut
docstring_of mode cs cut (Some inner) f e =
    skipped_is Plain _ cut e (λ rest o c.
    let u = up_to_of (codes "\"\"\"") inner rest o in
    begins mode Plain (34 ∷ cs) (codes "\"\"\"" ++ (u.body ++ codes "\"\"\"")) rest None cut
    (ap (λ l. 34 ∷ l) (front_is (codes "\"\"") cs inner f ∙ ap (λ l. 34 ∷ 34 ∷ l) (u.split ∙ sym (append_assoc u.body (codes "\"\"\"") rest))))
    (docstring mode u.body rest u.first) c)
docstring_of mode cs cut None f e =
    kept_is Text Plain _ cut e (λ rest o c.
    let q = quoted_of cs rest o in
    begins mode Plain (34 ∷ cs) (34 ∷ (q.body ++ 34 ∷ [])) rest (Some Text) cut
    (ap (λ l. 34 ∷ l) (q.split ∙ sym (append_assoc q.body (34 ∷ []) rest)))
    (text mode q.body rest q.quoted (plain_first cs rest q.body f q.split)) c)

hash_of : (mode : Mode) (cs : List ℕ) (cut : Cut) (o : Option (List ℕ)) → after_front (codes "|") cs ≡ o → hash_at cs o ≡ Some cut → Begins mode (35 ∷ cs) cut
hash_of mode cs cut (Some inner) f e =
    skipped_is Plain _ cut e (λ rest o c.
    let u = up_to_of (codes "|#") inner rest o in
    begins mode Plain (35 ∷ cs) (codes "#|" ++ (u.body ++ codes "|#")) rest None cut
    (ap (λ l. 35 ∷ l) (front_is (codes "|") cs inner f ∙ ap (λ l. 124 ∷ l) (u.split ∙ sym (append_assoc u.body (codes "|#") rest))))
    (block mode u.body rest u.first) c)
hash_of mode cs cut None f e =
    kept_is Coref Plain _ cut e (λ rest o c.
    let n = name_of cs rest o in
    begins mode Plain (35 ∷ cs) (35 ∷ n.spelled) rest (Some Coref) cut (ap (λ l. 35 ∷ l) n.split) (coref mode n.spelled rest n.holds) c)

group_of : (cs rest : List ℕ) → Layers zero cs rest → (body : List ℕ) × (cs ≡ body ++ 41 ∷ rest) × IsInside body
group_of cs rest (last b _ _ e h) = (b, e, h)

-- where no `+` follows the colon
no_plus : (cs spelled rest : List ℕ) → after_front (codes "+") cs ≡ None → cs ≡ spelled ++ rest → StopsBefore (λ d. d == 43) spelled
no_plus cs [] rest n e = tt
no_plus cs (d ∷ ds) rest n e = false_from_ne_true (d == 43) (λ h. not_there (codes "+") cs (ds ++ rest) n (e ∙ (rw (eqb-true d 43 h) refl)))

colon_of : (mode : Mode) (c : ℕ) (cs : List ℕ) (cut : Cut) → (c == 58) ≡ true → colon_at cs ≡ Some cut → Begins mode (c ∷ cs) cut
colon_of mode c cs cut q e =
    or_split _ _ cut e (λ g. by_more mode Defined 58 c (codes "=") cs cut q defined (λ rest. longest_two 58 61 rest (λ h. omega arith)) g)
    (λ _ e. or_split _ _ cut e (λ g. by_more mode Defined 58 c (codes "<") cs cut q below (λ rest. longest_two 58 60 rest (λ h. omega arith)) g)
    (λ _ e. or_split _ _ cut e (λ g. by_more mode Added 58 c (codes "+") cs cut q added (λ rest. longest_two 58 43 rest (λ h. omega arith)) g)
    (λ k e. kept_is Directive Plain _ cut e (λ rest o d. let n = name_of cs rest o in
    begins mode Plain (c ∷ cs) (58 ∷ n.spelled) rest (Some Directive) cut (rw (eqb-true c 58 q) (ap (λ l. 58 ∷ l) n.split)) (directive mode n.spelled rest n.holds (no_plus cs n.spelled rest (kept_none Added Plain _ k) n.split)) d))))

letter_set_of : (mode : Mode) (c : ℕ) (cs : List ℕ) (cut : Cut) (o : Option (List ℕ)) → (c == 37) ≡ true → after_front (codes "(") cs ≡ o → letter_set_at cs o ≡ Some cut → Begins mode (c ∷ cs) cut
letter_set_of mode c cs cut (Some inner) q f e =
    let s = front_is (codes "(") cs inner f in
    begins mode Direct (c ∷ cs) (codes "%") (40 ∷ inner) (Some LetterSet) cut (ap (λ d. d ∷ cs) (eqb-true c 37 q) ∙ ap (λ l. 37 ∷ l) s) (letter_set mode inner)
    (ap (λ r. record { what = Some LetterSet; next = Direct; rest = r }) (sym s) ∙ same_Some _ _ e)
letter_set_of mode c cs cut None q f e = absurd (none-some _ e)

percent_of : (mode : Mode) (c : ℕ) (cs : List ℕ) (cut : Cut) → (c == 37) ≡ true → percent_at cs ≡ Some cut → Begins mode (c ∷ cs) cut
percent_of mode c cs cut q e =
    or_split _ _ cut e
    (λ g. kept_is Suffix Near _ cut g (λ rest o d. begins mode Near (c ∷ cs) (codes "%suffix") rest (Some Suffix) cut (rw (eqb-true c 37 q) (ap (λ l. 37 ∷ l) (front_is (codes "suffix") cs rest o))) (suffix mode rest) d))
    (λ _ e. or_split _ _ cut e
    (λ g. kept_is Prefix Near _ cut g (λ rest o d. begins mode Near (c ∷ cs) (codes "%prefix") rest (Some Prefix) cut (rw (eqb-true c 37 q) (ap (λ l. 37 ∷ l) (front_is (codes "prefix") cs rest o))) (prefix mode rest) d))
    (λ _ g. letter_set_of mode c cs cut _ q refl g))

signed_of : (mode : Mode) (c : ℕ) (cs : List ℕ) (cut : Cut) → signed_at mode c cs ≡ Some cut → Begins mode (c ∷ cs) cut
signed_of mode c cs cut e =
    split (c == 59) _ _ cut e
    (λ q f. let r = run_of (λ d. not (is_newline d)) cs in begins mode Plain (c ∷ cs) (59 ∷ r.run) _ None cut (rw (eqb-true c 59 q) (ap (λ l. 59 ∷ l) r.split)) (line mode r.run _ r.holds) (same_Some _ _ f))
    (λ _ e. split (c == 34) _ _ cut e (λ q f. rw (eqb-true c 34 q) (docstring_of mode cs cut _ refl f))
    (λ _ e. split (c == 35) _ _ cut e (λ q f. rw (eqb-true c 35 q) (hash_of mode cs cut _ refl f))
    (λ _ e. split (c == 58) _ _ cut e (λ q f. colon_of mode c cs cut q f)
    (λ _ e. split (c == 39) _ _ cut e
    (λ q f. kept_is Symbol Plain _ cut f (λ rest o d. let n = name_of cs rest o in
    begins mode Plain (c ∷ cs) (39 ∷ n.spelled) rest (Some Symbol) cut (rw (eqb-true c 39 q) (ap (λ l. 39 ∷ l) n.split)) (symbol mode n.spelled rest n.holds) d))
    (λ _ e. split (c == 37) _ _ cut e (λ q f. percent_of mode c cs cut q f)
    (λ _ e. split (c == 40 && takes_group mode) _ _ cut e
    (λ q f. let b = and_parts _ _ q in kept_is Group (after_group_here mode) _ cut f (λ rest o d. let g = group_of cs rest (layers_of cs 0 rest o) in
    begins mode (after_group_here mode) (c ∷ cs) (40 ∷ (g.0 ++ 41 ∷ [])) rest (Some Group) cut (rw (eqb-true c 40 b.0) (ap (λ l. 40 ∷ l) (g.1 ∙ sym (append_assoc g.0 (41 ∷ []) rest)))) (group mode g.0 rest b.1 g.2) d))
    (λ _ f. mark_of mode c cs cut f)))))))

-- each cut is a piece
pub sound : (mode : Mode) (cs : List ℕ) (cut : Cut) → piece_at mode cs ≡ Some cut → Begins mode cs cut
sound mode [] cut e = absurd (none-some _ e)
sound mode (c ∷ cs) cut e =
    split (is_whitespace c) _ _ cut e (λ q f. begins mode (after_blank mode) (c ∷ cs) (c ∷ []) cs None cut refl (blank mode c cs q) (same_Some _ _ f))
    (λ _ e. split (is_name c) _ _ cut e
    (λ q f. let n = name_to c cs q in begins mode Plain (c ∷ cs) n.spelled (past is_name cs) (Some Name) cut n.split (name mode n.spelled (past is_name cs) n.holds) (same_Some _ _ f))
    (λ _ f. signed_of mode c cs cut f))

-- where no cut is found, nothing begins
pub nothing_begins : (mode : Mode) (cs : List ℕ) → piece_at mode cs ≡ None → NoPiece mode cs
nothing_begins mode cs e p r what next f h = none-some _ (sym e ∙ (ap (piece_at mode) f ∙ complete mode next p r what h))

-- the bytes of a text are those of its front and of the rest
pub width_of : (a b p : List ℕ) → IsUtf8 a → IsUtf8 b → chars a ≡ p ++ chars b → length a ≡ width p + length b
width_of a b p u v e = ap length (sym (encodes-chars a u)) ∙ (ap width e ∙ (ap length (encodes-append p (chars b)) ∙ (length-append _ _ ∙ ap (λ l. width p + length l) (encodes-chars b v))))

marked : {kind : TokenKind} {p : List ℕ} → Mark kind p → 0 < length p
marked defined = omega arith
marked below = omega arith
marked added = omega arith
marked and = omega arith
marked avm_opens = omega arith
marked avm_closes = omega arith
marked list_opens = omega arith
marked list_closes = omega arith
marked diff_opens = omega arith
marked diff_closes = omega arith
marked comma = omega arith
marked dot = omega arith
marked dots = omega arith

-- a piece has a character
pub nonempty : (mode next : Mode) (p rest : List ℕ) (what : Option TokenKind) → Piece mode p rest what next → 0 < length p
nonempty _ _ _ _ _ (blank _ _ _ _) = omega arith
nonempty _ _ _ _ _ (line _ _ _ _) = omega arith
nonempty _ _ _ _ _ (block _ _ _ _) = omega arith
nonempty _ _ _ _ _ (docstring _ _ _ _) = omega arith
nonempty _ _ _ _ _ (text _ _ _ _ _) = omega arith
nonempty _ _ _ _ _ (name _ _ _ h) = h.0
nonempty _ _ _ _ _ (symbol _ _ _ _) = omega arith
nonempty _ _ _ _ _ (coref _ _ _ _) = omega arith
nonempty _ _ _ _ _ (directive _ _ _ _ _) = omega arith
nonempty _ _ _ _ _ (letter_set _ _) = omega arith
nonempty _ _ _ _ _ (prefix _ _) = omega arith
nonempty _ _ _ _ _ (suffix _ _) = omega arith
nonempty _ _ _ _ _ (group _ _ _ _ _) = omega arith
nonempty _ _ _ _ _ (mark _ _ _ _ m _) = marked m

-- what a piece leaves of a text
pub record Left (mode next : Mode) (a b : List ℕ) (what : Option TokenKind) : Type 0 where
  pub spelled : List ℕ
  pub split : chars a ≡ spelled ++ chars b
  pub piece : Piece mode spelled (chars b) what next
  pub size : length a ≡ width spelled + length b
  pub shorter : length b < length a

pub left_of : (mode next : Mode) (a b : List ℕ) (what : Option TokenKind) → IsUtf8 a → IsUtf8 b → piece_at mode (chars a) ≡ Some (record { what = what; next = next; rest = chars b }) → Left mode next a b what
left_of mode next a b what u v e =
    let h = sound mode (chars a) _ e in
    let w = width_of a b h.spelled u v h.split in
    let n = nonempty mode next h.spelled (chars b) what h.piece in
    record { spelled = h.spelled; split = h.split; piece = h.piece; size = w; shorter = omega (arith, w, n, length-le-encodes h.spelled) }

-- the place after a piece
after : (mode next : Mode) (start total : ℕ) (a b : List ℕ) (what : Option TokenKind) → length a ≤ total → (h : Left mode next a b what) → start + (total - length b) ≡ start + (total - length a) + width h.spelled
after mode next start total a b what l h = omega (arith, h.size)

pub skip_piece : (mode next : Mode) (start total : ℕ) (a b : List ℕ) (ts : List Token) (end : Option LexFault) → length a ≤ total → Left mode next a b None → Reads next (start + (total - length b)) (chars b) ts end → Reads mode (start + (total - length a)) (chars a) ts end
skip_piece mode next start total a b ts end l h r =
    passes mode next (start + (total - length a)) (chars a) h.spelled (chars b) ts end h.split h.piece (subst (λ n. Reads next n (chars b) ts end) (after mode next start total a b None l h) r)

pub take_piece : (mode next : Mode) (start total : ℕ) (a b : List ℕ) (kind : TokenKind) (ts : List Token) (end : Option LexFault) → length a ≤ total → Left mode next a b (Some kind) → Reads next (start + (total - length b)) (chars b) ts end
    → Reads mode (start + (total - length a)) (chars a) (record { kind = kind; from = start + (total - length a); to = start + (total - length b) } ∷ ts) end
take_piece mode next start total a b kind ts end l h r =
    let e = after mode next start total a b (Some kind) l h in
    rw e (token mode next (start + (total - length a)) (chars a) h.spelled (chars b) kind ts end h.split h.piece (subst (λ n. Reads next n (chars b) ts end) e r))

pub fault_at : (mode : Mode) (at : ℕ) (cs : List ℕ) → (cs ≡ [] → ⊥) → piece_at mode cs ≡ None → Reads mode at cs [] (Some (fault mode at cs))
fault_at mode at [] h e = absurd (h refl)
fault_at mode at (c ∷ cs) h e = stuck mode at c cs (nothing_begins mode (c ∷ cs) e)

pub empty_text : (a : List ℕ) → length a ≡ 0 → chars a ≡ []
empty_text a e = ap chars (nothing_of a e) ∙ chars-nil

pub no_empty : (a : List ℕ) → IsUtf8 a → (length a ≡ 0 → ⊥) → chars a ≡ [] → ⊥
no_empty a u h e = h (ap length (sym (encodes-chars a u)) ∙ ap width e)

-- what the tokens so far make of the tokens from a place on
abbrev pub Goes : Mode → ℕ → List ℕ → List ℕ → Mode → ℕ → List Token → Type 0
Goes first start whole rest mode at done = (ts : List Token) (end : Option LexFault) → Reads mode at rest ts end → Reads first start whole (done ++ ts) end

pub goes_on_token : (first mode next : Mode) (start total : ℕ) (whole a b : List ℕ) (what : Option TokenKind) (kind : TokenKind) (done out : List Token) → length a ≤ total → Left mode next a b what → what ≡ Some kind
    → out ≡ done ++ record { kind = kind; from = start + (total - length a); to = start + (total - length b) } ∷ [] → Goes first start whole (chars a) mode (start + (total - length a)) done → Goes first start whole (chars b) next (start + (total - length b)) out
goes_on_token first mode next start total whole a b what kind done out l h w e f ts end r =
    subst (λ o. Reads first start whole o end) (sym (ap (λ o. o ++ ts) e ∙ append_assoc done _ ts)) (f _ end (take_piece mode next start total a b kind ts end l (subst (Left mode next a b) w h) r))

pub goes_on : (first mode next : Mode) (start total : ℕ) (whole a b : List ℕ) (what : Option TokenKind) (done out : List Token) → length a ≤ total → Left mode next a b what → what ≡ None
    → out ≡ done → Goes first start whole (chars a) mode (start + (total - length a)) done → Goes first start whole (chars b) next (start + (total - length b)) out
goes_on first mode next start total whole a b what done out l h w e f ts end r =
    subst (λ o. Reads first start whole (o ++ ts) end) (sym e) (f ts end (skip_piece mode next start total a b ts end l (subst (Left mode next a b) w h) r))
