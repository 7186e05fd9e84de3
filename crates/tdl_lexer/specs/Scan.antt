-- What the scanning functions find, over lists of characters.
use Rattle.std.specs.Prelude.{ℕ, zero, suc, Bool, true, false, not, ◌&&◌, ◌==◌, if◌then◌else◌, List, [], ◌∷◌, Option, Some, None, codes}
use Rattle.std.specs.Str.{chars}
use Rattle.std.specs.Char.{is_whitespace}
use denote.Ref.{Bor}
use Rattle.tdl_lexer.specs.declared.TokenKind.{TokenKind}
use Rattle.tdl_lexer.specs.declared.TokenKind.TheVariants.{Name, Text, Symbol, Coref, Directive, LetterSet, Prefix, Suffix, Group, Defined, Added, And, AvmOpens, AvmCloses, ListOpens, ListCloses, DiffOpens, DiffCloses, Comma, Dot, Dots}
use Rattle.tdl_lexer.specs.declared.Mode.{Mode}
use Rattle.tdl_lexer.specs.declared.Mode.TheVariants.{Plain, Near, Direct}
use Rattle.tdl_lexer.specs.declared.pieces.Found.{Found}
use Rattle.tdl_lexer.specs.Characters.{is_name, is_newline}
use Rattle.tdl_lexer.specs.Pieces.{takes_group, after_blank, after_group_here}

-- the characters after the leading ones that pass
abbrev pub past : (ℕ → Bool) → List ℕ → List ℕ
past p [] = []
past p (c ∷ cs) = if p c then past p cs else c ∷ cs

-- a piece of the text: what it is, what may follow, and the characters after it
pub record Cut : Type 0 where
  pub what : Option TokenKind
  pub next : Mode
  pub rest : List ℕ

-- the same of what the code finds
abbrev pub cut_of : Found → Cut
cut_of f = record { what = f.what; next = f.next; rest = chars f.rest.now }

abbrev pub chars_of : Bor (List ℕ) → List ℕ
chars_of text = chars text.now

abbrev pub after_quote : Bool → List ℕ → Option (List ℕ)
after_quote escaped [] = None
after_quote true (c ∷ cs) = after_quote false cs
after_quote false (c ∷ cs) = if c == 34 then Some cs else after_quote (c == 92) cs

-- the characters after those of mark, where they stand first
abbrev pub after_front : List ℕ → List ℕ → Option (List ℕ)
after_front [] cs = Some cs
after_front (m ∷ ms) [] = None
after_front (m ∷ ms) (c ∷ cs) = if c == m then after_front ms cs else None

abbrev pub or_else : {A : Type 0} → Option A → Option A → Option A
or_else (Some x) o = Some x
or_else None o = o

-- the characters after the first place where mark stands
abbrev pub after_mark : List ℕ → List ℕ → Option (List ℕ)
after_mark mark [] = None
after_mark mark (c ∷ cs) = or_else (after_front mark (c ∷ cs)) (after_mark mark cs)

-- the characters after the parenthesis that closes the outermost of depth + 1 groups
abbrev pub after_group : ℕ → List ℕ → Option (List ℕ)
after_group depth [] = None
after_group zero (c ∷ cs) = if c == 40 then after_group 1 cs else (if c == 41 then Some cs else after_group zero cs)
after_group (suc depth) (c ∷ cs) = if c == 40 then after_group (suc (suc depth)) cs else (if c == 41 then after_group depth cs else after_group (suc depth) cs)

abbrev pub skipped : Mode → Option (List ℕ) → Option Cut
skipped next None = None
skipped next (Some rest) = Some (record { what = None; next = next; rest = rest })

abbrev pub kept : TokenKind → Mode → Option (List ℕ) → Option Cut
kept kind next None = None
kept kind next (Some rest) = Some (record { what = Some kind; next = next; rest = rest })

-- the characters after a name that stands first
abbrev pub after_name : List ℕ → Option (List ℕ)
after_name [] = None
after_name (c ∷ cs) = if is_name c then Some (past is_name cs) else None

-- what begins with a colon: the longest mark, or a directive
abbrev pub colon_at : List ℕ → Option Cut
colon_at cs =
    or_else (kept Defined Plain (after_front (codes "=") cs))
    (or_else (kept Defined Plain (after_front (codes "<") cs))
    (or_else (kept Added Plain (after_front (codes "+") cs)) (kept Directive Plain (after_name cs))))

-- the mark that begins with c and goes on with cs, other than those that begin with a colon
abbrev pub mark_at : ℕ → List ℕ → Option Cut
mark_at c cs =
    if c == 44 then kept Comma Plain (Some cs)
    else (if c == 91 then kept AvmOpens Plain (Some cs)
    else (if c == 93 then kept AvmCloses Plain (Some cs)
    else (if c == 38 then kept And Plain (Some cs)
    else (if c == 46 then or_else (kept Dots Plain (after_front (codes "..") cs)) (kept Dot Plain (Some cs))
    else (if c == 60 then or_else (kept DiffOpens Plain (after_front (codes "!") cs)) (kept ListOpens Plain (Some cs))
    else (if c == 62 then kept ListCloses Plain (Some cs)
    else (if c == 33 then kept DiffCloses Plain (after_front (codes ">") cs)
    else None)))))))

abbrev pub docstring_at : List ℕ → Option (List ℕ) → Option Cut
docstring_at cs (Some rest) = skipped Plain (after_mark (codes "\"\"\"") rest)
docstring_at cs None = kept Text Plain (after_quote false cs)

abbrev pub hash_at : List ℕ → Option (List ℕ) → Option Cut
hash_at cs (Some rest) = skipped Plain (after_mark (codes "|#") rest)
hash_at cs None = kept Coref Plain (after_name cs)

-- the letter set that begins with a percent sign, where a parenthesis follows it
abbrev pub letter_set_at : List ℕ → Option (List ℕ) → Option Cut
letter_set_at cs (Some rest) = kept LetterSet Direct (Some cs)
letter_set_at cs None = None

abbrev pub percent_at : List ℕ → Option Cut
percent_at cs =
    or_else (kept Suffix Near (after_front (codes "suffix") cs))
    (or_else (kept Prefix Near (after_front (codes "prefix") cs)) (letter_set_at cs (after_front (codes "(") cs)))

-- the piece that begins with c, which is in no name and no white space, and goes on with cs
abbrev pub signed_at : Mode → ℕ → List ℕ → Option Cut
signed_at mode c cs =
    if c == 59 then skipped Plain (Some (past (λ d. not (is_newline d)) cs))
    else (if c == 34 then docstring_at cs (after_front (codes "\"\"") cs)
    else (if c == 35 then hash_at cs (after_front (codes "|") cs)
    else (if c == 58 then colon_at cs
    else (if c == 39 then kept Symbol Plain (after_name cs)
    else (if c == 37 then percent_at cs
    else (if c == 40 && takes_group mode then kept Group (after_group_here mode) (after_group 0 cs)
    else mark_at c cs))))))

-- the piece that begins with c and goes on with cs
abbrev pub piece_of : Mode → ℕ → List ℕ → Option Cut
piece_of mode c cs =
    if is_whitespace c then Some (record { what = None; next = after_blank mode; rest = cs })
    else (if is_name c then Some (record { what = Some Name; next = Plain; rest = past is_name cs }) else signed_at mode c cs)

abbrev pub piece_at : Mode → List ℕ → Option Cut
piece_at mode [] = None
piece_at mode (c ∷ cs) = piece_of mode c cs
