-- Which MRSs the tokens of a text stand for.
use Rattle.std.specs.Prelude.{ℕ, ◌≡◌, ◌≢◌, ◌+◌, ◌-◌, ◌*◌, ◌<◌, ◌^◌, ◌↔◌, ◌==◌, Bool, true, false, if◌then◌else◌, List, [], ◌∷◌, ◌++◌, length, map, Option, Some, None, codes, Contains, IfSome}
use Rattle.std.specs.Option.{MatchOption}
use Rattle.std.specs.List.{slice_get, AllZip}
use Rattle.std.specs.Str.{chars, encode_utf8_all, str_to_ascii_lowercase}
use Rattle.std.specs.Char.{is_ascii_digit, is_ascii_alphabetic}
use Rattle.mrs_model.specs.declared.Extent.{Extent}
use Rattle.mrs_model.specs.Meanings.{Property, Variable, Filler as Filled, of_var, of_text, Argument, Predication, Constraint, Meaning}
use Rattle.mrs_model.specs.Valid.{Rise}
use Rattle.mrs_spelling.specs.declared.kinds.Kind.{Kind}
use Rattle.mrs_spelling.specs.declared.kinds.Kind.TheVariants.{Top, Index, PredRun, PredText, Link, Role, Filler, Text, EpEnd, High, HandleRel, Low, Left, VariableRel, Right}
use Rattle.mrs_spelling.specs.Reading.{Tok}
use Rattle.mrs_spelling.specs.Conditions.{Word, given, Given}

-- a token with its bytes
pub record Piece : Type 0 where
  pub kind : Kind
  pub text : List ℕ

abbrev pub piece_of : Tok → Piece
piece_of e = record { kind = e.kind; text = encode_utf8_all e.text }

-- Names and letters compare in ASCII lower case.
abbrev pub low : Piece → List ℕ
low p = str_to_ascii_lowercase p.text

abbrev pub as_word : Piece → Word
as_word p = record { kind = p.kind; text = low p }

-- a predicate without an ending `_rel` as often as there is one
pub data Normal : List ℕ → List ℕ → Type 0 where
  bare : (p : List ℕ) → ((front : List ℕ) → p ≡ front ++ codes "_rel" → ⊥) → Normal p p
  with_rel : (front p : List ℕ) → Normal front p → Normal (front ++ codes "_rel") p

-- a number in decimal digits
abbrev pub number_after : ℕ → List ℕ → ℕ
number_after n [] = n
number_after n (d ∷ ds) = number_after (10 * n + (d - 48)) ds

abbrev pub AreDigits : List ℕ → Type 0
AreDigits [] = Unit {0}
AreDigits (c ∷ cs) = (is_ascii_digit c ≡ true) × AreDigits cs

-- one or more digits that make a u32
pub record IsNumber (text : List ℕ) (n : ℕ) : Type 0 where
  pub some : 0 < length text
  pub digits : AreDigits text
  pub is : n ≡ number_after 0 text
  pub small : n < 2 ^ 32

-- A:B
pub record Spans (text : List ℕ) (e : Extent) : Type 0 where
  pub a : List ℕ
  pub b : List ℕ
  pub is : text ≡ a ++ 58 ∷ b
  pub from : IsNumber a e.from
  pub to : IsNumber b e.to

-- the tokens of these kinds are variables
abbrev pub is_variable : Kind → Bool
is_variable Top = true
is_variable Index = true
is_variable Filler = true
is_variable High = true
is_variable Low = true
is_variable Left = true
is_variable Right = true
is_variable _ = false

-- the leading letters
abbrev pub letters_of : List ℕ → List ℕ
letters_of [] = []
letters_of (c ∷ cs) = if is_ascii_alphabetic c then c ∷ letters_of cs else []

-- a token is the variable of these letters and digits
pub record IsWritten (ps : List Piece) (key : List ℕ) : Type 0 where
  pub piece : Piece
  pub there : Contains ps piece
  pub kind : is_variable piece.kind ≡ true
  pub same : low piece ≡ key

-- its letters are the sort, and each property that was given for it is there, in order of names
pub record IsVariableOf (gs : List Given) (key : List ℕ) (v : Variable) : Type 0 where
  pub sort : v.sort ≡ letters_of key
  pub order : Rise (map (λ p. p.name) v.props)
  pub props : (p : Property) → Contains v.props p ↔ Contains gs (record { key = key; name = p.name; value = p.value })

-- the variable of this number is that of the token
abbrev pub Is : List (List ℕ) → Piece → ℕ → Type 0
Is keys p n = slice_get keys n ≡ Some (low p)

-- the variable of this number is that of a token of the kind
pub record IsMark (kind : Kind → Bool) (keys : List (List ℕ)) (ps : List Piece) (n : ℕ) : Type 0 where
  pub piece : Piece
  pub there : Contains ps piece
  pub kind_is : kind piece.kind ≡ true
  pub same : Is keys piece n

abbrev pub is_top : Kind → Bool
is_top Top = true
is_top _ = false

abbrev pub is_index : Kind → Bool
is_index Index = true
is_index _ = false

-- what is known after tokens, and what each gives in turn by what was known before it
abbrev pub after_all : {C : Type 0} → (C → Piece → C) → C → List Piece → C
after_all next c [] = c
after_all next c (p ∷ ps) = after_all next (next c p) ps

abbrev pub emitted : {C A : Type 0} → (C → Piece → C) → (C → Piece → List A) → C → List Piece → List A
emitted next gives c [] = []
emitted next gives c (p ∷ ps) = gives c p ++ emitted next gives (next c p) ps

-- the first variable and the relation that were written last
pub record Ends : Type 0 where
  pub first : Option Piece
  pub rel : List ℕ

abbrev pub ends_after : (Kind → Bool) → (Kind → Bool) → Ends → Piece → Ends
ends_after first rel c p = if first p.kind then record { first = Some p; rel = c.rel } else (if rel p.kind then record { first = c.first; rel = low p } else c)

-- the second variable of a constraint, and what stands before it
pub record Linked : Type 0 where
  pub ends : Ends
  pub second : Piece

abbrev pub link_at : (Kind → Bool) → Ends → Piece → List Linked
link_at second c p = if second p.kind then record { ends = c; second = p } ∷ [] else []

abbrev pub no_ends : Ends
no_ends = record { first = None; rel = [] }

-- the constraints whose first variables, relations and second variables are tokens of these kinds
abbrev pub links : (Kind → Bool) → (Kind → Bool) → (Kind → Bool) → List Piece → List Linked
links first rel second ps = emitted (ends_after first rel) (link_at second) no_ends ps

-- (in a text of the grammar a first variable stands before each second one)
pub record IsConstraintOf (keys : List (List ℕ)) (l : Linked) (c : Constraint) : Type 0 where
  pub left : IfSome l.ends.first (λ f. Is keys f c.left)
  pub rel : c.rel ≡ l.ends.rel
  pub right : Is keys l.second c.right

abbrev pub is_high : Kind → Bool
is_high High = true
is_high _ = false

abbrev pub is_handle_rel : Kind → Bool
is_handle_rel HandleRel = true
is_handle_rel _ = false

abbrev pub is_low : Kind → Bool
is_low Low = true
is_low _ = false

abbrev pub is_left : Kind → Bool
is_left Left = true
is_left _ = false

abbrev pub is_variable_rel : Kind → Bool
is_variable_rel VariableRel = true
is_variable_rel _ = false

abbrev pub is_right : Kind → Bool
is_right Right = true
is_right _ = false

-- what stands between quotes: a backslash stands for the character after it (true where one stands before these)
abbrev pub without_escapes : Bool → List ℕ → List ℕ
without_escapes after [] = []
without_escapes true (c ∷ cs) = c ∷ without_escapes false cs
without_escapes false (c ∷ cs) = if c == 92 then without_escapes true cs else c ∷ without_escapes false cs

abbrev pub plain : List ℕ → List ℕ
plain text = encode_utf8_all (without_escapes false (chars text))

-- a predicate between quotes loses its escapes
abbrev pub bare_text : Kind → List ℕ → List ℕ
bare_text PredText text = plain text
bare_text _ text = text

abbrev pub IsPredOf : Piece → List ℕ → Type 0
IsPredOf p pred = Normal (str_to_ascii_lowercase (bare_text p.kind p.text)) pred

-- The mark after a predicate is the span if it is one; otherwise there is none.
abbrev pub IsSpanOf : Option Piece → Option Extent → Type 0
IsSpanOf None span = span ≡ None
IsSpanOf (Some p) span = MatchOption span ((e : Extent) → Spans p.text e → ⊥) (Spans p.text)

-- a role, and the token that fills it
pub record Filling : Type 0 where
  pub role : List ℕ
  pub by : Piece

abbrev pub filling_of : Option (List ℕ) → Piece → List Filling
filling_of None p = []
filling_of (Some r) p = record { role = r; by = p } ∷ []

-- what stands in an elementary predication: its predicate, the mark after it, the roles that are filled, and the last role as long as nothing fills it
pub record Known : Type 0 where
  pub pred : Option Piece
  pub mark : Option Piece
  pub fills : List Filling
  pub role : Option (List ℕ)

abbrev pub nothing_known : Known
nothing_known = record { pred = None; mark = None; fills = []; role = None }

abbrev pub begun_with : Piece → Known
begun_with p = record { pred = Some p; mark = None; fills = []; role = None }

abbrev pub filled_by : Known → Piece → Known
filled_by c p = record { pred = c.pred; mark = c.mark; fills = c.fills ++ filling_of c.role p; role = None }

abbrev pub known_by : Kind → Known → Piece → Known
known_by PredRun c p = begun_with p
known_by PredText c p = begun_with p
known_by Link c p = record { pred = c.pred; mark = Some p; fills = c.fills; role = c.role }
known_by Role c p = record { pred = c.pred; mark = c.mark; fills = c.fills; role = Some (low p) }
known_by Filler c p = filled_by c p
known_by Text c p = filled_by c p
known_by EpEnd c p = nothing_known
known_by _ c p = c

abbrev pub known_after : Known → Piece → Known
known_after c p = known_by p.kind c p

-- an elementary predication is told by its closing bracket
abbrev pub ended_by : Kind → Known → List Known
ended_by EpEnd c = c ∷ []
ended_by _ c = []

abbrev pub ended_at : Known → Piece → List Known
ended_at c p = ended_by p.kind c

abbrev pub predications : List Piece → List Known
predications ps = emitted known_after ended_at nothing_known ps

-- what a token fills a role with
pub data IsFilledBy (keys : List (List ℕ)) (p : Piece) : Filled → Type 0 where
  by_variable : (n : ℕ) → p.kind ≡ Filler → Is keys p n → IsFilledBy keys p (of_var n)
  by_text : (t : List ℕ) → p.kind ≡ Text → t ≡ plain p.text → IsFilledBy keys p (of_text t)

-- the argument is that of a role other than LBL
pub record IsArgumentOf (keys : List (List ℕ)) (fills : List Filling) (a : Argument) : Type 0 where
  pub filling : Filling
  pub there : Contains fills filling
  pub role : filling.role ≡ a.role
  pub other : a.role ≢ codes "lbl"
  pub filler : IsFilledBy keys filling.by a.filler

-- the role has an argument
pub record HasArgument (keys : List (List ℕ)) (args : List Argument) (f : Filling) : Type 0 where
  pub argument : Argument
  pub there : Contains args argument
  pub role : argument.role ≡ f.role
  pub filler : IsFilledBy keys f.by argument.filler

-- each role other than LBL has its argument, in order of names
pub record AreArgumentsOf (keys : List (List ℕ)) (fills : List Filling) (args : List Argument) : Type 0 where
  pub order : Rise (map (λ a. a.role) args)
  pub each : (a : Argument) → Contains args a → IsArgumentOf keys fills a
  pub all : (f : Filling) → Contains fills f → f.role ≢ codes "lbl" → HasArgument keys args f

-- the variable that fills LBL
pub record IsLabelOf (keys : List (List ℕ)) (fills : List Filling) (label : ℕ) : Type 0 where
  pub filling : Filling
  pub there : Contains fills filling
  pub role : filling.role ≡ codes "lbl"
  pub same : (f : Filling) → Contains fills f → f.role ≡ codes "lbl" → Is keys f.by label

pub record IsPredicationOf (keys : List (List ℕ)) (c : Known) (e : Predication) : Type 0 where
  pub piece : Piece
  pub first : c.pred ≡ Some piece
  pub pred : IsPredOf piece e.pred
  pub span : IsSpanOf c.mark e.span
  pub label : IsLabelOf keys c.fills e.label
  pub args : AreArgumentsOf keys c.fills e.args

-- Under a numbering of the variables that are written, each of which has one number: the variables, the top, the index, the elementary predications and the
-- constraints of the MRS are those that the tokens say.
pub record IsMeaningOf (ps : List Piece) (m : Meaning) : Type 0 where
  pub keys : List (List ℕ)
  pub distinct : (i j : ℕ) (k : List ℕ) → slice_get keys i ≡ Some k → slice_get keys j ≡ Some k → i ≡ j
  pub all : (k : List ℕ) → Contains keys k ↔ IsWritten ps k
  pub even : length m.vars ≡ length keys
  pub vars : (n : ℕ) (k : List ℕ) (v : Variable) → slice_get keys n ≡ Some k → slice_get m.vars n ≡ Some v → IsVariableOf (given (map as_word ps)) k v
  pub top : IsMark is_top keys ps m.top
  pub index : IsMark is_index keys ps m.index
  pub eps : AllZip (IsPredicationOf keys) (predications ps) m.eps
  pub hcons : AllZip (IsConstraintOf keys) (links is_high is_handle_rel is_low ps) m.hcons
  pub icons : AllZip (IsConstraintOf keys) (links is_left is_variable_rel is_right ps) m.icons
