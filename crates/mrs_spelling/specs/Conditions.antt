-- The conditions of SimpleMRS on the tokens of a text, each by the tokens before it.
use Rattle.std.specs.Prelude.{ℕ, ◌≡◌, ◌≢◌, List, [], ◌∷◌, ◌++◌, codes, map, Contains}
use Rattle.std.specs.Str.{encode_utf8_all, str_to_ascii_lowercase}
use Rattle.mrs_spelling.specs.declared.kinds.Kind.{Kind}
use Rattle.mrs_spelling.specs.declared.kinds.Kind.TheVariants.{PropName, PropValue, PredRun, PredText, Link, Role, OpensText, Text, EpEnd, HandleRel, VariableRel}
use Rattle.mrs_spelling.specs.Reading.{Tok}

-- Names and letters compare by their bytes in ASCII lower case.
abbrev pub lower : List ℕ → List ℕ
lower cs = str_to_ascii_lowercase (encode_utf8_all cs)

-- a token as the conditions see it
pub record Word : Type 0 where
  pub kind : Kind
  pub text : List ℕ

abbrev pub word_of : Tok → Word
word_of e = record { kind = e.kind; text = lower e.text }

-- a property that was given for the variable of these letters and digits
pub record Given : Type 0 where
  pub key : List ℕ
  pub name : List ℕ
  pub value : List ℕ

-- what stands before a token: the last variable, the last name of a property, and the roles since the last predicate
pub record Context : Type 0 where
  pub key : List ℕ
  pub name : List ℕ
  pub roles : List (List ℕ)

abbrev pub after_kind : Context → Kind → List ℕ → Context
after_kind c PropName text = record c { name = text }
after_kind c PropValue text = c
after_kind c PredRun text = record c { roles = [] }
after_kind c PredText text = record c { roles = [] }
after_kind c Link text = c
after_kind c Role text = record c { roles = c.roles ++ text ∷ [] }
after_kind c OpensText text = c
after_kind c Text text = c
after_kind c EpEnd text = c
after_kind c HandleRel text = c
after_kind c VariableRel text = c
after_kind c _ text = record c { key = text }

abbrev pub nothing_before : Context
nothing_before = record { key = []; name = []; roles = [] }

abbrev pub context_after : Context → List Word → Context
context_after c [] = c
context_after c (w ∷ ws) = context_after (after_kind c w.kind w.text) ws

abbrev pub context : List Word → Context
context ws = context_after nothing_before ws

-- the properties that tokens give
abbrev pub gives : Context → Kind → List ℕ → List Given
gives c PropValue text = record { key = c.key; name = c.name; value = text } ∷ []
gives c _ text = []

abbrev pub given_after : Context → List Word → List Given
given_after c [] = []
given_after c (w ∷ ws) = gives c w.kind w.text ++ given_after (after_kind c w.kind w.text) ws

abbrev pub given : List Word → List Given
given ws = given_after nothing_before ws

-- A token of this kind and text breaks a condition where these properties were given.
pub data BreaksIn (c : Context) (gs : List Given) : Kind → List ℕ → Type 0 where
  -- the elementary predication has this role already
  role_twice : (text : List ℕ) → Contains c.roles text → BreaksIn c gs Role text
  -- it ends without LBL
  no_label : (text : List ℕ) → (Contains c.roles (codes "lbl") → ⊥) → BreaksIn c gs EpEnd text
  -- LBL has a text
  label_text : (text : List ℕ) (before : List (List ℕ)) → c.roles ≡ before ++ codes "lbl" ∷ [] → BreaksIn c gs OpensText text
  -- another value was given for this property of the variable
  other_value : (text : List ℕ) (g : Given) → Contains gs g → g.key ≡ c.key → g.name ≡ c.name → g.value ≢ text → BreaksIn c gs PropValue text

-- After these tokens the next one breaks a condition.
abbrev pub BreaksAfter : List Word → Word → Type 0
BreaksAfter ws w = BreaksIn (context ws) (given ws) w.kind w.text

abbrev pub Breaks : List Tok → Tok → Type 0
Breaks es e = BreaksAfter (map word_of es) (word_of e)

-- no token breaks a condition
abbrev pub AllKeep : List Word → Type 0
AllKeep ws = (before after : List Word) (w : Word) → ws ≡ before ++ w ∷ after → BreaksAfter before w → ⊥
