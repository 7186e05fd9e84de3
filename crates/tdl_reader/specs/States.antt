-- The trees of what the machine of the code holds.
use Rattle.std.specs.Prelude.{◌≡◌, ℕ, ◌⊎◌, List, [], ◌∷◌, map, Option, None}
use Rattle.std.specs.String.{string_bytes}
use Rattle.tdl_lexer.specs.Spelling.{IsTokenOf}
use Rattle.tdl_reader.specs.declared.ReadFault.{ReadFault}
use Rattle.tdl_reader.specs.declared.ReadFault.TheVariants.{Unexpected, NoMemory}
use Rattle.tdl_reader.specs.declared.terms.Seen.{Seen}
use Rattle.tdl_reader.specs.declared.terms.Frame.{Frame}
use Rattle.tdl_reader.specs.declared.terms.Frame.TheVariants.{InAvm, InList, InTail, InDiff}
use Rattle.tdl_reader.specs.declared.terms.Point.{Point}
use Rattle.tdl_reader.specs.declared.terms.Point.TheVariants.{WantTerm, GotTerm, AvmBegins, WantAttr, GotFeature, WantFeature, ListBegins, ListGoesOn, WantClose, DiffBegins, DiffGoesOn}
use Rattle.tdl_reader.specs.Machine.{FrameTree, in_avm, in_list, in_tail, in_diff, PointTree, want_term, got_term, avm_begins, want_attr, got_feature, want_feature, list_begins, list_goes_on, want_close, diff_begins, diff_goes_on}
use Rattle.tdl_reader.specs.Toks.{Tok, tok_of}
use Rattle.tdl_reader.specs.Views.{term_of, body_in, attr_of}

abbrev pub tok_in : Seen → Tok
tok_in seen = tok_of seen.text.now seen.token

abbrev pub IsOfText : Seen → Type 0
IsOfText seen = IsTokenOf seen.text.now seen.token

abbrev pub frame_of : Frame → FrameTree
frame_of (InAvm at attrs path out) = in_avm at (map attr_of attrs.items) (map string_bytes path.items) (map term_of out.items)
frame_of (InList at items out) = in_list at (map body_in items.items) (map term_of out.items)
frame_of (InTail at items out) = in_tail at (map body_in items.items) (map term_of out.items)
frame_of (InDiff at items out) = in_diff at (map body_in items.items) (map term_of out.items)

-- the innermost bracket stands last in the code, and first in the stack
abbrev pub stack_onto : List FrameTree → List Frame → List FrameTree
stack_onto stack [] = stack
stack_onto stack (f ∷ more) = stack_onto (frame_of f ∷ stack) more

abbrev pub stack_of : List Frame → List FrameTree
stack_of frames = stack_onto [] frames

abbrev pub point_of : Point → PointTree
point_of (WantTerm terms) = want_term (map term_of terms.items)
point_of (GotTerm terms last) = got_term (map term_of terms.items) (term_of last)
point_of (AvmBegins at out) = avm_begins at (map term_of out.items)
point_of (WantAttr at attrs out) = want_attr at (map attr_of attrs.items) (map term_of out.items)
point_of (GotFeature at attrs path out) = got_feature at (map attr_of attrs.items) (map string_bytes path.items) (map term_of out.items)
point_of (WantFeature at attrs path out) = want_feature at (map attr_of attrs.items) (map string_bytes path.items) (map term_of out.items)
point_of (ListBegins at out) = list_begins at (map term_of out.items)
point_of (ListGoesOn at items out) = list_goes_on at (map body_in items.items) (map term_of out.items)
point_of (WantClose at items out) = want_close at (map body_in items.items) (map term_of out.items)
point_of (DiffBegins at out) = diff_begins at (map term_of out.items)
point_of (DiffGoesOn at items out) = diff_goes_on at (map body_in items.items) (map term_of out.items)

-- a step that the machine does not have, or want of memory
abbrev pub IsStop : {S : Type 0} → Option S → ℕ → ReadFault → Type 0
IsStop step at e = (e ≡ NoMemory) ⊎ ((e ≡ Unexpected at) × (step ≡ None))
