-- The stack of the open brackets, as frames are put on and taken off.
use Rattle.std.proofs.Common.{◌≡◌, ℕ, List, [], ◌∷◌, ◌++◌, sym, ◌∙◌, refl, ap}
use Rattle.tdl_reader.specs.declared.terms.Frame.{Frame}
use Rattle.std.proofs.Common.{◌+◌, length, false, arith}
use Rattle.std.proofs.lemmas.Bool.{false_from_ne_true, eqb-true}
use Rattle.std.specs.Prelude.{◌==◌, Option, Some, None, IfSome, option_to_list}
use Rattle.std.proofs.Common.{subst}
use Rattle.tdl_lexer.specs.declared.TokenKind.{TokenKind}
use Rattle.tdl_reader.specs.declared.ReadFault.{ReadFault}
use Rattle.tdl_reader.specs.Toks.{Tok}
use Rattle.tdl_reader.specs.Trees.{TermTree}
use Rattle.tdl_reader.specs.Machine.{FrameTree, PointTree, term_step, at_point, is_empty}
use Rattle.tdl_reader.specs.States.{frame_of, stack_onto, stack_of, IsStop}

stack_onto-last : (stack : List FrameTree) (fs : List Frame) (f : Frame) → stack_onto stack (fs ++ f ∷ []) ≡ frame_of f ∷ stack_onto stack fs
stack_onto-last stack [] f = refl
stack_onto-last stack (g ∷ fs) f = stack_onto-last (frame_of g ∷ stack) fs f

-- a frame that stands last is the innermost
pub stack_last : (fs gs : List Frame) (f : Frame) → gs ≡ fs ++ f ∷ [] → stack_of gs ≡ frame_of f ∷ stack_of fs
stack_last fs gs f e = ap stack_of e ∙ stack_onto-last [] fs f

-- a term within a frame that was put on
pub inner_found : (s old : List FrameTree) (f : FrameTree) (xs : List TermTree) (k : TokenKind) (t : Tok) (p : PointTree) → s ≡ f ∷ old → xs ≡ [] → ((stack : List FrameTree) → term_step stack xs k t ≡ at_point stack p) → term_step (f ∷ old) [] k t ≡ at_point s p
inner_found s old f xs k t p e n h = subst (λ l. term_step l [] k t ≡ at_point s p) e (subst (λ l. term_step s l k t ≡ at_point s p) n (h s))

pub inner_fault : (old : List FrameTree) (f : FrameTree) (xs : List TermTree) (k : TokenKind) (t : Tok) (at : ℕ) (e : ReadFault) → xs ≡ [] → ((stack : List FrameTree) → IsStop (term_step stack xs k t) at e) → IsStop (term_step (f ∷ old) [] k t) at e
inner_fault old f xs k t at e n h = subst (λ l. IsStop (term_step (f ∷ old) l k t) at e) n (h (f ∷ old))

-- the last frame is taken off
pub popped : (o : Option Frame) (fs gs : List Frame) → gs ≡ fs ++ option_to_list o → IfSome o (λ f. stack_of gs ≡ frame_of f ∷ stack_of fs)
popped None fs gs e = tt
popped (Some f) fs gs e = stack_last fs gs f e

some_left : (f : FrameTree) (stack : List FrameTree) (fs : List Frame) → is_empty (stack_onto (f ∷ stack) fs) ≡ false
some_left f stack [] = refl
some_left f stack (g ∷ fs) = some_left (frame_of g) (f ∷ stack) fs

-- no bracket is open where no frame is there
pub none_left : (fs : List Frame) → (length fs == 0) ≡ is_empty (stack_of fs)
none_left [] = refl
none_left (f ∷ fs) = false_from_ne_true (length (f ∷ fs) == 0) (λ h. let e = eqb-true _ _ h in omega arith) ∙ sym (some_left (frame_of f) [] fs)

stack_onto-length : (stack : List FrameTree) (fs : List Frame) → length (stack_onto stack fs) ≡ length stack + length fs
stack_onto-length stack [] = omega arith
stack_onto-length stack (f ∷ fs) = let h = stack_onto-length (frame_of f ∷ stack) fs in omega (arith, h)

pub stack-length : (fs : List Frame) → length fs ≡ length (stack_of fs)
stack-length fs = let h = stack_onto-length [] fs in omega (arith, h)
