-- Steps between statements.
use Rattle.std.proofs.Common.{◌≡◌, ℕ, Bool, true, List, [], sym, ◌∙◌, refl, ap, subst, inl, inr, ⊎_elim}
use Rattle.std.specs.Prelude.{Option, None}
use Rattle.tdl_lexer.specs.declared.TokenKind.{TokenKind}
use Rattle.tdl_lexer.specs.declared.TokenKind.TheVariants.{Prefix, Suffix, Group, Dot}
use Rattle.tdl_reader.specs.declared.ReadFault.{ReadFault}
use Rattle.tdl_reader.specs.Machine.{StageTree, affixed, groups_step, FrameTree, PointTree, BodyState, term_step, at_point, HeadTree, to_define, PastTree, at_stage, in_body_at, in_body, first_step, stage_step, lettered, defined}
use Rattle.tdl_reader.specs.States.{IsStop}
use Rattle.std.specs.Prelude.{Result, IfOk, IfErr}
use Rattle.std.proofs.lemmas.Result.{IfOk-weaker, IfErr-weaker}
use Rattle.tdl_reader.specs.declared.stages.Stage.{Stage}
use Rattle.tdl_reader.specs.Running.{has_form}
use Rattle.tdl_reader.specs.Stages.{stage_of, IsStageStop, IsStageStep}
use Rattle.tdl_reader.specs.Toks.{Tok}
use Rattle.tdl_reader.specs.Trees.{TermTree, GroupTree, SetTree}

pub lettered_else : (k : TokenKind) → (k ≡ Dot → ⊥) → (done : PastTree) (t : Tok) → stage_step done lettered k t ≡ first_step done k t
lettered_else Dot h done t = absurd (h refl)
lettered_else _ h done t = refl

pub defined_else : (k : TokenKind) → (k ≡ Prefix → ⊥) → (k ≡ Suffix → ⊥) → (done : PastTree) (name : List ℕ) (at : ℕ) (t : Tok) → stage_step done (defined name at) k t ≡ in_body_at done (to_define name at None) (term_step [] [] k t)
defined_else Prefix h g done name at t = absurd (h refl)
defined_else Suffix h g done name at t = absurd (g refl)
defined_else _ h g done name at t = refl

-- what stops a step stops the same step by another name
pub stop_same : {S : Type 0} (o p : Option S) (at : ℕ) (e : ReadFault) → o ≡ p → IsStop p at e → IsStop o at e
stop_same o p at e same h = subst (λ q. IsStop q at e) (sym same) h

pub stop_in_body : (done : PastTree) (head : HeadTree) (o : Option BodyState) (at : ℕ) (e : ReadFault) → IsStop o at e → IsStop (in_body_at done head o) at e
stop_in_body done head o at e h = ⊎_elim inl (λ p. inr (p.0, ap (in_body_at done head) p.1)) h

pub body_begins_found : (done : PastTree) (head : HeadTree) (xs : List TermTree) (stack : List FrameTree) (k : TokenKind) (t : Tok) (p : PointTree) → xs ≡ [] → stack ≡ [] → ((s : List FrameTree) → term_step s xs k t ≡ at_point s p) → in_body_at done head (term_step [] [] k t) ≡ at_stage done (in_body head stack p)
body_begins_found done head xs stack k t p e f h = ap (in_body_at done head) (subst (λ l. term_step [] l k t ≡ at_point [] p) e (h [])) ∙ ap (λ s. at_stage done (in_body head s p)) (sym f)

pub body_begins_fault : (done : PastTree) (head : HeadTree) (xs : List TermTree) (k : TokenKind) (t : Tok) (at : ℕ) (f : ReadFault) → xs ≡ [] → ((s : List FrameTree) → IsStop (term_step s xs k t) at f) → IsStop (in_body_at done head (term_step [] [] k t)) at f
body_begins_fault done head xs k t at f e h = stop_in_body done head (term_step [] [] k t) at f (subst (λ l. IsStop (term_step [] l k t) at f) e (h []))

pub affixed_else : (k : TokenKind) → (k ≡ Group → ⊥) → (done : PastTree) (name : List ℕ) (at : ℕ) (suffix : Bool) (groups : List GroupTree) (t : Tok) → stage_step done (affixed name at suffix groups) k t ≡ groups_step done name at suffix groups k t
affixed_else Group h done name at suffix groups t = absurd (h refl)
affixed_else _ h done name at suffix groups t = refl

pub affixed_formed : (k : TokenKind) → (k ≡ Group → ⊥) → (sets : List SetTree) (name : List ℕ) (at : ℕ) (suffix : Bool) (groups : List GroupTree) (t : Tok) → has_form sets (affixed name at suffix groups) k t ≡ true
affixed_formed Group h sets name at suffix groups t = absurd (h refl)
affixed_formed _ h sets name at suffix groups t = refl

-- what stops a step of a stage
pub stage_stop : (done : PastTree) (stage : StageTree) (k : TokenKind) (t : Tok) (e : ReadFault) → IsStop (stage_step done stage k t) t.at e → IsStageStop done stage k t e
stage_stop done stage k t e h = ⊎_elim inl (λ p. inr (inl p)) h

-- the stages at which no group is looked at
abbrev pub IsFree : StageTree → Type 0
IsFree stage = (sets : List SetTree) (k : TokenKind) (t : Tok) → has_form sets stage k t ≡ true

pub free_found : (r : Result Stage ReadFault) (done : PastTree) (whole stage : StageTree) (k : TokenKind) (t : Tok) → whole ≡ stage → IsFree stage → IfOk r (λ p. (d : PastTree) → stage_step d stage k t ≡ at_stage d (stage_of p)) → IfOk r (λ p. IsStageStep done whole k t done (stage_of p))
free_found r done whole stage k t same free h = rw same (IfOk-weaker r _ _ (λ p f. (f done, free done.sets k t)) h)

pub free_fault : (r : Result Stage ReadFault) (done : PastTree) (whole stage : StageTree) (k : TokenKind) (t : Tok) → whole ≡ stage → IfErr r (λ e. (d : PastTree) → IsStop (stage_step d stage k t) t.at e) → IfErr r (λ e. IsStageStop done whole k t e)
free_fault r done whole stage k t same h = rw same (IfErr-weaker r _ _ (λ e f. stage_stop done stage k t e (f done)) h)

pub same_found : (r : Result Stage ReadFault) (done new : PastTree) (whole stage : StageTree) (k : TokenKind) (t : Tok) → whole ≡ stage → IsFree stage → IfOk r (λ p. stage_step done stage k t ≡ at_stage new (stage_of p)) → IfOk r (λ p. IsStageStep done whole k t new (stage_of p))
same_found r done new whole stage k t same free h = rw same (IfOk-weaker r _ _ (λ p f. (f, free done.sets k t)) h)

pub same_fault : (r : Result Stage ReadFault) (done : PastTree) (whole stage : StageTree) (k : TokenKind) (t : Tok) → whole ≡ stage → IfErr r (λ e. IsStop (stage_step done stage k t) t.at e) → IfErr r (λ e. IsStageStop done whole k t e)
same_fault r done whole stage k t same h = rw same (IfErr-weaker r _ _ (λ e f. stage_stop done stage k t e f) h)
