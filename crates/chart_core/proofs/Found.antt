-- What the searches find is what the chart says.
use Rattle.std.specs.Prelude.{◌≡◌, ℕ, ◌+◌, ◌<◌, ◌&&◌, Bool, true, false, is_some, is_none, Option, Some, None, Result, Ok, Err, IfOk, List, [], ◌∷◌, length, map, option_map, slice_get, slice_index_or, All}
use Rattle.std.specs.List.{find}
use Rattle.std.proofs.Common.{refl, ap, sym, ◌∙◌, subst, arith, zero, suc}
use Rattle.chart_model.specs.Calculus.{Calculus, Laws}
use Rattle.chart_model.specs.Chart as model
use Rattle.chart_model.specs.At.{At, here, there, to_get, from_get}
use Rattle.chart_model.specs.Picked.{picked}
use Rattle.chart_model.proofs.Standing.{peer_is}
use Rattle.chart_model.proofs.Peers.{Agrees, Misses_none, first_is}
use Rattle.chart_model.proofs.Index.{gather-picked}
use Rattle.chart_model.proofs.Pairing.{partial_task_is, host_task_is}
use Rattle.chart_core.specs.declared.Row.{Row}
use Rattle.chart_core.specs.declared.RowId.{RowId}
use Rattle.chart_core.specs.declared.RowKind.{RowKind}
use Rattle.chart_core.specs.declared.RowKind.TheVariants as kinds
use Rattle.chart_core.specs.Lists.{bucket}
use Rattle.chart_core.specs.View.{row_of, rows_of, into_of, number_of, kind_of}
use Rattle.chart_core.specs.Tests.{at_place, passes, is_peer}
use Rattle.chart_core.specs.Sound.{Lists, is_host, is_partial_kind}

pub all_at : (P : ℕ → Type 0) (xs : List ℕ) → ((n p : ℕ) → At xs n p → P p) → All P xs
all_at P [] h = λ k d l. absurd (omega arith)
all_at P (x ∷ xs) h = next P x xs (h zero x here) (all_at P xs (λ n p a. h (suc n) p (there a)))
  where
    next : (P : ℕ → Type 0) (x : ℕ) (xs : List ℕ) → P x → All P xs → (k d : ℕ) → k < length (x ∷ xs) → P (slice_index_or (x ∷ xs) k d)
    next P x xs p r zero d l = p
    next P x xs p r (suc k) d l = r k d (omega arith)

pub if_ok : {A E : Type 0} (P Q : A → Type 0) (r : Result A E) → ((x : A) → P x → Q x) → IfOk r P → IfOk r Q
if_ok P Q (Ok x) h p = h x p
if_ok P Q (Err e) h p = p

module _ {A B : Type 0} (f : A → B) where
  pub at_map : (xs : List A) (i : ℕ) (x : A) → At xs i x → At (map f xs) i (f x)
  at_map [] i x a = elim a [ ]
  at_map (y ∷ xs) zero x (here) = here
  at_map (y ∷ xs) (suc i) x (there a) = there (at_map xs i x a)

  pub at_mapped : (xs : List A) (i : ℕ) (y : B) → At (map f xs) i y → (x : A) × At xs i x × (f x ≡ y)
  at_mapped [] i y a = elim a [ ]
  at_mapped (x ∷ xs) zero y (here) = (x, here, refl)
  at_mapped (x ∷ xs) (suc i) y (there a) = let r = at_mapped xs i y a in (r.0, there r.1, r.2)

pub no_number : (o : Option RowId) → number_of o ≡ None → is_none o ≡ true
no_number None e = refl
no_number (Some id) e = absurd (cc)

number_none : (o : Option RowId) → is_none o ≡ true → number_of o ≡ None
number_none None e = refl
number_none (Some id) e = absurd (cc)

both : (a b : Bool) → a && b ≡ true → (a ≡ true) × (b ≡ true)
both true b h = (refl, h)
both false b h = absurd (cc)

some_shape : {A B : Type 0} (f : A → B) (o : Option A) (y : B) → option_map f o ≡ Some y → is_some o ≡ true
some_shape f None y e = absurd (cc)
some_shape f (Some x) y e = refl

some_is : {A B : Type 0} (f : A → B) (o : Option A) → is_some (option_map f o) ≡ is_some o
some_is f None = refl
some_is f (Some x) = refl

pub partial_kind : (kind : RowKind) (rule : ℕ) → kind_of kind ≡ model.OfPartial rule → is_partial_kind kind ≡ true
partial_kind (kinds.Leaf name) rule e = absurd (cc)
partial_kind (kinds.Partial q) rule e = refl
partial_kind (kinds.Whole q) rule e = absurd (cc)

module _ {X T C W B M : Type 0} (k : Calculus M C) (laws : Laws k) (meaning : T → M) (cell : C → ℕ) (rows : List (Row X T C W B)) (lists : List (List ℕ)) (l : Lists is_host (λ row. cell row.cover) rows lists) (test : M → Bool) (cover : C) (level : ℕ) where
  live : (p : ℕ) (row : Row X T C W B) → At rows p row → At (into_of rows) p None → is_none row.into ≡ true
  live p row a b =
      let m = at_mapped (λ (row : Row X T C W B). number_of row.into) rows p None b in
      let same : m.0 ≡ row = (let e = to_get m.1 in let f = to_get a in cc) in
      no_number row.into (subst (λ (r : Row X T C W B). number_of r.into ≡ None) same m.2)

  pub peers_agree : Agrees k (model.has_peer k test cover level) (at_place (is_peer k meaning test cover level) rows) (rows_of meaning rows) (into_of rows)
  peers_agree =
      record {
        passes = λ p row a b h.
            let m = at_mapped (row_of meaning) rows p row a in
            ap (passes (is_peer k meaning test cover level)) (to_get m.1)
            ∙ ap (λ c. c && model.has_peer k test cover level (row_of meaning m.0)) (live p m.0 m.1 b)
            ∙ ap (model.has_peer k test cover level) m.2 ∙ h;
        only = λ p h. by_row p (slice_get rows p) refl h;
      }
    where
      by_row : (p : ℕ) (o : Option (Row X T C W B)) → slice_get rows p ≡ o → passes (is_peer k meaning test cover level) (slice_get rows p) ≡ true → (row : model.Row M C) × At (rows_of meaning rows) p row × At (into_of rows) p None × (model.has_peer k test cover level row ≡ true)
      by_row p None e h = absurd (let z : false ≡ true = ap (passes (is_peer k meaning test cover level)) (sym e) ∙ h in cc)
      by_row p (Some row) e h =
          let q : is_peer k meaning test cover level row ≡ true = ap (passes (is_peer k meaning test cover level)) (sym e) ∙ h in
          let b = both (is_none row.into) (model.has_peer k test cover level (row_of meaning row)) q in
          let a = from_get rows p row e in
          (row_of meaning row, at_map (row_of meaning) rows p row a, subst (At (into_of rows) p) (number_none row.into b.0) (at_map (λ (row : Row X T C W B). number_of row.into) rows p row a), b.1)

  pub peers_missed : Misses_none k (model.has_peer k test cover level) (at_place (is_peer k meaning test cover level) rows) (rows_of meaning rows) (into_of rows) (bucket lists (cell cover))
  peers_missed p row a b h =
      let m = at_mapped (row_of meaning) rows p row a in
      let q = peer_is k test cover level row h in
      let shape : is_some m.0.shape ≡ true = some_shape meaning m.0.shape q.m (ap (λ (r : model.Row M C). r.shape) m.2 ∙ q.shape) in
      let same : m.0.cover ≡ cover = ap (λ (r : model.Row M C). r.cover) m.2 ∙ (laws.same_is row.cover cover).0 q.cover_is in
      let r = l.misses_none p m.0 m.1 (ap (λ c. c && is_none m.0.into) shape ∙ live p m.0 m.1 b) in
      (r.0, subst (λ c. At (bucket lists (cell c)) r.0 p) same r.1)

  pub peers_found : find (at_place (is_peer k meaning test cover level) rows) (bucket lists (cell cover)) ≡ model.first_peer k (model.has_peer k test cover level) 0 (rows_of meaning rows) (into_of rows)
  peers_found = sym (first_is k (model.has_peer k test cover level) (at_place (is_peer k meaning test cover level) rows) (rows_of meaning rows) (into_of rows) peers_agree (bucket lists (cell cover)) (l.rising _) peers_missed)

module _ {X T C W B M : Type 0} (k : Calculus M C) (meaning : T → M) (begins ends : C → ℕ) (meets : (c d : C) → is_some (k.join c d) ≡ true → ends c ≡ begins d) (rows : List (Row X T C W B)) (lists : List (List ℕ)) where
  pub hosts_found : (l : Lists is_host (λ row. begins row.cover) rows lists) (unary rule n : ℕ) (cover : C) → model.gather k (model.partial_task k unary (into_of rows) rule cover n) 0 (rows_of meaning rows) ≡ picked k (model.partial_task k unary (into_of rows) rule cover n) (slice_get (rows_of meaning rows)) (bucket lists (ends cover))
  hosts_found l unary rule n cover =
      gather-picked k (model.partial_task k unary (into_of rows) rule cover n) (slice_get (rows_of meaning rows)) 0 (rows_of meaning rows) (bucket lists (ends cover))
      (λ j. let z : 0 + j ≡ j = omega arith in ap (slice_get (rows_of meaning rows)) z) (l.rising _)
      (λ j row t a e. let z : 0 + j ≡ j = omega arith in subst (λ i. (n : ℕ) × At (bucket lists (ends cover)) n i) (sym z) (found j row t a (subst (λ i. model.partial_task k unary (into_of rows) rule cover n i row ≡ Some t) z e)))
    where
      limits : model.Limits
      limits = record { edges = 0; unary = unary }

      found : (j : ℕ) (row : model.Row M C) (t : model.Task) → At (rows_of meaning rows) j row → model.partial_task k unary (into_of rows) rule cover n j row ≡ Some t → (i : ℕ) × At (bucket lists (ends cover)) i j
      found j row t a e =
          let p = partial_task_is k (record { edges = 0; unary = unary }) (into_of rows) rule cover n j row t e in
          let m = at_mapped (row_of meaning) rows j row a in
          let shape : is_some m.0.shape ≡ true = sym (some_is meaning m.0.shape) ∙ ap (λ (r : model.Row M C). is_some r.shape) m.2 ∙ p.shape in
          let free : is_none m.0.into ≡ true = free_is m.0.into (into_of rows) j (at_map (λ (row : Row X T C W B). number_of row.into) rows j m.0 m.1) p.free in
          let same : ends cover ≡ begins m.0.cover = meets cover m.0.cover (ap (λ (r : model.Row M C). is_some (k.join cover r.cover)) m.2 ∙ p.joins) in
          let r = l.misses_none j m.0 m.1 (ap (λ c. c && is_none m.0.into) shape ∙ free) in
          (r.0, subst (λ c. At (bucket lists c) r.0 j) (sym same) r.1)
        where
          free_is : (o : Option RowId) (into : List (Option ℕ)) (j : ℕ) → At into j (number_of o) → model.is_free into j ≡ true → is_none o ≡ true
          free_is None into j a f = refl
          free_is (Some id) into j a f = absurd (let z = free_none into j f in let e = to_get z in let g = to_get a in cc)
            where
              free_none : (into : List (Option ℕ)) (i : ℕ) → model.is_free into i ≡ true → At into i None
              free_none [] i h = absurd (cc)
              free_none (None ∷ into) zero h = here
              free_none (Some r ∷ into) zero h = absurd (cc)
              free_none (None ∷ into) (suc i) h = there (free_none into i h)
              free_none (Some r ∷ into) (suc i) h = there (free_none into i h)

module _ {X T C W B M : Type 0} (k : Calculus M C) (meaning : T → M) (begins ends : C → ℕ) (meets : (c d : C) → is_some (k.join c d) ≡ true → ends c ≡ begins d) (rows : List (Row X T C W B)) (lists : List (List ℕ)) where
  pub partials_found : (l : Lists (λ row. is_partial_kind row.kind) (λ row. ends row.cover) rows lists) (into : List (Option ℕ)) (n : ℕ) (cover : C) → model.gather k (model.host_task k into cover n) 0 (rows_of meaning rows) ≡ picked k (model.host_task k into cover n) (slice_get (rows_of meaning rows)) (bucket lists (begins cover))
  partials_found l into n cover =
      gather-picked k (model.host_task k into cover n) (slice_get (rows_of meaning rows)) 0 (rows_of meaning rows) (bucket lists (begins cover))
      (λ j. let z : 0 + j ≡ j = omega arith in ap (slice_get (rows_of meaning rows)) z) (l.rising _)
      (λ j row t a e. let z : 0 + j ≡ j = omega arith in subst (λ i. (n : ℕ) × At (bucket lists (begins cover)) n i) (sym z) (found j row t a (subst (λ i. model.host_task k into cover n i row ≡ Some t) z e)))
    where
      found : (j : ℕ) (row : model.Row M C) (t : model.Task) → At (rows_of meaning rows) j row → model.host_task k into cover n j row ≡ Some t → (i : ℕ) × At (bucket lists (begins cover)) i j
      found j row t a e =
          let p = host_task_is k (record { edges = 0; unary = 0 }) into cover n j row t e in
          let m = at_mapped (row_of meaning) rows j row a in
          let wanted : is_partial_kind m.0.kind ≡ true = partial_kind m.0.kind p.rule (ap (λ (r : model.Row M C). r.kind) m.2 ∙ p.kind) in
          let same : ends m.0.cover ≡ begins cover = meets m.0.cover cover (ap (λ (r : model.Row M C). is_some (k.join r.cover cover)) m.2 ∙ p.joins) in
          let r = l.misses_none j m.0 m.1 wanted in
          (r.0, subst (λ c. At (bucket lists c) r.0 j) same r.1)

pub at_get_or : {A : Type 0} (xs : List A) (i : ℕ) (d : A) → i < length xs → At xs i (slice_index_or xs i d)
at_get_or [] i d l = absurd (omega arith)
at_get_or (x ∷ xs) zero d l = here
at_get_or (x ∷ xs) (suc i) d l = there (at_get_or xs i d (omega arith))
