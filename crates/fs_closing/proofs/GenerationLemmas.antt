-- Marks of one generation.
use Rattle.std.proofs.Common.{ℕ, ◌≡◌, ◌≢◌, ◌≤◌, ◌<◌, ◌+◌, ◌-◌, ◌++◌, ◌⊎◌, inl, inr, true, false, Option, Some, None, List, length, take, replicate, slice_index_or, refl, sym, ◌∙◌, ap, subst, arith, eq-eqb, length-append}
use Rattle.std.proofs.Math.ListN.{set, get_or-append}
use Rattle.std.proofs.lemmas.Bool.{cases_lt, ne_eqb}
use Rattle.std.proofs.lemmas.List.{get_or-map, get_or_past, get_or-set_same, get_or-set_other, length-set, length-map, get_or-append_right, get_or-replicate, length-replicate, take_all}
use Rattle.fs_model.proofs.StepLemmas.{same_or_other}
use Rattle.fs_closing.specs.declared.marks.Mark.{Mark}
use Rattle.fs_closing.specs.declared.marks.Written.{Written}
use Rattle.fs_closing.specs.Marked.{written_at, Writes}
use Rattle.fs_closing.specs.Inner.Generations.{no_mark, mark_at, written_in, all_in, AreFromPast}

pub fresh : (g : ℕ) (m : Mark) → m.generation ≡ g → written_in g m ≡ Some m.written
fresh g m e = ap (λ b. elim b as (λ _. Option Written) [ true ↦ Some m.written | false ↦ None ]) (eq-eqb m.generation g e)

pub stale : (g : ℕ) (m : Mark) → m.generation ≢ g → written_in g m ≡ None
stale g m e = ap (λ b. elim b as (λ _. Option Written) [ true ↦ Some m.written | false ↦ None ]) (ne_eqb m.generation g e)

pub at_all : (g : ℕ) (marks : List Mark) (n : ℕ) → n < length marks → written_at (all_in g marks) n ≡ written_in g (mark_at marks n)
at_all g marks n h = get_or-map (written_in g) marks n no_mark None h

pub past_all : (g : ℕ) (marks : List Mark) (n : ℕ) → length marks ≤ n → written_at (all_in g marks) n ≡ None
past_all g marks n h = get_or_past (all_in g marks) n None (omega (arith, length-map marks (written_in g)))

pub size_all : (g : ℕ) (marks : List Mark) → length (all_in g marks) ≡ length marks
size_all g marks = length-map marks (written_in g)

-- a mark that is read
pub read_fresh : (g : ℕ) (marks : List Mark) (n : ℕ) (m : Mark) → n < length marks → m ≡ mark_at marks n → m.generation ≡ g →
    Some m.written ≡ written_at (all_in g marks) n
read_fresh g marks n m h is e = sym (at_all g marks n h ∙ ap (written_in g) (sym is) ∙ fresh g m e)

pub read_stale : (g : ℕ) (marks : List Mark) (n : ℕ) (m : Mark) → n < length marks → m ≡ mark_at marks n → m.generation ≢ g →
    None ≡ written_at (all_in g marks) n
read_stale g marks n m h is e = sym (at_all g marks n h ∙ ap (written_in g) (sym is) ∙ stale g m e)

-- a mark that is written
module _ (g : ℕ) (marks : List Mark) (n : ℕ) (w : Written) (h : n < length marks) where
  abbrev pub new : Mark
  new = record { generation = g; written = w }

  pub writes : Writes n w (all_in g marks) (all_in g (set marks n new))
  writes = record {
    here = at_all g (set marks n new) n (omega (arith, h, length-set marks n new))
        ∙ ap (written_in g) (get_or-set_same marks n new no_mark h) ∙ fresh g new refl;
    others = λ k e. other k e (cases_lt k (length marks));
    size = size_all g (set marks n new) ∙ length-set marks n new ∙ sym (size_all g marks);
  }
    where
      other : (k : ℕ) → k ≢ n → (k < length marks) ⊎ (length marks ≤ k) → written_at (all_in g (set marks n new)) k ≡ written_at (all_in g marks) k
      other k e (inl i) =
          at_all g (set marks n new) k (omega (arith, i, length-set marks n new)) ∙ ap (written_in g) (get_or-set_other marks n k new no_mark e)
          ∙ sym (at_all g marks k i)
      other k e (inr i) = past_all g (set marks n new) k (omega (arith, i, length-set marks n new)) ∙ sym (past_all g marks k i)

  pub past_written : AreFromPast g marks → AreFromPast g (set marks n new)
  past_written old = record { turned = old.turned; past = λ k. past k (same_or_other k n) }
    where
      past : (k : ℕ) → (k ≡ n) ⊎ (k ≢ n) → (mark_at (set marks n new) k).generation ≤ g
      past k (inl e) =
          subst (λ i. (mark_at (set marks n new) i).generation ≤ g) (sym e)
          (subst (λ m. m.generation ≤ g) (sym (get_or-set_same marks n new no_mark h)) (omega arith))
      past k (inr e) = subst (λ m. m.generation ≤ g) (sym (get_or-set_other marks n k new no_mark e)) (old.past k)

-- all marks are of earlier generations
pub none_written : (g : ℕ) (marks : List Mark) → ((n : ℕ) → (mark_at marks n).generation < g) → (n : ℕ) → written_at (all_in g marks) n ≡ None
none_written g marks before n = go (cases_lt n (length marks))
  where
    go : (n < length marks) ⊎ (length marks ≤ n) → written_at (all_in g marks) n ≡ None
    go (inl i) = at_all g marks n i ∙ stale g (mark_at marks n) (λ e. omega (arith, before n, e))
    go (inr i) = past_all g marks n i

pub past_turned : (g : ℕ) (marks : List Mark) → ((n : ℕ) → (mark_at marks n).generation < g) → AreFromPast g marks
past_turned g marks before = record { turned = omega (arith, before 0); past = λ n. omega (arith, before n) }

-- marks that no generation wrote, after the others
module _ (g : ℕ) (marks : List Mark) (more : ℕ) (old : AreFromPast g marks) where
  abbrev pub longer : List Mark
  longer = marks ++ replicate more no_mark

  new_at : (n : ℕ) → length marks ≤ n → mark_at longer n ≡ no_mark
  new_at n h = get_or-append_right marks (replicate more no_mark) (length marks) n no_mark refl h ∙ go (cases_lt (n - length marks) more)
    where
      go : (n - length marks < more) ⊎ (more ≤ n - length marks) → slice_index_or (replicate more no_mark) (n - length marks) no_mark ≡ no_mark
      go (inl i) = get_or-replicate {A = Mark} more (n - length marks) no_mark no_mark i
      go (inr i) = get_or_past (replicate more no_mark) (n - length marks) no_mark (omega (arith, length-replicate {A = Mark} more no_mark))

  pub past_longer : AreFromPast g longer
  past_longer = record { turned = old.turned; past = λ n. go n (cases_lt n (length marks)) }
    where
      go : (n : ℕ) → (n < length marks) ⊎ (length marks ≤ n) → (mark_at longer n).generation ≤ g
      go n (inl i) = subst (λ m. m.generation ≤ g) (sym (get_or-append marks (replicate more no_mark) no_mark n i)) (old.past n)
      go n (inr i) = subst (λ m. m.generation ≤ g) (sym (new_at n i)) (omega arith)

  pub kept_longer : (n : ℕ) → written_at (all_in g longer) n ≡ written_at (all_in g marks) n
  kept_longer n = go (cases_lt n (length marks)) (cases_lt n (length longer))
    where
      size : length longer ≡ length marks + more
      size = length-append marks (replicate more no_mark) ∙ ap (λ k. length marks + k) (length-replicate {A = Mark} more no_mark)

      go : (n < length marks) ⊎ (length marks ≤ n) → (n < length longer) ⊎ (length longer ≤ n) → written_at (all_in g longer) n ≡ written_at (all_in g marks) n
      go (inl i) _ =
          at_all g longer n (omega (arith, i, size)) ∙ ap (written_in g) (get_or-append marks (replicate more no_mark) no_mark n i) ∙ sym (at_all g marks n i)
      go (inr i) (inl j) =
          at_all g longer n j ∙ ap (written_in g) (new_at n i) ∙ stale g no_mark (λ e. omega (arith, old.turned, e)) ∙ sym (past_all g marks n i)
      go (inr i) (inr j) = past_all g longer n j ∙ sym (past_all g marks n i)

-- what a call of the code adds
pub widened : (xs ys : List Mark) (n l : ℕ) → ys ≡ take n xs ++ replicate (n - l) no_mark → l ≡ length xs → length xs ≤ n →
    ys ≡ xs ++ replicate (n - length xs) no_mark
widened xs ys n l is len h =
    is ∙ ap (λ z. z ++ replicate (n - l) no_mark) (take_all n xs h) ∙ ap (λ k. xs ++ replicate (n - k) no_mark) len
