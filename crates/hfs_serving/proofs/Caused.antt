-- Commits with their causes, over stretches that follow one another.
use Rattle.std.proofs.Common.{◌≡◌, ⊎_elim, ◌<◌, ◌≤◌, ◌+◌, ◌*◌, ◌++◌, ◌∷◌, [], ℕ, List, inl, inr, length, length-append, refl, sym, ◌∙◌, ap, arith}
use Rattle.std.specs.Prelude.{Bool, true, false, IsTrue, ◌&&◌, if◌then◌else◌, not, Result, Ok, Err, OnOk}
use Rattle.std.proofs.Math.Nat.{mul-add, mul-le-mul_left, mul-one}
use Rattle.std.proofs.lemmas.Bool.{cases_lt}
use Rattle.std.proofs.lemmas.List.Elements.{Contains-append_left, Contains-append_right, Contains-push}
use Rattle.hfs_serving.specs.Commits.{CommitsABatch, CommitsOnce, CommitsRun, HaveCauses, IsCutShort, IsOfCommit, barriers_of}
use Rattle.hfs_serving.specs.Going.{Hearing, is_answered, wants_commit}
use Rattle.hfs_serving.specs.Trying.{HearsAs}
use Rattle.hfs_serving.specs.declared.volume.Performed.{Performed}
use Rattle.hfs_serving.specs.declared.volume.Performed.TheVariants as performed
use Rattle.hfs_serving.specs.declared.volume.Step.{Step}
use Rattle.hfs_serving.specs.declared.volume.Step.TheVariants as step

-- of a commit that began as this says, where that says more
of_more : (began wider : ℕ → Type 0) (barrier : ℕ) → ((passed : ℕ) → began passed → wider passed) → IsOfCommit began barrier → IsOfCommit wider barrier
of_more began wider barrier more was = record { passed = was.passed; begun = more was.passed was.begun; least = was.least; most = was.most }

-- ---- how often memory may be missing, by the lines that were tried

-- more lines
pub more_often : (often n m : ℕ) → n ≤ m → often * n ≤ often * m
more_often often n m few = mul-le-mul_left often few

-- one line more, at least
pub one_more_often : (often n m : ℕ) → n + 1 ≤ m → often * n + often ≤ often * m
one_more_often often n m few = omega (arith, mul-add often n 1, mul-one often, more_often often (n + 1) m few)

-- those of two stretches
pub both_often : (often n m k : ℕ) → n + m ≡ k → often * n + often * m ≡ often * k
both_often often n m k sum = sym (mul-add often n m) ∙ ap (λ x. often * x) sum

module _ (wanted : ℕ → Type 0) where
  -- no barrier was passed
  pub no_commit : (often old new : ℕ) → new ≤ old → HaveCauses wanted often old new
  no_commit often old new none = record {
    short = [];
    few = omega arith;
    each = λ barrier from to. absurd (omega (arith, none, from, to));
  }

  -- a commit was made that a step wanted
  pub wanted_commit : (often old new : ℕ) → wanted old → new ≤ old + 4 → HaveCauses wanted often old new
  wanted_commit often old new asked four = record {
    short = [];
    few = omega arith;
    each = λ barrier from to. inl (record { passed = old; begun = asked; least = from; most = omega (arith, four, to) });
  }

  -- a commit was made since memory was missing
  pub short_commit : (old new : ℕ) → new ≤ old + 4 → HaveCauses wanted 1 old new
  short_commit old new four = record {
    short = old ∷ [];
    few = omega arith;
    each = λ barrier from to. inr (record { passed = old; begun = Contains-push [] old; least = from; most = omega (arith, four, to) });
  }

  -- another stretch behind one
  pub commits_on : (first second often old mid then_ new : ℕ) → HaveCauses wanted first old mid → then_ ≤ mid → HaveCauses wanted second then_ new → first + second ≤ often → HaveCauses wanted often old new
  commits_on first second often old mid then_ new a near b within = record {
    short = a.short ++ b.short;
    few = omega (arith, length-append a.short b.short, a.few, b.few, within);
    each = λ barrier from to. ⊎_elim
        (λ (before : barrier < mid). ⊎_elim (λ was. inl was) (λ was. inr (of_more _ _ barrier (λ passed is. Contains-append_left a.short b.short passed is) was)) (a.each barrier from before))
        (λ (behind : mid ≤ barrier). ⊎_elim (λ was. inl was) (λ was. inr (of_more _ _ barrier (λ passed is. Contains-append_right a.short b.short passed is) was)) (b.each barrier (omega (arith, near, behind)) to))
        (cases_lt barrier mid);
  }

  -- memory may be missing more often
  pub causes_more : (first often old new : ℕ) → HaveCauses wanted first old new → first ≤ often → HaveCauses wanted often old new
  causes_more first often old new was within = record { short = was.short; few = omega (arith, was.few, within); each = was.each }

  -- the batch of no line
  pub first_batch : (often old new count : ℕ) (lines : List (List ℕ)) → lines ≡ [] → count ≤ length lines → CommitsOnce wanted often count old new → CommitsABatch wanted often 1 0 old new
  first_batch often old new count lines none few once = record {
    ends = once.ending ∷ [];
    few_ends = omega arith;
    short = once.before.short;
    few_short = omega (arith, once.before.few, more_often often (count + 2) 2 (omega (arith, few, ap (λ (l : List (List ℕ)). length l) none)));
    each = λ barrier from to. ⊎_elim
        (λ (before : barrier < once.ending). ⊎_elim (λ was. inl was) (λ was. inr (inl was)) (once.before.each barrier from before))
        (λ (behind : once.ending ≤ barrier). inr (inr (record { passed = once.ending; begun = Contains-push [] once.ending; least = behind; most = omega (arith, once.last, to) })))
        (cases_lt barrier once.ending);
  }

  -- another behind some
  pub batch_on : (often empty more lines count all old mid new : ℕ) → CommitsABatch wanted often empty lines old mid → CommitsOnce wanted often count mid new → lines + empty < all + more → lines + count ≡ all → CommitsABatch wanted often more all old new
  batch_on often empty more lines count all old mid new a once some sum = record {
    ends = a.ends ++ once.ending ∷ [];
    few_ends = omega (arith, length-append a.ends (once.ending ∷ []), a.few_ends, some, sum);
    short = a.short ++ once.before.short;
    few_short =
        let more = length-append a.ends (once.ending ∷ []) in
        omega (arith, length-append a.short once.before.short, more, a.few_short, once.before.few, both_often often (lines + 2 * length a.ends) (count + 2) (all + 2 * length (a.ends ++ once.ending ∷ [])) (omega (arith, more, sum)));
    each = λ barrier from to. ⊎_elim
        (λ (before : barrier < mid). ⊎_elim (λ was. inl was)
        (⊎_elim (λ was. inr (inl (of_more _ _ barrier (λ passed is. Contains-append_left a.short once.before.short passed is) was)))
        (λ was. inr (inr (of_more _ _ barrier (λ passed is. Contains-append_left a.ends (once.ending ∷ []) passed is) was)))) (a.each barrier from before))
        (λ (behind : mid ≤ barrier). ⊎_elim
        (λ (within : barrier < once.ending). ⊎_elim (λ was. inl was) (λ was. inr (inl (of_more _ _ barrier (λ passed is. Contains-append_right a.short once.before.short passed is) was))) (once.before.each barrier behind within))
        (λ (last : once.ending ≤ barrier). inr (inr (record { passed = once.ending; begun = Contains-push a.ends once.ending; least = last; most = omega (arith, once.last, to) })))
        (cases_lt barrier once.ending))
        (cases_lt barrier mid);
  }

  -- one of no line more
  pub batches_more : (often empty lines old new : ℕ) → CommitsABatch wanted often empty lines old new → CommitsABatch wanted often (empty + 1) lines old new
  batches_more often empty lines old new was = record { ends = was.ends; few_ends = omega (arith, was.few_ends); short = was.short; few_short = was.few_short; each = was.each }

  -- no batch
  pub no_batch : (often empty old new : ℕ) → new ≤ old → CommitsABatch wanted often empty 0 old new
  no_batch often empty old new none = record {
    ends = [];
    few_ends = omega arith;
    short = [];
    few_short = omega arith;
    each = λ barrier from to. absurd (omega (arith, none, from, to));
  }

  -- the batch of no line, which a fault cut short
  pub first_cut : (often old new : ℕ) (lines : List (List ℕ)) → lines ≡ [] → IsCutShort wanted often (length lines) old new → CommitsABatch wanted often 2 0 old new
  first_cut often old new lines none cut = batches_more often 1 0 old new (first_batch often old new cut.0 lines none cut.1 cut.2)

  -- a run without a batch
  pub run_none : (often ahead empty old new : ℕ) → new ≤ old + ahead → CommitsRun wanted often ahead empty 0 old new
  run_none often ahead empty old new few = record { begun = new; first = few; ended = new; batches = no_batch often empty new new (omega arith); last = omega arith }

-- what is wanted may be more
pub causes_wider : (wanted wider : ℕ → Type 0) (often old new : ℕ) → ((passed : ℕ) → wanted passed → wider passed) → HaveCauses wanted often old new → HaveCauses wider often old new
causes_wider wanted wider often old new more was = record {
  short = was.short;
  few = was.few;
  each = λ barrier from to. ⊎_elim (λ is. inl (of_more _ _ barrier more is)) (λ is. inr is) (was.each barrier from to);
}

pub batches_wider : (wanted wider : ℕ → Type 0) (often empty lines old new : ℕ) → ((passed : ℕ) → wanted passed → wider passed) → CommitsABatch wanted often empty lines old new → CommitsABatch wider often empty lines old new
batches_wider wanted wider often empty lines old new more was = record {
  ends = was.ends;
  few_ends = was.few_ends;
  short = was.short;
  few_short = was.few_short;
  each = λ barrier from to. ⊎_elim (λ is. inl (of_more _ _ barrier more is)) (λ is. inr is) (was.each barrier from to);
}

-- a run, behind more barriers
pub run_behind : (wanted : ℕ → Type 0) (often ahead more empty lines old mid new : ℕ) → CommitsRun wanted often ahead empty lines mid new → mid ≤ old + more → CommitsRun wanted often (ahead + more) empty lines old new
run_behind wanted often ahead more empty lines old mid new was far = record { begun = was.begun; first = omega (arith, was.first, far); ended = was.ended; batches = was.batches; last = was.last }

-- ---- the steps of a command

-- a step that was heard wants a commit where the volume does
pub waits_as : (made : Step) (came : Performed) (hears : Hearing) (same : Type 0) → HearsAs made came hears same → made ≡ step.CommitFirst → came ≡ performed.CommitFirst
waits_as step.Answered came hears same heard is = absurd (cc is)
waits_as step.Again came hears same heard is = absurd (cc is)
waits_as step.CommitFirst (performed.Done said changes) hears same heard is = absurd heard
waits_as step.CommitFirst performed.Again hears same heard is = absurd heard
waits_as step.CommitFirst performed.CommitFirst hears same heard is = refl
waits_as step.Forgone came hears same heard is = absurd (cc is)

-- a try passes the barriers of one commit at most
pub four_most : (made : Step) → barriers_of made ≤ 4
four_most step.Answered = omega arith
four_most step.Again = omega arith
four_most step.CommitFirst = omega arith
four_most step.Forgone = omega arith

-- and none where its command isn't answered
pub none_passed : (made : Step) → is_answered made ≡ false → barriers_of made ≡ 0
none_passed step.Answered other = absurd (cc other)
none_passed step.Again other = refl
none_passed step.CommitFirst other = refl
none_passed step.Forgone other = absurd (cc other)

pub is_wanted : (made : Step) → wants_commit made ≡ true → made ≡ step.CommitFirst
is_wanted step.Answered is = absurd (cc is)
is_wanted step.Again is = absurd (cc is)
is_wanted step.CommitFirst is = refl
is_wanted step.Forgone is = absurd (cc is)

-- a step that waits wants a commit
pub is_waiting : (made : Step) (may_wait : Bool) → (wants_commit made && may_wait) ≡ true → made ≡ step.CommitFirst
is_waiting step.Answered may_wait waits = absurd (cc waits)
is_waiting step.Again may_wait waits = absurd (cc waits)
is_waiting step.CommitFirst may_wait waits = refl
is_waiting step.Forgone may_wait waits = absurd (cc waits)

-- behind a try that wants a commit one is made, and behind another none
pub room_made : (wanted : ℕ → Type 0) (old mid new : ℕ) (made : Step) (room : Bool) → is_answered made ≡ false → (IsTrue room → made ≡ step.CommitFirst) → (made ≡ step.CommitFirst → wanted old)
    → mid ≤ old + barriers_of made → new ≤ mid + (if room then 4 else 0) → HaveCauses wanted 0 old new
room_made wanted old mid new made true other is asked near four = wanted_commit wanted 0 old new (asked (is refl)) (omega (arith, none_passed made other, near, four))
room_made wanted old mid new made false other is asked near none = no_commit wanted 0 old new (omega (arith, none_passed made other, near, none))

-- where one is answered
pub on_ok : {T E : Type 0} (A B : Type 0) (r : Result T E) → (A → B) → OnOk r A → OnOk r B
on_ok A B (Ok value) more was = more was
on_ok A B (Err fault) more was = tt

pub not_first : (first : Bool) → not first ≡ true → first ≡ false
not_first true is = absurd (cc is)
not_first false is = refl
