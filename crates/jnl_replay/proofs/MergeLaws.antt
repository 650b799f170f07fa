-- Two lists of runs as one, run by run.
use Rattle.std.proofs.Common.{◌≡◌, ◌<◌, ◌≤◌, ◌+◌, ℕ, min, max, List, [], ◌∷◌, ◌++◌, length, take, drop, get_or, inl, inr, refl, sym, ◌∙◌, ap, subst, arith, ⊎_elim}
use Rattle.std.specs.Prelude.{Option, None}
use Rattle.std.proofs.lemmas.Bool.{cases_lt}
use Rattle.std.proofs.lemmas.List.{get_or_append_left, length-append, get_or-drop, length-drop, take-append-drop, get_or_default}
use Rattle.std.proofs.Math.Seq.{get_or-append_seam}
use Rattle.jnl_replay.specs.Runs.{place_in_run, or_else, place_in_runs, place_in_both, IsRun, AreWhole, AreRuns, EndBy, IsNext, HaveNone}
use Rattle.jnl_replay.specs.declared.runs.Run.{Run}
use Rattle.jnl_replay.proofs.RunLaws.{in_run, out_of_run, none_of, runs_append, first_behind, all_before, whole_pushed, whole_front}

pub ended_later : (runs : List Run) (i at q : ℕ) → at ≤ q → EndBy runs i at → EndBy runs i q
ended_later runs i at q up before none k less = omega (arith, up, before none k less)

-- What a list of runs has next, from a sector on.
pub record IsAhead (runs : List Run) (at : ℕ) (run : Run) : Type 0 where
  pub is : IsRun run
  pub from : at ≤ run.first
  pub gap : (q : ℕ) → at ≤ q → q < run.first → place_in_runs runs q ≡ None
  pub here : (q : ℕ) → at ≤ q → q < run.first + run.many → place_in_runs runs q ≡ place_in_run run q

pub ahead : (runs : List Run) (i at : ℕ) (whole run : Run) → AreRuns runs → EndBy runs i at → i < length runs → (whole ≡ get_or runs i whole) → ((none : Run) → at < (get_or runs i none).first + (get_or runs i none).many)
    → IsRun run → run.first ≡ max whole.first at → run.first + run.many ≡ whole.first + whole.many → ((q : ℕ) → at ≤ q → place_in_run run q ≡ place_in_run whole q) → IsAhead runs at run
ahead runs i at whole run are before inside whole_is ends is first end same = record {
  is = is;
  from = omega (arith, first);
  gap = λ q from less. seen q from (omega (arith, less, first)) ∙ out_of_run whole q (inl (omega (arith, less, first, from)));
  here = λ q from less. seen q from (omega (arith, less, end)) ∙ sym (same q from);
}
  where
    end_of : (none : Run) → (get_or runs i none).first + (get_or runs i none).many ≡ whole.first + whole.many
    end_of none = ap (λ (r : Run). r.first + r.many) (get_or_default runs i none whole inside ∙ sym whole_is)

    seen : (q : ℕ) → at ≤ q → q < whole.first + whole.many → place_in_runs runs q ≡ place_in_run whole q
    seen q from less = first_behind runs i q are inside (ended_later runs i at q from before) (λ none. omega (arith, less, end_of none)) whole ∙ ap (λ (r : Run). place_in_run r q) (sym whole_is)

pub nothing_ahead : (runs : List Run) (i at : ℕ) → length runs ≤ i → EndBy runs i at → (q : ℕ) → at ≤ q → place_in_runs runs q ≡ None
nothing_ahead runs i at all before q from = all_before runs i q all (ended_later runs i at q from before)

-- a place that a run has is found first
held : (run : Run) (x y : Option ℕ) (q : ℕ) → run.first ≤ q → q < run.first + run.many → x ≡ place_in_run run q → or_else x y ≡ place_in_run run q
held run x y q low high is =
    let some = in_run run q low high in
    ap (λ (o : Option ℕ). or_else o y) (is ∙ some) ∙ sym some

pub both_none : (older newer : List Run) (q : ℕ) → place_in_runs newer q ≡ None → place_in_runs older q ≡ None → place_in_both older newer q ≡ None
both_none older newer q new old = λ i. or_else (new i) (old i)

module _ (older newer : List Run) (at : ℕ) where
  pub newer_alone : (run : Run) → ((q : ℕ) → at ≤ q → place_in_runs older q ≡ None) → IsAhead newer at run → IsNext older newer at run
  newer_alone run old new = record {
    is = new.is;
    from = new.from;
    gap = λ q from less. both_none older newer q (new.gap q from less) (old q from);
    here = λ q low high. held run (place_in_runs newer q) (place_in_runs older q) q low high (new.here q (omega (arith, low, new.from)) high);
  }

  pub older_alone : (run : Run) → ((q : ℕ) → at ≤ q → place_in_runs newer q ≡ None) → IsAhead older at run → IsNext older newer at run
  older_alone run new old = record {
    is = old.is;
    from = old.from;
    gap = λ q from less. both_none older newer q (new q from) (old.gap q from less);
    here = λ q low high. ap (λ (o : Option ℕ). or_else o (place_in_runs older q)) (new q (omega (arith, low, old.from))) ∙ old.here q (omega (arith, low, old.from)) high;
  }

  pub newer_first : (old new : Run) → IsAhead older at old → IsAhead newer at new → new.first ≤ old.first → IsNext older newer at new
  newer_first old new of_old of_new less = record {
    is = of_new.is;
    from = of_new.from;
    gap = λ q from below. both_none older newer q (of_new.gap q from below) (of_old.gap q from (omega (arith, below, less)));
    here = λ q low high. held new (place_in_runs newer q) (place_in_runs older q) q low high (of_new.here q (omega (arith, low, of_new.from)) high);
  }

  pub older_first : (old new run : Run) → IsAhead older at old → IsAhead newer at new → old.first < new.first → IsRun run → run.first ≡ old.first → run.first + run.many ≡ min (old.first + old.many) new.first
      → ((q : ℕ) → q < new.first → place_in_run run q ≡ place_in_run old q) → IsNext older newer at run
  older_first old new run of_old of_new less is first end same = record {
    is = is;
    from = omega (arith, first, of_old.from);
    gap = λ q from below. both_none older newer q (of_new.gap q from (omega (arith, below, first, less))) (of_old.gap q from (omega (arith, below, first)));
    here = λ q low high.
        ap (λ (o : Option ℕ). or_else o (place_in_runs older q)) (of_new.gap q (omega (arith, low, first, of_old.from)) (omega (arith, high, end)))
        ∙ of_old.here q (omega (arith, low, first, of_old.from)) (omega (arith, high, end)) ∙ sym (same q (omega (arith, high, end)));
  }

-- What was made of two lists of runs, up to a sector.
pub record IsMerged (older newer out : List Run) (at : ℕ) : Type 0 where
  pub runs : AreRuns out
  pub ended : EndBy out (length out) at
  pub done : (q : ℕ) → q < at → place_in_runs out q ≡ place_in_both older newer q

pub merged_none : (older newer : List Run) → IsMerged older newer [] 0
merged_none older newer = record {
  runs = record {
    whole = λ none k inside. absurd (omega (arith, inside));
    apart = λ none i j less inside. absurd (omega (arith, inside));
  };
  ended = λ none k inside. absurd (omega (arith, inside));
  done = λ q less. absurd (omega (arith, less));
}

pub merged_more : (older newer out new : List Run) (at : ℕ) (run : Run) → IsMerged older newer out at → IsNext older newer at run → new ≡ out ++ run ∷ [] → IsMerged older newer new (run.first + run.many)
merged_more older newer out new at run was next is = record {
  runs = record {
    whole = whole_pushed out new run is was.runs.whole next.is;
    apart = λ none i j less inside. ⊎_elim
        (λ (before : j < length out). omega (arith, was.runs.apart none i j less before, ap (λ (r : Run). r.first + r.many) (same none i (omega (arith, less, before))), ap (λ (r : Run). r.first) (same none j before)))
        (λ (last : length out ≤ j).
        let here : j ≡ length out = omega (arith, last, inside, longer) in
        omega (arith, was.ended none i (omega (arith, less, here)), next.from, ap (λ (r : Run). r.first + r.many) (same none i (omega (arith, less, here))), ap (λ (r : Run). r.first) (ap (λ n. get_or new n none) here ∙ last_is none)))
        (cases_lt j (length out));
  };
  ended = λ none k inside. ⊎_elim
      (λ (before : k < length out). omega (arith, was.ended none k before, next.from, ap (λ (r : Run). r.first + r.many) (same none k before)))
      (λ (last : length out ≤ k).
      let here : k ≡ length out = omega (arith, last, inside, longer) in
      omega (arith, ap (λ (r : Run). r.first + r.many) (ap (λ n. get_or new n none) here ∙ last_is none)))
      (cases_lt k (length out));
  done = λ q less. found q ∙ ⊎_elim
      (λ (before : q < run.first). ap (λ (o : Option ℕ). or_else o (place_in_runs out q)) (out_of_run run q (inl before)) ∙ ⊎_elim
      (λ (settled : q < at). was.done q settled)
      (λ (from : at ≤ q). none_of out q (λ none k inside. inr (omega (arith, was.ended none k inside, from))) ∙ sym (next.gap q from before))
      (cases_lt q at))
      (λ (low : run.first ≤ q). held run (place_in_run run q) (place_in_runs out q) q low less refl ∙ sym (next.here q low less))
      (cases_lt q run.first);
}
  where
    longer : length new ≡ length out + 1
    longer = ap (λ (l : List Run). length l) is ∙ length-append out (run ∷ [])

    same : (none : Run) (k : ℕ) → k < length out → get_or new k none ≡ get_or out k none
    same none k inside = ap (λ (l : List Run). get_or l k none) is ∙ get_or_append_left out (run ∷ []) none k inside

    last_is : (none : Run) → get_or new (length out) none ≡ run
    last_is none = ap (λ (l : List Run). get_or l (length out) none) is ∙ get_or-append_seam out run [] none

    found : (q : ℕ) → place_in_runs new q ≡ or_else (place_in_run run q) (place_in_runs out q)
    found q = ap (λ (l : List Run). place_in_runs l q) is ∙ runs_append out (run ∷ []) q

pub merged_all : (older newer out : List Run) (at : ℕ) → IsMerged older newer out at → HaveNone older newer at → (q : ℕ) → place_in_runs out q ≡ place_in_both older newer q
merged_all older newer out at was none q = ⊎_elim
    (λ (settled : q < at). was.done q settled)
    (λ (from : at ≤ q). none_of out q (λ d k inside. inr (omega (arith, was.ended d k inside, from))) ∙ sym (none q from))
    (cases_lt q at)

-- ---- in order

-- the two halves of some runs
pub halved : (runs front back older newer : List Run) (n q : ℕ) → front ≡ take n runs → back ≡ drop n runs → place_in_runs older q ≡ place_in_runs front q → place_in_runs newer q ≡ place_in_runs back q
    → place_in_both older newer q ≡ place_in_runs runs q
halved runs front back older newer n q front_is back_is old new =
    (λ i. or_else (new i) (old i)) ∙ (λ i. or_else (place_in_runs (back_is i) q) (place_in_runs (front_is i) q)) ∙ sym (runs_append (take n runs) (drop n runs) q) ∙ ap (λ (l : List Run). place_in_runs l q) (take-append-drop n runs)

pub front_whole : (runs front : List Run) (n : ℕ) → front ≡ take n runs → n ≤ length runs → AreWhole runs → AreWhole front
front_whole runs front n is few whole = subst (λ (l : List Run). AreWhole l) (sym is) (whole_front runs n whole few)

pub back_whole : (runs back : List Run) (n : ℕ) → back ≡ drop n runs → AreWhole runs → AreWhole back
back_whole runs back n is whole = subst (λ (l : List Run). AreWhole l) (sym is) (λ none k inside. subst (λ (r : Run). IsRun r) (sym (get_or-drop n runs k none)) (whole none (n + k) (omega (arith, inside, length-drop n runs))))

pub one_in_order : (runs : List Run) → length runs < 2 → AreWhole runs → AreRuns runs
one_in_order runs few whole = record { whole = whole; apart = λ none i j less inside. absurd (omega (arith, few, less, inside)) }
