-- Lines that were handed over, on their way to a caller.
use Rattle.std.proofs.Common.{◌≡◌, ◌==◌, ◌≤◌, ◌<◌, ◌+◌, ◌++◌, ◌∷◌, [], ℕ, List, Bool, true, false, IsTrue, Option, Some, None, Result, Ok, Err, IfOk, inl, inr, length, drop, refl, sym, ◌∙◌, ap, subst, arith, append_assoc, length-append}
use Rattle.std.specs.Prelude.{IfSome, IsErrOf}
use Rattle.std.proofs.lemmas.List.{append-nil}
use Rattle.sector_disk.specs.Cause.{Rose}
use Rattle.sector_disk.specs.Source.{Stream}
use Rattle.hfs_language.specs.Lines.{lines, HasNoNewline}
use Rattle.hfs_language.proofs.Lines.{HasNoNewline-nil, lines_ended}
use Rattle.line_source.specs.Batch.{has_newline}
use Rattle.line_source.specs.Handed.{AreLines, HandsOver, Refills, bytes_of}
use Rattle.line_source.specs.Input.{most_taken, ahead, weight, IsLine, SameSource, TakesLines, TakesNoMore}
use Rattle.line_source.specs.Next.{GivesNext}
use Rattle.line_source.specs.declared.input.InputFault.{InputFault}
use Rattle.line_source.specs.declared.input.InputFault.TheVariants.{Source}
use Rattle.line_source.proofs.Cuts.{none_left}
use Rattle.line_source.proofs.Texts.{newline_behind}

-- ---- the first of some lines

pub first_line_is : (line : List ℕ) (rest : List (List ℕ)) (taken : List ℕ) → bytes_of (line ∷ rest) ++ taken ≡ line ++ 10 ∷ (bytes_of rest ++ taken)
first_line_is line rest taken =
    ap (λ (l : List ℕ). l ++ taken) (append_assoc line (10 ∷ []) (bytes_of rest)) ∙ append_assoc line (10 ∷ bytes_of rest) taken

pub ready_is : (ready : List (List ℕ)) (line : List ℕ) (rest : List (List ℕ)) (taken : List ℕ) → ready ≡ line ∷ rest → bytes_of ready ++ taken ≡ line ++ 10 ∷ (bytes_of rest ++ taken)
ready_is ready line rest taken is = ap (λ (l : List (List ℕ)). bytes_of l ++ taken) is ∙ first_line_is line rest taken

pub ready_has_newline : (ready : List (List ℕ)) (taken : List ℕ) → (ready ≡ [] → ⊥) → true ≡ has_newline (bytes_of ready ++ taken)
ready_has_newline [] taken some = absurd (some refl)
ready_has_newline (line ∷ rest) taken some = sym (ap has_newline (first_line_is line rest taken) ∙ newline_behind line (bytes_of rest ++ taken))

-- ---- lines were handed over, or none was wanted

pub not_wanted : (taken : List ℕ) (source : Stream) → (taken ≡ [] → ⊥) → Refills taken source taken source
not_wanted taken source some = record { bytes = λ tells. refl; still = λ _. (refl, refl); few = λ none. absurd (some none); no_more = omega arith }

pub handed : (ready : List (List ℕ)) (taken : List ℕ) (source new : Stream) (texts : List (List ℕ)) → ready ≡ [] → taken ≡ [] → HandsOver source texts new → new.takes ≤ source.takes → Refills (bytes_of ready ++ taken) source (bytes_of texts ++ taken) new
handed ready taken source new texts no_line no_byte hands fewer =
    let was : bytes_of ready ++ taken ≡ [] = ap (λ (l : List (List ℕ)). bytes_of l ++ taken) no_line ∙ no_byte in
    let is : bytes_of texts ++ taken ≡ bytes_of texts = ap (λ (l : List ℕ). bytes_of texts ++ l) no_byte ∙ append-nil (bytes_of texts) in
    record {
      bytes = λ tells. ap (λ (l : List ℕ). l ++ new.left) is ∙ sym (hands.bytes tells) ∙ ap (λ (l : List ℕ). l ++ source.left) (sym was);
      still = λ some. absurd (some was);
      few = λ _. omega (arith, hands.few, ap (λ (l : List ℕ). length l) is);
      no_more = lighter texts hands.few hands.falls is;
    }
  where
    lighter : (texts : List (List ℕ)) → length (bytes_of texts) ≤ most_taken → ((texts ≡ [] → ⊥) → new.takes < source.takes) → bytes_of texts ++ taken ≡ bytes_of texts → weight (bytes_of texts ++ taken) new ≤ weight (bytes_of ready ++ taken) source
    lighter [] few falls is = omega (arith, fewer, ap (λ (l : List ℕ). length l) is)
    lighter (text ∷ rest) few falls is = omega (arith, few, falls (λ none. absurd (cc none)), ap (λ (l : List ℕ). length l) is)

-- ---- what a reader of lines says of what came behind

module _ (taken : List ℕ) (source : Stream) (mid : List ℕ) (now : Stream) (refills : Refills taken source mid now) (same : SameSource source now) where
  still : IsTrue source.tells → IsTrue now.tells
  still tells = subst IsTrue (sym same.tells) tells

  -- a line that is ready
  module _ (text rest : List ℕ) (is : mid ≡ text ++ 10 ∷ rest) where
    pub ready_takes : HasNoNewline text → IsTrue source.tells → TakesLines taken source (text ∷ []) rest now
    ready_takes none tells = record {
      used = text ++ 10 ∷ [];
      bytes = sym (refills.bytes tells) ∙ ap (λ (l : List ℕ). l ++ now.left) is ∙ append_assoc text (10 ∷ rest) now.left ∙ sym (append_assoc text (10 ∷ []) (ahead rest now));
      cut = inl (λ more. ap lines (append_assoc text (10 ∷ []) more) ∙ lines_ended text more none);
    }

    pub ready_nearer : weight rest now < weight taken source
    ready_nearer = omega (arith, refills.no_more, ap (λ (l : List ℕ). length l) is, length-append text (10 ∷ rest))

  pub ready_gone : IsTrue source.tells → (gone : List ℕ) × (ahead taken source ≡ gone ++ now.left)
  ready_gone tells = (mid, sym (refills.bytes tells))

  pub ready_no_more : IsTrue source.tells → TakesNoMore taken source now
  ready_no_more tells = no_more_of taken refills tells
    where
      no_more_of : (held : List ℕ) → Refills held source mid now → IsTrue source.tells → TakesNoMore held source now
      no_more_of [] refills tells = record {
        needed = inr HasNoNewline-nil;
        came = mid;
        bytes = sym (refills.bytes tells);
        few = λ before behind is. omega (arith, refills.few refl, ap (λ (l : List ℕ). length l) is, length-append before (10 ∷ behind));
      }
      no_more_of (byte ∷ held) refills tells =
          let as_before : now ≡ source = (refills.still (λ none. absurd (cc none))).0 in
          record {
            needed = inl as_before;
            came = [];
            bytes = ap (λ (s : Stream). s.left) (sym as_before);
            few = λ before behind is. omega (arith, ap (λ (l : List ℕ). length l) is, length-append before (10 ∷ behind));
          }

  -- what comes behind, where no line was ready
  pub on_takes : (new : List ℕ) (last : Stream) (some : List (List ℕ)) → (IsTrue now.tells → TakesLines mid now some new last) → IsTrue source.tells → TakesLines taken source some new last
  on_takes new last some takes tells =
      let it = takes (still tells) in
      record { used = it.used; bytes = sym (refills.bytes tells) ∙ it.bytes; cut = it.cut }

  pub on_end : (ended : Type 0) → (IsTrue now.tells → (ahead mid now ≡ []) × ended) → IsTrue source.tells → (ahead taken source ≡ []) × ended
  on_end ended at_end tells = (sym (refills.bytes tells) ∙ (at_end (still tells)).0, (at_end (still tells)).1)

  pub on_gone : (left : List ℕ) → (IsTrue now.tells → (gone : List ℕ) × (ahead mid now ≡ gone ++ left)) → IsTrue source.tells → (gone : List ℕ) × (ahead taken source ≡ gone ++ left)
  on_gone left gone tells = ((gone (still tells)).0, sym (refills.bytes tells) ∙ (gone (still tells)).1)

  pub on_begun : (left : List ℕ) → (IsTrue now.tells → (begun : List ℕ) × HasNoNewline begun × (ahead mid now ≡ begun ++ left)) → IsTrue source.tells → (begun : List ℕ) × HasNoNewline begun × (ahead taken source ≡ begun ++ left)
  on_begun left begun tells = ((begun (still tells)).0, (begun (still tells)).1, sym (refills.bytes tells) ∙ (begun (still tells)).2)

  pub on_had_none : HasNoNewline mid → HasNoNewline taken
  on_had_none none = none_of taken refills none
    where
      none_of : (held : List ℕ) → Refills held source mid now → HasNoNewline mid → HasNoNewline held
      none_of [] refills none = HasNoNewline-nil
      none_of (byte ∷ held) refills none = subst HasNoNewline (refills.still (λ empty. absurd (cc empty))).1 none

  pub on_no_more : (taken ≡ [] → mid ≡ []) → (last : Stream) → (IsTrue now.tells → TakesNoMore mid now last) → IsTrue source.tells → TakesNoMore taken source last
  on_no_more empty last more tells = no_more_of taken refills empty last (more (still tells)) tells
    where
      no_more_of : (held : List ℕ) → Refills held source mid now → (held ≡ [] → mid ≡ []) → (last : Stream) → TakesNoMore mid now last → IsTrue source.tells → TakesNoMore held source last
      no_more_of [] refills empty last more tells = record {
        needed = inr HasNoNewline-nil;
        came = more.came;
        bytes = sym (refills.bytes tells) ∙ ap (λ (l : List ℕ). l ++ now.left) (empty refl) ∙ more.bytes;
        few = more.few;
      }
      no_more_of (byte ∷ held) refills empty last more tells =
          let as_before = refills.still (λ none. absurd (cc none)) in
          subst (λ (s : Stream). TakesNoMore (byte ∷ held) s last) as_before.0 (subst (λ (l : List ℕ). TakesNoMore l now last) as_before.1 more)

-- ---- the next line

-- the source failed to hand over lines
pub next_failed : (limit : ℕ) (taken : List ℕ) (source now : Stream) → now.left ≡ source.left → taken ≡ [] → SameSource source now → source.faults ≤ now.faults → Rose source.faults now.faults → GivesNext limit taken source (Err Source) taken now
next_failed limit taken source now kept none same later rose =
    let bytes : ahead taken source ≡ now.left = ap (λ (l : List ℕ). l ++ source.left) none ∙ sym kept in
    record {
      line = tt;
      end = λ tells. tt;
      gone = λ tells. ([], bytes);
      no_more = λ tells. record {
        needed = inr (subst HasNoNewline (sym none) HasNoNewline-nil);
        came = [];
        bytes = sym kept;
        few = λ before behind is. omega (arith, ap (λ (l : List ℕ). length l) is, length-append before (10 ∷ behind));
      };
      begun = λ tells is. ([], HasNoNewline-nil, bytes);
      had_none = λ tells is. subst HasNoNewline (sym none) HasNoNewline-nil;
      nearer = tt;
      no_heavier = tt;
      same = same;
      cause = record { later = later; rose = λ is. rose };
    }

module _ (limit : ℕ) (taken : List ℕ) (source : Stream) (mid : List ℕ) (now : Stream) (refills : Refills taken source mid now) (same : SameSource source now) (later : source.faults ≤ now.faults) where
  on_rose : (last : Stream) → Rose now.faults last.faults → Rose source.faults last.faults
  on_rose last rose = omega (arith, later, rose)

  -- a line is ready
  pub next_ready : (text rest : List ℕ) → mid ≡ text ++ 10 ∷ rest → HasNoNewline text → (r : Result (Option (List ℕ)) InputFault) → IfOk r (λ next. IfSome next (IsLine limit text)) → IfOk r (λ next. next ≡ None → ⊥) → (IsErrOf r Source → ⊥) → GivesNext limit taken source r rest now
  next_ready text rest is none (Ok (Some line)) held some memory = record {
    line = (text, held, ready_takes taken source mid now refills same text rest is none);
    end = λ tells. tt;
    gone = ready_gone taken source mid now refills same;
    no_more = ready_no_more taken source mid now refills same;
    begun = λ tells failed. absurd (memory failed);
    had_none = λ tells failed. absurd (memory failed);
    nearer = ready_nearer taken source mid now refills same text rest is;
    no_heavier = omega (arith, ready_nearer taken source mid now refills same text rest is);
    same = same;
    cause = record { later = later; rose = λ failed. absurd (memory failed) };
  }
  next_ready text rest is none (Ok None) held some memory = absurd (some refl)
  next_ready text rest is none (Err fault) held some memory = record {
    line = tt;
    end = λ tells. tt;
    gone = ready_gone taken source mid now refills same;
    no_more = ready_no_more taken source mid now refills same;
    begun = λ tells failed. absurd (memory failed);
    had_none = λ tells failed. absurd (memory failed);
    nearer = tt;
    no_heavier = tt;
    same = same;
    cause = record { later = later; rose = λ failed. absurd (memory failed) };
  }

  -- none is
  pub next_cut : (taken ≡ [] → mid ≡ []) → (r : Result (Option (List ℕ)) InputFault) (new : List ℕ) (last : Stream) → GivesNext limit mid now r new last → GivesNext limit taken source r new last
  next_cut empty (Ok (Some line)) new last next = record {
    line = (next.line.0, next.line.1, on_takes taken source mid now refills same new last (next.line.0 ∷ []) next.line.2);
    end = λ tells. tt;
    gone = on_gone taken source mid now refills same last.left next.gone;
    no_more = on_no_more taken source mid now refills same empty last next.no_more;
    begun = λ tells failed. on_begun taken source mid now refills same last.left (λ told. next.begun told failed) tells;
    had_none = λ tells failed. on_had_none taken source mid now refills same (next.had_none (subst IsTrue (sym same.tells) tells) failed);
    nearer = omega (arith, next.nearer, refills.no_more);
    no_heavier = omega (arith, next.no_heavier, refills.no_more);
    same = record { tells = next.same.tells ∙ same.tells; names = next.same.names ∙ same.names };
    cause = record { later = omega (arith, later, next.cause.later); rose = λ failed. on_rose last (next.cause.rose failed) };
  }
  next_cut empty (Ok None) new last next = record {
    line = tt;
    end = λ tells. on_end taken source mid now refills same (ahead new last ≡ []) next.end tells;
    gone = on_gone taken source mid now refills same last.left next.gone;
    no_more = on_no_more taken source mid now refills same empty last next.no_more;
    begun = λ tells failed. on_begun taken source mid now refills same last.left (λ told. next.begun told failed) tells;
    had_none = λ tells failed. on_had_none taken source mid now refills same (next.had_none (subst IsTrue (sym same.tells) tells) failed);
    nearer = tt;
    no_heavier = omega (arith, next.no_heavier, refills.no_more);
    same = record { tells = next.same.tells ∙ same.tells; names = next.same.names ∙ same.names };
    cause = record { later = omega (arith, later, next.cause.later); rose = λ failed. on_rose last (next.cause.rose failed) };
  }
  next_cut empty (Err fault) new last next = record {
    line = tt;
    end = λ tells. tt;
    gone = on_gone taken source mid now refills same last.left next.gone;
    no_more = on_no_more taken source mid now refills same empty last next.no_more;
    begun = λ tells failed. on_begun taken source mid now refills same last.left (λ told. next.begun told failed) tells;
    had_none = λ tells failed. on_had_none taken source mid now refills same (next.had_none (subst IsTrue (sym same.tells) tells) failed);
    nearer = tt;
    no_heavier = tt;
    same = record { tells = next.same.tells ∙ same.tells; names = next.same.names ∙ same.names };
    cause = record { later = omega (arith, later, next.cause.later); rose = λ failed. on_rose last (next.cause.rose failed) };
  }

pub not_empty : (n : ℕ) (empty : Bool) → empty ≡ (n == 0) → empty ≡ false → n ≡ 0 → ⊥
not_empty n empty is isnt zero =
    let test : false ≡ true = sym isnt ∙ is ∙ ap (λ (m : ℕ). m == 0) zero in
    absurd (cc test)
