-- A line on its way out of a source.
use Rattle.std.proofs.Common.{◌≡◌, ◌==◌, ◌↔◌, inl, inr, suc, Bool, true, false, ◌≤◌, ◌<◌, ◌+◌, ◌++◌, ◌∷◌, [], ℕ, List, IsTrue, length, take, refl, sym, ◌∙◌, ap, subst, arith, append_assoc, length-append}
use Rattle.std.proofs.Math.Seq.{take-nil}
use Rattle.std.proofs.lemmas.Bool.Decides.{nat_tests}
use Rattle.std.proofs.lemmas.List.{append-nil}
use Rattle.std.proofs.lemmas.List.Elements.{All-append}
use Rattle.sector_disk.specs.Source.{Stream}
use Rattle.hfs_language.specs.Lines.{lines, HasNoNewline}
use Rattle.hfs_language.proofs.Lines.{lines_ended, lines_last}
use Rattle.line_source.specs.Cutting.{Cuts}
use Rattle.line_source.specs.Input.{most_taken, ahead, weight, IsLine, SameSource, TakesLines, TakesNoMore}
use Rattle.line_source.proofs.Fetching.{Fetches, fetches_byte, fetches_none, fetches_on, fetches_piece, no_more}

-- some bytes of a line have come so far
pub record Reads (limit : ℕ) (taken : List ℕ) (old : Stream) (taken_now : List ℕ) (now : Stream) (line : List ℕ) : Type 0 where
  pub text : List ℕ
  pub no_newline : HasNoNewline text
  pub line_is : IsLine limit text line
  pub bytes : IsTrue old.tells → ahead taken old ≡ text ++ ahead taken_now now
  pub nearer : length text + weight taken_now now ≤ weight taken old
  pub same : SameSource old now
  pub later : old.faults ≤ now.faults
  pub fetches : IsTrue old.tells → Fetches taken old text taken_now now

module _ (limit : ℕ) (taken : List ℕ) (old : Stream) (taken_now : List ℕ) (now : Stream) (line : List ℕ) (reads : Reads limit taken old taken_now now line) where
  pub still : IsTrue old.tells → IsTrue now.tells
  still tells = subst IsTrue (sym reads.same.tells) tells

  -- bytes were taken of the source where none were left of those taken before
  pub reads_on : (taken_new : List ℕ) (new : Stream) → (IsTrue now.tells → ahead taken_new new ≡ ahead taken_now now) → weight taken_new new ≤ weight taken_now now → SameSource now new → now.faults ≤ new.faults
      → ((taken_now ≡ [] → ⊥) → (new ≡ now) × (taken_new ≡ taken_now)) → length taken_new ≤ most_taken → Reads limit taken old taken_new new line
  reads_on taken_new new came heavy same later still_there few = record {
    text = reads.text;
    no_newline = reads.no_newline;
    line_is = reads.line_is;
    bytes = λ tells. reads.bytes tells ∙ ap (λ (l : List ℕ). reads.text ++ l) (sym (came (still tells)));
    nearer = omega (arith, heavy, reads.nearer);
    same = record { tells = same.tells ∙ reads.same.tells; names = same.names ∙ reads.same.names };
    later = omega (arith, later, reads.later);
    fetches = λ tells. fetches_on taken old reads.text taken_now taken_new now new still_there few (came (still tells)) reads.no_newline (reads.fetches tells);
  }

  -- a piece of them joins the line
  pub reads_piece : (piece rest longer : List ℕ) → taken_now ≡ piece ++ rest → HasNoNewline piece → IsLine limit (reads.text ++ piece) longer → Reads limit taken old rest now longer
  reads_piece piece rest longer cut none is = record {
    text = reads.text ++ piece;
    no_newline = All-append (λ b. b ≡ 10 → ⊥) reads.text piece reads.no_newline none;
    line_is = is;
    bytes = λ tells. reads.bytes tells ∙ ap (λ (l : List ℕ). reads.text ++ (l ++ now.left)) cut ∙ ap (λ (l : List ℕ). reads.text ++ l) (append_assoc piece rest now.left) ∙ sym (append_assoc reads.text piece (rest ++ now.left));
    nearer = omega (arith, reads.nearer, length-append reads.text piece, ap (λ (l : List ℕ). length l) cut, length-append piece rest);
    same = reads.same;
    later = reads.later;
    fetches = λ tells. fetches_piece taken old reads.text piece rest now (subst (λ (l : List ℕ). Fetches taken old reads.text l now) cut (reads.fetches tells));
  }

  -- a newline ends the line
  pub reads_ended : (taken_new : List ℕ) (new : Stream) → (IsTrue now.tells → ahead taken_now now ≡ 10 ∷ ahead taken_new new) → IsTrue old.tells → TakesLines taken old (reads.text ∷ []) taken_new new
  reads_ended taken_new new came tells = record {
    used = reads.text ++ 10 ∷ [];
    bytes = reads.bytes tells ∙ ap (λ (l : List ℕ). reads.text ++ l) (came (still tells)) ∙ sym (append_assoc reads.text (10 ∷ []) (ahead taken_new new));
    cut = inl (λ more. ap lines (append_assoc reads.text (10 ∷ []) more) ∙ lines_ended reads.text more reads.no_newline);
  }

  -- so does the end of the source, where something of a line has come
  pub reads_last : (taken_new : List ℕ) (new : Stream) → (reads.text ≡ [] → ⊥) → (IsTrue now.tells → ahead taken_now now ≡ []) → (IsTrue now.tells → ahead taken_new new ≡ []) → IsTrue old.tells → TakesLines taken old (reads.text ∷ []) taken_new new
  reads_last taken_new new some none at_end tells = record {
    used = reads.text;
    bytes = reads.bytes tells ∙ ap (λ (l : List ℕ). reads.text ++ l) (none (still tells) ∙ sym (at_end (still tells)));
    cut = inr (at_end (still tells), last_line reads.text reads.no_newline some);
  }
    where
      last_line : (text : List ℕ) → HasNoNewline text → (text ≡ [] → ⊥) → lines text ≡ text ∷ []
      last_line [] no_newline some = absurd (some refl)
      last_line (byte ∷ text) no_newline some = lines_last byte text no_newline

  -- what is gone stood first
  pub reads_gone : (left : List ℕ) → left ≡ now.left → IsTrue old.tells → (gone : List ℕ) × (ahead taken old ≡ gone ++ left)
  reads_gone left is tells = (reads.text ++ taken_now, reads.bytes tells ∙ sym (append_assoc reads.text taken_now now.left) ∙ ap (λ (l : List ℕ). (reads.text ++ taken_now) ++ l) (sym is))

  pub reads_gone_byte : (taken_new : List ℕ) (new : Stream) (byte : ℕ) → (IsTrue now.tells → ahead taken_now now ≡ byte ∷ ahead taken_new new) → IsTrue old.tells → (gone : List ℕ) × (ahead taken old ≡ gone ++ new.left)
  reads_gone_byte taken_new new byte came tells = (
    reads.text ++ (byte ∷ taken_new),
    reads.bytes tells ∙ ap (λ (l : List ℕ). reads.text ++ l) (came (still tells)) ∙ sym (append_assoc reads.text (byte ∷ taken_new) new.left),
  )

  -- no more was taken than the line needs, where one byte more was read, and where none was
  pub reads_few_byte : (taken_new : List ℕ) (new : Stream) (byte : ℕ) → ((taken_now ≡ [] → ⊥) → new ≡ now) → length taken_new ≤ most_taken → (IsTrue now.tells → ahead taken_now now ≡ byte ∷ ahead taken_new new) → IsTrue old.tells → TakesNoMore taken old new
  reads_few_byte taken_new new byte still_there few came tells =
      no_more taken old reads.text (byte ∷ []) taken_new new reads.no_newline (omega arith) (fetches_byte taken old reads.text taken_now taken_new now new byte still_there few (came (still tells)) reads.no_newline (reads.fetches tells))

  pub reads_few : (new : Stream) → ((taken_now ≡ [] → ⊥) → new ≡ now) → (IsTrue now.tells → new.left ≡ now.left) → IsTrue old.tells → TakesNoMore taken old new
  reads_few new still_there kept tells =
      let fetches = fetches_none taken old reads.text taken_now now new still_there (kept (still tells)) reads.no_newline (reads.fetches tells) in
      no_more taken old reads.text [] taken_now new reads.no_newline (omega arith) (subst (λ (l : List ℕ). Fetches taken old l taken_now new) (sym (append-nil reads.text)) fetches)

  -- at the end nothing is left, before and after
  pub reads_few_end : (taken_new : List ℕ) (new : Stream) → ((taken_now ≡ [] → ⊥) → new ≡ now) → (IsTrue now.tells → (ahead taken_now now ≡ []) × (ahead taken_new new ≡ [])) → IsTrue old.tells → TakesNoMore taken old new
  reads_few_end taken_new new still_there at_end = reads_few new still_there (λ tells. none_behind taken_new new.left (at_end tells).1 ∙ sym (none_behind taken_now now.left (at_end tells).0))
    where
      none_behind : (front rest : List ℕ) → front ++ rest ≡ [] → rest ≡ []
      none_behind [] rest none = none
      none_behind (byte ∷ front) rest none = absurd (cc none)

-- what isn't empty has a byte
pub some_text : (empty : Bool) (text : List ℕ) → IsTrue empty ↔ (text ≡ []) → empty ≡ false → text ≡ [] → ⊥
some_text empty text test none is = absurd (cc (test.1 is, none))

-- nothing is held of a line just where it has no byte
pub is_nothing : (limit : ℕ) (text line : List ℕ) (empty : Bool) → empty ≡ (length line == 0) → IsLine limit text line → IsTrue empty ↔ (text ≡ [])
is_nothing limit [] line empty is held = (λ _. refl, λ _. is ∙ ap (λ (l : List ℕ). length l == 0) (held ∙ take-nil (limit + 1)))
is_nothing limit (byte ∷ text) line empty is held = (λ t. absurd (no_length (sym is ∙ t)), λ none. absurd (cc none))
  where
    no_length : (length line == 0) ≡ true → ⊥
    no_length none =
        let zero_is : length line ≡ 0 = grind (arith, nat_tests, none) in
        let next_is : limit + 1 ≡ suc limit = omega arith in
        let is_it : line ≡ byte ∷ take limit text = subst (λ (n : ℕ). line ≡ take n (byte ∷ text)) next_is held in
        absurd (omega (arith, zero_is, ap (λ (l : List ℕ). length l) is_it))

-- ---- a cut

module _ (limit : ℕ) (taken : List ℕ) (old : Stream) (taken_now : List ℕ) (now : Stream) (line : List ℕ) (reads : Reads limit taken old taken_now now line) where
  -- no newline was there
  pub cut_on : (taken_new line_new : List ℕ) (ended : Bool) → Cuts limit taken_now line ended taken_new line_new → ended ≡ false → Reads limit taken old taken_new now line_new
  cut_on taken_new line_new ended cuts not =
      let at_end = cuts.at_end not in
      reads_piece limit taken old taken_now now line reads cuts.piece taken_new line_new (at_end.0 ∙ sym (append-nil cuts.piece) ∙ ap (λ (l : List ℕ). cuts.piece ++ l) (sym at_end.1)) cuts.no_newline (cuts.joins reads.text reads.line_is)

  -- one ends the line
  pub record EndsLine (taken_new line_new : List ℕ) : Type 0 where
    pub text : List ℕ
    pub line_is : IsLine limit text line_new
    pub takes : IsTrue old.tells → TakesLines taken old (text ∷ []) taken_new now
    pub no_more_is : IsTrue old.tells → TakesNoMore taken old now
    pub gone : IsTrue old.tells → (gone : List ℕ) × (ahead taken old ≡ gone ++ now.left)
    pub nearer : weight taken_new now < weight taken old

  pub cut_ended : (taken_new line_new : List ℕ) (ended : Bool) → length taken_now ≤ most_taken → Cuts limit taken_now line ended taken_new line_new → ended ≡ true → EndsLine taken_new line_new
  cut_ended taken_new line_new ended few cuts is =
      let whole = reads_piece limit taken old taken_now now line reads cuts.piece (10 ∷ taken_new) line_new (cuts.at_newline is) cuts.no_newline (cuts.joins reads.text reads.line_is) in
      let left : length taken_new ≤ most_taken = omega (arith, few, ap (λ (l : List ℕ). length l) (cuts.at_newline is), length-append cuts.piece (10 ∷ taken_new)) in
      record {
        text = whole.text;
        line_is = whole.line_is;
        takes = reads_ended limit taken old (10 ∷ taken_new) now line_new whole taken_new now (λ tells. refl);
        no_more_is = reads_few_byte limit taken old (10 ∷ taken_new) now line_new whole taken_new now 10 (λ some. refl) left (λ tells. refl);
        gone = reads_gone_byte limit taken old (10 ∷ taken_new) now line_new whole taken_new now 10 (λ tells. refl);
        nearer = omega (arith, whole.nearer);
      }
