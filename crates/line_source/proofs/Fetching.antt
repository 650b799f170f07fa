-- What a reader of lines takes of its source, and when.
use Rattle.std.proofs.Common.{◌≡◌, ◌⊎◌, ◌≤◌, ◌<◌, ◌++◌, ◌∷◌, [], ℕ, List, inl, inr, length, refl, sym, ◌∙◌, ap, subst, arith, append_assoc, length-append}
use Rattle.std.proofs.lemmas.List.{append-nil, append_cancel_right}
use Rattle.std.proofs.lemmas.List.Elements.{All-head, All-tail}
use Rattle.sector_disk.specs.Source.{Stream}
use Rattle.hfs_language.specs.Lines.{HasNoNewline}
use Rattle.line_source.specs.Input.{most_taken, ahead, TakesNoMore}

-- bytes had to be taken, since the line didn't end in those taken before
pub record Fetched (taken : List ℕ) (old : Stream) (text : List ℕ) (taken_now : List ℕ) (now : Stream) : Type 0 where
  pub came : List ℕ
  pub left : old.left ≡ came ++ now.left
  pub needed : HasNoNewline taken
  pub bytes : text ++ taken_now ≡ taken ++ came
  pub few : length taken_now ≤ most_taken

-- the text came of the bytes taken before alone, or more had to be taken
abbrev pub Fetches : List ℕ → Stream → List ℕ → List ℕ → Stream → Type 0
Fetches taken old text taken_now now = ((now ≡ old) × (taken ≡ text ++ taken_now)) ⊎ Fetched taken old text taken_now now

pub fetches_nothing : (taken : List ℕ) (old : Stream) → Fetches taken old [] taken old
fetches_nothing taken old = inl (refl, refl)

-- a newline stands behind a text that has none
newline_behind : (text rest before behind : List ℕ) → HasNoNewline text → text ++ rest ≡ before ++ 10 ∷ behind → length behind < length rest
newline_behind [] rest before behind none is = omega (arith, ap (λ (l : List ℕ). length l) is, length-append before (10 ∷ behind))
newline_behind (byte ∷ text) rest [] behind none is = absurd (All-head (λ b. b ≡ 10 → ⊥) byte text none (cc is))
newline_behind (byte ∷ text) rest (first ∷ before) behind none is = newline_behind text rest before behind (All-tail (λ b. b ≡ 10 → ⊥) byte text none) (cc is)

module _ (taken : List ℕ) (old : Stream) (text : List ℕ) where
  -- at an exit, where at most one byte more was read
  pub no_more : (rest taken_new : List ℕ) (new : Stream) → HasNoNewline text → length rest ≤ 1 → Fetches taken old (text ++ rest) taken_new new → TakesNoMore taken old new
  no_more rest taken_new new none short (inl same) = record {
    needed = inl same.0;
    came = [];
    bytes = ap (λ (s : Stream). s.left) (sym same.0);
    few = λ before behind is. omega (arith, ap (λ (l : List ℕ). length l) is, length-append before (10 ∷ behind));
  }
  no_more rest taken_new new none short (inr fetched) = record {
    needed = inr fetched.needed;
    came = fetched.came;
    bytes = fetched.left;
    few = λ before behind is.
        let whole : text ++ (rest ++ taken_new) ≡ (taken ++ before) ++ 10 ∷ behind =
        sym (append_assoc text rest taken_new) ∙ fetched.bytes ∙ ap (λ (l : List ℕ). taken ++ l) is ∙ sym (append_assoc taken before (10 ∷ behind)) in
        omega (arith, short, fetched.few, length-append rest taken_new, newline_behind text (rest ++ taken_new) (taken ++ before) behind none whole);
  }

  -- one byte more
  pub fetches_byte : (taken_now taken_new : List ℕ) (now new : Stream) (byte : ℕ) → ((taken_now ≡ [] → ⊥) → new ≡ now) → length taken_new ≤ most_taken → ahead taken_now now ≡ byte ∷ ahead taken_new new
      → HasNoNewline text → Fetches taken old text taken_now now → Fetches taken old (text ++ byte ∷ []) taken_new new
  fetches_byte [] taken_new now new byte still few came none (inl same) = inr (record {
    came = byte ∷ taken_new;
    left = ap (λ (s : Stream). s.left) (sym same.0) ∙ came;
    needed = subst HasNoNewline (sym (same.1 ∙ append-nil text)) none;
    bytes = append_assoc text (byte ∷ []) taken_new ∙ ap (λ (l : List ℕ). l ++ byte ∷ taken_new) (sym (same.1 ∙ append-nil text));
    few = few;
  })
  fetches_byte [] taken_new now new byte still few came none (inr fetched) = inr (record {
    came = fetched.came ++ byte ∷ taken_new;
    left = fetched.left ∙ ap (λ (l : List ℕ). fetched.came ++ l) came ∙ sym (append_assoc fetched.came (byte ∷ taken_new) new.left);
    needed = fetched.needed;
    bytes = append_assoc text (byte ∷ []) taken_new ∙ ap (λ (l : List ℕ). l ++ byte ∷ taken_new) (sym (append-nil text) ∙ fetched.bytes) ∙ append_assoc taken fetched.came (byte ∷ taken_new);
    few = few;
  })
  fetches_byte (first ∷ taken_now) taken_new now new byte still few came none fetches =
      let same : new ≡ now = still (λ is. absurd (cc is)) in
      let popped : first ∷ taken_now ≡ byte ∷ taken_new = append_cancel_right (first ∷ taken_now) (byte ∷ taken_new) now.left (came ∙ ap (λ (s : Stream). byte ∷ ahead taken_new s) same) in
      let text_is : (text ++ byte ∷ []) ++ taken_new ≡ text ++ first ∷ taken_now = append_assoc text (byte ∷ []) taken_new ∙ ap (λ (l : List ℕ). text ++ l) (sym popped) in
      go fetches same text_is
    where
      go : Fetches taken old text (first ∷ taken_now) now → new ≡ now → (text ++ byte ∷ []) ++ taken_new ≡ text ++ first ∷ taken_now → Fetches taken old (text ++ byte ∷ []) taken_new new
      go (inl before) same text_is = inl (same ∙ before.0, before.1 ∙ sym text_is)
      go (inr fetched) same text_is = inr (record {
        came = fetched.came;
        left = fetched.left ∙ ap (λ (s : Stream). fetched.came ++ s.left) (sym same);
        needed = fetched.needed;
        bytes = text_is ∙ fetched.bytes;
        few = few;
      })

  -- no byte more
  pub fetches_none : (taken_now : List ℕ) (now new : Stream) → ((taken_now ≡ [] → ⊥) → new ≡ now) → new.left ≡ now.left → HasNoNewline text → Fetches taken old text taken_now now → Fetches taken old text taken_now new
  fetches_none [] now new still kept none (inl same) = inr (record {
    came = [];
    left = ap (λ (s : Stream). s.left) (sym same.0) ∙ sym kept;
    needed = subst HasNoNewline (sym (same.1 ∙ append-nil text)) none;
    bytes = sym same.1 ∙ sym (append-nil taken);
    few = omega arith;
  })
  fetches_none (first ∷ taken_now) now new still kept none (inl same) = inl (still (λ is. absurd (cc is)) ∙ same.0, same.1)
  fetches_none taken_now now new still kept none (inr fetched) = inr (record {
    came = fetched.came;
    left = fetched.left ∙ ap (λ (l : List ℕ). fetched.came ++ l) (sym kept);
    needed = fetched.needed;
    bytes = fetched.bytes;
    few = fetched.few;
  })

  -- bytes were taken of the source where none were left of those taken before
  pub fetches_on : (taken_now taken_new : List ℕ) (now new : Stream) → ((taken_now ≡ [] → ⊥) → (new ≡ now) × (taken_new ≡ taken_now)) → length taken_new ≤ most_taken → ahead taken_new new ≡ ahead taken_now now
      → HasNoNewline text → Fetches taken old text taken_now now → Fetches taken old text taken_new new
  fetches_on [] taken_new now new still few came none (inl same) = inr (record {
    came = taken_new;
    left = ap (λ (s : Stream). s.left) (sym same.0) ∙ sym came;
    needed = subst HasNoNewline (sym (same.1 ∙ append-nil text)) none;
    bytes = ap (λ (l : List ℕ). l ++ taken_new) (sym (same.1 ∙ append-nil text));
    few = few;
  })
  fetches_on [] taken_new now new still few came none (inr fetched) = inr (record {
    came = fetched.came ++ taken_new;
    left = fetched.left ∙ ap (λ (l : List ℕ). fetched.came ++ l) (sym came) ∙ sym (append_assoc fetched.came taken_new new.left);
    needed = fetched.needed;
    bytes = ap (λ (l : List ℕ). l ++ taken_new) (sym (append-nil text) ∙ fetched.bytes) ∙ append_assoc taken fetched.came taken_new;
    few = few;
  })
  fetches_on (first ∷ taken_now) taken_new now new still few came none fetches =
      let same = still (λ is. absurd (cc is)) in
      subst (λ (s : Stream). Fetches taken old text taken_new s) (sym same.0) (subst (λ (l : List ℕ). Fetches taken old text l now) (sym same.1) fetches)

  -- a piece of the bytes that were taken joins the text
  pub fetches_piece : (piece rest : List ℕ) (now : Stream) → Fetches taken old text (piece ++ rest) now → Fetches taken old (text ++ piece) rest now
  fetches_piece piece rest now (inl same) = inl (same.0, same.1 ∙ sym (append_assoc text piece rest))
  fetches_piece piece rest now (inr fetched) = inr (record {
    came = fetched.came;
    left = fetched.left;
    needed = fetched.needed;
    bytes = append_assoc text piece rest ∙ fetched.bytes;
    few = omega (arith, fetched.few, length-append piece rest);
  })
