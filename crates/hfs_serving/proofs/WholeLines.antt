-- The first of the lines that bytes are cut into, and the bytes that they take.
use Rattle.std.proofs.Common.{◌≡◌, ◌<◌, ◌≤◌, ◌+◌, ◌++◌, ◌∷◌, ◌==◌, ◌⊎◌, [], zero, suc, Bool, true, false, ℕ, List, length, take, inl, inr, refl, sym, ◌∙◌, ap, subst, arith, append_assoc}
use Rattle.std.proofs.lemmas.Bool.Decides.{nat_tests}
use Rattle.std.specs.Prelude.{nat_le}
use Rattle.std.proofs.lemmas.List.{append-nil, take_all}
use Rattle.std.proofs.lemmas.List.Elements.{All-cons}
use Rattle.hfs_language.specs.Lines.{lines, HasNoNewline}
use Rattle.hfs_language.proofs.Lines.{lines-nil, lines_ended, lines_last, HasNoNewline-nil}
use Rattle.line_source.specs.Input.{SplitsIntoLines}

-- ---- the first newline

-- bytes have no newline, or this part stands before the first
abbrev SplitsAtNewline : List ℕ → Type 0
SplitsAtNewline bytes = HasNoNewline bytes ⊎ ((part : List ℕ) × (rest : List ℕ) × HasNoNewline part × (bytes ≡ part ++ 10 ∷ rest))

newline_is : (byte : ℕ) → (byte == 10) ≡ true → byte ≡ 10
newline_is byte is = grind (arith, nat_tests, is)

no_newline : (byte : ℕ) → (byte == 10) ≡ false → byte ≡ 10 → ⊥
no_newline byte isnt same = grind (arith, nat_tests, isnt, same)

split_more : (byte : ℕ) (bytes : List ℕ) (is : Bool) → (byte == 10) ≡ is → SplitsAtNewline bytes → SplitsAtNewline (byte ∷ bytes)
split_more byte bytes true is more = inr ([], bytes, HasNoNewline-nil, ap (λ (b : ℕ). b ∷ bytes) (newline_is byte is))
split_more byte bytes false is (inl none) = inl (All-cons (λ b. b ≡ 10 → ⊥) byte bytes (no_newline byte is) none)
split_more byte bytes false is (inr there) =
    inr (byte ∷ there.0, there.1, All-cons (λ b. b ≡ 10 → ⊥) byte there.0 (no_newline byte is) there.2, ap (λ (l : List ℕ). byte ∷ l) there.3)

split : (bytes : List ℕ) → SplitsAtNewline bytes
split [] = inl HasNoNewline-nil
split (byte ∷ bytes) = split_more byte bytes (byte == 10) refl (split bytes)

-- ---- the first lines

-- these bytes are cut into these lines, whatever comes behind them
abbrev AreCut : List ℕ → List (List ℕ) → Type 0
AreCut used some = (more : List ℕ) → lines (used ++ more) ≡ some ++ lines more

-- the front of these bytes is cut into so many of their lines
abbrev HasFront : ℕ → List ℕ → Type 0
HasFront count bytes = (first : List ℕ) × (later : List ℕ) × (bytes ≡ first ++ later) × AreCut first (take count (lines bytes))

-- bytes without a newline are one line at most
one_line : (bytes : List ℕ) → HasNoNewline bytes → length (lines bytes) ≤ 1
one_line [] none = omega (arith, ap (λ (l : List (List ℕ)). length l) lines-nil)
one_line (byte ∷ part) none = omega (arith, ap (λ (l : List (List ℕ)). length l) (lines_last byte part none))

-- a line more in front
front_more : (count : ℕ) (bytes part rest : List ℕ) → HasNoNewline part → bytes ≡ part ++ 10 ∷ rest → HasFront count rest → HasFront (suc count) bytes
front_more count bytes part rest none same front =
    let cut : lines bytes ≡ part ∷ lines rest = ap lines same ∙ lines_ended part rest none in (
      part ++ 10 ∷ front.0,
      front.1,
      same ∙ ap (λ (l : List ℕ). part ++ 10 ∷ l) front.2 ∙ sym (append_assoc part (10 ∷ front.0) front.1),
      λ more.
          ap lines (append_assoc part (10 ∷ front.0) more) ∙ lines_ended part (front.0 ++ more) none ∙ ap (λ (l : List (List ℕ)). part ∷ l) (front.3 more)
          ∙ ap (λ (l : List (List ℕ)). take (suc count) l ++ lines more) (sym cut),
    )

-- the same where the bytes behind the first newline have such a front
front_at : (count : ℕ) (bytes : List ℕ) → ((rest : List ℕ) → count < length (lines rest) → HasFront count rest) → suc count < length (lines bytes) → SplitsAtNewline bytes → HasFront (suc count) bytes
front_at count bytes fewer inside (inl none) = absurd (omega (arith, one_line bytes none, inside))
front_at count bytes fewer inside (inr there) =
    let long = ap (λ (l : List ℕ). length (lines l)) there.3 ∙ ap (λ (l : List (List ℕ)). length l) (lines_ended there.0 there.1 there.2) in
    front_more count bytes there.0 there.1 there.2 there.3 (fewer there.1 (omega (arith, inside, long)))

-- fewer lines than all are whole
front_of : (count : ℕ) (bytes : List ℕ) → count < length (lines bytes) → HasFront count bytes
front_of zero bytes inside = ([], bytes, refl, λ more. refl)
front_of (suc count) bytes inside = front_at count bytes (front_of count) inside (split bytes)

-- ---- of lines that were taken

-- so many of these lines were cut off the front of these bytes, before such others
pub record CutsFront (count : ℕ) (used : List ℕ) (some : List (List ℕ)) (rest : List ℕ) : Type 0 where
  pub first : List ℕ
  pub later : List ℕ
  pub bytes : used ≡ first ++ later
  pub cut : SplitsIntoLines first (take count some) (later ++ rest)

-- all of them
front_all : (count : ℕ) (used : List ℕ) (some : List (List ℕ)) (rest : List ℕ) → length some ≤ count → SplitsIntoLines used some rest → CutsFront count used some rest
front_all count used some rest many cut = record {
  first = used;
  later = [];
  bytes = sym (append-nil used);
  cut = subst (λ (l : List (List ℕ)). SplitsIntoLines used l rest) (sym (take_all count some many)) cut;
}

-- fewer
front_few : (count : ℕ) (used : List ℕ) (some : List (List ℕ)) (rest : List ℕ) → count < length some → lines used ≡ some → CutsFront count used some rest
front_few count used some rest few are =
    let front = front_of count used (subst (λ (l : List (List ℕ)). count < length l) (sym are) few) in
    record {
      first = front.0;
      later = front.1;
      bytes = front.2;
      cut = inl (λ more. front.3 more ∙ ap (λ (l : List (List ℕ)). take count l ++ lines more) are);
    }

-- whatever comes behind them, they are the lines of their bytes
lines_are : (used : List ℕ) (some : List (List ℕ)) (rest : List ℕ) → SplitsIntoLines used some rest → lines used ≡ some
lines_are used some rest (inl cut) = ap lines (sym (append-nil used)) ∙ cut [] ∙ ap (λ (l : List (List ℕ)). some ++ l) lines-nil ∙ append-nil some
lines_are used some rest (inr cut) = cut.1

cuts_by : (count : ℕ) (used : List ℕ) (some : List (List ℕ)) (rest : List ℕ) (many : Bool) → nat_le (length some) count ≡ many → SplitsIntoLines used some rest → CutsFront count used some rest
cuts_by count used some rest true is cut = front_all count used some rest (grind (arith, nat_tests, is)) cut
cuts_by count used some rest false is cut = front_few count used some rest (grind (arith, nat_tests, is)) (lines_are used some rest cut)

-- the first of lines that were taken
pub cuts_front : (count : ℕ) (used : List ℕ) (some : List (List ℕ)) (rest : List ℕ) → SplitsIntoLines used some rest → CutsFront count used some rest
cuts_front count used some rest cut = cuts_by count used some rest (nat_le (length some) count) refl cut
