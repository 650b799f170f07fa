-- What lines are told, as lists: the texts one behind the other, and which of them were told.
use Rattle.std.proofs.Common.{◌≡◌, ◌≤◌, ◌+◌, [], ◌∷◌, ◌++◌, ℕ, List, length, refl, sym, ◌∙◌, ap, subst, arith, append_assoc, length-append}
use Rattle.std.proofs.lemmas.List.{append-nil}
use Rattle.hfs_serving.specs.Runs.{Answer, AreAnswered, AreAnswers, IsPrefix, shifted, texts_of}
use Rattle.hfs_serving.proofs.Lists.{front_length, front_behind}

pub texts_of-none : texts_of [] ≡ []
unfolding texts_of
texts_of-none = refl

pub texts_of-append : (answers more : List Answer) → texts_of (answers ++ more) ≡ texts_of answers ++ texts_of more
unfolding texts_of
texts_of-append [] more = refl
texts_of-append (answer ∷ answers) more = ap (λ (l : List ℕ). answer.text ++ l) (texts_of-append answers more) ∙ sym (append_assoc answer.text (texts_of answers) (texts_of more))

texts_of-shifted : (before : ℕ) (answers : List Answer) → texts_of (shifted before answers) ≡ texts_of answers
unfolding texts_of
texts_of-shifted before [] = refl
texts_of-shifted before (answer ∷ answers) = ap (λ (l : List ℕ). answer.text ++ l) (texts_of-shifted before answers)

-- the texts of two stretches
pub texts_of_both : (answers more : List Answer) (before : ℕ) → texts_of (answers ++ shifted before more) ≡ texts_of answers ++ texts_of more
texts_of_both answers more before = texts_of-append answers (shifted before more) ∙ ap (λ (l : List ℕ). texts_of answers ++ l) (texts_of-shifted before more)

pub are_more : (less most : ℕ) (answers : List Answer) → less ≤ most → AreAnswers less answers → AreAnswers most answers
are_more less most [] le are = tt
are_more less most (answer ∷ answers) le are = (omega (arith, le, are.0), are.1, are_more less most answers le are.2)

pub are_shifted : (before most : ℕ) (answers : List Answer) → AreAnswers most answers → AreAnswers (before + most) (shifted before answers)
are_shifted before most [] are = tt
are_shifted before most (answer ∷ answers) are = (omega (arith, are.0), are.1, are_shifted before most answers are.2)

pub are_both : (most : ℕ) (answers more : List Answer) → AreAnswers most answers → AreAnswers most more → AreAnswers most (answers ++ more)
are_both most [] more are others = others
are_both most (answer ∷ answers) more are others = (are.0, are.1, are_both most answers more are.2 others)

-- ---- which were told

-- those of two lists
pub answered_both : (told : List ℕ) (count : ℕ) (answers more : List Answer) (text : List ℕ) → AreAnswered text answers told count → AreAnswered (text ++ texts_of answers) more told count → AreAnswered text (answers ++ more) told count
unfolding texts_of
answered_both told count [] more text first second = subst (λ (l : List ℕ). AreAnswered l more told count) (append-nil text) second
answered_both told count (answer ∷ answers) more text first second = (
  first.0,
  answered_both told count answers more (text ++ answer.text) first.1 (subst (λ (l : List ℕ). AreAnswered l more told count) (sym (append_assoc text answer.text (texts_of answers))) second),
)

-- none is told where no more bytes are told than came before them
pub none_answered : (told : List ℕ) (count most : ℕ) (answers : List Answer) (text : List ℕ) → AreAnswers most answers → length told ≤ length text → AreAnswered text answers told count
none_answered told count most [] text are few = tt
none_answered told count most (answer ∷ answers) text are few = (
  λ front. absurd (omega (arith, few, are.1, front_length (text ++ answer.text) told front, length-append text answer.text)),
  none_answered told count most answers (text ++ answer.text) are.2 (omega (arith, few, length-append text answer.text)),
)

-- all may be told where all entries are there
pub all_answered : (told : List ℕ) (count most : ℕ) (answers : List Answer) (text : List ℕ) → AreAnswers most answers → most ≤ count → AreAnswered text answers told count
all_answered told count most [] text are le = tt
all_answered told count most (answer ∷ answers) text are le = (λ _. omega (arith, le, are.0), all_answered told count most answers (text ++ answer.text) are.2 le)

-- the same behind other bytes and entries
pub answered_behind : (front told : List ℕ) (before count : ℕ) (answers : List Answer) (text : List ℕ) → AreAnswered text answers told count → AreAnswered (front ++ text) (shifted before answers) (front ++ told) (before + count)
answered_behind front told before count [] text each = tt
answered_behind front told before count (answer ∷ answers) text each = (
  λ is.
      let there = each.0 (front_behind front (text ++ answer.text) told (subst (λ (l : List ℕ). IsPrefix l (front ++ told)) (append_assoc front text answer.text) is)) in
      omega (arith, there),
  subst (λ (l : List ℕ). AreAnswered l (shifted before answers) (front ++ told) (before + count)) (sym (append_assoc front text answer.text)) (answered_behind front told before count answers (text ++ answer.text) each.1),
)
