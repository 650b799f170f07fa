use Rattle.std.proofs.Common.{◌≡◌, ◌≢◌, List, [], ◌∷◌, ℕ, length, map, refl, sym, subst, arith, Bor}
use Rattle.cmd_lang.specs.Reads.{Reads}
use Rattle.open_files.specs.Lines.{plain_act, words_act}
use Rattle.open_files.proofs.line.read_words.Goals as goal

-- so many words are those of a command
other_words : (part : List ℕ) (words : List (Bor (List ℕ))) → length words ≢ 1 → length words ≢ 2 → length words ≢ 4 → words_act part (map (λ word. word.now) words) ≡ plain_act part
other_words part [] one two four = refl
other_words part (a ∷ []) one two four = absurd (one refl)
other_words part (a ∷ b ∷ []) one two four = absurd (two refl)
other_words part (a ∷ b ∷ c ∷ []) one two four = refl
other_words part (a ∷ b ∷ c ∷ d ∷ []) one two four = absurd (four refl)
other_words part (a ∷ b ∷ c ∷ d ∷ e ∷ words) one two four = refl

pub returns-in-len3 : goal.returns-in-len3
returns-in-len3 c =
    subst (λ asks. Reads asks c.read_plain-in-len3.result) (sym (other_words c.args.part.now c.args.words.now (omega (arith, c.in-len3.len_at_least)) (omega (arith, c.in-len3.len_at_least)) (omega (arith, c.in-len3.len_below))))
    c.read_plain-in-len3.ensures

pub returns-in_default : goal.returns-in_default
returns-in_default c =
    subst (λ asks. Reads asks c.read_plain-in_default.result)
    (sym (other_words c.args.part.now c.args.words.now (omega (arith, c.in_default.len_at_least)) (omega (arith, c.in_default.len_at_least)) (omega (arith, c.in_default.len_at_least)))) c.read_plain-in_default.ensures
