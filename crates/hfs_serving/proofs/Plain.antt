-- Plain lines, of which each makes one entry and is told its reply: their answers, and what is said of them by their numbers.
use Rattle.std.proofs.Common.{◌≡◌, ◌<◌, ◌≤◌, ◌+◌, [], ◌∷◌, ◌++◌, ℕ, zero, suc, List, length, take, refl, sym, ◌∙◌, ap, subst, arith, append_assoc, length-append}
use Rattle.hfs_language.specs.Text.{reply_text, body_text}
use Rattle.hfs_language.specs.declared.reply.Reply.{Reply}
use Rattle.volume_runs.specs.Run.{Entry, replies_of}
use Rattle.hfs_serving.specs.Runs.{Answer, AreAnswered, AreAnswers, IsPrefix, plain_answers, replies_from, shifted, texts_of}

pub texts_of_plain : (before : ℕ) (run : List Entry) → texts_of (replies_from before run) ≡ replies_of run
unfolding texts_of replies_of
texts_of_plain before [] = refl
texts_of_plain before (entry ∷ run) = ap (λ (l : List ℕ). reply_text entry.reply ++ l) (texts_of_plain (before + 1) run)

some_text : (reply : Reply) → 0 < length (reply_text reply)
unfolding reply_text
some_text reply = omega (arith, length-append (body_text reply) (10 ∷ []))

are_plain : (before most : ℕ) (run : List Entry) → before + length run ≤ most → AreAnswers most (replies_from before run)
are_plain before most [] few = tt
are_plain before most (entry ∷ run) few = (omega (arith, few), some_text entry.reply, are_plain (before + 1) most run (omega (arith, few)))

pub plain_are : (run : List Entry) → AreAnswers (length run) (plain_answers run)
plain_are run = are_plain 0 (length run) run (omega arith)

-- ---- two runs

replies_from-shifted : (before more : ℕ) (run : List Entry) → replies_from (before + more) run ≡ shifted before (replies_from more run)
replies_from-shifted before more [] = refl
replies_from-shifted before more (entry ∷ run) =
    let next : before + more + 1 ≡ before + (more + 1) = omega arith in
    λ i. record { text = reply_text entry.reply; upto = next i } ∷ (ap (λ n. replies_from n run) next ∙ replies_from-shifted before (more + 1) run) i

replies_from-append : (before : ℕ) (run more : List Entry) → replies_from before (run ++ more) ≡ replies_from before run ++ replies_from (before + length run) more
replies_from-append before [] more = ap (λ n. replies_from n more) (omega arith)
replies_from-append before (entry ∷ run) more =
    let next : before + 1 + length run ≡ before + length (entry ∷ run) = omega arith in
    ap (λ (l : List Answer). record { text = reply_text entry.reply; upto = before + 1 } ∷ l) (replies_from-append (before + 1) run more ∙ ap (λ n. replies_from (before + 1) run ++ replies_from n more) next)

pub plain_both : (run more : List Entry) → plain_answers run ++ shifted (length run) (plain_answers more) ≡ plain_answers (run ++ more)
plain_both run more =
    let behind : 0 + length run ≡ length run + 0 = omega arith in
    sym (replies_from-append 0 run more ∙ ap (λ (l : List Answer). plain_answers run ++ l) (ap (λ n. replies_from n more) behind ∙ replies_from-shifted (length run) 0 more))

-- ---- by their numbers

-- a front of a front
shorter : (a b told : List ℕ) → IsPrefix (a ++ b) told → IsPrefix a told
shorter a b told front = (b ++ front.0, front.1 ∙ append_assoc a b front.0)

pub answered_by_number : (told : List ℕ) (count : ℕ) (run : List Entry) (text : List ℕ) (before : ℕ) → (IsPrefix text told → before ≤ count) → AreAnswered text (replies_from before run) told count
    → (k : ℕ) → k ≤ length run → IsPrefix (text ++ replies_of (take k run)) told → before + k ≤ count
unfolding replies_of
answered_by_number told count run text before here each zero some front = let there = here (shorter text (replies_of (take 0 run)) told front) in omega (arith, there)
answered_by_number told count [] text before here each (suc k) some front = absurd (omega (arith, some))
answered_by_number told count (entry ∷ run) text before here each (suc k) some front =
    let there =
    answered_by_number told count run (text ++ reply_text entry.reply) (before + 1) each.0 each.1 k (omega (arith, some))
    (subst (λ (l : List ℕ). IsPrefix l told) (sym (append_assoc text (reply_text entry.reply) (replies_of (take k run)))) front) in
    omega (arith, there)
