-- Newlines count the replies that are told whole.
use Rattle.std.proofs.Common.{◌≡◌, ◌<◌, ◌≤◌, ℕ, zero, suc, ◌+◌, ◌==◌, true, false, nat_le, List, [], ◌∷◌, ◌++◌, length, take, refl, sym, ◌∙◌, ap, inl, inr, arith, append_assoc, length-append}
use Rattle.std.specs.List.{flat_map}
use Rattle.std.proofs.lemmas.Bool.{and_parts, cases_lt}
use Rattle.std.proofs.lemmas.Bool.Decides.{nat_tests}
use Rattle.std.proofs.lemmas.List.Elements.{All-head, All-tail}
use Rattle.hfs_language.specs.declared.reply.Reply.{Reply}
use Rattle.hfs_language.specs.Answered.{newlines, CountsAnswered}
use Rattle.hfs_language.specs.Shown.{HasNames}
use Rattle.hfs_language.specs.Text.{body_text, reply_text}
use Rattle.hfs_language.proofs.OneLine.{body_in, in_line}

newlines_both : (xs ys : List ℕ) → newlines (xs ++ ys) ≡ newlines xs + newlines ys
newlines_both [] ys = omega arith
newlines_both (x ∷ xs) ys = omega (arith, newlines_both xs ys)

none_in_line : (xs : List ℕ) → in_line xs ≡ true → newlines xs ≡ 0
none_in_line [] are = refl
none_in_line (x ∷ xs) are =
    let parts : (nat_le 32 x ≡ true) × (in_line xs ≡ true) = and_parts _ _ are in
    let other : (x == 10) ≡ false = grind (arith, nat_tests) in
    rw (other, none_in_line xs parts.1) refl

-- a text that begins another, where both begin the same list
begins : (xs ys us vs : List ℕ) → xs ++ ys ≡ us ++ vs → length us ≤ length xs → (w : List ℕ) × (xs ≡ us ++ w) × (w ++ ys ≡ vs)
begins xs ys [] vs same short = (xs, refl, same)
begins [] ys (u ∷ us) vs same short = absurd (omega (arith, short))
begins (x ∷ xs) ys (u ∷ us) vs same short =
    let head : x ≡ u = cc in
    let tail : xs ++ ys ≡ us ++ vs = cc in
    let w = begins xs ys us vs tail (omega (arith, short)) in
    (w.0, cc (head, w.1), w.2)

cancel : (xs ys zs : List ℕ) → xs ++ ys ≡ xs ++ zs → ys ≡ zs
cancel [] ys zs same = same
cancel (x ∷ xs) ys zs same = let tail : xs ++ ys ≡ xs ++ zs = cc in cancel xs ys zs tail

-- one reply's text
module _ (reply : Reply) (names : HasNames reply) where
  text_is : reply_text reply ≡ body_text reply ++ 10 ∷ []
  unfolding reply_text
  text_is = refl

  long_is : length (reply_text reply) ≡ length (body_text reply) + 1
  long_is = ap length text_is ∙ length-append (body_text reply) (10 ∷ [])

  one_newline : newlines (reply_text reply) ≡ 1
  one_newline = ap newlines text_is ∙ newlines_both (body_text reply) (10 ∷ []) ∙ ap (λ n. n + 1) (none_in_line (body_text reply) (body_in reply names))

  -- what is shorter has none
  none_before : (told more : List ℕ) → told ++ more ≡ reply_text reply → length told < length (reply_text reply) → newlines told ≡ 0
  none_before told more same short =
      let w = begins (body_text reply) (10 ∷ []) told more (sym text_is ∙ sym same) (omega (arith, short, long_is)) in
      omega (arith, none_in_line (body_text reply) (body_in reply names), ap newlines w.1, newlines_both told w.0)

pub answered : (replies : List Reply) (told : List ℕ) → CountsAnswered replies told
answered replies told names rest same zero within = (λ _. omega arith, λ _. (told, refl))
answered [] told names rest same (suc count) within = absurd (omega (arith, within))
answered (reply ∷ replies) told names rest same (suc count) within = elim (cases_lt (length told) (length (reply_text reply))) [
  | inl short ↦
      let w = begins (reply_text reply) (flat_map reply_text replies) told rest (sym same) (omega (arith, short)) in
      let none = none_before reply (All-head HasNames reply replies names) told w.0 (sym w.1) short in (
        λ holds.
            absurd (omega (arith, short, ap length holds.1, length-append (reply_text reply ++ flat_map reply_text (take count replies)) holds.0, length-append (reply_text reply) (flat_map reply_text (take count replies)))),
        λ enough. absurd (omega (arith, enough, none)),
      )
  | inr long ↦
      let w = begins told rest (reply_text reply) (flat_map reply_text replies) same (omega (arith, long)) in
      let more : newlines told ≡ 1 + newlines w.0 = ap newlines w.1 ∙ newlines_both (reply_text reply) w.0 ∙ ap (λ n. n + newlines w.0) (one_newline reply (All-head HasNames reply replies names)) in
      let below = answered replies w.0 (All-tail HasNames reply replies names) rest w.2 count (omega (arith, within)) in (
        λ holds.
            let behind : w.0 ≡ flat_map reply_text (take count replies) ++ holds.0 =
            cancel (reply_text reply) w.0 (flat_map reply_text (take count replies) ++ holds.0)
            (sym w.1 ∙ holds.1 ∙ append_assoc (reply_text reply) (flat_map reply_text (take count replies)) holds.0) in
            let fewer : count ≤ newlines w.0 = below.0 (holds.0, behind) in
            omega (arith, more, fewer),
        λ enough.
            let holds = below.1 (omega (arith, more, enough)) in
            (holds.0, w.1 ∙ ap (λ (l : List ℕ). reply_text reply ++ l) holds.1 ∙ sym (append_assoc (reply_text reply) (flat_map reply_text (take count replies)) holds.0)),
      )
]
