-- A line behind others.
use Rattle.std.proofs.Common.{◌≡◌, ◌+◌, ◌++◌, ◌∷◌, [], ℕ, List, length, length-append, refl, sym, ◌∙◌, ap, subst, arith, append_assoc}
use Rattle.std.proofs.lemmas.List.{append-nil}
use Rattle.jnl_format.specs.Recovery.{Content}
use Rattle.hfs_language.specs.declared.reply.Reply.{Reply}
use Rattle.volume_runs.specs.Run.{Entry, content_after}
use Rattle.hfs_serving.specs.Runs.{Answer}
use Rattle.hfs_serving.proofs.Lists.{content_after-append, content_after-none}
use Rattle.open_files.specs.Lines.{session_text}
use Rattle.open_files.specs.Machine.{Machine, Turn}
use Rattle.session_lines.specs.Owning.{HaveEntries}
use Rattle.session_lines.specs.Turns.{AreTurns, IsLinePart, IsLineTurn, IsPart, IsTurn, IsTurnOf, no_turn, one_turn, part_turn}

-- what a line is told behind so many entries
abbrev pub answer_of : Turn → ℕ → Answer
answer_of turn upto = record { text = session_text turn.says; upto = upto }

module _ (line : List ℕ) (own : List Entry) (turn : Turn) where
  -- a line more was served whole
  pub turns_more : (start : Content) (machine : Machine) (before : ℕ) (lines : List (List ℕ)) (run : List Entry) (answers : List Answer) (mid : Machine) → AreTurns start machine before lines run answers mid → length answers ≡ length lines
      → IsLineTurn (content_after start run) mid line own turn → HaveEntries turn.next.tree turn.next.handles → AreTurns start machine before (lines ++ line ∷ []) (run ++ own) (answers ++ answer_of turn (before + length (run ++ own)) ∷ []) turn.next
  turns_more start machine before [] [] [] mid (no_turn _ _ _) all is have =
      let here : IsLineTurn start machine line own turn = subst (λ (c : Content). IsLineTurn c machine line own turn) (content_after-none start) is in
      subst (λ (r : List Entry). AreTurns start machine before (line ∷ []) r (answer_of turn (before + length own) ∷ []) turn.next) (append-nil own)
      (one_turn start machine before line own turn [] [] [] turn.next here have (no_turn (content_after start own) turn.next (before + length own)))
  turns_more start machine before [] [] (answer ∷ answers) mid turns all is have = elim turns [ ]
  turns_more start machine before [] (entry ∷ run) answers mid turns all is have = elim turns [ ]
  turns_more start machine before (one ∷ []) run [] mid (part_turn _ _ _ _ _ _ part) all is have = absurd (omega (arith, all))
  turns_more start machine before (one ∷ (next ∷ lines)) run [] mid turns all is have = elim turns [ ]
  turns_more start machine before (one ∷ lines) run (answer ∷ answers) mid (one_turn _ _ _ _ first first_turn _ more _ _ first_is first_have turns) all is have =
      let there : IsLineTurn (content_after (content_after start first) more) mid line own turn = subst (λ (c : Content). IsLineTurn c mid line own turn) (content_after-append start first more) is in
      let rest = turns_more (content_after start first) first_turn.next (before + length first) lines more answers mid turns (omega (arith, all)) there have in
      let upto : before + length first + length (more ++ own) ≡ before + length ((first ++ more) ++ own) = omega (arith, length-append first more, length-append more own, length-append (first ++ more) own) in
      let whole = one_turn start machine before one first first_turn (lines ++ line ∷ []) (more ++ own) (answers ++ answer_of turn (before + length first + length (more ++ own)) ∷ []) turn.next first_is first_have rest in
      subst (λ (r : List Entry). AreTurns start machine before (one ∷ lines ++ line ∷ []) r (answer ∷ answers ++ answer_of turn (before + length ((first ++ more) ++ own)) ∷ []) turn.next) (sym (append_assoc first more own))
      (subst (λ n. AreTurns start machine before (one ∷ lines ++ line ∷ []) (first ++ (more ++ own)) (answer ∷ answers ++ answer_of turn n ∷ []) turn.next) upto whole)

  -- a fault ended the run within it
  pub turns_part : (start : Content) (machine : Machine) (before : ℕ) (lines : List (List ℕ)) (run : List Entry) (answers : List Answer) (mid : Machine) → AreTurns start machine before lines run answers mid → length answers ≡ length lines
      → IsLinePart (content_after start run) mid line own turn → AreTurns start machine before (lines ++ line ∷ []) (run ++ own) answers turn.next
  turns_part start machine before [] [] [] mid (no_turn _ _ _) all part =
      part_turn start machine before line own turn (subst (λ (c : Content). IsLinePart c machine line own turn) (content_after-none start) part)
  turns_part start machine before [] [] (answer ∷ answers) mid turns all part = elim turns [ ]
  turns_part start machine before [] (entry ∷ run) answers mid turns all part = elim turns [ ]
  turns_part start machine before (one ∷ []) run [] mid (part_turn _ _ _ _ _ _ _) all part = absurd (omega (arith, all))
  turns_part start machine before (one ∷ (next ∷ lines)) run [] mid turns all part = elim turns [ ]
  turns_part start machine before (one ∷ lines) run (answer ∷ answers) mid (one_turn _ _ _ _ first first_turn _ more _ _ first_is first_have turns) all part =
      let there : IsLinePart (content_after (content_after start first) more) mid line own turn = subst (λ (c : Content). IsLinePart c mid line own turn) (content_after-append start first more) part in
      let rest = turns_part (content_after start first) first_turn.next (before + length first) lines more answers mid turns (omega (arith, all)) there in
      subst (λ (r : List Entry). AreTurns start machine before (one ∷ lines ++ line ∷ []) r (answer ∷ answers) turn.next) (sym (append_assoc first more own))
      (one_turn start machine before one first first_turn (lines ++ line ∷ []) (more ++ own) answers turn.next first_is first_have rest)

-- A line whose entries are those of a turn may be the last, of which nothing is told.
pub part_of_turn : (start : Content) (machine : Machine) (line : List ℕ) (own : List Entry) (turn : Turn) → IsTurn start machine line own turn → IsPart start machine line own turn
part_of_turn start machine line own turn is = record {
  replies = is.replies;
  others = [];
  is = subst (λ (r : List Reply). IsTurnOf machine line r turn) (sym (append-nil is.replies)) is.is;
  done = turn.did;
  rest = [];
  did_is = sym (append-nil turn.did);
  made = is.made;
  between = is.between;
}
