-- A prefix of the entries is a prefix of the lines, as users see it.
use Rattle.std.proofs.Common.{◌≡◌, ◌<◌, ◌≤◌, ◌+◌, ◌-◌, [], ◌∷◌, ◌++◌, ℕ, suc, List, inl, inr, length, take, ◌∙◌, ap, subst, arith, append_assoc, length-append}
use Rattle.std.proofs.lemmas.Bool.{cases_lt}
use Rattle.std.proofs.lemmas.List.{take_all, take-append-le}
use Rattle.jnl_format.specs.Recovery.{Content}
use Rattle.hfs_model.specs.declared.plain.PlainTree.{PlainTree}
use Rattle.volume_runs.specs.Run.{Entry, content_after, tree_after}
use Rattle.hfs_volume.specs.TreeOf.{tree_of}
use Rattle.std.proofs.Math.Seq.{take-append-add}
use Rattle.hfs_serving.specs.Runs.{Answer, AreAnswered, IsPrefix}
use Rattle.hfs_serving.proofs.Lists.{content_after-none, content_after-append}
use Rattle.open_files.specs.Keeping.{seen}
use Rattle.open_files.specs.Machine.{Machine, Turn}
use Rattle.open_files.specs.Lines.{session_text}
use Rattle.session_lines.specs.Owning.{HaveEntries}
use Rattle.session_lines.specs.Sessions.{SeesFirst, by_lines}
use Rattle.session_lines.specs.Turns.{AreTurns, IsLinePart, IsLineTurn, no_turn, part_turn, one_turn}
use Rattle.session_lines.proofs.LineTurns.{line_between, line_tree}

-- past a list, what is taken of two is taken of the second
pub take_past : (run more : List Entry) (count : ℕ) → length run ≤ count → take count (run ++ more) ≡ run ++ take (count - length run) more
take_past run more count past =
    let sum : count ≡ length run + (count - length run) = omega (arith, past) in
    ap (λ (n : ℕ). take n (run ++ more)) sum ∙ take-append-add run more (count - length run)

-- a front of a front
shorter : (a b told : List ℕ) → IsPrefix (a ++ b) told → IsPrefix a told
shorter a b told front = (b ++ front.0, front.1 ∙ append_assoc a b front.0)

-- behind bytes that weren't told nothing was answered
unreached : (told : List ℕ) (count : ℕ) (answers : List Answer) (text : List ℕ) → (IsPrefix text told → ⊥) → AreAnswered text answers told count
unreached told count [] text never = tt
unreached told count (answer ∷ answers) text never = (
  λ front. absurd (never (shorter text answer.text told front)),
  unreached told count answers (text ++ answer.text) (λ front. never (shorter text answer.text told front)),
)

-- After so many entries users see the tree as after so many of the lines, and what was answered by entries was answered by lines.
pub record IsCut (start : Content) (machine : Machine) (before : ℕ) (lines : List (List ℕ)) (run : List Entry) (answers : List Answer) (count : ℕ) : Type 0 where
  pub lines_done : ℕ
  pub first : SeesFirst start machine before lines (tree_after start (take count run)) lines_done
  pub answered : (told text : List ℕ) (numbered : ℕ) → AreAnswered text answers told (before + count) → AreAnswered text (by_lines numbered answers) told (numbered + lines_done)

-- none of the lines
none_done : (start : Content) (machine : Machine) (before : ℕ) (lines : List (List ℕ)) (tree : PlainTree) → seen tree ≡ seen machine.tree → SeesFirst start machine before lines tree 0
none_done start machine before [] tree sees = record { some = omega arith; run = []; answers = []; middle = machine; turns = no_turn start machine before; sees = sees }
none_done start machine before (line ∷ lines) tree sees = record { some = omega arith; run = []; answers = []; middle = machine; turns = no_turn start machine before; sees = sees }

module _ (start : Content) (machine : Machine) (before : ℕ) (line : List ℕ) (own : List Entry) (turn : Turn) where
  -- within a line that a fault ended
  part_cut : (part : IsLinePart start machine line own turn) (count : ℕ) → count ≤ length own → IsCut start machine before (line ∷ []) own [] count
  part_cut part count some = elim (part.1.between count some) [
    | inl old ↦ record { lines_done = 0; first = none_done start machine before (line ∷ []) (tree_after start (take count own)) old; answered = λ told text numbered each. tt }
    | inr new ↦ record {
      lines_done = 1;
      first = record { some = omega arith; run = own; answers = []; middle = turn.next; turns = part_turn start machine before line own turn part; sees = new };
      answered = λ told text numbered each. tt;
    }
  ]

  module _ (is : IsLineTurn start machine line own turn) (have : HaveEntries turn.next.tree turn.next.handles) (lines : List (List ℕ)) (run : List Entry) (answers : List Answer) where
    abbrev all_answers : List Answer
    all_answers = record { text = session_text turn.says; upto = before + length own } ∷ answers

    -- within a line nothing of it or behind it was told
    within_answered : (count done : ℕ) → count < length own → (told text : List ℕ) (numbered : ℕ) → AreAnswered text all_answers told (before + count) → AreAnswered text (by_lines numbered all_answers) told (numbered + done)
    within_answered count done less told text numbered each =
        let never : IsPrefix (text ++ session_text turn.says) told → ⊥ = λ front. let there = each.0 front in omega (arith, there, less) in
        (λ front. absurd (never front), unreached told (numbered + done) (by_lines (numbered + 1) answers) (text ++ session_text turn.says) never)

    within_cut : (count : ℕ) → count < length own → IsCut start machine before (line ∷ lines) (own ++ run) all_answers count
    within_cut count less =
        let same : take count (own ++ run) ≡ take count own = take-append-le count own run (omega (arith, less)) in
        let tree_is : tree_after start (take count (own ++ run)) ≡ tree_after start (take count own) = ap (λ (r : List Entry). tree_after start r) same in
        elim (line_between start machine line own turn is count (omega (arith, less))) [
          | inl old ↦ record {
            lines_done = 0;
            first = none_done start machine before (line ∷ lines) (tree_after start (take count (own ++ run))) (ap (λ t. seen t) tree_is ∙ old);
            answered = within_answered count 0 less;
          }
          | inr new ↦ record {
            lines_done = 1;
            first = record {
              some = omega arith;
              run = own ++ [];
              answers = record { text = session_text turn.says; upto = before + length own } ∷ [];
              middle = turn.next;
              turns = one_turn start machine before line own turn [] [] [] turn.next is have (no_turn (content_after start own) turn.next (before + length own));
              sees = ap (λ t. seen t) tree_is ∙ new;
            };
            answered = within_answered count 1 less;
          }
        ]

    -- past a line
    past_cut : (count : ℕ) → length own ≤ count → IsCut (content_after start own) turn.next (before + length own) lines run answers (count - length own) → IsCut start machine before (line ∷ lines) (own ++ run) all_answers count
    past_cut count past later =
        let same : take count (own ++ run) ≡ own ++ take (count - length own) run = take_past own run count past in
        let tree_is : tree_after start (take count (own ++ run)) ≡ tree_after (content_after start own) (take (count - length own) run) =
        ap (λ (r : List Entry). tree_after start r) same ∙ ap (λ (c : Content). tree_of c) (content_after-append start own (take (count - length own) run)) in
        let sum : before + count ≡ before + length own + (count - length own) = omega (arith, past) in
        record {
          lines_done = suc later.lines_done;
          first = record {
            some = omega (arith, later.first.some);
            run = own ++ later.first.run;
            answers = record { text = session_text turn.says; upto = before + length own } ∷ later.first.answers;
            middle = later.first.middle;
            turns = one_turn start machine before line own turn (take later.lines_done lines) later.first.run later.first.answers later.first.middle is have later.first.turns;
            sees = ap (λ t. seen t) tree_is ∙ later.first.sees;
          };
          answered = λ told text numbered each. (
            λ front. omega arith,
            let more : numbered + 1 + later.lines_done ≡ numbered + suc later.lines_done = omega arith in
                subst (λ n. AreAnswered (text ++ session_text turn.says) (by_lines (numbered + 1) answers) told n) more
                (later.answered told (text ++ session_text turn.says) (numbered + 1) (subst (λ n. AreAnswered (text ++ session_text turn.says) answers told n) sum each.1)),
          );
        }

pub cut_turns : (start : Content) (machine : Machine) (before : ℕ) (lines : List (List ℕ)) (run : List Entry) (answers : List Answer) (last : Machine) → AreTurns start machine before lines run answers last → tree_of start ≡ machine.tree
    → (count : ℕ) → count ≤ length run → IsCut start machine before lines run answers count
cut_turns start machine before lines run answers last (no_turn _ _ _) fits count some = record {
  lines_done = 0;
  first =
      none_done start machine before [] (tree_after start (take count []))
      (ap (λ t. seen t) (ap (λ (r : List Entry). tree_after start r) (take_all count [] (omega arith)) ∙ ap (λ (c : Content). tree_of c) (content_after-none start) ∙ fits));
  answered = λ told text numbered each. tt;
}
cut_turns start machine before lines run answers last (part_turn _ _ _ line own turn part) fits count some = part_cut start machine before line own turn part count some
cut_turns start machine before lines run answers last (one_turn _ _ _ line own turn rest more others _ is have turns) fits count some =
    elim (cases_lt count (length own)) [
      | inl less ↦ within_cut start machine before line own turn is have rest more others count less
      | inr past ↦ past_cut start machine before line own turn is have rest more others count past
          (cut_turns (content_after start own) turn.next (before + length own) rest more others last turns (line_tree start machine line own turn is) (count - length own) (omega (arith, some, past, length-append own more)))
    ]

-- Before the first line's entries none of the lines was answered.
pub none_cut : (start : Content) (machine : Machine) (before : ℕ) (lines : List (List ℕ)) (run : List Entry) (answers : List Answer) (last : Machine) → AreTurns start machine before lines run answers last → (tree : PlainTree) → seen tree ≡ seen machine.tree
    → (count : ℕ) → count < before → SeesFirst start machine before lines tree 0 × ((told : List ℕ) → AreAnswered [] answers told count → AreAnswered [] (by_lines 0 answers) told 0)
none_cut start machine before lines run answers last (no_turn _ _ _) tree sees count less = (none_done start machine before [] tree sees, λ told each. tt)
none_cut start machine before lines run answers last (part_turn _ _ _ line own turn part) tree sees count less = (none_done start machine before (line ∷ []) tree sees, λ told each. tt)
none_cut start machine before lines run answers last (one_turn _ _ _ line own turn rest more others _ is have turns) tree sees count less = (
  none_done start machine before (line ∷ rest) tree sees,
  λ told each.
      let never : IsPrefix ([] ++ session_text turn.says) told → ⊥ = λ front. let there = each.0 front in omega (arith, there, less) in
      (λ front. absurd (never front), unreached told 0 (by_lines (0 + 1) others) ([] ++ session_text turn.says) never),
)
