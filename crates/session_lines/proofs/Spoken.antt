-- A line that was served, behind all that was spoken before.
use Rattle.std.proofs.Common.{◌≡◌, ◌+◌, ◌++◌, ◌∷◌, [], ℕ, List, inl, length, length-append, refl, sym, ◌∙◌, ap, subst, arith, append_assoc}
use Rattle.std.specs.Prelude.{◌<◌, ◌^◌, map, reverse}
use Rattle.jnl_format.specs.Recovery.{Content}
use Rattle.hfs_language.specs.declared.reply.Change.{Change}
use Rattle.hfs_volume.specs.TreeOf.{tree_of}
use Rattle.volume_runs.specs.Run.{Entry, content_after, tree_after}
use Rattle.hfs_serving.specs.Runs.{Answer}
use Rattle.hfs_serving.specs.Speaking.{Speech, spoken_on}
use Rattle.hfs_serving.proofs.Lists.{content_after-append}
use Rattle.open_files.specs.declared.act.OpenFile.{OpenFile}
use Rattle.open_files.specs.Keeping.{release}
use Rattle.open_files.specs.Lines.{session_text}
use Rattle.open_files.specs.Machine.{Machine, Turn}
use Rattle.session_lines.specs.Owning.{HaveEntries, IsOwnTree}
use Rattle.session_lines.specs.Turns.{AreTurns, BrokenSessions, IsLinePart, IsLineTurn, SpokeSessions, machine_on}
use Rattle.session_lines.proofs.Behind.{answer_of, turns_more, turns_part}
use Rattle.session_lines.proofs.LineTurns.{line_tree}

module _ (start : Content) (past : Speech) (handles : List OpenFile) (files : List ℕ) (spoke : SpokeSessions start past handles files) (line : List ℕ) (own : List Entry) (turn : Turn) (changes : List Change) where
  abbrev before : BrokenSessions start past
  before = spoke.spoken

  abbrev opened : Content
  opened = content_after start before.released

  here : content_after opened before.own ≡ content_after start past.run
  here = sym (content_after-append start before.released before.own) ∙ ap (content_after start) (sym before.run_is)

  runs : past.run ++ own ≡ before.released ++ (before.own ++ own)
  runs = ap (λ (r : List Entry). r ++ own) before.run_is ∙ append_assoc before.released before.own own

  none_left : files ≡ [] → before.left ≡ []
  none_left none = spoke.left_are ∙ ap (λ (l : List ℕ). map release (reverse l)) none

  -- what is spoken of it
  abbrev pub line_speech : Speech
  line_speech = record { lines = line ∷ []; run = own; answers = answer_of turn (length own) ∷ []; changes = changes }

  -- it was served whole
  pub spoke_line : files ≡ [] → IsOwnTree turn.next.tree → turn.next.tree.next_id < 2 ^ 32 → HaveEntries turn.next.tree turn.next.handles → IsLineTurn (content_after start past.run) before.last line own turn → SpokeSessions start (spoken_on past line_speech) turn.next.handles files
  spoke_line none owns few have is =
      let upto : length before.released + length (before.own ++ own) ≡ length past.run + length own =
      omega (arith, length-append before.own own, length-append before.released before.own, ap (λ (r : List Entry). length r) before.run_is) in
      let turns = turns_more line own turn opened (machine_on (tree_after start before.released)) (length before.released) past.lines before.own past.answers before.last before.turns spoke.answered (subst (λ (c : Content). IsLineTurn c before.last line own turn) (sym here) is) have in
      record {
        spoken = record {
          released = before.released;
          left = before.left;
          own = before.own ++ own;
          last = turn.next;
          run_is = runs;
          releases_are = before.releases_are;
          first = inl (none_left none);
          turns = subst (λ (n : ℕ). AreTurns opened (machine_on (tree_after start before.released)) (length before.released) (past.lines ++ line ∷ []) (before.own ++ own) (past.answers ++ answer_of turn n ∷ []) turn.next) upto turns;
        };
        answered = omega (arith, spoke.answered, length-append past.answers (answer_of turn (length past.run + length own) ∷ []), length-append past.lines (line ∷ []));
        tree = sym (line_tree (content_after start past.run) before.last line own turn is) ∙ ap (λ (c : Content). tree_of c) (sym (content_after-append start past.run own));
        handles_are = refl;
        left_are = spoke.left_are;
        own = owns;
        few = few;
        named = have;
      }

  -- what is spoken of a line that a fault cut short
  abbrev pub part_speech : Speech
  part_speech = record { lines = line ∷ []; run = own; answers = []; changes = changes }

  pub broke_line : files ≡ [] → IsLinePart (content_after start past.run) before.last line own turn → BrokenSessions start (record { lines = past.lines ++ line ∷ []; run = past.run ++ own; answers = past.answers; changes = past.changes ++ changes })
  broke_line none part = record {
    released = before.released;
    left = before.left;
    own = before.own ++ own;
    last = turn.next;
    run_is = runs;
    releases_are = before.releases_are;
    first = inl (none_left none);
    turns = turns_part line own turn opened (machine_on (tree_after start before.released)) (length before.released) past.lines before.own past.answers before.last before.turns spoke.answered (subst (λ (c : Content). IsLinePart c before.last line own turn) (sym here) part);
  }
