-- A line that was served, or that a fault cut short, as a stretch that a speaker speaks.
use Rattle.std.proofs.Common.{◌≡◌, ◌<◌, ◌++◌, ◌∷◌, [], ℕ, List, false, true, inl, length, refl, sym, ◌∙◌, ap, subst, arith}
use Rattle.std.specs.Prelude.{◌^◌, Option, None}
use Rattle.std.proofs.lemmas.List.{append-nil}
use Rattle.sector_disk.specs.Space.{Space}
use Rattle.jnl_format.specs.Recovery.{Content}
use Rattle.hfs_language.specs.declared.reply.Change.{Change}
use Rattle.hfs_model.specs.declared.plain.PlainTree.{PlainTree}
use Rattle.hfs_volume.specs.Books.{StepKeepsTrees}
use Rattle.hfs_volume.specs.TreeOf.{tree_of}
use Rattle.volume_runs.specs.Run.{Entry, IsRunFrom, content_after, shrunk_in, tree_after}
use Rattle.hfs_serving.specs.Going.{Knowing}
use Rattle.hfs_serving.specs.Grounds.{KeepsHeading}
use Rattle.hfs_serving.specs.Outside.{Outside}
use Rattle.hfs_serving.specs.Runs.{Answer}
use Rattle.hfs_serving.specs.Said.{joined}
use Rattle.hfs_serving.specs.Serving.{Goes, Stops}
use Rattle.hfs_serving.specs.Speaking.{Speaks, SpeaksLine, Speech, StopsSpeaking, spoken_on}
use Rattle.hfs_serving.specs.declared.volume.ToTell.{ToTell}
use Rattle.open_files.specs.Lines.{session_text}
use Rattle.link_kinds.specs.Lines.{is_kind_line}
use Rattle.open_files.specs.Machine.{Machine, Turn}
use Rattle.open_files.specs.declared.act.OpenFile.{OpenFile}
use Rattle.open_files.specs.declared.act.SessionReply.{SessionReply}
use Rattle.session_lines.specs.Owning.{HaveEntries, IsOwnTree}
use Rattle.session_lines.specs.Turns.{BrokenSessions, IsLineTurn, IsTurn, SpokeSessions, spoke_at}
use Rattle.session_lines.proofs.Answered.{Turned, part_of}
use Rattle.session_lines.proofs.Kept.{Keeps, StayFew, real_made, run_few, same_after, turn_keeps}
use Rattle.session_lines.proofs.LineTurns.{line_tree}
use Rattle.session_lines.proofs.Spoken.{broke_line, spoke_line}
use Rattle.session_lines.proofs.Texts.{some_text, text_alone}

-- the machine on a content's tree
abbrev pub machine_at : Content → List OpenFile → Machine
machine_at now handles = record { tree = tree_of now; handles = handles }

-- what is known of a content and the files that are open ahead of a line
pub record Stays (now : Content) (handles : List OpenFile) (start : Content) : Type 0 where
  pub fits : tree_of start ≡ tree_of now
  pub own : IsOwnTree (tree_of now)
  pub have : HaveEntries (tree_of now) handles
  pub few : (tree_of now).next_id < 2 ^ 32

-- entries from a content on are a turn of a line there, which is told this
abbrev pub AreTurned : Content → List OpenFile → List ℕ → List Entry → SessionReply → List OpenFile → Type 0
AreTurned now handles line run said behind = (start : Content) → Stays now handles start → Turned start (machine_at now handles) line run said behind

-- the same of any line, which keeps the keeping folder the sessions' own and an entry of each file that is open
pub record LineTurned (start : Content) (machine : Machine) (line : List ℕ) (run : List Entry) (said : SessionReply) (handles : List OpenFile) : Type 0 where
  pub turn : Turn
  pub is : IsLineTurn start machine line run turn
  pub says : turn.says ≡ said
  pub handles_are : turn.next.handles ≡ handles
  pub keeps : Keeps turn.next.tree turn.next.handles

abbrev pub AreLineTurned : Content → List OpenFile → List ℕ → List Entry → SessionReply → List OpenFile → Type 0
AreLineTurned now handles line run said behind = (start : Content) → Stays now handles start → LineTurned start (machine_at now handles) line run said behind

-- whatever it is told
abbrev pub AreSome : Content → List OpenFile → List ℕ → List Entry → Type 0
AreSome now handles line run = (start : Content) → Stays now handles start → (said : SessionReply) × (behind : List OpenFile) × Turned start (machine_at now handles) line run said behind

module _ (capacity : ℕ) (shrunk : Option ℕ) (committed now : Content) (old : Outside) (number : ℕ) (line : List ℕ) (handles : List OpenFile) where
  -- the last machine of what was spoken stands here
  here_is : (start : Content) (past : Speech) → tree_after start past.run ≡ tree_of now → (spoke : SpokeSessions start past handles []) → spoke.spoken.last ≡ machine_at now handles
  here_is start past at spoke = λ i. record { tree = (spoke.tree ∙ at) i; handles = spoke.handles_are i }

  stays_here : (start : Content) (past : Speech) → tree_after start past.run ≡ tree_of now → SpokeSessions start past handles [] → Stays now handles (content_after start past.run)
  stays_here start past at spoke = record {
    fits = at;
    own = subst IsOwnTree (spoke.tree ∙ at) spoke.own;
    have = subst (λ (t : PlainTree). HaveEntries t handles) (spoke.tree ∙ at) spoke.named;
    few = subst (λ (t : PlainTree). t.next_id < 2 ^ 32) (spoke.tree ∙ at) spoke.few;
  }

  module _ (run : List Entry) (are : IsRunFrom capacity shrunk now run) where
    -- It is one of sessions, or one on a link or a resource fork.
    module _ (law_few : StayFew) (said : SessionReply) (behind : List OpenFile) (turned : AreLineTurned now handles line run said behind) (changes : List Change) where
      abbrev speech : Speech
      speech = record { lines = line ∷ []; run = run; answers = record { text = session_text said; upto = length run } ∷ []; changes = changes }

      speaks_line : Speaks number now (spoke_at handles) (spoke_at behind) speech
      speaks_line start past numbered at spoke =
          let stays = stays_here start past at spoke in
          let its = turned (content_after start past.run) stays in
          let is : IsLineTurn (content_after start past.run) spoke.spoken.last line run its.turn = subst (λ (m : Machine). IsLineTurn (content_after start past.run) m line run its.turn) (sym (here_is start past at spoke)) its.is in
          let few : its.turn.next.tree.next_id < 2 ^ 32 =
          subst (λ (t : PlainTree). t.next_id < 2 ^ 32) (sym (same_after (content_after start past.run) now run at) ∙ line_tree (content_after start past.run) (machine_at now handles) line run its.turn its.is) (run_few law_few capacity shrunk now run are stays.few) in
          let whole = spoke_line start past handles [] spoke line run its.turn changes refl its.keeps.0 few its.keeps.1 is in
          subst (λ (r : SessionReply). SpokeSessions start (spoken_on past (record { lines = line ∷ []; run = run; answers = record { text = session_text r; upto = length run } ∷ []; changes = changes })) behind []) its.says
          (subst (λ (h : List OpenFile). SpokeSessions start (spoken_on past (record { lines = line ∷ []; run = run; answers = record { text = session_text its.turn.says; upto = length run } ∷ []; changes = changes })) h []) its.handles_are whole)

      -- It was served.
      pub serves_line : (knows : Knowing) (last next : Content) (space : Space) (new : Outside) (before after : ToTell) → Goes capacity shrunk None committed now old run last next space new → KeepsHeading space → knows last next (shrunk_in shrunk run)
          → after ≡ joined before (record { replies = session_text said; changes = changes }) → SpeaksLine true capacity knows committed now shrunk old number (spoke_at handles) (spoke_at behind) line before after space new
      serves_line knows last next space new before after goes heads known tells = record {
        said = record { replies = session_text said; changes = changes };
        told = tells;
        goes = record {
          speech = speech;
          last = last;
          next = next;
          goes = goes;
          heads = heads;
          known = known;
          asked = refl;
          are = (omega arith, some_text said, tt);
          told = ap (λ (t : List ℕ). record { replies = t; changes = changes }) (text_alone (session_text said) (length run));
          speaks = speaks_line;
        };
      }

    -- It is one of sessions.
    module _ (session_line : is_kind_line line ≡ false) (law : StepKeepsTrees) (law_few : StayFew) (said : SessionReply) (behind : List OpenFile) (turned : AreTurned now handles line run said behind) (changes : List Change) where
      are_turned : AreLineTurned now handles line run said behind
      are_turned start stays =
          let its = turned start stays in record {
            turn = its.turn;
            is = inl (session_line, its.is);
            says = its.says;
            handles_are = its.handles_are;
            keeps = turn_keeps law start (machine_at now handles) line run its.turn its.is (stays.own, stays.have) (real_made law_few capacity shrunk now run its.turn.did its.is.replies its.is.made are stays.few);
          }

      pub serves_turned : (knows : Knowing) (last next : Content) (space : Space) (new : Outside) (before after : ToTell) → Goes capacity shrunk None committed now old run last next space new → KeepsHeading space → knows last next (shrunk_in shrunk run)
          → after ≡ joined before (record { replies = session_text said; changes = changes }) → SpeaksLine true capacity knows committed now shrunk old number (spoke_at handles) (spoke_at behind) line before after space new
      serves_turned knows last next space new before after goes heads known tells = serves_line law_few said behind are_turned changes knows last next space new before after goes heads known tells

  -- A fault ended it in the line: nothing of it is told.
  pub stops_turned : is_kind_line line ≡ false → (run : List Entry) → AreSome now handles line run → (new : Outside) → Stops capacity shrunk committed now old run new → StopsSpeaking capacity committed now shrunk old number (spoke_at handles) BrokenSessions (line ∷ []) new
  stops_turned session_line run turned new stops = record {
    speech = record { lines = line ∷ []; run = run; answers = []; changes = [] };
    asked = refl;
    are = tt;
    speaks = λ start past numbered at spoke.
        let its = (turned (content_after start past.run) (stays_here start past at spoke)).2 in
        let is : IsTurn (content_after start past.run) spoke.spoken.last line run its.turn = subst (λ (m : Machine). IsTurn (content_after start past.run) m line run its.turn) (sym (here_is start past at spoke)) its.is in
        subst (λ (l : List Answer). BrokenSessions start (record { lines = past.lines ++ line ∷ []; run = past.run ++ run; answers = l; changes = past.changes ++ [] })) (sym (append-nil past.answers))
        (broke_line start past handles [] spoke line run its.turn [] refl (session_line, part_of (content_after start past.run) spoke.spoken.last line run its.turn is));
    stops = stops;
  }
