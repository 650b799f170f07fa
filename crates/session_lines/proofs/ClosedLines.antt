-- Lines that close handles are turns of the machine, whatever of them was done.
use Rattle.std.proofs.Common.{◌≡◌, ◌<◌, ◌^◌, ℕ, Bool, true, false, List, [], refl, sym, ◌∙◌, ap, subst}
use Rattle.std.specs.Prelude.{None, Option}
use Rattle.sector_disk.specs.Space.{Space}
use Rattle.jnl_format.specs.Recovery.{Content}
use Rattle.hfs_language.specs.declared.refusal.Refusal.TheVariants as refusal
use Rattle.hfs_language.specs.declared.reply.Reply.TheVariants as reply
use Rattle.hfs_model.specs.declared.plain.PlainTree.{PlainTree}
use Rattle.hfs_volume.specs.Books.{StepKeepsTrees}
use Rattle.hfs_volume.specs.TreeOf.{tree_of}
use Rattle.volume_runs.specs.Run.{Entry, shrunk_in}
use Rattle.hfs_serving.specs.Going.{Knowing, Stands, line_if}
use Rattle.hfs_serving.specs.Outside.{Outside}
use Rattle.hfs_serving.specs.Said.{joined}
use Rattle.hfs_serving.specs.Serving.{Goes, Stops}
use Rattle.hfs_serving.specs.Speaking.{SpeaksLine, StopsSpeaking}
use Rattle.hfs_serving.specs.declared.volume.ToTell.{ToTell}
use Rattle.hfs_serving.proofs.Batches.{goes_none, stops_there}
use Rattle.hfs_serving.proofs.Lists.{shrunk_in-none}
use Rattle.hfs_serving.proofs.Speeches.{stops_unspoken}
use Rattle.link_kinds.specs.Lines.{is_kind_line}
use Rattle.open_files.specs.Handles.{first_handle, without_handle, without_session}
use Rattle.open_files.specs.Machine.{Machine}
use Rattle.open_files.specs.declared.act.OpenFile.{OpenFile}
use Rattle.open_files.specs.declared.act.SessionReply.{SessionReply}
use Rattle.open_files.specs.declared.act.SessionReply.TheVariants as told
use Rattle.session_lines.specs.declared.errands.Errand.TheVariants as errand
use Rattle.session_lines.specs.Closings.{AreClosings, ClosedOne, ClosedSome, IsClosing, StopsClosings, StopsOne}
use Rattle.session_lines.specs.Errands.{IsErrandOf}
use Rattle.session_lines.specs.Owning.{HaveEntries, IsOwnTree}
use Rattle.session_lines.specs.Said.{text_told}
use Rattle.session_lines.specs.Turns.{BrokenSessions, spoke_at}
use Rattle.session_lines.proofs.Answered.{Turned, short_line}
use Rattle.session_lines.proofs.Closing.{close_turned, end_left, end_turned, releases_own}
use Rattle.session_lines.proofs.Kept.{StayFew}
use Rattle.session_lines.proofs.Lines.{close_line, end_line}
use Rattle.session_lines.proofs.Served.{AreTurned, machine_at, serves_turned, stops_turned}
use Rattle.session_lines.proofs.Unseen.{quiet_none}

module _ (law : StepKeepsTrees) (few : StayFew) (start : Content) (machine : Machine) (line : List ℕ) (fits : tree_of start ≡ machine.tree) (own : IsOwnTree machine.tree) (small : machine.tree.next_id < 2 ^ 32) (have : HaveEntries machine.tree machine.handles) where
  -- A line that closes a handle.
  pub close_is_turn : (session handle : ℕ) → IsErrandOf machine.handles line (errand.Closes session handle) → (run : List Entry) → IsClosing session handle machine.handles machine.tree run
      → Turned start machine line run (told.Plain reply.Ok) (without_handle session handle machine.handles)
  close_is_turn session handle comes run closing =
      let it = close_line start machine line fits own (errand.Closes session handle) comes.1 session handle refl in
      close_turned start machine line fits own small have (releases_own law few) session handle it.id it.file it.plan run closing

  -- A line that closes all handles of its session.
  pub end_is_turn : (session : ℕ) → IsErrandOf machine.handles line (errand.Ends session) → (run : List Entry) (last : PlainTree) (left : List OpenFile) → AreClosings session machine.handles machine.tree run last left
      → Turned start machine line run (told.Plain reply.Ok) (without_session session machine.handles)
  end_is_turn session comes run last left closings =
      end_turned start machine line fits own small have (releases_own law few) session (end_line start machine line fits own (errand.Ends session) comes.1 session refl) run last left closings

  -- and these handles are left
  pub end_leaves : (session : ℕ) → IsErrandOf machine.handles line (errand.Ends session) → (run : List Entry) (last : PlainTree) (left : List OpenFile) → AreClosings session machine.handles machine.tree run last left → first_handle left session ≡ None
      → Turned start machine line run (told.Plain reply.Ok) left
  end_leaves session comes run last left closings none =
      subst (λ (l : List OpenFile). Turned start machine line run (told.Plain reply.Ok) l) (sym (end_left start machine line fits own small have (releases_own law few) session run last left closings none)) (end_is_turn session comes run last left closings)

-- ---- as stretches that a speaker speaks

module _ (capacity : ℕ) (shrunk : Option ℕ) (committed now : Content) (old : Outside) (number : ℕ) (line : List ℕ) (handles : List OpenFile) where
  -- Memory was missing to tell what the line says, and nothing was done for it.
  pub short_turned : AreTurned now handles line [] (told.Plain (reply.No refusal.OutOfMemory)) handles
  short_turned start stays = short_line start (machine_at now handles) line stays.fits [] (quiet_none (tree_of now))

  -- it stops where nothing was done
  pub stops_nothing : (new : Outside) → Stops capacity shrunk committed now old [] new → (begun : Bool) × StopsSpeaking capacity committed now shrunk old number (spoke_at handles) BrokenSessions (line_if begun line) new
  stops_nothing new stops = (false, stops_unspoken capacity shrunk committed now old new number (spoke_at handles) BrokenSessions (λ start all spoke. spoke.spoken) (record { more = []; plain = tt; asked = refl; stops = stops }))

  module _ (knows : Knowing) (space : Space) (stands : Stands knows committed now shrunk space old) where
    goes_nowhere : Goes capacity shrunk None committed now old [] committed now space old
    goes_nowhere = goes_none capacity shrunk committed now old space stands.below stands.reads stands.leaves

    -- nothing is done for a line but what it is told
    pub only_told : is_kind_line line ≡ false → StepKeepsTrees → StayFew → (said : SessionReply) (after : List OpenFile) → AreTurned now handles line [] said after → (before told_now : ToTell) → told_now ≡ joined before (text_told said)
        → SpeaksLine true capacity knows committed now shrunk old number (spoke_at handles) (spoke_at after) line before told_now space old
    only_told session_line law law_few said after turned before told_now tells =
        serves_turned capacity shrunk committed now old number line handles [] tt session_line law law_few said after turned [] knows committed now space old before told_now goes_nowhere stands.heads
        (subst (λ (s : Option ℕ). knows committed now s) (sym (shrunk_in-none shrunk)) stands.known) tells

    pub told_short : is_kind_line line ≡ false → StepKeepsTrees → StayFew → (before told_now : ToTell) → told_now ≡ joined before (text_told (told.Plain (reply.No refusal.OutOfMemory)))
        → SpeaksLine true capacity knows committed now shrunk old number (spoke_at handles) (spoke_at handles) line before told_now space old
    told_short session_line law law_few before told_now tells = only_told session_line law law_few (told.Plain (reply.No refusal.OutOfMemory)) handles short_turned before told_now tells

    -- not even that was told
    pub stops_untold : (begun : Bool) × StopsSpeaking capacity committed now shrunk old number (spoke_at handles) BrokenSessions (line_if begun line) old
    stops_untold = stops_nothing old (stops_there capacity shrunk committed now old [] committed now space old goes_nowhere)

  -- a line that closes a handle
  module _ (session handle : ℕ) (comes : IsErrandOf handles line (errand.Closes session handle)) (law : StepKeepsTrees) (law_few : StayFew) where
    close_at : (run : List Entry) → IsClosing session handle handles (tree_of now) run → AreTurned now handles line run (told.Plain reply.Ok) (without_handle session handle handles)
    close_at run closing start stays = close_is_turn law law_few start (machine_at now handles) line stays.fits stays.own stays.few stays.have session handle comes run closing

    pub closed_line : (knows : Knowing) (space : Space) (new : Outside) (before after : ToTell) → after ≡ joined before (text_told (told.Plain reply.Ok)) → ClosedOne session handle handles capacity knows committed now shrunk old space new
        → SpeaksLine true capacity knows committed now shrunk old number (spoke_at handles) (spoke_at (without_handle session handle handles)) line before after space new
    closed_line knows space new before after tells one =
        serves_turned capacity shrunk committed now old number line handles one.run one.goes.leads.run_is comes.0 law law_few (told.Plain reply.Ok) (without_handle session handle handles) (close_at one.run one.closing) [] knows one.last one.next space new before after one.goes one.heads one.known tells

    pub close_stops : (new : Outside) → StopsOne session handle handles capacity committed now shrunk old new → (begun : Bool) × StopsSpeaking capacity committed now shrunk old number (spoke_at handles) BrokenSessions (line_if begun line) new
    close_stops new stopped = (
      true,
      stops_turned capacity shrunk committed now old number line handles comes.0 stopped.run (λ start stays. (told.Plain reply.Ok, without_handle session handle handles, close_at stopped.run stopped.closing start stays)) new stopped.stops,
    )

  -- a line that closes all handles of its session
  module _ (session : ℕ) (comes : IsErrandOf handles line (errand.Ends session)) (law : StepKeepsTrees) (law_few : StayFew) where
    pub ended_line : (left : List OpenFile) (knows : Knowing) (space : Space) (new : Outside) (before after : ToTell) → after ≡ joined before (text_told (told.Plain reply.Ok)) → ClosedSome session handles capacity knows committed now shrunk old left space new
        → first_handle left session ≡ None → SpeaksLine true capacity knows committed now shrunk old number (spoke_at handles) (spoke_at left) line before after space new
    ended_line left knows space new before after tells some none =
        serves_turned capacity shrunk committed now old number line handles some.run some.goes.leads.run_is comes.0 law law_few (told.Plain reply.Ok) left
        (λ start stays. end_leaves law law_few start (machine_at now handles) line stays.fits stays.own stays.few stays.have session comes some.run (tree_of some.next) left some.closings none) [] knows some.last some.next space new before after some.goes some.heads some.known tells

    pub end_stops : (new : Outside) → StopsClosings session handles capacity committed now shrunk old new → (begun : Bool) × StopsSpeaking capacity committed now shrunk old number (spoke_at handles) BrokenSessions (line_if begun line) new
    end_stops new stopped = (
      true,
      stops_turned capacity shrunk committed now old number line handles comes.0 stopped.run
          (λ start stays. (
            told.Plain reply.Ok,
            without_session session handles,
            end_is_turn law law_few start (machine_at now handles) line stays.fits stays.own stays.few stays.have session comes stopped.run stopped.tree stopped.left stopped.closings,
          ))
          new stopped.stops,
    )
