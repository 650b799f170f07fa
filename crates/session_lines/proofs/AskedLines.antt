-- Lines that only look, as stretches that a speaker speaks.
use Rattle.std.proofs.Common.{◌≡◌, ◌+◌, ◌++◌, ℕ, zero, suc, Bool, true, false, List, [], ◌∷◌, refl, sym, ◌∙◌, ap, subst, arith}
use Rattle.std.specs.Prelude.{◌==◌, ◌&&◌, ◌||◌, not, None, Option, Some, if◌then◌else◌}
use Rattle.std.specs.List.{list_any}
use Rattle.std.proofs.lemmas.Bool.{true≢false}
use Rattle.sector_disk.specs.Space.{Space}
use Rattle.jnl_format.specs.Recovery.{Content}
use Rattle.hfs_language.specs.declared.refusal.Refusal.TheVariants as refusal
use Rattle.hfs_language.specs.declared.reply.Reply.{Reply}
use Rattle.hfs_language.specs.declared.reply.Reply.TheVariants as reply
use Rattle.hfs_model.specs.Sorted.{kept}
use Rattle.hfs_volume.specs.Books.{StepKeepsTrees}
use Rattle.hfs_volume.specs.TreeOf.{tree_of}
use Rattle.volume_runs.specs.Run.{Entry}
use Rattle.hfs_serving.specs.Going.{Knowing, line_if}
use Rattle.hfs_serving.specs.Outside.{Outside}
use Rattle.hfs_serving.specs.Said.{joined}
use Rattle.hfs_serving.specs.Speaking.{SpeaksLine, StopsSpeaking}
use Rattle.hfs_serving.specs.declared.volume.ToTell.{ToTell}
use Rattle.open_files.specs.Handles.{Opens, first_free, is_handle, is_open, without_handle}
use Rattle.open_files.specs.Order.{handle_before}
use Rattle.open_files.specs.declared.act.OpenFile.{OpenFile}
use Rattle.open_files.specs.declared.act.SessionReply.{SessionReply}
use Rattle.open_files.specs.declared.act.SessionReply.TheVariants as told
use Rattle.open_files.proofs.Lists.{kept_put}
use Rattle.session_lines.specs.declared.errands.Errand.TheVariants as errand
use Rattle.session_lines.specs.declared.stages.Stage.{Stage}
use Rattle.session_lines.specs.declared.stages.Stage.TheVariants as stage
use Rattle.session_lines.specs.Doing.{StopsGoing, WentOn}
use Rattle.session_lines.specs.Endings.{AnswersEnd, opens_so, says_so, short_so}
use Rattle.session_lines.specs.Errands.{IsErrandOf}
use Rattle.session_lines.specs.Following.{Follows}
use Rattle.session_lines.specs.Said.{text_told, told_if}
use Rattle.session_lines.specs.Stages.{command_at}
use Rattle.session_lines.specs.Turns.{BrokenSessions, spoke_at}
use Rattle.open_files.specs.declared.table.Opened.{Opened}
use Rattle.open_files.specs.declared.table.Opened.TheVariants as opened
use Rattle.session_lines.proofs.Answered.{Turned, cut_short, short_line}
use Rattle.session_lines.proofs.Kept.{StayFew}
use Rattle.session_lines.proofs.Lines.{Asked, asks_line}
use Rattle.session_lines.proofs.Served.{Stays, machine_at, serves_turned, stops_turned}
use Rattle.session_lines.proofs.Stretches.{went_so_far}

-- ---- a handle that can't be told

first_is_free : (handles : List OpenFile) (session more number handle : ℕ) → first_free handles session more number ≡ Some handle → is_open handles session handle ≡ false
unfolding first_free
first_is_free handles session zero number handle is = absurd (cc is)
first_is_free handles session (suc more) number handle is = by (is_open handles session number) refl (λ later. first_is_free handles session more (number + 1) handle later) is
  where
    some_or : ℕ → Option ℕ → ℕ
    some_or other None = other
    some_or other (Some n) = n

    by : (b : Bool) → is_open handles session number ≡ b → (first_free handles session more (number + 1) ≡ Some handle → is_open handles session handle ≡ false) → (if b then first_free handles session more (number + 1) else Some number) ≡ Some handle → is_open handles session handle ≡ false
    by true taken later it = later it
    by false free later it = ap (is_open handles session) (ap (some_or handle) (sym it)) ∙ free

none_without : (handles : List OpenFile) (session handle : ℕ) → is_open handles session handle ≡ false → without_handle session handle handles ≡ handles
none_without [] session handle free = refl
none_without (one ∷ handles) session handle free = by (is_handle session handle one) free (none_without handles session handle)
  where
    by : (b : Bool) → (b || is_open handles session handle) ≡ false → (is_open handles session handle ≡ false → without_handle session handle handles ≡ handles) → (if not b then one ∷ [] else []) ++ without_handle session handle handles ≡ one ∷ handles
    by true free later = absurd (true≢false free)
    by false free later = ap (λ l. one ∷ l) (later free)

-- closed again it leaves what was there
pub closed_again : (old new : List OpenFile) (session id handle : ℕ) → Opens old session id (opened.Handle handle) new → without_handle session handle new ≡ old
closed_again old new session id handle opens =
    ap (without_handle session handle) opens.1 ∙ kept_put (λ (o : OpenFile). not (is_handle session handle o)) handle_before (record { session = session; handle = handle; file = id }) old (λ i. not (equal session i && equal handle i))
    ∙ none_without old session handle (first_is_free old session 256 1 handle opens.0)
  where
    equal : (n : ℕ) → (n == n) ≡ true
    equal n = grind arith

-- ---- the line

module _ (capacity : ℕ) (shrunk : Option ℕ) (committed now : Content) (old : Outside) (number : ℕ) (line : List ℕ) (handles : List OpenFile) (session : ℕ) (here : Stage) (comes : IsErrandOf handles line (errand.Asks session here)) where
  asked_at : (run : List Entry) (to : Stage) → command_at to ≡ None → Follows handles (tree_of now) here run to → (start : Content) → Stays now handles start → Asked start (machine_at now handles) line session run to
  asked_at run to ends follows start stays = asks_line start (machine_at now handles) line stays.fits stays.own (errand.Asks session here) comes.1 session here refl run to ends follows

  -- a fault ended its stages
  pub asked_stops : (new : Outside) → StopsGoing capacity committed now shrunk old handles here new → (begun : Bool) × StopsSpeaking capacity committed now shrunk old number (spoke_at handles) BrokenSessions (line_if begun line) new
  asked_stops new stopped = (
    true,
    stops_turned capacity shrunk committed now old number line handles comes.0 stopped.run
        (λ start stays.
        let cut = cut_short handles (tree_of now) here stopped.run stopped.to stopped.follows in
        (told.Plain (reply.No refusal.OutOfMemory), handles, short_line start (machine_at now handles) line stays.fits stopped.run (asked_at stopped.run cut.end cut.ends cut.follows start stays).quiet)) new stopped.stops,
  )

  module _ (to : Stage) (knows : Knowing) (space : Space) (mid : Outside) (went : WentOn capacity knows committed now shrunk old handles here to space mid) where
    -- or what is told of the last one
    pub end_stops : (begun : Bool) × StopsSpeaking capacity committed now shrunk old number (spoke_at handles) BrokenSessions (line_if begun line) mid
    end_stops = asked_stops mid (went_so_far capacity shrunk committed now old handles here to knows space mid went)

    -- what the last one says was told
    pub asked_line : StepKeepsTrees → StayFew → command_at to ≡ None → (said : SessionReply) (new : List OpenFile) → AnswersEnd session handles to said new → (before after : ToTell) → after ≡ joined before (text_told said)
        → SpeaksLine true capacity knows committed now shrunk old number (spoke_at handles) (spoke_at new) line before after space mid
    asked_line law law_few ends said new answers before after tells =
        serves_turned capacity shrunk committed now old number line handles went.run went.goes.leads.run_is comes.0 law law_few said new (λ start stays. turned start stays to said new (asked_at went.run to ends went.follows start stays) answers) [] knows went.last went.next space mid before after
        went.goes went.heads went.known tells
      where
        turned : (start : Content) → Stays now handles start → (to : Stage) (said : SessionReply) (new : List OpenFile) → Asked start (machine_at now handles) line session went.run to → AnswersEnd session handles to said new → Turned start (machine_at now handles) line went.run said new
        turned start stays _ _ _ it (says_so said) = it.answered said refl
        turned start stays _ _ _ it (opens_so id answer new opens) = it.opens id refl answer new opens
        turned start stays to _ _ it (short_so _) = short_line start (machine_at now handles) line stays.fits went.run it.quiet

-- ---- what the last stage says

pub says_end : (session : ℕ) (old : List OpenFile) (end : Stage) (said : Reply) → end ≡ stage.Says said → (whole : Bool) → AnswersEnd session old end (told_if whole (told.Plain said)) old
says_end session old end said is true = subst (λ (s : Stage). AnswersEnd session old s (told.Plain said) old) (sym is) (says_so said)
says_end session old end said is false = short_so end

pub opens_is : (old new : List OpenFile) (session id : ℕ) (answer other : Opened) → answer ≡ other → Opens old session id answer new → Opens old session id other new
opens_is old new session id answer other same opens = subst (λ (a : Opened). Opens old session id a new) same opens

pub opened_end : (session id handle : ℕ) (old new : List OpenFile) → Opens old session id (opened.Handle handle) new → AnswersEnd session old (stage.Opens id) (told.Opened handle) new
opened_end session id handle old new opens = opens_so id (opened.Handle handle) new opens

-- a handle that wasn't told is closed again
pub short_end : (session id handle : ℕ) (old new last : List OpenFile) → Opens old session id (opened.Handle handle) new → last ≡ without_handle session handle new → AnswersEnd session old (stage.Opens id) (told.Plain (reply.No refusal.OutOfMemory)) last
short_end session id handle old new last opens is =
    subst (λ (l : List OpenFile). AnswersEnd session old (stage.Opens id) (told.Plain (reply.No refusal.OutOfMemory)) l) (sym (is ∙ closed_again old new session id handle opens)) (short_so (stage.Opens id))

pub many_end : (session id : ℕ) (old new : List OpenFile) → Opens old session id opened.TooManyOpen new → (whole : Bool) → AnswersEnd session old (stage.Opens id) (told_if whole told.TooManyOpen) new
many_end session id old new opens true = opens_so id opened.TooManyOpen new opens
many_end session id old new opens false = subst (λ (l : List OpenFile). AnswersEnd session old (stage.Opens id) (told.Plain (reply.No refusal.OutOfMemory)) l) (sym opens.1) (short_so (stage.Opens id))

pub memory_end : (session id : ℕ) (old new : List OpenFile) → new ≡ old → (whole : Bool) → AnswersEnd session old (stage.Opens id) (told_if whole (told.Plain (reply.No refusal.OutOfMemory))) new
memory_end session id old new same true = subst (λ (l : List OpenFile). AnswersEnd session old (stage.Opens id) (told.Plain (reply.No refusal.OutOfMemory)) l) (sym same) (short_so (stage.Opens id))
memory_end session id old new same false = subst (λ (l : List OpenFile). AnswersEnd session old (stage.Opens id) (told.Plain (reply.No refusal.OutOfMemory)) l) (sym same) (short_so (stage.Opens id))
