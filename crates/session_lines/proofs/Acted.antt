-- A line with a command of its own: what its stages and the command come to.
use Rattle.std.proofs.Common.{◌≡◌, ◌⊎◌, ◌≤◌, ◌++◌, ◌∷◌, [], ℕ, Bool, List, true, false, inl, inr, length, refl, sym, ◌∙◌, ap, subst, arith, ⊎_elim}
use Rattle.std.specs.Prelude.{IfOk, Option, Some, None, Result, Ok, Err}
use Rattle.std.proofs.lemmas.List.{append-nil}
use Rattle.sector_disk.specs.Space.{Space}
use Rattle.jnl_format.specs.Recovery.{Content}
use Rattle.hfs_language.specs.Text.{reply_text}
use Rattle.hfs_language.specs.declared.command.Command.{Command}
use Rattle.hfs_language.specs.declared.refusal.Refusal.{Refusal}
use Rattle.hfs_language.specs.declared.refusal.Refusal.TheVariants as refusal
use Rattle.hfs_language.specs.declared.reply.Change.{Change}
use Rattle.hfs_language.specs.declared.reply.Reply.{Reply}
use Rattle.hfs_language.specs.declared.reply.Reply.TheVariants as reply
use Rattle.hfs_model.specs.declared.plain.PlainTree.{PlainTree}
use Rattle.hfs_volume.specs.Books.{StepKeepsTrees}
use Rattle.hfs_volume.specs.TreeOf.{tree_of}
use Rattle.hfs_volume.specs.declared.asked.Asked.TheVariants.{Plain}
use Rattle.volume_runs.specs.Run.{Entry, content_after, shrunk_in, tree_after, wanted_by}
use Rattle.hfs_serving.specs.Going.{GoesTidy, Knowing, Stands, StopsOn, line_if}
use Rattle.hfs_serving.specs.Outside.{Outside}
use Rattle.hfs_serving.specs.Said.{joined, untold}
use Rattle.hfs_serving.specs.Serving.{Goes, Stops}
use Rattle.hfs_serving.specs.Speaking.{SpeaksLine, StopsSpeaking, unspoken}
use Rattle.hfs_serving.specs.declared.telling.Stop.{Stop}
use Rattle.hfs_serving.specs.declared.volume.ToTell.{ToTell}
use Rattle.hfs_serving.proofs.Asking.{asked_plainly}
use Rattle.hfs_serving.proofs.Batches.{goes_both}
use Rattle.hfs_serving.proofs.Leading.{tidies_of}
use Rattle.hfs_serving.proofs.Lists.{shrunk_in-append, shrunk_in-none}
use Rattle.hfs_serving.proofs.Mounting.{tidied_tree}
use Rattle.hfs_serving.proofs.Saying.{joined_none}
use Rattle.hfs_serving.proofs.Speeches.{speaks_none, tells_unspoken}
use Rattle.open_files.specs.Lines.{asks_of, session_text}
use Rattle.open_files.specs.Machine.{Machine, Turn}
use Rattle.open_files.specs.declared.act.Act.{Act}
use Rattle.open_files.specs.declared.act.Act.TheVariants as act
use Rattle.open_files.specs.declared.act.OpenFile.{OpenFile}
use Rattle.open_files.specs.declared.act.SessionLine.{SessionLine}
use Rattle.open_files.specs.declared.act.SessionReply.{SessionReply}
use Rattle.open_files.specs.declared.act.SessionReply.TheVariants as told
use Rattle.session_lines.specs.declared.errands.Errand.TheVariants as errand
use Rattle.session_lines.specs.declared.stages.Stage.{Stage}
use Rattle.session_lines.specs.declared.stages.Stage.TheVariants as stage
use Rattle.session_lines.specs.Doing.{DidOn, OwnDone, StopsGoing, WentOn}
use Rattle.session_lines.specs.Errands.{IsErrandOf, errand_for}
use Rattle.session_lines.specs.Following.{Follows}
use Rattle.session_lines.specs.Said.{text_told, told_if}
use Rattle.session_lines.specs.Stages.{command_at}
use Rattle.session_lines.specs.Turns.{AsksFor, BrokenSessions, IsTurn, IsTurnInShort, IsTurnOf, spoke_at}
use Rattle.session_lines.proofs.Answered.{Turned, cut_short}
use Rattle.session_lines.proofs.Kept.{StayFew, same_after}
use Rattle.session_lines.proofs.Lines.{Went, goes_as, goes_line}
use Rattle.session_lines.proofs.Saves.{ended}
use Rattle.session_lines.proofs.Served.{AreSome, AreTurned, Stays, machine_at, serves_turned, stops_turned}
use Rattle.session_lines.proofs.Stretches.{stands_went, tree_went, went_stops}

-- ---- told in short

abbrev refusal_or : Refusal → SessionReply → Refusal
refusal_or other (told.Plain (reply.No why)) = why
refusal_or other _ = other

-- A line that is refused may be told that memory was missing to tell it why.
pub told_in_short : (start : Content) (machine : Machine) (line : List ℕ) (run : List Entry) (why : Refusal) (handles : List OpenFile) → Turned start machine line run (told.Plain (reply.No why)) handles
    → Turned start machine line run (told.Plain (reply.No refusal.OutOfMemory)) handles
told_in_short start machine line run why handles its = record {
  turn = record its.turn { says = told.Plain (reply.No refusal.OutOfMemory) };
  is = record {
    replies = its.is.replies;
    is = by its.is.is;
    made = its.is.made;
    tree = its.is.tree;
    between = its.is.between;
  };
  says = refl;
  handles_are = its.handles_are;
}
  where
    short : Turn → Turn
    short turn = record turn { says = told.Plain (reply.No refusal.OutOfMemory) }

    by : IsTurnOf machine line its.is.replies its.turn → IsTurnOf machine line its.is.replies (record its.turn { says = told.Plain (reply.No refusal.OutOfMemory) })
    by (inl is) = inr (inr ((why, ap (λ (t : Turn). t.says) (sym is) ∙ its.says), ap (λ (t : Turn). record t { says = told.Plain (reply.No refusal.OutOfMemory) }) is))
    by (inr (inl skips)) = inr (inl (refusal.OutOfMemory, refl, ap (λ (t : Turn). record t { says = told.Plain (reply.No refusal.OutOfMemory) }) skips.2))
    by (inr (inr in_short)) = inr (inr (in_short.0, ap (λ (t : Turn). record t { says = told.Plain (reply.No refusal.OutOfMemory) }) in_short.1))

pub plain_text : (said : Reply) → session_text (told.Plain said) ≡ reply_text said
unfolding session_text
plain_text said = refl

-- ---- the stages, and then the command

module _ (capacity : ℕ) (shrunk : Option ℕ) (committed now : Content) (old : Outside) (number : ℕ) (line : List ℕ) (handles : List OpenFile) (asked : Command) (here : Stage) (comes : IsErrandOf handles line (errand.Does asked here)) where
  -- the stages came to an end
  went_at : (run : List Entry) (to : Stage) → command_at to ≡ None → Follows handles (tree_of now) here run to → (start : Content) → Stays now handles start → Went start (machine_at now handles) line asked run to
  went_at run to ends follows start stays = goes_line start (machine_at now handles) line stays.fits stays.own (errand.Does asked here) comes.1 asked here refl run to ends follows

  -- or a fault ended them
  some_went : (run : List Entry) (to : Stage) → Follows handles (tree_of now) here run to → AreSome now handles line run
  some_went run to follows start stays =
      let cut = cut_short handles (tree_of now) here run to follows in
      let it = (went_at run cut.end cut.ends cut.follows start stays).cut in
      (it.0, handles, it.1)

  pub act_stops : (new : Outside) → StopsGoing capacity committed now shrunk old handles here new → (begun : Bool) × StopsSpeaking capacity committed now shrunk old number (spoke_at handles) BrokenSessions (line_if begun line) new
  act_stops new stopped = (true, stops_turned capacity shrunk committed now old number line handles comes.0 stopped.run (some_went stopped.run stopped.to stopped.follows) new stopped.stops)

  module _ (law : StepKeepsTrees) (law_few : StayFew) (to : Stage) (ends : command_at to ≡ None) (knows : Knowing) (space : Space) (mid : Outside) (went : WentOn capacity knows committed now shrunk old handles here to space mid) where
    -- what the last of them says is told, or that memory is missing for that
    pub act_says : (said : Reply) → to ≡ stage.Says said → (whole : Bool) (before after : ToTell) → after ≡ joined before (text_told (told_if whole (told.Plain said)))
        → SpeaksLine true capacity knows committed now shrunk old number (spoke_at handles) (spoke_at handles) line before after space mid
    act_says said is true before after tells =
        serves_turned capacity shrunk committed now old number line handles went.run went.goes.leads.run_is comes.0 law law_few (told.Plain said) handles (λ start stays. (went_at went.run to ends went.follows start stays).answered said is) [] knows went.last went.next space mid before after went.goes went.heads went.known tells
    act_says said is false before after tells =
        serves_turned capacity shrunk committed now old number line handles went.run went.goes.leads.run_is comes.0 law law_few (told.Plain (reply.No refusal.OutOfMemory)) handles
        (λ start stays.
        let it = went_at went.run to ends went.follows start stays in
        let why = it.refuses said is in
        told_in_short start (machine_at now handles) line went.run why.0 handles (subst (λ (r : Reply). Turned start (machine_at now handles) line went.run (told.Plain r) handles) why.1 (it.answered said is)))
        [] knows went.last went.next space mid before after went.goes went.heads went.known tells

    -- the command was done
    pub act_does : to ≡ stage.Does → (knows_new : Knowing) (new : Space) (end : Outside) (before after : ToTell) → OwnDone true capacity knows_new went.last went.next (shrunk_in shrunk went.run) mid (Plain asked) before after new end
        → SpeaksLine true capacity knows_new committed now shrunk old number (spoke_at handles) (spoke_at handles) line before after new end
    act_does is knows_new new end before after own =
        let said = own.0 in
        let did = own.3 in
        let served = did.goes.leads.run_is.1 in
        let rests = did.goes.leads.run_is.0 in
        let there : tree_of did.entry.before ≡ tree_after now went.run =
        tidied_tree capacity (shrunk_in shrunk went.run) went.next did.entry.before (tidies_of capacity (shrunk_in shrunk went.run) (wanted_by did.entry) went.next did.entry.before rests)
        ∙ tree_went capacity shrunk committed now old handles here to knows space mid went in
        let all = goes_both capacity shrunk committed now old went.run (did.entry ∷ []) went.last went.next space mid went.goes did.last did.entry.after new end did.goes in
        serves_turned capacity shrunk committed now old number line handles (went.run ++ did.entry ∷ []) all.leads.run_is comes.0 law law_few (told.Plain said) handles
        (λ start stays.
        let its = (went_at went.run to ends went.follows start stays).own is capacity did.entry (asked_plainly did.entry.own did.entry.line asked did.wanted_is) (there ∙ sym (same_after start now went.run stays.fits)) served in
        subst (λ (r : Reply). Turned start (machine_at now handles) line (went.run ++ did.entry ∷ []) (told.Plain r) handles) did.reply_is its)
        own.1 knows_new did.last did.entry.after new end before after all did.heads
        (subst (λ (s : Option ℕ). knows_new did.last did.entry.after s) (sym (shrunk_in-append shrunk went.run (did.entry ∷ []))) did.known)
        (own.2 ∙ ap (λ (t : List ℕ). joined before (record { replies = t; changes = own.1 })) (sym (plain_text said)))

    -- it was left, where nothing was to be done ahead
    pub act_leaves : here ≡ stage.Does → (knows_new : Knowing) (new : Space) (end : Outside) (before after : ToTell) → OwnDone false capacity knows_new went.last went.next (shrunk_in shrunk went.run) mid (Plain asked) before after new end
        → SpeaksLine false capacity knows_new committed now shrunk old number (spoke_at handles) (spoke_at handles) line before after new end
    act_leaves at knows_new new end before after own =
        let tidy = own.1 in
        let none : went.run ≡ [] = (ended handles (tree_of now) here went.run to (ap command_at at) went.follows).0 in
        let all = goes_both capacity shrunk committed now old went.run [] went.last went.next space mid went.goes tidy.last tidy.next new end tidy.goes in
        let nothing : went.run ++ [] ≡ [] = append-nil went.run ∙ none in
        record {
          said = untold;
          told = own.0 ∙ sym (joined_none before);
          goes = record {
            speech = unspoken;
            last = tidy.last;
            next = tidy.next;
            goes = subst (λ (r : List Entry). Goes capacity shrunk None committed now old r tidy.last tidy.next new end) nothing all;
            heads = tidy.heads;
            known = subst (λ (s : Option ℕ). knows_new tidy.last tidy.next s) (ap (λ (r : List Entry). shrunk_in shrunk r) none) tidy.known;
            asked = refl;
            are = tt;
            told = tells_unspoken;
            speaks = speaks_none number now (spoke_at handles);
          };
        }

    pub act_own : (r : Result Bool Stop) (knows_new : Knowing) (new : Space) (end : Outside) (before after : ToTell) → IfOk r (λ answered. OwnDone answered capacity knows_new went.last went.next (shrunk_in shrunk went.run) mid (Plain asked) before after new end)
        → to ≡ stage.Does → IfOk r (λ answered. answered ≡ false → here ≡ stage.Does) → IfOk r (λ answered. SpeaksLine answered capacity knows_new committed now shrunk old number (spoke_at handles) (spoke_at handles) line before after new end)
    act_own (Ok true) knows_new new end before after own is waits = act_does is knows_new new end before after own
    act_own (Ok false) knows_new new end before after own is waits = act_leaves (waits refl) knows_new new end before after own
    act_own (Err why) knows_new new end before after own is waits = tt

    -- a fault in the command
    pub own_stops : (after : Outside) → StopsOn capacity went.last went.next (shrunk_in shrunk went.run) mid [] after → (begun : Bool) × StopsSpeaking capacity committed now shrunk old number (spoke_at handles) BrokenSessions (line_if begun line) after
    own_stops after stopped = act_stops after (went_stops capacity shrunk committed now old handles here to knows space mid went after stopped)

-- which command the line asks for
pub errand_asks : (handles : List OpenFile) (line : List ℕ) (asked : Command) (here : Stage) → IsErrandOf handles line (errand.Does asked here) → AsksFor line (Plain asked)
errand_asks handles line asked here (session_line, inr short) = absurd (cc short)
errand_asks handles line asked here (session_line, inl is) = by (asks_of line) refl (sym is)
  where
    by : (r : Result SessionLine Refusal) → asks_of line ≡ r → errand_for handles r ≡ errand.Does asked here → AsksFor line (Plain asked)
    by (Ok asks) same its = (asks.session, same ∙ ap (λ (a : Act). Ok (record { session = asks.session; act = a })) (goes_as handles asks.session asks.act asked here its).plain)
    by (Err why) same its = absurd (cc its)
