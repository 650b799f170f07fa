-- Files of an earlier run are released ahead of the first line.
use Rattle.std.proofs.Common.{◌≡◌, ◌⊎◌, ◌<◌, ◌≤◌, ◌+◌, ◌++◌, ◌∷◌, [], ℕ, zero, suc, Bool, List, true, false, inl, inr, length, length-append, take, refl, sym, ◌∙◌, ap, subst, arith, ⊎_elim, append_assoc}
use Rattle.std.specs.Prelude.{Contains, ◌^◌, ◌==◌, ◌||◌, map, reverse, decimal, Option, Some, None, Result, Ok, Err, if◌then◌else◌}
use Rattle.std.specs.Option.{ok_or}
use Rattle.std.proofs.lemmas.Bool.{cases_lt, true≢false}
use Rattle.std.proofs.lemmas.List.{append-nil, reverse-append, take-append-le, take_all}
use Rattle.sector_disk.specs.Space.{Space}
use Rattle.jnl_format.specs.Recovery.{Content}
use Rattle.hfs_language.specs.declared.command.Command.{Command}
use Rattle.hfs_language.specs.declared.command.Command.TheVariants as command
use Rattle.hfs_language.specs.declared.refusal.Refusal.{Refusal}
use Rattle.hfs_language.specs.declared.refusal.Refusal.TheVariants as refusal
use Rattle.hfs_language.specs.declared.reply.Change.{Change}
use Rattle.hfs_language.specs.declared.reply.Reply.{Reply}
use Rattle.hfs_language.specs.declared.reply.Reply.TheVariants as reply
use Rattle.hfs_model.specs.Plain.{is_at}
use Rattle.hfs_model.specs.Step.{Step, child, is_refusal, on, reached, removed, root_entry, step_line, to_rm, walk}
use Rattle.hfs_model.specs.declared.plain.PlainEntry.{PlainEntry}
use Rattle.hfs_model.specs.declared.plain.PlainTree.{PlainTree}
use Rattle.hfs_volume.specs.Books.{StepKeepsTrees}
use Rattle.hfs_volume.specs.TreeOf.{tree_of}
use Rattle.hfs_volume.proofs.Fitting.{differs}
use Rattle.hfs_volume.proofs.Reaching.{ok_same, then_ok}
use Rattle.volume_runs.specs.Run.{Entry, IsRunFrom, IsServed, asked_by, content_after, shrunk_in, tree_after}
use Rattle.hfs_serving.specs.Going.{Knowing}
use Rattle.hfs_serving.specs.Outside.{Outside}
use Rattle.hfs_serving.specs.Runs.{Answer, texts_of}
use Rattle.hfs_serving.specs.Said.{untold}
use Rattle.hfs_serving.specs.Serving.{Stops}
use Rattle.hfs_serving.specs.Speaking.{Speaks, SpeaksOn, Speech, Spoken, StopsSpeaking, spoken_on, to_tell}
use Rattle.hfs_serving.proofs.Lists.{content_after-append, content_after-none}
use Rattle.hfs_serving.proofs.Saying.{tells_both}
use Rattle.hfs_serving.proofs.Batches.{stops_there}
use Rattle.hfs_serving.proofs.Speeches.{speaks_more, spoken_both, spoken_stops}
use Rattle.hfs_serving.proofs.Texts.{texts_of-none}
use Rattle.open_files.specs.Keeping.{keeping_entry, keeping_name, kept_path, release, releases, seen}
use Rattle.open_files.specs.Machine.{Machine, tree_by}
use Rattle.open_files.specs.declared.act.OpenFile.{OpenFile}
use Rattle.open_files.proofs.Making.{removed_unseen}
use Rattle.session_lines.specs.declared.stages.Stage.{Stage}
use Rattle.session_lines.specs.declared.stages.Stage.TheVariants as stage
use Rattle.session_lines.specs.Doing.{StopsGoing, WentOn}
use Rattle.session_lines.specs.Following.{Follows, does, skips, stays}
use Rattle.session_lines.specs.Made.{AreMade, SeesAs, none_made, none_skipped, one_made}
use Rattle.session_lines.specs.Owning.{HaveEntries, IsOwnTree}
use Rattle.session_lines.specs.Skipping.{IsSkipped}
use Rattle.session_lines.specs.Stages.{command_at}
use Rattle.session_lines.specs.Turns.{AreReleased, AreTurns, BrokenSessions, SpokeSessions, machine_on, no_turn, one_turn, part_turn, spoke_with}
use Rattle.session_lines.proofs.Answered.{cut_short}
use Rattle.session_lines.proofs.Keeping.{folder_kind, keeps}
use Rattle.session_lines.proofs.Kept.{StayFew, fewer, run_few, same_after}
use Rattle.session_lines.proofs.Owned.{released_by}
use Rattle.session_lines.proofs.Places.{is_placed, no_root, stands_at, step_to}
use Rattle.session_lines.proofs.Remains.{rm_reached}
use Rattle.session_lines.proofs.Saves.{ended}
use Rattle.session_lines.proofs.Trees.{served_tree}
use Rattle.session_lines.proofs.Turning.{made_both}

-- ---- a release is unseen

module _ (tree : PlainTree) (own : IsOwnTree tree) (id : ℕ) where
  gone_unseen : (at : PlainEntry) → reached tree (kept_path id) ≡ Ok at → seen (removed at tree) ≡ seen tree
  gone_unseen at is =
      let first = then_ok (child tree root_entry keeping_name) (λ next. walk tree next (decimal id ∷ [])) at is in
      let second = then_ok (child tree first.0 (decimal id)) (λ next. Ok next) at first.2 in
      let one = step_to tree root_entry first.0 keeping_name first.1 in
      let two = step_to tree first.0 second.0 (decimal id) second.1 in
      let same : second.0 ≡ at = ok_same second.0 at second.2 in
      let found : keeping_entry tree ≡ Some first.0 = stands_at tree own.plain.entries_sorted 2 keeping_name first.0 one.1 (is_placed 2 keeping_name first.0 one.2 one.3) in
      let there : Contains tree.entries at = subst (λ (e : PlainEntry). Contains tree.entries e) same two.1 in
      removed_unseen tree first.0 at (keeps tree own first.0 found) (ap (λ (e : PlainEntry). e.parent) (sym same) ∙ two.2) (differs at.id 2 (no_root tree own.plain at there))

  line_unseen : seen (step_line tree (Ok (release id))).1 ≡ seen tree
  line_unseen = by (to_rm tree (kept_path id)) refl
    where
      by : (r : Result PlainEntry Refusal) → to_rm tree (kept_path id) ≡ r → seen (on tree r (λ at. (reply.Ok, removed at tree))).1 ≡ seen tree
      by (Err why) is = refl
      by (Ok at) is = gone_unseen at (rm_reached tree (kept_path id) at is)

  pub release_unseen : (got : Reply) → seen (tree_by tree (release id) got) ≡ seen tree
  release_unseen got = by (is_refusal got)
    where
      by : (b : Bool) → seen (if b then tree else (step_line tree (Ok (release id))).1) ≡ seen tree
      by true = refl
      by false = line_unseen

-- ---- its stage

-- What a release comes to: the entry that was made, or none where it isn't done at all.
pub record Released (tree : PlainTree) (id : ℕ) (run : List Entry) : Type 0 where
  pub got : Reply
  pub made : AreMade run (release id ∷ []) (got ∷ [])
  pub leads : (start : Content) → tree_of start ≡ tree → tree_after start run ≡ tree_by tree (release id) got
  pub short : length run ≤ 1

abbrev asked_or : Command → Option Command → Command
asked_or other None = other
asked_or other (Some asked) = asked

pub released : (handles : List OpenFile) (tree : PlainTree) (id : ℕ) (run : List Entry) (to : Stage) → command_at to ≡ None → Follows handles tree (stage.Releasing id) run to → Released tree id run
unfolding content_after
released handles tree id [] to ends (stays _ _) = absurd (cc ends)
released handles tree id (entry ∷ run) to ends (does _ _ _ _ _ capacity asked at asks before served rest) =
    let last = ended handles (tree_of entry.after) stage.Rests run to refl rest in
    let its : asked_by entry ≡ Ok (release id) = asks ∙ ap (λ (a : Command). Ok a) (ap (asked_or asked) (sym at)) in
    let leads : tree_of entry.after ≡ tree_by tree (release id) entry.reply = served_tree capacity entry (release id) its served ∙ ap (λ (t : PlainTree). tree_by t (release id) entry.reply) before in
    subst (λ (r : List Entry). Released tree id (entry ∷ r)) (sym last.0) (record {
      got = entry.reply;
      made = one_made entry (release id) [] [] [] its none_made;
      leads = λ start same. leads;
      short = omega arith;
    })
released handles tree id run to ends (skips _ _ _ _ asked why at skipped rest) =
    let last = ended handles tree stage.Rests run to refl rest in
    subst (λ (r : List Entry). Released tree id r) (sym last.0) (record {
      got = reply.No why;
      made = none_skipped why (release id) [] [] [] skipped none_made;
      leads = λ start same. same;
      short = omega arith;
    })

-- ---- behind what was spoken

-- no line was served: no entry, no answer, and the machine is where it began
pub record NoLine (start : Content) (machine : Machine) (run : List Entry) (answers : List Answer) (last : Machine) : Type 0 where
  pub none : run ≡ []
  pub unanswered : answers ≡ []
  pub same : last ≡ machine

no_line : (start : Content) (machine : Machine) (before : ℕ) (lines : List (List ℕ)) (run : List Entry) (answers : List Answer) (last : Machine) → AreTurns start machine before lines run answers last → lines ≡ [] → NoLine start machine run answers last
no_line start machine before lines run answers last (no_turn _ _ _) none = record { none = refl; unanswered = refl; same = refl }
no_line start machine before lines run answers last (part_turn _ _ _ line own turn part) none = absurd (cc none)
no_line start machine before lines run answers last (one_turn _ _ _ line own turn rest more others _ is have turns) none = absurd (cc none)

module _ (law : StepKeepsTrees) (law_few : StayFew) (capacity : ℕ) (shrunk : Option ℕ) (now : Content) (run : List Entry) (are : IsRunFrom capacity shrunk now run) (handles : List OpenFile) (id : ℕ) (files left : List ℕ) (popped : files ≡ left ++ id ∷ []) (its : Released (tree_of now) id run)
    (start : Content) (past : Speech) (at : tree_after start past.run ≡ tree_of now) (spoke : SpokeSessions start past handles files)
  where
    abbrev before : BrokenSessions start past
    before = spoke.spoken

    abbrev gone : List Entry
    gone = before.released

    left_is : before.left ≡ release id ∷ map release (reverse left)
    left_is = spoke.left_are ∙ ap (λ (l : List ℕ). map release (reverse l)) popped ∙ ap (map release) (reverse-append left (id ∷ []))

    no_lines : past.lines ≡ []
    no_lines = ⊎_elim (λ (none : before.left ≡ []). absurd (cc (sym left_is ∙ none))) (λ none. none) before.first

    nothing : NoLine (content_after start gone) (machine_on (tree_after start gone)) before.own past.answers before.last
    nothing = no_line (content_after start gone) (machine_on (tree_after start gone)) (length gone) past.lines before.own past.answers before.last before.turns no_lines

    past_run : past.run ≡ gone
    past_run = before.run_is ∙ ap (λ (r : List Entry). gone ++ r) nothing.none ∙ append-nil gone

    all_run : past.run ++ run ≡ gone ++ run
    all_run = ap (λ (r : List Entry). r ++ run) past_run

    here : tree_after start gone ≡ tree_of now
    here = ap (λ (r : List Entry). tree_after start r) (sym past_run) ∙ at

    own_here : IsOwnTree (tree_of now)
    own_here = subst IsOwnTree (spoke.tree ∙ at) spoke.own

    few_here : (tree_of now).next_id < 2 ^ 32
    few_here = subst (λ (t : PlainTree). t.next_id < 2 ^ 32) (spoke.tree ∙ at) spoke.few

    there : tree_after start (gone ++ run) ≡ tree_by (tree_of now) (release id) its.got
    there = ap (λ (c : Content). tree_of c) (content_after-append start gone run) ∙ its.leads (content_after start gone) here

    few_there : (tree_after start (gone ++ run)).next_id < 2 ^ 32
    few_there = subst (λ (t : PlainTree). t.next_id < 2 ^ 32) (sym (ap (λ (c : Content). tree_of c) (content_after-append start gone run) ∙ same_after (content_after start gone) now run here)) (run_few law_few capacity shrunk now run are few_here)

    own_there : IsOwnTree (tree_after start (gone ++ run))
    own_there = subst IsOwnTree (sym there) (released_by law (tree_of now) own_here id its.got (fewer (tree_by (tree_of now) (release id) its.got).next_id (subst (λ (t : PlainTree). t.next_id < 2 ^ 32) there few_there)))

    sees_same : seen (tree_after start gone) ≡ seen (tree_after start (gone ++ run))
    sees_same = ap (λ t. seen t) here ∙ sym (release_unseen (tree_of now) own_here id its.got) ∙ ap (λ t. seen t) (sym there)

    unseen : (count : ℕ) → count ≤ length (gone ++ run) → SeesAs start (take count (gone ++ run)) (tree_after start (gone ++ run))
    unseen count some = ⊎_elim
        (λ (less : count < length (gone ++ run)).
        let few : count ≤ length gone = omega (arith, less, its.short, length-append gone run) in
        ap (λ (r : List Entry). seen (tree_after start r)) (take-append-le count gone run few) ∙ before.releases_are.unseen count few ∙ sees_same)
        (λ (all : length (gone ++ run) ≤ count). ap (λ (r : List Entry). seen (tree_after start r)) (take_all count (gone ++ run) all)) (cases_lt count (length (gone ++ run)))

    are_released : AreReleased start (gone ++ run) (map release (reverse left))
    are_released = record {
      done = before.releases_are.done ++ release id ∷ [];
      replies = before.releases_are.replies ++ its.got ∷ [];
      are = before.releases_are.are ∙ ap (λ (l : List Command). before.releases_are.done ++ l) left_is ∙ sym (append_assoc before.releases_are.done (release id ∷ []) (map release (reverse left)));
      made = made_both gone run before.releases_are.done (release id ∷ []) before.releases_are.replies (its.got ∷ []) before.releases_are.made its.made;
      unseen = unseen;
    }

    no_handles : handles ≡ []
    no_handles = sym spoke.handles_are ∙ ap (λ (m : Machine). m.handles) nothing.same

    pub spoke_release : SpokeSessions start (spoken_on past (record { lines = []; run = run; answers = []; changes = [] })) handles left
    spoke_release =
        let turns : AreTurns (content_after start (gone ++ run)) (machine_on (tree_after start (gone ++ run))) (length (gone ++ run)) [] [] [] (machine_on (tree_after start (gone ++ run))) =
        no_turn (content_after start (gone ++ run)) (machine_on (tree_after start (gone ++ run))) (length (gone ++ run)) in
        record {
          spoken = record {
            released = gone ++ run;
            left = map release (reverse left);
            own = [];
            last = machine_on (tree_after start (gone ++ run));
            run_is = all_run ∙ sym (append-nil (gone ++ run));
            releases_are = are_released;
            first = inr (append-nil past.lines ∙ no_lines);
            turns =
                subst (λ (l : List (List ℕ)). AreTurns (content_after start (gone ++ run)) (machine_on (tree_after start (gone ++ run))) (length (gone ++ run)) l [] (past.answers ++ []) (machine_on (tree_after start (gone ++ run)))) (sym (append-nil past.lines ∙ no_lines))
                (subst (λ (l : List Answer). AreTurns (content_after start (gone ++ run)) (machine_on (tree_after start (gone ++ run))) (length (gone ++ run)) [] [] l (machine_on (tree_after start (gone ++ run)))) (sym (append-nil past.answers ∙ nothing.unanswered)) turns);
          };
          answered = ap (λ (l : List Answer). length l) (append-nil past.answers) ∙ spoke.answered ∙ ap (λ (l : List (List ℕ)). length l) (sym (append-nil past.lines));
          tree = ap (λ (r : List Entry). tree_after start r) (sym all_run);
          handles_are = sym no_handles;
          left_are = refl;
          own = own_there;
          few = few_there;
          named = λ opened has. absurd (none opened (subst (λ (h : List OpenFile). Contains h opened) no_handles has));
        }
      where
        none : (opened : OpenFile) → Contains [] opened → ⊥
        none opened has = omega (arith, has.1)

-- ---- as a stretch

module _ (law : StepKeepsTrees) (law_few : StayFew) (capacity : ℕ) (shrunk : Option ℕ) (committed now : Content) (old : Outside) (number : ℕ) (handles : List OpenFile) (files left : List ℕ) (id : ℕ) (popped : files ≡ left ++ id ∷ []) where
  abbrev release_speech : List Entry → Speech
  release_speech run = record { lines = []; run = run; answers = []; changes = [] }

  speaks_release : (run : List Entry) → IsRunFrom capacity shrunk now run → Released (tree_of now) id run → Speaks number now (spoke_with handles files) (spoke_with handles left) (release_speech run)
  speaks_release run are its start past numbered at spoke = spoke_release law law_few capacity shrunk now run are handles id files left popped its start past at spoke

  -- one file was released
  pub releases_one : (to : Stage) → command_at to ≡ None → (knows : Knowing) (space : Space) (mid : Outside) → WentOn capacity knows committed now shrunk old handles (stage.Releasing id) to space mid
      → SpeaksOn capacity knows committed now shrunk old number (spoke_with handles files) (spoke_with handles left) [] untold space mid
  releases_one to ends knows space mid went = record {
    speech = release_speech went.run;
    last = went.last;
    next = went.next;
    goes = went.goes;
    heads = went.heads;
    known = went.known;
    asked = refl;
    are = tt;
    told = tells_both (texts_of []) [] [] [] texts_of-none refl;
    speaks = speaks_release went.run went.goes.leads.run_is (released handles (tree_of now) id went.run to ends went.follows);
  }

  -- a fault came
  pub release_stops : (new : Outside) → StopsGoing capacity committed now shrunk old handles (stage.Releasing id) new → StopsSpeaking capacity committed now shrunk old number (spoke_with handles files) BrokenSessions [] new
  release_stops new stopped =
      let cut = cut_short handles (tree_of now) (stage.Releasing id) stopped.run stopped.to stopped.follows in
      record {
        speech = release_speech stopped.run;
        asked = refl;
        are = tt;
        speaks = λ start past numbered at spoke. (speaks_release stopped.run stopped.stops.run_is (released handles (tree_of now) id stopped.run cut.end cut.ends cut.follows) start past numbered at spoke).spoken;
        stops = stopped.stops;
      }

-- one behind others
module _ (capacity : ℕ) (shrunk : Option ℕ) (committed now : Content) (old : Outside) (number : ℕ) (from to : Spoken) (knows : Knowing) (space : Space) (mid : Outside) (goes : SpeaksOn capacity knows committed now shrunk old number from to [] untold space mid) where
  same_number : number ≡ number + length goes.speech.lines
  same_number = let none = ap (λ (l : List (List ℕ)). length l) goes.asked in omega (arith, none)

  pub releases_more : (further : Spoken) (knows_new : Knowing) (new : Space) (after : Outside) → SpeaksOn capacity knows_new goes.last goes.next (shrunk_in shrunk goes.speech.run) mid number to further [] untold new after
      → SpeaksOn capacity knows_new committed now shrunk old number from further [] untold new after
  releases_more further knows_new new after second = spoken_both capacity shrunk committed now old number from to [] knows untold space mid goes number same_number further knows_new [] untold new after second

  pub releases_stop : (further : Spoken) (after : Outside) → StopsSpeaking capacity goes.last goes.next (shrunk_in shrunk goes.speech.run) mid number to further [] after → StopsSpeaking capacity committed now shrunk old number from further [] after
  releases_stop further after second = spoken_stops capacity shrunk committed now old number from to [] knows untold space mid goes number same_number further [] after second

  -- its rounds are used up
  pub releases_end : (further : Spoken) → ((start : Content) (all : Speech) → to start all → further start all) → StopsSpeaking capacity committed now shrunk old number from further [] mid
  releases_end further more = record {
    speech = goes.speech;
    asked = goes.asked;
    are = goes.are;
    speaks = speaks_more number now from to further goes.speech more goes.speaks;
    stops = stops_there capacity shrunk committed now old goes.speech.run goes.last goes.next space mid goes.goes;
  }
