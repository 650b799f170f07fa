-- Commands of a line, one behind the other.
use Rattle.std.proofs.Common.{◌≡◌, ◌⊎◌, inl, inr, ◌++◌, ◌∷◌, [], ℕ, List, Ok, refl, sym, ◌∙◌, ap, subst}
use Rattle.std.specs.Prelude.{Bool, true, false, Option, Some, None, Result}
use Rattle.sector_disk.specs.Space.{Space}
use Rattle.jnl_format.specs.Recovery.{Content}
use Rattle.hfs_language.specs.declared.command.Command.{Command}
use Rattle.hfs_language.specs.declared.refusal.Refusal.{Refusal}
use Rattle.hfs_language.specs.declared.reply.Change.{Change}
use Rattle.hfs_language.specs.declared.reply.Reply.{Reply}
use Rattle.hfs_language.specs.declared.reply.Reply.TheVariants as reply
use Rattle.hfs_model.specs.declared.plain.PlainTree.{PlainTree}
use Rattle.hfs_volume.specs.declared.asked.Asked.{Asked}
use Rattle.hfs_volume.specs.declared.asked.Asked.TheVariants.{Plain}
use Rattle.hfs_volume.specs.TreeOf.{tree_of}
use Rattle.std.proofs.lemmas.List.{append-nil}
use Rattle.volume_runs.specs.Run.{Entry, IsServed, asked_by, content_after, lines_of, shrunk_in, tree_after, wanted_by, wanted_in}
use Rattle.hfs_serving.specs.Going.{DoesOn, GoesTidy, Hearing, Knowing, ServesCommand, Stands, StopsOn}
use Rattle.hfs_language.specs.Text.{reply_text}
use Rattle.hfs_serving.specs.Outside.{Outside}
use Rattle.hfs_serving.specs.Said.{joined}
use Rattle.hfs_serving.specs.declared.volume.ToTell.{ToTell}
use Rattle.hfs_serving.specs.Runs.{Leads}
use Rattle.hfs_serving.specs.Serving.{Goes, Stops}
use Rattle.hfs_serving.proofs.Asking.{asked_plainly}
use Rattle.hfs_serving.proofs.Batches.{goes_both, goes_none, goes_stops, stops_there}
use Rattle.hfs_serving.proofs.Leading.{tidies_of}
use Rattle.hfs_serving.proofs.Lists.{content_after-none, shrunk_in-append, shrunk_in-none}
use Rattle.hfs_serving.proofs.Mounting.{tidied_tree}
use Rattle.hfs_serving.proofs.Speeches.{behind_tree}
use Rattle.open_files.specs.declared.act.OpenFile.{OpenFile}
use Rattle.session_lines.specs.declared.stages.Stage.{Stage}
use Rattle.session_lines.specs.Doing.{DidOn, OwnDone, StopsGoing, WentOn, WentOnce}
use Rattle.session_lines.specs.Following.{Follows, does, skips, stays}
use Rattle.session_lines.specs.Skipping.{IsSkipped}
use Rattle.session_lines.specs.Stages.{command_at, heard_at}

-- what is there is one thing
abbrev some_or : {X : Type 0} → X → Option X → X
some_or other None = other
some_or other (Some x) = x

pub some_same : {X : Type 0} (x y : X) → Some x ≡ Some y → x ≡ y
some_same x y same = ap (some_or x) same

pub none_some : {X : Type 0} (x : X) → None ≡ Some x → ⊥
none_some x same = cc same

-- ---- one command

module _ (capacity : ℕ) (shrunk : Option ℕ) (committed now : Content) (old : Outside) where
  pub did_command : (knows : Knowing) (number : ℕ) (own : Option Asked) (line : List ℕ) (asked : Asked) (said : Reply) (changes : List Change) (space : Space) (mid : Outside) → wanted_in own line ≡ Some asked → DoesOn capacity knows committed now shrunk old number own line said changes space mid
      → DidOn capacity knows committed now shrunk old asked said space mid
  did_command knows number own line asked said changes space mid spells made = record {
    entry = made.entry;
    last = made.last;
    goes = made.goes;
    heads = made.heads;
    known = made.known;
    wanted_is = (λ i. wanted_in (made.own_is i) (made.line_is i)) ∙ spells;
    reply_is = made.reply;
  }

  -- it was left, or it was answered
  module _ (knows : Knowing) (number : ℕ) (own : Option Asked) (line : List ℕ) (hears : Hearing) (same : Type 0) (space : Space) (new : Outside) where
    pub left_command : (answered : Bool) → answered ≡ false → ServesCommand answered capacity knows committed now shrunk old number own line hears same space new → GoesTidy capacity None knows committed now shrunk old space new
    left_command true is serves = absurd (cc is)
    left_command false is serves = serves.1

    pub answered_command : (answered : Bool) → answered ≡ true → ServesCommand answered capacity knows committed now shrunk old number own line hears same space new
        → (said : Reply) × (changes : List Change) × hears said changes × DoesOn capacity knows committed now shrunk old number own line said changes space new
    answered_command true is serves = serves
    answered_command false is serves = absurd (cc is)

module _ (capacity : ℕ) (shrunk : Option ℕ) (committed now : Content) (old : Outside) where
  -- a line's own command, whose reply is to be told
  pub own_command : (knows : Knowing) (number : ℕ) (own : Option Asked) (line : List ℕ) (asked : Asked) (before after : ToTell) (space : Space) (mid : Outside) → wanted_in own line ≡ Some asked → (answered : Bool)
      → ServesCommand answered capacity knows committed now shrunk old number own line (λ said changes. after ≡ joined before (record { replies = reply_text said; changes = changes })) (after ≡ before) space mid → OwnDone answered capacity knows committed now shrunk old asked before after space mid
  own_command knows number own line asked before after space mid spells true serves = (serves.0, serves.1, serves.2, did_command capacity shrunk committed now old knows number own line asked serves.0 serves.1 space mid spells serves.3)
  own_command knows number own line asked before after space mid spells false serves = serves

-- ---- stages

-- where entries lead, one more follows
pub follows_entry : (handles : List OpenFile) (tree : PlainTree) (from : Stage) (run : List Entry) (to : Stage) → Follows handles tree from run to → (start : Content) → tree_of start ≡ tree
    → (capacity : ℕ) (entry : Entry) (asked : Command) → command_at to ≡ Some asked → asked_by entry ≡ Ok asked → tree_of entry.before ≡ tree_after start run → IsServed capacity entry
    → Follows handles tree from (run ++ entry ∷ []) (heard_at handles to entry.reply)
unfolding content_after
follows_entry handles tree from [] to (stays _ _) start same capacity entry asked at asks before served =
    does tree from entry [] (heard_at handles to entry.reply) capacity asked at asks (before ∙ same) served (stays (tree_of entry.after) (heard_at handles to entry.reply))
follows_entry handles tree from (one ∷ run) to (does _ _ _ _ _ one_capacity one_asked one_at one_asks one_before one_served rest) start same capacity entry asked at asks before served =
    does tree from one (run ++ entry ∷ []) (heard_at handles to entry.reply) one_capacity one_asked one_at one_asks one_before one_served
    (follows_entry handles (tree_of one.after) (heard_at handles from one.reply) run to rest one.after refl capacity entry asked at asks before served)
follows_entry handles tree from run to (skips _ _ _ _ one_asked why one_at skipped rest) start same capacity entry asked at asks before served =
    skips tree from (run ++ entry ∷ []) (heard_at handles to entry.reply) one_asked why one_at skipped (follows_entry handles tree (heard_at handles from (reply.No why)) run to rest start same capacity entry asked at asks before served)

-- or one isn't done at all
pub follows_skip : (handles : List OpenFile) (tree : PlainTree) (from : Stage) (run : List Entry) (to : Stage) → Follows handles tree from run to → (asked : Command) (why : Refusal) → command_at to ≡ Some asked → IsSkipped why
    → Follows handles tree from run (heard_at handles to (reply.No why))
follows_skip handles tree from [] to (stays _ _) asked why at skipped = skips tree from [] (heard_at handles to (reply.No why)) asked why at skipped (stays tree (heard_at handles to (reply.No why)))
follows_skip handles tree from (one ∷ run) to (does _ _ _ _ _ one_capacity one_asked one_at one_asks one_before one_served rest) asked why at skipped =
    does tree from one run (heard_at handles to (reply.No why)) one_capacity one_asked one_at one_asks one_before one_served (follows_skip handles (tree_of one.after) (heard_at handles from one.reply) run to rest asked why at skipped)
follows_skip handles tree from run to (skips _ _ _ _ one_asked one_why one_at one_skipped rest) asked why at skipped =
    skips tree from run (heard_at handles to (reply.No why)) one_asked one_why one_at one_skipped (follows_skip handles tree (heard_at handles from (reply.No one_why)) run to rest asked why at skipped)

module _ (capacity : ℕ) (shrunk : Option ℕ) (committed now : Content) (old : Outside) (handles : List OpenFile) (from : Stage) where
  -- nothing was done yet
  pub went_nowhere : (knows : Knowing) (space : Space) → Stands knows committed now shrunk space old → WentOn capacity knows committed now shrunk old handles from from space old
  went_nowhere knows space stands = record {
    run = [];
    last = committed;
    next = now;
    goes = goes_none capacity shrunk committed now old space stands.below stands.reads stands.leaves;
    heads = stands.heads;
    known = subst (λ (s : Option ℕ). knows committed now s) (sym (shrunk_in-none shrunk)) stands.known;
    follows = stays (tree_of now) from;
  }

  module _ (to : Stage) (knows : Knowing) (space : Space) (mid : Outside) (went : WentOn capacity knows committed now shrunk old handles from to space mid) where
    pub stands_went : Stands knows went.last went.next (shrunk_in shrunk went.run) space mid
    stands_went = record { known = went.known; below = went.goes.below; reads = went.goes.reads; heads = went.heads; leaves = went.goes.leaves }

    -- the tree there
    pub tree_went : tree_of went.next ≡ tree_after now went.run
    tree_went = sym (behind_tree capacity shrunk now now went.next [] went.run (ap (λ (c : Content). tree_of c) (content_after-none now)) went.goes.leads)

    module _ (asked : Command) (at : command_at to ≡ Some asked) where
      -- one command more
      pub went_command : (knows_new : Knowing) (said : Reply) (new : Space) (after : Outside) → DidOn capacity knows_new went.last went.next (shrunk_in shrunk went.run) mid (Plain asked) said new after
          → WentOn capacity knows_new committed now shrunk old handles from (heard_at handles to said) new after
      went_command knows_new said new after did =
          let served = did.goes.leads.run_is.1 in
          let rests = did.goes.leads.run_is.0 in
          let before : tree_of did.entry.before ≡ tree_after now went.run =
          tidied_tree capacity (shrunk_in shrunk went.run) went.next did.entry.before (tidies_of capacity (shrunk_in shrunk went.run) (wanted_by did.entry) went.next did.entry.before rests) ∙ tree_went in
          record {
            run = went.run ++ did.entry ∷ [];
            last = did.last;
            next = did.entry.after;
            goes = goes_both capacity shrunk committed now old went.run (did.entry ∷ []) went.last went.next space mid went.goes did.last did.entry.after new after did.goes;
            heads = did.heads;
            known = subst (λ (s : Option ℕ). knows_new did.last did.entry.after s) (sym (shrunk_in-append shrunk went.run (did.entry ∷ []))) did.known;
            follows =
                subst (λ (r : Reply). Follows handles (tree_of now) from (went.run ++ did.entry ∷ []) (heard_at handles to r)) did.reply_is
                (follows_entry handles (tree_of now) from went.run to went.follows now refl capacity did.entry asked at (asked_plainly did.entry.own did.entry.line asked did.wanted_is) before served);
          }

      -- or one that isn't done at all
      pub went_skip : (why : Refusal) → IsSkipped why → WentOn capacity knows committed now shrunk old handles from (heard_at handles to (reply.No why)) space mid
      went_skip why skipped = record {
        run = went.run;
        last = went.last;
        next = went.next;
        goes = went.goes;
        heads = went.heads;
        known = went.known;
        follows = follows_skip handles (tree_of now) from went.run to went.follows asked why at skipped;
      }

    -- a fault ahead of the next command
    pub went_stops : (after : Outside) → StopsOn capacity went.last went.next (shrunk_in shrunk went.run) mid [] after → StopsGoing capacity committed now shrunk old handles from after
    went_stops after stopped = record {
      run = went.run ++ [];
      to = to;
      follows = subst (λ (r : List Entry). Follows handles (tree_of now) from r to) (sym (append-nil went.run)) went.follows;
      stops = goes_stops capacity shrunk committed now old went.run [] went.last went.next space mid went.goes after (subst (λ (r : List Entry). Stops capacity (shrunk_in shrunk went.run) went.last went.next mid r after) (no_entries stopped.more stopped.asked) stopped.stops);
    }
      where
        no_entries : (run : List Entry) → lines_of run ≡ [] → run ≡ []
        no_entries [] none = refl
        no_entries (entry ∷ run) none = absurd (cc none)

    -- its steps are used up
    pub went_so_far : StopsGoing capacity committed now shrunk old handles from mid
    went_so_far = record { run = went.run; to = to; follows = went.follows; stops = stops_there capacity shrunk committed now old went.run went.last went.next space mid went.goes }

-- what was done at a stage goes on
module _ (capacity : ℕ) (shrunk : Option ℕ) (committed now : Content) (old : Outside) (handles : List OpenFile) (from to : Stage) (knows : Knowing) (space : Space) (mid : Outside) (went : WentOn capacity knows committed now shrunk old handles from to space mid) where
  pub went_once : (further : Stage) (knows_new : Knowing) (new : Space) (after : Outside) (same : Type 0) → WentOnce capacity knows_new went.last went.next (shrunk_in shrunk went.run) mid handles to further same new after
      → (same → WentOn capacity knows_new committed now shrunk old handles from to new after) → WentOn capacity knows_new committed now shrunk old handles from further new after
  went_once further knows_new new after same (inl did) still =
      subst (λ (s : Stage). WentOn capacity knows_new committed now shrunk old handles from s new after) (sym did.3) (went_command capacity shrunk committed now old handles from to knows space mid went did.0 did.2 knows_new did.1 new after did.4)
  went_once further knows_new new after same (inr (inl stays_there, is)) still = subst (λ (s : Stage). WentOn capacity knows_new committed now shrunk old handles from s new after) (sym stays_there) (still is)
  went_once further knows_new new after same (inr (inr skip, is)) still =
      subst (λ (s : Stage). WentOn capacity knows_new committed now shrunk old handles from s new after) (sym skip.4)
      (went_skip capacity shrunk committed now old handles from to knows_new new after (still is) skip.0 skip.2 skip.1 skip.3)
