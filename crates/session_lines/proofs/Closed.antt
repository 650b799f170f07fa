-- Handles that are closed, as stretches within a batch.
use Rattle.std.proofs.Common.{◌≡◌, ◌++◌, ◌∷◌, [], ℕ, List, true, refl, sym, ◌∙◌, ap, subst, append_assoc}
use Rattle.std.specs.Prelude.{Option, Some, None, Result, Ok, Err, OnErr, OnOk}
use Rattle.std.proofs.lemmas.List.{append-nil}
use Rattle.sector_disk.specs.Space.{Space}
use Rattle.jnl_format.specs.Recovery.{Content}
use Rattle.hfs_language.specs.declared.reply.Reply.TheVariants as reply
use Rattle.hfs_model.specs.declared.plain.PlainTree.{PlainTree}
use Rattle.hfs_volume.specs.TreeOf.{tree_of}
use Rattle.volume_runs.specs.Run.{Entry, content_after, shrunk_in, tree_after}
use Rattle.hfs_serving.specs.Going.{Knowing, Stands, StopsOn}
use Rattle.hfs_serving.specs.Outside.{Outside}
use Rattle.hfs_serving.specs.Runs.{Leads}
use Rattle.hfs_serving.specs.Serving.{Stops}
use Rattle.hfs_serving.proofs.Batches.{goes_both, goes_none, goes_stops, stops_there}
use Rattle.hfs_serving.proofs.Lists.{content_after-append, content_after-none, shrunk_in-append, shrunk_in-none}
use Rattle.hfs_serving.proofs.Speeches.{behind_tree}
use Rattle.open_files.specs.declared.act.OpenFile.{OpenFile}
use Rattle.open_files.specs.declared.table.Closed.{Closed}
use Rattle.open_files.specs.declared.table.Closed.TheVariants as closed
use Rattle.open_files.specs.Handles.{close_of, first_handle, without_handle}
use Rattle.open_files.specs.Order.{are_in_order}
use Rattle.session_lines.specs.declared.stages.Stage.{Stage}
use Rattle.session_lines.specs.declared.stages.Stage.TheVariants as stage
use Rattle.session_lines.specs.Closings.{AreClosings, ClosedOne, ClosedSome, IsClosing, StopsClosings, StopsOne, none_closed, none_names, one_closed, others_name}
use Rattle.session_lines.specs.Doing.{StopsGoing, WentOn}
use Rattle.session_lines.specs.Following.{Follows, does, skips, stays}
use Rattle.session_lines.specs.Stages.{command_at, heard_at}
use Rattle.session_lines.proofs.Answered.{cut_short}

-- where two things hold of what came of a call
pub ok_both : {T E : Type 0} (A B C : Type 0) (r : Result T E) → (A → B → C) → OnOk r A → OnOk r B → OnOk r C
ok_both A B C (Ok value) both one other = both one other
ok_both A B C (Err fault) both one other = tt

pub err_more : {T E : Type 0} (A B : Type 0) (r : Result T E) → (A → B) → OnErr r A → OnErr r B
err_more A B (Ok value) more was = tt
err_more A B (Err fault) more was = more was

pub not_gone : (what : Closed) (id : ℕ) → what ≡ closed.Still → what ≡ closed.Gone id → ⊥
not_gone what id still gone = cc (sym still ∙ gone)

pub none_gone : (what : Closed) (id : ℕ) → what ≡ closed.NoHandle → what ≡ closed.Gone id → ⊥
none_gone what id none gone = cc (sym none ∙ gone)

-- ---- where entries lead

-- The tree behind entries.
pub record LeadsOn (tree : PlainTree) (run : List Entry) : Type 0 where
  pub last : PlainTree
  pub leads : (start : Content) → tree_of start ≡ tree → tree_after start run ≡ last

follows_leads : (handles : List OpenFile) (tree : PlainTree) (from : Stage) (run : List Entry) (to : Stage) → Follows handles tree from run to → LeadsOn tree run
unfolding content_after
follows_leads handles tree from [] to (stays _ _) = record { last = tree; leads = λ start same. same }
follows_leads handles tree from (entry ∷ run) to (does _ _ _ _ _ capacity asked at asks before served rest) =
    let later = follows_leads handles (tree_of entry.after) (heard_at handles from entry.reply) run to rest in
    record { last = later.last; leads = λ start same. later.leads entry.after refl }
follows_leads handles tree from run to (skips _ _ _ _ asked why at skipped rest) = follows_leads handles tree (heard_at handles from (reply.No why)) run to rest

pub closing_leads : (session handle : ℕ) (handles : List OpenFile) (tree : PlainTree) (run : List Entry) → IsClosing session handle handles tree run → LeadsOn tree run
unfolding content_after
closing_leads session handle handles tree [] (others_name never) = record { last = tree; leads = λ start same. same }
closing_leads session handle handles tree run (none_names id _ to gone ends follows) = follows_leads (without_handle session handle handles) tree (stage.Closing id) run to follows

-- some handles, and then others
pub closings_both : (session : ℕ) (handles : List OpenFile) (tree : PlainTree) (run : List Entry) (mid : PlainTree) (left : List OpenFile) → AreClosings session handles tree run mid left → (more : List Entry) (last : PlainTree) (after : List OpenFile)
    → AreClosings session left mid more last after → AreClosings session handles tree (run ++ more) last after
closings_both session handles tree run mid left first _ _ _ none_closed = subst (λ (r : List Entry). AreClosings session handles tree r mid left) (sym (append-nil run)) first
closings_both session handles tree run mid left first _ _ _ (one_closed before own middle last rest handle closings order at closing leads) =
    subst (λ (r : List Entry). AreClosings session handles tree r last (without_handle session handle rest)) (append_assoc run before own)
    (one_closed (run ++ before) own middle last rest handle (closings_both session handles tree run mid left first before middle rest closings) order at closing leads)

-- ---- stretches

module _ (capacity : ℕ) (shrunk : Option ℕ) (committed now : Content) (old : Outside) where
  leads_there : (next : Content) (run : List Entry) → Leads capacity shrunk None now run next → (start : Content) → tree_of start ≡ tree_of now → tree_after start run ≡ tree_of next
  leads_there next run leads start same = behind_tree capacity shrunk start now next [] run (ap (λ (c : Content). tree_of c) (content_after-none start) ∙ same) leads

  -- ---- nothing is done

  module _ (knows : Knowing) (space : Space) (stands : Stands knows committed now shrunk space old) where
    known_here : knows committed now (shrunk_in shrunk [])
    known_here = subst (λ (s : Option ℕ). knows committed now s) (sym (shrunk_in-none shrunk)) stands.known

    pub closed_nothing : (session handle : ℕ) (handles : List OpenFile) → ((id : ℕ) → close_of handles session handle ≡ closed.Gone id → ⊥) → ClosedOne session handle handles capacity knows committed now shrunk old space old
    closed_nothing session handle handles never = record {
      run = [];
      last = committed;
      next = now;
      goes = goes_none capacity shrunk committed now old space stands.below stands.reads stands.leaves;
      heads = stands.heads;
      known = known_here;
      closing = others_name never;
    }

    pub closed_none : (session : ℕ) (handles : List OpenFile) → ClosedSome session handles capacity knows committed now shrunk old handles space old
    closed_none session handles = record {
      run = [];
      last = committed;
      next = now;
      goes = goes_none capacity shrunk committed now old space stands.below stands.reads stands.leaves;
      heads = stands.heads;
      known = known_here;
      closings = none_closed;
    }

  -- ---- a handle

  module _ (session handle : ℕ) (handles : List OpenFile) where
    -- its file is released, as far as that goes
    pub closed_gone : (knows : Knowing) (space : Space) (new : Outside) (id : ℕ) (to : Stage) → close_of handles session handle ≡ closed.Gone id → command_at to ≡ None
        → WentOn capacity knows committed now shrunk old (without_handle session handle handles) (stage.Closing id) to space new → ClosedOne session handle handles capacity knows committed now shrunk old space new
    closed_gone knows space new id to gone ends went = record {
      run = went.run;
      last = went.last;
      next = went.next;
      goes = went.goes;
      heads = went.heads;
      known = went.known;
      closing = none_names id went.run to gone ends went.follows;
    }

    pub stops_gone : (new : Outside) (id : ℕ) → close_of handles session handle ≡ closed.Gone id → StopsGoing capacity committed now shrunk old (without_handle session handle handles) (stage.Closing id) new → StopsOne session handle handles capacity committed now shrunk old new
    stops_gone new id gone stopped =
        let short = cut_short (without_handle session handle handles) (tree_of now) (stage.Closing id) stopped.run stopped.to stopped.follows in
        record { run = stopped.run; closing = none_names id stopped.run short.end gone short.ends short.follows; stops = stopped.stops }

    -- it was the session's least one
    module _ (order : are_in_order handles ≡ true) (first : first_handle handles session ≡ Some handle) where
      pub closed_first : (knows : Knowing) (space : Space) (new : Outside) → ClosedOne session handle handles capacity knows committed now shrunk old space new
          → ClosedSome session handles capacity knows committed now shrunk old (without_handle session handle handles) space new
      closed_first knows space new one = record {
        run = one.run;
        last = one.last;
        next = one.next;
        goes = one.goes;
        heads = one.heads;
        known = one.known;
        closings = one_closed [] one.run (tree_of now) (tree_of one.next) handles handle none_closed order first one.closing (leads_there one.next one.run one.goes.leads);
      }

      pub stops_first : (new : Outside) → StopsOne session handle handles capacity committed now shrunk old new → StopsClosings session handles capacity committed now shrunk old new
      stops_first new stopped =
          let leads = closing_leads session handle handles (tree_of now) stopped.run stopped.closing in
          record {
            run = stopped.run;
            tree = leads.last;
            left = without_handle session handle handles;
            closings = one_closed [] stopped.run (tree_of now) leads.last handles handle none_closed order first stopped.closing leads.leads;
            stops = stopped.stops;
          }

  -- ---- one behind others

  module _ (session : ℕ) (handles left : List OpenFile) (knows : Knowing) (space : Space) (mid : Outside) (some : ClosedSome session handles capacity knows committed now shrunk old left space mid) where
    pub stands_closed : Stands knows some.last some.next (shrunk_in shrunk some.run) space mid
    stands_closed = record { known = some.known; below = some.goes.below; reads = some.goes.reads; heads = some.heads; leaves = some.goes.leaves }

    pub closed_both : (after : List OpenFile) (knows_new : Knowing) (new_space : Space) (new : Outside) → ClosedSome session left capacity knows_new some.last some.next (shrunk_in shrunk some.run) mid after new_space new
        → ClosedSome session handles capacity knows_new committed now shrunk old after new_space new
    closed_both after knows_new new_space new more = record {
      run = some.run ++ more.run;
      last = more.last;
      next = more.next;
      goes = goes_both capacity shrunk committed now old some.run more.run some.last some.next space mid some.goes more.last more.next new_space new more.goes;
      heads = more.heads;
      known = subst (λ (s : Option ℕ). knows_new more.last more.next s) (sym (shrunk_in-append shrunk some.run more.run)) more.known;
      closings = closings_both session handles (tree_of now) some.run (tree_of some.next) left some.closings more.run (tree_of more.next) after more.closings;
    }

    pub stops_both : (new : Outside) → StopsClosings session left capacity some.last some.next (shrunk_in shrunk some.run) mid new → StopsClosings session handles capacity committed now shrunk old new
    stops_both new stopped = record {
      run = some.run ++ stopped.run;
      tree = stopped.tree;
      left = stopped.left;
      closings = closings_both session handles (tree_of now) some.run (tree_of some.next) left some.closings stopped.run stopped.tree stopped.left stopped.closings;
      stops = goes_stops capacity shrunk committed now old some.run stopped.run some.last some.next space mid some.goes new stopped.stops;
    }

    -- it may not go on
    pub closed_so_far : StopsClosings session handles capacity committed now shrunk old mid
    closed_so_far = record { run = some.run; tree = tree_of some.next; left = left; closings = some.closings; stops = stops_there capacity shrunk committed now old some.run some.last some.next space mid some.goes }
