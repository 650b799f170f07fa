-- Handles are closed: their files are released, and what comes of a line that closes them.
use Rattle.std.proofs.Common.{◌≡◌, ◌⊎◌, ◌≤◌, ◌<◌, ◌+◌, ◌-◌, ◌^◌, ℕ, suc, Bool, true, false, List, [], ◌∷◌, ◌++◌, length, length-append, append_assoc, inl, inr, refl, sym, ◌∙◌, ap, subst, arith, ⊎_elim}
use Rattle.std.specs.Prelude.{Contains, count_by, ◌==◌, ◌&&◌, ◌||◌, not, map, take, decimal, find, is_some, nat_lt, Option, Some, None, Result, Ok, Err, if◌then◌else◌}
use Rattle.std.specs.List.{list_any, list_all}
use Rattle.std.specs.Option.{ok_or}
use Rattle.std.specs.Str.{bytes_eq}
use Rattle.std.proofs.lemmas.Bool.{cases_lt, eqb-true, true≢false}
use Rattle.std.proofs.lemmas.List.Sums.{length-filter}
use Rattle.std.proofs.lemmas.List.{append-nil, take-append-le, take_all}
use Rattle.std.proofs.lemmas.Slice.Eq.{bytes_eq-Decides}
use Rattle.jnl_format.specs.Recovery.{Content}
use Rattle.hfs_language.specs.declared.command.Command.{Command}
use Rattle.hfs_language.specs.declared.command.Command.TheVariants as command
use Rattle.hfs_language.specs.declared.refusal.Refusal.{Refusal}
use Rattle.hfs_language.specs.declared.refusal.Refusal.TheVariants as refusal
use Rattle.hfs_language.specs.declared.reply.Facts.{Facts}
use Rattle.hfs_language.specs.declared.reply.Reply.{Reply}
use Rattle.hfs_language.specs.declared.reply.Reply.TheVariants as reply
use Rattle.hfs_model.specs.Plain.{entry_at, is_at, is_node, names_of, node_at, without_entry, without_node}
use Rattle.hfs_model.specs.Sorted.{kept}
use Rattle.hfs_model.specs.Step.{Step, child, facts_of, is_refusal, marked, on, removed, step_line, then_, unless, with_private}
use Rattle.hfs_model.specs.declared.plain.PlainEntry.{PlainEntry}
use Rattle.hfs_model.specs.declared.plain.PlainNode.{PlainNode}
use Rattle.hfs_model.specs.declared.plain.PlainTree.{PlainTree}
use Rattle.hfs_volume.specs.Books.{StepKeepsTrees}
use Rattle.hfs_volume.specs.TreeOf.{tree_of}
use Rattle.hfs_volume.proofs.Flat.{found_some}
use Rattle.hfs_volume.proofs.Members.{at_front, behind, first_or_later, kept_cases, kept_stands, map_cases}
use Rattle.volume_runs.specs.Run.{Entry, IsServed, asked_by, content_after, tree_after}
use Rattle.hfs_serving.proofs.Lists.{content_after-append, content_after-none}
use Rattle.open_files.specs.Handles.{close_of, closed_from, file_of, files_of, first_handle, handle_in, is_handle, is_held, without_handle, without_session}
use Rattle.open_files.specs.Keeping.{is_kept, is_own, keepers, keeping_entry, keeping_name, kept_path, release, seen, stands_in}
use Rattle.open_files.specs.Machine.{Machine, Plan, closes, did_first, do_ahead, do_behind, plan_of, releases_of, tree_by}
use Rattle.open_files.specs.Order.{are_in_order, handle_before}
use Rattle.open_files.specs.declared.act.OpenFile.{OpenFile}
use Rattle.open_files.specs.declared.act.SessionReply.{SessionReply}
use Rattle.open_files.specs.declared.act.SessionReply.TheVariants as told
use Rattle.open_files.specs.declared.table.Closed.{Closed}
use Rattle.open_files.specs.declared.table.Closed.TheVariants as closed_
use Rattle.open_files.specs.Lines.{asks_of}
use Rattle.open_files.proofs.Making.{removed_unseen}
use Rattle.session_lines.specs.declared.stages.Stage.{Stage}
use Rattle.session_lines.specs.declared.stages.Stage.TheVariants as stage
use Rattle.session_lines.specs.Ahead.{IsQuiet, trees_by}
use Rattle.session_lines.specs.Following.{Follows, does, skips, stays}
use Rattle.session_lines.specs.Made.{AreMade, SeesAs, none_made, none_skipped}
use Rattle.session_lines.specs.Closings.{AreClosings, IsClosing, none_closed, none_names, one_closed, others_name}
use Rattle.session_lines.specs.Owning.{HaveEntries, IsOwnTree}
use Rattle.session_lines.specs.Skipping.{IsSkipped}
use Rattle.session_lines.specs.Stages.{closed, command_at, heard_at}
use Rattle.session_lines.proofs.Answered.{Turned}
use Rattle.session_lines.proofs.Kept.{StayFew}
use Rattle.session_lines.proofs.Owned.{released_by}
use Rattle.session_lines.proofs.Keeping.{folder_kind, keeps}
use Rattle.session_lines.proofs.Looks.{filter_kept, kept_found, kept_look, last_step, look, none_there, not_kept_told}
use Rattle.session_lines.proofs.Prefixes.{take_past}
use Rattle.session_lines.proofs.Saves.{ended}
use Rattle.session_lines.proofs.Shown.{both, digits_tell, find_both, kept_both, root_nameless}
use Rattle.session_lines.proofs.Trees.{served_tree}
use Rattle.session_lines.proofs.Turning.{made_both, made_long}
use Rattle.session_lines.proofs.Unseen.{Looked, looked_at, quiet_command, quiet_none, quiet_skip}

-- ---- one stretch behind another

pub trees_both : (tree : PlainTree) (did others : List Command) (replies more : List Reply) → length did ≡ length replies → trees_by tree (did ++ others) (replies ++ more) ≡ trees_by (trees_by tree did replies) others more
trees_both tree [] others [] more long = refl
trees_both tree [] others (got ∷ replies) more long = absurd (omega (arith, long))
trees_both tree (asked ∷ did) others [] more long = absurd (omega (arith, long))
trees_both tree (asked ∷ did) others (got ∷ replies) more long = trees_both (tree_by tree asked got) did others replies more (omega (arith, long))

pub quiet_both : (tree mid last : PlainTree) (run more : List Entry) (did others : List Command) (replies further : List Reply) → IsQuiet tree run did replies mid → IsQuiet mid more others further last
    → IsQuiet tree (run ++ more) (did ++ others) (replies ++ further) last
quiet_both tree mid last run more did others replies further first second = record {
  made = made_both run more did others replies further first.made second.made;
  leads = λ start same. ap (λ (c : Content). tree_of c) (content_after-append start run more) ∙ second.leads (content_after start run) (first.leads start same);
  unseen = λ start same count some. ⊎_elim
      (λ (less : count < length run). ap (λ (r : List Entry). seen (tree_after start r)) (take-append-le count run more (omega (arith, less))) ∙ first.unseen start same count (omega (arith, less)))
      (λ (past : length run ≤ count).
      ap (λ (r : List Entry). seen (tree_after start r)) (take_past run more count past) ∙ ap (λ (c : Content). seen (tree_of c)) (content_after-append start run (take (count - length run) more))
      ∙ second.unseen (content_after start run) (first.leads start same) (count - length run) (omega (arith, some, past, length-append run more)) ∙ sym (ap (λ t. seen t) (first.leads start same))
      ∙ ap (λ (r : List Entry). seen (tree_after start r)) (sym (take_all (length run) run (omega arith))) ∙ first.unseen start same (length run) (omega arith)) (cases_lt count (length run));
}

-- ---- a file that is kept

module _ (tree : PlainTree) (is : IsOwnTree tree) (id : ℕ) (few : id < 2 ^ 64) where
  -- its entry in the keeping folder
  pub record Kept : Type 0 where
    pub folder : PlainEntry
    pub found : keeping_entry tree ≡ Some folder
    pub keeper : PlainEntry
    pub stands : Contains tree.entries keeper
    pub there : entry_at tree folder.id (decimal id) ≡ Some keeper
    pub parent : keeper.parent ≡ folder.id
    pub named : keeper.name ≡ decimal id
    pub number : keeper.id ≡ id
    pub file : keeper.folder ≡ false

  pub kept_of : is_kept tree id ≡ true → Kept
  kept_of kept_it = by (keeping_entry tree) refl
    where
      by : (o : Option PlainEntry) → keeping_entry tree ≡ o → Kept
      by None none = absurd (true≢false (sym kept_it ∙ none_there tree is id none))
      by (Some folder) found = at (entry_at tree folder.id (decimal id)) refl
        where
          not_folder : (b : Bool) → not b ≡ true → b ≡ false
          not_folder true isnt = absurd (true≢false (sym isnt))
          not_folder false isnt = refl

          at : (o : Option PlainEntry) → entry_at tree folder.id (decimal id) ≡ o → Kept
          at None none = absurd (true≢false (sym kept_it ∙ sym (kept_found tree is id folder found) ∙ ap is_some none))
          at (Some keeper) there =
              let here = found_some (is_at folder.id (decimal id)) tree.entries keeper there in
              let place = both (keeper.parent == folder.id) (bytes_eq keeper.name (decimal id)) here.1 in
              let inside : stands_in (keeping_entry tree) keeper ≡ true = ap (λ o. stands_in o keeper) found ∙ place.0 in
              let own = both (not keeper.folder) (bytes_eq keeper.name (decimal keeper.id)) (is.own keeper (kept_stands (stands_in (keeping_entry tree)) tree.entries keeper here.0 inside)) in
              record {
                folder = folder;
                found = found;
                keeper = keeper;
                stands = here.0;
                there = there;
                parent = eqb-true keeper.parent folder.id place.0;
                named = (bytes_eq-Decides keeper.name (decimal id)).0 place.1;
                number = digits_tell keeper.id id (omega (arith, (is.drawn keeper here.0).0, is.few)) few (sym ((bytes_eq-Decides keeper.name (decimal keeper.id)).0 own.1) ∙ (bytes_eq-Decides keeper.name (decimal id)).0 place.1);
                file = not_folder keeper.folder own.0;
              }

  module _ (kept_it : Kept) where
    abbrev keeper : PlainEntry
    keeper = kept_it.keeper

    -- a look at its path tells how many names it has
    pub links_told : (facts : Facts) × (look tree (kept_path id) ≡ reply.Facts facts) × (facts.links ≡ names_of tree id)
    links_told =
        let node = (is.plain.named keeper kept_it.stands).named in
        let number : node.0.id ≡ keeper.id = eqb-true node.0.id keeper.id (found_some (is_node keeper.id) tree.nodes node.0 node.1).1 in (
          facts_of tree node.0,
          kept_look tree is id kept_it.folder kept_it.found ∙ ap (last_step tree is id kept_it.folder kept_it.found true) kept_it.there ∙ ap (λ (o : Option PlainNode). (on tree (ok_or o refusal.NotFound) (λ node. (reply.Facts (facts_of tree node), tree))).0) node.1,
          ap (λ b. if b then 0 else names_of tree node.0.id) (node.2 ∙ kept_it.file) ∙ ap (names_of tree) (number ∙ kept_it.number),
        )

    abbrev after_rm : Result PlainEntry Refusal → Step
    after_rm r = on tree r (λ at. (reply.Ok, removed at tree))

    -- its entry goes
    pub release_is : step_line tree (Ok (release id)) ≡ (reply.Ok, removed keeper tree)
    release_is =
        ap (λ (o : Option PlainEntry). after_rm (then_ (then_ (ok_or o refusal.NotFound) (λ next. then_ (child tree next (decimal id)) (λ last. Ok last))) (λ at. unless at.folder refusal.IsFolder at))) kept_it.found
        ∙ ap (λ b. after_rm (then_ (then_ (if b then ok_or (entry_at tree kept_it.folder.id (decimal id)) refusal.NotFound else Err refusal.NotFolder) (λ last. Ok last)) (λ at. unless at.folder refusal.IsFolder at))) (folder_kind tree is kept_it.folder kept_it.found)
        ∙ ap (λ (o : Option PlainEntry). after_rm (then_ (then_ (ok_or o refusal.NotFound) (λ last. Ok last)) (λ at. unless at.folder refusal.IsFolder at))) kept_it.there
        ∙ ap (λ b. after_rm (unless b refusal.IsFolder keeper)) kept_it.file

    -- users see nothing of that
    pub release_unseen : seen (step_line tree (Ok (release id))).1 ≡ seen tree
    release_unseen = ap (λ (s : Step). seen s.1) release_is ∙ removed_unseen tree kept_it.folder keeper (keeps tree is kept_it.folder kept_it.found) kept_it.parent (root_nameless tree is keeper kept_it.stands)

    -- ---- of other files nothing changes

    abbrev left : PlainTree
    left = without_entry keeper.parent keeper.name tree

    pub removed_entries : (removed keeper tree).entries ≡ left.entries
    removed_entries = by (names_of left keeper.id == 0)
      where
        by : (b : Bool) → (if b then with_private (without_node keeper.id left) else marked keeper.id left).entries ≡ left.entries
        by true = refl
        by false = refl

    -- it was another file's entry that went
    module _ (other : ℕ) (other_few : other < 2 ^ 64) (apart : (other == id) ≡ false) where
      same_id : other ≡ id → ⊥
      same_id same = true≢false (sym (ap (λ n. n == id) same ∙ equal id) ∙ apart)
        where
          equal : (n : ℕ) → (n == n) ≡ true
          equal n = grind arith

      -- what stands at the place has the name
      at_place : (entry : PlainEntry) → is_at keeper.parent keeper.name entry ≡ true → (entry.parent ≡ kept_it.folder.id) × (entry.name ≡ decimal id)
      at_place entry at =
          let its = both (entry.parent == keeper.parent) (bytes_eq entry.name keeper.name) at in
          (eqb-true entry.parent keeper.parent its.0 ∙ kept_it.parent, (bytes_eq-Decides entry.name keeper.name).0 its.1 ∙ kept_it.named)

      unless_at : (entry : PlainEntry) → (is_at keeper.parent keeper.name entry ≡ true → ⊥) → not (is_at keeper.parent keeper.name entry) ≡ true
      unless_at entry never = by (is_at keeper.parent keeper.name entry) refl
        where
          by : (b : Bool) → is_at keeper.parent keeper.name entry ≡ b → not b ≡ true
          by true at = absurd (never at)
          by false at = refl

      names_left : names_of (removed keeper tree) other ≡ names_of tree other
      names_left =
          ap (λ (l : List PlainEntry). count_by (λ (e : PlainEntry). e.id == other) l) removed_entries
          ∙ sym (length-filter (λ (e : PlainEntry). e.id == other) (kept (λ entry. not (is_at keeper.parent keeper.name entry)) tree.entries))
          ∙ ap (λ (l : List PlainEntry). length l) (filter_kept (λ (e : PlainEntry). e.id == other) (λ entry. not (is_at keeper.parent keeper.name entry)) tree.entries (λ entry stands its. unless_at entry (never entry stands its)))
          ∙ length-filter (λ (e : PlainEntry). e.id == other) tree.entries
        where
          never : (entry : PlainEntry) → Contains tree.entries entry → (entry.id == other) ≡ true → is_at keeper.parent keeper.name entry ≡ true → ⊥
          never entry stands its at =
              let place = at_place entry at in
              let inside : stands_in (keeping_entry tree) entry ≡ true = ap (λ o. stands_in o entry) kept_it.found ∙ ap (λ n. n == kept_it.folder.id) place.0 ∙ equal kept_it.folder.id in
              let own = both (not entry.folder) (bytes_eq entry.name (decimal entry.id)) (is.own entry (kept_stands (stands_in (keeping_entry tree)) tree.entries entry stands inside)) in
              let number : entry.id ≡ id = digits_tell entry.id id (omega (arith, (is.drawn entry stands).0, is.few)) few (sym ((bytes_eq-Decides entry.name (decimal entry.id)).0 own.1) ∙ place.1) in
              same_id (sym (eqb-true entry.id other its) ∙ number)
            where
              equal : (n : ℕ) → (n == n) ≡ true
              equal n = grind arith

      folder_left : keeping_entry (removed keeper tree) ≡ Some kept_it.folder
      folder_left =
          ap (λ (l : List PlainEntry). find (is_at 2 keeping_name) l) removed_entries
          ∙ find_both (is_at 2 keeping_name) (λ entry. not (is_at keeper.parent keeper.name entry)) tree.entries (λ entry stands root. unless_at entry (λ at.
          let its = both (entry.parent == 2) (bytes_eq entry.name keeping_name) root in
          true≢false (sym (ap (λ n. n == 2) (sym (at_place entry at).0) ∙ its.0) ∙ (keeps tree is kept_it.folder kept_it.found).below)))
          ∙ kept_it.found

      kept_left : IsOwnTree (removed keeper tree) → is_kept (removed keeper tree) other ≡ is_kept tree other
      kept_left own =
          sym (kept_found (removed keeper tree) own other kept_it.folder folder_left)
          ∙ ap (λ (o : Option PlainEntry). is_some o)
          (ap (λ (l : List PlainEntry). find (is_at kept_it.folder.id (decimal other)) l) removed_entries
          ∙ find_both (is_at kept_it.folder.id (decimal other)) (λ entry. not (is_at keeper.parent keeper.name entry)) tree.entries (λ entry stands its. unless_at entry (λ at.
          same_id (digits_tell other id other_few few (sym ((bytes_eq-Decides entry.name (decimal other)).0 (both (entry.parent == kept_it.folder.id) (bytes_eq entry.name (decimal other)) its).1) ∙ (at_place entry at).1)))))
          ∙ kept_found tree is other kept_it.folder kept_it.found

-- ---- the stages of a file that nobody has open any more

-- nothing of other files changed
abbrev pub SameOthers : PlainTree → ℕ → PlainTree → Type 0
SameOthers tree id last = (other : ℕ) → other < 2 ^ 64 → (other == id) ≡ false → (is_kept last other ≡ is_kept tree other) × (names_of last other ≡ names_of tree other)

abbrev pub wants_release : PlainTree → ℕ → Bool
wants_release tree id = is_kept tree id && (names_of tree id == 1)

abbrev pub releases_one : Bool → ℕ → List Command
releases_one b id = if b then release id ∷ [] else []

-- The file is released where it is kept and has no other name, and users see nothing of that.
pub record Released (tree : PlainTree) (id : ℕ) (run : List Entry) : Type 0 where
  pub did : List Command
  pub replies : List Reply
  pub last : PlainTree
  pub did_is : did ≡ releases_one (wants_release tree id) id
  pub quiet : IsQuiet tree run did replies last
  pub last_is : last ≡ trees_by tree did replies
  pub own : IsOwnTree last
  pub small : last.next_id < 2 ^ 32
  pub others : SameOthers tree id last

-- a release keeps the folder the sessions' own
abbrev pub ReleasesOwn : Type 0
ReleasesOwn = (id capacity : ℕ) (entry : Entry) → asked_by entry ≡ Ok (release id) → IsServed capacity entry → IsOwnTree (tree_of entry.before) → (tree_of entry.before).next_id < 2 ^ 32 → IsOwnTree (tree_of entry.after) × ((tree_of entry.after).next_id < 2 ^ 32)

pub releases_own : StepKeepsTrees → StayFew → ReleasesOwn
releases_own law few id capacity entry asks served own small =
    let same = served_tree capacity entry (release id) asks served in
    let less = few capacity entry served small in
    (subst (λ (t : PlainTree). IsOwnTree t) (sym same) (released_by law (tree_of entry.before) own id entry.reply (omega (arith, less, ap (λ (t : PlainTree). t.next_id) same))), less)

abbrev asked_or : Command → Option Command → Command
asked_or other None = other
asked_or other (Some asked) = asked

module _ (handles : List OpenFile) (tree : PlainTree) (is : IsOwnTree tree) (small : tree.next_id < 2 ^ 32) (id : ℕ) (few : id < 2 ^ 64) (owns : ReleasesOwn) where
  same_others : SameOthers tree id tree
  same_others other other_few apart = (refl, refl)

  -- nothing is done
  none_released : (run : List Entry) → wants_release tree id ≡ false → IsQuiet tree run [] [] tree → Released tree id run
  none_released run unwanted quiet = record {
    did = [];
    replies = [];
    last = tree;
    did_is = sym (ap (λ b. releases_one b id) unwanted);
    quiet = quiet;
    last_is = refl;
    own = is;
    small = small;
    others = same_others;
  }

  -- the release isn't done at all
  skipped_release : (run : List Entry) (why : Refusal) → IsSkipped why → IsQuiet tree run [] [] tree → Released tree id run
  skipped_release run why skipped quiet = by (wants_release tree id) refl
    where
      by : (b : Bool) → wants_release tree id ≡ b → Released tree id run
      by false unwanted = none_released run unwanted quiet
      by true wanted = record {
        did = release id ∷ [];
        replies = reply.No why ∷ [];
        last = tree;
        did_is = sym (ap (λ b. releases_one b id) wanted);
        quiet = quiet_skip tree why (release id) run [] [] tree skipped quiet;
        last_is = refl;
        own = is;
        small = small;
        others = same_others;
      }

  module _ (kept_it : Kept tree is id few) (wanted : wants_release tree id ≡ true) where
    done_release : (entry : Entry) (capacity : ℕ) → asked_by entry ≡ Ok (release id) → tree_of entry.before ≡ tree → IsServed capacity entry → Released tree id (entry ∷ [])
    done_release entry capacity asks before served = by (is_refusal entry.reply) refl
      where
        after : IsOwnTree (tree_of entry.after) × ((tree_of entry.after).next_id < 2 ^ 32)
        after = owns id capacity entry asks served (subst (λ (t : PlainTree). IsOwnTree t) (sym before) is) (subst (λ (t : PlainTree). t.next_id < 2 ^ 32) (sym before) small)

        own_after : IsOwnTree (tree_of entry.after)
        own_after = after.0

        leads : tree_of entry.after ≡ tree_by tree (release id) entry.reply
        leads = served_tree capacity entry (release id) asks served ∙ ap (λ (t : PlainTree). tree_by t (release id) entry.reply) before

        whole : seen (tree_of entry.after) ≡ seen tree → SameOthers tree id (tree_of entry.after) → Released tree id (entry ∷ [])
        whole sees others = record {
          did = release id ∷ [];
          replies = entry.reply ∷ [];
          last = tree_of entry.after;
          did_is = sym (ap (λ b. releases_one b id) wanted);
          quiet = quiet_command tree entry (release id) [] [] [] (tree_of entry.after) asks sees (quiet_none (tree_of entry.after));
          last_is = leads;
          own = own_after;
          small = after.1;
          others = others;
        }

        by : (b : Bool) → is_refusal entry.reply ≡ b → Released tree id (entry ∷ [])
        by true refused =
            let same : tree_of entry.after ≡ tree = leads ∙ ap (λ b. if b then tree else (step_line tree (Ok (release id))).1) refused in
            whole (ap (λ t. seen t) same) (subst (λ (t : PlainTree). SameOthers tree id t) (sym same) same_others)
        by false done =
            let same : tree_of entry.after ≡ (step_line tree (Ok (release id))).1 = leads ∙ ap (λ b. if b then tree else (step_line tree (Ok (release id))).1) done in
            let now : tree_of entry.after ≡ removed kept_it.keeper tree = same ∙ ap (λ (s : Step). s.1) (release_is tree is id few kept_it) in
            let own_now = subst (λ (t : PlainTree). IsOwnTree t) now own_after in
            whole (ap (λ t. seen t) same ∙ release_unseen tree is id few kept_it)
            (subst (λ (t : PlainTree). SameOthers tree id t) (sym now) (λ other other_few apart. (kept_left tree is id few kept_it other other_few apart own_now, names_left tree is id few kept_it other other_few apart)))

    releasing : (run : List Entry) (to : Stage) → command_at to ≡ None → Follows handles tree (stage.Releasing id) run to → Released tree id run
    releasing [] to ends (stays _ _) = absurd (cc (sym ends))
    releasing (entry ∷ run) to ends (does _ _ _ _ _ capacity one asked asks before served rest) =
        let its : asked_by entry ≡ Ok (release id) = asks ∙ ap (λ (a : Command). Ok a) (ap (asked_or one) (sym asked)) in
        let last = ended handles (tree_of entry.after) stage.Rests run to refl rest in
        subst (λ (r : List Entry). Released tree id (entry ∷ r)) (sym last.0) (done_release entry capacity its before served)
    releasing run to ends (skips _ _ _ _ one why asked skipped rest) =
        let last = ended handles tree stage.Rests run to refl rest in
        skipped_release run why skipped (subst (λ (r : List Entry). IsQuiet tree r [] [] tree) (sym last.0) (quiet_none tree))

  -- What the stages of a file that nobody has open any more come to.
  pub closing : (run : List Entry) (to : Stage) → command_at to ≡ None → Follows handles tree (stage.Closing id) run to → Released tree id run
  closing run to ends follows = by (looked_at handles tree (stage.Closing id) (kept_path id) run to refl ends follows)
    where
      by : Looked handles tree (stage.Closing id) (kept_path id) run to → Released tree id run
      by looked = told looked.says
        where
          next : (s : Stage) → closed id looked.said ≡ s → Follows handles tree s looked.rest to
          next s is_it = subst (λ (s : Stage). Follows handles tree s looked.rest to) is_it looked.follows

          quiet_rest : closed id looked.said ≡ stage.Rests → IsQuiet tree run [] [] tree
          quiet_rest rests =
              let last = ended handles tree stage.Rests looked.rest to refl (next stage.Rests rests) in
              looked.quiet [] [] tree (subst (λ (r : List Entry). IsQuiet tree r [] [] tree) (sym last.0) (quiet_none tree))

          behind_look : Released tree id looked.rest → Released tree id run
          behind_look it = record {
            did = it.did;
            replies = it.replies;
            last = it.last;
            did_is = it.did_is;
            quiet = looked.quiet it.did it.replies it.last it.quiet;
            last_is = it.last_is;
            own = it.own;
            small = it.small;
            others = it.others;
          }

          by_links : (kept_it : Kept tree is id few) → is_kept tree id ≡ true → looked.said ≡ reply.Facts (links_told tree is id few kept_it).0 → (b : Bool) → (names_of tree id == 1) ≡ b → Released tree id run
          by_links kept_it kept_is said true one =
              let links : closed id looked.said ≡ stage.Releasing id =
              ap (closed id) said ∙ ap (λ n. if n == 1 then stage.Releasing id else stage.Rests) (links_told tree is id few kept_it).2 ∙ ap (λ b. if b then stage.Releasing id else stage.Rests) one in
              behind_look (releasing kept_it (λ i. kept_is i && one i) looked.rest to ends (next (stage.Releasing id) links))
          by_links kept_it kept_is said false more =
              let links : closed id looked.said ≡ stage.Rests =
              ap (closed id) said ∙ ap (λ n. if n == 1 then stage.Releasing id else stage.Rests) (links_told tree is id few kept_it).2 ∙ ap (λ b. if b then stage.Releasing id else stage.Rests) more in
              none_released run (λ i. kept_is i && more i) (quiet_rest links)

          looked_up : looked.said ≡ look tree (kept_path id) → (b : Bool) → is_kept tree id ≡ b → Released tree id run
          looked_up said true kept_is =
              let kept_it = kept_of tree is id few kept_is in
              by_links kept_it kept_is (said ∙ (links_told tree is id few kept_it).1) (names_of tree id == 1) refl
          looked_up said false not_kept = none_released run (ap (λ b. b && (names_of tree id == 1)) not_kept) (quiet_rest (ap (closed id) (said ∙ not_kept_told tree is id not_kept)))

          told : (looked.said ≡ look tree (kept_path id)) ⊎ ((why : Refusal) × IsSkipped why × (looked.said ≡ reply.No why)) → Released tree id run
          told (inr skip) = skipped_release run skip.0 skip.1 (quiet_rest (ap (closed id) skip.2))
          told (inl same) = looked_up same (is_kept tree id) refl

-- ---- files, one after the other

-- what releases these files is a matter of whether each is kept and has other names
releases_same : (tree now : PlainTree) (final : List OpenFile) (ids : List ℕ) → ((id : ℕ) → Contains ids id → (is_kept now id ≡ is_kept tree id) × (names_of now id ≡ names_of tree id)) → releases_of now final ids ≡ releases_of tree final ids
releases_same tree now final [] each = refl
releases_same tree now final (id ∷ ids) each =
    let here = each id (at_front id ids) in
    let rest = releases_same tree now final ids (λ other stands. each other (behind id other ids stands)) in
    (λ i. if not (is_held final id || list_any (λ later. later == id) ids) && ((here.0 i) && (here.1 i == 1)) then release id ∷ rest i else rest i)

-- Files of handles that are closed are released, one after the other: these are left.
pub record Closes (tree : PlainTree) (final : List OpenFile) (files : List ℕ) (run : List Entry) (more : List ℕ) : Type 0 where
  pub did : List Command
  pub replies : List Reply
  pub last : PlainTree
  pub quiet : IsQuiet tree run did replies last
  pub last_is : last ≡ trees_by tree did replies
  pub own : IsOwnTree last
  pub small : last.next_id < 2 ^ 32
  pub behind_is : releases_of tree final files ≡ did ++ releases_of last final more

module _ (tree : PlainTree) (final : List OpenFile) (files : List ℕ) where
  pub closes_none : IsOwnTree tree → tree.next_id < 2 ^ 32 → Closes tree final files [] files
  closes_none own small = record { did = []; replies = []; last = tree; quiet = quiet_none tree; last_is = refl; own = own; small = small; behind_is = refl }

  abbrev is_later : ℕ → List ℕ → Bool
  is_later id more = is_held final id || list_any (λ later. later == id) more

  -- what a file adds
  abbrev released_more : PlainTree → ℕ → List ℕ → Bool → List Command
  released_more last id more later = if not later && wants_release last id then release id ∷ releases_of last final more else releases_of last final more

  -- another handle names it
  pub closes_still : (run : List Entry) (id : ℕ) (more : List ℕ) → Closes tree final files run (id ∷ more) → is_later id more ≡ true → Closes tree final files run more
  closes_still run id more it later = record {
    did = it.did;
    replies = it.replies;
    last = it.last;
    quiet = it.quiet;
    last_is = it.last_is;
    own = it.own;
    small = it.small;
    behind_is = it.behind_is ∙ ap (λ b. it.did ++ released_more it.last id more b) later;
  }

  -- none does any more
  pub closes_gone : (handles : List OpenFile) (run own : List Entry) (to : Stage) (id : ℕ) (more : List ℕ) → (it : Closes tree final files run (id ∷ more)) → is_later id more ≡ false → id < 2 ^ 64 → ((other : ℕ) → Contains more other → other < 2 ^ 64) → ReleasesOwn
      → command_at to ≡ None → Follows handles it.last (stage.Closing id) own to → Closes tree final files (run ++ own) more
  closes_gone handles run own to id more it later few all_few owns ends follows =
      let done = closing handles it.last it.own it.small id few owns own to ends follows in
      let long = made_long run it.did it.replies it.quiet.made in
      let others : releases_of done.last final more ≡ releases_of it.last final more =
      releases_same it.last done.last final more (λ other stands. done.others other (all_few other stands) (apart more other (either_none (is_held final id) (list_any (λ later. later == id) more) later).1 stands)) in
      record {
        did = it.did ++ done.did;
        replies = it.replies ++ done.replies;
        last = done.last;
        quiet = quiet_both tree it.last done.last run own it.did done.did it.replies done.replies it.quiet done.quiet;
        last_is = done.last_is ∙ ap (λ t. trees_by t done.did done.replies) it.last_is ∙ sym (trees_both tree it.did done.did it.replies done.replies long);
        own = done.own;
        small = done.small;
        behind_is = it.behind_is ∙ ap (λ b. it.did ++ released_more it.last id more b) later ∙ ap (λ l. it.did ++ l) (by_wanted (wants_release it.last id) (releases_of it.last final more))
            ∙ sym (append_assoc it.did (releases_one (wants_release it.last id) id) (releases_of it.last final more))
            ∙ (λ i. (it.did ++ sym done.did_is i) ++ sym others i);
      }
    where
      either_none : (a b : Bool) → (a || b) ≡ false → (a ≡ false) × (b ≡ false)
      either_none true b is = absurd (true≢false is)
      either_none false b is = (refl, is)

      by_wanted : (b : Bool) (l : List Command) → (if b then release id ∷ l else l) ≡ releases_one b id ++ l
      by_wanted true l = refl
      by_wanted false l = refl

      apart : (ids : List ℕ) (other : ℕ) → list_any (λ later. later == id) ids ≡ false → Contains ids other → (other == id) ≡ false
      apart [] other none stands = absurd (omega (arith, stands.1))
      apart (one ∷ ids) other none stands =
          let parts = either_none (one == id) (list_any (λ later. later == id) ids) none in
          ⊎_elim (λ (same : other ≡ one). ap (λ n. n == id) same ∙ parts.0) (λ there. apart ids other parts.1 there) (first_or_later one other ids stands)

-- ---- the line

-- commands that aren't done at all
abbrev skips_all : List Command → List Reply
skips_all [] = []
skips_all (asked ∷ rest) = reply.No refusal.OutOfMemory ∷ skips_all rest

made_skips : (rest : List Command) → AreMade [] rest (skips_all rest)
made_skips [] = none_made
made_skips (asked ∷ rest) = none_skipped refusal.OutOfMemory asked [] rest (skips_all rest) refl (made_skips rest)

tree_skips : (tree : PlainTree) (rest : List Command) → trees_by tree rest (skips_all rest) ≡ tree
tree_skips tree [] = refl
tree_skips tree (asked ∷ rest) = tree_skips tree rest

behind_all : (says : SessionReply) (handles : List OpenFile) (did : List Command) (tree : PlainTree) (replies : List Reply) → length did ≡ length replies
    → do_behind says handles did tree replies ≡ record { did = did; says = says; next = record { tree = trees_by tree did replies; handles = handles } }
behind_all says handles [] tree [] long = refl
behind_all says handles [] tree (got ∷ replies) long = absurd (omega (arith, long))
behind_all says handles (asked ∷ did) tree [] long = absurd (omega (arith, long))
behind_all says handles (asked ∷ did) tree (got ∷ replies) long = ap (did_first asked) (behind_all says handles did (tree_by tree asked got) replies (omega (arith, long)))

module _ (start : Content) (machine : Machine) (line : List ℕ) (fits : tree_of start ≡ machine.tree) (final : List OpenFile) (files : List ℕ) (plan : plan_of machine (asks_of line) ≡ closes machine final files) where
  -- A line that closes handles, of whose files these aren't released yet: they aren't at all.
  pub closes_line : (run : List Entry) (more : List ℕ) → Closes machine.tree final files run more → Turned start machine line run (told.Plain reply.Ok) final
  closes_line run more it =
      let rest = releases_of it.last final more in
      let long = made_long run it.did it.replies it.quiet.made in
      let made : AreMade run (it.did ++ rest) (it.replies ++ skips_all rest) = subst (λ (r : List Entry). AreMade r (it.did ++ rest) (it.replies ++ skips_all rest)) (append-nil run)
      (made_both run [] it.did rest it.replies (skips_all rest) it.quiet.made (made_skips rest)) in
      let whole = made_long run (it.did ++ rest) (it.replies ++ skips_all rest) made in
      let tree_is : trees_by machine.tree (it.did ++ rest) (it.replies ++ skips_all rest) ≡ it.last =
      trees_both machine.tree it.did rest it.replies (skips_all rest) long ∙ ap (λ t. trees_by t rest (skips_all rest)) (sym it.last_is) ∙ tree_skips it.last rest in
      record {
        turn = record { did = it.did ++ rest; says = told.Plain reply.Ok; next = record { tree = trees_by machine.tree (it.did ++ rest) (it.replies ++ skips_all rest); handles = final } };
        is = record {
          replies = it.replies ++ skips_all rest;
          is = inl (sym (ap (λ (p : Plan). do_ahead machine.handles p p.ahead machine.tree (it.replies ++ skips_all rest)) plan ∙ ap (λ (l : List Command). do_behind (told.Plain reply.Ok) final l machine.tree (it.replies ++ skips_all rest)) it.behind_is
              ∙ behind_all (told.Plain reply.Ok) final (it.did ++ rest) machine.tree (it.replies ++ skips_all rest) whole));
          made = made;
          tree = it.quiet.leads start fits ∙ sym tree_is;
          between = λ count some. inl (it.quiet.unseen start fits count some);
        };
        says = refl;
        handles_are = refl;
      }

-- ---- handles

-- the handles of a session stand in order, the least one first
module _ (session : ℕ) where
  abbrev its : OpenFile → Bool
  its opened = opened.session == session

  -- an open file stands behind another
  before_other : (one other : OpenFile) → handle_before one other ≡ true → is_handle one.session one.handle other ≡ false
  before_other one other before = by (is_handle one.session one.handle other) refl
    where
      by : (b : Bool) → is_handle one.session one.handle other ≡ b → b ≡ false
      by false isnt = refl
      by true same =
          let parts = both (other.session == one.session) (other.handle == one.handle) same in
          absurd (never one.session one.handle other.session other.handle (eqb-true other.session one.session parts.0) (eqb-true other.handle one.handle parts.1) before)
        where
          less : (n : ℕ) → nat_lt n n ≡ false
          less n = grind arith

          never : (a b c d : ℕ) → c ≡ a → d ≡ b → (nat_lt a c || ((a == c) && nat_lt b d)) ≡ true → ⊥
          never a b c d s h before =
              true≢false (sym before ∙ (λ i. nat_lt a (s i) || ((a == s i) && nat_lt b (h i))) ∙ ap (λ e. e || ((a == a) && nat_lt b b)) (less a) ∙ ap (λ e. (a == a) && e) (less b) ∙ no (a == a))
            where
              no : (e : Bool) → (e && false) ≡ false
              no true = refl
              no false = refl

  all_others : (one : OpenFile) (rest : List OpenFile) → list_all (handle_before one) rest ≡ true → without_handle one.session one.handle rest ≡ rest
  all_others one [] all = refl
  all_others one (next ∷ rest) all =
      let parts = both (handle_before one next) (list_all (handle_before one) rest) all in
      ap (λ b. (if not b then next ∷ [] else []) ++ without_handle one.session one.handle rest) (before_other one next parts.0) ∙ ap (λ l. next ∷ l) (all_others one rest parts.1)

  module _ (opened : OpenFile) where
    -- The first of them is closed: its file comes first, and the others' behind it.
    pub first_file : (handles : List OpenFile) → are_in_order handles ≡ true → find its handles ≡ Some opened → files_of session handles ≡ opened.file ∷ files_of session (without_handle session opened.handle handles)
    first_file [] order found = absurd (cc found)
    first_file (one ∷ handles) order found = by (λ later. first_file handles parts.1 later) (one.session == session) refl found
      where
        parts : (list_all (handle_before one) handles ≡ true) × (are_in_order handles ≡ true)
        parts = both (list_all (handle_before one) handles) (are_in_order handles) order

        some_or : OpenFile → Option OpenFile → OpenFile
        some_or other None = other
        some_or other (Some one) = one

        names : List OpenFile → List ℕ
        names l = map (λ (o : OpenFile). o.file) l

        Rest : Type 0
        Rest = find its handles ≡ Some opened → files_of session handles ≡ opened.file ∷ files_of session (without_handle session opened.handle handles)

        by : Rest → (b : Bool) → (one.session == session) ≡ b → (if b then Some one else find its handles) ≡ Some opened → files_of session (one ∷ handles) ≡ opened.file ∷ files_of session (without_handle session opened.handle (one ∷ handles))
        by rest true mine found =
            let same : one ≡ opened = ap (some_or one) found in
            let number : one.session ≡ session = eqb-true one.session session mine in
            ap (λ b. names ((if b then one ∷ [] else []) ++ kept its handles)) mine ∙ ap (λ (l : List OpenFile). one.file ∷ files_of session l) (sym (all_others one handles parts.0))
            ∙ ap (λ n. one.file ∷ files_of session (without_handle n one.handle handles)) number ∙ ap (λ (l : List OpenFile). one.file ∷ files_of session l) (sym gone)
            ∙ (λ i. (same i).file ∷ files_of session (without_handle session (same i).handle (one ∷ handles)))
          where
            equal : (n : ℕ) → (n == n) ≡ true
            equal n = grind arith

            gone : without_handle session one.handle (one ∷ handles) ≡ without_handle session one.handle handles
            gone = (λ i. (if not (mine i && equal one.handle i) then one ∷ [] else []) ++ without_handle session one.handle handles)
        by rest false other found =
            ap (λ b. names ((if b then one ∷ [] else []) ++ kept its handles)) other ∙ rest found
            ∙ ap (λ (l : List OpenFile). opened.file ∷ names l) (sym (ap (λ b. (if b then one ∷ [] else []) ++ kept its (without_handle session opened.handle handles)) other)
            ∙ sym (ap (λ b. kept its ((if not (b && (one.handle == opened.handle)) then one ∷ [] else []) ++ without_handle session opened.handle handles)) other))

    -- what the first one names
    found_same : (handles : List OpenFile) → find its handles ≡ Some opened → find (is_handle session opened.handle) handles ≡ Some opened
    found_same [] found = absurd (cc found)
    found_same (one ∷ handles) found = by (λ later. found_same handles later) (one.session == session) refl found
      where
        equal : (n : ℕ) → (n == n) ≡ true
        equal n = grind arith

        some_or : OpenFile → Option OpenFile → OpenFile
        some_or other None = other
        some_or other (Some one) = one

        by : (find its handles ≡ Some opened → find (is_handle session opened.handle) handles ≡ Some opened) → (b : Bool) → (one.session == session) ≡ b → (if b then Some one else find its handles) ≡ Some opened → find (is_handle session opened.handle) (one ∷ handles) ≡ Some opened
        by rest true mine found =
            let same : one ≡ opened = ap (some_or one) found in
            let number : (one.handle == opened.handle) ≡ true = ap (λ (o : OpenFile). o.handle == opened.handle) same ∙ equal opened.handle in
            (λ i. if mine i && number i then Some one else find (is_handle session opened.handle) handles) ∙ ap Some same
        by rest false other found = ap (λ b. if b && (one.handle == opened.handle) then Some one else find (is_handle session opened.handle) handles) other ∙ rest found

    pub first_named : (handles : List OpenFile) → find its handles ≡ Some opened → file_of handles session opened.handle ≡ Some opened.file
    first_named handles found = rw (found_same handles found) refl

  -- a handle that is closed was the session's
  others_stay : (handle : ℕ) (handles : List OpenFile) → without_session session (without_handle session handle handles) ≡ without_session session handles
  others_stay handle handles = kept_both (λ (o : OpenFile). not (o.session == session)) (λ (o : OpenFile). not (is_handle session handle o)) handles (λ one stands other. by one (one.session == session) other)
    where
      by : (one : OpenFile) (b : Bool) → not b ≡ true → not (b && (one.handle == handle)) ≡ true
      by one true other = absurd (true≢false (sym other))
      by one false other = refl

  -- a file is held by others, or by the session
  held_parts : (id : ℕ) (handles : List OpenFile) → is_held handles id ≡ (is_held (without_session session handles) id || list_any (λ later. later == id) (files_of session handles))
  held_parts id [] = refl
  held_parts id (one ∷ handles) = by (one.session == session) (held_parts id handles)
    where
      swap : (x a b : Bool) → (x || (a || b)) ≡ (a || (x || b))
      swap true true b = refl
      swap true false b = refl
      swap false a b = refl

      joined : (x a b : Bool) → (x || (a || b)) ≡ ((x || a) || b)
      joined true a b = refl
      joined false a b = refl

      by : (b : Bool) → is_held handles id ≡ (is_held (without_session session handles) id || list_any (λ later. later == id) (files_of session handles))
          → is_held (one ∷ handles) id ≡ (is_held ((if not b then one ∷ [] else []) ++ without_session session handles) id || list_any (λ later. later == id) (map (λ (o : OpenFile). o.file) ((if b then one ∷ [] else []) ++ kept its handles)))
      by true rest = ap (λ e. (one.file == id) || e) rest ∙ swap (one.file == id) (is_held (without_session session handles) id) (list_any (λ later. later == id) (files_of session handles))
      by false rest = ap (λ e. (one.file == id) || e) rest ∙ joined (one.file == id) (is_held (without_session session handles) id) (list_any (λ later. later == id) (files_of session handles))

  -- it has no handle more
  pub no_more : (handles : List OpenFile) → first_handle handles session ≡ None → (without_session session handles ≡ handles) × (files_of session handles ≡ [])
  no_more [] none = (refl, refl)
  no_more (one ∷ handles) none = by (one.session == session) none (no_more handles)
    where
      by : (b : Bool) → handle_in (if b then Some one else find its handles) ≡ None → (first_handle handles session ≡ None → (without_session session handles ≡ handles) × (files_of session handles ≡ []))
          → ((if not b then one ∷ [] else []) ++ without_session session handles ≡ one ∷ handles) × (map (λ (o : OpenFile). o.file) ((if b then one ∷ [] else []) ++ kept its handles) ≡ [])
      by true none rest = absurd (cc none)
      by false none rest = let later = rest none in (ap (λ l. one ∷ l) later.0, later.1)

  -- ---- all handles of the session are closed

  -- Handles of the session were closed, the least one first: these are left.
  pub record Ending (tree : PlainTree) (handles left : List OpenFile) (run : List Entry) : Type 0 where
    pub closes : Closes tree (without_session session handles) (files_of session handles) run (files_of session left)
    pub others : without_session session left ≡ without_session session handles
    pub few : (id : ℕ) → Contains (files_of session left) id → id < 2 ^ 64

  pub ending_none : (tree : PlainTree) (handles : List OpenFile) → IsOwnTree tree → tree.next_id < 2 ^ 32 → ((opened : OpenFile) → Contains handles opened → opened.file < 2 ^ 64) → Ending tree handles handles []
  ending_none tree handles own small few = record {
    closes = closes_none tree (without_session session handles) (files_of session handles) own small;
    others = refl;
    few = λ id stands.
        let from = map_cases (λ (o : OpenFile). o.file) (kept its handles) id stands in
        let opened = few from.0 (kept_cases its handles from.0 from.1).0 in
        omega (arith, from.2, opened);
  }

  -- the one that is closed next
  record Next (left : List OpenFile) (handle : ℕ) : Type 0 where
    pub opened : OpenFile
    pub file : file_of left session handle ≡ Some opened.file
    pub files : files_of session left ≡ opened.file ∷ files_of session (without_handle session handle left)

  next_of : (left : List OpenFile) (handle : ℕ) → are_in_order left ≡ true → first_handle left session ≡ Some handle → Next left handle
  next_of left handle order first = by (find its left) refl
    where
      some_or : ℕ → Option ℕ → ℕ
      some_or other None = other
      some_or other (Some n) = n

      by : (o : Option OpenFile) → find its left ≡ o → Next left handle
      by None none = absurd (cc (sym (ap handle_in none) ∙ first))
      by (Some opened) found =
          let number : opened.handle ≡ handle = ap (some_or handle) (sym (ap handle_in found) ∙ first) in
          record {
            opened = opened;
            file = ap (file_of left session) (sym number) ∙ first_named opened left found;
            files = first_file opened left order found ∙ ap (λ n. opened.file ∷ files_of session (without_handle session n left)) number;
          }

  module _ (tree : PlainTree) (handles left : List OpenFile) (run : List Entry) (it : Ending tree handles left run) (handle : ℕ) (order : are_in_order left ≡ true) (first : first_handle left session ≡ Some handle) where
    abbrev rest : List OpenFile
    rest = without_handle session handle left

    next : Next left handle
    next = next_of left handle order first

    file_later : is_held rest next.opened.file ≡ (is_held (without_session session handles) next.opened.file || list_any (λ later. later == next.opened.file) (files_of session rest))
    file_later = held_parts next.opened.file rest ∙ ap (λ (l : List OpenFile). is_held l next.opened.file || list_any (λ later. later == next.opened.file) (files_of session rest)) (others_stay handle left ∙ it.others)

    closes_next : Closes tree (without_session session handles) (files_of session handles) run (next.opened.file ∷ files_of session rest)
    closes_next = record {
      did = it.closes.did;
      replies = it.closes.replies;
      last = it.closes.last;
      quiet = it.closes.quiet;
      last_is = it.closes.last_is;
      own = it.closes.own;
      small = it.closes.small;
      behind_is = it.closes.behind_is ∙ ap (λ l. it.closes.did ++ releases_of it.closes.last (without_session session handles) l) next.files;
    }

    few_next : (id : ℕ) → Contains (next.opened.file ∷ files_of session rest) id → id < 2 ^ 64
    few_next id stands = it.few id (subst (λ (l : List ℕ). Contains l id) (sym next.files) stands)

    by_held : close_of left session handle ≡ (if is_held rest next.opened.file then closed_.Still else closed_.Gone next.opened.file)
    by_held = ap (closed_from rest) next.file

    -- another handle names its file
    pub ending_still : close_of left session handle ≡ closed_.Still → Ending tree handles rest run
    ending_still still = record {
      closes = closes_still tree (without_session session handles) (files_of session handles) run next.opened.file (files_of session rest) closes_next (sym file_later ∙ held (is_held rest next.opened.file) (sym by_held ∙ still));
      others = others_stay handle left ∙ it.others;
      few = λ id stands. few_next id (behind next.opened.file id (files_of session rest) stands);
    }
      where
        held : (b : Bool) → (if b then closed_.Still else closed_.Gone next.opened.file) ≡ closed_.Still → b ≡ true
        held true is = refl
        held false is = absurd (cc is)

    -- its file is released
    pub ending_gone : (id : ℕ) → close_of left session handle ≡ closed_.Gone id → ReleasesOwn → (open_now : List OpenFile) (own : List Entry) (to : Stage) → command_at to ≡ None → Follows open_now it.closes.last (stage.Closing id) own to → Ending tree handles rest (run ++ own)
    unfolding closes_next next
    ending_gone id gone owns open_now own to ends follows =
        let known = known_of (is_held rest next.opened.file) (sym by_held ∙ gone) in
        record {
          closes = closes_gone tree (without_session session handles) (files_of session handles) open_now run own to next.opened.file (files_of session rest) closes_next (sym file_later ∙ known.0)
              (few_next next.opened.file (at_front next.opened.file (files_of session rest))) (λ other stands. few_next other (behind next.opened.file other (files_of session rest) stands)) owns ends
              (subst (λ n. Follows open_now it.closes.last (stage.Closing n) own to) (sym known.1) follows);
          others = others_stay handle left ∙ it.others;
          few = λ other stands. few_next other (behind next.opened.file other (files_of session rest) stands);
        }
      where
        gone_or : ℕ → Closed → ℕ
        gone_or other (closed_.Gone n) = n
        gone_or other _ = other

        known_of : (b : Bool) → (if b then closed_.Still else closed_.Gone next.opened.file) ≡ closed_.Gone id → (b ≡ false) × (next.opened.file ≡ id)
        known_of true is = absurd (cc is)
        known_of false is = (refl, ap (gone_or id) is)

  -- Whatever was closed of the session, the line is one that closed all: what isn't released isn't at all.
  pub ending_turn : (start : Content) (machine : Machine) (line : List ℕ) → tree_of start ≡ machine.tree → plan_of machine (asks_of line) ≡ closes machine (without_session session machine.handles) (files_of session machine.handles)
      → (left : List OpenFile) (run : List Entry) → Ending machine.tree machine.handles left run → Turned start machine line run (told.Plain reply.Ok) (without_session session machine.handles)
  ending_turn start machine line fits plan left run it = closes_line start machine line fits (without_session session machine.handles) (files_of session machine.handles) plan run (files_of session left) it.closes

  -- and all were, where it has no handle more
  pub ending_all : (tree : PlainTree) (handles left : List OpenFile) (run : List Entry) → Ending tree handles left run → first_handle left session ≡ None → left ≡ without_session session handles
  ending_all tree handles left run it none = sym (no_more left none).0 ∙ it.others

-- ---- one handle is closed

module _ (session handle id : ℕ) (tree : PlainTree) (handles : List OpenFile) (named : file_of handles session handle ≡ Some id) where
  abbrev now_left : List OpenFile
  now_left = without_handle session handle handles

  held_by : close_of handles session handle ≡ (if is_held now_left id then closed_.Still else closed_.Gone id)
  held_by = ap (closed_from now_left) named

  whole : (b : Bool) → (b || false) ≡ b
  whole true = refl
  whole false = refl

  -- another handle names its file
  pub close_still : IsOwnTree tree → tree.next_id < 2 ^ 32 → close_of handles session handle ≡ closed_.Still → Closes tree now_left (id ∷ []) [] []
  close_still own small still = closes_still tree now_left (id ∷ []) [] id [] (closes_none tree now_left (id ∷ []) own small) (whole (is_held now_left id) ∙ held (is_held now_left id) (sym held_by ∙ still))
    where
      held : (b : Bool) → (if b then closed_.Still else closed_.Gone id) ≡ closed_.Still → b ≡ true
      held true is = refl
      held false is = absurd (cc is)

  -- its file is released
  pub close_gone : IsOwnTree tree → tree.next_id < 2 ^ 32 → ReleasesOwn → id < 2 ^ 64 → (other : ℕ) → close_of handles session handle ≡ closed_.Gone other → (open_now : List OpenFile) (run : List Entry) (to : Stage) → command_at to ≡ None
      → Follows open_now tree (stage.Closing other) run to → Closes tree now_left (id ∷ []) run []
  unfolding closes_none
  close_gone own small owns few other gone open_now run to ends follows =
      let known = known_of (is_held now_left id) (sym held_by ∙ gone) in
      closes_gone tree now_left (id ∷ []) open_now [] run to id [] (closes_none tree now_left (id ∷ []) own small) (whole (is_held now_left id) ∙ known.0) few (λ other stands. absurd (omega (arith, stands.1))) owns ends
      (subst (λ n. Follows open_now tree (stage.Closing n) run to) (sym known.1) follows)
    where
      gone_or : ℕ → Closed → ℕ
      gone_or other (closed_.Gone n) = n
      gone_or other _ = other

      known_of : (b : Bool) → (if b then closed_.Still else closed_.Gone id) ≡ closed_.Gone other → (b ≡ false) × (id ≡ other)
      known_of true is = absurd (cc is)
      known_of false is = (refl, ap (gone_or other) is)

-- ---- lines

-- ids of files that are open are few
open_few : (tree : PlainTree) (handles : List OpenFile) → IsOwnTree tree → HaveEntries tree handles → (opened : OpenFile) → Contains handles opened → opened.file < 2 ^ 64
open_few tree handles own have opened stands =
    let entry = have opened stands in
    omega (arith, entry.2, (own.drawn entry.0 entry.1).0, own.few)

-- a file that a handle names is open
pub named_stands : (handles : List OpenFile) (session handle id : ℕ) → file_of handles session handle ≡ Some id → (opened : OpenFile) × Contains handles opened × (opened.file ≡ id)
named_stands handles session handle id named = by (find (is_handle session handle) handles) refl
  where
    some_or : ℕ → Option ℕ → ℕ
    some_or other None = other
    some_or other (Some n) = n

    by : (o : Option OpenFile) → find (is_handle session handle) handles ≡ o → (opened : OpenFile) × Contains handles opened × (opened.file ≡ id)
    by None none = let nothing : file_of handles session handle ≡ None = rw none refl in absurd (cc (sym nothing ∙ named))
    by (Some opened) found =
        let file : file_of handles session handle ≡ Some opened.file = rw found refl in
        (opened, (found_some (is_handle session handle) handles opened found).0, ap (some_or id) (sym file ∙ named))

-- what was closed so far, of a session
module _ (session : ℕ) (tree : PlainTree) (handles : List OpenFile) (own : IsOwnTree tree) (small : tree.next_id < 2 ^ 32) (have : HaveEntries tree handles) (owns : ReleasesOwn) (start : Content) (fits : tree_of start ≡ tree) where
  closings_lead : (run : List Entry) (last : PlainTree) (left : List OpenFile) → AreClosings session handles tree run last left → tree_after start run ≡ last
  closings_lead _ _ _ none_closed = ap (λ (c : Content). tree_of c) (content_after-none start) ∙ fits
  closings_lead _ _ _ (one_closed run mine mid last left handle before order at closing leads) =
      ap (λ (c : Content). tree_of c) (content_after-append start run mine) ∙ leads (content_after start run) (closings_lead run mid left before)

  pub endings_of : (run : List Entry) (last : PlainTree) (left : List OpenFile) → AreClosings session handles tree run last left → Ending session tree handles left run
  endings_of _ _ _ none_closed = ending_none session tree handles own small (open_few tree handles own have)
  endings_of _ _ _ (one_closed run mine mid last left handle before order at closing leads) =
      let it = endings_of run mid left before in
      one_more run mine mid left handle it order at (sym (it.closes.quiet.leads start fits) ∙ closings_lead run mid left before) closing
    where
      -- another handle names its file
      still_named : (left : List OpenFile) (handle : ℕ) → are_in_order left ≡ true → first_handle left session ≡ Some handle → ((id : ℕ) → close_of left session handle ≡ closed_.Gone id → ⊥) → close_of left session handle ≡ closed_.Still
      still_named left handle order at never =
          let next = next_of session left handle order at in
          by next.opened.file (ap (closed_from (without_handle session handle left)) next.file) (is_held (without_handle session handle left) next.opened.file) refl
        where
          by : (file : ℕ) → close_of left session handle ≡ (if is_held (without_handle session handle left) file then closed_.Still else closed_.Gone file) → (b : Bool) → is_held (without_handle session handle left) file ≡ b → close_of left session handle ≡ closed_.Still
          by file is true held = is ∙ ap (λ b. if b then closed_.Still else closed_.Gone file) held
          by file is false held = absurd (never file (is ∙ ap (λ b. if b then closed_.Still else closed_.Gone file) held))

      one_more : (run mine : List Entry) (mid : PlainTree) (left : List OpenFile) (handle : ℕ) (it : Ending session tree handles left run) → are_in_order left ≡ true → first_handle left session ≡ Some handle → it.closes.last ≡ mid → IsClosing session handle left mid mine
          → Ending session tree handles (without_handle session handle left) (run ++ mine)
      one_more run [] mid left handle it order at here (others_name never) =
          subst (λ (r : List Entry). Ending session tree handles (without_handle session handle left) r) (sym (append-nil run)) (ending_still session tree handles left run it handle order at (still_named left handle order at never))
      one_more run mine mid left handle it order at here (none_names id _ to gone ends follows) =
          ending_gone session tree handles left run it handle order at id gone owns (without_handle session handle left) mine to ends (subst (λ (t : PlainTree). Follows (without_handle session handle left) t (stage.Closing id) mine to) (sym here) follows)

-- A line that closes a handle, as far as its file was released: what isn't done of that isn't done at all.
module _ (start : Content) (machine : Machine) (line : List ℕ) (fits : tree_of start ≡ machine.tree) (own : IsOwnTree machine.tree) (small : machine.tree.next_id < 2 ^ 32) (have : HaveEntries machine.tree machine.handles) (owns : ReleasesOwn) (session : ℕ) where
  pub close_turned : (handle id : ℕ) → file_of machine.handles session handle ≡ Some id → plan_of machine (asks_of line) ≡ closes machine (without_handle session handle machine.handles) (id ∷ []) → (run : List Entry)
      → IsClosing session handle machine.handles machine.tree run → Turned start machine line run (told.Plain reply.Ok) (without_handle session handle machine.handles)
  close_turned handle id named plan [] (others_name never) =
      closes_line start machine line fits (without_handle session handle machine.handles) (id ∷ []) plan [] [] (close_still session handle id machine.tree machine.handles named own small (still (is_held (without_handle session handle machine.handles) id) refl))
    where
      still : (b : Bool) → is_held (without_handle session handle machine.handles) id ≡ b → close_of machine.handles session handle ≡ closed_.Still
      still true held = ap (closed_from (without_handle session handle machine.handles)) named ∙ ap (λ b. if b then closed_.Still else closed_.Gone id) held
      still false held = absurd (never id (ap (closed_from (without_handle session handle machine.handles)) named ∙ ap (λ b. if b then closed_.Still else closed_.Gone id) held))
  close_turned handle id named plan run (none_names other _ to gone ends follows) =
      closes_line start machine line fits (without_handle session handle machine.handles) (id ∷ []) plan run []
      (close_gone session handle id machine.tree machine.handles named own small owns few other gone (without_handle session handle machine.handles) run to ends follows)
    where
      few : id < 2 ^ 64
      few =
          let stands = named_stands machine.handles session handle id named in
          let less = open_few machine.tree machine.handles own have stands.0 stands.1 in
          omega (arith, stands.2, less)

  -- the same of a line that closes all handles of its session
  pub end_turned : plan_of machine (asks_of line) ≡ closes machine (without_session session machine.handles) (files_of session machine.handles) → (run : List Entry) (last : PlainTree) (left : List OpenFile) → AreClosings session machine.handles machine.tree run last left
      → Turned start machine line run (told.Plain reply.Ok) (without_session session machine.handles)
  end_turned plan run last left closings = ending_turn session start machine line fits plan left run (endings_of session machine.tree machine.handles own small have owns start fits run last left closings)

  -- and all are closed where it has none more
  pub end_left : (run : List Entry) (last : PlainTree) (left : List OpenFile) → AreClosings session machine.handles machine.tree run last left → first_handle left session ≡ None → left ≡ without_session session machine.handles
  end_left run last left closings none = ending_all session machine.tree machine.handles left run (endings_of session machine.tree machine.handles own small have owns start fits run last left closings) none
