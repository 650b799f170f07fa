-- What a turn keeps: the keeping folder is the sessions' own, and each file that is open has an entry.
use Rattle.std.proofs.Common.{◌≡◌, ◌⊎◌, ◌<◌, ◌≤◌, ℕ, Bool, true, false, List, [], ◌∷◌, inl, inr, refl, sym, ◌∙◌, ap, subst, arith, eq-eqb, ⊎_elim}
use Rattle.std.specs.Prelude.{Contains, ◌==◌, ◌&&◌, ◌||◌, ◌^◌, not, nat_lt, find, take, drop, decimal, Option, Some, None, Result, Ok, Err, if◌then◌else◌}
use Rattle.std.specs.List.{list_any}
use Rattle.std.specs.Option.{ok_or}
use Rattle.std.proofs.lemmas.Bool.{and_parts, eqb-true, true≢false}
use Rattle.std.proofs.lemmas.Fmt.{decimal_injective}
use Rattle.std.specs.Str.{bytes_eq}
use Rattle.std.proofs.lemmas.Slice.Eq.{bytes_eq-Decides}
use Rattle.jnl_format.specs.Recovery.{Content}
use Rattle.hfs_language.specs.declared.command.Command.{Command}
use Rattle.hfs_language.specs.declared.command.Command.TheVariants as command
use Rattle.hfs_language.specs.declared.refusal.Refusal.{Refusal}
use Rattle.hfs_language.specs.declared.refusal.Refusal.TheVariants as refusal
use Rattle.hfs_language.specs.declared.reply.Reply.{Reply}
use Rattle.hfs_language.specs.declared.reply.Reply.TheVariants as reply
use Rattle.hfs_model.specs.Plain.{entry_before, is_at, is_node, names_of, node_at}
use Rattle.hfs_model.specs.Sorted.{kept}
use Rattle.hfs_model.specs.Step.{child, is_private_path, is_refusal, most_bytes, only_reads, reached, refuses, root_entry, step_line, then_, to_node, to_rm, unless, walk}
use Rattle.hfs_model.specs.declared.plain.PlainEntry.{PlainEntry}
use Rattle.hfs_model.specs.declared.plain.PlainNode.{PlainNode}
use Rattle.hfs_model.specs.declared.plain.PlainTree.{PlainTree}
use Rattle.hfs_volume.specs.Books.{StepKeepsTrees}
use Rattle.hfs_volume.specs.TreeOf.{tree_of}
use Rattle.hfs_volume.proofs.Flat.{found_some}
use Rattle.hfs_volume.proofs.Members.{at_front, behind, first_or_later, in_one, kept_cases, kept_stands, map_cases}
use Rattle.hfs_volume.proofs.Reaching.{found_ok, ok_same, then_ok, unless_ok}
use Rattle.volume_runs.specs.Run.{Entry, IsAnswered, IsRunFrom, IsServed, LacksMemory, LacksResource, asked_by, content_after, reply_to, shrunk_after, tree_after, wanted_by}
use Rattle.hfs_serving.proofs.Leading.{tidies_of}
use Rattle.hfs_serving.proofs.Mounting.{tidied_tree}
use Rattle.open_files.specs.Handles.{file_of, files_of, free_handle, is_handle, is_held, with_handle, without_handle, without_session}
use Rattle.open_files.specs.Keeping.{is_keeping_path, is_kept, keepers, keeping_entry, keeping_name, keeping_path, kept_path, names_keeping, release, saves_by, stands_in}
use Rattle.open_files.specs.Machine.{Machine, Plan, Taken, Turn, bytes_of, closes, did_first, do_ahead, do_behind, do_own, only_says, open_at, plan_act, plan_close, plan_of, plan_open, plan_read, refused, releases_of, saves_for, taken_by, taken_entry, to_open, tree_by, turn_of}
use Rattle.open_files.specs.Order.{handle_before}
use Rattle.open_files.specs.declared.act.Act.{Act}
use Rattle.open_files.specs.declared.act.Act.TheVariants as act
use Rattle.open_files.specs.declared.act.OpenFile.{OpenFile}
use Rattle.open_files.specs.declared.act.SessionLine.{SessionLine}
use Rattle.open_files.specs.declared.act.SessionReply.{SessionReply}
use Rattle.open_files.specs.declared.act.SessionReply.TheVariants as told
use Rattle.open_files.specs.Lines.{asks_of}
use Rattle.session_lines.specs.Made.{AreMade, look_made, none_made, none_skipped, one_made}
use Rattle.session_lines.specs.Owning.{HasEntry, HaveEntries, IsOwnTree}
use Rattle.session_lines.specs.Turns.{IsTurn, IsTurnOf}
use Rattle.session_lines.proofs.Keeping.{folder_kind, new_folder}
use Rattle.session_lines.proofs.Owned.{linked_by, made_by, other_by, released_by, some_counted}
use Rattle.session_lines.proofs.Places.{is_placed, stands_at, step_to}
use Rattle.session_lines.proofs.Remains.{SparesOne, entry_by, same_kind}
use Rattle.session_lines.proofs.Sorting.{put_cases}
use Rattle.session_lines.proofs.Spared.{IsLinked, IsReal, Reaches, SavesAs, link_done, linked_spares, links, made_aside, makes, nothing, saves_as, taken_reaches}
use Rattle.session_lines.proofs.Alike.{taken_same}
use Rattle.session_lines.proofs.Trees.{looked_same, served_tree}
use Rattle.session_lines.proofs.Plains.{served_plainly}

-- ---- ids stay few

-- behind an entry
abbrev pub StayFew : Type 0
StayFew = (capacity : ℕ) (entry : Entry) → IsServed capacity entry → (tree_of entry.before).next_id < 2 ^ 32 → (tree_of entry.after).next_id < 2 ^ 32

-- where entries of a run begin, the tree is as it was
begins_at : (capacity : ℕ) (shrunk : Option ℕ) (now : Content) (entry : Entry) (run : List Entry) → IsRunFrom capacity shrunk now (entry ∷ run) → tree_of entry.before ≡ tree_of now
begins_at capacity shrunk now entry run are = tidied_tree capacity shrunk now entry.before (tidies_of capacity shrunk (wanted_by entry) now entry.before are.0)

-- and behind a run
pub run_few : StayFew → (capacity : ℕ) (shrunk : Option ℕ) (now : Content) (run : List Entry) → IsRunFrom capacity shrunk now run → (tree_of now).next_id < 2 ^ 32 → (tree_after now run).next_id < 2 ^ 32
unfolding content_after
run_few law capacity shrunk now [] are few = few
run_few law capacity shrunk now (entry ∷ run) are few =
    run_few law capacity (shrunk_after shrunk entry) entry.after run are.2 (law capacity entry are.1 (subst (λ (t : PlainTree). t.next_id < 2 ^ 32) (sym (begins_at capacity shrunk now entry run are)) few))

-- where trees are the same, so are those after the same entries
pub same_after : (one other : Content) (run : List Entry) → tree_of one ≡ tree_of other → tree_after one run ≡ tree_after other run
unfolding content_after
same_after one other [] same = same
same_after one other (entry ∷ run) same = refl

pub fewer : (n : ℕ) → n < 2 ^ 32 → n < 2 ^ 64
fewer n few = omega (arith, few)

-- ---- replies of commands that were made

-- what is done isn't refused, and leaves few ids
abbrev pub AreReal : PlainTree → List Command → List Reply → Type 0
AreReal tree [] replies = Unit {0}
AreReal tree (asked ∷ did) [] = Unit {0}
AreReal tree (asked ∷ did) (got ∷ replies) = (IsReal tree asked got × ((tree_by tree asked got).next_id < 2 ^ 32)) × AreReal (tree_by tree asked got) did replies

-- the reply of a step that refuses is a refusal
refused_told : (capacity : ℕ) (content : Content) (asked : Command) → refuses (tree_of content) (Ok asked) ≡ true → is_refusal (reply_to capacity content (Ok asked)) ≡ true
refused_told capacity content (command.Mkdir path) is = is
refused_told capacity content (command.Create path) is = is
refused_told capacity content (command.Rm path) is = is
refused_told capacity content (command.Rmdir path) is = is
refused_told capacity content (command.Mv from to) is = is
refused_told capacity content (command.Ln from to) is = is
refused_told capacity content (command.Write path from value) is = is
refused_told capacity content (command.Read path from long) is = is
refused_told capacity content (command.Trunc path size) is = is
refused_told capacity content (command.Ls path) is = is
refused_told capacity content (command.Stat path) is = is
refused_told capacity content (command.Chmod path mode) is = is
refused_told capacity content (command.SetAttr path name value) is = is
refused_told capacity content (command.GetAttr path name) is = is
refused_told capacity content (command.DelAttr path name) is = is
refused_told capacity content (command.LsAttr path) is = is
refused_told capacity content (command.At moment) is = is
refused_told capacity content command.Df is = absurd (true≢false (sym is))
refused_told capacity content command.Sync is = is

real_entry : (capacity : ℕ) (entry : Entry) (asked : Command) → asked_by entry ≡ Ok asked → IsServed capacity entry → IsReal (tree_of entry.before) asked entry.reply
real_entry capacity entry asked asks served done = by (served_plainly capacity entry asked asks served)
  where
    refusal_of : (why : Refusal) → entry.reply ≡ reply.No why → ⊥
    refusal_of why is = true≢false (sym (ap is_refusal is) ∙ done)

    by : IsAnswered capacity entry ⊎ (LacksResource capacity entry ⊎ LacksMemory capacity entry) → refuses (tree_of entry.before) (Ok asked) ≡ false
    by (inl answered) = test (refuses (tree_of entry.before) (Ok asked)) refl
      where
        test : (b : Bool) → refuses (tree_of entry.before) (Ok asked) ≡ b → b ≡ false
        test false is = refl
        test true is =
            let told_is = subst (λ (a : Result Command Refusal). entry.reply ≡ reply_to capacity entry.before a) asks answered.reply_is in
            absurd (true≢false (sym (ap is_refusal told_is ∙ refused_told capacity entry.before asked is) ∙ done))
    by (inr (inl lacks)) = absurd (refusal_of lacks.why lacks.reply_is)
    by (inr (inr lacks)) = absurd (refusal_of refusal.OutOfMemory lacks.reply_is)

pub real_made : StayFew → (capacity : ℕ) (shrunk : Option ℕ) (now : Content) (run : List Entry) (did : List Command) (replies : List Reply) → AreMade run did replies → IsRunFrom capacity shrunk now run → (tree_of now).next_id < 2 ^ 32 → AreReal (tree_of now) did replies
real_made law capacity shrunk now [] [] [] none_made are few = tt
real_made law capacity shrunk now (entry ∷ run) did replies (look_made _ asked _ _ _ asks reads made) are few =
    let there = begins_at capacity shrunk now entry run are in
    let same : tree_of entry.after ≡ tree_of now = ap (λ (c : Content). tree_of c) (looked_same capacity entry asked asks reads are.1) ∙ there in
    subst (λ (t : PlainTree). AreReal t did replies) same (real_made law capacity (shrunk_after shrunk entry) entry.after run did replies made are.2 (subst (λ (t : PlainTree). t.next_id < 2 ^ 32) (sym same) few))
real_made law capacity shrunk now (entry ∷ run) (asked ∷ did) (got ∷ replies) (one_made _ _ _ _ _ asks made) are few =
    let there = begins_at capacity shrunk now entry run are in
    let leads : tree_of entry.after ≡ tree_by (tree_of now) asked entry.reply = served_tree capacity entry asked asks are.1 ∙ ap (λ (t : PlainTree). tree_by t asked entry.reply) there in
    let less = law capacity entry are.1 (subst (λ (t : PlainTree). t.next_id < 2 ^ 32) (sym there) few) in (
      (subst (λ (t : PlainTree). IsReal t asked entry.reply) there (real_entry capacity entry asked asks are.1), subst (λ (t : PlainTree). t.next_id < 2 ^ 32) leads less),
      subst (λ (t : PlainTree). AreReal t did replies) leads (real_made law capacity (shrunk_after shrunk entry) entry.after run did replies made are.2 less),
    )
real_made law capacity shrunk now run (asked ∷ did) (got ∷ replies) (none_skipped why _ _ _ _ skipped made) are few = ((λ done. absurd (true≢false done), few), real_made law capacity shrunk now run did replies made are few)

-- ---- what is kept

-- the keeping folder is the sessions' own, and each file that is open has an entry
abbrev pub Keeps : PlainTree → List OpenFile → Type 0
Keeps tree handles = IsOwnTree tree × HaveEntries tree handles

-- a file that is open is held
held_is : (handles : List OpenFile) (opened : OpenFile) → Contains handles opened → is_held handles opened.file ≡ true
held_is [] opened has = absurd (omega (arith, has.1))
held_is (first ∷ handles) opened has = ⊎_elim
    (λ (same : opened ≡ first). ap (λ b. b || is_held handles opened.file) (eq-eqb first.file opened.file (ap (λ (o : OpenFile). o.file) (sym same))))
    (λ later. either (first.file == opened.file) (held_is handles opened later)) (first_or_later first opened handles has)
  where
    either : (b : Bool) → is_held handles opened.file ≡ true → (b || is_held handles opened.file) ≡ true
    either true is = refl
    either false is = is

-- the file of a handle is that of one that is open
file_found : (handles : List OpenFile) (session handle id : ℕ) → file_of handles session handle ≡ Some id → (opened : OpenFile) × Contains handles opened × (opened.file ≡ id)
file_found handles session handle id is = by (find (is_handle session handle) handles) refl
  where
    number_or : ℕ → Option ℕ → ℕ
    number_or other None = other
    number_or other (Some n) = n

    by : (o : Option OpenFile) → find (is_handle session handle) handles ≡ o → (opened : OpenFile) × Contains handles opened × (opened.file ≡ id)
    by None found = let none : file_of handles session handle ≡ None = rw found refl in absurd (cc (sym none ∙ is))
    by (Some opened) found =
        let some : file_of handles session handle ≡ Some opened.file = rw found refl in
        (opened, (found_some (is_handle session handle) handles opened found).0, ap (number_or id) (sym some ∙ is))

module _ (law : StepKeepsTrees) where
  -- ---- a release

  module _ (tree : PlainTree) (handles : List OpenFile) (keeps : Keeps tree handles) where
    below_all : (entry : PlainEntry) → Contains tree.entries entry → entry.id < 2 ^ 64
    below_all entry stands = less entry.id tree.next_id (keeps.0.drawn entry stands).0 keeps.0.few
      where
        less : (a b : ℕ) → a < b → b < 2 ^ 64 → a < 2 ^ 64
        less a b first second = omega (arith, first, second)

    -- what a kept path reaches is its file's
    kept_at : (id : ℕ) → id < 2 ^ 64 → (at : PlainEntry) → reached tree (kept_path id) ≡ Ok at → at.id ≡ id
    kept_at id small at is =
        let first = then_ok (child tree root_entry keeping_name) (λ next. walk tree next (decimal id ∷ [])) at is in
        let second = then_ok (child tree first.0 (decimal id)) (λ next. Ok next) at first.2 in
        let one = step_to tree root_entry first.0 keeping_name first.1 in
        let two = step_to tree first.0 second.0 (decimal id) second.1 in
        let same : second.0 ≡ at = ok_same second.0 at second.2 in
        let found : keeping_entry tree ≡ Some first.0 = stands_at tree keeps.0.plain.entries_sorted 2 keeping_name first.0 one.1 (is_placed 2 keeping_name first.0 one.2 one.3) in
        let keeper = kept_stands (stands_in (keeping_entry tree)) tree.entries second.0 two.1 (ap (λ (o : Option PlainEntry). stands_in o second.0) found ∙ eq-eqb second.0.parent first.0.id two.2) in
        let its = and_parts (not second.0.folder) (bytes_eq second.0.name (decimal second.0.id)) (keeps.0.own second.0 keeper) in
        let digits : decimal second.0.id ≡ decimal id = sym ((bytes_eq-Decides second.0.name (decimal second.0.id)).0 its.1) ∙ two.3 in
        ap (λ (e : PlainEntry). e.id) (sym same) ∙ decimal_injective second.0.id id (below_all second.0 two.1) small digits

    -- a release takes no name of another file
    release_spares : (id other : ℕ) → id < 2 ^ 64 → (id ≡ other → ⊥) → SparesOne tree (release id) other
    release_spares id other small differ fine taken is same = by (reached tree (kept_path id)) refl is
      where
        entry_is : (at : PlainEntry) → reached tree (kept_path id) ≡ Ok at → (b : Bool) → (if b then None else Some (record { path = kept_path id; id = at.id })) ≡ Some taken → 2 ≤ names_of tree other
        entry_is at found true it = absurd (cc it)
        entry_is at found false it = absurd (differ (sym (kept_at id small at found) ∙ ap (taken_id other) it ∙ same))
          where
            taken_id : ℕ → Option Taken → ℕ
            taken_id n None = n
            taken_id n (Some t) = t.id

        by : (r : Result PlainEntry Refusal) → reached tree (kept_path id) ≡ r → taken_entry (kept_path id) r ≡ Some taken → 2 ≤ names_of tree other
        by (Err why) found it = absurd (cc it)
        by (Ok at) found it = entry_is at found at.folder it

    release_keeps : (id : ℕ) (got : Reply) → id < 2 ^ 64 → is_held handles id ≡ false → (tree_by tree (release id) got).next_id < 2 ^ 32 → Keeps (tree_by tree (release id) got) handles
    release_keeps id got small free few = (
      released_by law tree keeps.0 id got (fewer (tree_by tree (release id) got).next_id few),
      λ opened has. entry_by tree keeps.0.plain opened.file (release id) got (keeps.1 opened has)
          (release_spares id opened.file small (λ same. true≢false (sym (held_is handles opened has) ∙ ap (is_held handles) (sym same) ∙ free))),
    )

  -- releases of files that no handle names
  abbrev AreReleases : List OpenFile → List Command → Type 0
  AreReleases handles [] = Unit {0}
  AreReleases handles (asked ∷ rest) = ((id : ℕ) × (asked ≡ release id) × (id < 2 ^ 64) × (is_held handles id ≡ false)) × AreReleases handles rest

  behind_keeps : (says : SessionReply) (handles : List OpenFile) (asked : List Command) → AreReleases handles asked → (tree : PlainTree) (replies : List Reply) → Keeps tree handles → AreReal tree (do_behind says handles asked tree replies).did replies
      → Keeps (do_behind says handles asked tree replies).next.tree (do_behind says handles asked tree replies).next.handles
  behind_keeps says handles [] all tree replies keeps real = keeps
  behind_keeps says handles (asked ∷ rest) all tree [] keeps real = keeps
  behind_keeps says handles (asked ∷ rest) all tree (got ∷ replies) keeps real =
      let it = all.0 in
      let here : Keeps (tree_by tree asked got) handles = subst (λ (a : Command). Keeps (tree_by tree a got) handles) (sym it.1)
      (release_keeps tree handles keeps it.0 got it.2 it.3 (subst (λ (a : Command). (tree_by tree a got).next_id < 2 ^ 32) it.1 real.0.1)) in
      behind_keeps says handles rest all.1 (tree_by tree asked got) replies here real.1

  releases_are : (tree : PlainTree) (handles : List OpenFile) (ids : List ℕ) → ((id : ℕ) → Contains ids id → id < 2 ^ 64) → AreReleases handles (releases_of tree handles ids)
  releases_are tree handles [] small = tt
  releases_are tree handles (id ∷ ids) small = by (is_held handles id) (list_any (λ later. later == id) ids) (is_kept tree id && (names_of tree id == 1)) refl (releases_are tree handles ids (λ one has. small one (behind id one ids has)))
    where
      by : (a b c : Bool) → is_held handles id ≡ a → AreReleases handles (releases_of tree handles ids) → AreReleases handles (if not (a || b) && c then release id ∷ releases_of tree handles ids else releases_of tree handles ids)
      by true b c held rest = rest
      by false true c held rest = rest
      by false false true held rest = ((id, refl, small id (at_front id ids), held), rest)
      by false false false held rest = rest

  -- ---- a command of the plain language

  module _ (machine : Machine) (asked : Command) (other : names_keeping asked ≡ false) where
    abbrev handles : List OpenFile
    handles = machine.handles

    abbrev own_plan : List Command → Plan
    own_plan ahead = record { ahead = ahead; own = Some asked; says = told.Plain reply.Ok; handles = handles; behind = [] }

    -- each file that is open is spared by the command on this tree
    abbrev AllSpared : PlainTree → Type 0
    AllSpared tree = (id : ℕ) → is_held handles id ≡ true → SparesOne tree asked id

    -- a command ahead is refused, or is followed by others
    abbrev ahead_turn : Bool → Command → Reply → PlainTree → Turn → Turn
    ahead_turn b first got tree turn = if b then record { did = first ∷ []; says = told.Plain got; next = record { tree = tree; handles = handles } } else did_first first turn

    own_keeps : (ahead : List Command) (tree : PlainTree) (replies : List Reply) → Keeps tree handles → AllSpared tree → AreReal tree (do_own (own_plan ahead) (Some asked) tree replies).did replies
        → Keeps (do_own (own_plan ahead) (Some asked) tree replies).next.tree (do_own (own_plan ahead) (Some asked) tree replies).next.handles
    own_keeps ahead tree [] keeps spares real = keeps
    own_keeps ahead tree (got ∷ replies) keeps spares real = (
      other_by law tree keeps.0 asked got (fewer (tree_by tree asked got).next_id real.0.1) other,
      λ opened has. entry_by tree keeps.0.plain opened.file asked got (keeps.1 opened has) (spares opened.file (held_is handles opened has)),
    )

    link_keeps : (ahead : List Command) (tree : PlainTree) (folder : PlainEntry) (taken : Taken) → Keeps tree handles → keeping_entry tree ≡ Some folder → taken_by tree asked ≡ Some taken → (replies : List Reply)
        → AreReal tree (do_ahead handles (own_plan ahead) (command.Ln taken.path (kept_path taken.id) ∷ []) tree replies).did replies
        → Keeps (do_ahead handles (own_plan ahead) (command.Ln taken.path (kept_path taken.id) ∷ []) tree replies).next.tree (do_ahead handles (own_plan ahead) (command.Ln taken.path (kept_path taken.id) ∷ []) tree replies).next.handles
    link_keeps ahead tree folder taken keeps found is [] real = keeps
    link_keeps ahead tree folder taken keeps found is (got ∷ replies) real = by (is_refusal got) refl real
      where
        behind_it : is_refusal got ≡ false → IsReal tree (command.Ln taken.path (kept_path taken.id)) got → (tree_by tree (command.Ln taken.path (kept_path taken.id)) got).next_id < 2 ^ 32
            → Keeps (tree_by tree (command.Ln taken.path (kept_path taken.id)) got) handles × AllSpared (tree_by tree (command.Ln taken.path (kept_path taken.id)) got)
        behind_it done real_it few =
            let made_it : IsLinked tree keeps.0 folder found taken (taken_reaches tree keeps.0 asked other taken is) (tree_by tree (command.Ln taken.path (kept_path taken.id)) got) =
            subst (λ (t : PlainTree). IsLinked tree keeps.0 folder found taken (taken_reaches tree keeps.0 asked other taken is) t) (ap (λ b. if b then tree else (step_line tree (Ok (command.Ln taken.path (kept_path taken.id)))).1) (sym done))
            (link_done tree keeps.0 folder found taken (taken_reaches tree keeps.0 asked other taken is) (real_it done)) in
            let same = (taken_reaches tree keeps.0 asked other taken is).same in
            let at = (taken_reaches tree keeps.0 asked other taken is).at in (
              (
                subst (λ n. IsOwnTree (tree_by tree (command.Ln taken.path (kept_path n)) got)) same
                    (linked_by law tree keeps.0 taken.path at got (subst (λ n. (tree_by tree (command.Ln taken.path (kept_path n)) got).next_id < 2 ^ 64) (sym same) (fewer (tree_by tree (command.Ln taken.path (kept_path taken.id)) got).next_id few))
                    (taken_reaches tree keeps.0 asked other taken is).reaches),
                λ opened has. entry_by tree keeps.0.plain opened.file (command.Ln taken.path (kept_path taken.id)) got (keeps.1 opened has) (λ fine one taken_is. absurd (cc taken_is)),
              ),
              λ id held. linked_spares tree keeps.0 folder found taken (taken_reaches tree keeps.0 asked other taken is) (tree_by tree (command.Ln taken.path (kept_path taken.id)) got) made_it asked other is id,
            )

        by : (b : Bool) → is_refusal got ≡ b → AreReal tree (ahead_turn b (command.Ln taken.path (kept_path taken.id)) got tree (do_ahead handles (own_plan ahead) [] (tree_by tree (command.Ln taken.path (kept_path taken.id)) got) replies)).did (got ∷ replies) → Keeps (ahead_turn b (command.Ln taken.path (kept_path taken.id)) got tree (do_ahead handles (own_plan ahead) [] (tree_by tree (command.Ln taken.path (kept_path taken.id)) got) replies)).next.tree (ahead_turn b (command.Ln taken.path (kept_path taken.id)) got tree (do_ahead handles (own_plan ahead) [] (tree_by tree (command.Ln taken.path (kept_path taken.id)) got) replies)).next.handles
        by true refused_it all = keeps
        by false done all =
            let there = behind_it done all.0.0 all.0.1 in
            own_keeps ahead (tree_by tree (command.Ln taken.path (kept_path taken.id)) got) replies there.0 there.1 all.1

    make_keeps : (ahead : List Command) (tree : PlainTree) (taken : Taken) → Keeps tree handles → keeping_entry tree ≡ None → taken_by tree asked ≡ Some taken → (replies : List Reply)
        → AreReal tree (do_ahead handles (own_plan ahead) (command.Mkdir keeping_path ∷ command.Ln taken.path (kept_path taken.id) ∷ []) tree replies).did replies
        → Keeps (do_ahead handles (own_plan ahead) (command.Mkdir keeping_path ∷ command.Ln taken.path (kept_path taken.id) ∷ []) tree replies).next.tree
        (do_ahead handles (own_plan ahead) (command.Mkdir keeping_path ∷ command.Ln taken.path (kept_path taken.id) ∷ []) tree replies).next.handles
    make_keeps ahead tree taken keeps absent is [] real = keeps
    make_keeps ahead tree taken keeps absent is (got ∷ replies) real = by (is_refusal got) refl real
      where
        by : (b : Bool) → is_refusal got ≡ b → AreReal tree (ahead_turn b (command.Mkdir keeping_path) got tree (do_ahead handles (own_plan ahead) (command.Ln taken.path (kept_path taken.id) ∷ []) (tree_by tree (command.Mkdir keeping_path) got) replies)).did (got ∷ replies) → Keeps (ahead_turn b (command.Mkdir keeping_path) got tree (do_ahead handles (own_plan ahead) (command.Ln taken.path (kept_path taken.id) ∷ []) (tree_by tree (command.Mkdir keeping_path) got) replies)).next.tree (ahead_turn b (command.Mkdir keeping_path) got tree (do_ahead handles (own_plan ahead) (command.Ln taken.path (kept_path taken.id) ∷ []) (tree_by tree (command.Mkdir keeping_path) got) replies)).next.handles
        by true refused_it all = keeps
        by false done all =
            let it = made_aside tree keeps.0 absent (tree_by tree (command.Mkdir keeping_path) got) (ap (λ b. if b then tree else (step_line tree (Ok (command.Mkdir keeping_path))).1) done) in
            let there : Keeps (tree_by tree (command.Mkdir keeping_path) got) handles = (
              made_by law tree keeps.0 got (fewer (tree_by tree (command.Mkdir keeping_path) got).next_id all.0.1) absent,
              λ opened has. entry_by tree keeps.0.plain opened.file (command.Mkdir keeping_path) got (keeps.1 opened has) (λ fine one taken_is. absurd (cc taken_is)),
            ) in
            link_keeps ahead (tree_by tree (command.Mkdir keeping_path) got) (new_folder tree keeps.0 absent) taken there it.1 (taken_same tree (tree_by tree (command.Mkdir keeping_path) got) (new_folder tree keeps.0 absent) it.0 asked other ∙ is) replies all.1

    plain_keeps : (keeps : Keeps machine.tree handles) (ahead saves : List Command) → SavesAs machine asked saves → (replies : List Reply) → AreReal machine.tree (do_ahead handles (own_plan ahead) saves machine.tree replies).did replies
        → Keeps (do_ahead handles (own_plan ahead) saves machine.tree replies).next.tree (do_ahead handles (own_plan ahead) saves machine.tree replies).next.handles
    plain_keeps keeps ahead _ (nothing spares) replies real = own_keeps ahead machine.tree replies keeps spares real
    plain_keeps keeps ahead _ (links folder taken found is) replies real = link_keeps ahead machine.tree folder taken keeps found is replies real
    plain_keeps keeps ahead _ (makes taken absent is) replies real = make_keeps ahead machine.tree taken keeps absent is replies real

  -- ---- a line

  module _ (machine : Machine) (keeps : Keeps machine.tree machine.handles) (replies : List Reply) where
    abbrev of_plan : Plan → Turn
    of_plan plan = do_ahead machine.handles plan plan.ahead machine.tree replies

    abbrev PlanKeeps : Plan → Type 0
    PlanKeeps plan = AreReal machine.tree (of_plan plan).did replies → Keeps (of_plan plan).next.tree (of_plan plan).next.handles

    act_plain : (asked : Command) → PlanKeeps (plan_act machine 0 (act.Plain asked))
    act_plain asked = by (names_keeping asked) refl
      where
        by : (b : Bool) → names_keeping asked ≡ b → PlanKeeps (if b then refused machine.handles refusal.Private else record { ahead = saves_for machine asked; own = Some asked; says = told.Plain reply.Ok; handles = machine.handles; behind = [] })
        by true is real = keeps
        by false is real = plain_keeps machine asked is keeps (saves_for machine asked) (saves_for machine asked) (saves_as machine keeps.0 asked is) replies real

    -- a file that a path names has an entry
    named_has : (path : List (List ℕ)) (file : PlainNode) → to_open machine.tree path ≡ Ok file → HasEntry machine.tree file.id
    named_has path file is = by_private (is_private_path path) (is_keeping_path path) is
      where
        node_or : PlainNode → Option PlainNode → PlainNode
        node_or one None = one
        node_or one (Some node) = node

        found_it : (at : PlainEntry) → node_at machine.tree at.id ≡ Some file → file.folder ≡ false → HasEntry machine.tree file.id
        found_it at here kind =
            let node = found_some (is_node at.id) machine.tree.nodes file here in
            let entry = some_counted (λ (e : PlainEntry). e.id == file.id) machine.tree.entries (keeps.0.plain.files file node.0 kind) in
            let same : entry.0.id ≡ file.id = eqb-true entry.0.id file.id entry.2 in
            let number : file.id ≡ at.id = eqb-true file.id at.id node.1 in
            let named = (keeps.0.plain.named entry.0 entry.1).named in
            let one : named.0 ≡ file = ap (node_or named.0) (sym named.1 ∙ ap (λ n. node_at machine.tree n) (same ∙ number) ∙ here) in
            (entry.0, entry.1, same, sym named.2 ∙ ap (λ (n : PlainNode). n.folder) one ∙ kind)

        by_node : then_ (to_node machine.tree path) (λ node. unless node.folder refusal.IsFolder node) ≡ Ok file → HasEntry machine.tree file.id
        by_node it =
            let first = then_ok (to_node machine.tree path) (λ node. unless node.folder refusal.IsFolder node) file it in
            let kind = unless_ok first.0.folder refusal.IsFolder first.0 file first.2 in
            let second = then_ok (reached machine.tree path) (λ at. ok_or (node_at machine.tree at.id) refusal.NotFound) first.0 first.1 in
            found_it second.0 (found_ok (node_at machine.tree second.0.id) refusal.NotFound first.0 second.2 ∙ ap Some kind.1) (ap (λ (n : PlainNode). n.folder) (sym kind.1) ∙ kind.0)

        by_private : (a b : Bool) → (if a then Err refusal.Private else if b then Err refusal.Private else then_ (to_node machine.tree path) (λ node. unless node.folder refusal.IsFolder node)) ≡ Ok file → HasEntry machine.tree file.id
        by_private true b it = absurd (cc it)
        by_private false true it = absurd (cc it)
        by_private false false it = by_node it

    act_open : (session : ℕ) (path : List (List ℕ)) → PlanKeeps (plan_open machine session (to_open machine.tree path))
    act_open session path = by (to_open machine.tree path) refl
      where
        by_handle : (file : PlainNode) → to_open machine.tree path ≡ Ok file → (o : Option ℕ) → PlanKeeps (open_at machine session file.id o)
        by_handle file is None real = keeps
        by_handle file is (Some handle) real = (
          keeps.0,
          λ opened has. ⊎_elim
              (λ (new : opened ≡ record { session = session; handle = handle; file = file.id }). subst (HasEntry machine.tree) (ap (λ (o : OpenFile). o.file) (sym new)) (named_has path file is))
              (λ old. keeps.1 opened old) (put_cases handle_before (record { session = session; handle = handle; file = file.id }) machine.handles opened has),
        )

        by : (r : Result PlainNode Refusal) → to_open machine.tree path ≡ r → PlanKeeps (plan_open machine session r)
        by (Err why) is = λ real. keeps
        by (Ok file) is = by_handle file is (free_handle machine.handles session)

    act_read : (handle from long : ℕ) (o : Option ℕ) → PlanKeeps (plan_read machine handle from long o)
    act_read handle from long None = λ real. keeps
    act_read handle from long (Some id) = by (nat_lt most_bytes long)
      where
        by : (b : Bool) → PlanKeeps (if b then refused machine.handles refusal.TooLarge else only_says machine.handles (told.Plain (reply.Content (take long (drop from (bytes_of (node_at machine.tree id)))))))
        by true real = keeps
        by false real = keeps

    -- the files of handles are among those that have entries
    small_file : (opened : OpenFile) → Contains machine.handles opened → opened.file < 2 ^ 64
    small_file opened has = let it = keeps.1 opened has in subst (λ n. n < 2 ^ 64) it.2 (below_all machine.tree machine.handles keeps it.0 it.1)

    close_keeps : (test : OpenFile → Bool) (ids : List ℕ) → ((id : ℕ) → Contains ids id → id < 2 ^ 64) → PlanKeeps (closes machine (kept test machine.handles) ids)
    close_keeps test ids small real =
        behind_keeps (told.Plain reply.Ok) (kept test machine.handles) (releases_of machine.tree (kept test machine.handles) ids)
        (releases_are machine.tree (kept test machine.handles) ids small) machine.tree replies (keeps.0, λ opened has. keeps.1 opened (kept_cases test machine.handles opened has).0) real

    act_close : (session handle : ℕ) (o : Option ℕ) → file_of machine.handles session handle ≡ o → PlanKeeps (plan_close machine session handle o)
    act_close session handle None is = λ real. keeps
    act_close session handle (Some id) is = close_keeps (λ opened. not (is_handle session handle opened)) (id ∷ []) (λ one has. subst (λ n. n < 2 ^ 64) (sym (in_one id one has)) small)
      where
        small : id < 2 ^ 64
        small = let it = file_found machine.handles session handle id is in subst (λ n. n < 2 ^ 64) it.2 (small_file it.0 it.1)

    act_end : (session : ℕ) → PlanKeeps (closes machine (without_session session machine.handles) (files_of session machine.handles))
    act_end session = close_keeps (λ opened. not (opened.session == session)) (files_of session machine.handles)
        (λ id has.
        let it = map_cases (λ (o : OpenFile). o.file) (kept (λ (o : OpenFile). o.session == session) machine.handles) id has in
        subst (λ n. n < 2 ^ 64) (sym it.2) (small_file it.0 (kept_cases (λ (o : OpenFile). o.session == session) machine.handles it.0 it.1).0))

    line_keeps : (asks : Result SessionLine Refusal) → PlanKeeps (plan_of machine asks)
    line_keeps (Err why) = λ real. keeps
    line_keeps (Ok asks) = by asks.act
      where
        by : (what : Act) → PlanKeeps (plan_act machine asks.session what)
        by (act.Plain asked) = act_plain asked
        by (act.Open path) = act_open asks.session path
        by (act.HandleRead handle from long) = act_read handle from long (file_of machine.handles asks.session handle)
        by (act.Close handle) = act_close asks.session handle (file_of machine.handles asks.session handle) refl
        by act.End = act_end asks.session

-- A turn keeps both.
pub turn_keeps : StepKeepsTrees → (start : Content) (machine : Machine) (line : List ℕ) (run : List Entry) (turn : Turn) → (is : IsTurn start machine line run turn) → Keeps machine.tree machine.handles → AreReal machine.tree turn.did is.replies → Keeps turn.next.tree turn.next.handles
turn_keeps law start machine line run turn is keeps real = by is.is
  where
    by : IsTurnOf machine line is.replies turn → Keeps turn.next.tree turn.next.handles
    by (inl same) = subst (λ (t : Turn). Keeps t.next.tree t.next.handles) (sym same) (line_keeps law machine keeps is.replies (asks_of line) (subst (λ (t : Turn). AreReal machine.tree t.did is.replies) same real))
    by (inr (inl skips)) = subst (λ (t : Turn). Keeps t.next.tree t.next.handles) (sym skips.2) keeps
    by (inr (inr in_short)) =
        let same = in_short.1 in
        subst (λ (t : Turn). Keeps t.next.tree t.next.handles) (sym same) (line_keeps law machine keeps is.replies (asks_of line) (subst (λ (t : Turn). AreReal machine.tree t.did is.replies) same real))
