-- `write` of bytes and `trunc` to a larger size: what they answer, and what watchers are told.
use Rattle.std.proofs.Common.{◌≡◌, ◌≢◌, ℕ, inl, Bool, true, false, List, [], ◌∷◌, length, refl, sym, ◌∙◌, ap, subst, arith}
use Rattle.std.specs.Prelude.{◌||◌, nat_lt, is_some, Option, Some, None, Result, Ok, Err, if◌then◌else◌}
use Rattle.std.proofs.lemmas.Bool.{le-ltb, ltb-true, true≢false}
use Rattle.jnl_format.specs.Recovery.{Content}
use Rattle.volume_header.specs.Refusal.{is_locked}
use Rattle.hfs_language.specs.declared.command.Command.{Command}
use Rattle.hfs_language.specs.declared.command.Command.TheVariants as command
use Rattle.hfs_language.specs.declared.refusal.Refusal.{Refusal}
use Rattle.hfs_language.specs.declared.refusal.Refusal.TheVariants as refusal
use Rattle.hfs_language.specs.declared.reply.Change.{Change}
use Rattle.hfs_language.specs.declared.reply.ChangeKind.TheVariants as change
use Rattle.hfs_language.specs.declared.reply.Reply.{Reply}
use Rattle.hfs_language.specs.declared.reply.Reply.TheVariants as reply
use Rattle.hfs_model.specs.Step.{is_private_path, only_reads, reached, step_line, to_file, to_node, unless}
use Rattle.hfs_model.specs.declared.plain.PlainEntry.{PlainEntry}
use Rattle.hfs_model.specs.declared.plain.PlainNode.{PlainNode}
use Rattle.hfs_model.specs.declared.plain.PlainTree.{PlainTree}
use Rattle.hfs_volume.specs.Content.{VolumeState, volume_of}
use Rattle.hfs_volume.specs.Data.{PutsInFork, PutsInValues}
use Rattle.hfs_volume.specs.Forks.{data_kind}
use Rattle.hfs_volume.specs.Reclaim.{SameValues}
use Rattle.hfs_volume.specs.Sound.{IsSound}
use Rattle.hfs_volume.specs.TreeOf.{tree_of}
use Rattle.hfs_volume.specs.Weight.{Data, changes_nothing, data_of, grown_data, needs_cut, written_data}
use Rattle.hfs_volume.proofs.Reaching.{then_ok, unless_ok}
use Rattle.volume_runs.specs.Run.{DoesLine, reply_to, shrunk_by}
use Rattle.volume_runs.specs.Told.{changes_of, of_entry}
use Rattle.volume_space.specs.Writing.{HasData}
use Rattle.volume_step.specs.Steps.{Affords, KeepsJournal, StepsTo}
use Rattle.volume_step.specs.declared.outcome.Outcome.TheVariants as outcome
use Rattle.volume_step.proofs.Done.{line_free, line_ok, or_none, reached_node}
use Rattle.volume_step.proofs.Idle.{works_unread}
use Rattle.volume_step.proofs.Served.{Comes, changes_told, reply_step, steps}
use Rattle.volume_space.proofs.Rewritten.{flags_are, journal_is, numbers_are, trees_stay, values_stay}

-- ---- a command that put data

-- a command that puts data leaves every value its blocks
values_put : (tree : PlainTree) (asked : Command) (old new : VolumeState) (put : Data) → data_of tree asked ≡ Some put → SameValues old new → PutsInValues tree asked old new
values_put tree (command.Mkdir p) old new put is same = absurd (let no : None ≡ Some put = is in cc no)
values_put tree (command.Create p) old new put is same = absurd (let no : None ≡ Some put = is in cc no)
values_put tree (command.Rm p) old new put is same = absurd (let no : None ≡ Some put = is in cc no)
values_put tree (command.Rmdir p) old new put is same = absurd (let no : None ≡ Some put = is in cc no)
values_put tree (command.Mv p q) old new put is same = absurd (let no : None ≡ Some put = is in cc no)
values_put tree (command.Ln p q) old new put is same = absurd (let no : None ≡ Some put = is in cc no)
values_put tree (command.Write p n v) old new put is same = same
values_put tree (command.Trunc p n) old new put is same = same
values_put tree (command.Read p n m) old new put is same = absurd (let no : None ≡ Some put = is in cc no)
values_put tree (command.Ls p) old new put is same = absurd (let no : None ≡ Some put = is in cc no)
values_put tree (command.Stat p) old new put is same = absurd (let no : None ≡ Some put = is in cc no)
values_put tree (command.Chmod p m) old new put is same = absurd (let no : None ≡ Some put = is in cc no)
values_put tree (command.SetAttr p n v) old new put is same = absurd (let no : None ≡ Some put = is in cc no)
values_put tree (command.GetAttr p n) old new put is same = absurd (let no : None ≡ Some put = is in cc no)
values_put tree (command.DelAttr p n) old new put is same = absurd (let no : None ≡ Some put = is in cc no)
values_put tree (command.LsAttr p) old new put is same = absurd (let no : None ≡ Some put = is in cc no)
values_put tree (command.At n) old new put is same = absurd (let no : None ≡ Some put = is in cc no)
values_put tree command.Df old new put is same = absurd (let no : None ≡ Some put = is in cc no)
values_put tree command.Sync old new put is same = absurd (let no : None ≡ Some put = is in cc no)

module _ (capacity number : ℕ) (asked : Command) (before after : Content) (sound_before : IsSound before) (sound_after : IsSound after) (affords : Affords capacity asked before) (said : Reply) (works : (only_reads asked || changes_nothing (tree_of before) asked) ≡ false)
    (reply_is : said ≡ (step_line (tree_of before) (Ok asked)).0) (tree : tree_of after ≡ (step_line (tree_of before) (Ok asked)).1) (lists : said ≡ reply.Ok → HasData asked before after)
  where
    fine : said ≡ reply.Ok
    fine = reply_is ∙ line_ok (tree_of before) asked (works_unread (tree_of before) asked works) affords.no_refusal

    comes : Comes capacity asked said before after
    comes =
        let it = lists fine in
        record {
          is = λ own line spells. record {
            sound_before = sound_before;
            sound_after = sound_after;
            is = inl (record {
              reply_is = reply_is ∙ sym (reply_step capacity before asked (works_unread (tree_of before) asked works)) ∙ sym (ap (reply_to capacity before) spells);
              tree = tree ∙ sym (ap (λ r. (step_line (tree_of before) r).1) spells);
              does = subst (λ r. DoesLine capacity r before after) (sym spells) (
                λ refused_it. absurd (true≢false (sym refused_it ∙ affords.no_refusal)),
                λ not_refused. record {
                  load = affords.load;
                  affords = affords.affords;
                  no_surplus = ap (needs_cut (volume_of before)) it.is_asked ∙ it.no_cut;
                  grows = trees_stay it.put.id data_kind _ _ it.fresh (volume_of before) (volume_of after) it.rewrites it.user;
                  forks = subst (λ d. PutsInFork d (volume_of before) (volume_of after)) (sym it.is_asked) it.forks;
                  values = values_put (tree_of before) asked (volume_of before) (volume_of after) it.put it.is_asked (values_stay it.put.id data_kind _ _ it.fresh (volume_of before) (volume_of after) it.rewrites it.user);
                  reads = λ rests. absurd (true≢false (sym rests ∙ works));
                },
              );
            });
          };
        }

    pub put_steps : (changes : List Change) → changes ≡ changes_of number (tree_of before) asked → StepsTo (outcome.Answered said changes) capacity number asked before after
    put_steps changes told = steps capacity number asked said before after comes changes (told ∙ ap (λ r. changes_told number (tree_of before) asked r) (sym fine))

    pub put_place : KeepsJournal before after
    unfolding volume_of
    put_place =
        let it = lists fine in
        record {
          journal = journal_is it.put.id data_kind _ _ it.fresh (volume_of before) (volume_of after) it.rewrites it.user;
          locked = ap is_locked (flags_are it.put.id data_kind _ _ it.fresh (volume_of before) (volume_of after) it.rewrites it.user);
          heading = numbers_are it.put.id data_kind _ _ it.fresh (volume_of before) (volume_of after) it.rewrites it.user;
        }

-- ---- what watchers are told

-- the file of data is reached
reached_file : (tree : PlainTree) (path : List (List ℕ)) (file : PlainNode) → to_file tree path ≡ Ok file → (entry : PlainEntry) × (reached tree path ≡ Ok entry)
reached_file tree path file is =
    let own = then_ok (to_node tree path) (λ n. unless n.folder refusal.IsFolder n) file is in
    reached_node tree path file (own.1 ∙ ap Ok (unless_ok own.0.folder refusal.IsFolder own.0 file own.2).1)

written_file : (from long : ℕ) (r : Result PlainNode Refusal) (put : Data) → written_data from long r ≡ Some put → (file : PlainNode) × (r ≡ Ok file)
written_file from long (Ok file) put is = (file, refl)
written_file from long (Err why) put is = absurd (let no : None ≡ Some put = is in cc no)

grown_file : (size : ℕ) (r : Result PlainNode Refusal) (put : Data) → grown_data size r ≡ Some put → (file : PlainNode) × (r ≡ Ok file)
grown_file size (Ok file) put is = (file, refl)
grown_file size (Err why) put is = absurd (let no : None ≡ Some put = is in cc no)

-- where it puts data it shrinks no file
pub grown_shrinks_none : (tree : PlainTree) (path : List (List ℕ)) (size : ℕ) → is_some (data_of tree (command.Trunc path size)) ≡ true → shrunk_by tree (Ok (command.Trunc path size)) ≡ None
grown_shrinks_none tree path size puts = by (to_file tree path) puts
  where
    shrunk_to : Result PlainNode Refusal → Option ℕ
    shrunk_to (Ok file) = if nat_lt size (length file.bytes) then Some file.id else None
    shrunk_to (Err why) = None

    grown : PlainNode → Data
    grown file = record { id = file.id; old_size = length file.bytes; new_size = size; from = length file.bytes; end = size }

    longer : (file : PlainNode) (b : Bool) → nat_lt (length file.bytes) size ≡ b → is_some {T = Data} (if b then Some (grown file) else None) ≡ true → shrunk_to (Ok file) ≡ None
    longer file true is some = ap (λ c. if c then Some file.id else None) (le-ltb size (length file.bytes) (omega (arith, ltb-true (length file.bytes) size is)))
    longer file false is some = absurd (true≢false (sym some))

    by : (r : Result PlainNode Refusal) → is_some (grown_data size r) ≡ true → shrunk_to r ≡ None
    by (Ok file) some = longer file (nat_lt (length file.bytes) size) refl some
    by (Err why) some = refl

-- a value of some bytes tells of its file
value_told : (number : ℕ) (tree : PlainTree) (path : List (List ℕ)) (from : ℕ) (value : List ℕ) → length value ≢ 0 → changes_of number tree (command.Write path from value) ≡ of_entry number change.Content (reached tree path)
value_told number tree path from [] some = absurd (some refl)
value_told number tree path from (byte ∷ value) some = refl

pub write_told : (number : ℕ) (tree : PlainTree) (path : List (List ℕ)) (from : ℕ) (value : List ℕ) (put : Data) → data_of tree (command.Write path from value) ≡ Some put → length value ≢ 0 → is_private_path path ≡ false
    → (changes : List Change) → (is_private_path path ≡ false → (entry : PlainEntry) → reached tree path ≡ Ok entry → changes ≡ of_entry number change.Content (Ok entry)) → changes ≡ changes_of number tree (command.Write path from value)
write_told number tree path from value put is some free changes told =
    let file = written_file from (length value) (to_file tree path) put is in
    let at = reached_file tree path file.0 file.1 in
    told free at.0 at.1 ∙ ap (of_entry number change.Content) (sym at.1) ∙ sym (value_told number tree path from value some)

pub size_told : (number : ℕ) (tree : PlainTree) (path : List (List ℕ)) (size : ℕ) (put : Data) → data_of tree (command.Trunc path size) ≡ Some put → is_private_path path ≡ false
    → (changes : List Change) → (is_private_path path ≡ false → (entry : PlainEntry) → reached tree path ≡ Ok entry → changes ≡ of_entry number change.Content (Ok entry)) → changes ≡ changes_of number tree (command.Trunc path size)
size_told number tree path size put is free changes told =
    let file = grown_file size (to_file tree path) put is in
    let at = reached_file tree path file.0 file.1 in
    told free at.0 at.1 ∙ ap (of_entry number change.Content) (sym at.1)

-- ---- `trunc` to a larger size

module _ (capacity number : ℕ) (path : List (List ℕ)) (size : ℕ) (before after : Content) (sound_before : IsSound before) (sound_after : IsSound after) (affords : Affords capacity (command.Trunc path size) before) (said : Reply)
    (reply_is : said ≡ (step_line (tree_of before) (Ok (command.Trunc path size))).0) (tree : tree_of after ≡ (step_line (tree_of before) (Ok (command.Trunc path size))).1) (lists : said ≡ reply.Ok → HasData (command.Trunc path size) before after)
  where
    pub size_steps : (changes : List Change) → (is_private_path path ≡ false → (entry : PlainEntry) → reached (tree_of before) path ≡ Ok entry → changes ≡ of_entry number change.Content (Ok entry))
        → StepsTo (outcome.Answered said changes) capacity number (command.Trunc path size) before after
    size_steps changes told =
        let it = lists (fine capacity number (command.Trunc path size) before after sound_before sound_after affords said refl reply_is tree lists) in
        put_steps capacity number (command.Trunc path size) before after sound_before sound_after affords said refl reply_is tree lists changes
        (size_told number (tree_of before) path size it.put it.is_asked (or_none (is_private_path path) (line_free (tree_of before) (command.Trunc path size) affords.no_refusal)) changes told)

    pub size_place : KeepsJournal before after
    size_place = put_place capacity number (command.Trunc path size) before after sound_before sound_after affords said refl reply_is tree lists

-- ---- `write` of a byte or more

module _ (capacity number : ℕ) (path : List (List ℕ)) (from : ℕ) (value : List ℕ) (before after : Content) (sound_before : IsSound before) (sound_after : IsSound after) (affords : Affords capacity (command.Write path from value) before) (said : Reply)
    (reply_is : said ≡ (step_line (tree_of before) (Ok (command.Write path from value))).0) (tree : tree_of after ≡ (step_line (tree_of before) (Ok (command.Write path from value))).1) (lists : said ≡ reply.Ok → HasData (command.Write path from value) before after)
  where
    pub value_steps : length value ≢ 0 → (changes : List Change) → (is_private_path path ≡ false → (entry : PlainEntry) → reached (tree_of before) path ≡ Ok entry → changes ≡ of_entry number change.Content (Ok entry))
        → StepsTo (outcome.Answered said changes) capacity number (command.Write path from value) before after
    value_steps some changes told =
        let it = lists (fine capacity number (command.Write path from value) before after sound_before sound_after affords said refl reply_is tree lists) in
        put_steps capacity number (command.Write path from value) before after sound_before sound_after affords said refl reply_is tree lists changes
        (write_told number (tree_of before) path from value it.put it.is_asked some (or_none (is_private_path path) (line_free (tree_of before) (command.Write path from value) affords.no_refusal)) changes told)

    pub value_place : KeepsJournal before after
    value_place = put_place capacity number (command.Write path from value) before after sound_before sound_after affords said refl reply_is tree lists
