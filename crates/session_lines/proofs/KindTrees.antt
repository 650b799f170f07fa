-- The tree behind a command on a link or a resource fork: what it does to the entries, and that the keeping folder stays the sessions' own.
use Rattle.std.proofs.Common.{◌≡◌, ◌⊎◌, ◌<◌, ℕ, Bool, true, false, List, [], ◌∷◌, inl, inr, refl, sym, ◌∙◌, ap, subst}
use Rattle.std.specs.Prelude.{Contains, drop, take, IsTrue, ◌^◌, ◌||◌, not, Option, Some, None, Result, Ok, Err, if◌then◌else◌}
use Rattle.std.proofs.lemmas.Bool.{true≢false}
use Rattle.jnl_format.specs.Recovery.{Content}
use Rattle.hfs_language.specs.Language.{command_of}
use Rattle.hfs_language.specs.declared.command.Command.{Command}
use Rattle.hfs_language.specs.declared.command.Command.TheVariants as command
use Rattle.hfs_language.specs.declared.refusal.Refusal.{Refusal}
use Rattle.hfs_language.specs.declared.refusal.Refusal.TheVariants as refusal
use Rattle.hfs_language.specs.declared.reply.Reply.{Reply}
use Rattle.hfs_language.specs.declared.reply.Reply.TheVariants as reply
use Rattle.hfs_model.specs.declared.kinds.KindEdit.{KindEdit}
use Rattle.hfs_model.specs.declared.kinds.KindEdit.TheVariants as edit
use Rattle.hfs_model.specs.declared.plain.PlainEntry.{PlainEntry}
use Rattle.hfs_model.specs.declared.plain.PlainNode.{PlainNode}
use Rattle.hfs_model.specs.declared.plain.PlainTree.{PlainTree}
use Rattle.hfs_model.specs.Kinds.{kind_step, kind_told, made_link, path_of_edit, resource_written, to_symlink}
use Rattle.hfs_model.specs.Plain.{entry_before}
use Rattle.hfs_model.specs.Step.{Place, is_private_path, is_refusal, on, to_make, to_read, to_write, unless}
use Rattle.hfs_model.specs.Targets.{is_target}
use Rattle.hfs_volume.specs.Books.{SoundHasTree}
use Rattle.hfs_volume.specs.TreeOf.{tree_of}
use Rattle.hfs_volume.specs.declared.asked.Asked.{Asked}
use Rattle.hfs_volume.specs.declared.asked.Asked.TheVariants.{Kind, Plain}
use Rattle.hfs_volume.proofs.Members.{at_front}
use Rattle.hfs_volume.proofs.Reaching.{then_ok, unless_ok}
use Rattle.volume_runs.specs.Run.{Entry, IsKindAnswered, IsKindServed, IsServed, IsServedBy, KindLacksResource, LacksMemory, spelled, wanted_by, wanted_in}
use Rattle.open_files.specs.Keeping.{is_keeping_path, names_keeping}
use Rattle.open_files.specs.declared.act.OpenFile.{OpenFile}
use Rattle.session_lines.specs.KindTurns.{kind_tree_by}
use Rattle.session_lines.specs.Owning.{HasEntry, HaveEntries, IsOwnTree}
use Rattle.session_lines.proofs.Kept.{Keeps}
use Rattle.session_lines.proofs.Owned.{AllCame, given_drawn, given_root, keeps_own, make_place, on_came, other_keeps, put_came, same_came}
use Rattle.session_lines.proofs.Sorting.{put_still}

-- ---- entries

module _ (tree : PlainTree) where
  -- a link is made where its path names
  link_place : (path : List (List ℕ)) (value : List ℕ) (at : Place) → to_symlink tree path value ≡ Ok at → to_make tree path ≡ Ok at
  link_place path value at is =
      let first = then_ok (to_make tree path) (unless (not (is_target value)) refusal.BadTarget) at is in
      first.1 ∙ ap (λ (p : Place). Ok p) (unless_ok (not (is_target value)) refusal.BadTarget first.0 at first.2).1

  written_entries : (file : PlainNode) (from : ℕ) (value : List ℕ) → (resource_written file from value tree).entries ≡ tree.entries
  written_entries file from [] = refl
  written_entries file from (byte ∷ value) = refl

  abbrev link_entry : Place → PlainEntry
  link_entry at = record { parent = at.folder; name = at.name; folder = false; id = tree.next_id }

  -- An entry behind a command stood there before it, or stands where its path names.
  kind_came : (asked : KindEdit) → AllCame tree (path_of_edit asked ∷ []) (kind_step tree asked).1
  kind_came (edit.Symlink path value) = on_came tree (path ∷ []) (to_symlink tree path value) (λ at. (reply.Ok, made_link at value tree))
      (λ at is entry stands. let place = make_place tree path at (link_place path value at is) in put_came tree path (path ∷ []) (at_front path []) place.0 at place.1 (link_entry at) refl refl tree.entries (λ old there. there) entry stands)
  kind_came (edit.ResourceWrite path from value) = on_came tree (path ∷ []) (to_write tree path from value) (λ file. (reply.Ok, resource_written file from value tree))
      (λ file is. same_came tree (path ∷ []) (resource_written file from value tree) (written_entries file from value))
  kind_came (edit.ResourceRead path from long) = on_came tree (path ∷ []) (to_read tree path long) _ (λ file is entry stands. inl stands)

  told_came : (asked : KindEdit) → AllCame tree (path_of_edit asked ∷ []) (kind_told tree asked).1
  told_came asked = by (is_private_path (path_of_edit asked))
    where
      by : (b : Bool) → AllCame tree (path_of_edit asked ∷ []) (if b then (reply.No refusal.Private, tree) else kind_step tree asked).1
      by true = λ entry stands. inl stands
      by false = kind_came asked

  by_came : (asked : KindEdit) (got : Reply) → AllCame tree (path_of_edit asked ∷ []) (kind_tree_by tree asked got)
  by_came asked got = by (is_refusal got)
    where
      by : (b : Bool) → AllCame tree (path_of_edit asked ∷ []) (if b then tree else (kind_told tree asked).1)
      by true = λ entry stands. inl stands
      by false = told_came asked

  -- and each entry stays
  module _ (entry : PlainEntry) (stands : Contains tree.entries entry) where
    same_stays : (new : PlainTree) → new.entries ≡ tree.entries → Contains new.entries entry
    same_stays new same = subst (λ (l : List PlainEntry). Contains l entry) (sym same) stands

    link_stays : (value : List ℕ) (r : Result Place Refusal) → Contains (on tree r (λ at. (reply.Ok, made_link at value tree))).1.entries entry
    link_stays value (Ok at) = put_still entry_before (link_entry at) tree.entries entry stands
    link_stays value (Err why) = stands

    write_stays : (from : ℕ) (value : List ℕ) (r : Result PlainNode Refusal) → Contains (on tree r (λ file. (reply.Ok, resource_written file from value tree))).1.entries entry
    write_stays from value (Ok file) = same_stays (resource_written file from value tree) (written_entries file from value)
    write_stays from value (Err why) = stands

    read_stays : (tell : PlainNode → Reply) (r : Result PlainNode Refusal) → Contains (on tree r (λ file. (tell file, tree))).1.entries entry
    read_stays tell (Ok file) = stands
    read_stays tell (Err why) = stands

    kind_stays : (asked : KindEdit) → Contains (kind_step tree asked).1.entries entry
    kind_stays (edit.Symlink path value) = link_stays value (to_symlink tree path value)
    kind_stays (edit.ResourceWrite path from value) = write_stays from value (to_write tree path from value)
    kind_stays (edit.ResourceRead path from long) = read_stays (λ file. reply.Content (take long (drop from file.resource))) (to_read tree path long)

    told_stays : (asked : KindEdit) → Contains (kind_told tree asked).1.entries entry
    told_stays asked = by (is_private_path (path_of_edit asked))
      where
        by : (b : Bool) → Contains (if b then (reply.No refusal.Private, tree) else kind_step tree asked).1.entries entry
        by true = stands
        by false = kind_stays asked

    by_stays : (asked : KindEdit) (got : Reply) → Contains (kind_tree_by tree asked got).entries entry
    by_stays asked got = by (is_refusal got)
      where
        by : (b : Bool) → Contains (if b then tree else (kind_told tree asked).1).entries entry
        by true = stands
        by false = told_stays asked

-- ---- an entry of a run

abbrev edit_or : KindEdit → Option Asked → KindEdit
edit_or other None = other
edit_or other (Some (Plain asked)) = other
edit_or other (Some (Kind asked)) = asked

kindly : (capacity : ℕ) (own : Option Asked) (line : List ℕ) (asked : KindEdit) (entry : Entry) → wanted_in own line ≡ Some (Kind asked) → IsServedBy capacity own entry → IsKindServed capacity asked entry
kindly capacity None line asked entry is served = absurd (by (command_of line) is)
  where
    by : (r : Result Command Refusal) → spelled r ≡ Some (Kind asked) → ⊥
    by (Ok other) same = cc same
    by (Err why) same = cc same
kindly capacity (Some (Plain other)) line asked entry is served = absurd (let no : Some (Plain other) ≡ Some (Kind asked) = is in cc no)
kindly capacity (Some (Kind other)) line asked entry is served = subst (λ (e : KindEdit). IsKindServed capacity e entry) (ap (edit_or asked) is) served

module _ (capacity : ℕ) (entry : Entry) (asked : KindEdit) (wanted : wanted_by entry ≡ Some (Kind asked)) where
  answered_tree : IsKindAnswered capacity asked entry → (b : Bool) → is_refusal entry.reply ≡ b → tree_of entry.after ≡ (if b then tree_of entry.before else (kind_told (tree_of entry.before) asked).1)
  answered_tree it true refused = ap (λ (c : Content). tree_of c) (it.refused (subst IsTrue (sym (ap (λ (r : Reply). is_refusal r) (sym it.reply_is) ∙ refused)) refl))
  answered_tree it false done = it.tree

  short_tree : (why : Refusal) → entry.reply ≡ reply.No why → entry.after ≡ entry.before → tree_of entry.after ≡ kind_tree_by (tree_of entry.before) asked entry.reply
  short_tree why told same = ap (λ (c : Content). tree_of c) same ∙ ap (λ (r : Reply). kind_tree_by (tree_of entry.before) asked r) (sym told)

  -- What is missing for a command leaves the tree as it was, and so does what refuses it.
  pub kind_tree : IsServed capacity entry → tree_of entry.after ≡ kind_tree_by (tree_of entry.before) asked entry.reply
  kind_tree served = go (kindly capacity entry.own entry.line asked entry wanted served.is)
    where
      go : IsKindAnswered capacity asked entry ⊎ (KindLacksResource capacity asked entry ⊎ LacksMemory capacity entry) → tree_of entry.after ≡ kind_tree_by (tree_of entry.before) asked entry.reply
      go (inl answered) = answered_tree answered (is_refusal entry.reply) refl
      go (inr (inl lacks)) = short_tree lacks.why lacks.reply_is lacks.same
      go (inr (inr lacks)) = short_tree refusal.OutOfMemory lacks.reply_is lacks.same

  -- The keeping folder stays the sessions' own, and each file that is open has its entry.
  pub kind_keeps : SoundHasTree → IsServed capacity entry → is_keeping_path (path_of_edit asked) ≡ false → (tree_of entry.after).next_id < 2 ^ 64 → (handles : List OpenFile) → Keeps (tree_of entry.before) handles → Keeps (tree_of entry.after) handles
  kind_keeps sound served other few handles keeps =
      let old = tree_of entry.before in
      let new = tree_of entry.after in
      let given = sound entry.after served.sound_after in
      let leads : new ≡ kind_tree_by old asked entry.reply = kind_tree served in
      let path = path_of_edit asked in
      let none : names_keeping (command.Create path) ≡ false = ap (λ b. b || false) other in
      let came : AllCame old (path ∷ []) new = subst (λ (t : PlainTree). AllCame old (path ∷ []) t) (sym leads) (by_came old asked entry.reply) in (
        keeps_own old new keeps.0 (other_keeps old new keeps.0 given.plain (given_drawn new given) (given_root new given) few (command.Create path) none came),
        λ opened has.
            let it = keeps.1 opened has in
            (it.0, subst (λ (t : PlainTree). Contains t.entries it.0) (sym leads) (by_stays old it.0 it.1 asked entry.reply), it.2, it.3),
      )
