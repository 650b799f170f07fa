-- A file loses its only name where there was no private folder: the folder was made before, and both changes are one step.
use Rattle.std.proofs.Common.{◌≡◌, ℕ, ◌+◌, Bool, true, false, List, [], ◌∷◌, inl, inr, refl, sym, ◌∙◌, ap, subst, arith}
use Rattle.std.specs.Prelude.{Contains, ◌==◌, ◌&&◌, Option, Some, Ok, is_some, if◌then◌else◌}
use Rattle.std.specs.Str.{bytes_eq}
use Rattle.std.proofs.lemmas.Bool.{and_parts, eqb-true, true≢false}
use Rattle.std.proofs.lemmas.Slice.Eq.{bytes_eq-Decides}
use Rattle.sector_disk.specs.Lists.{Content}
use Rattle.sector_disk.specs.Space.{Space}
use Rattle.btree_node.specs.Levels.{Pair}
use Rattle.hard_links.specs.declared.place.EntryAt.{EntryAt}
use Rattle.hfs_language.specs.declared.command.Command.TheVariants as command
use Rattle.hfs_model.specs.Step.{child, front, is_private_name, private_name, root_entry, step, then_, to_rm, unless, walk, with_private, is_root}
use Rattle.hfs_language.specs.declared.refusal.Refusal.TheVariants as refusal
use Rattle.hfs_model.specs.declared.plain.PlainEntry.{PlainEntry}
use Rattle.hfs_model.specs.declared.plain.PlainTree.{PlainTree}
use Rattle.volume_header.specs.declared.header.VolumeHeader.{VolumeHeader}
use Rattle.hfs_volume.specs.Changes.{AreSorted}
use Rattle.hfs_volume.specs.Commands.{ChangesFields, IsTouched, with_counts}
use Rattle.hfs_volume.specs.Content.{VolumeState, volume_of, records_of}
use Rattle.hfs_volume.specs.Entries.{IsUserId}
use Rattle.hfs_volume.specs.Laws.{HeaderChanged, IsFolderId}
use Rattle.hfs_volume.specs.Links.{private_id}
use Rattle.hfs_volume.specs.Naming.{MakesPrivate, RemovesFile, RmDoes, private_ids}
use Rattle.hfs_volume.specs.Records.{Placed, entries_of, id_of, is_empty, is_placed_at, placed_in, record_at}
use Rattle.hfs_volume.specs.Sound.{IsSoundVolume}
use Rattle.hfs_volume.specs.TreeOf.{bytes_in, tree_in, tree_of}
use Rattle.hfs_volume.proofs.Bytes.{file_bytes_are}
use Rattle.hfs_volume.proofs.Flat.{found_some, none_or_some, some_same}
use Rattle.hfs_volume.proofs.Making.{tree_entries}
use Rattle.hfs_volume.proofs.Members.{each_of}
use Rattle.hfs_volume.proofs.Reaching.{front_is}
use Rattle.hfs_volume.proofs.Sides.{entry_is_record, is_entry_of, one_key}
use Rattle.volume_base.specs.Lists.{lists_of}
use Rattle.volume_names.specs.Losing.{Buries, Loses}
use Rattle.volume_base.specs.Losing.{IsLoss, IsOnlyName}
use Rattle.volume_names.specs.PrivateFolder.{HasOpened, OpensPrivate}
use Rattle.volume_base.specs.Standing.{HoldsTrees, IsSettled}
use Rattle.volume_base.specs.declared.volume.Volume.{Volume}
use Rattle.volume_names.proofs.Buried.{opened_with, unopened}
use Rattle.volume_names.proofs.PrivateSound.{head_is, private_new, record_same, tree_opened}
use Rattle.volume_base.proofs.Rising.{settled_sorted}

-- ---- on trees

-- what is reached doesn't hang on the private folder
pub walk_same : (tree : PlainTree) (at : PlainEntry) (path : List (List ℕ)) → walk (with_private tree) at path ≡ walk tree at path
walk_same tree at [] = refl
walk_same tree at (name ∷ path) = λ i. then_ (child tree at name) (λ next. walk_same tree next path i)

rm_same : (tree : PlainTree) (path : List (List ℕ)) → to_rm (with_private tree) path ≡ to_rm tree path
rm_same tree path = λ i. then_ (unless (is_root path) refusal.Root path) (λ named. then_ (walk_same tree root_entry named i) (λ at. unless at.folder refusal.IsFolder at))

-- nor does what is lost
loss_same : (tree : PlainTree) (path : List (List ℕ)) (at : PlainEntry) (place : EntryAt) → IsLoss tree path at place → IsLoss (with_private tree) path at place
loss_same tree path at place loss = record {
  not_own = loss.not_own;
  allowed = rm_same tree path ∙ loss.allowed;
  reaches_it = walk_same tree root_entry path ∙ loss.reaches_it;
  is_place = loss.is_place;
  not_root = loss.not_root;
  named = loss.named;
  last = loss.last;
  above = loss.above;
  reaches = walk_same tree root_entry (front path) ∙ loss.reaches;
  above_is = loss.above_is;
}

-- ---- on lists: two changes as one

module _ (law : HeaderChanged) (old mid new : VolumeState) (sound : IsSoundVolume old) (sorted : AreSorted old.catalog_pairs) (opens : OpensPrivate old mid) (at : PlainEntry) (removes : RemovesFile at mid new)
    (entry_was : Contains (entries_of (records_of old)) removes.entry)
  where
    one_id : private_ids (records_of old) ≡ 1
    one_id = ap (λ (o : Option ℕ). if is_some o then 0 else 1) opens.absent

    here : private_id (records_of mid) ≡ Some old.head.next_catalog_id
    here = private_new law old mid sound opens

    no_id : private_ids (records_of mid) ≡ 0
    no_id = ap (λ (o : Option ℕ). if is_some o then 0 else 1) here

    opened_is : removes.opened ≡ mid
    opened_is = elim removes.opens [
      | inl same ↦ same.1 ∙ ap (λ k. opened_with k mid) no_id ∙ unopened mid
      | inr made ↦ absurd (none_or_some old.head.next_catalog_id (sym made.1.absent ∙ here))
    ]

    private_is : removes.private ≡ old.head.next_catalog_id
    private_is = elim removes.opens [
      | inl same ↦ some_same removes.private old.head.next_catalog_id (sym same.0 ∙ here)
      | inr made ↦ absurd (none_or_some old.head.next_catalog_id (sym made.1.absent ∙ here))
    ]

    made : MakesPrivate removes.private old.head.modify_date (record old { head = with_counts (old.head.next_catalog_id + private_ids (records_of old)) old.head.file_count (old.head.folder_count + private_ids (records_of old)) old.head }) removes.opened
    made = subst (λ (t : ℕ × ℕ × VolumeState). MakesPrivate t.0 old.head.modify_date (record old { head = with_counts (old.head.next_catalog_id + t.1) old.head.file_count (old.head.folder_count + t.1) old.head }) t.2)
        {x = (old.head.next_catalog_id, 1, mid)} {y = (removes.private, private_ids (records_of old), removes.opened)} (λ i. (sym private_is i, sym one_id i, sym opened_is i)) opens

    pub removes_both : RemovesFile at old new
    removes_both = record {
      sorted = sorted;
      entry = removes.entry;
      is_entry = record { stands = entry_was; place = removes.is_entry.place };
      not_link = removes.not_link;
      private = removes.private;
      opened = removes.opened;
      opens = inr (private_is, made);
      number = removes.number;
      moved = removes.moved;
      moves = removes.moves;
      sorted_again = removes.sorted_again;
      filled = removes.filled;
      fills = removes.fills;
      loses = subst (λ m. ChangesFields at.parent (IsTouched m 0 1) removes.filled new) (ap (λ (h : VolumeHeader). h.modify_date) (head_is law old mid sound opens)) removes.loses;
    }

-- ---- over volumes

module _ (law : HeaderChanged) (v : Volume) (a : Space) (settled : IsSettled v a.content) (holds : HoldsTrees v a.content) (path : List (List ℕ)) (at : PlainEntry) (place : EntryAt) (loss : IsLoss (tree_of a.content) path at place)
    (only : IsOnlyName place (lists_of v a.content).catalog_pairs) (w : Volume) (b : Content) (opened : HasOpened w a.content b)
  where
    pairs_are : (volume_of a.content).catalog_pairs ≡ (lists_of v a.content).catalog_pairs
    pairs_are = ap (λ (l : VolumeState). l.catalog_pairs) settled.lists

    pairs_then : (volume_of b).catalog_pairs ≡ (lists_of w b).catalog_pairs
    pairs_then = ap (λ (l : VolumeState). l.catalog_pairs) opened.settled.lists

    from_folder : IsFolderId (entries_of (records_of (volume_of a.content))) loss.above.id
    unfolding tree_of
    from_folder =
        (front_is (records_of (volume_of a.content)) (volume_of a.content).head.next_catalog_id settled.sound.entries.ids settled.sound.entries.rooted (tree_in (volume_of a.content) (bytes_in a.content)) (tree_entries (volume_of a.content) (bytes_in a.content))
        path loss.above loss.not_root loss.not_own loss.reaches loss.above_is.0).0.folder

    not_own : ((place.parent == 2) && is_private_name place.name) ≡ false
    unfolding tree_of
    not_own =
        (λ i. (sym loss.above_is.1 i == 2) && is_private_name (sym loss.last i))
        ∙ (front_is (records_of (volume_of a.content)) (volume_of a.content).head.next_catalog_id settled.sound.entries.ids settled.sound.entries.rooted (tree_in (volume_of a.content) (bytes_in a.content)) (tree_entries (volume_of a.content) (bytes_in a.content))
        path loss.above loss.not_root loss.not_own loss.reaches loss.above_is.0).1

    not_one : place.parent ≡ 1 → ⊥
    not_one one = elim (each_of (λ (q : Placed). IsUserId (volume_of a.content).head.next_catalog_id (id_of q)) (entries_of (records_of (volume_of a.content))) settled.sound.entries.ids.each from_folder.0 from_folder.1) [
      | inl two ↦ omega (arith, two, from_folder.3, loss.above_is.1, one)
      | inr high ↦ omega (arith, high.0, from_folder.3, loss.above_is.1, one)
    ]

    not_folder : is_placed_at place.parent place.name (record { parent = 2; name = private_name; value = opened.opens.value }) ≡ false
    not_folder = by (2 == place.parent) (bytes_eq private_name place.name) refl refl
      where
        by : (p q : Bool) → (2 == place.parent) ≡ p → bytes_eq private_name place.name ≡ q → (p && q) ≡ false
        by false q is other = refl
        by true false is other = refl
        by true true is other = absurd (true≢false ((λ i. (eqb-true 2 place.parent is i == 2) && is_private_name ((bytes_eq-Decides private_name place.name).0 other i)) ∙ not_own))

    found_then : record_at (records_of (volume_of b)) place.parent place.name ≡ record_at (records_of (volume_of a.content)) place.parent place.name
    found_then = record_same law (volume_of a.content) (volume_of b) settled.sound opened.opens place.parent place.name loss.named not_one not_folder

    found_before : record_at (records_of (volume_of a.content)) place.parent place.name ≡ Some only.names.entry
    found_before = ap (λ (l : List Pair). record_at (placed_in l) place.parent place.name) pairs_are ∙ only.names.found

    -- the file stands under its only name behind the private folder, too
    pub only_then : IsOnlyName place (lists_of w b).catalog_pairs
    only_then = record {
      names = record { entry = only.names.entry; found = ap (λ (l : List Pair). record_at (placed_in l) place.parent place.name) (sym pairs_then) ∙ found_then ∙ found_before; file = only.names.file };
      not_link = only.not_link;
    }

    pub loss_then : IsLoss (tree_of b) path at place
    loss_then = subst (λ (t : PlainTree). IsLoss t path at place) (sym opened.tree) (loss_same (tree_of a.content) path at place loss)

    module _ (u : Volume) (e : Content) (lost : IsSettled u e × (tree_of e ≡ (step (tree_of b) (command.Rm path)).1) × Buries at b e) (rm : RmDoes) where
      there : Contains (records_of (volume_of a.content)) only.names.entry × (is_placed_at place.parent place.name only.names.entry ≡ true)
      there = found_some (is_placed_at place.parent place.name) (records_of (volume_of a.content)) only.names.entry found_before

      then_there : Contains (records_of (volume_of b)) only.names.entry
      then_there = (found_some (is_placed_at place.parent place.name) (records_of (volume_of b)) only.names.entry (found_then ∙ found_before)).0

      parent_is : only.names.entry.parent ≡ place.parent
      parent_is = eqb-true only.names.entry.parent place.parent (and_parts (only.names.entry.parent == place.parent) (bytes_eq only.names.entry.name place.name) there.1).0

      name_is : only.names.entry.name ≡ place.name
      name_is = (bytes_eq-Decides only.names.entry.name place.name).0 (and_parts (only.names.entry.parent == place.parent) (bytes_eq only.names.entry.name place.name) there.1).1

      it_is : lost.2.removes.entry ≡ only.names.entry
      it_is = one_key (records_of (volume_of b)) lost.2.removes.sorted lost.2.removes.entry only.names.entry (entry_is_record (records_of (volume_of b)) lost.2.removes.entry lost.2.removes.is_entry.stands) then_there
          (lost.2.removes.is_entry.place.0 ∙ loss.is_place.0 ∙ sym parent_is) (lost.2.removes.is_entry.place.1 ∙ loss.is_place.1 ∙ sym name_is)

      entry_was : Contains (entries_of (records_of (volume_of a.content))) lost.2.removes.entry
      entry_was = subst (λ (p : Placed). Contains (entries_of (records_of (volume_of a.content))) p) (sym it_is) (is_entry_of (records_of (volume_of a.content)) only.names.entry there.0 (ap is_empty name_is ∙ loss.named))

      both : RemovesFile at (volume_of a.content) (volume_of e)
      both = removes_both law (volume_of a.content) (volume_of b) (volume_of e) settled.sound (settled_sorted v a.content holds settled) opened.opens at lost.2.removes entry_was

      allowed : to_rm (tree_in (volume_of a.content) (bytes_in a.content)) path ≡ Ok at
      unfolding tree_of
      allowed = loss.allowed

      tree_is : tree_of a.content ≡ tree_in (volume_of a.content) (bytes_in a.content)
      unfolding tree_of
      tree_is = refl

      -- the tree in between, with the bytes from before
      tree_between : tree_in (volume_of b) (bytes_in a.content) ≡ with_private (tree_in (volume_of a.content) (bytes_in a.content))
      tree_between = tree_opened law (volume_of a.content) (volume_of b) settled.sound opened.opens (bytes_in a.content) (file_bytes_are a.content).by_fork

      -- the private folder by itself is no other step
      steps_same : (step (with_private (tree_in (volume_of a.content) (bytes_in a.content))) (command.Rm path)).1 ≡ (step (tree_in (volume_of a.content) (bytes_in a.content)) (command.Rm path)).1
      steps_same =
          sym ((rm path at (volume_of b) (volume_of e) (bytes_in a.content) (file_bytes_are a.content) opened.settled.sound
          (ap (λ (t : PlainTree). to_rm t path) tree_between ∙ rm_same (tree_in (volume_of a.content) (bytes_in a.content)) path ∙ allowed) (inl lost.2.removes)).1
          ∙ ap (λ (t : PlainTree). (step t (command.Rm path)).1) tree_between)
          ∙ (rm path at (volume_of a.content) (volume_of e) (bytes_in a.content) (file_bytes_are a.content) settled.sound allowed (inl both)).1

      pub lost_both : IsSettled u e × (tree_of e ≡ (step (tree_of a.content) (command.Rm path)).1) × Loses at a.content e
      lost_both = (
        lost.0,
        lost.1 ∙ ap (λ (t : PlainTree). (step t (command.Rm path)).1) (opened.tree ∙ ap with_private tree_is) ∙ steps_same ∙ sym (ap (λ (t : PlainTree). (step t (command.Rm path)).1) tree_is),
        record { opened = volume_of b; opens = inr opened.opens; sound = opened.settled.sound; there = lost.2.there; removes = lost.2.removes },
      )
