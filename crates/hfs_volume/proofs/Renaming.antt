-- `mv` on the lists of a sound volume.
use Rattle.std.proofs.Common.{◌≡◌, ℕ, ◌+◌, ◌≤◌, Bool, true, false, List, inl, inr, refl, sym, ◌∙◌, ap, subst, arith}
use Rattle.std.proofs.lemmas.Bool.{true≢false}
use Rattle.std.specs.Prelude.{Contains, ◌==◌, None, Ok, if◌then◌else◌}
use Rattle.hfs_language.specs.declared.reply.Reply.TheVariants as reply
use Rattle.hfs_model.specs.Step.{Place, on, last_name, is_below, to_mv, is_same_file, removed, moved, vacated, moved_over}
use Rattle.hfs_model.specs.Plain.{with_changed, with_entry, without_entry}
use Rattle.hfs_volume.specs.Records.{Placed, entries_of, id_of, is_empty, is_folder, special_of, valence_in}
use Rattle.hfs_volume.specs.Entries.{LiesIn, count_in}
use Rattle.hfs_volume.specs.Links.{is_shared_file}
use Rattle.hfs_volume.specs.Content.{VolumeState, records_of}
use Rattle.hfs_volume.specs.Sound.{IsSoundVolume}
use Rattle.hfs_volume.specs.TreeOf.{tree_in, id_or_0, shared_file, BytesOf}
use Rattle.hfs_volume.specs.Laws.{IsShaped, MayMove, IsFolderId, one_if}
use Rattle.hfs_volume.specs.Naming.{MovesName, MvDoes}
use Rattle.hfs_model.specs.declared.plain.PlainEntry.{PlainEntry}
use Rattle.hfs_volume.proofs.Fields.{touched_views, marked_views, dated, redated, valence_now, BytesBy}
use Rattle.hfs_volume.proofs.Hiding.{hidden_is_computed, same_entry, one_there}
use Rattle.hfs_volume.proofs.Seeing.{same_number}
use Rattle.hfs_volume.proofs.Reaching.{folder_no_link}
use Rattle.hfs_volume.proofs.Making.{tree_entries}
use Rattle.hfs_volume.proofs.Finishing.{sound_is_both}
use Rattle.hfs_volume.proofs.Sides.{entry_cases, still_entry, the_entry}
use Rattle.hfs_volume.proofs.Pathways.{lies_below}
use Rattle.hfs_volume.proofs.Moving.{old_side, new_side, moved_shaped}
use Rattle.hfs_volume.proofs.MovingSeen.{is_unshared, tree_moved}
use Rattle.hfs_volume.proofs.MovingOver.{seen_is_outside}
use Rattle.hfs_volume.proofs.Accounts.{no_debts, opened, closed, moves}
use Rattle.hfs_volume.proofs.Refielding.{mark_account, fields_tree, id_is, there_was, folder_is, moment_is, recount_account}
use Rattle.hfs_volume.proofs.Named.{IsSeenName, IsPair, named_entry, to_mv_is}
use Rattle.hfs_volume.proofs.Folders.{folder_still, parent_folder, top_is_folder}
use Rattle.hfs_volume.proofs.Fitting.{not_private}
use Rattle.hfs_volume.proofs.Vacating.{vacates, moves_later}
use Rattle.hfs_volume.proofs.RemovingNames.{rm_law}

module _ (from to : List (List ℕ)) (at : PlainEntry) (goal : Place) (old new : VolumeState) (bytes_of : BytesOf) (by_fork : BytesBy bytes_of) (sound : IsSoundVolume old) (is : IsPair old bytes_of sound from to at goal) (not_below : is_below to from ≡ false)
    (named : is_empty (last_name to) ≡ false) (does : MovesName at goal old new) where
  abbrev was : List Placed
  was = records_of old

  abbrev entry : Placed
  entry = does.entry

  abbrev it : Placed
  it = record does.entry { parent = goal.folder; name = goal.name }

  abbrev moment : ℕ
  moment = old.head.modify_date

  abbrev next_id : ℕ
  next_id = old.head.next_catalog_id

  shaped : IsShaped old
  shaped = ((sound_is_both old).0 sound).0

  facts : IsSeenName old bytes_of sound at entry
  facts = named_entry old bytes_of sound at entry does.sorted is.seen does.stands does.is_entry.0 does.is_entry.1

  not_inside : LiesIn (entries_of was) (id_of entry) goal.folder → ⊥
  not_inside lies = by_kind (is_folder entry.value) refl
    where
      by_kind : (b : Bool) → is_folder entry.value ≡ b → ⊥
      by_kind true is_a =
          let at_folder : at.folder ≡ true = ap (λ (e : PlainEntry). e.folder) (sym facts.plain) ∙ is_a in
          let same : id_of entry ≡ at.id = sym (ap (λ b. if b then id_or_0 (shared_file was (special_of entry)) else id_of entry) (folder_no_link entry is_a)) ∙ ap (λ (e : PlainEntry). e.id) facts.plain in
          true≢false (sym (lies_below was next_id sound.entries.ids sound.entries.rooted (tree_in old bytes_of) (tree_entries old bytes_of) to from at is.above is.not_root is.reached_at at_folder (subst (λ n. 16 ≤ n) same facts.high) is.reached_above is.above_is.0
          (subst (LiesIn (entries_of was) at.id) (sym is.above_is.1) (subst (λ n. LiesIn (entries_of was) n goal.folder) same lies))) ∙ not_below)
      by_kind false isnt =
          let folder = top_is_folder old shaped (id_of entry) goal.folder facts.high lies is.folder.folder in
          true≢false (sym folder.2 ∙ ap (λ (p : Placed). is_folder p.value) (same_entry next_id (entries_of was) sound.entries.ids folder.0 entry folder.1 does.stands folder.3) ∙ isnt)

  may : MayMove entry goal.folder goal.name old
  may = record {
    stands = does.stands;
    high = facts.high;
    not_own = facts.shows.not_own;
    named = ap is_empty (sym is.name) ∙ named;
    goes_not_own = is.not_own;
    folder = is.folder.folder;
    not_inside = not_inside;
    no_links = λ link stands link_is shared. true≢false (sym shared ∙ seen_is_outside old shaped entry facts.shows.visible (special_of link));
    outside = λ kind hidden. true≢false (sym ((hidden_is_computed was next_id goal.folder sound.entries.ids sound.entries.rooted).0 hidden) ∙ is.folder.visible);
  }

  shaped_moved : IsShaped does.moved
  shaped_moved = moved_shaped entry goal.folder goal.name old does.moved does.moves does.sorted may shaped

  unshared : (reference : ℕ) → is_shared_file (records_of does.moved) reference it ≡ false
  unshared = is_unshared entry goal.folder goal.name old does.moved does.moves does.sorted may shaped does.sorted_again facts.seen is.folder.visible

  folder_moved : (x : ℕ) → IsFolderId (entries_of was) x → IsFolderId (entries_of (records_of does.moved)) x
  folder_moved x folder = elim (entry_cases (old_side entry goal.folder goal.name old does.moved does.moves does.sorted may shaped) folder.0 folder.1) [
    | inl same ↦ (it, the_entry (new_side entry goal.folder goal.name old does.moved does.moves does.sorted may shaped), ap (λ (p : Placed). is_folder p.value) (sym same) ∙ folder.2, ap id_of (sym same) ∙ folder.3)
    | inr left ↦ (folder.0, still_entry (new_side entry goal.folder goal.name old does.moved does.moves does.sorted may shaped) folder.0 left, folder.2, folder.3)
  ]

  folder_above : IsFolderId (entries_of was) at.parent
  folder_above = subst (IsFolderId (entries_of was)) does.is_entry.0 (parent_folder old shaped entry does.stands facts.high)

  -- ---- the accounts

  -- the old folder counted the entry
  enough : ((p : Placed) → Contains (entries_of (records_of does.moved)) p → is_folder p.value ≡ true
      → valence_in p.value + (0 + one_if (goal.folder == id_of p)) ≡ count_in (entries_of (records_of does.moved)) (id_of p) + (0 + one_if (entry.parent == id_of p))) → 1 ≤ does.loses.before.count + 0
  enough valences = by_test (goal.folder == at.parent) refl
    where
      folder_was : is_folder does.loses.entry.value ≡ true
      folder_was = folder_is at.parent does.moved does.lost does.loses shaped_moved (folder_moved at.parent folder_above)

      account : valence_in does.loses.entry.value + (0 + one_if (goal.folder == at.parent)) ≡ count_in (entries_of (records_of does.moved)) at.parent + (0 + one_if (entry.parent == at.parent))
      account =
          subst (λ id. valence_in does.loses.entry.value + (0 + one_if (goal.folder == id)) ≡ count_in (entries_of (records_of does.moved)) id + (0 + one_if (entry.parent == id))) (id_is at.parent does.moved does.lost does.loses)
          (valences does.loses.entry (there_was at.parent does.moved does.lost does.loses shaped_moved) folder_was)

      counts : valence_in does.loses.entry.value ≡ does.loses.before.count
      counts = (valence_now does.loses.entry.value does.loses.before does.loses.after does.loses.has folder_was).0

      here : one_if (entry.parent == at.parent) ≡ 1
      here = ap (λ n. one_if (n == at.parent)) does.is_entry.0 ∙ ap one_if (same_number at.parent)

      by_test : (b : Bool) → (goal.folder == at.parent) ≡ b → 1 ≤ does.loses.before.count + 0
      by_test false other = omega (arith, account, counts, here, ap one_if other)
      by_test true same =
          let some = one_there (λ (p : Placed). p.parent == at.parent) (entries_of (records_of does.moved)) it (the_entry (new_side entry goal.folder goal.name old does.moved does.moves does.sorted may shaped)) same in
          omega (arith, account, counts, here, ap one_if same, some)

  -- the volumes between, and the last one
  settled : IsShaped does.lost × IsShaped does.gained × IsSoundVolume new
  settled =
      let first = moves old old does.moved no_debts (opened old sound does.sorted) entry goal.folder goal.name does.moves may does.sorted_again (λ reference shared. absurd (true≢false (sym shared ∙ unshared reference))) in
      let second = recount_account old does.moved does.lost _ at.parent 0 1 first does.loses (folder_moved at.parent folder_above) does.loses.fields.count (enough first.valences) in
      let third = recount_account old does.lost does.gained _ goal.folder 1 0 second does.gains
      (folder_still at.parent does.moved does.lost does.loses shaped_moved goal.folder (folder_moved goal.folder is.folder.folder)) does.gains.fields.count (omega arith) in
      let fourth = mark_account old does.gained new _ at.id 0 0 third does.marks does.marks.fields.marked.count (ap (λ n. n + 0) does.marks.fields.special) in (
        second.shaped,
        third.shaped,
        closed old new _ sound fourth (record {
          valences = λ id.
              let out : one_if (id_of does.loses.entry == id) ≡ one_if (entry.parent == id) = ap (λ n. one_if (n == id)) (id_is at.parent does.moved does.lost does.loses ∙ sym does.is_entry.0) in
              let into : one_if (id_of does.gains.entry == id) ≡ one_if (goal.folder == id) = ap (λ n. one_if (n == id)) (id_is goal.folder does.lost does.gained does.gains) in
              omega (arith, out, into);
          specials = λ reference file stands shared. omega (arith, ap (λ b. if b then special_of entry else 0) (unshared reference));
          files = refl;
          folders = refl;
        }),
      )

  pub sound_moved : IsSoundVolume new
  sound_moved = settled.2

  -- ---- the tree

  pub tree_of_moved : tree_in new bytes_of ≡ moved at goal (tree_in old bytes_of)
  tree_of_moved =
      fields_tree at.id does.gained new does.marks bytes_of by_fork (redated moment) (marked_views moment does.marks.before does.marks.after does.marks.fields.marked) does.marks.fields.marked.id settled.1
      ∙ ap (with_changed at.id (redated moment))
      (fields_tree goal.folder does.lost does.gained does.gains bytes_of by_fork (dated moment) (touched_views moment 1 0 does.gains.before does.gains.after does.gains.fields) does.gains.fields.id settled.0)
      ∙ ap (λ t. with_changed at.id (redated moment) (with_changed goal.folder (dated moment) t))
      (fields_tree at.parent does.moved does.lost does.loses bytes_of by_fork (dated moment) (touched_views moment 0 1 does.loses.before does.loses.after does.loses.fields) does.loses.fields.id shaped_moved
      ∙ ap (with_changed at.parent (dated moment))
      (tree_moved entry goal.folder goal.name old does.moved does.moves does.sorted may shaped does.sorted_again facts.seen is.folder.visible bytes_of
      ∙ (λ i. with_entry (record (facts.plain i) { parent = goal.folder; name = goal.name }) (without_entry (does.is_entry.0 i) (does.is_entry.1 i) (tree_in old bytes_of)))))
      ∙ (λ i. with_changed at.id (redated (sym (moment_is old bytes_of) i)) (with_changed goal.folder (dated (sym (moment_is old bytes_of) i)) (with_changed at.parent (dated (sym (moment_is old bytes_of) i))
      (with_entry (record at { parent = goal.folder; name = goal.name }) (without_entry at.parent at.name (tree_in old bytes_of))))))

-- the same changes, to a place that is free by now
at_free_place : (at : PlainEntry) (goal : Place) (old new : VolumeState) → MovesName at goal old new → MovesName at (record goal { found = None }) old new
at_free_place at goal old new does = record {
  sorted = does.sorted;
  entry = does.entry;
  stands = does.stands;
  is_entry = does.is_entry;
  moved = does.moved;
  moves = does.moves;
  sorted_again = does.sorted_again;
  lost = does.lost;
  loses = does.loses;
  gained = does.gained;
  gains = does.gains;
  marks = does.marks;
}

-- `mv`: to a free place, over another file, which is `rm` of it and then `mv` to a free place, and of a file onto itself
pub mv_law : MvDoes
mv_law from to at goal old new bytes_of are sound not_private named allowed moves =
    let tree = tree_in old bytes_of in
    let whole = sym (ap (λ r. (on tree r (λ pair. (reply.Ok, moved_over pair.0 pair.1 tree))).1) allowed) in
    elim moves [
      | inl free ↦
          let is = to_mv_is old bytes_of sound from to at goal allowed not_private in (
            sound_moved from to at goal old new bytes_of are.by_fork sound is.0 is.1 named free.1,
            tree_of_moved from to at goal old new bytes_of are.by_fork sound is.0 is.1 named free.1
                ∙ (λ i. if is_same_file at (sym free.0 i) then tree else moved at goal (vacated (sym free.0 i) tree))
                ∙ whole,
          )
      | inr rest ↦ elim rest [
        | inl over ↦
            let removal = vacates tree from to (at, goal) allowed over.other over.stood in
            let first = rm_law to over.other old over.vacated bytes_of are sound removal over.removes in
            let between : tree_in over.vacated bytes_of ≡ removed over.other tree = first.1 ∙ ap (λ r. (on tree r (λ x. (reply.Ok, removed x tree))).1) removal in
            let allowed_later : to_mv (tree_in over.vacated bytes_of) from to ≡ Ok (at, record goal { found = None }) =
            ap (λ t. to_mv t from to) between ∙ moves_later tree from to (at, goal) allowed over.other over.stood over.differs in
            let is = to_mv_is over.vacated bytes_of first.0 from to at (record goal { found = None }) allowed_later not_private in
            let does = at_free_place at goal over.vacated new over.moves in (
              sound_moved from to at (record goal { found = None }) over.vacated new bytes_of are.by_fork first.0 is.0 is.1 named does,
              tree_of_moved from to at (record goal { found = None }) over.vacated new bytes_of are.by_fork first.0 is.0 is.1 named does
                  ∙ ap (moved at goal) between
                  ∙ (λ i. if sym over.differs i then tree else moved at goal (vacated (sym over.stood i) tree))
                  ∙ whole,
            )
        | inr stays ↦ (
          subst IsSoundVolume (sym stays.same) sound,
          ap (λ v. tree_in v bytes_of) stays.same ∙ (λ i. if sym stays.itself i then tree else moved at goal (vacated goal.found tree)) ∙ whole,
        )
      ]
    ]
