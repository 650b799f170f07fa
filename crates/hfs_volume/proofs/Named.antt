-- What the commands on names are about, where the step doesn't refuse them: entries and places that users see.
use Rattle.std.proofs.Common.{nat_le, ◌≡◌, ℕ, ◌≤◌, Bool, true, false, List, inl, inr, refl, sym, ◌∙◌, ap, subst}
use Rattle.std.proofs.lemmas.Bool.{true≢false}
use Rattle.std.specs.Prelude.{Contains, ◌==◌, ◌&&◌, ◌||◌, is_some, Ok}
use Rattle.hfs_language.specs.declared.refusal.Refusal.TheVariants as refusal
use Rattle.hfs_model.specs.Step.{Place, to_mv, to_pair, place, place_in, front, last_name, is_root, is_below, is_private_path, is_private_name, unless, then_, reached, most_links, to_ln, to_rm}
use Rattle.hfs_model.specs.Plain.{entry_at, names_of}
use Rattle.hfs_volume.specs.Records.{Placed, entries_of, id_of}
use Rattle.hfs_volume.specs.Entries.{IsUserId}
use Rattle.hfs_volume.specs.Content.{VolumeState, records_of}
use Rattle.hfs_volume.specs.Sound.{IsSoundVolume}
use Rattle.hfs_volume.specs.TreeOf.{tree_in, is_seen, plain_entry, BytesOf}
use Rattle.hfs_model.specs.declared.plain.PlainEntry.{PlainEntry}
use Rattle.hfs_model.specs.declared.plain.PlainTree.{PlainTree}
use Rattle.hfs_volume.proofs.Members.{each_of}
use Rattle.hfs_volume.proofs.Reaching.{then_ok, unless_ok, if_ok, ok_same, IsSeen, Shows, seen_shows, seen_not_root, IsFolder, front_is}
use Rattle.hfs_volume.proofs.Making.{tree_entries}
use Rattle.hfs_volume.proofs.Emptying.{reach_seen}
use Rattle.hfs_volume.proofs.Sides.{one_key, entry_is_record}
use Rattle.hfs_volume.proofs.Fitting.{not_private}
use Rattle.hfs_volume.proofs.Vacating.{moving_is}
use Rattle.hfs_volume.specs.Changes.{AreSorted}

module _ (old : VolumeState) (bytes_of : BytesOf) (sound : IsSoundVolume old) where
  abbrev tree : PlainTree
  tree = tree_in old bytes_of

  abbrev before : List Placed
  before = records_of old

  abbrev next : ℕ
  next = old.head.next_catalog_id

  -- an entry that users see, and a place in a folder that they see
  pub record IsPair (from to : List (List ℕ)) (at : PlainEntry) (goal : Place) : Type 0 where
    pub seen : IsSeen before at
    pub reached_at : reached tree from ≡ Ok at
    pub folder : IsFolder before next sound.entries.ids sound.entries.rooted goal.folder
    pub not_own : ((goal.folder == 2) && is_private_name goal.name) ≡ false
    pub name : last_name to ≡ goal.name
    pub above : PlainEntry
    pub reached_above : reached tree (front to) ≡ Ok above
    pub above_is : (above.folder ≡ true) × (above.id ≡ goal.folder)
    pub not_root : is_root to ≡ false

  either_false : (a b : Bool) → (a || b) ≡ false → (a ≡ false) × (b ≡ false)
  either_false true b is = absurd (true≢false is)
  either_false false b is = (refl, is)

  to_pair_is : (from to : List (List ℕ)) (pair : PlainEntry × Place) → to_pair tree from to ≡ Ok pair → is_private_path to ≡ false → IsPair from to pair.0 pair.1
  to_pair_is from to pair allowed not_private =
      let rooted = then_ok (unless (is_root from || is_root to) refusal.Root from) (λ named. then_ (reached tree named) (λ x. then_ (place tree to) (λ g. Ok (x, g)))) pair allowed in
      let root = unless_ok (is_root from || is_root to) refusal.Root from rooted.0 rooted.1 in
      let no_root = either_false (is_root from) (is_root to) root.0 in
      let walked = then_ok (reached tree rooted.0) (λ x. then_ (place tree to) (λ g. Ok (x, g))) pair rooted.2 in
      let placed = then_ok (place tree to) (λ g. Ok (walked.0, g)) pair walked.2 in
      let parts : (walked.0, placed.0) ≡ pair = ok_same (walked.0, placed.0) pair placed.2 in
      let third = then_ok (reached tree (front to)) (place_in tree (last_name to)) placed.0 placed.1 in
      let fourth = if_ok third.0.folder (Ok (record { folder = third.0.id; name = last_name to; found = entry_at tree third.0.id (last_name to) })) refusal.NotFolder placed.0 third.2 in
      let goal_is : (record { folder = third.0.id; name = last_name to; found = entry_at tree third.0.id (last_name to) }) ≡ pair.1 = ok_same _ placed.0 fourth.1 ∙ ap (λ (p : PlainEntry × Place). p.1) parts in
      let at_is : walked.0 ≡ pair.0 = ap (λ (p : PlainEntry × Place). p.0) parts in
      let was = front_is before next sound.entries.ids sound.entries.rooted tree (tree_entries old bytes_of) to third.0 no_root.1 not_private third.1 fourth.0 in
      let folder : third.0.id ≡ pair.1.folder = ap (λ (x : Place). x.folder) goal_is in
      let name : last_name to ≡ pair.1.name = ap (λ (x : Place). x.name) goal_is in
      let reached_it : reached tree from ≡ Ok pair.0 = ap (reached tree) root.1 ∙ walked.1 ∙ ap Ok at_is in
      record {
        seen = reach_seen old bytes_of sound from pair.0 no_root.0 reached_it;
        reached_at = reached_it;
        folder = subst (IsFolder before next sound.entries.ids sound.entries.rooted) folder was.0;
        not_own = (λ i. (sym folder i == 2) && is_private_name (sym name i)) ∙ was.1;
        name = name;
        above = third.0;
        reached_above = third.1;
        above_is = (fourth.0, folder);
        not_root = no_root.1;
      }

  pub to_mv_is : (from to : List (List ℕ)) (at : PlainEntry) (goal : Place) → to_mv tree from to ≡ Ok (at, goal) → is_private_path to ≡ false → IsPair from to at goal × (is_below to from ≡ false)
  to_mv_is from to at goal allowed not_private =
      let moving = moving_is tree from to (at, goal) allowed in
      (to_pair_is from to (at, goal) moving.is_pair not_private, moving.outside)

  pub to_ln_is : (from to : List (List ℕ)) (at : PlainEntry) (goal : Place) → to_ln tree from to ≡ Ok (at, goal) → is_private_path to ≡ false → IsPair from to at goal × (at.folder ≡ false)
  to_ln_is from to at goal allowed not_private =
      let first = then_ok (to_pair tree from to) (λ pair. then_ (unless pair.0.folder refusal.IsFolder pair) (λ file. then_ (unless (is_some file.1.found) refusal.Exists file) (unless (nat_le most_links (names_of tree file.0.id)) refusal.TooManyLinks))) (at, goal) allowed in
      let second = then_ok (unless first.0.0.folder refusal.IsFolder first.0) (λ file. then_ (unless (is_some file.1.found) refusal.Exists file) (unless (nat_le most_links (names_of tree file.0.id)) refusal.TooManyLinks)) (at, goal) first.2 in
      let no_folder = unless_ok first.0.0.folder refusal.IsFolder first.0 second.0 second.1 in
      let third = then_ok (unless (is_some second.0.1.found) refusal.Exists second.0) (unless (nat_le most_links (names_of tree second.0.0.id)) refusal.TooManyLinks) (at, goal) second.2 in
      let not_there = unless_ok (is_some second.0.1.found) refusal.Exists second.0 third.0 third.1 in
      let few = unless_ok (nat_le most_links (names_of tree second.0.0.id)) refusal.TooManyLinks third.0 (at, goal) third.2 in
      let same : first.0 ≡ (at, goal) = no_folder.1 ∙ not_there.1 ∙ few.1 in (
        subst (λ (pair : PlainEntry × Place). IsPair from to pair.0 pair.1) same (to_pair_is from to first.0 first.1 not_private),
        ap (λ (pair : PlainEntry × Place). pair.0.folder) (sym same) ∙ no_folder.0,
      )

  pub to_rm_is : (path : List (List ℕ)) (at : PlainEntry) → to_rm tree path ≡ Ok at → IsSeen before at × (at.folder ≡ false)
  to_rm_is path at allowed =
      let first = then_ok (unless (is_root path) refusal.Root path) (λ named. then_ (reached tree named) (λ x. unless x.folder refusal.IsFolder x)) at allowed in
      let root = unless_ok (is_root path) refusal.Root path first.0 first.1 in
      let second = then_ok (reached tree first.0) (λ x. unless x.folder refusal.IsFolder x) at first.2 in
      let no_folder = unless_ok second.0.folder refusal.IsFolder second.0 at second.2 in
      (reach_seen old bytes_of sound path at root.0 (ap (reached tree) root.1 ∙ second.1 ∙ ap Ok no_folder.1), ap (λ (x : PlainEntry). x.folder) (sym no_folder.1) ∙ no_folder.0)

  -- the record of an entry that users see, which a command names by its place
  pub record IsSeenName (at : PlainEntry) (entry : Placed) : Type 0 where
    pub stands : Contains (entries_of before) entry
    pub seen : is_seen before entry ≡ true
    pub plain : plain_entry before entry ≡ at
    pub shows : Shows before entry
    pub high : 16 ≤ id_of entry

  pub named_entry : (at : PlainEntry) (entry : Placed) → AreSorted old.catalog_pairs → IsSeen before at → Contains (entries_of before) entry → entry.parent ≡ at.parent → entry.name ≡ at.name → IsSeenName at entry
  named_entry at entry sorted is stands parent name =
      let same : is.placed ≡ entry = one_key before sorted is.placed entry is.stands (entry_is_record before entry stands) (ap (λ (e : PlainEntry). e.parent) is.is ∙ sym parent) (ap (λ (e : PlainEntry). e.name) is.is ∙ sym name) in
      let seen : is_seen before entry ≡ true = subst (λ p. is_seen before p ≡ true) same is.seen in
      let shows = seen_shows before entry seen in
      record {
        stands = stands;
        seen = seen;
        plain = subst (λ p. plain_entry before p ≡ at) same is.is;
        shows = shows;
        high = elim (each_of (λ (p : Placed). IsUserId next (id_of p)) (entries_of before) sound.entries.ids.each entry stands) [
          | inl two ↦ absurd (seen_not_root before next sound.entries.ids sound.entries.rooted entry stands shows two)
          | inr user ↦ user.0
        ];
      }
