-- The way of a move by the records is the one that the tree tells, and so is the first reason against it; and what `mv` answers.
use Rattle.std.proofs.Common.{◌≡◌, ◌<◌, ℕ, Bool, true, false, List, [], ◌∷◌, length, refl, sym, ◌∙◌, ap, subst, arith}
use Rattle.std.specs.Prelude.{◌||◌, ◌==◌, is_some, Option, Some, None, Result, Ok, Err, if◌then◌else◌}
use Rattle.std.specs.Option.{ok_or}
use Rattle.std.specs.List.{flat_map}
use Rattle.std.specs.Str.{bytes_eq}
use Rattle.std.proofs.lemmas.Bool.{and_parts, eqb-true}
use Rattle.std.proofs.lemmas.Slice.Eq.{bytes_eq-Decides}
use Rattle.sector_disk.specs.Lists.{Content}
use Rattle.btree_node.specs.Levels.{Pair}
use Rattle.hfs_language.specs.Written.{FitsPath}
use Rattle.hfs_language.specs.declared.command.Command.TheVariants as command
use Rattle.hfs_language.specs.declared.refusal.Refusal.{Refusal}
use Rattle.hfs_language.specs.declared.refusal.Refusal.TheVariants as refusal
use Rattle.hfs_language.specs.declared.reply.Reply.TheVariants as reply
use Rattle.hfs_model.specs.Plain.{IsPlainTree, entry_at, is_at, is_node, node_at}
use Rattle.hfs_model.specs.Step.{Place, child, front, is_below, is_private_path, is_root, last_name, moved_over, new_place, on, place, reached, root_entry, stands_in_way, step, step_line, then_, to_make, to_mv, to_node, unless, walk}
use Rattle.hfs_model.specs.declared.plain.PlainEntry.{PlainEntry}
use Rattle.hfs_model.specs.declared.plain.PlainNode.{PlainNode}
use Rattle.hfs_model.specs.declared.plain.PlainTree.{PlainTree}
use Rattle.hfs_model.proofs.Below.{front-last, last_name-last}
use Rattle.hfs_volume.specs.Books.{SoundHasPlainTree}
use Rattle.hfs_volume.specs.Changes.{AreSorted}
use Rattle.hfs_volume.specs.Content.{VolumeState, volume_of, overflow_in_volume}
use Rattle.hfs_volume.specs.Entries.{AreThreaded, AreRooted, HaveIds}
use Rattle.hfs_volume.specs.Links.{AreGoodLinks, private_id}
use Rattle.hfs_volume.specs.Records.{Overflow, entries_of, is_empty, placed_in}
use Rattle.hfs_volume.specs.TreeOf.{tree_of, seen_entry}
use Rattle.hfs_volume.proofs.Flat.{found_some}
use Rattle.volume_base.specs.Lists.{lists_of}
use Rattle.volume_base.specs.Making.{free_place, path_to, site_in, site_under}
use Rattle.volume_base.specs.Moving.{IsMove, route_in, to_free}
use Rattle.volume_base.specs.Owning.{id_reached, owner_in}
use Rattle.volume_base.specs.Refusing.{is_exists}
use Rattle.volume_base.specs.Reaching.{child_in, folder_in, folder_reached, walk_in}
use Rattle.volume_base.specs.Standing.{HoldsTrees, IsSettled}
use Rattle.volume_base.specs.declared.moving.Route.{Route}
use Rattle.volume_base.specs.declared.reaching.Reached.{Reached}
use Rattle.volume_base.specs.declared.reaching.Reached.TheVariants as where_reached
use Rattle.volume_base.specs.declared.volume.Volume.{Volume}
use Rattle.volume_base.proofs.Freeing.{free_mv, free_refused}
use Rattle.volume_base.proofs.Listed.{entries_are}
use Rattle.volume_base.proofs.Rising.{settled_is_plain, settled_sorted}
use Rattle.volume_base.proofs.Sited.{fits_name, not_root, site_is, some_name}
use Rattle.volume_base.proofs.Siting.{SameSite, front_fits, front_free, front_tree, front_walk, site_same}
use Rattle.volume_base.proofs.Walked.{Agree, IsReached, path_same}

-- ---- the step of a move, by its parts

module _ (tree : PlainTree) (from to : List (List ℕ)) (some : is_root from ≡ false) (goal_some : is_root to ≡ false) where
  parted : to_free tree from to ≡ then_ (then_ (reached tree from) (λ at. then_ (place tree to) (λ goal. Ok (at, goal)))) (λ pair. then_ (unless (is_some pair.1.found) refusal.Exists pair) (unless (is_below to from) refusal.Inside))
  parted = λ i. then_ (then_ (if some i || goal_some i then Err refusal.Root else Ok from) (λ named. then_ (reached tree named) (λ at. then_ (place tree to) (λ goal. Ok (at, goal)))))
      (λ pair. then_ (unless (is_some pair.1.found) refusal.Exists pair) (unless (is_below to from) refusal.Inside))

  made_parted : to_make tree to ≡ then_ (place tree to) (λ at. unless (is_some at.found) refusal.Exists at)
  made_parted = λ i. then_ (if goal_some i then Err refusal.Root else Ok to) (new_place tree)

  pub mv_unreached : (why : Refusal) → reached tree from ≡ Err why → to_free tree from to ≡ Err why
  mv_unreached why is = parted ∙ ap (λ r. then_ (then_ r (λ at. then_ (place tree to) (λ goal. Ok (at, goal)))) (λ pair. then_ (unless (is_some pair.1.found) refusal.Exists pair) (unless (is_below to from) refusal.Inside))) is

  module _ (at : PlainEntry) (is : reached tree from ≡ Ok at) where
    behind : to_free tree from to ≡ then_ (then_ (place tree to) (λ goal. Ok (at, goal))) (λ pair. then_ (unless (is_some pair.1.found) refusal.Exists pair) (unless (is_below to from) refusal.Inside))
    behind = parted ∙ ap (λ r. then_ (then_ r (λ e. then_ (place tree to) (λ goal. Ok (e, goal)))) (λ pair. then_ (unless (is_some pair.1.found) refusal.Exists pair) (unless (is_below to from) refusal.Inside))) is

    abbrev tried : Result Place Refusal → Result (PlainEntry × Place) Refusal
    tried r = then_ (then_ r (λ goal. Ok (at, goal))) (λ pair. then_ (unless (is_some pair.1.found) refusal.Exists pair) (unless (is_below to from) refusal.Inside))

    by_goal : (r : Result Place Refusal) (made : Result Place Refusal) → then_ r (λ goal. unless (is_some goal.found) refusal.Exists goal) ≡ made → tried r ≡ then_ made (λ goal. unless (is_below to from) refusal.Inside (at, goal))
    by_goal (Err why) made same = ap (λ (m : Result Place Refusal). then_ m (λ goal. unless (is_below to from) refusal.Inside (at, goal))) same
    by_goal (Ok goal) made same = by_found goal.found refl ∙ ap (λ (m : Result Place Refusal). then_ m (λ g. unless (is_below to from) refusal.Inside (at, g))) same
      where
        by_found : (o : Option _) → goal.found ≡ o → tried (Ok goal) ≡ then_ (unless (is_some goal.found) refusal.Exists goal) (λ g. unless (is_below to from) refusal.Inside (at, g))
        by_found None found =
            ap (λ b. then_ (if b then Err refusal.Exists else Ok (at, goal)) (unless (is_below to from) refusal.Inside)) (ap is_some found) ∙ sym (ap (λ b. then_ (if b then Err refusal.Exists else Ok goal) (λ g. unless (is_below to from) refusal.Inside (at, g))) (ap is_some found))
        by_found (Some e) found =
            ap (λ b. then_ (if b then Err refusal.Exists else Ok (at, goal)) (unless (is_below to from) refusal.Inside)) (ap is_some found) ∙ sym (ap (λ b. then_ (if b then Err refusal.Exists else Ok goal) (λ g. unless (is_below to from) refusal.Inside (at, g))) (ap is_some found))

    pub mv_after : to_free tree from to ≡ then_ (to_make tree to) (λ goal. unless (is_below to from) refusal.Inside (at, goal))
    mv_after = behind ∙ by_goal (place tree to) (to_make tree to) (sym made_parted)

-- ---- the way

-- All that a way says of the tree; whether the goal lies inside is still to be seen.
pub record IsWay (tree : PlainTree) (from to : List (List ℕ)) (old name : List ℕ) (way : Route) : Type 0 where
  pub at : PlainEntry
  pub reaches : reached tree from ≡ Ok at
  pub can_make : to_make tree to ≡ Ok (free_place way.folder name)
  pub place : (at.parent ≡ way.parent) × (at.name ≡ old)
  pub number : at.id ≡ way.id
  pub above : PlainEntry
  pub reaches_above : reached tree (front from) ≡ Ok above
  pub above_is : (above.folder ≡ true) × (above.id ≡ way.parent)
  pub node : PlainNode
  pub stands : to_node tree from ≡ Ok node
  pub node_number : node.id ≡ way.id

abbrev pub Routes : PlainTree → List (List ℕ) → List (List ℕ) → List ℕ → List ℕ → Result Route Refusal → Type 0
Routes tree from to old name (Ok way) = IsWay tree from to old name way
Routes tree from to old name (Err why) = to_free tree from to ≡ Err why

abbrev entry_or : PlainEntry → Option PlainEntry → PlainEntry
entry_or other None = other
entry_or other (Some e) = e

abbrev plain_or : PlainEntry → Result PlainEntry Refusal → PlainEntry
plain_or other (Ok e) = e
plain_or other (Err why) = other

-- what a name in a folder stands for is in it, under that name
pub child_is : (tree : PlainTree) (e at : PlainEntry) (name : List ℕ) → child tree e name ≡ Ok at → (e.folder ≡ true) × (at.parent ≡ e.id) × (at.name ≡ name)
child_is tree e at name is = by e.folder refl (entry_at tree e.id name) refl is
  where
    by : (b : Bool) → e.folder ≡ b → (o : Option PlainEntry) → entry_at tree e.id name ≡ o → (if b then ok_or o refusal.NotFound else Err refusal.NotFolder) ≡ Ok at → (e.folder ≡ true) × (at.parent ≡ e.id) × (at.name ≡ name)
    by false folder o found same = absurd (cc same)
    by true folder None found same = absurd (cc same)
    by true folder (Some other) found same =
        let it : other ≡ at = ap (plain_or at) same in
        let test = and_parts (other.parent == e.id) (bytes_eq other.name name) (found_some (is_at e.id name) tree.entries other found).1 in
        (folder, ap (λ (x : PlainEntry). x.parent) (sym it) ∙ eqb-true other.parent e.id test.0, ap (λ (x : PlainEntry). x.name) (sym it) ∙ (bytes_eq-Decides other.name name).0 test.1)

module _ (pairs : List Pair) (next : ℕ) (ids : HaveIds next (entries_of (placed_in pairs))) (rooted : AreRooted (entries_of (placed_in pairs))) (threads : AreThreaded pairs) (overflow : List Overflow) (links : AreGoodLinks (placed_in pairs) overflow) (order : AreSorted pairs)
    (tree : PlainTree) (same_entries : tree.entries ≡ flat_map (seen_entry (placed_in pairs)) (placed_in pairs)) (plain : IsPlainTree tree)
  where
    abbrev Same : Reached → PlainEntry → Type 0
    Same = IsReached pairs next ids rooted threads overflow links order tree same_entries plain

    module _ (from to : List (List ℕ)) (old name : List ℕ) (some : is_root from ≡ false) (goal_some : is_root to ≡ false) (last : last_name from ≡ old) (site : Result ℕ Refusal) (sited : SameSite name site (to_make tree to)) where
      node_of : (at : PlainEntry) (q : Reached) → Same q at → reached tree from ≡ Ok at → (node : PlainNode) × (to_node tree from ≡ Ok node) × (node.id ≡ at.id)
      node_of at q it is = (
        it.node.0,
        ap (λ (r : Result PlainEntry Refusal). then_ r (λ e. ok_or (node_at tree e.id) refusal.NotFound)) is ∙ ap (λ (o : Option PlainNode). ok_or o refusal.NotFound) it.node.1,
        eqb-true it.node.0.id at.id (found_some (is_node at.id) tree.nodes it.node.0 it.node.1).1,
      )

      -- the goal, behind what is moved
      by_site : (e at : PlainEntry) (m : Reached) → Same m at → reached tree from ≡ Ok at → reached tree (front from) ≡ Ok e → child tree e old ≡ Ok at → (r : Result ℕ Refusal) (made : Result Place Refusal) → to_make tree to ≡ made → SameSite name r made
          → Routes tree from to old name (then_ r (λ folder. Ok (record { id = id_reached pairs (private_id (placed_in pairs)) m; parent = e.id; folder = folder })))
      by_site e at m it is front_is child_found (Ok folder) (Ok goal) made same =
          let here = child_is tree e at old child_found in
          let node = node_of at m it is in
          record {
            at = at;
            reaches = is;
            can_make = made ∙ ap Ok same;
            place = (here.1, here.2);
            number = sym it.id;
            above = e;
            reaches_above = front_is;
            above_is = (here.0, refl);
            node = node.0;
            stands = node.1;
            node_number = node.2 ∙ sym it.id;
          }
      by_site e at m it is front_is child_found (Err why) (Err other) made same =
          mv_after tree from to some goal_some at is ∙ ap (λ (r : Result Place Refusal). then_ r (λ goal. unless (is_below to from) refusal.Inside (at, goal))) made ∙ ap Err (sym same)
      by_site e at m it is front_is child_found (Ok folder) (Err other) made never = absurd never
      by_site e at m it is front_is child_found (Err why) (Ok goal) made never = absurd never

      abbrev goes : Result Reached Refusal → Result Reached Refusal → Result Route Refusal
      goes r whole = then_ (then_ whole (λ at. Ok (id_reached pairs (private_id (placed_in pairs)) at))) (λ id. then_ (then_ r folder_reached) (λ parent. then_ site (λ folder. Ok (record { id = id; parent = parent; folder = folder }))))

      by_child : (q : Reached) (e : PlainEntry) → Same q e → reached tree (front from) ≡ Ok e → (w : Result Reached Refusal) (s : Result PlainEntry Refusal) → child tree e old ≡ s → reached tree from ≡ s → Agree Same w s → Routes tree from to old name (goes (Ok q) w)
      by_child q e it front_is (Err why) (Err other) found is same = mv_unreached tree from to some goal_some other is ∙ ap Err (sym same)
      by_child q e it front_is (Ok m) (Err other) found is never = absurd never
      by_child q e it front_is (Err why) (Ok at) found is never = absurd never
      by_child q e it front_is (Ok m) (Ok at) found is same =
          let here = child_is tree e at old found in
          let folder : folder_reached q ≡ Ok e.id = it.folder ∙ ap (λ b. if b then Ok e.id else Err refusal.NotFolder) here.0 in
          subst (λ (f : Result ℕ Refusal). Routes tree from to old name (then_ f (λ parent. then_ site (λ folder. Ok (record { id = id_reached pairs (private_id (placed_in pairs)) m; parent = parent; folder = folder }))))) (sym folder)
          (by_site e at m same is front_is found site (to_make tree to) refl sited)

      by_front : (r : Result Reached Refusal) (s : Result PlainEntry Refusal) → walk tree root_entry (front from) ≡ s → Agree Same r s → reached tree from ≡ then_ s (λ e. child tree e old) → Agree Same (then_ r (λ n. child_in pairs n old)) (then_ s (λ e. child tree e old))
          → Routes tree from to old name (goes r (then_ r (λ n. child_in pairs n old)))
      by_front (Err why) (Err other) front_is same is whole = mv_unreached tree from to some goal_some other is ∙ ap Err (sym same)
      by_front (Ok q) (Err other) front_is never is whole = absurd never
      by_front (Err why) (Ok e) front_is never is whole = absurd never
      by_front (Ok q) (Ok e) front_is it is whole = by_child q e it front_is (child_in pairs q old) (child tree e old) refl is whole

      pub routes : is_private_path from ≡ false → FitsPath from
          → Routes tree from to old name (then_ (owner_in pairs (private_id (placed_in pairs)) from) (λ id. then_ (folder_in pairs (front from)) (λ parent. then_ site (λ folder. Ok (record { id = id; parent = parent; folder = folder })))))
      routes free fits =
          let walked : walk_in pairs where_reached.Root from ≡ then_ (walk_in pairs where_reached.Root (front from)) (λ n. child_in pairs n old) =
          front_walk pairs from some where_reached.Root ∙ ap (λ (n : List ℕ). then_ (walk_in pairs where_reached.Root (front from)) (λ m. child_in pairs m n)) last in
          let told : walk tree root_entry from ≡ then_ (walk tree root_entry (front from)) (λ e. child tree e old) =
          front_tree tree from some root_entry ∙ ap (λ (n : List ℕ). then_ (walk tree root_entry (front from)) (λ e. child tree e n)) last in
          subst (λ (w : Result Reached Refusal). Routes tree from to old name (goes (walk_in pairs where_reached.Root (front from)) w)) (sym walked)
          (by_front (walk_in pairs where_reached.Root (front from)) (walk tree root_entry (front from)) refl
          (path_same pairs next ids rooted threads overflow links order tree same_entries plain (front from) (front_free from free) (front_fits from fits)) told
          (subst (λ (k : Result Reached Refusal × Result PlainEntry Refusal). Agree Same k.0 k.1) (λ i. (walked i, told i)) (path_same pairs next ids rooted threads overflow links order tree same_entries plain from free fits)))

-- ---- over a settled volume

module _ (law : SoundHasPlainTree) (v : Volume) (content : Content) (holds : HoldsTrees v content) (settled : IsSettled v content) (from to above under : List (List ℕ)) (old name : List ℕ) (split : from ≡ path_to above old) (goal_split : to ≡ path_to under name)
    (not_own : is_private_path from ≡ false) (goal_not_own : is_private_path to ≡ false) (fits : FitsPath from) (goal_fits : FitsPath to) (said : Result Route Refusal) (found : said ≡ route_in (lists_of v content).catalog_pairs v.private from above under name)
  where
    some : is_root from ≡ false
    some = ap is_root split ∙ not_root above old

    goal_some : is_root to ≡ false
    goal_some = ap is_root goal_split ∙ not_root under name

    last : last_name from ≡ old
    last = ap last_name split ∙ last_name-last above old

    goal_last : last_name to ≡ name
    goal_last = ap last_name goal_split ∙ last_name-last under name

    sited : SameSite name (site_under (volume_of content).catalog_pairs under name) (to_make (tree_of content) to)
    sited =
        let sound = settled.sound.entries in
        subst (λ (k : List ℕ × Result ℕ Refusal). SameSite k.0 k.1 (to_make (tree_of content) to)) {x = (last_name to, site_in (volume_of content).catalog_pairs to)} {y = (name, site_under (volume_of content).catalog_pairs under name)}
        (λ i. (goal_last i, (ap (site_in (volume_of content).catalog_pairs) goal_split ∙ site_is (volume_of content).catalog_pairs under name) i))
        (site_same (volume_of content).catalog_pairs (volume_of content).head.next_catalog_id sound.ids sound.rooted sound.threads (overflow_in_volume (volume_of content)) settled.sound.links.good (settled_sorted v content holds settled)
        (tree_of content) (entries_are content) (settled_is_plain law v content holds settled) to goal_not_own goal_fits)

    tells : Routes (tree_of content) from to old name said
    tells =
        let sound = settled.sound.entries in
        subst (λ (r : Result Route Refusal). Routes (tree_of content) from to old name r)
        (sym (found ∙ (λ i. route_in (sym (ap (λ (l : VolumeState). l.catalog_pairs) settled.lists) i) (settled.private i) from above under name)
        ∙ (λ i. then_ (owner_in (volume_of content).catalog_pairs (private_id (placed_in (volume_of content).catalog_pairs)) from)
        (λ id. then_ (folder_in (volume_of content).catalog_pairs (sym (ap front split ∙ front-last above old) i)) (λ parent. then_ (site_under (volume_of content).catalog_pairs under name) (λ folder. Ok (record { id = id; parent = parent; folder = folder })))))))
        (routes (volume_of content).catalog_pairs (volume_of content).head.next_catalog_id sound.ids sound.rooted sound.threads (overflow_in_volume (volume_of content)) settled.sound.links.good (settled_sorted v content holds settled)
        (tree_of content) (entries_are content) (settled_is_plain law v content holds settled) from to old name some goal_some last (site_under (volume_of content).catalog_pairs under name) sited not_own fits)

    pub way_told : (way : Route) → said ≡ Ok way → IsWay (tree_of content) from to old name way
    way_told way ok = subst (λ (r : Result Route Refusal). Routes (tree_of content) from to old name r) ok tells

    pub way_not_free : (why : Refusal) → said ≡ Err why → to_free (tree_of content) from to ≡ Err why
    way_not_free why err = subst (λ (r : Result Route Refusal). Routes (tree_of content) from to old name r) err tells

    -- but for a place where something stands, `mv` is refused so too
    pub way_refused : (why : Refusal) → said ≡ Err why → is_exists why ≡ false → to_mv (tree_of content) from to ≡ Err why
    way_refused why err other = free_refused (tree_of content) from to why (way_not_free why err) other

    module _ (way : Route) (ok : said ≡ Ok way) where
      pub goes_inside : is_below to from ≡ true → to_mv (tree_of content) from to ≡ Err refusal.Inside
      goes_inside inside =
          let it = way_told way ok in
          free_refused (tree_of content) from to refusal.Inside (mv_after (tree_of content) from to some goal_some it.at it.reaches ∙ ap (λ (r : Result Place Refusal). then_ r (λ goal. unless (is_below to from) refusal.Inside (it.at, goal))) it.can_make
          ∙ ap (λ b. if b then Err refusal.Inside else Ok (it.at, free_place way.folder name)) inside) refl

      pub may_go : is_below to from ≡ false → IsMove (tree_of content) from to (way_told way ok).at way.parent old way.id way.folder name
      may_go outside =
          let it = way_told way ok in
          record {
            not_own = not_own;
            goal_not_own = goal_not_own;
            allowed = free_mv (tree_of content) from to (it.at, free_place way.folder name) (mv_after (tree_of content) from to some goal_some it.at it.reaches ∙ ap (λ (r : Result Place Refusal). then_ r (λ goal. unless (is_below to from) refusal.Inside (it.at, goal))) it.can_make
                ∙ ap (λ b. if b then Err refusal.Inside else Ok (it.at, free_place way.folder name)) outside);
            can_make = it.can_make;
            goal_named = ap is_empty goal_last ∙ some_name name (goal_fits_name goal_fits);
            reaches_it = it.reaches;
            place = it.place;
            number = it.number;
            not_root = some;
            named = some_name old (fits_old fits);
            last = last;
            above = it.above;
            reaches = it.reaches_above;
            above_is = it.above_is;
            node = it.node;
            stands = it.stands;
            node_number = it.node_number;
          }
        where
          goal_fits_name : FitsPath to → 0 < length name
          goal_fits_name all = (fits_name under name (subst FitsPath goal_split all)).some

          fits_old : FitsPath from → 0 < length old
          fits_old all = (fits_name above old (subst FitsPath split all)).some

-- ---- the answers

module _ (tree : PlainTree) (from to : List (List ℕ)) where
  mv_line : is_private_path from ≡ false → is_private_path to ≡ false → step_line tree (Ok (command.Mv from to)) ≡ step tree (command.Mv from to)
  mv_line not_own goal_not_own = λ i. if not_own i || (goal_not_own i || false) then (reply.No refusal.Private, tree) else step tree (command.Mv from to)

  pub moved_line : (pair : PlainEntry × Place) → is_private_path from ≡ false → is_private_path to ≡ false → to_mv tree from to ≡ Ok pair
      → (reply.Ok ≡ (step_line tree (Ok (command.Mv from to))).0) × ((step tree (command.Mv from to)).1 ≡ (step_line tree (Ok (command.Mv from to))).1)
  moved_line pair not_own goal_not_own is =
      let same = mv_line not_own goal_not_own ∙ ap (λ r. on tree r (λ (p : PlainEntry × Place). (reply.Ok, moved_over p.0 p.1 tree))) is in
      (sym (ap (λ s. s.0) same), sym (ap (λ s. s.1) (mv_line not_own goal_not_own)))

  pub mv_refused_line : (why : Refusal) → is_private_path from ≡ false → is_private_path to ≡ false → to_mv tree from to ≡ Err why
      → (reply.No why ≡ (step_line tree (Ok (command.Mv from to))).0) × (tree ≡ (step_line tree (Ok (command.Mv from to))).1)
  mv_refused_line why not_own goal_not_own is =
      let same = mv_line not_own goal_not_own ∙ ap (λ r. on tree r (λ (p : PlainEntry × Place). (reply.Ok, moved_over p.0 p.1 tree))) is in
      (sym (ap (λ s. s.0) same), sym (ap (λ s. s.1) same))

  pub mv_private_line : (is_private_path from || (is_private_path to || false)) ≡ true → (reply.No refusal.Private ≡ (step_line tree (Ok (command.Mv from to))).0) × (tree ≡ (step_line tree (Ok (command.Mv from to))).1)
  mv_private_line own =
      let same = ap (λ b. if b then (reply.No refusal.Private, tree) else step tree (command.Mv from to)) own in (sym (ap (λ s. s.0) same), sym (ap (λ s. s.1) same))

  -- the root is neither moved nor a new name
  pub mv_root_line : is_private_path from ≡ false → is_private_path to ≡ false → (is_root from || is_root to) ≡ true → (reply.No refusal.Root ≡ (step_line tree (Ok (command.Mv from to))).0) × (tree ≡ (step_line tree (Ok (command.Mv from to))).1)
  mv_root_line not_own goal_not_own root = mv_refused_line refusal.Root not_own goal_not_own
      (ap (λ b. then_ (then_ (if b then Err refusal.Root else Ok from) (λ named. then_ (reached tree named) (λ at. then_ (place tree to) (λ goal. Ok (at, goal))))) (λ pair. then_ (unless (stands_in_way pair.0 pair.1.found) refusal.Exists pair) (unless (is_below to from) refusal.Inside))) root)

pub root_of : (path : List (List ℕ)) → length path ≡ 0 → is_root path ≡ true
root_of [] none = refl
root_of (name ∷ path) none = absurd (omega (arith, none))
