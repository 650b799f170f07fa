-- `ln` of a file with one name where there was no private folder: the folder was made before, and both changes are one step.
use Rattle.std.proofs.Common.{◌≡◌, ◌⊎◌, inl, inr, ℕ, ◌+◌, Bool, true, false, List, [], ◌∷◌, refl, sym, ◌∙◌, ap, subst, arith, ⊎_elim}
use Rattle.std.specs.Prelude.{Contains, ◌==◌, ◌&&◌, ◌||◌, nat_le, Option, Some, Result, Ok, is_some}
use Rattle.std.specs.Option.{ok_or}
use Rattle.std.specs.Str.{bytes_eq}
use Rattle.std.proofs.lemmas.Bool.{and_parts, eqb-true, true≢false}
use Rattle.std.proofs.lemmas.Slice.Eq.{bytes_eq-Decides}
use Rattle.sector_disk.specs.Lists.{Content}
use Rattle.sector_disk.specs.Space.{Space}
use Rattle.btree_node.specs.Levels.{Pair}
use Rattle.hfs_language.specs.declared.command.Command.TheVariants as command
use Rattle.hfs_language.specs.declared.refusal.Refusal.{Refusal}
use Rattle.hfs_language.specs.declared.refusal.Refusal.TheVariants as refusal
use Rattle.hfs_language.specs.declared.reply.Reply.TheVariants as reply
use Rattle.hfs_model.specs.Plain.{IsPlainTree, entry_at, is_at, names_of, node_at, with_changed, with_entry}
use Rattle.hfs_model.specs.Step.{Place, child, drawn, front, is_private_name, is_root, last_name, link_ids, linked, marked, most_links, on, place_in, private_name, reached, root_entry, step, then_, to_ln, to_make, touched, unless, walk, with_private}
use Rattle.hfs_model.specs.declared.plain.PlainEntry.{PlainEntry}
use Rattle.hfs_model.specs.declared.plain.PlainNode.{PlainNode}
use Rattle.hfs_model.specs.declared.plain.PlainTree.{PlainTree}
use Rattle.hfs_volume.specs.Books.{SoundHasPlainTree}
use Rattle.hfs_volume.specs.Content.{VolumeState, records_of, volume_of}
use Rattle.hfs_volume.specs.Laws.{HeaderChanged}
use Rattle.hfs_volume.specs.Naming.{LinksFirst}
use Rattle.hfs_volume.specs.Records.{Placed, is_empty, is_placed_at, is_thread, placed_in, record_at}
use Rattle.hfs_volume.specs.TreeOf.{bytes_in, tree_of}
use Rattle.hfs_volume.proofs.Flat.{found_some}
use Rattle.hfs_volume.proofs.Members.{each_of}
use Rattle.hfs_volume.proofs.Named.{IsSeenName, named_entry}
use Rattle.hfs_volume.proofs.Reaching.{found_ok, if_ok, ok_same, then_ok}
use Rattle.hfs_volume.proofs.Sides.{is_entry_of}
use Rattle.volume_base.specs.Linking.{IsLinking}
use Rattle.volume_names.specs.Linking.{LinksAnew}
use Rattle.volume_base.specs.Lists.{lists_of}
use Rattle.volume_base.specs.Losing.{IsOnlyName}
use Rattle.volume_base.specs.Making.{free_place}
use Rattle.volume_names.specs.PrivateFolder.{HasOpened}
use Rattle.volume_base.specs.Standing.{IsSettled, IsStanding}
use Rattle.volume_base.specs.declared.volume.Volume.{Volume}
use Rattle.volume_names.proofs.FirstMade.{file_no_thread}
use Rattle.volume_names.proofs.LinkMade.{pair}
use Rattle.volume_names.proofs.PrivateLoss.{walk_same}
use Rattle.volume_names.proofs.PrivateSound.{private_new, record_same}
use Rattle.volume_base.proofs.Rising.{settled_is_plain, settled_sorted}

-- ---- on trees

abbrev pair_of : PlainEntry → Place → PlainEntry × Place
pair_of at goal = (at, goal)

abbrev link_of : Place → PlainNode → Result (PlainNode × Place) Refusal
link_of goal file = Ok (file, goal)

abbrev judged : PlainTree → PlainEntry × Place → Result (PlainEntry × Place) Refusal
judged tree pair = then_ (unless pair.0.folder refusal.IsFolder pair) (λ file. then_ (unless (is_some file.1.found) refusal.Exists file) (unless (nat_le most_links (names_of tree file.0.id)) refusal.TooManyLinks))

-- what may be linked doesn't hang on the private folder
ln_same : (tree : PlainTree) (from to : List (List ℕ)) → to_ln (with_private tree) from to ≡ to_ln tree from to
ln_same tree from to = λ i.
    then_ (then_ (unless (is_root from || is_root to) refusal.Root from) (λ named. then_ (walk_same tree root_entry named i) (λ at. then_ (then_ (walk_same tree root_entry (front to) i) (place_in tree (last_name to))) (λ goal. Ok (pair_of at goal))))) (judged tree)

make_same : (tree : PlainTree) (to : List (List ℕ)) → to_make (with_private tree) to ≡ to_make tree to
make_same tree to = λ i. then_ (unless (is_root to) refusal.Root to) (λ path. then_ (then_ (walk_same tree root_entry (front path) i) (place_in tree (last_name path))) (λ at. unless (is_some at.found) refusal.Exists at))

-- nor does whether it is allowed
linking_same : (tree : PlainTree) (from to : List (List ℕ)) (at : PlainEntry) (parent : ℕ) (old : List ℕ) (id folder : ℕ) (name : List ℕ) → IsLinking tree from to at parent old id folder name → IsLinking (with_private tree) from to at parent old id folder name
linking_same tree from to at parent old id folder name linking = record {
  goal_not_own = linking.goal_not_own;
  goal_named = linking.goal_named;
  allowed = ln_same tree from to ∙ linking.allowed;
  can_make = make_same tree to ∙ linking.can_make;
  place = linking.place;
  number = linking.number;
}

-- a private folder twice is one
twice : (tree : PlainTree) → with_private (with_private tree) ≡ with_private tree
twice tree = let same : (with_private tree).next_id + 0 ≡ (with_private tree).next_id = omega arith in λ i. record (with_private tree) { next_id = same i }

abbrev named_in : PlainNode → Place → PlainTree → PlainTree
named_in file to tree = touched to.folder (marked file.id (with_changed file.id (λ node. record node { linked = true }) (with_entry (record { parent = to.folder; name = to.name; folder = false; id = file.id }) (drawn (link_ids file) tree))))

abbrev stepped : PlainTree → Result (PlainNode × Place) Refusal → PlainTree
stepped tree r = (on tree r (λ pair. (reply.Ok, linked pair.0 pair.1 tree))).1

abbrev file_of : PlainTree → PlainEntry × Place → Result (PlainNode × Place) Refusal
file_of tree pair = then_ (ok_or (node_at tree pair.0.id) refusal.NotFound) (link_of pair.1)

answers : (tree : PlainTree) (from to : List (List ℕ)) (at : PlainEntry) (goal : Place) → to_ln tree from to ≡ Ok (pair_of at goal) → (node : PlainNode) → node_at tree at.id ≡ Some node → (step tree (command.Ln from to)).1 ≡ linked node goal tree
answers tree from to at goal allowed node found =
    ap (λ (r : Result (PlainEntry × Place) Refusal). stepped tree (then_ r (file_of tree))) allowed ∙ ap (λ (o : Option PlainNode). stepped tree (then_ (ok_or o refusal.NotFound) (link_of goal))) found

-- the private folder by itself is no other step
step_same : (tree : PlainTree) (from to : List (List ℕ)) (at : PlainEntry) (goal : Place) → to_ln tree from to ≡ Ok (pair_of at goal) → (node : PlainNode) → node_at tree at.id ≡ Some node → (step (with_private tree) (command.Ln from to)).1 ≡ (step tree (command.Ln from to)).1
step_same tree from to at goal allowed node found =
    answers (with_private tree) from to at goal (ln_same tree from to ∙ allowed) node found ∙ ap (named_in node goal) (twice tree) ∙ sym (answers tree from to at goal allowed node found)

-- ---- the file of an entry

-- what a walk comes to is where it begins, or an entry of the tree
walk_there : (tree : PlainTree) (path : List (List ℕ)) (from at : PlainEntry) → walk tree from path ≡ Ok at → (at ≡ from) ⊎ Contains tree.entries at
walk_there tree [] from at is = inl (sym (ok_same from at is))
walk_there tree (name ∷ path) from at is =
    let first = then_ok (child tree from name) (λ next. walk tree next path) at is in
    ⊎_elim
    (λ (same : at ≡ first.0). inr (subst (λ (e : PlainEntry). Contains tree.entries e) (sym same)
    (found_some (is_at from.id name) tree.entries first.0 (found_ok (entry_at tree from.id name) refusal.NotFound first.0 (if_ok from.folder (ok_or (entry_at tree from.id name) refusal.NotFound) refusal.NotFolder first.0 first.1).1)).0))
    (λ there. inr there)
    (walk_there tree path first.0 at first.2)

file_there : (tree : PlainTree) → IsPlainTree tree → (path : List (List ℕ)) (at : PlainEntry) → reached tree path ≡ Ok at → at.folder ≡ false → (node : PlainNode) × (node_at tree at.id ≡ Some node)
file_there tree plain path at is kind = ⊎_elim
    (λ (same : at ≡ root_entry). absurd (true≢false (ap (λ (e : PlainEntry). e.folder) (sym same) ∙ kind)))
    (λ there. let it = (plain.named at there).named in (it.0, it.1))
    (walk_there tree path root_entry at is)

-- ---- over volumes

module _ (law : HeaderChanged) (v : Volume) (a : Space) (settled : IsSettled v a.content) (was : IsStanding v a) (from to : List (List ℕ)) (at : PlainEntry) (parent : ℕ) (old : List ℕ) (id folder : ℕ) (name : List ℕ)
    (linking : IsLinking (tree_of a.content) from to at parent old id folder name) (only : IsOnlyName (record { parent = parent; name = old }) (lists_of v a.content).catalog_pairs) (w : Volume) (b : Content) (opened : HasOpened w a.content b)
  where
    pairs_are : (volume_of a.content).catalog_pairs ≡ (lists_of v a.content).catalog_pairs
    pairs_are = ap (λ (l : VolumeState). l.catalog_pairs) settled.lists

    pairs_then : (volume_of b).catalog_pairs ≡ (lists_of w b).catalog_pairs
    pairs_then = ap (λ (l : VolumeState). l.catalog_pairs) opened.settled.lists

    found_before : record_at (records_of (volume_of a.content)) parent old ≡ Some only.names.entry
    found_before = ap (λ (l : List Pair). record_at (placed_in l) parent old) pairs_are ∙ only.names.found

    there : Contains (records_of (volume_of a.content)) only.names.entry × (is_placed_at parent old only.names.entry ≡ true)
    there = found_some (is_placed_at parent old) (records_of (volume_of a.content)) only.names.entry found_before

    parent_is : only.names.entry.parent ≡ parent
    parent_is = eqb-true only.names.entry.parent parent (and_parts (only.names.entry.parent == parent) (bytes_eq only.names.entry.name old) there.1).0

    name_is : only.names.entry.name ≡ old
    name_is = (bytes_eq-Decides only.names.entry.name old).0 (and_parts (only.names.entry.parent == parent) (bytes_eq only.names.entry.name old) there.1).1

    named : is_empty only.names.entry.name ≡ false
    named = sym (each_of (λ (p : Placed). is_thread p.value ≡ is_empty p.name) (records_of (volume_of a.content)) settled.sound.entries.threads.kinds only.names.entry there.0) ∙ file_no_thread only.names.entry.value only.names.file

    it : IsSeenName (volume_of a.content) (bytes_in a.content) settled.sound at only.names.entry
    it = named_entry (volume_of a.content) (bytes_in a.content) settled.sound at only.names.entry (settled_sorted v a.content was.trees settled) (pair v a settled was from to at parent old id folder name linking).0.seen
        (is_entry_of (records_of (volume_of a.content)) only.names.entry there.0 named) (parent_is ∙ sym linking.place.0) (name_is ∙ sym linking.place.1)

    not_one : parent ≡ 1 → ⊥
    not_one one = true≢false (sym (ap (λ n. n == 1) (parent_is ∙ one)) ∙ it.shows.parent)

    not_own : ((parent == 2) && is_private_name old) ≡ false
    not_own = (λ i. (sym parent_is i == 2) && is_private_name (sym name_is i)) ∙ it.shows.not_own

    not_folder : is_placed_at parent old (record { parent = 2; name = private_name; value = opened.opens.value }) ≡ false
    not_folder = by (2 == parent) (bytes_eq private_name old) refl refl
      where
        by : (p q : Bool) → (2 == parent) ≡ p → bytes_eq private_name old ≡ q → (p && q) ≡ false
        by false q is other = refl
        by true false is other = refl
        by true true is other = absurd (true≢false ((λ i. (eqb-true 2 parent is i == 2) && is_private_name ((bytes_eq-Decides private_name old).0 other i)) ∙ not_own))

    found_then : record_at (records_of (volume_of b)) parent old ≡ record_at (records_of (volume_of a.content)) parent old
    found_then = record_same law (volume_of a.content) (volume_of b) settled.sound opened.opens parent old (ap is_empty (sym name_is) ∙ named) not_one not_folder

    -- the file stands under its only name behind the private folder, too
    pub only_then : IsOnlyName (record { parent = parent; name = old }) (lists_of w b).catalog_pairs
    only_then = record {
      names = record { entry = only.names.entry; found = ap (λ (l : List Pair). record_at (placed_in l) parent old) (sym pairs_then) ∙ found_then ∙ found_before; file = only.names.file };
      not_link = only.not_link;
    }

    pub linking_then : IsLinking (tree_of b) from to at parent old id folder name
    linking_then = subst (λ (t : PlainTree). IsLinking t from to at parent old id folder name) (sym opened.tree) (linking_same (tree_of a.content) from to at parent old id folder name linking)

    reaches : reached (tree_of a.content) from ≡ Ok at
    unfolding tree_of
    reaches = (pair v a settled was from to at parent old id folder name linking).0.reached_at

    -- both changes are the step
    pub anew_does : SoundHasPlainTree → (u : Volume) (e : Content) → IsSettled u e × (tree_of e ≡ (step (tree_of b) (command.Ln from to)).1) × LinksFirst at (free_place folder name) (volume_of b) (volume_of e)
        → IsSettled u e × (tree_of e ≡ (step (tree_of a.content) (command.Ln from to)).1) × LinksAnew at (free_place folder name) a.content e
    anew_does plain u e does =
        let node = file_there (tree_of a.content) (settled_is_plain plain v a.content was.trees settled) from at reaches (pair v a settled was from to at parent old id folder name linking).1 in (
          does.0,
          does.1 ∙ ap (λ (t : PlainTree). (step t (command.Ln from to)).1) opened.tree ∙ step_same (tree_of a.content) from to at (free_place folder name) linking.allowed node.0 node.1,
          record {
            opened = volume_of b;
            opens = inr opened.opens;
            sound = opened.settled.sound;
            there = ap (λ (o : Option ℕ). is_some o) (private_new law (volume_of a.content) (volume_of b) settled.sound opened.opens);
            first = does.2;
          },
        )

-- the same where the private folder was there
pub first_anew : (v : Volume) (a : Space) → IsSettled v a.content → (private : ℕ) → v.private ≡ Some private → (from to : List (List ℕ)) (at : PlainEntry) (place : Place) (u : Volume) (e : Content)
    → IsSettled u e × (tree_of e ≡ (step (tree_of a.content) (command.Ln from to)).1) × LinksFirst at place (volume_of a.content) (volume_of e)
    → IsSettled u e × (tree_of e ≡ (step (tree_of a.content) (command.Ln from to)).1) × LinksAnew at place a.content e
first_anew v a settled private here from to at place u e does = (
  does.0,
  does.1,
  record { opened = volume_of a.content; opens = inl refl; sound = settled.sound; there = ap (λ (o : Option ℕ). is_some o) (sym settled.private ∙ here); first = does.2 },
)
