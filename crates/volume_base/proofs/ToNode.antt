-- What a path stands for by the records is the folder or file that it stands for on the tree; and what `chmod` answers.
use Rattle.std.proofs.Common.{◌≡◌, ℕ, Bool, true, false, List, refl, sym, ◌∙◌, ap, subst}
use Rattle.std.specs.Prelude.{Contains, ◌||◌, Option, Some, None, Result, Ok, Err, if◌then◌else◌}
use Rattle.std.specs.Option.{ok_or}
use Rattle.std.specs.List.{flat_map}
use Rattle.std.proofs.lemmas.Bool.{eqb-true}
use Rattle.sector_disk.specs.Lists.{Content}
use Rattle.btree_node.specs.Levels.{Pair}
use Rattle.hfs_language.specs.Written.{FitsPath}
use Rattle.hfs_language.specs.declared.command.Command.TheVariants as command
use Rattle.hfs_language.specs.declared.refusal.Refusal.{Refusal}
use Rattle.hfs_language.specs.declared.refusal.Refusal.TheVariants as refusal
use Rattle.hfs_language.specs.declared.reply.Reply.TheVariants as reply
use Rattle.hfs_model.specs.Plain.{IsPlainTree, node_at, is_node, with_changed, with_mode}
use Rattle.hfs_model.specs.Step.{is_private_path, then_, root_entry, walk, on, marked, step, step_line, to_node}
use Rattle.hfs_model.specs.declared.plain.PlainEntry.{PlainEntry}
use Rattle.hfs_model.specs.declared.plain.PlainNode.{PlainNode}
use Rattle.hfs_model.specs.declared.plain.PlainTree.{PlainTree}
use Rattle.hfs_volume.specs.Books.{SoundHasPlainTree}
use Rattle.hfs_volume.specs.Changes.{AreSorted}
use Rattle.hfs_volume.specs.Content.{VolumeState, volume_of, overflow_in_volume}
use Rattle.hfs_volume.specs.Entries.{AreThreaded, AreRooted, HaveIds}
use Rattle.hfs_volume.specs.Links.{AreGoodLinks, private_id}
use Rattle.hfs_volume.specs.Records.{Overflow, placed_in, entries_of}
use Rattle.hfs_volume.specs.TreeOf.{tree_of, seen_entry}
use Rattle.hfs_volume.proofs.Flat.{found_some}
use Rattle.volume_base.specs.Lists.{lists_of}
use Rattle.volume_base.specs.Owning.{id_reached, owner_in}
use Rattle.volume_base.specs.Reaching.{walk_in}
use Rattle.volume_base.specs.Standing.{HoldsTrees, IsSettled}
use Rattle.volume_base.specs.declared.reaching.Reached.{Reached}
use Rattle.volume_base.specs.declared.reaching.Reached.TheVariants as reached
use Rattle.volume_base.specs.declared.volume.Volume.{Volume}
use Rattle.volume_base.proofs.Listed.{entries_are}
use Rattle.volume_base.proofs.Rising.{settled_is_plain, settled_sorted}
use Rattle.volume_base.proofs.Walked.{Agree, IsReached, path_same}

-- two answers: the same reason, or a CNID and the folder or file that has it
abbrev pub Tells : Result ℕ Refusal → Result PlainNode Refusal → Type 0
Tells (Ok id) (Ok node) = node.id ≡ id
Tells (Err why) (Err other) = why ≡ other
Tells (Ok id) (Err other) = ⊥
Tells (Err why) (Ok node) = ⊥

module _ (pairs : List Pair) (next : ℕ) (ids : HaveIds next (entries_of (placed_in pairs))) (rooted : AreRooted (entries_of (placed_in pairs))) (threads : AreThreaded pairs) (overflow : List Overflow) (links : AreGoodLinks (placed_in pairs) overflow) (order : AreSorted pairs)
    (tree : PlainTree) (same_entries : tree.entries ≡ flat_map (seen_entry (placed_in pairs)) (placed_in pairs)) (plain : IsPlainTree tree)
  where
    node_same : (path : List (List ℕ)) → is_private_path path ≡ false → FitsPath path → Tells (owner_in pairs (private_id (placed_in pairs)) path) (to_node tree path)
    node_same path not_own fits = by_walk (walk_in pairs reached.Root path) (walk tree root_entry path) (path_same pairs next ids rooted threads overflow links order tree same_entries plain path not_own fits)
      where
        by_walk : (r : Result Reached Refusal) (s : Result PlainEntry Refusal) → Agree (IsReached pairs next ids rooted threads overflow links order tree same_entries plain) r s
            → Tells (then_ r (λ at. Ok (id_reached pairs (private_id (placed_in pairs)) at))) (then_ s (λ at. ok_or (node_at tree at.id) refusal.NotFound))
        by_walk (Err why) (Err other) same = same
        by_walk (Ok at) (Err other) never = absurd never
        by_walk (Err why) (Ok e) never = absurd never
        by_walk (Ok at) (Ok e) it =
            let node = it.node.0 in
            let found = found_some (is_node e.id) tree.nodes node it.node.1 in
            subst (λ (o : Option PlainNode). Tells (Ok (id_reached pairs (private_id (placed_in pairs)) at)) (ok_or o refusal.NotFound)) (sym it.node.1) (eqb-true node.id e.id found.1 ∙ sym it.id)

-- ---- over a settled volume

tells_ok : (id : ℕ) (r : Result PlainNode Refusal) → Tells (Ok id) r → (node : PlainNode) × (r ≡ Ok node) × (node.id ≡ id)
tells_ok id (Ok node) same = (node, refl, same)
tells_ok id (Err other) never = absurd never

tells_err : (why : Refusal) (r : Result PlainNode Refusal) → Tells (Err why) r → r ≡ Err why
tells_err why (Ok node) never = absurd never
tells_err why (Err other) same = ap Err (sym same)

module _ (law : SoundHasPlainTree) (v : Volume) (content : Content) (holds : HoldsTrees v content) (settled : IsSettled v content) (path : List (List ℕ)) (not_own : is_private_path path ≡ false) (fits : FitsPath path) (said : Result ℕ Refusal)
    (found : said ≡ owner_in (lists_of v content).catalog_pairs v.private path)
  where
    tells : Tells said (to_node (tree_of content) path)
    tells =
        let sound = settled.sound.entries in
        subst (λ (r : Result ℕ Refusal). Tells r (to_node (tree_of content) path))
        (sym (found ∙ (λ i. owner_in (sym (ap (λ (l : VolumeState). l.catalog_pairs) settled.lists) i) (settled.private i) path)))
        (node_same (volume_of content).catalog_pairs (volume_of content).head.next_catalog_id sound.ids sound.rooted sound.threads (overflow_in_volume (volume_of content)) settled.sound.links.good (settled_sorted v content holds settled)
        (tree_of content) (entries_are content) (settled_is_plain law v content holds settled) path not_own fits)

    -- the folder or file whose CNID was told
    pub node_told : (id : ℕ) → said ≡ Ok id → (node : PlainNode) × (to_node (tree_of content) path ≡ Ok node) × (node.id ≡ id)
    node_told id ok = tells_ok id (to_node (tree_of content) path) (subst (λ (r : Result ℕ Refusal). Tells r (to_node (tree_of content) path)) ok tells)

    pub node_refused : (why : Refusal) → said ≡ Err why → to_node (tree_of content) path ≡ Err why
    node_refused why err = tells_err why (to_node (tree_of content) path) (subst (λ (r : Result ℕ Refusal). Tells r (to_node (tree_of content) path)) err tells)

abbrev node_or : PlainNode → Result PlainNode Refusal → PlainNode
node_or other (Ok node) = node
node_or other (Err why) = other

-- the folder or file stands in the tree
pub node_there : (tree : PlainTree) (path : List (List ℕ)) (node : PlainNode) → to_node tree path ≡ Ok node → Contains tree.nodes node
node_there tree path node is = by (walk tree root_entry path) is
  where
    of_found : (id : ℕ) (o : Option PlainNode) → node_at tree id ≡ o → ok_or o refusal.NotFound ≡ Ok node → Contains tree.nodes node
    of_found id None found same = absurd (cc same)
    of_found id (Some other) found same = subst (λ (n : PlainNode). Contains tree.nodes n) (ap (node_or node) same) (found_some (is_node id) tree.nodes other found).0

    by : (r : Result PlainEntry Refusal) → then_ r (λ at. ok_or (node_at tree at.id) refusal.NotFound) ≡ Ok node → Contains tree.nodes node
    by (Ok e) same = of_found e.id (node_at tree e.id) refl same
    by (Err why) same = absurd (cc same)

-- ---- `chmod`

module _ (tree : PlainTree) (path : List (List ℕ)) (rights : ℕ) (not_own : is_private_path path ≡ false) where
  line : step_line tree (Ok (command.Chmod path rights)) ≡ step tree (command.Chmod path rights)
  line = ap (λ b. if b || false then (reply.No refusal.Private, tree) else step tree (command.Chmod path rights)) not_own

  pub mode_replied : (node : PlainNode) → to_node tree path ≡ Ok node → reply.Ok ≡ (step_line tree (Ok (command.Chmod path rights))).0
  mode_replied node is = sym (ap (λ s. s.0) line ∙ ap (λ r. (on tree r (λ (n : PlainNode). (reply.Ok, marked n.id (with_changed n.id (with_mode rights) tree)))).0) is)

  pub mode_line : (step tree (command.Chmod path rights)).1 ≡ (step_line tree (Ok (command.Chmod path rights))).1
  mode_line = sym (ap (λ s. s.1) line)

  pub mode_refused : (why : Refusal) → to_node tree path ≡ Err why → (reply.No why ≡ (step_line tree (Ok (command.Chmod path rights))).0) × (tree ≡ (step_line tree (Ok (command.Chmod path rights))).1)
  mode_refused why is = (
    sym (ap (λ s. s.0) line ∙ ap (λ r. (on tree r (λ (n : PlainNode). (reply.Ok, marked n.id (with_changed n.id (with_mode rights) tree)))).0) is),
    sym (ap (λ s. s.1) line ∙ ap (λ r. (on tree r (λ (n : PlainNode). (reply.Ok, marked n.id (with_changed n.id (with_mode rights) tree)))).1) is),
  )

pub mode_private : (tree : PlainTree) (path : List (List ℕ)) (rights : ℕ) → is_private_path path ≡ true → (reply.No refusal.Private ≡ (step_line tree (Ok (command.Chmod path rights))).0) × (tree ≡ (step_line tree (Ok (command.Chmod path rights))).1)
mode_private tree path rights own = (
  sym (ap (λ b. (if b || false then (reply.No refusal.Private, tree) else step tree (command.Chmod path rights)).0) own),
  sym (ap (λ b. (if b || false then (reply.No refusal.Private, tree) else step tree (command.Chmod path rights)).1) own),
)
