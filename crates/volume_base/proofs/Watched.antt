-- What a path stands for, with the folder above, is the entry that it reaches on the tree.
use Rattle.std.proofs.Common.{◌≡◌, ℕ, Bool, true, false, List, [], ◌∷◌, length, refl, sym, ◌∙◌, ap, subst, arith}
use Rattle.std.specs.Prelude.{Result, Ok, Err, if◌then◌else◌}
use Rattle.std.specs.List.{flat_map}
use Rattle.sector_disk.specs.Lists.{Content}
use Rattle.btree_node.specs.Levels.{Pair}
use Rattle.hfs_language.specs.Written.{FitsPath}
use Rattle.hfs_language.specs.declared.refusal.Refusal.{Refusal}
use Rattle.hfs_language.specs.declared.refusal.Refusal.TheVariants as refusal
use Rattle.hfs_model.specs.Plain.{IsPlainTree}
use Rattle.hfs_model.specs.Step.{child, front, is_private_path, is_root, last_name, reached, root_entry, then_, walk}
use Rattle.hfs_model.specs.declared.plain.PlainEntry.{PlainEntry}
use Rattle.hfs_model.specs.declared.plain.PlainTree.{PlainTree}
use Rattle.hfs_model.proofs.Below.{front-last, last_name-last}
use Rattle.hfs_volume.specs.Books.{SoundHasPlainTree}
use Rattle.hfs_volume.specs.Changes.{AreSorted}
use Rattle.hfs_volume.specs.Content.{VolumeState, volume_of, overflow_in_volume}
use Rattle.hfs_volume.specs.Entries.{AreThreaded, AreRooted, HaveIds}
use Rattle.hfs_volume.specs.Links.{AreGoodLinks, private_id}
use Rattle.hfs_volume.specs.Records.{Overflow, entries_of, placed_in}
use Rattle.hfs_volume.specs.TreeOf.{tree_of, seen_entry}
use Rattle.volume_base.specs.Lists.{lists_of}
use Rattle.volume_base.specs.Making.{path_to}
use Rattle.volume_base.specs.Owning.{id_reached}
use Rattle.volume_base.specs.Reaching.{folder_reached, walk_in}
use Rattle.volume_base.specs.Standing.{HoldsTrees, IsSettled}
use Rattle.volume_base.specs.Watching.{standing_in}
use Rattle.volume_base.specs.declared.reaching.Reached.{Reached}
use Rattle.volume_base.specs.declared.reaching.Reached.TheVariants as where_reached
use Rattle.volume_base.specs.declared.volume.Volume.{Volume}
use Rattle.volume_base.specs.declared.watching.Standing.{Standing}
use Rattle.volume_base.proofs.Listed.{entries_are}
use Rattle.volume_base.proofs.Rising.{settled_is_plain, settled_sorted}
use Rattle.volume_base.proofs.Routed.{child_is}
use Rattle.volume_base.proofs.Sited.{not_root}
use Rattle.volume_base.proofs.Siting.{front_fits, front_free, front_tree}
use Rattle.volume_base.proofs.Walked.{Agree, IsReached, path_same}

-- where an entry stands
abbrev pub place_of : PlainEntry → Standing
place_of entry = record { id = entry.id; parent = entry.parent }

module _ (pairs : List Pair) (next : ℕ) (ids : HaveIds next (entries_of (placed_in pairs))) (rooted : AreRooted (entries_of (placed_in pairs))) (threads : AreThreaded pairs) (overflow : List Overflow) (links : AreGoodLinks (placed_in pairs) overflow) (order : AreSorted pairs)
    (tree : PlainTree) (same_entries : tree.entries ≡ flat_map (seen_entry (placed_in pairs)) (placed_in pairs)) (plain : IsPlainTree tree)
  where
    abbrev Same : Reached → PlainEntry → Type 0
    Same = IsReached pairs next ids rooted threads overflow links order tree same_entries plain

    module _ (path : List (List ℕ)) (at : PlainEntry) where
      abbrev stands : Result Reached Refusal → Result Reached Refusal → Result Standing Refusal
      stands above whole = then_ (then_ whole (λ q. Ok (id_reached pairs (private_id (placed_in pairs)) q))) (λ id. then_ (then_ above folder_reached) (λ parent. Ok (record { id = id; parent = parent })))

      by_whole : (q : Reached) (e : PlainEntry) → Same q e → child tree e (last_name path) ≡ Ok at → (w : Result Reached Refusal) → Agree Same w (Ok at) → stands (Ok q) w ≡ Ok (place_of at)
      by_whole q e it found (Err why) never = absurd never
      by_whole q e it found (Ok m) same =
          let here = child_is tree e at (last_name path) found in
          let folder : folder_reached q ≡ Ok e.id = it.folder ∙ ap (λ b. if b then Ok e.id else Err refusal.NotFolder) here.0 in
          ap (λ (f : Result ℕ Refusal). then_ f (λ parent. Ok (record { id = id_reached pairs (private_id (placed_in pairs)) m; parent = parent }))) folder
          ∙ (λ i. Ok (record { id = same.id i; parent = sym here.1 i }))

      by_front : (r : Result Reached Refusal) (s : Result PlainEntry Refusal) → Agree Same r s → then_ s (λ e. child tree e (last_name path)) ≡ Ok at → (w : Result Reached Refusal) → Agree Same w (Ok at)
          → (stands r w ≡ Ok (place_of at)) × (at.name ≡ last_name path)
      by_front (Err why) (Err other) same never w whole = absurd (cc never)
      by_front (Ok q) (Err other) never found w whole = absurd never
      by_front (Err why) (Ok e) never found w whole = absurd never
      by_front (Ok q) (Ok e) it found w whole = (by_whole q e it found w whole, (child_is tree e at (last_name path) found).2)

      pub standing_same : is_root path ≡ false → is_private_path path ≡ false → FitsPath path → reached tree path ≡ Ok at
          → (standing_in pairs (private_id (placed_in pairs)) path (front path) ≡ Ok (place_of at)) × (at.name ≡ last_name path)
      standing_same some free fits is =
          by_front (walk_in pairs where_reached.Root (front path)) (walk tree root_entry (front path))
          (path_same pairs next ids rooted threads overflow links order tree same_entries plain (front path) (front_free path free) (front_fits path fits))
          (sym (front_tree tree path some root_entry) ∙ is) (walk_in pairs where_reached.Root path)
          (subst (λ (k : Result PlainEntry Refusal). Agree Same (walk_in pairs where_reached.Root path) k) is (path_same pairs next ids rooted threads overflow links order tree same_entries plain path free fits))

-- ---- the root

abbrev entry_or : PlainEntry → Result PlainEntry Refusal → PlainEntry
entry_or other (Ok e) = e
entry_or other (Err why) = other

pub root_is : (tree : PlainTree) (path : List (List ℕ)) (at : PlainEntry) → length path ≡ 0 → reached tree path ≡ Ok at → root_entry ≡ at
root_is tree [] at none is = ap (entry_or at) is
root_is tree (name ∷ path) at none is = absurd (omega (arith, none))

-- ---- over a settled volume

module _ (law : SoundHasPlainTree) (v : Volume) (content : Content) (holds : HoldsTrees v content) (settled : IsSettled v content) (path above : List (List ℕ)) (name : List ℕ) (split : path ≡ path_to above name) (not_own : is_private_path path ≡ false) (fits : FitsPath path)
    (said : Result Standing Refusal) (found : said ≡ standing_in (lists_of v content).catalog_pairs v.private path above)
  where
    pub standing_told : (at : PlainEntry) → reached (tree_of content) path ≡ Ok at → (said ≡ Ok (place_of at)) × (at.name ≡ name)
    standing_told at is =
        let sound = settled.sound.entries in
        let told = standing_same (volume_of content).catalog_pairs (volume_of content).head.next_catalog_id sound.ids sound.rooted sound.threads (overflow_in_volume (volume_of content)) settled.sound.links.good (settled_sorted v content holds settled)
        (tree_of content) (entries_are content) (settled_is_plain law v content holds settled) path at (ap is_root split ∙ not_root above name) not_own fits is in (
          found ∙ (λ i. standing_in (sym (ap (λ (l : VolumeState). l.catalog_pairs) settled.lists) i) (settled.private i) path (sym (ap front split ∙ front-last above name) i)) ∙ told.0,
          told.1 ∙ ap last_name split ∙ last_name-last above name,
        )

-- what stands there, if it was told
abbrev pub standing_value : Standing → Result Standing Refusal → Standing
standing_value other (Ok at) = at
standing_value other (Err why) = other

pub not_err : (why : Refusal) (at : Standing) (said : Result Standing Refusal) → said ≡ Err why → said ≡ Ok at → ⊥
not_err why at said err ok = let no : Err why ≡ Ok at = sym err ∙ ok in cc no
