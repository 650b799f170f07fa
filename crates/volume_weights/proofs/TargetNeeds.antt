-- What a new link needs by the numbers that a volume keeps is what it needs by its content's.
use Rattle.std.proofs.Common.{◌≡◌, ◌⊎◌, inl, inr, ◌<◌, ◌≤◌, ℕ, ◌+◌, Bool, List, [], ◌∷◌, length, refl, sym, ◌∙◌, ap, arith}
use Rattle.std.specs.Prelude.{◌==◌, max, Option, None, Some}
use Rattle.std.proofs.lemmas.Bool.{eqb-true}
use Rattle.sector_disk.specs.Lists.{Content}
use Rattle.hx_bytes.specs.declared.extents.Extent.{Extent}
use Rattle.flag_rows.specs.Runs.{fewest_of}
use Rattle.hfs_volume.specs.Content.{VolumeState, overflow_in_volume, records_of, volume_of}
use Rattle.hfs_volume.specs.Cost.{cost_of}
use Rattle.hfs_volume.specs.Entries.{IsUserId}
use Rattle.hfs_volume.specs.Forks.{data_kind}
use Rattle.hfs_volume.specs.Records.{Placed, entries_of, entry_of, id_of}
use Rattle.hfs_volume.specs.Sound.{IsSoundVolume}
use Rattle.hfs_volume.specs.Weight.{Data, extents_edits, extents_found, file_extents, file_fork, free_blocks, free_runs, new_blocks_of, old_blocks_of, room_with}
use Rattle.hfs_volume.specs.declared.cost.Cost.{Cost}
use Rattle.hfs_volume.specs.declared.cost.Needs.{Needs}
use Rattle.hfs_volume.proofs.Flat.{found_some}
use Rattle.hfs_volume.proofs.Members.{each_of}
use Rattle.volume_weights.specs.DataWeighing.{needs_link}
use Rattle.volume_base.specs.DataWeighing.{data_as, needs_target, target_of}
use Rattle.volume_base.specs.Room.{free_in}
use Rattle.volume_base.specs.Standing.{IsSettled}
use Rattle.volume_base.specs.declared.data_cost.Put.{Put}
use Rattle.volume_base.specs.declared.room.FreeBlocks.TheVariants as blocks
use Rattle.volume_base.specs.declared.volume.Volume.{Volume}
use Rattle.volume_base.proofs.RoomKept.{free_content}

-- no entry has the next CNID
pub none_next : (volume : VolumeState) → IsSoundVolume volume → entry_of (records_of volume) volume.head.next_catalog_id ≡ None
none_next volume sound = by_case (entry_of (records_of volume) volume.head.next_catalog_id) refl
  where
    by_case : (o : Option Placed) → entry_of (records_of volume) volume.head.next_catalog_id ≡ o → entry_of (records_of volume) volume.head.next_catalog_id ≡ None
    by_case None found = found
    by_case (Some e) found =
        let it = found_some (λ (p : Placed). id_of p == volume.head.next_catalog_id) (entries_of (records_of volume)) e found in
        let same : id_of e ≡ volume.head.next_catalog_id = eqb-true (id_of e) volume.head.next_catalog_id it.1 in
        elim (each_of (λ (q : Placed). IsUserId volume.head.next_catalog_id (id_of q)) (entries_of (records_of volume)) sound.entries.ids.each e it.0) [
          | inl two ↦ absurd (omega (arith, two, same, sound.blocks.header.next_id))
          | inr high ↦ absurd (omega (arith, high.1, same))
        ]

-- so its file has no extent
pub no_extents : (volume : VolumeState) → IsSoundVolume volume → length (file_extents volume volume.head.next_catalog_id data_kind) ≡ 0
no_extents volume sound = ap (λ (o : Option Placed). length (extents_found (overflow_in_volume volume) volume.head.next_catalog_id data_kind (file_fork data_kind o))) (none_next volume sound)

module _ (v : Volume) (content : Content) (settled : IsSettled v content) (long : ℕ) where
  abbrev put : Put
  put = record { id = v.header.next_catalog_id; old_size = 0; from = 0; end = long }

  data_is : data_as put ≡ target_of (volume_of content) long
  data_is =
      let most : max 0 long ≡ long = omega arith in
      λ i. record { id = sym (ap (λ (l : VolumeState). l.head.next_catalog_id) settled.lists) i; old_size = 0; new_size = most i; from = 0; end = long }

  needs_are : (free : List Bool) → needs_link free v.header.block_size (data_as put) ≡ needs_target free (volume_of content) long
  needs_are free =
      (λ i. needs_link free (sym (ap (λ (l : VolumeState). l.head.block_size) settled.lists) i) (data_is i))
      ∙ (λ i. record (needs_link free (volume_of content).head.block_size (target_of (volume_of content) long)) {
        edits = extents_edits (sym (no_extents (volume_of content) settled.sound) i) (fewest_of (new_blocks_of (volume_of content).head.block_size (target_of (volume_of content) long)) (free_runs free)) (new_blocks_of (volume_of content).head.block_size (target_of (volume_of content) long)) ∷ 2 ∷ 0 ∷ [];
      })

  -- what it costs of all free blocks, and of those that may be taken
  pub all_costs : (capacity : ℕ) (found : Cost) → found ≡ cost_of (needs_link (free_in blocks.All v.map) v.header.block_size (data_as put)) (room_with capacity (free_in blocks.All v.map) (volume_of content))
      → found ≡ cost_of (needs_target (free_blocks (volume_of content)) (volume_of content) long) (room_with capacity (free_blocks (volume_of content)) (volume_of content))
  all_costs capacity found cost =
      cost ∙ ap (λ (n : Needs). cost_of n (room_with capacity (free_in blocks.All v.map) (volume_of content))) (needs_are (free_in blocks.All v.map))
      ∙ (λ i. cost_of (needs_target (free_content v content settled i) (volume_of content) long) (room_with capacity (free_content v content settled i) (volume_of content)))

  pub takable_costs : (capacity : ℕ) (found : Cost) → found ≡ cost_of (needs_link (free_in blocks.Takable v.map) v.header.block_size (data_as put)) (room_with capacity (free_in blocks.Takable v.map) (volume_of content))
      → found ≡ cost_of (needs_target (free_in blocks.Takable v.map) (volume_of content) long) (room_with capacity (free_in blocks.Takable v.map) (volume_of content))
  takable_costs capacity found cost = cost ∙ ap (λ (n : Needs). cost_of n (room_with capacity (free_in blocks.Takable v.map) (volume_of content))) (needs_are (free_in blocks.Takable v.map))
