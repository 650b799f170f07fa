-- With another mark in its header, and the header put, a volume is settled again, and its tree is as it was.
use Rattle.std.proofs.Common.{◌≡◌, ℕ, ◌<◌, ◌+◌, ◌-◌, ◌*◌, ◌/◌, ◌%◌, ◌^◌, Bool, true, false, bit_or, not, nat_lt, None, refl, sym, ◌∙◌, ap, subst, arith}
use Rattle.std.specs.Prelude.{◌==◌, ◌||◌, Some, if◌then◌else◌}
use Rattle.std.specs.Int.{bit_at}
use Rattle.std.proofs.lemmas.Nat.{or_of_32}
use Rattle.std.proofs.lemmas.Nat.Bits.{bit_at_or}
use Rattle.sector_disk.specs.Space.{Space}
use Rattle.volume_header.specs.Header.{FitsHeader}
use Rattle.volume_header.specs.Refusal.{fits_blocks, header_refusal, is_block_size, is_hfsx, is_volume_size}
use Rattle.volume_header.specs.declared.header.VolumeHeader.{VolumeHeader}
use Rattle.volume_header.specs.declared.refusal.HeaderRefusal.TheVariants.{LimitSectors, NotHfsx, BadGeometry, NotJournaled, IdsReused}
use Rattle.hfs_volume.specs.Attributing.{IsRemounted, RemountKeeps, with_header_numbers}
use Rattle.hfs_volume.specs.Blocks.{IsGoodHeader}
use Rattle.hfs_volume.specs.Changes.{with_numbers}
use Rattle.hfs_volume.specs.Content.{VolumeState, volume_of}
use Rattle.hfs_volume.specs.Links.{private_id}
use Rattle.hfs_volume.specs.Reclaim.{mounted_header}
use Rattle.hfs_volume.specs.Records.{placed_in}
use Rattle.hfs_volume.specs.Sound.{IsSoundVolume}
use Rattle.hfs_volume.specs.TreeOf.{bytes_in, tree_in, tree_of}
use Rattle.volume_base.specs.Changing.{ChangesCatalog, PutsHeader}
use Rattle.volume_names.specs.Mounting.{marked_header, unmounted_header}
use Rattle.volume_base.specs.Standing.{IsStanding, IsSettled}
use Rattle.volume_base.specs.declared.volume.Volume.{Volume}
use Rattle.volume_base.proofs.ListsAgain.{lists_again}
use Rattle.volume_base.proofs.ListsAfter.{numbers_change, changes_both}
use Rattle.volume_base.proofs.Settling.{lists_then, settles_again, tree_again}

-- ---- other numbers in the header

-- a volume with the numbers of another header
abbrev pub numbered : VolumeHeader → Volume → Volume
numbered other volume = record volume { header = with_numbers volume.header other }

module _ (law : RemountKeeps) (other : VolumeHeader) (v : Volume) (a b : Space) (settled : IsSettled v a.content) (was : IsStanding v a) (stands : IsStanding (numbered other v) b) (put : PutsHeader (numbered other v) a.content b.content)
    (good : IsGoodHeader (volume_of a.content).sectors (with_numbers (volume_of a.content).head other)) (remounted : IsRemounted (volume_of a.content).head other)
  where
    changes : ChangesCatalog v (numbered other v) a.content b.content
    changes = changes_both v (numbered other v) (numbered other v) a.content a.content b.content (numbers_change v other a.content) put.changes

    told : lists_then a.content (numbered other v) b.content ≡ with_header_numbers other (volume_of a.content)
    told = (λ i. record (put.lists i) { attributes_tree = (volume_of a.content).attributes_tree }) ∙ sym (λ i. record (settled.lists i) { head = with_numbers (settled.lists i).head other })

    does : IsSoundVolume (with_header_numbers other (volume_of a.content)) × (tree_in (with_header_numbers other (volume_of a.content)) (bytes_in a.content) ≡ tree_in (volume_of a.content) (bytes_in a.content))
    does = law other (volume_of a.content) (bytes_in a.content) settled.sound good remounted

    sound : IsSoundVolume (lists_then a.content (numbered other v) b.content)
    sound = subst IsSoundVolume (sym told) does.0

    pub numbered_settles : IsSettled (numbered other v) b.content
    numbered_settles = settles_again v (numbered other v) a b changes settled was stands put.headed sound (ap (λ (l : VolumeState). private_id (placed_in l.catalog_pairs)) put.lists)

    pub numbered_lists : volume_of b.content ≡ with_header_numbers other (volume_of a.content)
    numbered_lists = lists_again v (numbered other v) a b changes settled was numbered_settles ∙ told

    pub numbered_tree : tree_of b.content ≡ tree_of a.content
    unfolding tree_of
    numbered_tree = tree_again v (numbered other v) a b changes settled was stands put.headed sound ∙ ap (λ (l : VolumeState). tree_in l (bytes_in a.content)) told ∙ does.1

-- ---- the mark

-- bits 12 and 13 of the attributes
pub record KeepsBits (old new : ℕ) : Type 0 where
  pub reused : bit_at new 12 ≡ bit_at old 12
  pub journaled : bit_at new 13 ≡ bit_at old 13

mounted_bits : (n : ℕ) → KeepsBits n ((n - (n / 256 % 2) * 256) % 2 ^ 31)
mounted_bits n = record { reused = omega arith; journaled = omega arith }

unmounted_bits : (n : ℕ) → KeepsBits n (bit_or n 256)
unmounted_bits n = record { reused = bit_at_or n 256 12 ∙ omega arith; journaled = bit_at_or n 256 13 ∙ omega arith }

-- what is accepted hangs on these bits alone
refusal_same : (sectors : ℕ) (head : VolumeHeader) (n : ℕ) → KeepsBits head.attributes n → header_refusal (record head { attributes = n }) sectors ≡ header_refusal head sectors
refusal_same sectors head n keeps = λ i.
    if not (is_volume_size sectors) then Some (LimitSectors sectors)
    else if not (is_hfsx head) then Some (NotHfsx head.signature head.version)
    else if not (is_block_size head.block_size) then Some (BadGeometry 40)
    else if not (fits_blocks head sectors) then Some (BadGeometry 44)
    else if not (not (keeps.journaled i == 1) || nat_lt head.journal_info_block head.total_blocks) then Some (BadGeometry 12)
    else if not (keeps.journaled i == 1) then Some NotJournaled
    else if keeps.reused i == 1 then Some IdsReused
    else None

mark_good : (in_use : Bool) (sectors : ℕ) (head : VolumeHeader) → IsGoodHeader sectors head → IsGoodHeader sectors (with_numbers head (marked_header in_use head))
mark_good true sectors head good = record { accepted = refusal_same sectors head ((head.attributes - (head.attributes / 256 % 2) * 256) % 2 ^ 31) (mounted_bits head.attributes) ∙ good.accepted; next_id = good.next_id }
mark_good false sectors head good = record { accepted = refusal_same sectors head (bit_or head.attributes 256) (unmounted_bits head.attributes) ∙ good.accepted; next_id = good.next_id }

mark_remounts : (in_use : Bool) (head : VolumeHeader) → IsRemounted head (marked_header in_use head)
mark_remounts true head = record { files = refl; folders = refl; free = refl; next = refl; moment = refl }
mark_remounts false head = record { files = refl; folders = refl; free = refl; next = refl; moment = refl }

pub mark_is : (in_use : Bool) (head : VolumeHeader) → with_numbers head (marked_header in_use head) ≡ marked_header in_use head
mark_is true head = refl
mark_is false head = refl

-- the header that was put is the marked one
pub marks : (law : RemountKeeps) (in_use : Bool) (v : Volume) (head : VolumeHeader) → head ≡ marked_header in_use v.header → (a b : Space) → IsSettled v a.content → IsStanding v a → IsStanding (record v { header = head }) b → PutsHeader (record v { header = head }) a.content b.content
    → IsSettled (record v { header = head }) b.content × (tree_of b.content ≡ tree_of a.content) × (volume_of b.content ≡ record (volume_of a.content) { head = marked_header in_use (volume_of a.content).head })
marks law in_use v head is a b settled was =
    subst (λ (h : VolumeHeader). IsStanding (record v { header = h }) b → PutsHeader (record v { header = h }) a.content b.content → IsSettled (record v { header = h }) b.content × (tree_of b.content ≡ tree_of a.content) × (volume_of b.content ≡ record (volume_of a.content) { head = marked_header in_use (volume_of a.content).head }))
    (mark_is in_use v.header ∙ sym is)
    (λ stands put. (
      numbered_settles law (marked_header in_use v.header) v a b settled was stands put good remounted,
      numbered_tree law (marked_header in_use v.header) v a b settled was stands put good remounted,
      numbered_lists law (marked_header in_use v.header) v a b settled was stands put good remounted ∙ (λ i. record (volume_of a.content) { head = with_numbers (volume_of a.content).head (marked_header in_use (sym head_is i)) })
          ∙ (λ i. record (volume_of a.content) { head = mark_is in_use (volume_of a.content).head i }),
    ))
  where
    head_is : (volume_of a.content).head ≡ v.header
    head_is = ap (λ (l : VolumeState). l.head) settled.lists

    good : IsGoodHeader (volume_of a.content).sectors (with_numbers (volume_of a.content).head (marked_header in_use v.header))
    good = subst (λ (h : VolumeHeader). IsGoodHeader (volume_of a.content).sectors (with_numbers (volume_of a.content).head (marked_header in_use h))) head_is
        (mark_good in_use (volume_of a.content).sectors (volume_of a.content).head settled.sound.blocks.header)

    remounted : IsRemounted (volume_of a.content).head (marked_header in_use v.header)
    remounted = subst (λ (h : VolumeHeader). IsRemounted (volume_of a.content).head (marked_header in_use h)) head_is (mark_remounts in_use (volume_of a.content).head)

pub mark_numbers : (in_use : Bool) (old head : VolumeHeader) → head ≡ marked_header in_use old → head ≡ with_numbers old head
mark_numbers in_use old head is = is ∙ sym (mark_is in_use old) ∙ sym (ap (λ (h : VolumeHeader). with_numbers old h) is)

-- the marked header has a spelling, too
pub mark_fits : (flags version count : ℕ) (head : VolumeHeader) → flags < 2 ^ 32 → version < 2 ^ 32 → count < 2 ^ 32 → FitsHeader head → FitsHeader (record head { attributes = flags; last_mounted_version = version; write_count = count })
mark_fits flags version count head low short few was = record {
  signature = was.signature;
  version = was.version;
  attributes = low;
  last_mounted_version = short;
  journal_info_block = was.journal_info_block;
  create_date = was.create_date;
  modify_date = was.modify_date;
  backup_date = was.backup_date;
  checked_date = was.checked_date;
  file_count = was.file_count;
  folder_count = was.folder_count;
  block_size = was.block_size;
  total_blocks = was.total_blocks;
  free_blocks = was.free_blocks;
  next_allocation = was.next_allocation;
  rsrc_clump_size = was.rsrc_clump_size;
  data_clump_size = was.data_clump_size;
  next_catalog_id = was.next_catalog_id;
  write_count = few;
  encodings_bitmap = was.encodings_bitmap;
  finder_length = was.finder_length;
  finder_info = was.finder_info;
  allocation_fork = was.allocation_fork;
  extents_fork = was.extents_fork;
  catalog_fork = was.catalog_fork;
  attributes_fork = was.attributes_fork;
  startup_fork = was.startup_fork;
}

pub mounted_fits : (head : VolumeHeader) → FitsHeader head → FitsHeader (mounted_header head)
mounted_fits head was = mark_fits ((head.attributes - (head.attributes / 256 % 2) * 256) % 2 ^ 31) 0x4846534A ((head.write_count + 1) % 2 ^ 32) head (omega (arith, was.attributes)) (omega arith) (omega arith) was

pub unmounted_fits : (head : VolumeHeader) → FitsHeader head → FitsHeader (unmounted_header head)
unmounted_fits head was = mark_fits (bit_or head.attributes 256) head.last_mounted_version head.write_count head (or_of_32 head.attributes 256 was.attributes (omega arith)) was.last_mounted_version was.write_count was
