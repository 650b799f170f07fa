-- A volume that was just made is sound, and a mount finds it.
use Rattle.std.proofs.Common.{◌≡◌, ℕ, ◌+◌, ◌-◌, ◌*◌, ◌/◌, ◌%◌, ◌^◌, ◌<◌, ◌≤◌, List, length, IsTrue, refl, sym, ◌∙◌, ap, arith, mul_assoc}
use Rattle.std.specs.List.{AllByRecursion}
use Rattle.jnl_format.specs.Recovery.{Content}
use Rattle.hfs_volume.specs.Nodes.{HasTrees}
use Rattle.hfs_volume.specs.Sound.{IsSound}
use Rattle.hfs_volume.specs.Mount.{HoldsAtMost, Mounts, FoldsCase}
use Rattle.volume_make.specs.declared.layout.Layout.{Layout}
use Rattle.volume_make.specs.Layout.{CanBe, IsFitting, layout_of, count_of}
use Rattle.volume_make.specs.Refusal.{is_name}
use Rattle.volume_make.specs.Written.{IsFormatted}
use Rattle.volume_make.proofs.Sizes.{each_size, fitting}
use Rattle.fresh_volume.specs.Fresh.{StandsForItself, IsFreshVolume, journal_of}
use Rattle.fresh_volume.proofs.EmptyJournal.{stands_for_itself}
use Rattle.fresh_volume.proofs.Standing.{trees_stand}
use Rattle.fresh_volume.proofs.SoundEntries.{has_sound_entries}
use Rattle.fresh_volume.proofs.SoundAttributes.{has_sound_attributes}
use Rattle.fresh_volume.proofs.SoundBlocks.{has_blocks_sound}
use Rattle.fresh_volume.proofs.FreshTree.{has_fresh_tree}

-- ---- the journal's room

-- a list of 4,096 bytes names 254 sectors and takes 8 itself
abbrev capacity_of : ℕ → ℕ
capacity_of ring = 254 * (ring / 262) + (ring % 262 - 8)

fits : (ring : ℕ) → capacity_of ring + 8 * ((capacity_of ring + 254 - 1) / 254) ≤ ring
fits ring = omega arith

is_most : (ring more : ℕ) → capacity_of ring < more → ring < more + 8 * ((more + 254 - 1) / 254)
is_most ring more above = omega (arith, above)

large : (ring : ℕ) → 510 ≤ ring → 256 ≤ capacity_of ring
large ring many = omega (arith, many)

ring_size : (layout : Layout) → IsFitting layout → layout.journal.count * layout.block / 512 ≡ count_of layout layout.journal
ring_size layout fit =
    let count : ℕ = layout.journal.count in
    let whole : layout.block ≡ layout.block / 512 * 512 = each_size (λ m. m ≡ m / 512 * 512) refl refl refl refl refl refl refl refl layout.block fit.block_size in
    let bytes : count * layout.block ≡ count * (layout.block / 512) * 512 = ap (λ (m : ℕ). count * m) whole ∙ sym (mul_assoc count (layout.block / 512) 512) in
    omega (arith, bytes)

holds : (layout : Layout) → IsFitting layout → HoldsAtMost (journal_of layout) (capacity_of (count_of layout layout.journal - 2))
holds layout fit =
    let ring : ℕ = count_of layout layout.journal - 2 in
    let size = ring_size layout fit in
    record { fits = omega (arith, fits ring, size); is_most = λ more above. omega (arith, is_most ring more above, size) }

-- ---- the volume

module _ (sectors block journal : ℕ) (name : List ℕ) (old new : Content) (size : length old ≡ sectors) (can : CanBe sectors block journal) (named : IsTrue (is_name name)) (units : AllByRecursion (λ unit. unit < 2 ^ 16) name) (made : IsFormatted (layout_of sectors block journal) name old new) where
  abbrev layout : Layout
  layout = layout_of sectors block journal

  fit : IsFitting layout
  fit = fitting sectors block journal can

  trees : HasTrees new
  trees = trees_stand sectors block journal name old new can named made

  is_sound : IsSound new
  is_sound =
      let entries = has_sound_entries sectors block journal name old new can named units made in
      record {
        trees = trees;
        volume = record {
          entries = entries.entries;
          links = entries.links;
          attributes = has_sound_attributes sectors block journal name old new size can named units made;
          blocks = has_blocks_sound sectors block journal name old new size can named units made;
        };
      }

  mounts : Mounts new (capacity_of (count_of layout layout.journal - 2)) new
  mounts =
      let stands : StandsForItself layout new = stands_for_itself sectors block journal name old new size can made in
      record {
        is_open = stands.is_open;
        journal = journal_of layout;
        found = stands.found;
        recovers = stands.recovers;
        holds = holds layout fit;
        large = large (count_of layout layout.journal - 2) (omega (arith, fit.journal_room));
        keeps_case = λ (folds : FoldsCase new). absurd (omega (arith, folds, trees.compare));
        sound = is_sound;
      }

  pub is_fresh_volume : IsFreshVolume new
  is_fresh_volume =
      let tree = has_fresh_tree sectors block journal name old new can named units made in
      record { sound = is_sound; tree = tree; mountable = (capacity_of (count_of layout layout.journal - 2), new, mounts, tree) }
