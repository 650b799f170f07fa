-- The drop of an entry is a step of reclaiming that grows no tree, and keeps the place of the journal.
use Rattle.std.proofs.Common.{◌≡◌, ◌⊎◌, ℕ, Bool, true, false, List, [], ◌∷◌, inl, inr, refl, sym, ◌∙◌, ap, arith}
use Rattle.std.specs.Prelude.{Contains, ◌==◌, IfOk, OnOk, Option, Result, Ok, Err}
use Rattle.hx_bytes.specs.declared.faults.Trouble.{Trouble}
use Rattle.jnl_format.specs.Recovery.{Content}
use Rattle.hfs_volume.specs.Content.{VolumeState, overflow_in_volume, records_of, volume_of}
use Rattle.hfs_volume.specs.Changes.{DropsAttribute}
use Rattle.hfs_volume.specs.Commands.{IsRecounted}
use Rattle.hfs_volume.specs.Forks.{all_forks, blocks_owned, forks_in}
use Rattle.hfs_volume.specs.Naming.{one_file_less}
use Rattle.hfs_volume.specs.Reclaim.{DropAttribute, DropOrphan, Reclaims, blocks_at}
use Rattle.hfs_volume.specs.Reclaiming.{DropsOrphanEntry}
use Rattle.hfs_volume.specs.Records.{Placed, entries_of, id_of}
use Rattle.hfs_volume.specs.Sound.{IsSound, IsSoundVolume}
use Rattle.hfs_volume.proofs.Hiding.{one_there}
use Rattle.hfs_volume.proofs.Seeing.{same_number}
use Rattle.hfs_volume.proofs.Sides.{OneMore, count_more, entry_is_named, one_more}
use Rattle.hfs_volume.specs.Laws.{IsShaped, SoundIsBoth, one_if}
use Rattle.volume_header.specs.declared.header.VolumeHeader.{VolumeHeader}
use Rattle.volume_header.specs.Refusal.{is_locked}
use Rattle.std.specs.Int.{bit_at}
use Rattle.volume_space.specs.Cutting.{KeepsTrees}
use Rattle.volume_space.specs.Orphans.{HasBared, HasCut, HasDropped, TidiesAs}
use Rattle.volume_space.proofs.OrphanFacts.{each_none, high, stands}
use Rattle.volume_space.specs.declared.tidying.Tidying.{Tidying}
use Rattle.volume_space.specs.declared.tidying.Tidying.TheVariants as tidying
use Rattle.volume_step.specs.Steps.{KeepsJournal}
use Rattle.volume_step.specs.Tidying.{ReclaimsAs}
use Rattle.volume_step.proofs.Done.{same_place}
use Rattle.volume_step.proofs.Forks.{found_more}
use Rattle.volume_step.proofs.Kept.{Keeps, KeepsForks, catalog_keeps, cut_grows_none, fields_keep, grows_none, keeps_both, values_keep}
use Rattle.volume_step.proofs.Served.{journal_kept}

-- ---- what stays

less_blocks : (old : VolumeState) (id kind : ℕ) → blocks_at (one_file_less old) id kind ≡ blocks_at old id kind
unfolding all_forks
less_blocks old id kind = refl

less_head : (old : VolumeState) → Keeps old (one_file_less old)
less_head old = record {
  forks = record {
    blocks = λ id kind. less_blocks old id kind;
    extents = refl;
    catalog = refl;
    attributes = refl;
    journal = refl;
    flags = refl;
    same = record { signature = refl; version = refl; last_mounted = refl; info_block = refl; block_size = refl; total_blocks = refl; bit_12 = refl; bit_13 = refl; bit_15 = refl };
  };
  pairs = refl;
}

module _ (id : ℕ) (old new : VolumeState) (sound : IsSoundVolume old) (shaped : IsShaped old) (does : DropsOrphanEntry id old new) where
  there : Contains (entries_of (records_of old)) does.entry
  there = stands old shaped does.entry does.is_orphan

  gone : OneMore does.entry (records_of does.dropped) (records_of old)
  gone = one_more does.drops.changes (entry_is_named (records_of old) does.entry there)

  alone : (p : Placed) → Contains (entries_of (records_of does.dropped)) p → (id_of p == id_of does.entry) ≡ false
  alone p has = by (id_of p == id_of does.entry) refl
    where
      by : (t : Bool) → (id_of p == id_of does.entry) ≡ t → t ≡ false
      by false is = refl
      by true is = absurd (omega (
        arith,
        sound.entries.ids.distinct (id_of does.entry),
        count_more gone (λ (q : Placed). id_of q == id_of does.entry),
        ap one_if (same_number (id_of does.entry)),
        one_there (λ (q : Placed). id_of q == id_of does.entry) (entries_of (records_of does.dropped)) p has is,
      ))

  dropped_blocks : (n kind : ℕ) → blocks_at does.dropped n kind ≡ blocks_at (one_file_less old) n kind
  dropped_blocks n kind =
      ap (λ (v : VolumeState). blocks_at v n kind) does.drops.rest
      ∙ sym (found_more gone (high old shaped does.entry does.is_orphan) alone (one_file_less old).head (overflow_in_volume old) (λ owned has. each_none (blocks_owned (overflow_in_volume old)) (forks_in does.entry.value) does.no_blocks owned has) n kind)

  pub drop_keeps : Keeps old new
  drop_keeps =
      keeps_both old (one_file_less old) new (less_head old)
      (keeps_both (one_file_less old) does.dropped new (catalog_keeps (one_file_less old) does.dropped does.drops.rest does.drops.nodes dropped_blocks)
      (fields_keep does.entry.parent (IsRecounted 0 1) does.dropped new does.loses))

-- ---- a cut

pub cut_place : (before after : Content) → KeepsTrees (volume_of before) (volume_of after) → KeepsJournal before after
unfolding volume_of
cut_place before after keeps = record {
  journal = keeps.journal;
  locked = ap (λ (h : VolumeHeader). is_locked h.attributes) keeps.head;
  heading = record {
    signature = ap (λ (h : VolumeHeader). h.signature) keeps.head;
    version = ap (λ (h : VolumeHeader). h.version) keeps.head;
    last_mounted = ap (λ (h : VolumeHeader). h.last_mounted_version) keeps.head;
    info_block = ap (λ (h : VolumeHeader). h.journal_info_block) keeps.head;
    block_size = ap (λ (h : VolumeHeader). h.block_size) keeps.head;
    total_blocks = ap (λ (h : VolumeHeader). h.total_blocks) keeps.head;
    bit_12 = ap (λ (h : VolumeHeader). bit_at h.attributes 12) keeps.head;
    bit_13 = ap (λ (h : VolumeHeader). bit_at h.attributes 13) keeps.head;
    bit_15 = ap (λ (h : VolumeHeader). bit_at h.attributes 15) keeps.head;
  };
}

-- ---- the step

module _ (halves : (volume : VolumeState) → SoundIsBoth volume) (capacity : ℕ) (shrunk : Option ℕ) (before after : Content) (sound : IsSoundVolume (volume_of before)) (sound_after : IsSound after) where
  dropped_keeps : HasDropped capacity shrunk before after → Keeps (volume_of before) (volume_of after)
  dropped_keeps was = drop_keeps was.waiting.id (volume_of before) (volume_of after) sound ((halves (volume_of before)).0 sound).0 was.waiting.drops

  bared_keeps : HasBared capacity shrunk before after → KeepsForks (volume_of before) (volume_of after)
  bared_keeps was = values_keep (DropsAttribute was.waiting.id was.waiting.name) [] _ (volume_of before) (volume_of after) was.waiting.bares

  dropped : HasDropped capacity shrunk before after → Reclaims capacity shrunk before after
  dropped was = record {
    step = DropOrphan was.waiting.id;
    next = was.waiting.next;
    load = was.affords.load;
    grow = 0 ∷ 0 ∷ 0 ∷ [];
    affords = was.affords.affords;
    grows = grows_none (volume_of before) (volume_of after) (dropped_keeps was).forks;
    does = was.waiting.does;
    keeps = record { sound = sound_after; tree = was.waiting.tree };
  }

  bared : HasBared capacity shrunk before after → Reclaims capacity shrunk before after
  bared was = record {
    step = DropAttribute was.waiting.id was.waiting.name;
    next = was.waiting.next;
    load = was.affords.load;
    grow = 0 ∷ 0 ∷ 0 ∷ [];
    affords = was.affords.affords;
    grows = grows_none (volume_of before) (volume_of after) (bared_keeps was);
    does = was.waiting.does;
    keeps = record { sound = sound_after; tree = was.waiting.tree };
  }

  cut : HasCut capacity shrunk before after → Reclaims capacity shrunk before after
  cut was = record {
    step = was.cuts.step;
    next = was.cuts.next;
    load = was.affords.load;
    grow = 0 ∷ 0 ∷ 0 ∷ [];
    affords = was.affords.affords;
    grows = cut_grows_none (volume_of before) (volume_of after) was.cuts.keeps;
    does = was.cuts.does;
    keeps = record { sound = sound_after; tree = was.cuts.tree };
  }

  pub reclaimed : HasDropped capacity shrunk before after ⊎ (HasBared capacity shrunk before after ⊎ HasCut capacity shrunk before after) → Reclaims capacity shrunk before after
  reclaimed (inl was) = dropped was
  reclaimed (inr (inl was)) = bared was
  reclaimed (inr (inr was)) = cut was

  placed : HasDropped capacity shrunk before after ⊎ (HasBared capacity shrunk before after ⊎ HasCut capacity shrunk before after) → KeepsJournal before after
  placed (inl was) = journal_kept before after (dropped_keeps was).forks
  placed (inr (inl was)) = journal_kept before after (bared_keeps was)
  placed (inr (inr was)) = cut_place before after was.cuts.keeps

module _ (halves : (volume : VolumeState) → SoundIsBoth volume) (capacity : ℕ) (shrunk : Option ℕ) (free : List Bool) (spare : ℕ) (before after : Content) (sound : IsSoundVolume (volume_of before)) where
  pub reclaims_as : (r : Result Tidying Trouble) → OnOk r (IsSound after) → IfOk r (λ (came : Tidying). TidiesAs came capacity shrunk free spare before after) → IfOk r (λ (came : Tidying). ReclaimsAs came capacity shrunk before after)
  reclaims_as (Ok tidying.Rest) sound_after was = was
  reclaims_as (Ok tidying.Made) sound_after was = inl (reclaimed halves capacity shrunk before after sound sound_after was)
  reclaims_as (Ok tidying.CommitFirst) sound_after was = was.0
  reclaims_as (Err why) sound_after was = tt

  pub places_as : (r : Result Tidying Trouble) → OnOk r (IsSound after) → IfOk r (λ (came : Tidying). TidiesAs came capacity shrunk free spare before after) → OnOk r (KeepsJournal before after)
  places_as (Ok tidying.Rest) sound_after was = same_place before after was.0
  places_as (Ok tidying.Made) sound_after was = placed halves capacity shrunk before after sound sound_after was
  places_as (Ok tidying.CommitFirst) sound_after was = same_place before after was.0
  places_as (Err why) sound_after was = tt
