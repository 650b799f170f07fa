-- Contents on the way of a repair, and what a crash leaves of them.
use Rattle.std.proofs.Common.{◌≡◌, ◌⊎◌, ℕ, None, List, length, inl, inr, ⊎_elim, refl, sym, ◌∙◌, ap, subst, arith}
use Rattle.std.specs.Prelude.{◌↔◌, Contains, IsTrue}
use Rattle.std.specs.Int.{bit_at}
use Rattle.sector_disk.specs.Clock.{TimePasses}
use Rattle.sector_disk.specs.Disk.{IsDisk, State}
use Rattle.sector_disk.specs.Space.{AgreesOutside, LeavesDurable, Space}
use Rattle.sector_disk.proofs.Passing.{passes_with}
use Rattle.volume_header.specs.Refusal.{header_refusal}
use Rattle.volume_header.specs.declared.header.VolumeHeader.{VolumeHeader}
use Rattle.jnl_format.specs.Keeping.{IsSame, KeepsHeader}
use Rattle.jnl_format.specs.Recovery.{Content, header_of_volume, info_sector_of, sector}
use Rattle.jnl_store.specs.Following.{SpaceFollows}
use Rattle.jnl_store.specs.Spaces.{over}
use Rattle.jnl_store.specs.Store.{plan_of}
use Rattle.jnl_store.specs.declared.store.Store.{Store}
use Rattle.hfs_volume.specs.Aside.{IsJournalSector}
use Rattle.hfs_volume.specs.Content.{journal_place, volume_of}
use Rattle.hfs_volume.specs.Sound.{IsSound}
use Rattle.volume_repair.specs.Differing.{differing}
use Rattle.volume_repair.specs.Remount.{IsRemounted, IsSameButCounts, RepairStaysRemounted, StaysRemounted}
use Rattle.volume_repair.specs.Repair.{IsRepair}
use Rattle.fsck_repair.specs.Overlay.{overlaid, places_of}
use Rattle.fsck_repair.specs.Renewing.{IsMountOf, IsSoundRepair}
use Rattle.fsck_repair.specs.declared.mend.Change.{Change}
use Rattle.hfs_serving.specs.Grounds.{IsInService, KeepsHeading}
use Rattle.hfs_serving.specs.Outside.{Outside, outside_of}
use Rattle.hfs_serving.specs.Readying.{StandsMounted}
use Rattle.hfs_serving.specs.Resting.{IsRested}
use Rattle.hfs_serving.specs.Serving.{Commits, IsAsDurable, IsEither, MayCommit, Touches, TouchesSpace}
use Rattle.hfs_serving.specs.Stages.{MayLeave}
use Rattle.hfs_serving.proofs.Agreeing.{agrees_both, agrees_more}
use Rattle.hfs_serving.proofs.Grounding.{heads_on, seen_outside}
use Rattle.hfs_serving.proofs.Mounted.{leaves_on}
use Rattle.image_repair.specs.Mending.{IsBroughtHome, IsCountOf, ShowsMounted, StandsEither, StandsRepaired}

-- a sound content's header is accepted
accepted_is : (content : Content) → IsSound content → header_refusal (header_of_volume content) (length content) ≡ None
unfolding volume_of
accepted_is content sound = sound.volume.blocks.header.accepted

-- a header with other counts is one of the same volume
same_volume : (old new : VolumeHeader) → IsSameButCounts old new → IsSame old new
same_volume old new is = record {
  signature = ap (λ (h : VolumeHeader). h.signature) is;
  version = ap (λ (h : VolumeHeader). h.version) is;
  last_mounted = ap (λ (h : VolumeHeader). h.last_mounted_version) is;
  info_block = ap (λ (h : VolumeHeader). h.journal_info_block) is;
  block_size = ap (λ (h : VolumeHeader). h.block_size) is;
  total_blocks = ap (λ (h : VolumeHeader). h.total_blocks) is;
  bit_12 = ap (λ (h : VolumeHeader). bit_at h.attributes 12) is;
  bit_13 = ap (λ (h : VolumeHeader). bit_at h.attributes 13) is;
  bit_15 = ap (λ (h : VolumeHeader). bit_at h.attributes 15) is;
}

-- a header of the same volume names the same info block
same_place : (start now : Content) → IsRemounted start now → info_sector_of (header_of_volume now) ≡ info_sector_of (header_of_volume start)
same_place start now mounted = ap (λ (h : VolumeHeader). info_sector_of h) mounted.header

-- so the journal lies where the same info block says
lies_on : (now mended : Content) → IsSameButCounts (header_of_volume now) (header_of_volume mended) → sector mended (info_sector_of (header_of_volume now)) ≡ sector now (info_sector_of (header_of_volume now))
    → (volume_of mended).journal ≡ journal_place (sector now (info_sector_of (header_of_volume now)))
unfolding volume_of
lies_on now mended same info = ap (λ (h : VolumeHeader). journal_place (sector mended (info_sector_of h))) same ∙ ap journal_place info

-- a content is mounted as it is
self_mounted : (start : Content) → IsRemounted start start
unfolding volume_of
self_mounted start = record { size = refl; header = refl; names = refl; each = λ at not_two. inl refl }

module _ (law : RepairStaysRemounted) (start : Content) (changes : List Change) (space : Space) (outside : Outside) (shows : ShowsMounted start space outside) (may : IsSoundRepair start changes) where
  stays : (other : Content) → IsRepair space.content other → StaysRemounted start (overlaid changes start) space.content other
  stays other is = law start (overlaid changes start) space.content other shows.start_bytes.bytes shows.read_bytes.bytes shows.start_bytes.header shows.read_bytes.header may.repair may.sound shows.mounted is

  pub mount_is : IsMountOf start space.content
  mount_is = record {
    start_bytes = shows.start_bytes.bytes;
    now_bytes = shows.read_bytes.bytes;
    start_header = shows.start_bytes.header;
    now_header = shows.read_bytes.header;
    mounted = shows.mounted;
  }

  -- ---- what a repair asks for

  -- no sector of the journal differs
  pub open_is : (at : ℕ) → Contains (places_of changes) at → space.closed at → ⊥
  open_is at stands closed =
      may.each at stands
      ((law start (overlaid changes start) start (overlaid changes start) shows.start_bytes.bytes shows.start_bytes.bytes shows.start_bytes.header shows.start_bytes.header may.repair may.sound (self_mounted start) may.repair).journal at
      (shows.closed at closed))

  -- so many differ of the content itself too
  pub count_is : (other : Content) (count : ℕ) → IsRepair space.content other → count ≡ differing space.content other → IsCountOf start count
  count_is other count is counted mended repair sound =
      counted ∙ (law start mended space.content other shows.start_bytes.bytes shows.read_bytes.bytes shows.start_bytes.header shows.read_bytes.header repair sound shows.mounted is).count

  -- ---- behind its puts

  module _ (new : Space) (same : new.durable ≡ space.durable) (spilled : (s : ℕ) → new.spilled s ↔ space.spilled s) (closed : (s : ℕ) → new.closed s ↔ space.closed s) where
    reads_durable : new.durable ≡ space.content
    reads_durable = same ∙ shows.durable

    durable_stands : (recovered : Content) → IsAsDurable new recovered → StandsMounted start recovered
    durable_stands recovered is = shows.stands recovered (record {
      size = is.size ∙ ap (λ (x : Content). length x) reads_durable;
      each = λ at. elim (is.each at) [
        | inl here ↦ inl (here ∙ ap (λ (x : Content). sector x at) reads_durable)
        | inr (inl spilt) ↦ absurd (shows.spilled at ((spilled at).0 spilt))
        | inr (inr shut) ↦ inr ((closed at).0 shut)
      ];
    })

    pub put_touches : TimePasses space.clock new.clock (LeavesDurable new) → new.told ≡ space.told → TouchesSpace start space new
    put_touches time told = record {
      time = time;
      durable = record { size = ap (λ (x : Content). length x) same; each = λ at. inl (ap (λ (x : Content). sector x at) same) };
      spilled = λ s now. inl ((spilled s).0 now);
      still = λ s was. (spilled s).1 was;
      closed = closed;
      told = told;
    }

    pub put_leaves : (after : Outside) → Touches start space outside new after → MayLeave (StandsEither start) outside after
    put_leaves after touches = record {
      time = passes_with outside.clock after.clock _ _ touches.time (λ recovered told p. (inl (durable_stands recovered p.0), p.1));
      leaves = λ recovered left. inl (durable_stands recovered (touches.leaves recovered left));
      told = touches.told;
    }

    -- ---- with the repair in it

    module _ (is : IsRepair space.content new.content) where
      repaired_stands : (recovered : Content) → AgreesOutside new.closed new.content recovered → StandsRepaired start recovered
      repaired_stands recovered agrees = record {
        now = space.content;
        mounted = shows.mounted;
        mended = new.content;
        repair = is;
        sound = (stays new.content is).sound;
        header = (stays new.content is).header;
        journal = lies_on space.content new.content (stays new.content is).header ((stays new.content is).journal (info_sector_of (header_of_volume space.content)) (inr (same_place start space.content shows.mounted))) ∙ shows.mounted.names;
        agrees = agrees_more new.closed (IsJournalSector start) new.content recovered (λ s shut. shows.closed s ((closed s).0 shut)) agrees;
      }

      pub put_heads : length new.content ≡ length new.durable → KeepsHeading new
      put_heads size = record {
        header =
            subst (λ (x : Content). KeepsHeader x new.content) (sym reads_durable) (record {
              same = same_volume (header_of_volume space.content) (header_of_volume new.content) (stays new.content is).header;
              accepted = ap (λ n. header_refusal (header_of_volume new.content) n) (sym (size ∙ ap (λ (x : Content). length x) reads_durable)) ∙ accepted_is new.content (stays new.content is).sound;
            });
        version = ap (λ (x : Content). (header_of_volume x).last_mounted_version) same ∙ shows.heads.version;
        apart = λ shut. shows.heads.apart ((closed 2).0 shut);
      }

      -- while it is committed
      pub commit_leaves : (mid after : Outside) → MayCommit new mid after → MayLeave (StandsEither start) mid after
      commit_leaves mid after commit = record {
        time = passes_with mid.clock after.clock _ _ commit.time (λ recovered told p. (either recovered p.0, p.1));
        leaves = λ recovered left. either recovered (commit.leaves recovered left);
        told = commit.told;
      }
        where
          either : (recovered : Content) → IsEither new recovered → StandsEither start recovered
          either recovered which = ⊎_elim (λ durable. inl (durable_stands recovered durable)) (λ over. inr (repaired_stands recovered over)) which

      -- behind the commit
      module _ (mid : Outside) (last : Space) (ended : Outside) (commits : Commits new mid last ended) where
        last_stands : (recovered : Content) → IsEither last recovered → StandsRepaired start recovered
        last_stands recovered (inl durable) =
            repaired_stands recovered
            (agrees_both new.closed new.content last.durable recovered commits.durable
            (agrees_more (λ s. last.spilled s ⊎ last.closed s) new.closed last.durable recovered (λ s which. ⊎_elim (λ spilt. absurd (commits.nothing s spilt)) (λ shut. (commits.closed s).0 shut) which) durable))
        last_stands recovered (inr over) =
            repaired_stands recovered (agrees_both new.closed new.content last.content recovered commits.content (agrees_more last.closed new.closed last.content recovered (λ s shut. (commits.closed s).0 shut) over))

        pub rest_leaves : (home : Outside) → MayCommit last ended home → MayLeave (StandsEither start) ended home
        rest_leaves home commit = record {
          time = passes_with ended.clock home.clock _ _ commit.time (λ recovered told p. (inr (last_stands recovered p.0), p.1));
          leaves = λ recovered left. inr (last_stands recovered (commit.leaves recovered left));
          told = commit.told;
        }

        pub rest_stands : (home : Outside) → MayCommit last ended home → (recovered : Content) → home.leaves recovered → StandsRepaired start recovered
        rest_stands home commit recovered left = last_stands recovered (commit.leaves recovered left)

        -- and at its home
        pub brought_home : (final : Space) (home : Outside) (disk : State) → length last.content ≡ length last.durable → KeepsHeading last → Commits last ended final home → IsRested final disk → IsBroughtHome disk
        brought_home final home disk size heads rests rested = record {
          settled = rested.settled;
          empty = rested.empty;
          version = ap (λ (x : Content). (header_of_volume x).last_mounted_version) (sym rested.durable) ∙ (heads_on last ended final home size heads rests).version;
        }

-- all stages
pub three_leave : (start : Content) (first mid last end : Outside) → MayLeave (StandsEither start) first mid → MayLeave (StandsEither start) mid last → MayLeave (StandsEither start) last end → MayLeave (StandsEither start) first end
three_leave start first mid last end one two three = leaves_on (StandsEither start) first mid end one (leaves_on (StandsEither start) mid last end two three)

-- the puts of a store's space, seen from outside
module _ (law : RepairStaysRemounted) (start : Content) (changes : List Change) (a b p q : ℕ) (store after : Store) (disk now : State) (capacity : ℕ) (is : IsDisk now) (follows : SpaceFollows store disk after now) (serves : IsInService store disk capacity) (tells : IsTrue (over a b store disk).tells)
    (shows : ShowsMounted start (over a b store disk) (outside_of (plan_of store) disk)) (may : IsSoundRepair start changes) where
  pub stage_put : (same : (over p q after now).durable ≡ (over a b store disk).durable) (spilled : (s : ℕ) → (over p q after now).spilled s ↔ (over a b store disk).spilled s) (closed : (s : ℕ) → (over p q after now).closed s ↔ (over a b store disk).closed s)
      → TimePasses (over a b store disk).clock (over p q after now).clock (LeavesDurable (over p q after now)) → (over p q after now).told ≡ (over a b store disk).told → MayLeave (StandsEither start) (outside_of (plan_of store) disk) (outside_of (plan_of after) now)
  stage_put same spilled closed time told =
      let space = over a b store disk in
      let new = over p q after now in
      let outside = outside_of (plan_of store) disk in
      put_leaves law start changes space outside shows may new same spilled closed (outside_of (plan_of after) now)
      (seen_outside start a b p q store after disk now capacity is follows serves tells (put_touches law start changes space outside shows may new same spilled closed time told))
