-- The volume header stays one of the same volume, and no block of it is spilled.
use Rattle.std.proofs.Common.{◌≡◌, ◌≢◌, ◌⊎◌, ◌<◌, ◌≤◌, ◌+◌, ◌*◌, ◌/◌, ◌-◌, ◌%◌, ◌^◌, ℕ, Bool, true, false, bit_or, not, List, inl, inr, ⊎_elim, length, refl, sym, ◌∙◌, ap, subst, arith}
use Rattle.std.specs.Prelude.{Contains, IsTrue, Option, None, Some, nat_lt, ◌==◌, ◌||◌, if◌then◌else◌}
use Rattle.std.specs.List.{range_with_len}
use Rattle.std.specs.Int.{bit_at}
use Rattle.std.proofs.lemmas.Bool.{true≢false}
use Rattle.std.proofs.lemmas.Nat.Bits.{bit_at_or}
use Rattle.std.proofs.lemmas.List.Elements.{Contains-append_left}
use Rattle.volume_header.specs.Header.{header_of}
use Rattle.volume_header.specs.Refusal.{fits_blocks, header_refusal, is_block_size, is_hfsx, is_locked, is_volume_size}
use Rattle.volume_header.specs.declared.header.VolumeHeader.{VolumeHeader}
use Rattle.volume_header.specs.declared.refusal.HeaderRefusal.TheVariants.{LimitSectors, NotHfsx, BadGeometry, NotJournaled, IdsReused}
use Rattle.sector_disk.specs.Lists.{Content, sector}
use Rattle.sector_disk.specs.Space.{Space, AgreesOutside}
use Rattle.jnl_format.specs.Keeping.{IsSame, KeepsHeader}
use Rattle.jnl_format.specs.Recovery.{header_of_volume, info_sector_of}
use Rattle.hfs_volume.specs.Aside.{IsFreeSector, IsJournalSector}
use Rattle.hfs_volume.specs.Blocks.{is_among, used_in}
use Rattle.hfs_volume.specs.Content.{JournalPlace, VolumeState, volume_of}
use Rattle.hfs_volume.specs.Forks.{parts_for, per_block_of, reserved_blocks}
use Rattle.hfs_volume.specs.Sound.{IsSound}
use Rattle.hfs_volume.proofs.Apart.{among, reserved_is_used}
use Rattle.hfs_volume.proofs.BlockWants.{in_range}
use Rattle.hfs_volume.proofs.Sectors.{in_front}
use Rattle.hfs_volume.proofs.Untouched.{whole_blocks}
use Rattle.hfs_serving.specs.Grounds.{KeepsHeading}
use Rattle.volume_names.specs.Mounting.{marked_header}
use Rattle.volume_step.specs.Steps.{KeepsJournal}

-- ---- headers of one volume

same_both : (a b c : VolumeHeader) → IsSame a b → IsSame b c → IsSame a c
same_both a b c p q = record {
  signature = q.signature ∙ p.signature;
  version = q.version ∙ p.version;
  last_mounted = q.last_mounted ∙ p.last_mounted;
  info_block = q.info_block ∙ p.info_block;
  block_size = q.block_size ∙ p.block_size;
  total_blocks = q.total_blocks ∙ p.total_blocks;
  bit_12 = q.bit_12 ∙ p.bit_12;
  bit_13 = q.bit_13 ∙ p.bit_13;
  bit_15 = q.bit_15 ∙ p.bit_15;
}

-- what is accepted hangs on what they have in common
refusal_same : (sectors : ℕ) (a b : VolumeHeader) → IsSame a b → header_refusal b sectors ≡ header_refusal a sectors
refusal_same sectors a b same = λ i.
    if not (is_volume_size sectors) then Some (LimitSectors sectors)
    else if not (is_hfsx (record b { signature = same.signature i; version = same.version i })) then Some (NotHfsx (same.signature i) (same.version i))
    else if not (is_block_size (same.block_size i)) then Some (BadGeometry 40)
    else if not (fits_blocks (record b { block_size = same.block_size i; total_blocks = same.total_blocks i }) sectors) then Some (BadGeometry 44)
    else if not (not (same.bit_13 i == 1) || nat_lt (same.info_block i) (same.total_blocks i)) then Some (BadGeometry 12)
    else if not (same.bit_13 i == 1) then Some NotJournaled
    else if same.bit_12 i == 1 then Some IdsReused
    else None

pub info_same : (a b : VolumeHeader) → IsSame a b → info_sector_of b ≡ info_sector_of a
info_same a b same = (λ i. same.info_block i * (same.block_size i / 512))

-- ---- the header's own block

-- the header's sector lies in a block that a sound volume uses
pub never_free : (content : Content) → IsSound content → IsFreeSector content 2 → ⊥
unfolding volume_of
never_free content sound free =
    let head = header_of_volume content in
    let per = per_block_of head in
    let whole = whole_blocks (length content) head sound.volume.blocks.header.accepted in
    let front : 2 / per < parts_for 1536 head.block_size = in_front head.block_size per whole.whole whole.some 1536 2 (omega arith) in
    let reserved : Contains (reserved_blocks (length content) head) (2 / per) =
    Contains-append_left (range_with_len 0 (parts_for 1536 head.block_size)) (range_with_len ((length content * 512 - 1024) / head.block_size) (head.total_blocks - (length content * 512 - 1024) / head.block_size)) (2 / per)
    (in_range 0 (parts_for 1536 head.block_size) (2 / per) (omega arith) (omega (arith, front))) in
    let used : is_among (used_in (volume_of content)) (2 / per) ≡ true = among (used_in (volume_of content)) (2 / per) (reserved_is_used (volume_of content) (2 / per) reserved) in
    true≢false (sym used ∙ sym (sound.volume.blocks.bits.bits (2 / per) free.0) ∙ free.1)

-- behind puts, and spills into blocks that are free in what was committed, the header is one of the same volume
pub heads_after : (committed : Content) (a b : Space) → IsSound committed → ((s : ℕ) → b.spilled s → IsFreeSector committed s) → AgreesOutside b.spilled a.durable b.durable → ((s : ℕ) → b.closed s → a.closed s)
    → IsSame (header_of_volume a.content) (header_of_volume b.content) → KeepsHeading a → KeepsHeading b
heads_after committed a b sound free durable closed same heads =
    let two : sector b.durable 2 ≡ sector a.durable 2 = ⊎_elim (λ is. is) (λ spilled. absurd (never_free committed sound (free 2 spilled))) (durable.each 2) in
    let head : header_of_volume b.durable ≡ header_of_volume a.durable = ap header_of two in
    let both : IsSame (header_of_volume a.durable) (header_of_volume b.content) = same_both (header_of_volume a.durable) (header_of_volume a.content) (header_of_volume b.content) heads.header.same same in
    record {
      header = record {
        same = subst (λ (h : VolumeHeader). IsSame h (header_of_volume b.content)) (sym head) both;
        accepted = ap (λ n. header_refusal (header_of_volume b.content) n) durable.size ∙ refusal_same (length a.durable) (header_of_volume a.content) (header_of_volume b.content) same ∙ heads.header.accepted;
      };
      version = ap (λ (h : VolumeHeader). h.last_mounted_version) head ∙ heads.version;
      apart = λ shut. heads.apart (closed 2 shut);
    }

-- ---- the journal's sectors

pub journal_kept : (a b : Content) → (volume_of b).journal ≡ (volume_of a).journal → info_sector_of (header_of_volume b) ≡ info_sector_of (header_of_volume a) → (s : ℕ) → IsJournalSector a s → IsJournalSector b s
journal_kept a b journal info s is =
    subst (λ (k : JournalPlace × ℕ). (k.0.offset / 512 ≤ s) × (s < (k.0.offset + k.0.size) / 512) ⊎ (s ≡ k.1))
    {x = ((volume_of a).journal, info_sector_of (header_of_volume a))} {y = ((volume_of b).journal, info_sector_of (header_of_volume b))} (λ i. (sym journal i, sym info i)) is

-- the header of a content is that of its lists
pub head_is : (content : Content) → (volume_of content).head ≡ header_of_volume content
unfolding volume_of
head_is content = refl

pub journal_alike : (a b : Content) → volume_of b ≡ volume_of a → (s : ℕ) → IsJournalSector a s → IsJournalSector b s
journal_alike a b same s is =
    journal_kept a b (ap (λ (l : VolumeState). l.journal) same) (ap info_sector_of (sym (head_is b) ∙ ap (λ (l : VolumeState). l.head) same ∙ head_is a)) s is

-- ---- the marks

-- bits 12, 13 and 15 of the attributes
record KeepsBits (old new : ℕ) : Type 0 where
  bit_12 : bit_at new 12 ≡ bit_at old 12
  bit_13 : bit_at new 13 ≡ bit_at old 13
  bit_15 : bit_at new 15 ≡ bit_at old 15

mounted_bits : (n : ℕ) → KeepsBits n ((n - (n / 256 % 2) * 256) % 2 ^ 31)
mounted_bits n = record { bit_12 = omega arith; bit_13 = omega arith; bit_15 = omega arith }

unmounted_bits : (n : ℕ) → KeepsBits n (bit_or n 256)
unmounted_bits n = record { bit_12 = bit_at_or n 256 12 ∙ omega arith; bit_13 = bit_at_or n 256 13 ∙ omega arith; bit_15 = bit_at_or n 256 15 ∙ omega arith }

mark_same : (in_use : Bool) (head : VolumeHeader) → head.last_mounted_version ≡ 0x4846534A → IsSame head (marked_header in_use head)
mark_same true head version = let bits = mounted_bits head.attributes in
    record {
      signature = refl;
      version = refl;
      last_mounted = sym version;
      info_block = refl;
      block_size = refl;
      total_blocks = refl;
      bit_12 = bits.bit_12;
      bit_13 = bits.bit_13;
      bit_15 = bits.bit_15;
    }
mark_same false head version = let bits = unmounted_bits head.attributes in
    record {
      signature = refl;
      version = refl;
      last_mounted = refl;
      info_block = refl;
      block_size = refl;
      total_blocks = refl;
      bit_12 = bits.bit_12;
      bit_13 = bits.bit_13;
      bit_15 = bits.bit_15;
    }

pub marks_keep : (in_use : Bool) (a b : Space) → KeepsHeading a → volume_of b.content ≡ record (volume_of a.content) { head = marked_header in_use (volume_of a.content).head } → KeepsJournal a.content b.content
marks_keep in_use a b heads marked =
    let version : (header_of_volume a.content).last_mounted_version ≡ 0x4846534A = heads.header.same.last_mounted ∙ heads.version in
    let same = mark_same in_use (header_of_volume a.content) version in
    let head : header_of_volume b.content ≡ marked_header in_use (header_of_volume a.content) = sym (head_is b.content) ∙ ap (λ (l : VolumeState). l.head) marked ∙ ap (marked_header in_use) (head_is a.content) in
    record {
      journal = ap (λ (l : VolumeState). l.journal) marked;
      locked = ap (λ (h : VolumeHeader). is_locked h.attributes) (head_is b.content ∙ head) ∙ ap (λ n. n == 1) same.bit_15 ∙ ap (λ (h : VolumeHeader). is_locked h.attributes) (sym (head_is a.content));
      heading = subst (λ (h : VolumeHeader). IsSame (header_of_volume a.content) h) (sym head) same;
    }

-- where nothing was changed, neither was the header
pub heads_read : (a b : Space) → b.content ≡ a.content → b.durable ≡ a.durable → (b.closed 2 → a.closed 2) → KeepsHeading a → KeepsHeading b
heads_read a b content durable closed heads = record {
  header = subst (λ (k : Content × Content). KeepsHeader k.0 k.1) {x = (a.durable, a.content)} {y = (b.durable, b.content)} (λ i. (sym durable i, sym content i)) heads.header;
  version = ap (λ (c : Content). (header_of_volume c).last_mounted_version) durable ∙ heads.version;
  apart = λ shut. heads.apart (closed shut);
}
