-- Blocks held against two volumes whose headers say the same.
use Rattle.std.proofs.Common.{◌≡◌, ℕ, zero, suc, ◌+◌, ◌-◌, ◌*◌, ◌/◌, ◌%◌, true, not, ◌&&◌, ◌||◌, List, length, refl, ◌∙◌, ap, leb, eqb, ltb, cond}
use Rattle.std.specs.Prelude.{None, Some, is_none}
use Rattle.std.specs.Int.{bit_at}
use Rattle.std.proofs.lemmas.Bool.{and_parts, eqb-true}
use Rattle.hx_bytes.specs.declared.fields.Order.{Order}
use Rattle.volume_header.specs.Header.{header_of}
use Rattle.volume_header.specs.Refusal.{header_refusal}
use Rattle.volume_header.specs.declared.header.VolumeHeader.{VolumeHeader}
use Rattle.jnl_format.specs.List.{entry_at, is_list_head}
use Rattle.jnl_format.specs.Text.{bytes_at, is_skipped, covers, is_inside, is_apart, is_same_volume, is_same_kind, is_same_layout, has_same_bits, keeps_volume, keeps_header, is_block, are_blocks, block_bytes, head_at, is_list_as, bad_list_as, bad_list}
use Rattle.jnl_format.specs.declared.blocks.Volume.{Volume}
use Rattle.jnl_format.specs.Dialect.{may_end}
use Rattle.jnl_format.specs.declared.dialect.Dialect.{Dialect}
use Rattle.jnl_format.specs.declared.dialect.Dialect.TheVariants.{Plain}
use Rattle.jnl_format.specs.declared.structures.Entry.{Entry}
use Rattle.jnl_format.specs.Keeping.{IsSame}

pub same_parts : (old new : VolumeHeader) → is_same_volume old new ≡ true → IsSame old new
unfolding is_same_volume
same_parts old new h =
    let b1 = eqb new.signature old.signature in
    let b2 = eqb new.version old.version in
    let b3 = eqb new.last_mounted_version old.last_mounted_version in
    let b4 = eqb new.journal_info_block old.journal_info_block in
    let b5 = eqb new.block_size old.block_size in
    let b6 = eqb new.total_blocks old.total_blocks in
    let b7 = eqb (bit_at new.attributes 12) (bit_at old.attributes 12) in
    let b8 = eqb (bit_at new.attributes 13) (bit_at old.attributes 13) in
    let b9 = eqb (bit_at new.attributes 15) (bit_at old.attributes 15) in
    let q2 = and_parts (is_same_kind old new && is_same_layout old new) (has_same_bits old.attributes new.attributes) h in
    let q1 = and_parts (is_same_kind old new) (is_same_layout old new) q2.0 in
    let p2 = and_parts (b1 && b2) b3 q1.0 in
    let p1 = and_parts b1 b2 p2.0 in
    let p5 = and_parts (b4 && b5) b6 q1.1 in
    let p4 = and_parts b4 b5 p5.0 in
    let p8 = and_parts (b7 && b8) b9 q2.1 in
    let p7 = and_parts b7 b8 p8.0 in
    record {
      signature = eqb-true new.signature old.signature p1.0;
      version = eqb-true new.version old.version p1.1;
      last_mounted = eqb-true new.last_mounted_version old.last_mounted_version p2.1;
      info_block = eqb-true new.journal_info_block old.journal_info_block p4.0;
      block_size = eqb-true new.block_size old.block_size p4.1;
      total_blocks = eqb-true new.total_blocks old.total_blocks p5.1;
      bit_12 = eqb-true (bit_at new.attributes 12) (bit_at old.attributes 12) p7.0;
      bit_13 = eqb-true (bit_at new.attributes 13) (bit_at old.attributes 13) p7.1;
      bit_15 = eqb-true (bit_at new.attributes 15) (bit_at old.attributes 15) p8.1;
    }

pub same_refl : (head : VolumeHeader) → IsSame head head
same_refl head = record { signature = refl; version = refl; last_mounted = refl; info_block = refl; block_size = refl; total_blocks = refl; bit_12 = refl; bit_13 = refl; bit_15 = refl }

-- what is the same volume as one is the same as the other
pub same_as : (old new other : VolumeHeader) → IsSame old new → is_same_volume new other ≡ is_same_volume old other
unfolding is_same_volume
same_as old new other s =
    let e1 = s.signature in
    let e2 = s.version in
    let e3 = s.last_mounted in
    let e4 = s.info_block in
    let e5 = s.block_size in
    let e6 = s.total_blocks in
    let e7 = s.bit_12 in
    let e8 = s.bit_13 in
    let e9 = s.bit_15 in
    cc

-- the same sectors, journal and info block, and headers of one volume
pub record IsSameVolume (old new : Volume) : Type 0 where
  pub sectors : new.sectors ≡ old.sectors
  pub first : new.first ≡ old.first
  pub count : new.count ≡ old.count
  pub info_sector : new.info_sector ≡ old.info_sector
  pub header : IsSame old.header new.header

keeps_same : (old new : Volume) (sector : List ℕ) → IsSameVolume old new → keeps_volume new sector ≡ keeps_volume old sector
keeps_same old new sector s =
    let e1 = s.sectors in
    let e2 = same_as old.header new.header (header_of sector) s.header in
    ap (λ n. is_none (header_refusal (header_of sector) n) && is_same_volume new.header (header_of sector)) e1
    ∙ ap (λ b. is_none (header_refusal (header_of sector) old.sectors) && b) e2

block_same : (old new : Volume) (text : List ℕ) (body : ℕ) (entry : Entry) → IsSameVolume old new → is_block new text body entry ≡ is_block old text body entry
block_same old new text body entry s =
    let e0 : is_inside new entry ≡ is_inside old entry = ap (λ n. ltb 0 entry.bsize && eqb (entry.bsize % 512) 0 && leb (entry.bnum + entry.bsize / 512) n) s.sectors in
    let e1 : is_apart new entry ≡ is_apart old entry =
    ap (λ n. (leb (entry.bnum + entry.bsize / 512) n || leb (n + new.count) entry.bnum) && not (covers entry new.info_sector)) s.first
    ∙ ap (λ n. (leb (entry.bnum + entry.bsize / 512) old.first || leb (old.first + n) entry.bnum) && not (covers entry new.info_sector)) s.count
    ∙ ap (λ n. (leb (entry.bnum + entry.bsize / 512) old.first || leb (old.first + old.count) entry.bnum) && not (covers entry n)) s.info_sector in
    let e2 : keeps_header new text body entry ≡ keeps_header old text body entry = ap (λ b. not (covers entry 2) || b) (keeps_same old new (bytes_at text (body + (2 - entry.bnum) * 512) 512) s) in
    ap (λ b. is_skipped entry || (b && is_apart new entry && keeps_header new text body entry)) e0
    ∙ ap (λ b. is_skipped entry || (is_inside old entry && b && keeps_header new text body entry)) e1
    ∙ ap (λ b. is_skipped entry || (is_inside old entry && is_apart old entry && b)) e2

blocks_same : (old new : Volume) (order : Order) (text : List ℕ) (at body count : ℕ) → IsSameVolume old new → are_blocks new order text at body count ≡ are_blocks old order text at body count
blocks_same old new order text at body zero s = refl
blocks_same old new order text at body (suc count) s =
    let e = entry_at order text at in
    ap (λ b. b && are_blocks new order text (at + 16) (body + e.bsize) count) (block_same old new text body e s)
    ∙ ap (λ b. is_block old text body e && b) (blocks_same old new order text (at + 16) (body + e.bsize) count s)

list_same : (dialect : Dialect) (old new : Volume) (order : Order) (blhdr : ℕ) (text : List ℕ) (at : ℕ) → IsSameVolume old new → is_list_as dialect new order blhdr text at ≡ is_list_as dialect old order blhdr text at
unfolding is_list_as
list_same dialect old new order blhdr text at s =
    let hd = head_at order text at in
    ap (λ b. leb (at + blhdr) (length text) && is_list_head order blhdr (bytes_at text at 32) && eqb hd.used (blhdr + block_bytes order text (at + 32) (hd.entries - 1)) && leb (at + hd.used) (length text) && b && (may_end dialect hd.last || ltb (at + hd.used) (length text)))
    (blocks_same old new order text (at + 32) (at + blhdr) (hd.entries - 1) s)

-- the same lists are bad on both
pub bad_same_as : (dialect : Dialect) (old new : Volume) (order : Order) (blhdr : ℕ) (text : List ℕ) (count at : ℕ) → IsSameVolume old new → bad_list_as dialect new order blhdr text count at ≡ bad_list_as dialect old order blhdr text count at
bad_same_as dialect old new order blhdr text zero at s = refl
bad_same_as dialect old new order blhdr text (suc count) at s =
    let used = (head_at order text at).used in
    ap (λ b. cond (leb (length text) at) None (cond (not b) (Some at) (bad_list_as dialect new order blhdr text count (at + used)))) (list_same dialect old new order blhdr text at s)
    ∙ ap (λ r. cond (leb (length text) at) None (cond (not (is_list_as dialect old order blhdr text at)) (Some at) r)) (bad_same_as dialect old new order blhdr text count (at + used) s)

pub bad_same : (old new : Volume) (order : Order) (blhdr : ℕ) (text : List ℕ) (count at : ℕ) → IsSameVolume old new → bad_list new order blhdr text count at ≡ bad_list old order blhdr text count at
bad_same = bad_same_as Plain
