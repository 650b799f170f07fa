-- The journal of a volume that was just made is found, and is empty.
use Rattle.std.proofs.Common.{◌≡◌, ℕ, ◌+◌, ◌*◌, ◌/◌, ◌<◌, ◌≤◌, Bool, false, ◌&&◌, ◌||◌, nat_lt, List, length, replicate, Option, Result, Ok, refl, sym, ◌∙◌, ap, arith, mul_assoc}
use Rattle.std.proofs.lemmas.Bool.{le-ltb}
use Rattle.std.proofs.lemmas.List.{take_all, length-append}
use Rattle.std.proofs.Math.ListN.{length-replicate}
use Rattle.hx_bytes.specs.Field.{big, put_at}
use Rattle.hx_bytes.specs.declared.fields.Order.TheVariants.{Big}
use Rattle.hx_bytes.proofs.Laws.{length-number_bytes, length-put_at}
use Rattle.volume_header.specs.Header.{header_of}
use Rattle.volume_header.specs.Refusal.{header_refusal, is_locked}
use Rattle.volume_header.specs.declared.header.VolumeHeader.{VolumeHeader}
use Rattle.jnl_format.specs.declared.structures.Info.{Info}
use Rattle.jnl_format.specs.declared.structures.JnlRefusal.{JnlRefusal}
use Rattle.jnl_format.specs.Info.{info_of, info_fault, holds, unless_fault}
use Rattle.jnl_format.specs.Header.{header_read}
use Rattle.jnl_format.specs.Header as jnl
use Rattle.jnl_format.specs.Recovery.{Content, Journal, sector, header_of_volume, info_sector_of, info_in, journal_in, and_then, recovery_at, recovery_at_as, text_fault, replayed}
use Rattle.jnl_format.proofs.Headers.{length-header_spelled}
use Rattle.jnl_format.proofs.Recovering.{journal_is_kept}
use Rattle.hfs_volume.specs.Mount.{IsOpen}
use Rattle.volume_make.specs.declared.layout.Layout.{Layout}
use Rattle.volume_make.specs.Layout.{CanBe, IsFitting, layout_of, first_of, count_of}
use Rattle.volume_make.specs.Texts.{fresh_header, info_text, journal_text, piece}
use Rattle.volume_make.specs.Laws.{JournalFound, fresh_info, fresh_journal}
use Rattle.volume_make.specs.Written.{IsFormatted, Holds}
use Rattle.volume_make.proofs.Accepting.{header_accepted}
use Rattle.volume_make.proofs.Fields.{header_back}
use Rattle.volume_make.proofs.Finding.{journal_found}
use Rattle.volume_make.proofs.Sizes.{each_size, fitting, layout_sectors}
use Rattle.fresh_volume.specs.Fresh.{StandsForItself, journal_of}
use Rattle.fresh_volume.proofs.Pieces.{piece_inside}

-- the first sector of a part, whose text is one sector
first_piece : (content : Content) (first count : ℕ) (text : List ℕ) → Holds content first count (piece text) → 1 ≤ count → length text ≡ 512 → sector content first ≡ text
first_piece content first count text held some long =
    ap (sector content) {x = first} {y = first + 0} (omega arith) ∙ held 0 (omega arith) ∙ piece_inside text 0 (omega (arith, long)) ∙ take_all 512 text (omega (arith, long))

length-info_text : (layout : Layout) → length (info_text layout) ≡ 512
length-info_text layout =
    let info : Info = fresh_info layout in
    let blank : List ℕ = replicate 512 0 in
    let zero_long : length blank ≡ 512 = length-replicate {A = ℕ} 512 0 in
    let one : List ℕ = put_at blank 0 (big 4 info.flags) in
    let one_long : length one ≡ 512 = length-put_at blank (big 4 info.flags) 0 (omega (arith, zero_long, length-number_bytes Big 4 info.flags)) ∙ zero_long in
    let two : List ℕ = put_at one 36 (big 8 info.offset) in
    let two_long : length two ≡ 512 = length-put_at one (big 8 info.offset) 36 (omega (arith, one_long, length-number_bytes Big 8 info.offset)) ∙ one_long in
    length-put_at two (big 8 info.size) 44 (omega (arith, two_long, length-number_bytes Big 8 info.size)) ∙ two_long

length-journal_text : (layout : Layout) → length (journal_text layout) ≡ 512
length-journal_text layout =
    let head : List ℕ = jnl.header_bytes (fresh_journal layout) in
    let rest : List ℕ = replicate 468 0 in
    let head_long : length head ≡ 44 = length-header_spelled _ (fresh_journal layout) in
    omega (arith, length-append head rest, head_long, length-replicate {A = ℕ} 468 0)

-- a sector before the journal is none of its own
not_held : (info : Info) (first at : ℕ) → info.offset ≡ first * 512 → at < first → holds info at ≡ false
not_held info first at place before =
    ap (λ (b : Bool). b && nat_lt (at * 512) (info.offset + info.size)) (le-ltb info.offset ((at + 1) * 512) (omega (arith, place)))

none_held : (a b : Bool) → a ≡ false → b ≡ false → (a || b) ≡ false
none_held a b first second = cc

module _ (sectors block journal : ℕ) (name : List ℕ) (old new : Content) (size : length old ≡ sectors) (can : CanBe sectors block journal) (made : IsFormatted (layout_of sectors block journal) name old new) where
  abbrev layout : Layout
  layout = layout_of sectors block journal

  fit : IsFitting layout
  fit = fitting sectors block journal can

  pub found : JournalFound layout
  found = journal_found sectors block journal can

  long : length new ≡ layout.sectors
  long = made.size ∙ size ∙ sym (layout_sectors sectors block journal)

  head_is : header_of_volume new ≡ fresh_header layout
  head_is = ap header_of made.header ∙ header_back sectors block journal can

  abbrev at : ℕ
  at = info_sector_of (header_of_volume new)

  at_is : at ≡ first_of layout layout.info
  at_is = ap info_sector_of head_is

  pub info_sector : sector new at ≡ info_text layout
  info_sector = ap (sector new) at_is ∙ first_piece new (first_of layout layout.info) (count_of layout layout.info) (info_text layout) made.info fit.info_room (length-info_text layout)

  -- the journal begins with a whole sector
  offset_is : (fresh_info layout).offset ≡ first_of layout layout.journal * 512
  offset_is =
      let whole : layout.block ≡ layout.block / 512 * 512 = each_size (λ n. n ≡ n / 512 * 512) refl refl refl refl refl refl refl refl layout.block fit.block_size in
      ap (λ (n : ℕ). layout.journal.start * n) whole ∙ sym (mul_assoc layout.journal.start (layout.block / 512) 512)

  journal_sector : sector new ((fresh_info layout).offset / 512) ≡ journal_text layout
  journal_sector =
      let place : (fresh_info layout).offset / 512 ≡ first_of layout layout.journal = ap (λ (n : ℕ). n / 512) offset_is ∙ omega arith in
      let some : 1 ≤ count_of layout layout.journal = omega (arith, fit.journal_room) in
      ap (sector new) place ∙ first_piece new (first_of layout layout.journal) (count_of layout layout.journal) (journal_text layout) made.journal some (length-journal_text layout)

  info_is : info_in at new ≡ Ok (fresh_info layout)
  info_is =
      let info : Info = fresh_info layout in
      let first : ℕ = first_of layout layout.journal in
      let header : holds info 2 ≡ false = not_held info first 2 offset_is (omega (arith, fit.bitmap, fit.info, fit.journal, fit.info_room)) in
      let block_sector : holds info at ≡ false = not_held info first at offset_is (omega (arith, at_is, fit.journal, fit.info_room)) in
      ap (λ (i : Info). unless_fault (info_fault (length new * 512) (holds i 2 || holds i at) i) i) (ap info_of info_sector ∙ found.info)
      ∙ ap (λ (taken : Bool). unless_fault (info_fault (length new * 512) taken info) info) (none_held (holds info 2) (holds info at) header block_sector)
      ∙ ap (λ (n : ℕ). unless_fault (info_fault (n * 512) false info) info) long
      ∙ ap (λ (fault : Option JnlRefusal). unless_fault fault info) found.inside

  journal_is : journal_in at new ≡ Ok (journal_of layout)
  journal_is =
      journal_is_kept at new (fresh_info layout) (Ok (fresh_journal layout)) info_is refl (ap (header_read (fresh_info layout).size) journal_sector ∙ found.journal)

  recovers : recovery_at at (header_of_volume new).last_mounted_version new ≡ Ok new
  unfolding recovery_at_as
  recovers =
      ap (λ (r : Result Journal JnlRefusal). and_then r (λ j. unless_fault (text_fault at (header_of_volume new).last_mounted_version j new) (replayed j new))) journal_is

  open_is : IsOpen new
  open_is = record {
    accepted = ap (λ (n : ℕ). header_refusal (header_of_volume new) n) (made.size ∙ size) ∙ ap (λ (h : VolumeHeader). header_refusal h sectors) head_is ∙ header_accepted sectors block journal can;
    unlocked = ap (λ (h : VolumeHeader). is_locked h.attributes) head_is;
  }

  pub stands_for_itself : StandsForItself (layout_of sectors block journal) new
  stands_for_itself = record { is_open = open_is; found = journal_is; recovers = recovers }
