-- The homes of a text's lists, where each list is as it must be: on the volume, apart from the journal and the
-- info block, with their bytes in the text, and the volume header stays one of the same volume.
use Rattle.std.proofs.Common.{◌≡◌, ◌≢◌, ℕ, zero, suc, ◌+◌, ◌-◌, ◌*◌, ◌/◌, ◌%◌, ◌<◌, ◌≤◌, ◌⊎◌, Bool, true, false, not, ◌&&◌, ◌||◌, List, [], ◌∷◌, ◌++◌, length, refl, sym, ◌∙◌, subst, inl, inr, arith, ltb, leb, eqb, cond}
use Rattle.std.proofs.lemmas.Bool.{and_parts, or_cases, ltb-true, leb-true, eqb-true, not-true, true≢false, lt-ltb, le-leb, and_from}
use Rattle.hx_bytes.specs.declared.fields.Order.{Order}
use Rattle.jnl_format.specs.List.{entry_at}
use Rattle.jnl_format.specs.Text.{bytes_at, is_skipped, covers, is_inside, is_apart, keeps_volume, keeps_header, is_block, are_blocks, block_bytes, sector_homes, block_homes, entry_homes}
use Rattle.jnl_format.specs.declared.blocks.Home.{Home}
use Rattle.jnl_format.specs.declared.blocks.Volume.{Volume}
use Rattle.jnl_format.specs.declared.structures.Entry.{Entry}
use Rattle.jnl_format.specs.Named.{IsGoodHome, Each}

pub each_append : (P : Home → Type 0) (hs gs : List Home) → Each P hs → Each P gs → Each P (hs ++ gs)
each_append P [] gs a b = b
each_append P (h ∷ hs) gs a b = (a.0, each_append P hs gs a.1 b)

-- homes that go on sector by sector
pub each_sector : (P : Home → Type 0) (sector place count : ℕ) → ((k : ℕ) (h : Home) → k < count → h.sector ≡ sector + k → h.place ≡ place + 512 * k → P h) → Each P (sector_homes sector place count)
each_sector P sector place zero each = tt
each_sector P sector place (suc count) each = (
  each 0 (record { sector = sector; place = place }) (omega arith) (omega arith) (omega arith),
  each_sector P (sector + 1) (place + 512) count (λ k h below at here. each (suc k) h (omega arith) (omega arith) (omega arith)),
)

-- what a block's test says of one that isn't skipped
pub record IsBlock (volume : Volume) (text : List ℕ) (body : ℕ) (entry : Entry) : Type 0 where
  pub some : 0 < entry.bsize
  pub whole : entry.bsize % 512 ≡ 0
  pub inside : entry.bnum + entry.bsize / 512 ≤ volume.sectors
  pub apart : (entry.bnum + entry.bsize / 512 ≤ volume.first) ⊎ (volume.first + volume.count ≤ entry.bnum)
  pub no_info : covers entry volume.info_sector ≡ false
  pub header : (covers entry 2 ≡ false) ⊎ (keeps_volume volume (bytes_at text (body + (2 - entry.bnum) * 512) 512) ≡ true)

split_or : (x y : Bool) → not x ≡ true ⊎ y ≡ true → (x ≡ false) ⊎ (y ≡ true)
split_or x y (inl h) = inl (not-true x h)
split_or x y (inr h) = inr h

apart_parts : (a b c d : ℕ) → (leb a b ≡ true) ⊎ (leb c d ≡ true) → (a ≤ b) ⊎ (c ≤ d)
apart_parts a b c d (inl h) = inl (leb-true a b h)
apart_parts a b c d (inr h) = inr (leb-true c d h)

pub block_parts : (volume : Volume) (text : List ℕ) (body : ℕ) (entry : Entry) → (is_inside volume entry && is_apart volume entry && keeps_header volume text body entry) ≡ true → IsBlock volume text body entry
block_parts volume text body entry h =
    let a = and_parts (is_inside volume entry && is_apart volume entry) (keeps_header volume text body entry) h in
    let b = and_parts (is_inside volume entry) (is_apart volume entry) a.0 in
    let i = and_parts (ltb 0 entry.bsize && eqb (entry.bsize % 512) 0) (leb (entry.bnum + entry.bsize / 512) volume.sectors) b.0 in
    let j = and_parts (ltb 0 entry.bsize) (eqb (entry.bsize % 512) 0) i.0 in
    let d = and_parts (leb (entry.bnum + entry.bsize / 512) volume.first || leb (volume.first + volume.count) entry.bnum) (not (covers entry volume.info_sector)) b.1 in
    record {
      some = ltb-true 0 entry.bsize j.0;
      whole = eqb-true (entry.bsize % 512) 0 j.1;
      inside = leb-true (entry.bnum + entry.bsize / 512) volume.sectors i.1;
      apart = apart_parts (entry.bnum + entry.bsize / 512) volume.first (volume.first + volume.count) entry.bnum (or_cases (leb (entry.bnum + entry.bsize / 512) volume.first) (leb (volume.first + volume.count) entry.bnum) d.0);
      no_info = not-true (covers entry volume.info_sector) d.1;
      header = split_or (covers entry 2) (keeps_volume volume (bytes_at text (body + (2 - entry.bnum) * 512) 512)) (or_cases (not (covers entry 2)) (keeps_volume volume (bytes_at text (body + (2 - entry.bnum) * 512) 512)) a.1);
    }

-- a sector of a block is covered by it
covered : (entry : Entry) (k sector : ℕ) → k < entry.bsize / 512 → sector ≡ entry.bnum + k → covers entry sector ≡ true
covered entry k sector below at = and_from (leb entry.bnum sector) (ltb sector (entry.bnum + entry.bsize / 512)) (le-leb entry.bnum sector (omega arith)) (lt-ltb sector (entry.bnum + entry.bsize / 512) (omega arith))

apart_each : (entry : Entry) (volume : Volume) (k sector : ℕ) → k < entry.bsize / 512 → sector ≡ entry.bnum + k → (entry.bnum + entry.bsize / 512 ≤ volume.first) ⊎ (volume.first + volume.count ≤ entry.bnum) → (sector < volume.first) ⊎ (volume.first + volume.count ≤ sector)
apart_each entry volume k sector below at (inl h) = inl (omega arith)
apart_each entry volume k sector below at (inr h) = inr (omega arith)

header_each : (volume : Volume) (text : List ℕ) (body : ℕ) (entry : Entry) (k sector place : ℕ) → k < entry.bsize / 512 → sector ≡ entry.bnum + k → place ≡ body + 512 * k → (covers entry 2 ≡ false) ⊎ (keeps_volume volume (bytes_at text (body + (2 - entry.bnum) * 512) 512) ≡ true) → sector ≡ 2 → keeps_volume volume (bytes_at text place 512) ≡ true
header_each volume text body entry k sector place below at here (inl h) two = absurd (true≢false (sym (covered entry k 2 below (omega arith)) ∙ h))
header_each volume text body entry k sector place below at here (inr h) two =
    let P : ℕ → Type 0 = λ p. keeps_volume volume (bytes_at text p 512) ≡ true in
    let same : body + (2 - entry.bnum) * 512 ≡ place = omega arith in
    subst P same h

pub good_block : (volume : Volume) (text : List ℕ) (body : ℕ) (entry : Entry) → body + entry.bsize ≤ length text → IsBlock volume text body entry → (k : ℕ) (h : Home) → k < entry.bsize / 512 → h.sector ≡ entry.bnum + k → h.place ≡ body + 512 * k → IsGoodHome volume text h
good_block volume text body entry fits b k h below at here = record {
  inside = omega (arith, b.inside);
  apart = apart_each entry volume k h.sector below at b.apart;
  no_info = λ same. true≢false (sym (covered entry k volume.info_sector below (sym same ∙ at)) ∙ b.no_info);
  placed = omega arith;
  header = header_each volume text body entry k h.sector h.place below at here b.header;
}

good_cases : (volume : Volume) (text : List ℕ) (body : ℕ) (entry : Entry) (skipped : Bool) → is_skipped entry ≡ skipped → is_block volume text body entry ≡ true → body + entry.bsize ≤ length text → Each (IsGoodHome volume text) (cond skipped [] (sector_homes entry.bnum body (entry.bsize / 512)))
good_cases volume text body entry true is h fits = tt
good_cases volume text body entry false is h fits =
    let b : IsBlock volume text body entry = block_parts volume text body entry (subst (λ s. (s || (is_inside volume entry && is_apart volume entry && keeps_header volume text body entry)) ≡ true) is h) in
    each_sector (IsGoodHome volume text) entry.bnum body (entry.bsize / 512) (good_block volume text body entry fits b)

pub good_blocks : (volume : Volume) (order : Order) (text : List ℕ) (at body count : ℕ) → are_blocks volume order text at body count ≡ true → body + block_bytes order text at count ≤ length text → Each (IsGoodHome volume text) (entry_homes order text at body count)
good_blocks volume order text at body zero all fits = tt
good_blocks volume order text at body (suc count) all fits =
    let e = entry_at order text at in
    let p = and_parts (is_block volume text body e) (are_blocks volume order text (at + 16) (body + e.bsize) count) all in
    each_append (IsGoodHome volume text) (block_homes e body) (entry_homes order text (at + 16) (body + e.bsize) count)
    (good_cases volume text body e (is_skipped e) refl p.0 (omega arith))
    (good_blocks volume order text (at + 16) (body + e.bsize) count p.1 (omega arith))
