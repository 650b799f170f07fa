-- Changes that were found in a content are its repair after a mount, too.
use Rattle.std.proofs.Common.{◌≡◌, ◌≢◌, ◌⊎◌, ◌<◌, ◌≤◌, ◌-◌, ℕ, Bool, true, false, ◌==◌, ◌||◌, if◌then◌else◌, List, [], ◌∷◌, length, get_or, inl, inr, refl, sym, ◌∙◌, ap, subst, arith, ⊎_elim, ext_get_or}
use Rattle.std.specs.Prelude.{Contains}
use Rattle.std.proofs.lemmas.Bool.{eq-eqb, ne_eqb}
use Rattle.std.proofs.lemmas.Bool.Decides.{eqb_tells}
use Rattle.std.specs.List.Sorted.{IsNonDecreasingBy}
use Rattle.std.proofs.lemmas.List.{get_or-map, length-map}
use Rattle.std.proofs.lemmas.List.FromFn.{length-map-range_with_len}
use Rattle.hx_bytes.specs.Field.{AreBytes, big_at}
use Rattle.sector_disk.specs.Lists.{Content, sector}
use Rattle.jnl_format.specs.Recovery.{header_of_volume}
use Rattle.volume_header.specs.Header.{header_of}
use Rattle.volume_header.specs.declared.header.VolumeHeader.{VolumeHeader}
use Rattle.hfs_volume.proofs.Members.{first_or_later, map_stands}
use Rattle.volume_repair.specs.Differing.{Differs, differing}
use Rattle.volume_repair.specs.Recount.{with_word}
use Rattle.volume_repair.specs.Remount.{IsRenewed, RepairIsRenewed, RepairStaysRemounted, with_counts_of}
use Rattle.volume_repair.specs.Repair.{IsRepair, mended}
use Rattle.volume_repair.proofs.Counting.{word_stays}
use Rattle.volume_repair.proofs.Remounted.{may_again}
use Rattle.volume_repair.proofs.Repairing.{mendable, same_size}
use Rattle.hfs_volume.specs.Sound.{IsSound}
use Rattle.fsck_repair.specs.Changing.{no_change}
use Rattle.fsck_repair.specs.Overlay.{changed, overlaid, places_of, ChangesOnce}
use Rattle.fsck_repair.specs.Renewing.{IsMountOf, IsRenewedHeader, IsSoundRepair, with_header, with_headers}
use Rattle.fsck_repair.specs.declared.mend.Change.{Change}
use Rattle.fsck_repair.proofs.DiffLaws.{changed_cases}
use Rattle.fsck_repair.proofs.Overlaying.{overlaid_at}
use Rattle.fsck_repair.proofs.PutLaws.{found_or_not}

-- ---- changes of headers

-- a change of a header's sector
at_header : (at last : ℕ) → (at ≡ 2) ⊎ (at ≡ last) → ((at == 2) || (at == last)) ≡ true
at_header at last (inl two) = ap (λ b. b || (at == last)) (eq-eqb at 2 two)
at_header at last (inr is) = either (at == 2)
  where
    either : (b : Bool) → (b || (at == last)) ≡ true
    either true = refl
    either false = eq-eqb at last is

not_header : (at last : ℕ) → at ≢ 2 → at ≢ last → ((at == 2) || (at == last)) ≡ false
not_header at last not_two not_last = (λ i. ne_eqb at 2 not_two i || ne_eqb at last not_last i)

pub same_places : (last : ℕ) (head : List ℕ) (changes : List Change) → places_of (with_headers last head changes) ≡ places_of changes
same_places last head [] = refl
same_places last head (c ∷ cs) = ap (λ l. c.at ∷ l) (same_places last head cs)

in_or_out : (changes : List Change) (at : ℕ) → Contains (places_of changes) at ⊎ (Contains (places_of changes) at → ⊥)
in_or_out changes at = elim (changed_cases changes at []) [
  | inl there ↦ inl (subst (λ k. Contains (places_of changes) k) there.2 (map_stands (λ (c : Change). c.at) changes there.0 there.1))
  | inr none ↦ inr none.0
]

-- they stay in their order, and each is of another sector
pub still_sorted : (last : ℕ) (head : List ℕ) (changes : List Change) → IsNonDecreasingBy (λ change. change.at) changes → IsNonDecreasingBy (λ change. change.at) (with_headers last head changes)
still_sorted last head changes sorted i j d le within =
    let f = with_header last head in
    let low : j < length changes = omega (arith, within, length-map changes f) in
    let first = ap (λ (c : Change). c.at) (get_or-map f changes i no_change d (omega (arith, le, low))) in
    let second = ap (λ (c : Change). c.at) (get_or-map f changes j no_change d low) in
    omega (arith, first, second, sorted i j no_change le low)

pub still_once : (last : ℕ) (head : List ℕ) (changes : List Change) → ChangesOnce changes → ChangesOnce (with_headers last head changes)
still_once last head [] once = tt
still_once last head (c ∷ cs) once = (subst (λ (l : List ℕ). ¬ Contains l c.at) (sym (same_places last head cs)) once.0, still_once last head cs once.1)

-- changes that change no sector leave it
left : (changes : List Change) (at : ℕ) → (Contains (places_of changes) at → ⊥) → (old : List ℕ) → changed changes at old ≡ old
left changes at none = ⊎_elim (λ stands. absurd (none stands)) (λ stays. stays) (found_or_not changes at)

module _ (last : ℕ) (head : List ℕ) where
  -- a header's sector that changes has these bytes
  headers_there : (changes : List Change) (at : ℕ) (old : List ℕ) → (at ≡ 2) ⊎ (at ≡ last) → Contains (places_of changes) at → changed (with_headers last head changes) at old ≡ head
  headers_there [] at old is stands = absurd (omega (arith, stands.1))
  headers_there (c ∷ cs) at old is stands = ⊎_elim
      (λ (same : (c.at == at ≡ true) × (c.at ≡ at)).
      ap (λ b. if b then (with_header last head c).bytes else changed (with_headers last head cs) at old) same.0
      ∙ ap (λ b. if b then head else c.bytes) (at_header c.at last (subst (λ k. (k ≡ 2) ⊎ (k ≡ last)) (sym same.1) is)))
      (λ (other : (c.at == at ≡ false) × (c.at ≢ at)).
      ap (λ b. if b then (with_header last head c).bytes else changed (with_headers last head cs) at old) other.0
      ∙ headers_there cs at old is (⊎_elim (λ first. absurd (other.1 (sym first))) (λ later. later) (first_or_later c.at at (places_of cs) stands)))
      (eqb_tells c.at at)

  -- another sector has the bytes that it had
  headers_else : (changes : List Change) (at : ℕ) (old : List ℕ) → at ≢ 2 → at ≢ last → changed (with_headers last head changes) at old ≡ changed changes at old
  headers_else [] at old not_two not_last = refl
  headers_else (c ∷ cs) at old not_two not_last = ⊎_elim
      (λ (same : (c.at == at ≡ true) × (c.at ≡ at)).
      ap (λ b. if b then (with_header last head c).bytes else changed (with_headers last head cs) at old) same.0
      ∙ ap (λ b. if b then head else c.bytes) (not_header c.at last (λ two. not_two (sym same.1 ∙ two)) (λ is. not_last (sym same.1 ∙ is)))
      ∙ sym (ap (λ b. if b then c.bytes else changed cs at old) same.0))
      (λ (other : (c.at == at ≡ false) × (c.at ≢ at)).
      ap (λ b. if b then (with_header last head c).bytes else changed (with_headers last head cs) at old) other.0
      ∙ headers_else cs at old not_two not_last
      ∙ sym (ap (λ b. if b then c.bytes else changed cs at old) other.0))
      (eqb_tells c.at at)

-- a sector that changes has the same bytes, whatever it had
there_same : (changes : List Change) (at : ℕ) (one other : List ℕ) → Contains (places_of changes) at → changed changes at one ≡ changed changes at other
there_same [] at one other stands = absurd (omega (arith, stands.1))
there_same (c ∷ cs) at one other stands = ⊎_elim
    (λ (same : (c.at == at ≡ true) × (c.at ≡ at)). ap (λ b. if b then c.bytes else changed cs at one) same.0 ∙ sym (ap (λ b. if b then c.bytes else changed cs at other) same.0))
    (λ (differs : (c.at == at ≡ false) × (c.at ≢ at)).
    ap (λ b. if b then c.bytes else changed cs at one) differs.0
    ∙ there_same cs at one other (⊎_elim (λ first. absurd (differs.1 (sym first))) (λ later. later) (first_or_later c.at at (places_of cs) stands))
    ∙ sym (ap (λ b. if b then c.bytes else changed cs at other) differs.0))
    (eqb_tells c.at at)

-- the counts of a header put into its own sector
pub own_counts : (head : VolumeHeader) (bytes : List ℕ) → AreBytes bytes → length bytes ≡ 512 → head.file_count ≡ big_at 4 bytes 32 → head.folder_count ≡ big_at 4 bytes 36 → head.free_blocks ≡ big_at 4 bytes 48 → with_counts_of head bytes ≡ bytes
own_counts head bytes are long files folders free =
    ap (λ l. with_word 32 head.file_count (with_word 36 head.folder_count l)) (word_stays bytes 48 head.free_blocks are (omega (arith, long)) (sym free))
    ∙ ap (λ l. with_word 32 head.file_count l) (word_stays bytes 36 head.folder_count are (omega (arith, long)) (sym folders))
    ∙ word_stays bytes 32 head.file_count are (omega (arith, long)) (sym files)

-- ---- a mounted content has a repair

pub repair_there : (start repaired now : Content) → length (sector start 2) ≡ 512 → IsRepair start repaired → IsSound repaired → (re : IsMountOf start now) → IsRepair now (mended now)
repair_there start repaired now long repair sound re = by repair
  where
    by : IsRepair start repaired → IsRepair now (mended now)
    by (inl (may, is)) = inl (may_again start now may long (subst IsSound is sound) re.mounted, refl)
    by (inr (cannot, same)) = absurd (cannot (mendable start (subst IsSound same sound)))

module _ (law : RepairIsRenewed) (stays : RepairStaysRemounted) (start now : Content) (changes : List Change) (is : IsSoundRepair start changes) (re : IsMountOf start now) where
  abbrev found : Content
  found = overlaid changes start

  abbrev other : Content
  other = mended now

  other_is : IsRepair now other
  other_is = repair_there start found now re.start_header is.repair is.sound re

  kept : IsRenewed start found now other
  kept = law start found now other re.start_header re.now_header is.repair is.sound re.mounted other_is

  found_at : (at : ℕ) → at < length now → sector found at ≡ changed changes at (sector start at)
  found_at at inside = overlaid_at changes start (length start) at refl (omega (arith, inside, re.mounted.size))

  found_left : (at : ℕ) → at < length now → (Contains (places_of changes) at → ⊥) → sector found at ≡ sector start at
  found_left at inside none = found_at at inside ∙ left changes at none (sector start at)

  -- counts that stood in the header still stand
  header_left : sector found 2 ≡ sector start 2 → sector other 2 ≡ sector now 2
  header_left stood =
      let same : header_of_volume found ≡ header_of_volume start = ap header_of stood in
      kept.header
      ∙ own_counts (header_of_volume found) (sector now 2) (re.now_bytes 2) re.now_header
      (ap (λ (h : VolumeHeader). h.file_count) same ∙ sym (ap (λ (h : VolumeHeader). h.file_count) re.mounted.header))
      (ap (λ (h : VolumeHeader). h.folder_count) same ∙ sym (ap (λ (h : VolumeHeader). h.folder_count) re.mounted.header))
      (ap (λ (h : VolumeHeader). h.free_blocks) same ∙ sym (ap (λ (h : VolumeHeader). h.free_blocks) re.mounted.header))

  -- the sector of the header is that of the repair
  pub head_renewed : (was head : List ℕ) → 2 < length now → was ≡ sector now 2 → IsRenewedHeader changes was head → head ≡ sector other 2
  head_renewed was head inside read (inl (bytes, there, put)) =
      put ∙ (λ i. with_counts_of (header_of ((there (sector start 2) ∙ sym (found_at 2 inside)) i)) (read i)) ∙ sym kept.header
  head_renewed was head inside read (inr (none, stays)) = stays ∙ read ∙ sym (header_left (found_at 2 inside ∙ none (sector start 2)))

  module _ (last : ℕ) (head : List ℕ) (last_is : last ≡ length now - 2) (head_is : head ≡ sector other 2) where
    abbrev new : List Change
    new = with_headers last head changes

    last_start : last ≡ length start - 2
    last_start = last_is ∙ ap (λ n. n - 2) re.mounted.size

    -- a sector that changes
    of_change : (at : ℕ) → at < length now → Contains (places_of changes) at → changed new at (sector now at) ≡ sector other at
    of_change at inside stands = ⊎_elim
        (λ (two : (at == 2 ≡ true) × (at ≡ 2)). headers_there last head changes at (sector now at) (inl two.1) stands ∙ head_is ∙ ap (sector other) (sym two.1))
        (λ (not_two : (at == 2 ≡ false) × (at ≢ 2)). ⊎_elim
        (λ (copy : (at == last ≡ true) × (at ≡ last)).
        let there : at ≡ length start - 2 = copy.1 ∙ last_start in
        headers_there last head changes at (sector now at) (inr copy.1) stands ∙ head_is
        ∙ sym (ap (sector other) there ∙ kept.copy (subst (λ k. Differs start found k) there (is.each at stands))))
        (λ (not_copy : (at == last ≡ false) × (at ≢ last)).
        headers_else last head changes at (sector now at) not_two.1 not_copy.1 ∙ there_same changes at (sector now at) (sector start at) stands
        ∙ sym ((kept.elsewhere at not_two.1 (λ there. not_copy.1 (there ∙ sym last_start))).1 (is.each at stands) ∙ found_at at inside))
        (eqb_tells at last))
        (eqb_tells at 2)

    -- and one that doesn't
    of_none : (at : ℕ) → at < length now → (Contains (places_of changes) at → ⊥) → changed new at (sector now at) ≡ sector other at
    of_none at inside none =
        left new at (λ stands. none (subst (λ (l : List ℕ). Contains l at) (same_places last head changes) stands)) (sector now at)
        ∙ sym (⊎_elim
        (λ (two : (at == 2 ≡ true) × (at ≡ 2)). subst (λ k. sector other k ≡ sector now k) (sym two.1) (header_left (subst (λ k. sector found k ≡ sector start k) two.1 (found_left at inside none))))
        (λ (not_two : (at == 2 ≡ false) × (at ≢ 2)). ⊎_elim
        (λ (copy : (at == last ≡ true) × (at ≡ last)).
        let there : at ≡ length start - 2 = copy.1 ∙ last_start in
        subst (λ k. sector other k ≡ sector now k) (sym there) (kept.stays (subst (λ k. sector found k ≡ sector start k) there (found_left at inside none))))
        (λ (not_copy : (at == last ≡ false) × (at ≢ last)).
        (kept.elsewhere at not_two.1 (λ there. not_copy.1 (there ∙ sym last_start))).0 (found_left at inside none))
        (eqb_tells at last))
        (eqb_tells at 2))

    pub renewed_is : overlaid new now ≡ other
    renewed_is =
        let size : length (overlaid new now) ≡ length now = length-map-range_with_len (λ at. changed new at (sector now at)) 0 (length now) in
        ext_get_or [] (overlaid new now) other (size ∙ sym (same_size now other other_is))
        (λ at below.
        let inside : at < length now = omega (arith, below, size) in
        overlaid_at new now (length now) at refl inside ∙ ⊎_elim (λ stands. of_change at inside stands) (λ none. of_none at inside none) (in_or_out changes at))

    pub renewed_repair : IsRepair now (overlaid new now)
    renewed_repair = subst (λ (x : Content). IsRepair now x) (sym renewed_is) other_is

    pub renewed_differ : length new ≡ differing now (overlaid new now)
    renewed_differ =
        length-map changes (with_header last head) ∙ is.count
        ∙ sym (stays start found now (overlaid new now) re.start_bytes re.now_bytes re.start_header re.now_header is.repair is.sound re.mounted renewed_repair).count
