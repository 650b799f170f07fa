-- The volume header's sector with what it counts.
use Rattle.std.proofs.Common.{◌≡◌, ◌⊎◌, ◌<◌, ◌≤◌, ℕ, ◌-◌, Bool, true, false, not, ◌==◌, ◌&&◌, nat_le, List, length, inl, inr, refl, sym, ◌∙◌, ap, subst}
use Rattle.std.proofs.lemmas.Bool.{true≢false, eqb-true, leb-true, eq-eqb, and_parts}
use Rattle.hx_bytes.specs.Field.{AreBytes, put_at}
use Rattle.sector_disk.specs.Lists.{Content, sector}
use Rattle.hfs_volume.specs.Content.{volume_of}
use Rattle.volume_header.specs.Refusal.{is_volume_size}
use Rattle.volume_repair.specs.Recount.{agrees, with_word}
use Rattle.volume_repair.specs.Repair.{header_mended, needs_copy}
use Rattle.fsck_repair.specs.Changing.{Notes, noted}
use Rattle.fsck_repair.specs.Counted.{IsHeaderSector, HasNumbers, HasHeaders}
use Rattle.fsck_repair.specs.declared.mend.Change.{Change}
use Rattle.fsck_repair.specs.declared.numbers.Numbers.{Numbers}
use Rattle.fsck_core.specs.declared.reading.Headers.{Headers}
use Rattle.fsck_repair.proofs.MendedLaws.{header_sector}
use Rattle.fsck_repair.proofs.NoteLaws.{notes_one, notes_as, notes_both}

pub numbers_bytes : (content : Content) (numbers : Numbers) (old new : List ℕ) → HasNumbers content numbers → old ≡ sector content 2 → new ≡ with_word 32 numbers.files (with_word 36 numbers.folders (with_word 48 numbers.free old)) → new ≡ header_mended content
numbers_bytes content numbers old new has was is = is ∙ (λ i. put_at (put_at (put_at (was i) 48 (has.free i)) 36 (has.folders i)) 32 (has.files i))

-- whether the copy is written
pub agreed : (content : Content) (headers : Headers) (met : Bool) → HasHeaders content headers → met ≡ agrees headers.head headers.alternate → needs_copy content ≡ not met
unfolding volume_of
agreed content headers met has is = ap not (sym (is ∙ (λ i. agrees (has.head i) (has.alternate i))))

module _ (content : Content) (changes first : List Change) (old new : List ℕ) (inside : 2 < length content) (was : old ≡ sector content 2) (is : new ≡ header_mended content) (are : AreBytes new) (noted_is : first ≡ noted changes 2 old new) where
  pub first_noted : Notes content (λ s. s ≡ 2) changes first
  first_noted = subst (λ (l : List Change). Notes content (λ s. s ≡ 2) changes l) (sym noted_is) (notes_one content changes 2 old new inside was (header_sector content 2 (inl refl) ∙ sym is) are)

  -- no copy is written
  pub header_alone : needs_copy content ≡ false → Notes content (IsHeaderSector content) changes first
  header_alone none = notes_as content (λ s. s ≡ 2) (IsHeaderSector content) changes first cases first_noted
    where
      cases : (at : ℕ) → IsHeaderSector content at → at ≡ 2
      cases at (inl here) = eqb-true at 2 here
      cases at (inr copy) = absurd (true≢false (sym (and_parts (at == length content - 2) (needs_copy content) copy).1 ∙ none))

  -- the copy is written, too
  pub header_and_copy : (last : ℕ) (before : List ℕ) (second : List Change) → last ≡ length content - 2 → last < length content → needs_copy content ≡ true → before ≡ sector content last → second ≡ noted first last before new → Notes content (IsHeaderSector content) changes second
  header_and_copy last before second last_is low needs read second_is =
      notes_both content (λ s. s ≡ 2) (λ s. s ≡ last) (IsHeaderSector content) changes first second cases first_noted
      (subst (λ (l : List Change). Notes content (λ s. s ≡ last) first l) (sym second_is) (notes_one content first last before new low read (header_sector content last (inr copy) ∙ sym is) are))
    where
      copy : ((last == length content - 2) && needs_copy content) ≡ true
      copy = ap (λ b. b && needs_copy content) (eq-eqb last (length content - 2) last_is) ∙ needs

      cases : (at : ℕ) → IsHeaderSector content at → (at ≡ 2) ⊎ (at ≡ last)
      cases at (inl here) = inl (eqb-true at 2 here)
      cases at (inr there) = inr (eqb-true at (length content - 2) (and_parts (at == length content - 2) (needs_copy content) there).0 ∙ sym last_is)

-- a volume has many sectors
pub many_sectors : (sectors : ℕ) → is_volume_size sectors ≡ true → 2048 ≤ sectors
many_sectors sectors is = leb-true 2048 sectors (and_parts (nat_le 2048 sectors) (nat_le sectors 2147483648) is).0
