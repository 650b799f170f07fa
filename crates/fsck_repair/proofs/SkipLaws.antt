-- Sectors of the headers, which are skipped.
use Rattle.std.proofs.Common.{◌≡◌, ◌≢◌, ◌-◌, ℕ, Bool, true, false, ◌==◌, ◌&&◌, length, refl, sym, ◌∙◌, ap, if◌then◌else◌}
use Rattle.std.specs.Prelude.{Option, Some, None}
use Rattle.std.proofs.lemmas.Bool.{true≢false, ne_eqb, eq-eqb, eqb-true}
use Rattle.sector_disk.specs.Lists.{Content}
use Rattle.volume_repair.specs.Repair.{needs_copy}
use Rattle.fsck_repair.specs.Counted.{IsPlain}

module _ (content : Content) (skip : Option ℕ) (at : ℕ) (is : skip ≡ (if needs_copy content then Some (length content - 2) else None)) where
  -- the sector of a copy that is written is the last but one
  copy_is : (copy : ℕ) → skip ≡ Some copy → (copy ≡ length content - 2) × (needs_copy content ≡ true)
  copy_is copy some = by (needs_copy content) refl
    where
      by : (b : Bool) → needs_copy content ≡ b → (copy ≡ length content - 2) × (needs_copy content ≡ true)
      by true needs = (let same : Some copy ≡ Some (length content - 2) = sym some ∙ is ∙ ap (λ b. if b then Some (length content - 2) else None) needs in let e : copy ≡ length content - 2 = cc in e, needs)
      by false none = absurd (let wrong : Some copy ≡ None = sym some ∙ is ∙ ap (λ b. if b then Some (length content - 2) else None) none in cc)

  none_needs : skip ≡ None → needs_copy content ≡ false
  none_needs none = by (needs_copy content) refl
    where
      by : (b : Bool) → needs_copy content ≡ b → needs_copy content ≡ false
      by false same = same
      by true needs = absurd (let wrong : None ≡ Some (length content - 2) = sym none ∙ is ∙ ap (λ b. if b then Some (length content - 2) else None) needs in cc)

  off : (a : Bool) → (a && false) ≡ false
  off true = refl
  off false = refl

  pub plain_some : (copy : ℕ) → skip ≡ Some copy → at ≢ 2 → (copy == at) ≡ false → IsPlain content at
  plain_some copy some no_header other = record {
    no_header = ne_eqb at 2 no_header;
    no_copy = ap (λ b. b && needs_copy content) (ne_eqb at (length content - 2) (λ same. true≢false (sym (eq-eqb copy at ((copy_is copy some).0 ∙ sym same)) ∙ other)));
  }

  pub plain_none : skip ≡ None → at ≢ 2 → IsPlain content at
  plain_none none no_header = record {
    no_header = ne_eqb at 2 no_header;
    no_copy = ap (λ b. (at == length content - 2) && b) (none_needs none) ∙ off (at == length content - 2);
  }

  pub other_some : (copy : ℕ) → skip ≡ Some copy → IsPlain content at → (copy == at) ≡ false
  other_some copy some plain = by (copy == at) refl
    where
      by : (b : Bool) → (copy == at) ≡ b → (copy == at) ≡ false
      by false tells = tells
      by true tells = absurd (
          let place = copy_is copy some in
          true≢false (sym ((λ i. (eq-eqb at (length content - 2) (sym (eqb-true copy at tells) ∙ place.0) i) && place.1 i)) ∙ plain.no_copy))

pub header_not_plain : (content : Content) (at : ℕ) → at ≡ 2 → ¬ IsPlain content at
header_not_plain content at is plain = true≢false (sym (eq-eqb at 2 is) ∙ plain.no_header)
