-- One sector, one node or one leaf more that was noted.
use Rattle.std.proofs.Common.{◌≡◌, ◌≢◌, ◌⊎◌, ◌<◌, ◌≤◌, ℕ, ◌+◌, List, length, inl, inr, sym, ◌∙◌, ap, subst, arith, ⊎_elim}
use Rattle.std.specs.Prelude.{Some, None, slice_get, slice_index}
use Rattle.std.proofs.lemmas.Bool.{cases_lt}
use Rattle.std.proofs.lemmas.List.{get_or_past}
use Rattle.hx_bytes.specs.Field.{AreBytes}
use Rattle.sector_disk.specs.Lists.{Content, sector}
use Rattle.volume_repair.specs.Repair.{sector_mended}
use Rattle.fsck_repair.specs.Changing.{Notes, noted}
use Rattle.fsck_repair.specs.Counted.{IsPlain}
use Rattle.fsck_repair.specs.Leaf.{IsPlainAt, IsOfNode, IsOfLeaves}
use Rattle.fsck_repair.specs.declared.mend.Change.{Change}
use Rattle.fsck_repair.proofs.NoteLaws.{notes_none, notes_one, notes_as, notes_both}

-- ---- a sector at a place of a file

module _ (content : Content) (sectors : List ℕ) (place : ℕ) (changes : List Change) where
  -- the file has no such sector
  pub no_place : slice_get sectors place ≡ None → Notes content (IsPlainAt content sectors place) changes changes
  no_place none = notes_none content (IsPlainAt content sectors place) changes (λ at is. absurd (let some : None ≡ Some at = sym none ∙ is.0 in cc))

  -- the view hasn't
  pub place_past : (at : ℕ) → slice_get sectors place ≡ Some at → length content ≤ at → Notes content (IsPlainAt content sectors place) changes changes
  place_past at is past = notes_none content (IsPlainAt content sectors place) changes (λ s there inside. absurd (let same : Some at ≡ Some s = sym is ∙ there.0 in let e : at ≡ s = cc in omega (arith, e, past, inside)))

  -- it is skipped
  pub place_skipped : (at : ℕ) → slice_get sectors place ≡ Some at → ¬ IsPlain content at → Notes content (IsPlainAt content sectors place) changes changes
  place_skipped at is skipped = notes_none content (IsPlainAt content sectors place) changes (λ s there. absurd (let same : Some at ≡ Some s = sym is ∙ there.0 in let e : s ≡ at = cc in skipped (subst (IsPlain content) e there.1)))

  -- it is noted
  pub place_noted : (at : ℕ) (old new : List ℕ) (after : List Change) → slice_get sectors place ≡ Some at → at < length content → old ≡ sector content at → sector_mended content at ≡ new → AreBytes new → after ≡ noted changes at old new → Notes content (IsPlainAt content sectors place) changes after
  place_noted at old new after is inside was has are is_noted =
      notes_as content (λ s. s ≡ at) (IsPlainAt content sectors place) changes after (λ s there. let same : Some at ≡ Some s = sym is ∙ there.0 in let e : s ≡ at = cc in e)
      (subst (λ (l : List Change). Notes content (λ s. s ≡ at) changes l) (sym is_noted) (notes_one content changes at old new inside was has are))

-- ---- sectors of a node, and leaves

pub node_more : (content : Content) (sectors : List ℕ) (base k : ℕ) (a b c : List Change) → Notes content (λ at. (j : ℕ) × (j < k) × IsPlainAt content sectors (base + j) at) a b → Notes content (IsPlainAt content sectors (base + k)) b c
    → Notes content (λ at. (j : ℕ) × (j < k + 1) × IsPlainAt content sectors (base + j) at) a c
node_more content sectors base k a b c first second =
    notes_both content (λ at. (j : ℕ) × (j < k) × IsPlainAt content sectors (base + j) at) (IsPlainAt content sectors (base + k)) (λ at. (j : ℕ) × (j < k + 1) × IsPlainAt content sectors (base + j) at) a b c cases first second
  where
    cases : (at : ℕ) → (j : ℕ) × (j < k + 1) × IsPlainAt content sectors (base + j) at → ((j : ℕ) × (j < k) × IsPlainAt content sectors (base + j) at) ⊎ IsPlainAt content sectors (base + k) at
    cases at of = ⊎_elim
        (λ (early : of.0 < k). inl (of.0, early, of.2))
        (λ (late : k ≤ of.0). inr (subst (λ n. IsPlainAt content sectors (base + n) at) {x = of.0} (let less = of.1 in omega (arith, late, less)) of.2))
        (cases_lt of.0 k)

pub leaves_more : (content : Content) (sectors : List ℕ) (per k n : ℕ) (leaves : List ℕ) (a b c : List Change) → n ≡ slice_index leaves k → Notes content (IsOfLeaves content sectors per leaves k) a b → Notes content (IsOfNode content sectors per n) b c
    → Notes content (IsOfLeaves content sectors per leaves (k + 1)) a c
leaves_more content sectors per k n leaves a b c is first second =
    notes_both content (IsOfLeaves content sectors per leaves k) (IsOfNode content sectors per n) (IsOfLeaves content sectors per leaves (k + 1)) a b c cases first second
  where
    cases : (at : ℕ) → IsOfLeaves content sectors per leaves (k + 1) at → IsOfLeaves content sectors per leaves k at ⊎ IsOfNode content sectors per n at
    cases at of = ⊎_elim
        (λ (early : of.0 < k). inl (of.0, early, of.2))
        (λ (late : k ≤ of.0). inr (subst (λ m. IsOfNode content sectors per m at) (ap (slice_index leaves) {x = of.0} {y = k} (let less = of.1 in omega (arith, late, less)) ∙ sym is) of.2))
        (cases_lt of.0 k)

-- a leaf that is one stands in the list
pub leaf_inside : (leaves : List ℕ) (k n : ℕ) → n ≡ slice_index leaves k → n ≢ 0 → k < length leaves
leaf_inside leaves k n is some = ⊎_elim
    (λ (inside : k < length leaves). inside)
    (λ (past : length leaves ≤ k). absurd (some (is ∙ get_or_past leaves k 0 past)))
    (cases_lt k (length leaves))

-- and where none is left all were noted
pub leaves_all : (leaves : List ℕ) (k n : ℕ) → n ≡ slice_index leaves k → n ≡ 0 → ((j : ℕ) → j < length leaves → slice_index leaves j ≡ 0 → ⊥) → k ≤ length leaves → k ≡ length leaves
leaves_all leaves k n is none some most = ⊎_elim
    (λ (inside : k < length leaves). absurd (some k inside (sym is ∙ none)))
    (λ (past : length leaves ≤ k). omega (arith, past, most))
    (cases_lt k (length leaves))
