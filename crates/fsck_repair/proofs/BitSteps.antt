-- One place more of the allocation file that was noted.
use Rattle.std.proofs.Common.{◌≡◌, ◌⊎◌, ◌<◌, ◌≤◌, ℕ, ◌+◌, ◌*◌, List, length, get_or, inl, inr, sym, ◌∙◌, ap, arith, ⊎_elim}
use Rattle.std.specs.Prelude.{Some, None, Result, Ok, Err, OnOk, slice_get}
use Rattle.std.proofs.lemmas.Bool.{cases_lt}
use Rattle.std.proofs.lemmas.Option.{slice_get_past, slice_get_cases}
use Rattle.sector_disk.specs.Lists.{Content}
use Rattle.fsck_repair.specs.Bitmap.{IsPlainPlace}
use Rattle.fsck_repair.specs.Changing.{Notes}
use Rattle.fsck_repair.specs.Counted.{IsPlain}
use Rattle.fsck_repair.specs.declared.mend.Change.{Change}
use Rattle.fsck_repair.proofs.NoteLaws.{notes_as, notes_both}

-- a plain sector at one of the first places, before the file's end
abbrev pub IsBefore : Content → List ℕ → ℕ → ℕ → ℕ → Type 0
IsBefore content sectors size k at = IsPlain content at × (place : ℕ) × (place < k) × (place * 512 < size) × (slice_get sectors place ≡ Some at)

pub place_more : (content : Content) (sectors : List ℕ) (size k at : ℕ) (a b c : List Change) → slice_get sectors k ≡ Some at → Notes content (IsBefore content sectors size k) a b → Notes content (λ s. (s ≡ at) × IsPlain content s) b c
    → Notes content (IsBefore content sectors size (k + 1)) a c
place_more content sectors size k at a b c here first second =
    notes_both content (IsBefore content sectors size k) (λ s. (s ≡ at) × IsPlain content s) (IsBefore content sectors size (k + 1)) a b c cases first second
  where
    cases : (s : ℕ) → IsBefore content sectors size (k + 1) s → IsBefore content sectors size k s ⊎ ((s ≡ at) × IsPlain content s)
    cases s of = ⊎_elim
        (λ (early : of.1 < k). inl (of.0, of.1, early, of.3, of.4))
        (λ (late : k ≤ of.1).
        let is : of.1 ≡ k = (let less = of.2 in omega (arith, late, less)) in
        inr ((let same : Some at ≡ Some s = sym here ∙ ap (slice_get sectors) (sym is) ∙ of.4 in let e : s ≡ at = cc in e), of.0))
        (cases_lt of.1 k)

-- all places before the file's end were noted
pub places_all : (content : Content) (sectors : List ℕ) (size k : ℕ) (a b : List Change) → size ≤ k * 512 → Notes content (IsBefore content sectors size k) a b → Notes content (IsPlainPlace content size sectors) a b
places_all content sectors size k a b past notes = notes_as content (IsBefore content sectors size k) (IsPlainPlace content size sectors) a b (λ s of. (of.0, of.1, (let low = of.2 in omega (arith, low, past)), of.2, of.3)) notes

-- or the file has no more sectors
pub places_end : (content : Content) (sectors : List ℕ) (size k : ℕ) (a b : List Change) → slice_get sectors k ≡ None → Notes content (IsBefore content sectors size k) a b → Notes content (IsPlainPlace content size sectors) a b
places_end content sectors size k a b none notes = notes_as content (IsBefore content sectors size k) (IsPlainPlace content size sectors) a b
    (λ s of. (of.0, of.1, ⊎_elim (λ (early : of.1 < k). early) (λ (late : k ≤ of.1). absurd (later of.1 s late of.3)) (cases_lt of.1 k), of.2, of.3)) notes
  where
    later : (j s : ℕ) → k ≤ j → slice_get sectors j ≡ Some s → ⊥
    later j s late is = ⊎_elim
        (λ (there : (x : ℕ) × (k < length sectors) × (slice_get sectors k ≡ Some x) × (get_or sectors k x ≡ x)). let wrong : None ≡ Some there.0 = sym none ∙ there.2 in absurd (cc))
        (λ (past : (length sectors ≤ k) × (slice_get sectors k ≡ None)). let gone : None ≡ Some s = sym (slice_get_past sectors j (omega (arith, past.0, late))) ∙ is in absurd (cc))
        (slice_get_cases sectors k).1

pub plain_noted : {T E : Type 0} (result : Result T E) (content : Content) (at : ℕ) (a b : List Change) → OnOk result (Notes content (λ s. s ≡ at) a b) → OnOk result (Notes content (λ s. (s ≡ at) × IsPlain content s) a b)
plain_noted (Ok x) content at a b notes = notes_as content (λ s. s ≡ at) (λ s. (s ≡ at) × IsPlain content s) a b (λ s of. of.0) notes
plain_noted (Err e) content at a b notes = notes
