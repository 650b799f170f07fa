-- Where blocks are taken and others are given back, no block that a content has in use is lost: those that are given back are held.
use Rattle.std.proofs.Common.{◌≡◌, ◌⊎◌, inl, inr, ℕ, ◌+◌, Bool, true, false, List, length, get_or, refl, sym, ◌∙◌, ap, subst, ⊎_elim}
use Rattle.std.specs.Prelude.{if◌then◌else◌, slice_index_or}
use Rattle.hx_bytes.specs.declared.extents.Extent.{Extent}
use Rattle.flag_rows.specs.Marks.{Fit, is_held, mark_all}
use Rattle.flag_rows.proofs.TakeLaws.{get_or-mark_all, length-mark_all}
use Rattle.alloc_bitmap.specs.Map.{BlockMap}
use Rattle.file_io.specs.Places.{fresh_of, given, taken}
use Rattle.sector_disk.specs.Lists.{Content}
use Rattle.hfs_volume.specs.Content.{is_set, volume_of}
use Rattle.volume_base.specs.Holding.{HoldsOn}
use Rattle.volume_base.specs.declared.volume.Volume.{Volume}
use Rattle.volume_space.proofs.PutStages.{fresh_fit}

module _ (m : BlockMap) (n : ℕ) (old : List Extent) (fit : Fit (length m.used) (fresh_of m n)) (fit_old : Fit (length m.used) old) (long : length m.held ≡ length m.used) where
  abbrev later : BlockMap
  later = given old (taken n m)

  taken_long : length (mark_all m.used (fresh_of m n) true) ≡ length m.used
  taken_long = length-mark_all m.used (fresh_of m n) true fit

  held_fit : Fit (length m.held) old
  held_fit = subst (λ k. Fit k old) (sym long) fit_old

  used_fit : Fit (length (mark_all m.used (fresh_of m n) true)) old
  used_fit = subst (λ k. Fit k old) (sym taken_long) fit_old

  still_long : length (mark_all m.held old true) ≡ length (mark_all (mark_all m.used (fresh_of m n) true) old false)
  still_long = length-mark_all m.held old true held_fit ∙ long ∙ sym taken_long ∙ sym (length-mark_all (mark_all m.used (fresh_of m n) true) old false used_fit)

  held_is : (k : ℕ) → get_or (mark_all m.held old true) k false ≡ (if is_held old k then true else get_or m.held k false)
  held_is k = get_or-mark_all m.held old true k false held_fit

  used_is : (k : ℕ) → get_or (mark_all (mark_all m.used (fresh_of m n) true) old false) k false ≡ (if is_held old k then false else if is_held (fresh_of m n) k then true else get_or m.used k false)
  used_is k = get_or-mark_all (mark_all m.used (fresh_of m n) true) old false k false used_fit ∙ ap (λ b. if is_held old k then false else b) (get_or-mark_all m.used (fresh_of m n) true k false fit)

  either_set : (b : Bool) → (if b then true else true) ≡ true
  either_set true = refl
  either_set false = refl

  -- a block that was used is used or held
  used_then : (k : ℕ) → get_or m.used k false ≡ true → (get_or (mark_all (mark_all m.used (fresh_of m n) true) old false) k false ≡ true) ⊎ (get_or (mark_all m.held old true) k false ≡ true)
  used_then k was = by (is_held old k) refl
    where
      by : (b : Bool) → is_held old k ≡ b → (get_or (mark_all (mark_all m.used (fresh_of m n) true) old false) k false ≡ true) ⊎ (get_or (mark_all m.held old true) k false ≡ true)
      by true back = inr (held_is k ∙ ap (λ b. if b then true else get_or m.held k false) back)
      by false stays = inl (used_is k ∙ ap (λ b. if b then false else if is_held (fresh_of m n) k then true else get_or m.used k false) stays ∙ ap (λ b. if is_held (fresh_of m n) k then true else b) was ∙ either_set (is_held (fresh_of m n) k))

  -- and one that was held is held
  held_then : (k : ℕ) → get_or m.held k false ≡ true → get_or (mark_all m.held old true) k false ≡ true
  held_then k was = held_is k ∙ ap (λ b. if is_held old k then true else b) was ∙ either_set (is_held old k)

pub holds_put : (committed : Content) (v w : Volume) (n : ℕ) (old : List Extent) → Fit (length v.map.used) old → w.map ≡ given old (taken n v.map) → HoldsOn committed v → HoldsOn committed w
holds_put committed v w n old fit_old is was =
    subst (λ (m : BlockMap). (length m.held ≡ length m.used) × ((block : ℕ) → is_set (volume_of committed) block ≡ true → (slice_index_or m.used block false ≡ true) ⊎ (slice_index_or m.held block false ≡ true))) (sym is) (
      still_long v.map n old (fresh_fit v.map n) fit_old was.0,
      λ block set. ⊎_elim
          (λ used. used_then v.map n old (fresh_fit v.map n) fit_old was.0 block used)
          (λ held. inr (held_then v.map n old (fresh_fit v.map n) fit_old was.0 block held))
          (was.1 block set),
    )
