-- The repair of a content, seen through changes.
use Rattle.std.proofs.Common.{◌≡◌, ◌<◌, ◌≤◌, ℕ, suc, Bool, true, false, not, cond, List, [], ◌∷◌, length, inl, inr, refl, sym, ◌∙◌, ap, subst, arith, ⊎_elim, IsTrue}
use Rattle.std.specs.Prelude.{Contains, All}
use Rattle.std.proofs.lemmas.Bool.{cases_lt}
use Rattle.std.proofs.lemmas.List.{get_or_past}
use Rattle.std.proofs.lemmas.List.FromFn.{length-map-range_with_len}
use Rattle.hx_bytes.specs.Field.{AreBytes}
use Rattle.sector_disk.specs.Lists.{Content, sector}
use Rattle.sector_disk.specs.Clock.{TimePasses}
use Rattle.sector_disk.specs.Space.{Space, SameSpace, LeavesDurable}
use Rattle.sector_disk.specs.Putting.{unput, PutsThese}
use Rattle.sector_disk.proofs.Passing.{both_pass}
use Rattle.sector_disk.proofs.SpaceLaws.{leaves_as_before}
use Rattle.btree_file.specs.Frame.{ReadsSpace}
use Rattle.sector_disk.proofs.PutLaws.{unput-cons}
use Rattle.hfs_volume.specs.Findings.{HasBytes}
use Rattle.hfs_volume.proofs.Members.{all_of, map_cases}
use Rattle.volume_repair.specs.Repair.{IsMendable, IsRepair}
use Rattle.volume_repair.specs.Differing.{Differs, differing}
use Rattle.fsck_repair.specs.Changing.{AreRight, IsSettled, IsInOrder}
use Rattle.fsck_repair.specs.Overlay.{changed, overlaid, places_of}
use Rattle.fsck_repair.specs.declared.mend.Change.{Change}
use Rattle.fsck_repair.proofs.DiffLaws.{changed_cases, mended_is_overlaid, overlaid_none, as_many_differ}
use Rattle.fsck_repair.proofs.Overlaying.{overlaid_at}

pub no_repair : (content : Content) (changes : List Change) → changes ≡ [] → ¬ IsMendable content → IsRepair content (overlaid changes content)
no_repair content changes none cant = inr (cant, ap (λ (l : List Change). overlaid l content) none ∙ overlaid_none content)

pub none_right : (content : Content) (changes : List Change) → changes ≡ [] → AreRight content changes
none_right content changes none change stands = absurd (let there : Contains [] change = subst (λ (l : List Change). Contains l change) none stands in omega (arith, there.1))

pub none_differ : (content : Content) (changes : List Change) → changes ≡ [] → length changes ≡ differing content (overlaid changes content)
none_differ content changes none = subst (λ (l : List Change). length l ≡ differing content (overlaid l content)) (sym none) (as_many_differ content [] tt (none_right content [] refl))

pub none_bytes : (content : Content) (changes : List Change) → changes ≡ [] → HasBytes content → HasBytes (overlaid changes content)
none_bytes content changes none bytes = subst (λ (l : List Change). HasBytes (overlaid l content)) (sym none) (subst HasBytes (sym (overlaid_none content)) bytes)

-- changes that were put in order
module _ (content : Content) (first changes : List Change) (order : IsInOrder (length content) first changes) (right : AreRight content first) where
  pub still_right : AreRight content changes
  still_right change stands = right change (order.sound change stands)

  pub is_repair : IsMendable content → ((at : ℕ) → IsSettled content first at) → IsRepair content (overlaid changes content)
  is_repair can settled = inl (can, mended_is_overlaid content changes still_right still_settled)
    where
      still_settled : (at : ℕ) → IsSettled content changes at
      still_settled at inside = elim (settled at inside) [
        | inl same ↦ inl same
        | inr stands ↦ inr (order.whole at inside stands)
      ]

-- changes of bytes leave bytes
pub bytes_still : (content : Content) (changes : List Change) → HasBytes content → ((change : Change) → Contains changes change → AreBytes change.bytes) → HasBytes (overlaid changes content)
bytes_still content changes bytes each at = ⊎_elim
    (λ (inside : at < length content). subst AreBytes (sym (overlaid_at changes content (length content) at refl inside)) (of_changed at))
    (λ (past : length content ≤ at).
    subst AreBytes (sym (get_or_past (overlaid changes content) at [] (omega (arith, past, length-map-range_with_len (λ k. changed changes k (sector content k)) 0 (length content))))) (λ k. omega arith))
    (cases_lt at (length content))
  where
    of_changed : (k : ℕ) → AreBytes (changed changes k (sector content k))
    of_changed k = elim (changed_cases changes k (sector content k)) [
      | inl there ↦ subst AreBytes (sym there.3) (each there.0 there.1)
      | inr none ↦ subst AreBytes (sym none.1) (bytes k)
    ]

pub places_inside : (sectors : ℕ) (changes : List Change) → ((change : Change) → Contains changes change → change.at < sectors) → All (λ at. at < sectors) (places_of changes)
places_inside sectors changes each = all_of (λ at. at < sectors) (places_of changes) (λ at stands. let from = map_cases (λ (c : Change). c.at) changes at stands in let low = each from.0 from.1 in omega (arith, low, from.2))

-- ---- putting them

pub few_unput : (put : ℕ → Bool) (xs : List ℕ) → unput put xs ≤ length xs
few_unput put [] = omega arith
few_unput put (x ∷ xs) = omega (arith, unput-cons put x xs, few_unput put xs, one (put x))
  where
    one : (b : Bool) → cond (not b) 1 0 ≤ 1
    one true = omega arith
    one false = omega arith

pub as_many_places : (changes : List Change) → length (places_of changes) ≡ length changes
as_many_places [] = refl
as_many_places (change ∷ changes) = ap suc (as_many_places changes)

-- a sector that changes differs
pub change_differs : (content : Content) (changes : List Change) (at : ℕ) → AreRight content changes → Contains (places_of changes) at → Differs content (overlaid changes content) at
change_differs content changes at right stands same = elim (changed_cases changes at (sector content at)) [
  | inl there ↦
      let one = right there.0 there.1 in
      let low = one.inside in
      one.differs (sym there.3 ∙ sym (overlaid_at changes content (length content) at refl (omega (arith, low, there.2))) ∙ same ∙ ap (sector content) (sym there.2))
  | inr none ↦ none.0 stands
]

pub no_places : (changes : List Change) (at : ℕ) → changes ≡ [] → ¬ Contains (places_of changes) at
no_places changes at none stands = let there : Contains (places_of []) at = subst (λ (l : List Change). Contains (places_of l) at) none stands in absurd (omega (arith, there.1))

-- more changes than may be put
pub too_many : (content : Content) (changes : List Change) (count sectors : ℕ) → length changes ≡ differing content (overlaid changes content) → differing content (overlaid changes content) ≤ sectors → count ≡ length changes → sectors < count → ⊥
too_many content changes count sectors differ enough is more = omega (arith, differ, enough, is, more)

pub hidden_if : (tells : Bool) → (tells ≡ true → ⊥) → tells ≡ false
hidden_if false none = refl
hidden_if true none = absurd (none refl)

-- a stretch of reading, and one of putting
pub time_then : (Places : ℕ → Type 0) (a b c : Space) → IsTrue a.tells → ReadsSpace a b → PutsThese Places b c → SameSpace b c → TimePasses b.clock c.clock (LeavesDurable c) → TimePasses a.clock c.clock (LeavesDurable c)
time_then Places a b c tells reads puts same later =
    both_pass a.clock b.clock c.clock (LeavesDurable b) (LeavesDurable c) (LeavesDurable c) (reads.time tells) later (λ image told l. leaves_as_before b c image told puts.durable puts.spilled puts.closed same.told l) (λ image told l. l)
