-- Changes that are noted.
use Rattle.std.proofs.Common.{◌≡◌, ◌⊎◌, ◌<◌, ℕ, Bool, true, false, if◌then◌else◌, List, [], ◌∷◌, ◌++◌, length, inl, inr, refl, sym, ◌∙◌, ap, subst}
use Rattle.std.specs.Prelude.{Contains}
use Rattle.std.specs.Str.{bytes_eq}
use Rattle.std.proofs.lemmas.Slice.Eq.{bytes_eq-Decides}
use Rattle.std.proofs.lemmas.Bool.{true≢false}
use Rattle.std.proofs.lemmas.List.Elements.{Contains-append_left, Contains-append_right, Contains-append_cases}
use Rattle.hx_bytes.specs.Field.{AreBytes}
use Rattle.sector_disk.specs.Lists.{Content, sector}
use Rattle.hfs_volume.proofs.Members.{at_front, in_one, map_cases, map_stands}
use Rattle.volume_repair.specs.Repair.{sector_mended}
use Rattle.fsck_repair.specs.Changing.{IsRightChange, IsSettled, Notes, noted}
use Rattle.fsck_repair.specs.Overlay.{places_of}
use Rattle.fsck_repair.specs.declared.mend.Change.{Change}

place_stands : (changes : List Change) (change : Change) → Contains changes change → Contains (places_of changes) change.at
place_stands changes change stands = map_stands (λ (c : Change). c.at) changes change stands

-- nothing was noted
pub notes_none : (content : Content) (Places : ℕ → Type 0) (changes : List Change) → ((at : ℕ) → Places at → IsSettled content changes at) → Notes content Places changes changes
notes_none content Places changes settled = record { right = λ right. right; stays = λ at stands. stands; settled = settled }

-- first some, then others
pub notes_both : (content : Content) (Places Others All : ℕ → Type 0) (old mid new : List Change) → ((at : ℕ) → All at → Places at ⊎ Others at) → Notes content Places old mid → Notes content Others mid new → Notes content All old new
notes_both content Places Others All old mid new cases first second = record {
  right = λ right. second.right (first.right right);
  stays = λ at stands. second.stays at (first.stays at stands);
  settled = λ at is. elim (cases at is) [
    | inl early ↦ still at (first.settled at early)
    | inr late ↦ second.settled at late
  ];
}
  where
    still : (at : ℕ) → IsSettled content mid at → IsSettled content new at
    still at settled inside = elim (settled inside) [
      | inl same ↦ inl same
      | inr stands ↦ inr (second.stays at stands)
    ]

pub notes_as : (content : Content) (Places Others : ℕ → Type 0) (old new : List Change) → ((at : ℕ) → Others at → Places at) → Notes content Places old new → Notes content Others old new
notes_as content Places Others old new from notes = record { right = notes.right; stays = notes.stays; settled = λ at is. notes.settled at (from at is) }

-- a sector of which the repair has these bytes
module _ (content : Content) (changes : List Change) (at : ℕ) (old new : List ℕ) (inside : at < length content) (was : old ≡ sector content at) (is : sector_mended content at ≡ new) (are : AreBytes new) where
  Here : ℕ → Type 0
  Here s = s ≡ at

  by_test : (same : Bool) → bytes_eq old new ≡ same → Notes content (λ s. s ≡ at) changes (if same then changes else changes ++ record { at = at; bytes = new } ∷ [])
  by_test true tells = notes_none content (λ s. s ≡ at) changes (λ s here under. inl (ap (sector_mended content) here ∙ is ∙ sym ((bytes_eq-Decides old new).0 tells) ∙ was ∙ ap (sector content) (sym here)))
  by_test false tells = record {
    right = λ right change stands. elim (Contains-append_cases changes (record { at = at; bytes = new } ∷ []) change stands) [
      | inl before ↦ right change before
      | inr one ↦ subst (λ (c : Change). IsRightChange content c) (sym (in_one (record { at = at; bytes = new }) change one)) (record {
        inside = inside;
        bytes = sym is;
        are = are;
        differs = λ same. true≢false (sym ((bytes_eq-Decides old new).1 (was ∙ sym same)) ∙ tells);
      })
    ];
    stays = λ s stands. let from = map_cases (λ (c : Change). c.at) changes s stands in
        subst (λ k. Contains (places_of (changes ++ record { at = at; bytes = new } ∷ [])) k) (sym from.2) (place_stands (changes ++ record { at = at; bytes = new } ∷ []) from.0 (Contains-append_left changes (record { at = at; bytes = new } ∷ []) from.0 from.1));
    settled = λ s here under. inr (subst (λ k. Contains (places_of (changes ++ record { at = at; bytes = new } ∷ [])) k) (sym here)
        (place_stands (changes ++ record { at = at; bytes = new } ∷ []) (record { at = at; bytes = new }) (Contains-append_right changes (record { at = at; bytes = new } ∷ []) (record { at = at; bytes = new }) (at_front (record { at = at; bytes = new }) []))));
  }

  pub notes_one : Notes content (λ s. s ≡ at) changes (noted changes at old new)
  notes_one = by_test (bytes_eq old new) refl
