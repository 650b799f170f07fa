-- The file of a node is none of the journal's: it doesn't stand in the root under one of the volume's own names.
use Rattle.std.proofs.Common.{◌≡◌, ℕ, ◌==◌, ◌&&◌, ◌||◌, not, Bool, true, false, List, refl, sym, ◌∙◌, ap, subst}
use Rattle.std.specs.Prelude.{Contains, Option, Some, None}
use Rattle.std.proofs.lemmas.Bool.{eqb-true, true≢false}
use Rattle.hfs_model.specs.Step.{is_private_name}
use Rattle.hfs_model.specs.declared.plain.PlainNode.{PlainNode}
use Rattle.hfs_volume.specs.Content.{VolumeState, records_of}
use Rattle.hfs_volume.specs.Laws.{IsUserFile}
use Rattle.hfs_volume.specs.Links.{is_in, is_shared, private_id}
use Rattle.hfs_volume.specs.Records.{Placed, entries_of, id_in, is_link, special_of}
use Rattle.hfs_volume.specs.Sound.{IsSoundVolume}
use Rattle.hfs_volume.specs.TreeOf.{BytesOf, is_linked, is_seen}
use Rattle.hfs_volume.proofs.Hiding.{same_entry}
use Rattle.hfs_volume.proofs.Marks.{private_not_root}
use Rattle.hfs_volume.proofs.Reaching.{seen_shows}
use Rattle.hfs_volume.proofs.Sharing.{linked_is}
use Rattle.volume_base.proofs.PlainFiles.{IsFileOf, shaped_of}

first_of : (a b c d : Bool) → (a && b && c && d) ≡ true → a ≡ true
first_of true b c d is = refl
first_of false b c d is = is

shared_in : (private : Option ℕ) (reference : ℕ) (p : Placed) → is_shared private reference p ≡ true → is_in private p ≡ true
shared_in None reference p is = is
shared_in (Some top) reference p is = first_of (p.parent == top) _ _ _ is

module _ (volume : VolumeState) (sound : IsSoundVolume volume) (bytes_of : BytesOf) (node : PlainNode) (it : IsFileOf volume bytes_of node) where
  private_apart : (p : Placed) → is_in (private_id (records_of volume)) p ≡ true → p.parent ≡ 2 → ⊥
  private_apart p is two = by_case (private_id (records_of volume)) refl is
    where
      by_case : (o : Option ℕ) → private_id (records_of volume) ≡ o → is_in o p ≡ true → ⊥
      by_case None found here = true≢false (sym here)
      by_case (Some id) found here = private_not_root volume (shaped_of volume sound) id found (sym (eqb-true p.parent id here) ∙ two)

  pub is_users : IsUserFile node.id volume
  is_users e stands same own =
      let one : e ≡ it.entry = same_entry volume.head.next_catalog_id (entries_of (records_of volume)) sound.entries.ids e it.entry stands it.stands (same ∙ it.id ∙ sym (ap id_in it.value)) in
      by_tests (is_seen (records_of volume) it.entry) (is_linked (records_of volume) it.entry) refl refl (subst (λ (p : Placed). (p.parent ≡ 2) × (is_private_name p.name ≡ true)) one own)
    where
      by_tests : (b c : Bool) → is_seen (records_of volume) it.entry ≡ b → is_linked (records_of volume) it.entry ≡ c → (it.entry.parent ≡ 2) × (is_private_name it.entry.name ≡ true) → ⊥
      by_tests true c seen linked place = true≢false (sym ((λ i. (place.0 i == 2) && place.1 i)) ∙ (seen_shows (records_of volume) it.entry seen).not_own)
      by_tests false true seen linked place = let links = linked_is (records_of volume) it.entry linked in private_apart it.entry (shared_in (private_id (records_of volume)) (special_of links.link) it.entry links.names) place.0
      by_tests false false seen linked place = true≢false (sym it.plain ∙ (λ i. (seen i && not (is_link it.entry)) || linked i))
