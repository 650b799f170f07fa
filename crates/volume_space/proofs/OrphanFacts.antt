-- What a file that lost its last name is among the entries of a volume.
use Rattle.std.proofs.Common.{◌≡◌, ◌⊎◌, ℕ, ◌≤◌, Bool, true, false, List, [], ◌∷◌, ◌++◌, length, inl, inr, refl, sym, ◌∙◌, ap, subst, arith}
use Rattle.std.specs.Prelude.{Contains, ◌==◌, ◌&&◌, codes, drop, not, Option, None, Some}
use Rattle.std.specs.List.{flat_map}
use Rattle.std.specs.Str.Parse.{digits_value}
use Rattle.std.proofs.lemmas.Bool.{eqb-true, true≢false}
use Rattle.std.proofs.lemmas.Slice.Eq.{bytes_eq-Decides}
use Rattle.cat_records.specs.declared.record.CatRecord.{CatRecord}
use Rattle.cat_records.specs.declared.record.CatRecord.TheVariants.{Folder, File, Thread}
use Rattle.hfs_model.specs.Step.{is_private_name}
use Rattle.hfs_volume.specs.Content.{VolumeState, records_of}
use Rattle.hfs_volume.specs.Entries.{IsRoot, IsUserId, LiesIn, below, is_it}
use Rattle.hfs_volume.specs.Laws.{IsFolderId, IsShaped, is_own}
use Rattle.hfs_volume.specs.Links.{is_in, is_in_private, is_orphan, is_shared_file, orphans_of, private_id}
use Rattle.hfs_volume.specs.Naming.{orphan_name}
use Rattle.hfs_volume.specs.Records.{Placed, entries_of, id_of, is_file, is_folder, is_link, is_numbered}
use Rattle.hfs_volume.proofs.Fitting.{differs}
use Rattle.hfs_volume.proofs.Hiding.{same_entry}
use Rattle.hfs_volume.proofs.Marks.{orphan_no_node, private_not_root}
use Rattle.hfs_volume.proofs.Members.{each_of, first_or_later, kept_cases}
use Rattle.hfs_volume.proofs.Sharing.{four, shared_is}

in_folder : (o : Option ℕ) (p : Placed) → is_in o p ≡ true → (id : ℕ) × (o ≡ Some id) × (p.parent ≡ id)
in_folder None p is = absurd (true≢false (sym is))
in_folder (Some id) p is = (id, refl, eqb-true p.parent id is)

file_no_folder : (value : CatRecord) → is_file value ≡ true → is_folder value ≡ false
file_no_folder (Folder f) is = absurd (true≢false (sym is))
file_no_folder (File f) is = refl
file_no_folder (Thread f) is = refl

module _ (volume : VolumeState) (shaped : IsShaped volume) (entry : Placed) (orphan : Contains (orphans_of (records_of volume)) entry) where
  pub stands : Contains (entries_of (records_of volume)) entry
  stands = (kept_cases (is_orphan (records_of volume)) (entries_of (records_of volume)) entry orphan).0

  tests : (is_in_private (records_of volume) entry ≡ true) × (is_file entry.value ≡ true) × (not (is_link entry) ≡ true) × (is_numbered (codes "temp") entry.name ≡ true)
  tests = four (is_in_private (records_of volume) entry) (is_file entry.value) (not (is_link entry)) (is_numbered (codes "temp") entry.name) (kept_cases (is_orphan (records_of volume)) (entries_of (records_of volume)) entry orphan).1

  pub a_file : is_file entry.value ≡ true
  a_file = tests.1

  private_is : private_id (records_of volume) ≡ Some entry.parent
  private_is = let it = in_folder (private_id (records_of volume)) entry tests.0 in it.1 ∙ ap Some (sym it.2)

  named : entry.name ≡ orphan_name (digits_value 10 (drop 4 entry.name))
  named = (bytes_eq-Decides entry.name (orphan_name (digits_value 10 (drop 4 entry.name)))).0 tests.3

  pub not_shared : (reference : ℕ) → is_shared_file (records_of volume) reference entry ≡ false
  not_shared reference = by_test (is_shared_file (records_of volume) reference entry) refl
    where
      by_test : (b : Bool) → is_shared_file (records_of volume) reference entry ≡ b → b ≡ false
      by_test false isnt = refl
      by_test true shared = absurd (orphan_no_node (digits_value 10 (drop 4 entry.name)) reference (sym named ∙ (shared_is (private_id (records_of volume)) reference entry shared).name))

  pub not_own : is_own entry ≡ false
  not_own = ap (λ b. b && is_private_name entry.name) (differs entry.parent 2 (λ two. private_not_root volume shaped entry.parent private_is two))

  pub no_folder : is_folder entry.value ≡ false
  no_folder = file_no_folder entry.value a_file

  pub high : 16 ≤ id_of entry
  high = elim (each_of (λ (p : Placed). IsUserId volume.head.next_catalog_id (id_of p)) (entries_of (records_of volume)) shaped.ids.each entry stands) [
    | inl two ↦
        let root = shaped.rooted.root in
        let same : entry ≡ root.0 = same_entry volume.head.next_catalog_id (entries_of (records_of volume)) shaped.ids entry root.0 stands root.1 (two ∙ sym root.2.id) in
        absurd (true≢false (sym root.2.folder ∙ ap (λ (p : Placed). is_folder p.value) (sym same) ∙ no_folder))
    | inr user ↦ user.0
  ]

  of_lies : (id : ℕ) → LiesIn (entries_of (records_of volume)) 2 id → IsFolderId (entries_of (records_of volume)) id
  of_lies _ is_it = let root = shaped.rooted.root in (root.0, root.1, root.2.folder, root.2.id)
  of_lies _ (below id f there is_a same lies) = (f, there, is_a, same)

  -- the folder above each entry but the root
  above_of : (p : Placed) → Contains (entries_of (records_of volume)) p → (p.parent ≡ 1 → ⊥) → IsFolderId (entries_of (records_of volume)) p.parent
  above_of p there not_top = elim (each_of (λ (q : Placed). IsRoot q ⊎ LiesIn (entries_of (records_of volume)) 2 q.parent) (entries_of (records_of volume)) shaped.rooted.each p there) [
    | inl root ↦ absurd (not_top root.parent)
    | inr lies ↦ of_lies p.parent lies
  ]

  -- the private folder
  pub folder_above : IsFolderId (entries_of (records_of volume)) entry.parent
  folder_above = elim (each_of (λ (q : Placed). IsRoot q ⊎ LiesIn (entries_of (records_of volume)) 2 q.parent) (entries_of (records_of volume)) shaped.rooted.each entry stands) [
    | inl root ↦ absurd (omega (arith, root.id, high))
    | inr lies ↦ of_lies entry.parent lies
  ]

  pub no_entries : (p : Placed) → Contains (entries_of (records_of volume)) p → (p.parent == id_of entry) ≡ false
  no_entries p there = differs p.parent (id_of entry) no_child
    where
      no_child : p.parent ≡ id_of entry → ⊥
      no_child same =
          let folder = above_of p there (λ top. omega (arith, top, same, high)) in
          let one : folder.0 ≡ entry = same_entry volume.head.next_catalog_id (entries_of (records_of volume)) shaped.ids folder.0 entry folder.1 stands (folder.3 ∙ same) in
          true≢false (sym folder.2 ∙ ap (λ (q : Placed). is_folder q.value) one ∙ no_folder)

-- ---- nothing in a list of lists

nil_parts : (xs ys : List ℕ) → xs ++ ys ≡ [] → (xs ≡ []) × (ys ≡ [])
nil_parts [] ys is = (refl, is)
nil_parts (x ∷ xs) ys is = absurd (omega (arith, ap (λ (l : List ℕ). length l) is))

pub each_none : {X : Type 0} (f : X → List ℕ) (xs : List X) → flat_map f xs ≡ [] → (x : X) → Contains xs x → f x ≡ []
each_none f [] none x has = absurd (omega (arith, has.1))
each_none f (y ∷ rest) none x has =
    let parts = nil_parts (f y) (flat_map f rest) none in
    elim (first_or_later y x rest has) [
      | inl same ↦ ap f same ∙ parts.0
      | inr later ↦ each_none f rest parts.1 x later
    ]
