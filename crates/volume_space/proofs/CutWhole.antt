-- A file's fork that was cut, as the call that cuts it has it.
use Rattle.std.proofs.Common.{◌≡◌, ◌⊎◌, inl, inr, ◌<◌, ◌≤◌, ℕ, ◌+◌, ◌==◌, ◌&&◌, Bool, true, false, List, length, refl, sym, ◌∙◌, ap, subst, arith}
use Rattle.std.specs.Prelude.{Contains, Option, Some}
use Rattle.std.specs.Str.{bytes_eq}
use Rattle.std.proofs.lemmas.Bool.{and_parts, eqb-true}
use Rattle.std.proofs.lemmas.Slice.Eq.{bytes_eq-Decides}
use Rattle.hx_bytes.specs.declared.extents.Extent.{Extent}
use Rattle.sector_disk.specs.Space.{Space}
use Rattle.cat_records.specs.Fits.{FitsFile}
use Rattle.cat_records.specs.declared.record.CatRecord.TheVariants.{File}
use Rattle.cat_records.specs.declared.record.FileRecord.{FileRecord}
use Rattle.catalog.specs.Pairs.{value_at}
use Rattle.alloc_bitmap.specs.Map.{none}
use Rattle.flag_rows.specs.Bits.{sectors_for}
use Rattle.hfs_model.specs.Step.{is_private_name}
use Rattle.hfs_volume.specs.Changes.{with_fork}
use Rattle.hfs_volume.specs.Content.{overflow_in_volume, records_of, volume_of}
use Rattle.hfs_volume.specs.Forks.{data_kind, extents_of, parts_for, resource_kind}
use Rattle.hfs_volume.specs.Laws.{IsUserFile}
use Rattle.hfs_volume.specs.Links.{orphans_of}
use Rattle.hfs_volume.specs.Records.{Placed, entries_of, id_in, id_of, is_link_type, is_placed_at}
use Rattle.hfs_volume.specs.Reclaim.{blocks_wanted}
use Rattle.hfs_volume.specs.Writing.{OrphanCut, OthersKeepBytes, ShrunkCut}
use Rattle.hfs_volume.proofs.Flat.{found_some}
use Rattle.hfs_volume.proofs.Hiding.{same_entry}
use Rattle.volume_base.specs.Changing.{ReplacesRecord}
use Rattle.volume_space.specs.Cutting.{CutsOne, MayCut, MayGive, PutsGiven, given_back}
use Rattle.volume_base.specs.Cutting.{IsCutOf, cut_fork_of, fork_at, kind_of}
use Rattle.volume_base.specs.Lists.{lists_of}
use Rattle.volume_base.specs.Standing.{IsSettled, IsStanding}
use Rattle.volume_space.specs.Spreading.{StoresExtents}
use Rattle.volume_base.specs.declared.cutting.Cut.{Cut}
use Rattle.volume_base.specs.declared.entries.Entry.{Entry}
use Rattle.volume_base.specs.declared.forks.ForkKind.{ForkKind}
use Rattle.volume_base.specs.declared.volume.Volume.{Volume}
use Rattle.volume_space.proofs.CutDone.{entry_there, orphan_done, the_file}
use Rattle.volume_space.proofs.CutSettled.{found_value, updates}
use Rattle.volume_space.proofs.CutShrunk.{shrunk_done}
use Rattle.volume_space.proofs.NextCut.{wanted_of}
use Rattle.volume_base.proofs.ForkKinds.{kind_is}

module _ (v x w : Volume) (a c e d : Space) (was : IsStanding v a) (settled : IsSettled v a.content) (entry : Entry) (file : FileRecord) (list : List Extent) (k : ForkKind) (keep : ℕ) (cut : Cut) (may : MayGive cut.goes v) (unchanged : v.map.changed ≡ none (sectors_for (length v.map.used)))
    (is_list : list ≡ extents_of (overflow_in_volume (volume_of a.content)) file.fields.id (kind_of k) (fork_at (kind_of k) file)) (is_cut : IsCutOf list (fork_at (kind_of k) file) keep cut) (no_link : is_link_type file.fields ≡ false)
    (there : value_at (lists_of v a.content).catalog_pairs entry.parent entry.name ≡ Some entry.rec) (is : entry.rec ≡ File file)
    (puts : PutsGiven (given_back cut.goes v) a.content c.content) (stores : StoresExtents file.fields.id (kind_of k) cut.stays (given_back cut.goes v) x c.content e.content)
    (replaces : ReplacesRecord entry (File (with_fork (kind_of k) (cut_fork_of v.header.block_size (fork_at (kind_of k) file) cut) file)) x w e.content d.content)
    (stands : IsStanding w d) (law_shrunk : ShrunkCut) (law_orphan : OrphanCut) (bytes : OthersKeepBytes) (user : (entry.parent ≡ 2) × (is_private_name entry.name ≡ true) → ⊥) where
  number : id_in entry.rec ≡ file.fields.id
  number = ap id_in is

  is_user : IsUserFile file.fields.id (volume_of a.content)
  is_user p has same own =
      let u = updates v x w a c e d was settled entry file list (kind_of k) keep cut may unchanged (kind_is k) is_list is_cut no_link there is puts stores replaces stands in
      let one : p ≡ u.entry = same_entry (volume_of a.content).head.next_catalog_id (entries_of (records_of (volume_of a.content))) settled.sound.entries.ids p u.entry has (entry_there v x w a c e d was settled entry file list (kind_of k) keep cut may unchanged (kind_is k) is_list is_cut no_link there is puts stores replaces stands) (same ∙ sym (the_file v x w a c e d was settled entry file list (kind_of k) keep cut may unchanged (kind_is k) is_list is_cut no_link there is puts stores replaces stands)) in
      let found = found_some (is_placed_at entry.parent entry.name) (records_of (volume_of a.content)) u.entry u.found in
      let both = and_parts (u.entry.parent == entry.parent) (bytes_eq u.entry.name entry.name) found.1 in
      user (
        sym (eqb-true u.entry.parent entry.parent both.0) ∙ sym (ap (λ (q : Placed). q.parent) one) ∙ own.0,
        ap is_private_name (sym ((bytes_eq-Decides u.entry.name entry.name).0 both.1) ∙ sym (ap (λ (q : Placed). q.name) one)) ∙ own.1,
      )

  -- the blocks that the fork's bytes take
  wanted : blocks_wanted (volume_of a.content) file.fields.id (kind_of k) ≡ parts_for (fork_at (kind_of k) file).logical_size (volume_of a.content).head.block_size
  wanted =
      let u = updates v x w a c e d was settled entry file list (kind_of k) keep cut may unchanged (kind_is k) is_list is_cut no_link there is puts stores replaces stands in
      wanted_of (volume_of a.content) settled.sound u.entry (entry_there v x w a c e d was settled entry file list (kind_of k) keep cut may unchanged (kind_is k) is_list is_cut no_link there is puts stores replaces stands) file
      (found_value v x w a c e d was settled entry file list (kind_of k) keep cut may unchanged (kind_is k) is_list is_cut no_link there is puts stores replaces stands u) k

  by_number : MayCut a.content file.fields.id (kind_of k) keep → IsSettled w d.content × CutsOne file.fields.id (kind_of k) keep a.content d.content
  by_number (inl least) =
      subst (λ n. IsSettled w d.content × CutsOne file.fields.id (kind_of k) n a.content d.content) (sym least)
      (shrunk_done v x w a c e d was settled entry file list k keep cut may unchanged is_list is_cut no_link there is puts stores replaces stands (omega (arith, wanted, least)) law_shrunk bytes is_user (omega (arith, least, is_cut.last.least)))
  by_number (inr (none, (orphan, waits, its))) =
      subst (λ n. IsSettled w d.content × CutsOne file.fields.id (kind_of k) n a.content d.content) (sym none)
      (orphan_done v x w a c e d was settled entry file list (kind_of k) keep cut may unchanged (kind_is k) is_list is_cut no_link there is puts stores replaces stands law_orphan bytes orphan waits its)

  pub cut_whole : MayCut a.content (id_in entry.rec) (kind_of k) keep → IsSettled w d.content × CutsOne (id_in entry.rec) (kind_of k) keep a.content d.content
  cut_whole allowed =
      subst (λ n. MayCut a.content n (kind_of k) keep → IsSettled w d.content × CutsOne n (kind_of k) keep a.content d.content) (sym number) by_number allowed
