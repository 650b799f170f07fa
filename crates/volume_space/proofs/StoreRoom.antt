-- What a cut's store of a fork's overflow records puts.
use Rattle.std.proofs.Common.{◌/◌, min, arith, ◌≡◌, ◌≢◌, ◌≤◌, ℕ, ◌-◌, ◌*◌, List, length, refl, sym, ◌∙◌, subst, map, ap, ◌+◌}
use Rattle.volume_base.specs.Lists.{lists_of}
use Rattle.sector_disk.specs.Space.{Space}
use Rattle.btree_file.proofs.StandingLaws.{pairs_held}
use Rattle.btree_file.specs.State.{state_of}
use Rattle.btree_file.specs.Standing.{HoldsTree}
use Rattle.btree_node.specs.TreeFile.{extents_form}
use Rattle.btree_edit.specs.Editing.{edit_writes}
use Rattle.btree_node.specs.Keys.{IsExtentKey, extent_cmp, is_eight_extents}
use Rattle.volume_space.specs.Spreading.{ChangesFew, light_load}
use Rattle.hx_bytes.specs.declared.extents.Extent.{Extent}
use Rattle.sector_disk.specs.Lists.{Content}
use Rattle.cat_records.specs.declared.record.FileRecord.{FileRecord}
use Rattle.hfs_volume.specs.Content.{records_of, volume_of, VolumeState}
use Rattle.hfs_volume.specs.Records.{overflow_of}
use Rattle.volume_base.specs.Cutting.{IsLastCut, fork_at}
use Rattle.volume_space.specs.Cutting.{IsForkOf, PutsGiven, given_back, spread_load}
use Rattle.volume_base.specs.Cutting.{kind_of}
use Rattle.volume_base.specs.Reading.{HasFile}
use Rattle.volume_base.specs.Standing.{IsSettled}
use Rattle.volume_base.specs.declared.cutting.Cut.{Cut}
use Rattle.volume_base.specs.declared.forks.ForkKind.{ForkKind}
use Rattle.volume_base.specs.declared.volume.Volume.{Volume}
use Rattle.volume_space.proofs.SpreadFile.{store_few}

module _ (v : Volume) (content : Content) (settled : IsSettled v content) (k : ForkKind) (file : FileRecord) (has : HasFile (records_of (volume_of content)) file) (eight : length (fork_at (kind_of k) file).extents.extents ≡ 8) (list : List Extent) (is_list : IsForkOf list (kind_of k) file content) where
  -- behind a run that was given back, the store puts what a cut counts for it
  pub store_spent : (keep : ℕ) (cut : Cut) → IsLastCut keep list cut → (w : Volume) (b : Space) → HoldsTree extents_form IsExtentKey is_eight_extents extent_cmp w.extents.file b.content → w ≡ given_back cut.goes v → PutsGiven w content b.content
      → (kind : ℕ) → kind ≡ kind_of k → 16 ≤ file.fields.id → (after : ℕ)
      → ((changes : ℕ) → ((names : List ℕ) → ChangesFew changes (state_of names w.extents.file b) file.fields.id kind cut.stays) → b.spare ≤ after + light_load w.extents.file.shape changes)
      → b.spare ≤ after + spread_load v
  store_spent keep cut last w b holds gives puts kind is user after light =
      subst (λ n. b.spare ≤ after + n) once
      (subst (λ (x : Volume). b.spare ≤ after + light_load x.extents.file.shape 1) gives
      (light 1 (λ names. store_few v content settled k file has eight list is_list keep cut last (state_of names w.extents.file b) kind is
      (ap (map overflow_of) (pairs_held extents_form IsExtentKey is_eight_extents extent_cmp names w.extents.file b holds)
      ∙ ap (λ (l : VolumeState). map overflow_of l.overflow_pairs) puts.lists
      ∙ ap (λ (x : Volume). map overflow_of (lists_of x content).overflow_pairs) gives
      ∙ sym (ap (λ (l : VolumeState). map overflow_of l.overflow_pairs) settled.lists))
      user)))
    where
      once : light_load v.extents.file.shape 1 ≡ spread_load v
      once = ap (λ k. v.extents.file.shape.node_size / 512 * min k v.extents.file.shape.total) (let one : 1 * edit_writes v.extents.file.shape.depth ≡ edit_writes v.extents.file.shape.depth = omega arith in one)
