-- What `rwrite` is told, by the file that its path stands for.
use Rattle.std.proofs.Common.{◌≡◌, ℕ, ◌+◌, ◌||◌, inr, Bool, true, false, List, length, refl, sym, ◌∙◌, ap}
use Rattle.std.specs.Prelude.{nat_lt, Result, Ok, Err, if◌then◌else◌}
use Rattle.sector_disk.specs.Lists.{Content}
use Rattle.cat_records.specs.declared.record.FileRecord.{FileRecord}
use Rattle.hfs_language.specs.declared.refusal.Refusal.{Refusal}
use Rattle.hfs_language.specs.declared.refusal.Refusal.TheVariants as refusal
use Rattle.hfs_language.specs.declared.reply.Reply.TheVariants as reply
use Rattle.hfs_model.specs.Kinds.{kind_step, kind_told, resource_written}
use Rattle.hfs_model.specs.Step.{is_private_path, most_bytes, most_size, on, then_, to_file, to_read, to_write, unless}
use Rattle.hfs_model.specs.declared.kinds.KindEdit.TheVariants as edit
use Rattle.hfs_model.specs.declared.plain.PlainNode.{PlainNode}
use Rattle.hfs_model.specs.declared.plain.PlainTree.{PlainTree}
use Rattle.hfs_volume.specs.Content.{volume_of}
use Rattle.hfs_volume.specs.Forks.{resource_kind}
use Rattle.hfs_volume.specs.Sound.{IsSoundVolume}
use Rattle.hfs_volume.specs.TreeOf.{tree_of}
use Rattle.volume_base.specs.Sighting.{IsFileAs, IsFoundAs}
use Rattle.volume_base.proofs.FileBytes.{bytes_long}
use Rattle.volume_links.specs.Resources.{IsToldResource, is_too_large, resource_found}

module _ (tree : PlainTree) (path : List (List ℕ)) (from : ℕ) (value : List ℕ) where
  pub told_private : is_private_path path ≡ true → kind_told tree (edit.ResourceWrite path from value) ≡ (reply.No refusal.Private, tree)
  told_private own = ap (λ b. if b then (reply.No refusal.Private, tree) else kind_step tree (edit.ResourceWrite path from value)) own

  by_file : is_private_path path ≡ false → (r : Result PlainNode Refusal) → to_write tree path from value ≡ r → kind_told tree (edit.ResourceWrite path from value) ≡ on tree r (λ file. (reply.Ok, resource_written file from value tree))
  by_file not_own r is =
      ap (λ b. if b then (reply.No refusal.Private, tree) else kind_step tree (edit.ResourceWrite path from value)) not_own
      ∙ ap (λ q. on tree q (λ (file : PlainNode). (reply.Ok, resource_written file from value tree))) is

  -- a reason against it is what it is told
  pub told_refused : is_private_path path ≡ false → (why : Refusal) → to_write tree path from value ≡ Err why → kind_told tree (edit.ResourceWrite path from value) ≡ (reply.No why, tree)
  told_refused not_own why is = by_file not_own (Err why) is

  -- where nothing stands against it, it is done
  pub told_done : is_private_path path ≡ false → (file : PlainNode) → to_write tree path from value ≡ Ok file → kind_told tree (edit.ResourceWrite path from value) ≡ (reply.Ok, resource_written file from value tree)
  told_done not_own file is = by_file not_own (Ok file) is

  -- a file that was found, of which no byte is asked, is the one that the path stands for
  found_plain : (r other : Result PlainNode Refusal) → then_ r (λ file. unless (nat_lt most_bytes 0) refusal.TooLarge file) ≡ other → r ≡ other
  found_plain (Ok file) other is = is
  found_plain (Err why) other is = is

  writes_of : (r : Result PlainNode Refusal) → to_file tree path ≡ r → to_write tree path from value ≡ then_ r (unless (nat_lt most_size (from + length value) || nat_lt most_bytes (length value)) refusal.TooLarge)
  writes_of r is = ap (λ q. then_ q (unless (nat_lt most_size (from + length value) || nat_lt most_bytes (length value)) refusal.TooLarge)) is

  -- it isn't found
  pub told_missing : (content : Content) → tree ≡ tree_of content → is_private_path path ≡ false → (why : Refusal) → IsFoundAs content (Err why) (to_read tree path 0) → kind_told tree (edit.ResourceWrite path from value) ≡ (reply.No why, tree)
  told_missing content same not_own why found = by (to_read tree path 0) refl found
    where
      by : (r : Result PlainNode Refusal) → to_read tree path 0 ≡ r → IsFoundAs content (Err why) r → kind_told tree (edit.ResourceWrite path from value) ≡ (reply.No why, tree)
      by (Ok file) is never = absurd never
      by (Err other) is alike = told_refused not_own why (writes_of (Err why) (found_plain (to_file tree path) (Err why) (is ∙ ap (λ (w : Refusal). Err w) (sym alike))))

  module _ (content : Content) (same : tree ≡ tree_of content) (sound : IsSoundVolume (volume_of content)) (not_own : is_private_path path ≡ false) (record_is : FileRecord) (found : IsFoundAs content (Ok record_is) (to_read tree path 0)) where
    -- the file, and that its record is as the tree tells
    there : (file : PlainNode) × (to_file tree path ≡ Ok file) × IsFileAs content record_is file
    there = by (to_read tree path 0) refl found
      where
        by : (r : Result PlainNode Refusal) → to_read tree path 0 ≡ r → IsFoundAs content (Ok record_is) r → (file : PlainNode) × (to_file tree path ≡ Ok file) × IsFileAs content record_is file
        by (Ok file) is alike = (file, found_plain (to_file tree path) (Ok file) is, alike)
        by (Err why) is never = absurd never

    -- what was found of it
    pub told_found : IsToldResource tree path from value (resource_found from (length value) record_is)
    told_found = by (is_too_large from (length value)) refl
      where
        by : (b : Bool) → is_too_large from (length value) ≡ b → IsToldResource tree path from value (if b then Err refusal.TooLarge else Ok (record { id = record_is.fields.id; size = record_is.resource_fork.logical_size }))
        by true is = told_refused not_own refusal.TooLarge (writes_of (Ok there.0) there.1 ∙ ap (λ b. unless b refusal.TooLarge there.0) is)
        by false is = record {
          file = there.0;
          not_own = not_own;
          allowed = writes_of (Ok there.0) there.1 ∙ ap (λ b. unless b refusal.TooLarge there.0) is;
          id = there.2.id;
          size = ap (λ (l : List ℕ). length l) there.2.resource ∙ bytes_long content sound resource_kind (inr refl) record_is there.2.has.entry there.2.has.stands there.2.has.value;
        }
