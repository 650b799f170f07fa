-- What commands answer over a settled volume is what the step answers on its tree.
use Rattle.std.proofs.Common.{◌≡◌, inl, ℕ, false, List, refl, sym, ◌∙◌, ap, arith}
use Rattle.std.specs.Prelude.{◌||◌, Option, Result, Ok, Err, All, IfOk, take, drop, if◌then◌else◌, ◌≤◌, ◌∷◌, [], length, zero, suc}
use Rattle.std.specs.List.{flat_map}
use Rattle.sector_disk.specs.Lists.{Content}
use Rattle.attributes.specs.Values.{value_at}
use Rattle.btree_node.specs.Levels.{Pair}
use Rattle.cat_records.specs.declared.record.FileRecord.{FileRecord}
use Rattle.btree_file.specs.Standing.{pairs_in}
use Rattle.btree_file.specs.State.{sectors_of_tree}
use Rattle.hfs_language.specs.Written.{FitsPath}
use Rattle.hfs_language.specs.declared.command.Command.TheVariants as command
use Rattle.hfs_language.specs.declared.refusal.Refusal.{Refusal}
use Rattle.hfs_language.specs.declared.refusal.Refusal.TheVariants as refusal
use Rattle.hfs_language.specs.declared.reply.ListedName.{ListedName}
use Rattle.hfs_language.specs.declared.reply.Reply.{Reply}
use Rattle.hfs_language.specs.declared.reply.Reply.TheVariants as reply
use Rattle.hfs_model.specs.Step.{is_private_path, step, step_line}
use Rattle.hfs_volume.specs.Books.{SoundHasPlainTree}
use Rattle.hfs_volume.specs.Content.{VolumeState, volume_of, records_of, overflow_in_volume, attributes_of}
use Rattle.hfs_volume.specs.Forks.{data_kind}
use Rattle.hfs_volume.specs.TreeOf.{tree_in, tree_of, seen_entry, threaded_node, file_bytes, bytes_in, valued}
use Rattle.volume_base.specs.Listing.{replied, names_in}
use Rattle.volume_base.specs.Lists.{lists_of}
use Rattle.volume_base.specs.Owning.{owner_in, attributes_in, names_owned}
use Rattle.volume_base.specs.Values.{value_told, value_owned}
use Rattle.volume_base.specs.Reading.{HasFile, file_in}
use Rattle.volume_base.specs.Standing.{HoldsTrees, IsSettled}
use Rattle.volume_base.specs.Stating.{facts_in}
use Rattle.volume_base.specs.declared.volume.Volume.{Volume}
use Rattle.hx_bytes.specs.declared.faults.Trouble.{Trouble}
use Rattle.volume_header.specs.declared.header.VolumeHeader.{VolumeHeader}
use Rattle.volume_base.proofs.Extending.{head_kept}
use Rattle.volume_base.proofs.Seeing.{if_so}
use Rattle.jnl_format.specs.Recovery.{header_of_volume}
use Rattle.volume_base.proofs.FileBytes.{bytes_long}
use Rattle.volume_base.proofs.ValueBytes.{value_bytes_are, value_long}
use Rattle.volume_base.proofs.NodeIs.{facts_same, file_stands, content_same}
use Rattle.volume_base.proofs.Rising.{settled_attributes_sorted, settled_is_plain, settled_sorted}
use Rattle.volume_base.proofs.Walked.{listing_same, owned_same, value_same}

-- the names of a path are short
pub fits_short : (path : List (List ℕ)) → FitsPath path → All (λ (name : List ℕ). length name ≤ 255) path
fits_short [] fits k d low = absurd (omega (arith, low))
fits_short (name ∷ path) fits zero d low = fits.0.short
fits_short (name ∷ path) fits (suc k) d low = fits_short path fits.1 k d (omega (arith, low))

pub entries_are : (content : Content) → (tree_of content).entries ≡ flat_map (seen_entry (records_of (volume_of content))) (records_of (volume_of content))
unfolding tree_of tree_in
entries_are content = refl

pub listing_is : SoundHasPlainTree → (v : Volume) (content : Content) → HoldsTrees v content → IsSettled v content → (path : List (List ℕ)) → is_private_path path ≡ false → FitsPath path
    → names_in (pairs_in (sectors_of_tree v.catalog.file) content) path ≡ (step_line (tree_of content) (Ok (command.Ls path))).0
listing_is law v content holds settled path not_own fits =
    let sound = settled.sound.entries in
    ap (λ (l : List Pair). names_in l path) (sym (ap (λ (l : VolumeState). l.catalog_pairs) settled.lists))
    ∙ listing_same (volume_of content).catalog_pairs (volume_of content).head.next_catalog_id sound.ids sound.rooted sound.threads (overflow_in_volume (volume_of content)) settled.sound.links.good (settled_sorted v content holds settled) (tree_of content) (entries_are content) (settled_is_plain law v content holds settled) path not_own fits
    ∙ sym (ap (λ b. (if b || false then (reply.No refusal.Private, tree_of content) else step (tree_of content) (command.Ls path)).0) not_own)

pub nodes_are : (content : Content) → (tree_of content).nodes ≡ flat_map (threaded_node (valued (bytes_in content) (attributes_of (volume_of content))) (records_of (volume_of content)) (bytes_in content)) (records_of (volume_of content))
unfolding tree_of tree_in
nodes_are content = refl

pub owned_is : SoundHasPlainTree → (v : Volume) (content : Content) → HoldsTrees v content → IsSettled v content → (path : List (List ℕ)) → is_private_path path ≡ false → FitsPath path
    → names_owned (lists_of v content).catalog_pairs v.private (lists_of v content).attribute_pairs path ≡ (step_line (tree_of content) (Ok (command.LsAttr path))).0
owned_is law v content holds settled path not_own fits =
    let sound = settled.sound.entries in
    (λ i. names_owned (sym (ap (λ (l : VolumeState). l.catalog_pairs) settled.lists) i) (settled.private i) (sym (ap (λ (l : VolumeState). l.attribute_pairs) settled.lists) i) path)
    ∙ owned_same (volume_of content).catalog_pairs (volume_of content).head.next_catalog_id sound.ids sound.rooted sound.threads (overflow_in_volume (volume_of content)) settled.sound.links.good (settled_sorted v content holds settled) (tree_of content) (entries_are content)
    (settled_is_plain law v content holds settled) (volume_of content).attribute_pairs (bytes_in content) (nodes_are content) path not_own fits
    ∙ sym (ap (λ b. (if b || false then (reply.No refusal.Private, tree_of content) else step (tree_of content) (command.LsAttr path)).0) not_own)

-- what `stat` answers
pub facts_is : SoundHasPlainTree → (v : Volume) (content : Content) → HoldsTrees v content → IsSettled v content → (path : List (List ℕ)) → is_private_path path ≡ false → FitsPath path
    → facts_in (pairs_in (sectors_of_tree v.catalog.file) content) v.private path ≡ (step_line (tree_of content) (Ok (command.Stat path))).0
facts_is law v content holds settled path not_own fits =
    (λ i. facts_in (sym (ap (λ (l : VolumeState). l.catalog_pairs) settled.lists) i) (settled.private i) path)
    ∙ facts_same (volume_of content) settled.sound (settled_sorted v content holds settled) (tree_of content) (entries_are content) (settled_is_plain law v content holds settled)
    (valued (bytes_in content) (attributes_of (volume_of content))) (bytes_in content) (nodes_are content) (λ file entry stands value. bytes_long content settled.sound data_kind (inl refl) file entry stands value) path not_own fits
    ∙ sym (ap (λ b. (if b || false then (reply.No refusal.Private, tree_of content) else step (tree_of content) (command.Stat path)).0) not_own)

-- the reply about what was found, and the one that tells the reason against it
module _ (law : SoundHasPlainTree) (v : Volume) (content : Content) (holds : HoldsTrees v content) (settled : IsSettled v content) (path : List (List ℕ)) (not_own : is_private_path path ≡ false) (fits : FitsPath path) (said : Result ℕ Refusal)
    (found : said ≡ owner_in (lists_of v content).catalog_pairs v.private path)
  where
    pub told_owned : (id : ℕ) (list : List ListedName) → said ≡ Ok id → list ≡ attributes_in (lists_of v content).attribute_pairs id → reply.Listing list ≡ (step_line (tree_of content) (Ok (command.LsAttr path))).0
    told_owned id list ok is =
        ap reply.Listing is ∙ ap (λ r. replied r (λ n. reply.Listing (attributes_in (lists_of v content).attribute_pairs n))) (sym ok ∙ found) ∙ owned_is law v content holds settled path not_own fits

    pub told_why : (why : Refusal) → said ≡ Err why → reply.No why ≡ (step_line (tree_of content) (Ok (command.LsAttr path))).0
    told_why why err = ap (λ r. replied r (λ n. reply.Listing (attributes_in (lists_of v content).attribute_pairs n))) (sym err ∙ found) ∙ owned_is law v content holds settled path not_own fits

pub value_is : SoundHasPlainTree → (v : Volume) (content : Content) → HoldsTrees v content → IsSettled v content → (path : List (List ℕ)) (name : List ℕ) → is_private_path path ≡ false → FitsPath path
    → value_owned content (header_of_volume content).block_size (lists_of v content).catalog_pairs v.private (lists_of v content).attribute_pairs path name ≡ (step_line (tree_of content) (Ok (command.GetAttr path name))).0
value_is law v content holds settled path name not_own fits =
    let sound = settled.sound.entries in
    (λ i. value_owned content (header_of_volume content).block_size (sym (ap (λ (l : VolumeState). l.catalog_pairs) settled.lists) i) (settled.private i) (sym (ap (λ (l : VolumeState). l.attribute_pairs) settled.lists) i) path name)
    ∙ value_same (volume_of content).catalog_pairs (volume_of content).head.next_catalog_id sound.ids sound.rooted sound.threads (overflow_in_volume (volume_of content)) settled.sound.links.good (settled_sorted v content holds settled) (tree_of content) (entries_are content)
    (settled_is_plain law v content holds settled) (volume_of content).attribute_pairs (bytes_in content) (nodes_are content) content (header_of_volume content).block_size (settled_attributes_sorted v content holds settled) settled.sound.attributes.values
    (λ id n a stands here fork value. (value_bytes_are content settled.sound id n fork.logical_size, value_long content settled.sound id n a stands here fork value)) path name not_own fits
    ∙ sym (ap (λ b. (if b || false then (reply.No refusal.Private, tree_of content) else step (tree_of content) (command.GetAttr path name)).0) not_own)

-- the same of an attribute's value
module _ (law : SoundHasPlainTree) (v : Volume) (content : Content) (holds : HoldsTrees v content) (settled : IsSettled v content) (path : List (List ℕ)) (name : List ℕ) (not_own : is_private_path path ≡ false) (fits : FitsPath path) (said : Result ℕ Refusal)
    (found : said ≡ owner_in (lists_of v content).catalog_pairs v.private path)
  where
    abbrev block : ℕ
    block = (header_of_volume content).block_size

    pub told_value : (id : ℕ) (told : Reply) → said ≡ Ok id → told ≡ value_told content block (value_at (lists_of v content).attribute_pairs id name) → told ≡ (step_line (tree_of content) (Ok (command.GetAttr path name))).0
    told_value id told ok is =
        is ∙ ap (λ r. replied r (λ n. value_told content block (value_at (lists_of v content).attribute_pairs n name))) (sym ok ∙ found) ∙ value_is law v content holds settled path name not_own fits

    -- the same of a reply over what was read before
    pub told_later : (id : ℕ) → said ≡ Ok id → (later : Content) (size : ℕ) (lists : VolumeState) → later ≡ content → size ≡ v.header.block_size → lists ≡ lists_of v content → (result : Result Reply Trouble)
        → IfOk result (λ told. told ≡ value_told later size (value_at lists.attribute_pairs id name)) → IfOk result (λ told. told ≡ (step_line (tree_of content) (Ok (command.GetAttr path name))).0)
    told_later id ok later size lists same size_same lists_same result told =
        if_so (λ (r : Reply). r ≡ value_told later size (value_at lists.attribute_pairs id name)) (λ (r : Reply). r ≡ (step_line (tree_of content) (Ok (command.GetAttr path name))).0) result
        (λ r is. told_value id r ok (is ∙ (λ i. value_told (same i) ((size_same ∙ ap (λ (h : VolumeHeader). h.block_size) (head_kept v content settled)) i) (value_at (lists_same i).attribute_pairs id name)))) told

    pub told_value_why : (why : Refusal) → said ≡ Err why → reply.No why ≡ (step_line (tree_of content) (Ok (command.GetAttr path name))).0
    told_value_why why err = ap (λ r. replied r (λ n. value_told content block (value_at (lists_of v content).attribute_pairs n name))) (sym err ∙ found) ∙ value_is law v content holds settled path name not_own fits

-- the file of which bytes are asked has its record
pub file_there : SoundHasPlainTree → (v : Volume) (content : Content) → HoldsTrees v content → IsSettled v content → (path : List (List ℕ)) (long : ℕ) → is_private_path path ≡ false → FitsPath path → (said : Result FileRecord Refusal)
    → said ≡ file_in (lists_of v content).catalog_pairs v.private path long → (file : FileRecord) → said ≡ Ok file → HasFile (records_of (volume_of content)) file
file_there law v content holds settled path long not_own fits said found file ok =
    file_stands (volume_of content) settled.sound (settled_sorted v content holds settled) (tree_of content) (entries_are content) (settled_is_plain law v content holds settled)
    (valued (bytes_in content) (attributes_of (volume_of content))) (bytes_in content) (nodes_are content) path long file not_own fits
    (sym (λ i. file_in (sym (ap (λ (l : VolumeState). l.catalog_pairs) settled.lists) i) (settled.private i) path long) ∙ sym found ∙ ok)

pub content_is : SoundHasPlainTree → (v : Volume) (content : Content) → HoldsTrees v content → IsSettled v content → (path : List (List ℕ)) (start long : ℕ) → is_private_path path ≡ false → FitsPath path
    → replied (file_in (lists_of v content).catalog_pairs v.private path long) (λ file. reply.Content (take long (drop start (file_bytes content file).data_bytes))) ≡ (step_line (tree_of content) (Ok (command.Read path start long))).0
content_is law v content holds settled path start long not_own fits =
    (λ i. replied (file_in (sym (ap (λ (l : VolumeState). l.catalog_pairs) settled.lists) i) (settled.private i) path long) (λ file. reply.Content (take long (drop start (file_bytes content file).data_bytes))))
    ∙ content_same (volume_of content) settled.sound (settled_sorted v content holds settled) (tree_of content) (entries_are content) (settled_is_plain law v content holds settled)
    (valued (bytes_in content) (attributes_of (volume_of content))) (bytes_in content) (nodes_are content) path start long not_own fits
    ∙ sym (ap (λ b. (if b || false then (reply.No refusal.Private, tree_of content) else step (tree_of content) (command.Read path start long)).0) not_own)

-- the same of a file's bytes
module _ (law : SoundHasPlainTree) (v : Volume) (content : Content) (holds : HoldsTrees v content) (settled : IsSettled v content) (path : List (List ℕ)) (start long : ℕ) (not_own : is_private_path path ≡ false) (fits : FitsPath path)
    (said : Result FileRecord Refusal) (found : said ≡ file_in (lists_of v content).catalog_pairs v.private path long)
  where
    abbrev word : Result FileRecord Refusal → Reply
    word r = replied r (λ file. reply.Content (take long (drop start (file_bytes content file).data_bytes)))

    pub told_content : (file : FileRecord) (bytes : List ℕ) → said ≡ Ok file → bytes ≡ take long (drop start (file_bytes content file).data_bytes) → reply.Content bytes ≡ (step_line (tree_of content) (Ok (command.Read path start long))).0
    told_content file bytes ok is = ap reply.Content is ∙ ap word (sym ok ∙ found) ∙ content_is law v content holds settled path start long not_own fits

    pub told_content_why : (why : Refusal) → said ≡ Err why → reply.No why ≡ (step_line (tree_of content) (Ok (command.Read path start long))).0
    told_content_why why err = ap word (sym err ∙ found) ∙ content_is law v content holds settled path start long not_own fits
