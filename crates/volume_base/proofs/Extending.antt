-- The extents overflow file of a volume in service can be read, and what a read of a file's fork leaves of the volume.
use Rattle.std.proofs.Common.{◌≡◌, ◌⊎◌, ℕ, ◌<◌, ◌≤◌, ◌*◌, ◌/◌, ◌%◌, IsTrue, List, [], ◌∷◌, ◌++◌, length, map, take, drop, get_or, true, refl, sym, ◌∙◌, ap, subst, arith}
use Rattle.std.specs.Prelude.{Contains, All, Result, IfOk, if◌then◌else◌}
use Rattle.std.specs.List.{list_all}
use Rattle.std.proofs.Math.Nat.{mul_assoc}
use Rattle.std.proofs.lemmas.List.Elements.{Contains-append_left, All-contains_itself}
use Rattle.hx_bytes.specs.declared.extents.Extent.{Extent}
use Rattle.hx_bytes.specs.declared.faults.Trouble.{Trouble}
use Rattle.sector_disk.specs.Lists.{Content}
use Rattle.sector_disk.specs.Space.{Space}
use Rattle.jnl_format.specs.Recovery.{header_of_volume}
use Rattle.volume_header.specs.declared.header.VolumeHeader.{VolumeHeader}
use Rattle.fork_map.specs.Blocks.{blocks_of, fork_sectors}
use Rattle.file_io.specs.Bytes.{fork_bytes as bytes_read}
use Rattle.file_io.proofs.ByteLaws.{length-sectors_of}
use Rattle.btree_edit.specs.Desk.{IsDeskOf}
use Rattle.btree_edit.specs.declared.desk.Desk.{Desk}
use Rattle.btree_file.specs.Standing.{LiesOpen, numbers_of, pairs_in}
use Rattle.btree_file.specs.State.{sectors_of_tree}
use Rattle.btree_file.specs.declared.tree.TreeFile.{TreeFile}
use Rattle.cat_records.specs.declared.record.FileRecord.{FileRecord}
use Rattle.hfs_volume.specs.Blocks.{GoesOn}
use Rattle.hfs_volume.specs.Content.{VolumeState, volume_of, records_of, overflow_in_volume, has_attributes}
use Rattle.hfs_volume.specs.Forks.{extents_of, data_kind, resource_kind, per_block_of}
use Rattle.volume_base.specs.Cutting.{fork_at}
use Rattle.hfs_volume.specs.Records.{Overflow, overflow_of}
use Rattle.hfs_volume.specs.TreeOf.{bytes_in_fork}
use Rattle.hfs_volume.proofs.Members.{behind}
use Rattle.volume_base.specs.Looking.{ReadsVolume}
use Rattle.volume_base.specs.Opening.{ends_inside}
use Rattle.volume_base.specs.Reading.{HasFile}
use Rattle.volume_base.specs.Service.{KeepsFile}
use Rattle.volume_base.specs.Standing.{StandsOver, IsSettled, own_sectors}
use Rattle.volume_base.specs.Touching.{Looks}
use Rattle.volume_base.specs.declared.volume.Volume.{Volume}
use Rattle.volume_base.proofs.FileBytes.{geometry_is, file_goes_on, ends_there, holds_size, bytes_are}
use Rattle.volume_base.proofs.Seeing.{keeps_none, looks_wider, looks_both, if_so}

extents_own : (v : Volume) (at : ℕ) → Contains (sectors_of_tree v.extents.file) at → Contains (own_sectors v) at
extents_own v at here =
    Contains-append_left (2 ∷ sectors_of_tree v.extents.file)
    (sectors_of_tree v.catalog.file ++ ((if has_attributes v.header then sectors_of_tree v.attributes.file else []) ++ fork_sectors v.map.fork v.map.per_block)) at
    (behind 2 at (sectors_of_tree v.extents.file) here)

-- none of its sectors is closed
pub extents_open : (v : Volume) (space : Space) → StandsOver v space → LiesOpen v.extents.file space
extents_open v space stands told k low shut =
    (stands.stands told).closed (get_or (sectors_of_tree v.extents.file) k 0) shut (extents_own v (get_or (sectors_of_tree v.extents.file) k 0) (All-contains_itself (sectors_of_tree v.extents.file) k 0 low))

-- its records are those of the volume's lists
pub overflow_told : (v : Volume) (content : Content) → IsSettled v content → overflow_in_volume (volume_of content) ≡ map overflow_of (pairs_in (sectors_of_tree v.extents.file) content)
overflow_told v content settled = ap (λ (l : VolumeState). map overflow_of l.overflow_pairs) settled.lists

-- those of a file's fork go on behind its record
pub fork_goes_on : (v : Volume) (content : Content) → IsSettled v content → (kind : ℕ) → (kind ≡ data_kind) ⊎ (kind ≡ resource_kind) → (file : FileRecord) → HasFile (records_of (volume_of content)) file
    → GoesOn (map overflow_of (pairs_in (sectors_of_tree v.extents.file) content)) (record { id = file.fields.id; kind = kind; fork = fork_at kind file })
fork_goes_on v content settled kind is_kind file has =
    subst (λ (o : List Overflow). GoesOn o (record { id = file.fields.id; kind = kind; fork = fork_at kind file })) (overflow_told v content settled) (file_goes_on content settled.sound kind is_kind file has.entry has.stands has.value)

-- where only the extents overflow file was read, a volume was
pub extents_read : (v : Volume) (file : TreeFile) (desk : Desk) (before after : Space) → KeepsFile before.tells v.extents.file file → Looks (λ s. Contains (sectors_of_tree v.extents.file) s) before after → IsDeskOf (numbers_of file).node_size desk
    → ReadsVolume v (record v { extents = record { file = file; desk = desk } }) before after
extents_read v file desk before after keeps looks fits = record {
  keeps = record {
    header = refl;
    map = refl;
    extents = record { file = keeps; desk = λ d. fits };
    catalog = keeps_none before.tells v.catalog;
    attributes = keeps_none before.tells v.attributes;
    private = refl;
    shrunk = refl;
    capacity = refl;
    kept = refl;
    filling = refl;
  };
  looks = looks_wider (λ s. Contains (sectors_of_tree v.extents.file) s) (λ s. Contains (own_sectors v) s) before after (λ told s here. extents_own v s here) looks;
}

-- and then the space was
pub read_on : (v w : Volume) (before mid after : Space) → ReadsVolume v w before mid → Looks (λ s. Contains (own_sectors v) s) mid after → ReadsVolume v w before after
read_on v w before mid after reads looks = record { keeps = reads.keeps; looks = looks_both (λ s. Contains (own_sectors v) s) before mid after reads.looks looks }

-- the header that a settled volume keeps is the content's
pub head_kept : (v : Volume) (content : Content) → IsSettled v content → v.header ≡ header_of_volume content
unfolding volume_of
head_kept v content settled = sym (ap (λ (l : VolumeState). l.head) settled.lists)

-- bytes of the fork that was loaded are the file's
pub bytes_told : (v : Volume) (content : Content) → IsSettled v content → (kind : ℕ) → (kind ≡ data_kind) ⊎ (kind ≡ resource_kind) → (file : FileRecord) → HasFile (records_of (volume_of content)) file → (later : Content) (sectors : ℕ) → later ≡ content → length content ≡ sectors → (fork : List Extent)
    → fork ≡ extents_of (map overflow_of (pairs_in (sectors_of_tree v.extents.file) content)) file.fields.id kind (fork_at kind file) → (start long : ℕ) (result : Result (List ℕ) Trouble)
    → (v.header.block_size % 512 ≡ 0 → list_all (ends_inside (v.header.block_size / 512) sectors) fork ≡ true → (fork_at kind file).logical_size ≤ length (blocks_of fork) * v.header.block_size
    → IfOk result (λ bytes. bytes ≡ take long (drop start (take (fork_at kind file).logical_size (bytes_read later v.header.block_size fork)))))
    → IfOk result (λ bytes. bytes ≡ take long (drop start (bytes_in_fork content file.fields.id kind (fork_at kind file))))
bytes_told v content settled kind is_kind file has later sectors same long_is fork fork_is start long result read =
    let head = head_kept v content settled in
    let block : v.header.block_size ≡ (header_of_volume content).block_size = ap (λ (h : VolumeHeader). h.block_size) head in
    let at : fork ≡ extents_of (overflow_in_volume (volume_of content)) file.fields.id kind (fork_at kind file) =
    fork_is ∙ ap (λ (o : List Overflow). extents_of o file.fields.id kind (fork_at kind file)) (sym (overflow_told v content settled)) in
    let geometry = geometry_is content settled.sound in
    if_so (λ (bytes : List ℕ). bytes ≡ take long (drop start (take (fork_at kind file).logical_size (bytes_read later v.header.block_size fork)))) (λ (bytes : List ℕ). bytes ≡ take long (drop start (bytes_in_fork content file.fields.id kind (fork_at kind file)))) result
    (λ bytes is. is ∙ (λ i. take long (drop start (take (fork_at kind file).logical_size (bytes_read (same i) (block i) (at i))))) ∙ ap (λ (l : List ℕ). take long (drop start l)) (sym (bytes_are content settled.sound kind is_kind file has.entry has.stands has.value)))
    (read (omega (arith, block, geometry.whole))
    (subst (λ (k : ℕ × ℕ × List Extent). list_all (ends_inside (k.0 / 512) k.1) k.2 ≡ true) (λ i. (sym block i, long_is i, sym at i)) (ends_there content settled.sound kind is_kind file has.entry has.stands has.value))
    (subst (λ (k : ℕ × List Extent). (fork_at kind file).logical_size ≤ length (blocks_of k.1) * k.0) (λ i. (sym block i, sym at i)) (holds_size content settled.sound kind is_kind file has.entry has.stands has.value)))

-- as many bytes as the sectors of whole blocks have
pub held_whole : (fork : List Extent) (block size : ℕ) → block % 512 ≡ 0 → size ≤ length (fork_sectors fork (block / 512)) * 512 → size ≤ length (blocks_of fork) * block
held_whole fork block size whole held =
    let split : block ≡ block / 512 * 512 = omega (arith, whole) in
    let product : length (blocks_of fork) * block ≡ length (blocks_of fork) * (block / 512) * 512 = ap (λ m. length (blocks_of fork) * m) split ∙ sym (mul_assoc (length (blocks_of fork)) (block / 512) 512) in
    omega (arith, held, product, ap (λ m. m * 512) (length-sectors_of (block / 512) (blocks_of fork)))

-- and the other way round
pub whole_held : (fork : List Extent) (block size : ℕ) → block % 512 ≡ 0 → size ≤ length (blocks_of fork) * block → size ≤ length (fork_sectors fork (block / 512)) * 512
whole_held fork block size whole held =
    let split : block ≡ block / 512 * 512 = omega (arith, whole) in
    let product : length (blocks_of fork) * block ≡ length (blocks_of fork) * (block / 512) * 512 = ap (λ m. length (blocks_of fork) * m) split ∙ sym (mul_assoc (length (blocks_of fork)) (block / 512) 512) in
    omega (arith, held, product, ap (λ m. m * 512) (length-sectors_of (block / 512) (blocks_of fork)))
