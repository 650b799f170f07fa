-- A cut of blocks past the size of a file's fork leaves its bytes as they are: they lie in the blocks that stay.
use Rattle.std.proofs.Common.{◌≡◌, ◌≢◌, ◌⊎◌, inl, inr, ◌<◌, ◌≤◌, ℕ, zero, suc, ◌+◌, ◌-◌, ◌*◌, ◌/◌, ◌%◌, min, Bool, true, false, List, [], ◌∷◌, ◌++◌, length, take, drop, replicate, refl, sym, ◌∙◌, ap, subst, arith, ⊎_elim, length-append, length-take}
use Rattle.std.specs.Prelude.{Contains, ◌==◌, ◌&&◌, nat_lt, Option, Some, if◌then◌else◌}
use Rattle.std.specs.List.{flat_map, range_with_len}
use Rattle.std.proofs.lemmas.Bool.{cases_lt}
use Rattle.std.proofs.Math.Bool.{and-false}
use Rattle.std.proofs.lemmas.Grind.{flat_map-append}
use Rattle.std.proofs.lemmas.List.{length-replicate, take-append-drop}
use Rattle.std.proofs.lemmas.List.Elements.{Contains-append_left}
use Rattle.hx_bytes.specs.declared.extents.Extent.{Extent}
use Rattle.hx_bytes.specs.declared.extents.ForkRecord.{ForkRecord}
use Rattle.jnl_format.specs.Recovery.{header_of_volume}
use Rattle.volume_header.specs.declared.header.VolumeHeader.{VolumeHeader}
use Rattle.sector_disk.specs.Lists.{Content, sector}
use Rattle.sector_disk.specs.Space.{Space}
use Rattle.cat_records.specs.declared.record.CatRecord.TheVariants.{File}
use Rattle.cat_records.specs.declared.record.FileRecord.{FileRecord}
use Rattle.catalog.specs.Pairs.{value_at}
use Rattle.alloc_bitmap.specs.Map.{none}
use Rattle.file_io.proofs.ByteLaws.{bytes_enough}
use Rattle.flag_rows.specs.Bits.{sectors_for}
use Rattle.fork_map.specs.Blocks.{blocks_of, sectors_of}
use Rattle.hfs_model.specs.Step.{padded}
use Rattle.hfs_volume.specs.Blocks.{forks_of}
use Rattle.hfs_volume.specs.Changes.{with_fork}
use Rattle.hfs_volume.specs.Content.{VolumeState, block_bytes, block_limit, block_sector, overflow_in_volume, records_of, volume_of}
use Rattle.hfs_volume.specs.Forks.{Owned, data_kind, extents_of, in_use, parts_for, per_block_of, resource_kind}
use Rattle.hfs_volume.specs.Laws.{IsUserFile}
use Rattle.hfs_volume.specs.Records.{entries_of, is_link_type}
use Rattle.hfs_volume.specs.Reclaim.{CutsAlone, IsTreeFork, blocks_at, blocks_wanted}
use Rattle.hfs_volume.specs.Sound.{IsSoundVolume}
use Rattle.hfs_volume.specs.TreeOf.{bytes_in, bytes_in_fork, file_bytes, tree_in}
use Rattle.hfs_volume.specs.Writing.{OthersKeepBytes, ShrunkCut}
use Rattle.hfs_volume.proofs.Rereading.{same_bytes}
use Rattle.hfs_volume.proofs.Sectors.{below_parts}
use Rattle.hfs_volume.proofs.Untouched.{HasWholeBlocks, data_fork_of, file_fork_stands, resource_fork_of, resource_fork_stands, whole_blocks}
use Rattle.volume_base.specs.Changing.{ReplacesRecord}
use Rattle.volume_space.specs.Cutting.{CutsOne, MayGive, PutsGiven, given_back}
use Rattle.volume_base.specs.Cutting.{IsCutOf, cut_fork_of, fork_at, kind_of, with_freed}
use Rattle.volume_base.specs.Lists.{bits_on, facts_on, lists_of}
use Rattle.volume_base.specs.Standing.{IsSettled, IsStanding}
use Rattle.volume_space.specs.Spreading.{StoresExtents}
use Rattle.volume_base.specs.declared.cutting.Cut.{Cut}
use Rattle.volume_base.specs.declared.entries.Entry.{Entry}
use Rattle.volume_base.specs.declared.forks.ForkKind.{ForkKind}
use Rattle.volume_base.specs.declared.forks.ForkKind.TheVariants as kinds
use Rattle.volume_base.specs.declared.volume.Volume.{Volume}
use Rattle.volume_space.proofs.CutDone.{entry_there, high_id, keeps, low_tree, off, other_fork, others, tree_same}
use Rattle.volume_base.proofs.CutLists.{left_is, stays_are}
use Rattle.volume_space.proofs.CutSettled.{does, does_after, extents_nodes, found_value, header_same, headed, lists_cut, nodes, settled_now, stored, updates, volume_now}
use Rattle.volume_base.proofs.FilesKept.{not_2, not_in_catalog, not_in_extents, not_in_map, user_of}
use Rattle.volume_base.proofs.ForkKinds.{kind_is}
use Rattle.volume_base.proofs.TreesSettled.{header_settled}
use Rattle.volume_space.proofs.PutFork.{owned_of, owned_stands}

-- ---- bytes of blocks

sector_long : (content : Content) (limit at : ℕ) → length (block_sector content limit at) ≡ 512
unfolding block_sector
sector_long content limit at = by (nat_lt at limit)
  where
    by : (b : Bool) → length (if b then take 512 (padded 512 (sector content at)) else replicate 512 0) ≡ 512
    by true = omega (arith, length-take 512 (padded 512 (sector content at)), length-append (sector content at) (replicate {A = ℕ} (512 - length (sector content at)) 0), length-replicate {A = ℕ} (512 - length (sector content at)) 0)
    by false = length-replicate {A = ℕ} 512 0

bytes_are_long : (content : Content) (limit : ℕ) (xs : List ℕ) → length (block_bytes content limit xs) ≡ length xs * 512
unfolding block_bytes
bytes_are_long content limit [] = refl
bytes_are_long content limit (x ∷ xs) = omega (arith, length-append (block_sector content limit x) (flat_map (block_sector content limit) xs), sector_long content limit x, bytes_are_long content limit xs)

bytes_append : (content : Content) (limit : ℕ) (xs ys : List ℕ) → block_bytes content limit (xs ++ ys) ≡ block_bytes content limit xs ++ block_bytes content limit ys
unfolding block_bytes
bytes_append content limit xs ys = flat_map-append (block_sector content limit) xs ys

take_front : (n : ℕ) (xs ys : List ℕ) → n ≤ length xs → take n (xs ++ ys) ≡ take n xs
take_front zero xs ys less = refl
take_front (suc n) [] ys less = absurd (omega (arith, less))
take_front (suc n) (x ∷ xs) ys less = ap (λ l. x ∷ l) (take_front n xs ys (omega (arith, less)))

-- so many bytes lie in as many blocks as they take
lie_in : (size block left : ℕ) → 0 < block → parts_for size block ≤ left → size ≤ left * block
lie_in size block left some least = ⊎_elim (λ (more : left * block < size). absurd (omega (arith, below_parts block size left some more, least))) (λ (enough : size ≤ left * block). enough) (cases_lt (left * block) size)

-- both forks of a file have the bytes that they had
both_same : (k : ForkKind) (fork : ForkRecord) (file : FileRecord) (before after : Content) → bytes_in_fork after file.fields.id (kind_of k) fork ≡ bytes_in_fork before file.fields.id (kind_of k) (fork_at (kind_of k) file)
    → ((resource_kind == kind_of k) ≡ false → bytes_in_fork after file.fields.id resource_kind file.resource_fork ≡ bytes_in_fork before file.fields.id resource_kind file.resource_fork)
    → ((data_kind == kind_of k) ≡ false → bytes_in_fork after file.fields.id data_kind file.data_fork ≡ bytes_in_fork before file.fields.id data_kind file.data_fork)
    → file_bytes after (with_fork (kind_of k) fork file) ≡ file_bytes before file
both_same kinds.Data fork file before after own other_one other_two = λ i. record { data_bytes = own i; resource_bytes = other_one refl i }
both_same kinds.Resource fork file before after own other_one other_two = λ i. record { data_bytes = other_two refl i; resource_bytes = own i }

module _ (v x w : Volume) (a c e d : Space) (was : IsStanding v a) (settled : IsSettled v a.content) (entry : Entry) (file : FileRecord) (list : List Extent) (k : ForkKind) (keep : ℕ) (cut : Cut) (may : MayGive cut.goes v) (unchanged : v.map.changed ≡ none (sectors_for (length v.map.used)))
    (is_list : list ≡ extents_of (overflow_in_volume (volume_of a.content)) file.fields.id (kind_of k) (fork_at (kind_of k) file)) (is_cut : IsCutOf list (fork_at (kind_of k) file) keep cut) (no_link : is_link_type file.fields ≡ false)
    (there : value_at (lists_of v a.content).catalog_pairs entry.parent entry.name ≡ Some entry.rec) (is : entry.rec ≡ File file)
    (puts : PutsGiven (given_back cut.goes v) a.content c.content) (stores : StoresExtents file.fields.id (kind_of k) cut.stays (given_back cut.goes v) x c.content e.content)
    (replaces : ReplacesRecord entry (File (with_fork (kind_of k) (cut_fork_of v.header.block_size (fork_at (kind_of k) file) cut) file)) x w e.content d.content)
    (stands : IsStanding w d) (wanted : parts_for (fork_at (kind_of k) file).logical_size (volume_of a.content).head.block_size ≤ keep)
  where
    abbrev new : VolumeState
    new = lists_cut v x w a c e d was settled entry file list (kind_of k) keep cut may unchanged (kind_is k) is_list is_cut no_link there is puts stores replaces stands

    abbrev head : VolumeHeader
    head = header_of_volume a.content

    abbrev size : ℕ
    size = (fork_at (kind_of k) file).logical_size

    head_is : (volume_of a.content).head ≡ header_of_volume a.content
    unfolding volume_of
    head_is = refl

    blocks : HasWholeBlocks (volume_of a.content).sectors (volume_of a.content).head
    blocks = whole_blocks (volume_of a.content).sectors (volume_of a.content).head settled.sound.blocks.header.accepted

    enough : (fork_at (kind_of k) file).logical_size ≤ is_cut.last.left * (volume_of a.content).head.block_size
    enough = lie_in (fork_at (kind_of k) file).logical_size (volume_of a.content).head.block_size is_cut.last.left (omega (arith, blocks.whole, blocks.some)) (omega (arith, wanted, is_cut.last.least))

    size_is : (cut_fork_of (volume_of a.content).head.block_size (fork_at (kind_of k) file) cut).logical_size ≡ (fork_at (kind_of k) file).logical_size
    size_is = ap (λ n. min (fork_at (kind_of k) file).logical_size (n * (volume_of a.content).head.block_size)) (left_is (volume_of a.content) settled.sound (kind_of k) keep entry.parent entry.name file list cut (lists_of w d.content).catalog_pairs (facts_on w.catalog.file) (lists_of x e.content).overflow_pairs (facts_on x.extents.file) (bits_on (given_back cut.goes v)) (updates v x w a c e d was settled entry file list (kind_of k) keep cut may unchanged (kind_is k) is_list is_cut no_link there is puts stores replaces stands) (found_value v x w a c e d was settled entry file list (kind_of k) keep cut may unchanged (kind_is k) is_list is_cut no_link there is puts stores replaces stands (updates v x w a c e d was settled entry file list (kind_of k) keep cut may unchanged (kind_is k) is_list is_cut no_link there is puts stores replaces stands)) no_link (kind_is k) is_list is_cut (nodes v x w a c e d was settled entry file list (kind_of k) keep cut may unchanged (kind_is k) is_list is_cut no_link there is puts stores replaces stands) (stored v x w a c e d was settled entry file list (kind_of k) keep cut may unchanged (kind_is k) is_list is_cut no_link there is puts stores replaces stands) (extents_nodes v x w a c e d was settled entry file list (kind_of k) keep cut may unchanged (kind_is k) is_list is_cut no_link there is puts stores replaces stands)) ∙ omega (arith, enough)

    heads : header_of_volume d.content ≡ with_freed cut.goes.count (header_of_volume a.content)
    heads = headed v x w a c e d was settled entry file list (kind_of k) keep cut may unchanged (kind_is k) is_list is_cut no_link there is puts stores replaces stands ∙ header_same v x w a c e d was settled entry file list (kind_of k) keep cut may unchanged (kind_is k) is_list is_cut no_link there is puts stores replaces stands ∙ ap (with_freed cut.goes.count) (sym (header_settled v a.content settled))

    stays : extents_of (overflow_in_volume (volume_of d.content)) file.fields.id (kind_of k) (cut_fork_of (volume_of a.content).head.block_size (fork_at (kind_of k) file) cut) ≡ cut.stays
    stays =
        ap (λ (l : VolumeState). extents_of (overflow_in_volume l) file.fields.id (kind_of k) (cut_fork_of (volume_of a.content).head.block_size (fork_at (kind_of k) file) cut)) (volume_now v x w a c e d was settled entry file list (kind_of k) keep cut may unchanged (kind_is k) is_list is_cut no_link there is puts stores replaces stands)
        ∙ stays_are (volume_of a.content) settled.sound (kind_of k) keep entry.parent entry.name file list cut (lists_of w d.content).catalog_pairs (facts_on w.catalog.file) (lists_of x e.content).overflow_pairs (facts_on x.extents.file) (bits_on (given_back cut.goes v)) (updates v x w a c e d was settled entry file list (kind_of k) keep cut may unchanged (kind_is k) is_list is_cut no_link there is puts stores replaces stands) (found_value v x w a c e d was settled entry file list (kind_of k) keep cut may unchanged (kind_is k) is_list is_cut no_link there is puts stores replaces stands (updates v x w a c e d was settled entry file list (kind_of k) keep cut may unchanged (kind_is k) is_list is_cut no_link there is puts stores replaces stands)) no_link (kind_is k) is_list is_cut (nodes v x w a c e d was settled entry file list (kind_of k) keep cut may unchanged (kind_is k) is_list is_cut no_link there is puts stores replaces stands) (stored v x w a c e d was settled entry file list (kind_of k) keep cut may unchanged (kind_is k) is_list is_cut no_link there is puts stores replaces stands) (extents_nodes v x w a c e d was settled entry file list (kind_of k) keep cut may unchanged (kind_is k) is_list is_cut no_link there is puts stores replaces stands)

    were : extents_of (overflow_in_volume (volume_of a.content)) file.fields.id (kind_of k) (fork_at (kind_of k) file) ≡ list
    were = sym is_list

    -- the sectors of its blocks, in two parts
    parts : sectors_of (per_block_of head) (blocks_of list) ≡ sectors_of (per_block_of head) (blocks_of cut.stays) ++ sectors_of (per_block_of head) (drop is_cut.last.left (blocks_of list))
    parts =
        ap (sectors_of (per_block_of head)) (sym (take-append-drop is_cut.last.left (blocks_of list)))
        ∙ flat_map-append (λ block. range_with_len (block * per_block_of head) (per_block_of head)) (take is_cut.last.left (blocks_of list)) (drop is_cut.last.left (blocks_of list))
        ∙ ap (λ l. sectors_of (per_block_of head) l ++ sectors_of (per_block_of head) (drop is_cut.last.left (blocks_of list))) (sym is_cut.last.stay)

    its_sector : (s : ℕ) → Contains (sectors_of (per_block_of head) (blocks_of cut.stays)) s → Contains (sectors_of (per_block_of (volume_of a.content).head) (blocks_of (extents_of (overflow_in_volume (volume_of a.content)) file.fields.id (kind_of k) (fork_at (kind_of k) file)))) s
    its_sector s has =
        subst (λ (k : VolumeHeader × List Extent). Contains (sectors_of (per_block_of k.0) (blocks_of k.1)) s) {x = (head, list)} {y = ((volume_of a.content).head, extents_of (overflow_in_volume (volume_of a.content)) file.fields.id (kind_of k) (fork_at (kind_of k) file))} (λ i. (sym head_is i, sym were i))
        (subst (λ (l : List ℕ). Contains l s) (sym parts) (Contains-append_left (sectors_of (per_block_of head) (blocks_of cut.stays)) (sectors_of (per_block_of head) (drop is_cut.last.left (blocks_of list))) s has))

    its_value : (updates v x w a c e d was settled entry file list (kind_of k) keep cut may unchanged (kind_is k) is_list is_cut no_link there is puts stores replaces stands).entry.value ≡ File file
    its_value = found_value v x w a c e d was settled entry file list (kind_of k) keep cut may unchanged (kind_is k) is_list is_cut no_link there is puts stores replaces stands (updates v x w a c e d was settled entry file list (kind_of k) keep cut may unchanged (kind_is k) is_list is_cut no_link there is puts stores replaces stands)

    its_entry : Contains (entries_of (records_of (volume_of a.content))) (updates v x w a c e d was settled entry file list (kind_of k) keep cut may unchanged (kind_is k) is_list is_cut no_link there is puts stores replaces stands).entry
    its_entry = entry_there v x w a c e d was settled entry file list (kind_of k) keep cut may unchanged (kind_is k) is_list is_cut no_link there is puts stores replaces stands

    agrees : (s : ℕ) → Contains (sectors_of (per_block_of head) (blocks_of cut.stays)) s → sector d.content s ≡ sector a.content s
    agrees s has =
        let its_fork = owned_stands k (volume_of a.content) (updates v x w a c e d was settled entry file list (kind_of k) keep cut may unchanged (kind_is k) is_list is_cut no_link there is puts stores replaces stands).entry file its_entry its_value in
        let its_user = user_of (volume_of a.content) settled.sound (updates v x w a c e d was settled entry file list (kind_of k) keep cut may unchanged (kind_is k) is_list is_cut no_link there is puts stores replaces stands).entry file its_entry its_value in
        off v x w a c e d was settled entry file list (kind_of k) keep cut may unchanged (kind_is k) is_list is_cut no_link there is puts stores replaces stands s (not_2 (volume_of a.content) settled.sound (owned_of k file) its_fork its_user s (its_sector s has))
        (not_in_catalog (volume_of a.content) settled.sound (owned_of k file) its_fork its_user s (its_sector s has)) (not_in_extents (volume_of a.content) settled.sound (owned_of k file) its_fork its_user s (its_sector s has)) (not_in_map (volume_of a.content) settled.sound (owned_of k file) its_fork its_user s (its_sector s has))

    long_enough : (fork_at (kind_of k) file).logical_size ≤ length (block_bytes a.content (block_limit a.content) (sectors_of (per_block_of head) (blocks_of cut.stays)))
    long_enough =
        let stays_long : length (blocks_of cut.stays) ≡ is_cut.last.left = ap (λ (l : List ℕ). length l) is_cut.last.stay ∙ (let e : length (take is_cut.last.left (blocks_of list)) ≡ is_cut.last.left = omega (arith, length-take is_cut.last.left (blocks_of list), is_cut.last.sum) in e) in
        let fits : (fork_at (kind_of k) file).logical_size ≤ length (blocks_of cut.stays) * head.block_size = subst (λ (p : ℕ × VolumeHeader). (fork_at (kind_of k) file).logical_size ≤ p.0 * p.1.block_size) {x = (is_cut.last.left, (volume_of a.content).head)} {y = (length (blocks_of cut.stays), head)} (λ i. (sym stays_long i, head_is i)) enough in
        let whole : head.block_size ≡ 512 * per_block_of head = subst (λ h. h.block_size ≡ 512 * per_block_of h) head_is blocks.whole in
        omega (arith, bytes_enough (per_block_of head) head.block_size (fork_at (kind_of k) file).logical_size (blocks_of cut.stays) refl (omega (arith, whole)) fits, bytes_are_long a.content (block_limit a.content) (sectors_of (per_block_of head) (blocks_of cut.stays)))

    own_bytes : bytes_in_fork d.content file.fields.id (kind_of k) (cut_fork_of (volume_of a.content).head.block_size (fork_at (kind_of k) file) cut) ≡ bytes_in_fork a.content file.fields.id (kind_of k) (fork_at (kind_of k) file)
    unfolding bytes_in_fork
    own_bytes =
        (λ i. take (size_is i) (block_bytes d.content ((heads i).total_blocks * per_block_of (heads i)) (sectors_of (per_block_of (heads i)) (blocks_of (extents_of (overflow_in_volume (volume_of d.content)) file.fields.id (kind_of k) (cut_fork_of (volume_of a.content).head.block_size (fork_at (kind_of k) file) cut))))))
        ∙ (λ i. take size (block_bytes d.content (block_limit a.content) (sectors_of (per_block_of head) (blocks_of (stays i)))))
        ∙ ap (take size) (same_bytes a.content d.content (block_limit a.content) (sectors_of (per_block_of head) (blocks_of cut.stays)) agrees)
        ∙ sym (take_front size (block_bytes a.content (block_limit a.content) (sectors_of (per_block_of head) (blocks_of cut.stays))) (block_bytes a.content (block_limit a.content) (sectors_of (per_block_of head) (drop is_cut.last.left (blocks_of list)))) long_enough)
        ∙ ap (take size) (sym (bytes_append a.content (block_limit a.content) (sectors_of (per_block_of head) (blocks_of cut.stays)) (sectors_of (per_block_of head) (drop is_cut.last.left (blocks_of list)))) ∙ ap (block_bytes a.content (block_limit a.content)) (sym parts))
        ∙ (λ i. take size (block_bytes a.content (block_limit a.content) (sectors_of (per_block_of head) (blocks_of (sym were i)))))

    -- its other fork has its own
    other_same : OthersKeepBytes → (other : Owned) → other.id ≡ file.fields.id → Contains (forks_of (volume_of a.content)) other → (other.kind == kind_of k) ≡ false → bytes_in_fork d.content other.id other.kind other.fork ≡ bytes_in_fork a.content other.id other.kind other.fork
    other_same law other number own differs =
        other_fork v x w a c e d was settled entry file list (kind_of k) keep cut may unchanged (kind_is k) is_list is_cut no_link there is puts stores replaces stands law (updates v x w a c e d was settled entry file list (kind_of k) keep cut may unchanged (kind_is k) is_list is_cut no_link there is puts stores replaces stands).entry file its_entry its_value other number own
        (ap (λ b. (other.id == file.fields.id) && b) differs ∙ and-false (other.id == file.fields.id))

    -- the bytes of both its forks
    both_bytes : OthersKeepBytes → file_bytes d.content (with_fork (kind_of k) (cut_fork_of (volume_of a.content).head.block_size (fork_at (kind_of k) file) cut) file) ≡ file_bytes a.content file
    both_bytes law =
        both_same k (cut_fork_of (volume_of a.content).head.block_size (fork_at (kind_of k) file) cut) file a.content d.content own_bytes
        (λ differs. other_same law (resource_fork_of file) refl (resource_fork_stands (volume_of a.content) (updates v x w a c e d was settled entry file list (kind_of k) keep cut may unchanged (kind_is k) is_list is_cut no_link there is puts stores replaces stands).entry file its_entry its_value) differs)
        (λ differs. other_same law (data_fork_of file) refl (file_fork_stands (volume_of a.content) (updates v x w a c e d was settled entry file list (kind_of k) keep cut may unchanged (kind_is k) is_list is_cut no_link there is puts stores replaces stands).entry file its_entry its_value) differs)

    module _ (law : ShrunkCut) (bytes : OthersKeepBytes) (user : IsUserFile file.fields.id (volume_of a.content)) (least : blocks_wanted (volume_of a.content) file.fields.id (kind_of k) ≤ is_cut.last.left) where
      by_shrunk : IsSoundVolume new × (tree_in new (bytes_in d.content) ≡ tree_in (volume_of a.content) (bytes_in a.content)) × CutsAlone file.fields.id (kind_of k) (blocks_wanted (volume_of a.content) file.fields.id (kind_of k)) (volume_of a.content) new
      by_shrunk = law file.fields.id (kind_of k) is_cut.last.left cut.goes.count (volume_of a.content) new (bytes_in a.content) (bytes_in d.content) settled.sound user (does v x w a c e d was settled entry file list (kind_of k) keep cut may unchanged (kind_is k) is_list is_cut no_link there is puts stores replaces stands) least
          (ap (bytes_in d.content).file (does_after v x w a c e d was settled entry file list (kind_of k) keep cut may unchanged (kind_is k) is_list is_cut no_link there is puts stores replaces stands).0 ∙ both_bytes bytes ∙ sym (ap (bytes_in a.content).file (does_after v x w a c e d was settled entry file list (kind_of k) keep cut may unchanged (kind_is k) is_list is_cut no_link there is puts stores replaces stands).1)) (others v x w a c e d was settled entry file list (kind_of k) keep cut may unchanged (kind_is k) is_list is_cut no_link there is puts stores replaces stands bytes)

      pub shrunk_done : IsSettled w d.content × CutsOne file.fields.id (kind_of k) (blocks_wanted (volume_of a.content) file.fields.id (kind_of k)) a.content d.content
      shrunk_done = (
        settled_now v x w a c e d was settled entry file list (kind_of k) keep cut may unchanged (kind_is k) is_list is_cut no_link there is puts stores replaces stands by_shrunk.0,
        record {
          alone = subst (λ (l : VolumeState). CutsAlone file.fields.id (kind_of k) (blocks_wanted (volume_of a.content) file.fields.id (kind_of k)) (volume_of a.content) l) (sym (volume_now v x w a c e d was settled entry file list (kind_of k) keep cut may unchanged (kind_is k) is_list is_cut no_link there is puts stores replaces stands)) (record { cut = by_shrunk.2.cut; others = by_shrunk.2.others; values = by_shrunk.2.values });
          keeps = keeps v x w a c e d was settled entry file list (kind_of k) keep cut may unchanged (kind_is k) is_list is_cut no_link there is puts stores replaces stands (λ id other tree. by_shrunk.2.others id other (inl (λ same. absurd (omega (arith, same, high_id v x w a c e d was settled entry file list (kind_of k) keep cut may unchanged (kind_is k) is_list is_cut no_link there is puts stores replaces stands, low_tree v x w a c e d was settled entry file list (kind_of k) keep cut may unchanged (kind_is k) is_list is_cut no_link there is puts stores replaces stands id tree)))));
          tree = tree_same v x w a c e d was settled entry file list (kind_of k) keep cut may unchanged (kind_is k) is_list is_cut no_link there is puts stores replaces stands by_shrunk.1;
        },
      )
