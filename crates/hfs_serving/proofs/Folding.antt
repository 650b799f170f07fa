-- How the catalog compares keys is said by its first sector, wherever the fork goes on.
use Rattle.std.proofs.Common.{◌≡◌, ℕ, ◌*◌, ◌++◌, List, [], ◌∷◌, get_or, replicate, refl, sym, ◌∙◌, ap, subst, arith}
use Rattle.std.specs.List.{flat_map, range_with_len}
use Rattle.std.proofs.lemmas.Grind.{flat_map-append}
use Rattle.std.proofs.lemmas.List.{append-nil, get_or-replicate}
use Rattle.hx_bytes.specs.declared.extents.Extent.{Extent}
use Rattle.hx_bytes.specs.declared.extents.ForkRecord.{ForkRecord}
use Rattle.jnl_format.specs.Recovery.{Content, header_of_volume}
use Rattle.hfs_volume.specs.Content.{block_bytes, block_limit, catalog_file, node_of_fork, overflow_of_content, sectors_in, tree_of_fork}
use Rattle.hfs_volume.specs.Forks.{catalog_id, data_kind, extents_of, in_use, overflow_in, per_block_of}
use Rattle.hfs_volume.specs.Mount.{FoldsCase}
use Rattle.hfs_volume.specs.Records.{Overflow}
use Rattle.hfs_serving.specs.Checking.{FoldsFirst}

-- it is a byte of the first node
compare_is : (content : Content) (limit : ℕ) (sectors : List ℕ) → (tree_of_fork content limit sectors).head.compare ≡ get_or (node_of_fork content limit sectors 512 0) 51 0
unfolding tree_of_fork
compare_is content limit sectors = refl

-- of a fork without sectors that is zeros
none_there : (content : Content) (limit : ℕ) → node_of_fork content limit [] 512 0 ≡ replicate 512 0
unfolding node_of_fork block_bytes
none_there content limit = refl

none_says : (content : Content) (limit : ℕ) → get_or (node_of_fork content limit [] 512 0) 51 0 ≡ 0
none_says content limit = ap (λ (l : List ℕ). get_or l 51 0) (none_there content limit) ∙ get_or-replicate {A = ℕ} 512 51 0 0 (omega arith)

-- its first sector says it
first_there : (content : Content) (limit first : ℕ) (front more : List ℕ) → node_of_fork content limit (first ∷ front ++ more) 512 0 ≡ node_of_fork content limit (first ∷ front) 512 0
unfolding node_of_fork
first_there content limit first front more = refl

never_both : (x : ℕ) → x ≡ 0 → x ≡ 0xCF → ⊥
never_both x none is = absurd (omega (arith, none, is))

front_says : (content : Content) (limit : ℕ) (front more : List ℕ) → get_or (node_of_fork content limit front 512 0) 51 0 ≡ 0xCF → get_or (node_of_fork content limit (front ++ more) 512 0) 51 0 ≡ 0xCF
front_says content limit [] more is = absurd (never_both (get_or (node_of_fork content limit [] 512 0) 51 0) (none_says content limit) is)
front_says content limit (first ∷ front) more is = ap (λ (l : List ℕ). get_or l 51 0) (first_there content limit first front more) ∙ is

-- the extents in the header stand first
front_of : (content : Content) (fork : ForkRecord) (overflow : List Overflow) → sectors_in content (extents_of overflow catalog_id data_kind fork)
    ≡ sectors_in content (extents_of [] catalog_id data_kind fork) ++ sectors_in content (flat_map (λ (more : Overflow). in_use more.extents) (overflow_in overflow catalog_id data_kind))
unfolding extents_of
front_of content fork overflow =
    let own = in_use fork.extents.extents in
    let others = flat_map (λ (more : Overflow). in_use more.extents) (overflow_in overflow catalog_id data_kind) in
    let block : Extent → List ℕ = λ extent. range_with_len extent.start extent.count in
    let place : ℕ → List ℕ = λ block. range_with_len (block * per_block_of (header_of_volume content)) (per_block_of (header_of_volume content)) in
    ap (flat_map place) (flat_map-append block own others) ∙ flat_map-append place (flat_map block own) (flat_map block others)
    ∙ ap (λ (es : List Extent). sectors_in content es ++ sectors_in content others) (sym (append-nil own))

pub folds : (content : Content) → FoldsFirst content → FoldsCase content
unfolding catalog_file
folds content first =
    let fork = (header_of_volume content).catalog_fork in
    let limit = block_limit content in
    let own = sectors_in content (extents_of [] catalog_id data_kind fork) in
    let more = sectors_in content (flat_map (λ (more : Overflow). in_use more.extents) (overflow_in (overflow_of_content content) catalog_id data_kind)) in
    subst (λ (l : List ℕ). (tree_of_fork content limit l).head.compare ≡ 0xCF) (sym (front_of content fork (overflow_of_content content)))
    (compare_is content limit (own ++ more) ∙ front_says content limit own more (sym (compare_is content limit own) ∙ first.1))
