-- What a value that was put into a fork does to the lists: the fork has fresh blocks in place of some, and all others have theirs.
use Rattle.std.proofs.Common.{◌≡◌, ◌⊎◌, ◌<◌, ◌≤◌, ℕ, ◌+◌, ◌-◌, false, List, length, sym, ◌∙◌, ap, subst, arith}
use Rattle.std.specs.Prelude.{Contains, IsTrue, Some}
use Rattle.file_io.specs.Places.{old_end, first_block as first_of}
use Rattle.sector_disk.specs.Lists.{Content}
use Rattle.sector_disk.specs.Space.{Space}
use Rattle.cat_records.specs.declared.record.FileRecord.{FileRecord}
use Rattle.hfs_model.specs.declared.plain.PlainNode.{PlainNode}
use Rattle.volume_header.specs.declared.header.VolumeHeader.{VolumeHeader}
use Rattle.hfs_volume.specs.Content.{VolumeState, volume_of}
use Rattle.hfs_volume.specs.Data.{PutsInForkOf}
use Rattle.hfs_volume.specs.Forks.{data_kind, resource_kind}
use Rattle.hfs_volume.specs.Laws.{IsUserFile}
use Rattle.hfs_volume.specs.TreeOf.{bytes_in, tree_of}
use Rattle.hfs_volume.specs.Weight.{Data, first_block, new_blocks_of, old_blocks_of}
use Rattle.hfs_volume.specs.Writing.{RewritePuts, RewritesFork}
use Rattle.volume_base.specs.Cutting.{fork_at}
use Rattle.volume_base.specs.Standing.{IsSettled, StandsOver}
use Rattle.volume_space.specs.Writing.{IsAt, PutsAt, bytes_at}
use Rattle.volume_base.specs.declared.volume.Volume.{Volume}
use Rattle.volume_space.proofs.PutFork.{file_high}
use Rattle.volume_space.proofs.PutFile.{its, long_is, only}
use Rattle.volume_space.proofs.PutNumbers.{first_is, freed_is, fresh_is}
use Rattle.volume_space.proofs.PutUser.{is_users}

module _ (k : ℕ) (is_kind : (k ≡ data_kind) ⊎ (k ≡ resource_kind)) (v w : Volume) (a : Space) (after : Content) (holds : StandsOver v a) (tells : IsTrue a.tells) (settled : IsSettled v a.content) (node : PlainNode) (stands : Contains (tree_of a.content).nodes node) (kind : node.folder ≡ false)
    (from : ℕ) (value : List ℕ) (puts : PutsAt k node.id from value v w a.content after) (put : Data) (number : put.id ≡ node.id) (at : IsAt put (length (bytes_at k node)) from (from + length value))
  where
    same : (its k is_kind v a holds tells settled node stands kind).file ≡ puts.file
    same = only k is_kind v a holds tells settled node stands kind puts.file puts.stands puts.number

    long : length (bytes_at k node) ≡ (fork_at k puts.file).logical_size
    long = long_is k is_kind v a holds tells settled node stands kind puts.file same

    here : IsAt put (fork_at k puts.file).logical_size from (from + length value)
    here = subst (λ n. IsAt put n from (from + length value)) long at

    head_is : (volume_of a.content).head ≡ v.header
    head_is = ap (λ (l : VolumeState). l.head) settled.lists

    some_block : 0 < v.header.block_size
    some_block = omega (arith, holds.service.least)

    first : first_of v.header.block_size (fork_at k puts.file).logical_size from ≡ first_block (volume_of a.content).head.block_size put
    first = sym (ap (λ (h : VolumeHeader). first_block h.block_size put) head_is ∙ first_is put (fork_at k puts.file).logical_size from (from + length value) v.header.block_size here some_block)

    freed : old_end v.header.block_size (fork_at k puts.file).logical_size (from + length value) - first_of v.header.block_size (fork_at k puts.file).logical_size from ≡ old_blocks_of (volume_of a.content).head.block_size put
    freed = sym (ap (λ (h : VolumeHeader). old_blocks_of h.block_size put) head_is ∙ freed_is put (fork_at k puts.file).logical_size from (from + length value) v.header.block_size here some_block)

    many : length puts.puts.fresh ≡ new_blocks_of (volume_of a.content).head.block_size put
    many = puts.puts.many ∙ sym (ap (λ (h : VolumeHeader). new_blocks_of h.block_size put) head_is ∙ fresh_is put (fork_at k puts.file).logical_size from (from + length value) v.header.block_size here some_block)

    rewritten_to : (new : VolumeState) → puts.puts.lists ≡ new → RewritesFork put.id k (first_block (volume_of a.content).head.block_size put) (old_blocks_of (volume_of a.content).head.block_size put) puts.puts.fresh (volume_of a.content) new
    rewritten_to new is =
        subst (λ (l : VolumeState). RewritesFork put.id k (first_block (volume_of a.content).head.block_size put) (old_blocks_of (volume_of a.content).head.block_size put) puts.puts.fresh (volume_of a.content) l) is
        (subst (λ n. RewritesFork put.id k (first_block (volume_of a.content).head.block_size put) n puts.puts.fresh (volume_of a.content) puts.puts.lists) freed
        (subst (λ n. RewritesFork put.id k n (old_end v.header.block_size (fork_at k puts.file).logical_size (from + length value) - first_of v.header.block_size (fork_at k puts.file).logical_size from) puts.puts.fresh (volume_of a.content) puts.puts.lists) first
        (subst (λ id. RewritesFork id k (first_of v.header.block_size (fork_at k puts.file).logical_size from) (old_end v.header.block_size (fork_at k puts.file).logical_size (from + length value) - first_of v.header.block_size (fork_at k puts.file).logical_size from) puts.puts.fresh (volume_of a.content) puts.puts.lists)
        (puts.number ∙ sym number) puts.puts.rewrites)))

    pub rewritten : RewritesFork put.id k (first_block (volume_of a.content).head.block_size put) (old_blocks_of (volume_of a.content).head.block_size put) puts.puts.fresh (volume_of a.content) (volume_of after)
    rewritten = rewritten_to (volume_of after) (sym puts.puts.now)

    -- the fork has the new blocks, and every other fork of a file those that it had
    pub forks_put : RewritePuts → PutsInForkOf k (Some put) (volume_of a.content) (volume_of after)
    forks_put law = law k put puts.puts.fresh (volume_of a.content) (volume_of after) settled.sound (subst (λ id. IsUserFile id (volume_of a.content)) (sym number) (is_users (volume_of a.content) settled.sound (bytes_in a.content) node (its k is_kind v a holds tells settled node stands kind))) rewritten many

    -- its file is a user's
    pub user_put : 16 ≤ put.id
    user_put = subst (λ n. 16 ≤ n) (puts.number ∙ sym number) (file_high (volume_of a.content) settled.sound puts.stands.entry puts.stands.stands puts.file puts.stands.value)
