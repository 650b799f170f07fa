-- What `write` and `trunc` come to where data was put: the step's tree, a settled volume, and the lists that they speak of.
use Rattle.std.proofs.Common.{◌≡◌, inl, ◌<◌, ◌≤◌, ℕ, ◌+◌, ◌-◌, ◌||◌, ◌&&◌, not, Bool, true, false, List, [], ◌∷◌, length, refl, sym, ◌∙◌, ap, subst, arith}
use Rattle.std.specs.Prelude.{Contains, IsTrue, Some, Ok}
use Rattle.std.proofs.lemmas.Bool.{and_parts}
use Rattle.flag_rows.specs.Runs.{fewest_of}
use Rattle.file_io.specs.Places.{old_end, first_block as first_of}
use Rattle.sector_disk.specs.Lists.{Content}
use Rattle.sector_disk.specs.Space.{Space}
use Rattle.cat_records.specs.declared.record.FileRecord.{FileRecord}
use Rattle.hfs_language.specs.declared.command.Command.{Command}
use Rattle.hfs_language.specs.declared.command.Command.TheVariants as command
use Rattle.hfs_model.specs.Step.{step, to_trunc, to_write}
use Rattle.hfs_model.specs.declared.plain.PlainNode.{PlainNode}
use Rattle.hfs_volume.specs.Content.{VolumeState, volume_of}
use Rattle.hfs_volume.specs.Forks.{data_kind}
use Rattle.hfs_volume.specs.TreeOf.{bytes_in, file_bytes, tree_of}
use Rattle.hfs_volume.specs.Weight.{Data, data_of, file_extents, needs_cut}
use Rattle.hfs_volume.specs.Writing.{MakesBytes, RewritePuts, RewritesFile, TruncDoes, WriteDoes, file_before, resized_bytes, written_bytes}
use Rattle.hfs_volume.proofs.Bytes.{file_bytes_are}
use Rattle.volume_base.specs.Standing.{IsSettled, StandsOver}
use Rattle.volume_space.specs.Writing.{HasData, IsAt, PutsAt, fits_data, fresh_runs, is_put_later, is_put_now, may_overflow}
use Rattle.volume_base.specs.declared.volume.Volume.{Volume}
use Rattle.volume_space.proofs.PutAllowed.{zero_last}
use Rattle.volume_space.proofs.PutForks.{forks_put, rewritten, user_put}
use Rattle.volume_space.proofs.PutFile.{its, long_is, only}

-- data that can be put now has no blocks before it that go first
pub no_cut_now : (v : Volume) (spare : ℕ) (lists : VolumeState) (put : Data) → is_put_now v spare lists (Some put) ≡ true → needs_cut lists (Some put) ≡ false
no_cut_now v spare lists put now = by (needs_cut lists (Some put)) (may_overflow (length (file_extents lists put.id data_kind)) (fresh_runs v put)) (and_parts (not (is_put_later data_kind v lists put)) (fits_data v spare put) now).0
  where
    by : (b c : Bool) → not (b || c) ≡ true → b ≡ false
    by true c is = sym is
    by false c is = refl

module _ (v w : Volume) (a : Space) (after : Content) (holds : StandsOver v a) (tells : IsTrue a.tells) (settled : IsSettled v a.content) (node : PlainNode) (stands : Contains (tree_of a.content).nodes node) (kind : node.folder ≡ false)
    (from : ℕ) (value : List ℕ) (puts : PutsAt data_kind node.id from value v w a.content after)
  where
    abbrev file : FileRecord
    file = puts.file

    abbrev size : ℕ
    size = puts.file.data_fork.logical_size

    abbrev block : ℕ
    block = v.header.block_size

    same : (its data_kind (inl refl) v a holds tells settled node stands kind).file ≡ puts.file
    same = only data_kind (inl refl) v a holds tells settled node stands kind puts.file puts.stands puts.number

    long : length node.bytes ≡ puts.file.data_fork.logical_size
    long = long_is data_kind (inl refl) v a holds tells settled node stands kind puts.file same

    -- ---- the step

    abbrev Does : ℕ → (List ℕ → List ℕ) → Type 0
    Does id make =
        (does : RewritesFile id (first_of v.header.block_size puts.file.data_fork.logical_size from) (old_end v.header.block_size puts.file.data_fork.logical_size (from + length value) - first_of v.header.block_size puts.file.data_fork.logical_size from) puts.puts.fresh (volume_of a.content) puts.puts.lists)
        × MakesBytes make does (bytes_in a.content) (bytes_in after)

    written_now : Does node.id (written_bytes from value)
    written_now = subst (λ id. Does id (written_bytes from value)) puts.number (puts.puts.rewrites, puts.puts.makes)

    pub write_done : (law : WriteDoes) (path : List (List ℕ)) → 0 < length value → to_write (tree_of a.content) path from value ≡ Ok node → IsSettled w after × (tree_of after ≡ (step (tree_of a.content) (command.Write path from value)).1)
    unfolding tree_of
    write_done law path some allowed =
        let does = law path from value node (first_of v.header.block_size puts.file.data_fork.logical_size from) (old_end v.header.block_size puts.file.data_fork.logical_size (from + length value) - first_of v.header.block_size puts.file.data_fork.logical_size from)
        puts.puts.fresh (volume_of a.content) puts.puts.lists (bytes_in a.content) (bytes_in after) (file_bytes_are after) settled.sound some allowed written_now.0 written_now.1 in
        (puts.puts.settles does.0, puts.puts.tree ∙ does.1)

    -- a zero that was written where the last byte will be makes the file longer
    module _ (longer : ℕ) (place : from ≡ longer - 1) (zero_is : value ≡ 0 ∷ []) (short : length node.bytes < longer) where
      before_long : length ((file_bytes a.content (file_before puts.puts.rewrites.puts)).data_bytes) ≡ length node.bytes
      before_long = ap (λ (f : FileRecord). length ((file_bytes a.content f).data_bytes)) (puts.puts.same_file ∙ sym same) ∙ sym (ap (λ (l : List ℕ). length l) (its data_kind (inl refl) v a holds tells settled node stands kind).bytes)

      longer_bytes : written_bytes from value (file_bytes a.content (file_before puts.puts.rewrites.puts)).data_bytes ≡ resized_bytes longer (file_bytes a.content (file_before puts.puts.rewrites.puts)).data_bytes
      longer_bytes = (λ i. written_bytes (place i) (zero_is i) (file_bytes a.content (file_before puts.puts.rewrites.puts)).data_bytes) ∙ zero_last (file_bytes a.content (file_before puts.puts.rewrites.puts)).data_bytes longer (omega (arith, short, before_long))

      resized_here : MakesBytes (resized_bytes longer) puts.puts.rewrites (bytes_in a.content) (bytes_in after)
      resized_here = record {
        made = puts.puts.makes.made ∙ (λ i. record (file_bytes a.content (file_before puts.puts.rewrites.puts)) { data_bytes = longer_bytes i });
        others = puts.puts.makes.others;
      }

      resized_now : Does node.id (resized_bytes longer)
      resized_now = subst (λ id. Does id (resized_bytes longer)) puts.number (puts.puts.rewrites, resized_here)

      pub trunc_done : (law : TruncDoes) (path : List (List ℕ)) → to_trunc (tree_of a.content) path longer ≡ Ok node → IsSettled w after × (tree_of after ≡ (step (tree_of a.content) (command.Trunc path longer)).1)
      unfolding tree_of
      trunc_done law path allowed =
          let does = law path longer node (first_of v.header.block_size puts.file.data_fork.logical_size from) (old_end v.header.block_size puts.file.data_fork.logical_size (from + length value) - first_of v.header.block_size puts.file.data_fork.logical_size from)
          puts.puts.fresh (volume_of a.content) puts.puts.lists (bytes_in a.content) (bytes_in after) (file_bytes_are after) settled.sound allowed resized_now.0 resized_now.1 in
          (puts.puts.settles does.0, puts.puts.tree ∙ does.1)

    -- ---- the lists

    module _ (put : Data) (number : put.id ≡ node.id) (at : IsAt put (length node.bytes) from (from + length value)) (no_cut : needs_cut (volume_of a.content) (Some put) ≡ false) (law : RewritePuts) where
      pub data_done : (asked : Command) → data_of (tree_of a.content) asked ≡ Some put → HasData asked a.content after
      data_done asked is = record {
        put = put;
        is_asked = is;
        no_cut = no_cut;
        fresh = puts.puts.fresh;
        rewrites = rewritten data_kind (inl refl) v w a after holds tells settled node stands kind from value puts put number at;
        forks = forks_put data_kind (inl refl) v w a after holds tells settled node stands kind from value puts put number at law;
        user = user_put data_kind (inl refl) v w a after holds tells settled node stands kind from value puts put number at;
      }
