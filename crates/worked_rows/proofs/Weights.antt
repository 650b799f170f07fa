-- The weights of commands on volumes, computed.
use Rattle.std.specs.Prelude.{◌≡◌, refl, ℕ, ◌∷◌, [], ◌++◌, List, codes, true, false, replicate, Ok, Some}
use Rattle.hx_bytes.specs.Field.{number_at, number_bytes}
use Rattle.hx_bytes.specs.Fork.{extents_at, extents_bytes, fork_bytes}
use Rattle.cat_records.specs.Records.{entry_of, entry_bytes}
use Rattle.hfs_language.specs.declared.command.Command.TheVariants as command
use Rattle.hfs_language.specs.declared.refusal.Refusal.TheVariants as refusal
use Rattle.hfs_model.specs.Plain.{fresh_tree}
use Rattle.hfs_volume.specs.declared.cost.Cost.TheVariants as cost
use Rattle.hfs_volume.specs.Records.{placed_of, overflow_of}
use Rattle.hfs_volume.specs.Forks.{extents_of}
use Rattle.hfs_volume.specs.Content.{VolumeState}
use Rattle.hfs_volume.specs.Cost.{cost_of, load_of}
use Rattle.hfs_volume.specs.Weight.{edits, needs_for, room_with, weight, weight_with, free_blocks}
use Rattle.hfs_volume.proofs.WorkedVolumes.{fresh_head, facts, fresh_volume}
use Rattle.worked_rows.proofs.Grown.{grown}
use Rattle.worked_rows.proofs.Rows.{tree_after}

abbrev a : List ℕ
a = codes "a"

abbrev b : List ℕ
b = codes "b"

-- the volume once a file was made
abbrev with_a_file : VolumeState
with_a_file = record fresh_volume { head = record fresh_head { file_count = 3; next_catalog_id = 19 }; catalog_tree = facts 1 1 8 64 62 }

-- a new folder: the volume header, the record of the root, and at most 32 nodes of the catalog, of eight sectors each
weight_of_mkdir : weight 1982 fresh_volume fresh_tree (command.Mkdir (a ∷ [])) ≡ cost.Load 265 (0 ∷ 0 ∷ 0 ∷ [])
unfolding number_at extents_at overflow_of extents_of free_blocks room_with weight_with cost_of load_of
weight_of_mkdir = refl

-- a command that only reads takes nothing
weight_of_ls : weight 1982 fresh_volume fresh_tree (command.Ls []) ≡ cost.Load 0 (0 ∷ 0 ∷ 0 ∷ [])
unfolding weight_with
weight_of_ls = refl

-- the first further name of a file, over a journal of 512 sectors
weight_of_a_first_link : weight 494 with_a_file (tree_after fresh_tree (Ok (command.Create (a ∷ [])) ∷ [])) (command.Ln (a ∷ []) (b ∷ [])) ≡ cost.Refused (refusal.TooBig 545 494)
unfolding number_at extents_at overflow_of extents_of free_blocks room_with weight_with cost_of load_of
weight_of_a_first_link = refl

-- an id of 4,294,967,295 can't be drawn
weight_without_an_id : weight 1982 (record fresh_volume { head = record fresh_head { next_catalog_id = 4294967295 } }) fresh_tree (command.Create (a ∷ [])) ≡ cost.Refused (refusal.NoIds 4294967295)
unfolding number_at extents_at overflow_of extents_of free_blocks room_with weight_with cost_of load_of
weight_without_an_id = refl

-- ---- a volume with 156 free blocks

abbrev nearly_full : VolumeState
nearly_full = record grown { bits = replicate 1891 true ++ (replicate 156 false ++ true ∷ replicate 30720 false) }

-- a file of whole blocks that grows by 256 blocks, of which one run has none
weight_without_space : cost_of (needs_for (free_blocks nearly_full) nearly_full (edits 0 0 0 1) (Some (record { id = 18; old_size = 36864; new_size = 1085440; from = 36864; end = 1085440 }))) (room_with 1982 (free_blocks nearly_full) nearly_full)
    ≡ cost.Refused (refusal.NoSpace 156 256)
unfolding number_at number_bytes extents_at extents_bytes fork_bytes entry_of entry_bytes placed_of overflow_of extents_of free_blocks room_with cost_of load_of
weight_without_space = refl

-- the same of six mebibytes that grow to a tebibyte in one line
weight_without_a_tebibyte : cost_of (needs_for (free_blocks nearly_full) nearly_full (edits 0 0 0 1) (Some (record { id = 18; old_size = 6291456; new_size = 1099511627776; from = 6291456; end = 1099511627776 }))) (room_with 1982 (free_blocks nearly_full) nearly_full)
    ≡ cost.Refused (refusal.NoSpace 156 268433920)
unfolding number_at number_bytes extents_at extents_bytes fork_bytes entry_of entry_bytes placed_of overflow_of extents_of free_blocks room_with cost_of load_of
weight_without_a_tebibyte = refl
