-- What a volume in service tells of names and links.
use Rattle.std.specs.Prelude.{◌≡◌, ℕ, List, Option, Some, None, Result, Ok, Err, true, if◌then◌else◌}
use Rattle.hfs_language.specs.declared.refusal.Refusal.{Refusal}
use Rattle.hfs_language.specs.declared.refusal.Refusal.TheVariants as refusal
use Rattle.hfs_model.specs.Extras.{is_link, sight_in}
use Rattle.hfs_model.specs.Kinds.{target_told}
use Rattle.hfs_model.specs.Plain.{node_at}
use Rattle.hfs_model.specs.Step.{is_private_path, then_, to_file}
use Rattle.hfs_model.specs.declared.kinds.Sight.{Sight}
use Rattle.hfs_model.specs.declared.plain.PlainNode.{PlainNode}
use Rattle.hfs_model.specs.declared.plain.PlainTree.{PlainTree}

-- what is seen under a name is what stands there on the tree, where the number is that of one of its folders
abbrev pub IsSeenIn : PlainTree → ℕ → List ℕ → Sight → Type 0
IsSeenIn tree parent name sight = (folder : PlainNode) → node_at tree parent ≡ Some folder → folder.folder ≡ true → sight ≡ sight_in tree parent name

-- the bytes of a link that are told; none of a file that isn't one
abbrev pub told_of_file : PlainNode → Option (List ℕ)
told_of_file file = if is_link file then Some (target_told file) else None

-- The target of the symbolic link that a path stands for on a tree, none where it stands for another file, or the reason against it. The volume's own
-- names count as absent.
abbrev pub link_read : PlainTree → List (List ℕ) → Result (Option (List ℕ)) Refusal
link_read tree path = if is_private_path path then Err refusal.NotFound else then_ (to_file tree path) (λ file. Ok (told_of_file file))
