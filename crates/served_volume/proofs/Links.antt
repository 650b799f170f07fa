-- What was read of a symbolic link is what the plain tree tells of it.
use Rattle.std.proofs.Common.{◌≡◌, ℕ, List, Bool, true, false, Result, Ok, Err, refl, sym, ◌∙◌, ap, subst}
use Rattle.std.specs.Prelude.{IfOk, IsErrOf, Option, Some, None, if◌then◌else◌}
use Rattle.hfs_language.specs.declared.refusal.Refusal.{Refusal}
use Rattle.hfs_language.specs.declared.refusal.Refusal.TheVariants as refusal
use Rattle.hfs_model.specs.Extras.{is_link, sight_in}
use Rattle.hfs_model.specs.Kinds.{target_told}
use Rattle.hfs_model.specs.Step.{is_private_path, then_, to_file}
use Rattle.hfs_model.specs.declared.kinds.Sight.{Sight}
use Rattle.hfs_model.specs.declared.plain.PlainNode.{PlainNode}
use Rattle.hfs_model.specs.declared.plain.PlainTree.{PlainTree}
use Rattle.hfs_serving.specs.Faults.{CountsFaults, Faults}
use Rattle.hfs_serving.specs.Looks.{IsSeenIn, link_read, told_of_file}
use Rattle.hx_bytes.specs.declared.faults.Trouble.{Trouble}
use Rattle.hx_bytes.specs.declared.faults.Trouble.TheVariants as trouble
use Rattle.sector_disk.specs.Space.{Space}
use Rattle.volume_base.specs.Sighting.{HasFolder, file_told, link_told}
use Rattle.volume_base.specs.declared.sighting.LinkRead.{LinkRead}
use Rattle.volume_base.specs.declared.sighting.LinkRead.TheVariants as link
use Rattle.served_volume.specs.Links.{read_of, result_of}

-- ---- what is seen under a name

pub seen_in : (tree : PlainTree) (parent : ℕ) (name : List ℕ) (seen : Result Sight Trouble) → (HasFolder tree parent → IfOk seen (λ found. found ≡ sight_in tree parent name)) → IfOk seen (IsSeenIn tree parent name)
seen_in tree parent name (Ok found) is = λ folder there kind. is (folder, there, kind)
seen_in tree parent name (Err why) is = tt

-- ---- what is read of a link

told_file : (b : Bool) (file : PlainNode) → read_of (if b then link.Target (target_told file) else link.NotLink) ≡ Ok (if b then Some (target_told file) else None)
told_file true file = refl
told_file false file = refl

told_found : (found : Result PlainNode Refusal) → read_of (file_told found) ≡ then_ found (λ file. Ok (told_of_file file))
told_found (Ok file) = told_file (is_link file) file
told_found (Err why) = refl

-- what a path tells of a link
pub told_link : (tree : PlainTree) (path : List (List ℕ)) → read_of (link_told tree path) ≡ link_read tree path
told_link tree path = by (is_private_path path)
  where
    by : (b : Bool) → read_of (if b then link.No refusal.NotFound else file_told (to_file tree path)) ≡ (if b then Err refusal.NotFound else then_ (to_file tree path) (λ file. Ok (told_of_file file)))
    by true = refl
    by false = told_found (to_file tree path)

-- the same of what was read
pub told_read : (tree other : PlainTree) (path : List (List ℕ)) (read : Result LinkRead Trouble) → other ≡ tree → IfOk read (λ found. found ≡ link_told tree path) → IfOk (result_of read) (λ found. found ≡ link_read other path)
told_read tree other path (Ok found) same is = ap read_of is ∙ told_link tree path ∙ ap (λ (t : PlainTree). link_read t path) (sym same)
told_read tree other path (Err why) same is = tt

-- its faults are those of the call
pub told_faults : {a b : ℕ} {x y : Space} (read : Result LinkRead Trouble) → Faults a x b y read → Faults a x b y (result_of read)
told_faults (Ok found) faults = record { counts = faults.counts; disk = λ is. absurd (cc is) }
told_faults (Err trouble.Disk) faults = record { counts = faults.counts; disk = λ is none. faults.disk refl none }
told_faults (Err trouble.Memory) faults = record { counts = faults.counts; disk = λ is. absurd (cc is) }
