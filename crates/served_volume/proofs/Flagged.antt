-- What a file's record says is the same in contents that are alike, and is said of the file that was found.
use Rattle.std.proofs.Common.{◌≡◌, List, refl, sym, subst}
use Rattle.std.specs.Prelude.{ℕ, Bool, false, Result, Ok, Err, IfOk, nat_lt, if◌then◌else◌}
use Rattle.hx_bytes.specs.declared.faults.Trouble.{Trouble}
use Rattle.cat_records.specs.declared.record.FileRecord.{FileRecord}
use Rattle.jnl_format.specs.Recovery.{Content}
use Rattle.hfs_language.specs.declared.refusal.Refusal.{Refusal}
use Rattle.hfs_language.specs.declared.refusal.Refusal.TheVariants as refusal
use Rattle.hfs_model.specs.Step.{is_private_path, most_bytes, then_, to_file, to_read, unless}
use Rattle.hfs_model.specs.declared.plain.PlainNode.{PlainNode}
use Rattle.hfs_model.specs.declared.plain.PlainTree.{PlainTree}
use Rattle.hfs_volume.specs.Content.{VolumeState, volume_of}
use Rattle.hfs_volume.specs.TreeOf.{tree_of}
use Rattle.hfs_serving.specs.Flags.{IsCompressedAs, IsSaidOfFound, file_seen, is_compressed}
use Rattle.volume_base.specs.Sighting.{IsFoundAs}

pub said_alike : (now other : Content) (path : List (List ℕ)) (result : Result Bool Trouble) → volume_of now ≡ volume_of other → tree_of now ≡ tree_of other
    → IfOk result (λ said. IsCompressedAs other path said) → IfOk result (λ said. IsCompressedAs now path said)
said_alike now other path result lists tree found =
    subst (λ (volume : VolumeState). IfOk result (λ said. IsSaidOfFound volume (file_seen (tree_of now) path) said)) (sym lists)
    (subst (λ (t : PlainTree). IfOk result (λ said. IsSaidOfFound (volume_of other) (file_seen t path) said)) (sym tree) found)

-- ---- a file that was found, and none

-- the file of which no byte is asked
abbrev asked_of : Result PlainNode Refusal → Result PlainNode Refusal
asked_of found = then_ found (λ file. unless (nat_lt most_bytes 0) refusal.TooLarge file)

of_file : (content : Content) (file : FileRecord) (found : Result PlainNode Refusal) → IsFoundAs content (Ok file) (asked_of found) → IsSaidOfFound (volume_of content) found (is_compressed file)
of_file content file (Ok node) is = record { file = file; entry = is.has.entry; stands = is.has.stands; value = is.has.value; id = is.id; is = refl }
of_file content file (Err why) is = absurd is

of_none : (content : Content) (why : Refusal) (found : Result PlainNode Refusal) → IsFoundAs content (Err why) (asked_of found) → IsSaidOfFound (volume_of content) found false
of_none content why (Ok node) is = absurd is
of_none content why (Err other) is = refl

pub said_of_file : (content : Content) (path : List (List ℕ)) (file : FileRecord) → is_private_path path ≡ false → IsFoundAs content (Ok file) (to_read (tree_of content) path 0) → IsCompressedAs content path (is_compressed file)
said_of_file content path file seen found = subst (λ (b : Bool). IsSaidOfFound (volume_of content) (if_seen b) (is_compressed file)) (sym seen) (of_file content file (to_file (tree_of content) path) found)
  where
    if_seen : Bool → Result PlainNode Refusal
    if_seen b = if b then Err refusal.Private else to_file (tree_of content) path

pub said_of_none : (content : Content) (path : List (List ℕ)) (why : Refusal) → is_private_path path ≡ false → IsFoundAs content (Err why) (to_read (tree_of content) path 0) → IsCompressedAs content path false
said_of_none content path why seen found = subst (λ (b : Bool). IsSaidOfFound (volume_of content) (if_seen b) false) (sym seen) (of_none content why (to_file (tree_of content) path) found)
  where
    if_seen : Bool → Result PlainNode Refusal
    if_seen b = if b then Err refusal.Private else to_file (tree_of content) path
