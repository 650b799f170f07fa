-- `rm` of an only name: what is removed, and what putting the file aside does to a volume.
use Rattle.std.specs.Prelude.{ℕ, nat_lt, Bool, Option, None, Some, Result, Ok, Err, if◌then◌else◌}
use Rattle.cat_records.specs.declared.record.FileRecord.{FileRecord}
use Rattle.hfs_language.specs.declared.refusal.Refusal.{Refusal}
use Rattle.hfs_language.specs.declared.refusal.Refusal.TheVariants as refusal
use Rattle.volume_base.specs.declared.nodes.Node.{Node}
use Rattle.volume_base.specs.declared.nodes.Node.TheVariants as node
use Rattle.volume_base.specs.declared.weighing.Edits.{Edits}
use Rattle.volume_base.specs.declared.weighing.Weight.{Weight}
use Rattle.volume_base.specs.declared.weighing.Weight.TheVariants as answer

-- the edits by which a file loses one of its links, and has others
abbrev pub unlink_edits : Edits
unlink_edits = record { ids = 0; catalog = 2; attributes = 0; updates = 4 }

-- the edits by which a file loses its last link
abbrev pub last_edits : Edits
last_edits = record { ids = 0; catalog = 5; attributes = 0; updates = 4 }

-- the edits by which a file loses one of so many links
abbrev pub link_edits : ℕ → Edits
link_edits links = if nat_lt 1 links then unlink_edits else last_edits

-- what is told of the weight of `rm`: a folder is refused
abbrev pub loss_weighed : Node → Weight → (Edits → Weight) → Weight
loss_weighed (node.Folder folder) weighs unlinks = answer.Refused refusal.IsFolder
loss_weighed (node.File file linked) weighs unlinks = if linked then unlinks (link_edits file.fields.special) else weighs

-- the file that was found, and whether links name its record
abbrev pub file_in : Result Node Refusal → Option (FileRecord × Bool)
file_in (Ok (node.File file linked)) = Some (file, linked)
file_in (Ok (node.Folder folder)) = None
file_in (Err why) = None
