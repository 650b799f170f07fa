-- What `stat` tells of a folder or file.
use Rattle.std.specs.Prelude.{ℕ, ◌==◌, ◌-◌, ◌%◌, Bool, true, false, List, Option, None, Some, if◌then◌else◌}
use Rattle.btree_node.specs.Levels.{Pair}
use Rattle.cat_records.specs.declared.record.EntryFields.{EntryFields}
use Rattle.hfs_language.specs.declared.reply.Facts.{Facts}
use Rattle.hfs_language.specs.declared.reply.Reply.{Reply}
use Rattle.hfs_language.specs.declared.reply.Reply.TheVariants as reply
use Rattle.volume_base.specs.Listing.{replied}
use Rattle.volume_base.specs.Nodes.{node_in}
use Rattle.volume_base.specs.declared.nodes.Node.{Node}
use Rattle.volume_base.specs.declared.nodes.Node.TheVariants as node

-- how many entries of the root are the volume's own: the journal's two files, and the private folder where there is one
abbrev pub own_entries : Option ℕ → ℕ
own_entries None = 2
own_entries (Some private) = 3

-- how many entries of a folder users see: its valence, less the volume's own in the root
abbrev pub entries_told : ℕ → EntryFields → ℕ
entries_told own fields = if fields.id == 2 then fields.count - own else fields.count

-- how many names a file has: one, or as many as its record says
abbrev pub names_told : EntryFields → Bool → ℕ
names_told fields linked = if linked then fields.special else 1

-- what `stat` tells of a folder or file, where the root has so many entries of the volume's own
abbrev pub facts_told : ℕ → Node → Facts
facts_told own (node.Folder folder) = record {
  folder = true;
  id = folder.fields.id;
  size = entries_told own folder.fields;
  links = 0;
  mode = folder.fields.mode % 4096;
  created = folder.fields.created;
  changed = folder.fields.changed;
  attribute = folder.fields.attribute;
}
facts_told own (node.File file linked) = record {
  folder = false;
  id = file.fields.id;
  size = file.data_fork.logical_size;
  links = names_told file.fields linked;
  mode = file.fields.mode % 4096;
  created = file.fields.created;
  changed = file.fields.changed;
  attribute = file.fields.attribute;
}

-- what `stat` answers, by the pairs of the catalog's tree
abbrev pub facts_in : List Pair → Option ℕ → List (List ℕ) → Reply
facts_in pairs private path = replied (node_in pairs private path) (λ found. reply.Facts (facts_told (own_entries private) found))
