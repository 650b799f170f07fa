-- What commands change in a folder or file.
use Rattle.std.specs.Prelude.{ℕ, List, true}
use Rattle.hfs_model.specs.declared.plain.PlainNode.{PlainNode}
use Rattle.hfs_model.specs.declared.changing.NodeChange.{NodeChange}
use Rattle.hfs_model.specs.declared.changing.NodeChange.TheVariants as change
use Rattle.hfs_model.specs.Plain.{with_attribute, with_mode, without_attribute}

-- the folder or file after a change at this moment
abbrev pub change_of : ℕ → NodeChange → PlainNode → PlainNode
change_of moment change.Touched node = record node { changed = moment; attribute = moment }
change_of moment change.Marked node = record node { attribute = moment }
change_of moment (change.Mode mode) node = with_mode mode node
change_of moment change.Linked node = record node { linked = true }
change_of moment (change.Bytes bytes) node = record node { bytes = bytes.now; changed = moment; attribute = moment }
change_of moment (change.SetAttribute name value) node = with_attribute name.now value.now node
change_of moment (change.DropAttribute name) node = without_attribute name.now node
