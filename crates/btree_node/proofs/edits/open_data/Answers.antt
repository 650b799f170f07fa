use Rattle.std.proofs.Common.{◌+◌, ◌++◌, length, sym}
use Rattle.std.proofs.lemmas.List.{length-append}
use Rattle.btree_node.proofs.Records.{opens_data}
use Rattle.btree_node.proofs.edits.open_data.Goals as goal

pub returns : goal.returns
returns c = opens_data c.args.at c.args.end (length c.args.key.now + length c.args.value.now) (c.args.key.now ++ c.args.value.now) c.args.node.now c.move_up.new.bytes c.put_record.new.node c.requires.ordered c.requires.within (sym (length-append c.args.key.now c.args.value.now)) c.move_up.ensures c.put_record.ensures
