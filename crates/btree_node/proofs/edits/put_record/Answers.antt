use Rattle.btree_node.proofs.Records.{put_two}
use Rattle.btree_node.proofs.edits.put_record.Goals as goal

pub returns : goal.returns
returns c = put_two c.args.node.now c.args.key.now c.args.value.now c.copy_from_slice.new.self c.copy_from_slice-2.new.self c.args.at c.requires c.copy_from_slice.ensures.after c.copy_from_slice-2.ensures.after
