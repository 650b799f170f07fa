use Rattle.std.proofs.Common.{◌+◌, ap}
use Rattle.fsck_repair.proofs.LeafParts.{good_key, good_value}
use Rattle.fsck_repair.proofs.RightLaws.{record_right}
use Rattle.fsck_repair.proofs.right.is_right_record.Goals as goal

pub returns : goal.returns
returns c records are good right =
    let item = c.args.item.now in
    let end = ap (λ n. n + 2) c.read_be16.ensures in
    let key = c.front_of.result.now in
    let value = c.rest_of.result.now in
    record_right records item key value (c.read_be16.result + 2) end c.front_of.ensures c.rest_of.ensures
    (c.in_ok-right.ensures records are (good_key item key (c.read_be16.result + 2) end c.front_of.ensures good) (good_value item value (c.read_be16.result + 2) end c.rest_of.ensures good) right)
