use Rattle.std.proofs.Common.{◌≡◌, ap}
use Rattle.fsck_scan.specs.Scan.{failure}
use Rattle.fsck_scan.proofs.form.failed.Goals as goal

pub returns : goal.returns
returns c = ap (failure c.args.rule) c.place_of.ensures
