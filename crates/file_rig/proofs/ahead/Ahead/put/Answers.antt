use Rattle.std.proofs.Common.{◌≡◌, inl, length, set, ap, arith}
use Rattle.sector_disk.specs.Lists.{Content}
use Rattle.file_rig.specs.Runs.{Run}
use Rattle.file_rig.proofs.Runs.{changes_at}
use Rattle.file_rig.proofs.ahead.Ahead.put.Goals as goal

pub returns-then-place-len : goal.returns-then-place-len
returns-then-place-len c =
    let first : c.self.inside.first ≡ c.args.self.now.first = ap (λ (r : Run). r.first) c.self.view_is in
    let values : c.self.inside.values.items ≡ c.args.self.now.values = ap (λ (r : Run). r.values) c.self.view_is in
    inl (changes_at c.args.self.now _ c.args.at c.in-Some.place c.args.value.now (omega (arith, first, c.in-Some.ensures)) (omega (arith, c.if-place-len.true, c.len.ensures, ap (λ (l : Content). length l) values)) first (ap (λ (l : Content). set l c.in-Some.place c.args.value.now) values))
