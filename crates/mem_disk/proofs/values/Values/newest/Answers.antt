use Rattle.std.proofs.Common.{arith, rules, ◌≡◌, ◌<◌, length, subst, sym, ap, ◌∙◌}
use Rattle.mem_disk.proofs.Pushed.{last_read}
use Rattle.sector_disk.specs.Lists.{last}
use Rattle.mem_disk.proofs.values.Values.newest.Goals as goal

pub returns : goal.returns
returns c =
    let same : c.self.inside.list.items ≡ c.args.self.now = c.self.view_is in
    last_read c.self.inside.list.items c.index.result.now c.len.result (subst (λ l. 0 < length l) (sym same) c.requires) (omega arith) (search rules) ∙ ap last same
