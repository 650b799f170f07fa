use Rattle.std.proofs.Common.{◌≡◌, ◌==◌, length, ap, sym, ◌∙◌, rules}
use Rattle.std.proofs.lemmas.List.Sums.{length-filter}
use Rattle.hfs_model.specs.Sorted.{kept}
use Rattle.hfs_model.proofs.Filtered.{filter-kept}
use Rattle.hfs_model.specs.declared.plain.PlainEntry.{PlainEntry}
use Rattle.hfs_model.proofs.plain.PlainTree.count_in.Goals as goal

pub returns : goal.returns
returns c =
    let e = ap length (filter-kept (λ (entry : PlainEntry). entry.parent == c.args.parent) c.args.self.now.entries) in
    let f = length-filter (λ (entry : PlainEntry). entry.parent == c.args.parent) c.args.self.now.entries in
    search rules
