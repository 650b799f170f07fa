use Rattle.std.proofs.Common.{List, length, sym, ◌∙◌, ap}
use Rattle.std.proofs.lemmas.List.{length-map}
use Rattle.btree_node.specs.Levels.{Pair, pair_of}
use Rattle.fsck_scan.proofs.pairs.Pairs.len.Goals as goal

pub returns : goal.returns
returns c = c.len.ensures ∙ sym (length-map c.self.inside.records pair_of) ∙ ap (λ (l : List Pair). length l) c.self.view_is
