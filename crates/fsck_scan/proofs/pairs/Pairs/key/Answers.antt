use Rattle.std.proofs.Common.{◌≡◌, ◌<◌, ℕ, List, [], length, get_or, sym, ◌∙◌, ap, arith}
use Rattle.std.proofs.lemmas.List.{get_or-map, length-map}
use Rattle.btree_node.specs.Levels.{Pair, key_of, pair_of}
use Rattle.fsck_scan.proofs.pairs.Pairs.key.Goals as goal

pub get-requires : goal.get-requires
get-requires c = omega (arith, c.requires, length-map c.self.inside.records pair_of, ap (λ (l : List Pair). length l) c.self.view_is)

pub returns : goal.returns
returns c =
    let records : List (List ℕ) = c.self.inside.records in
    let inside : c.args.i < length records = omega (arith, c.requires, length-map records pair_of, ap (λ (l : List Pair). length l) c.self.view_is) in
    c.key_part.ensures ∙ ap key_of c.get.ensures ∙ sym (ap (λ (p : Pair). p.0) (get_or-map pair_of records c.args.i [] ([], []) inside)) ∙ ap (λ (l : List Pair). (get_or l c.args.i ([], [])).0) c.self.view_is
