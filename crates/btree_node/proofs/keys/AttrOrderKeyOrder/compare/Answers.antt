use Rattle.std.proofs.Common.{◌≡◌, ap, ◌∙◌, drop, take, length, ◌-◌, ℕ, List}
use Rattle.std.proofs.lemmas.List.{take_rest}
use Rattle.std.specs.Cmp.Lexicographic.{slice_cmp}
use Rattle.std.specs.Ordering.{nat_cmp, ordering_then}
use Rattle.std.specs.declared.cmp.Ordering.{Ordering}
use Rattle.btree_node.specs.Keys.{units, attr_file, attr_start, attr_units}
use Rattle.btree_node.proofs.keys.AttrOrderKeyOrder.compare.Goals as goal

joined : (result file name start rest one two three : Ordering) → file ≡ one → name ≡ two → start ≡ three → rest ≡ ordering_then name start → result ≡ ordering_then file rest → result ≡ ordering_then one (ordering_then two three)
joined result file name start rest one two three a b c d e = cc

pub returns : goal.returns
returns c =
    let a = c.args.a.now in
    let b = c.args.b.now in
    let file : c.cmp-file.result ≡ nat_cmp (attr_file a) (attr_file b) = c.cmp-file.ensures ∙ ap (λ x. nat_cmp x c.read_be32-2.result) c.read_be32.ensures ∙ ap (λ y. nat_cmp (attr_file a) y) c.read_be32-2.ensures in
    let start : c.cmp-start.result ≡ nat_cmp (attr_start a) (attr_start b) = c.cmp-start.ensures ∙ ap (λ x. nat_cmp x c.read_be32-4.result) c.read_be32-3.ensures ∙ ap (λ y. nat_cmp (attr_start a) y) c.read_be32-4.ensures in
    let name : c.compare_units-name.result ≡ slice_cmp nat_cmp (attr_units a) (attr_units b) = c.compare_units-name.ensures ∙ ap (λ (l : List ℕ). slice_cmp nat_cmp (units l) (units (take (length b - 14) (drop 14 b)))) (take_rest a 14) ∙ ap (λ (l : List ℕ). slice_cmp nat_cmp (attr_units a) (units l)) (take_rest b 14) in
    joined c.then-2.result c.cmp-file.result c.compare_units-name.result c.cmp-start.result c.then.result (nat_cmp (attr_file a) (attr_file b)) (slice_cmp nat_cmp (attr_units a) (attr_units b)) (nat_cmp (attr_start a) (attr_start b))
    file name start c.then.ensures c.then-2.ensures
