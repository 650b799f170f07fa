-- A node whose sectors stand one behind the other.
use Rattle.std.proofs.Common.{◌≡◌, ◌+◌, ◌*◌, ◌<◌, ◌≤◌, ℕ, List, Some, length, slice_get, sym, ◌∙◌, ap, arith}
use Rattle.std.specs.List.{flat_map, range_with_len}
use Rattle.std.proofs.lemmas.List.{ext_get_or}
use Rattle.std.proofs.lemmas.List.FromFn.{length-range_with_len, get_or-range_with_len}
use Rattle.std.proofs.lemmas.Option.{get_or_from_slice_get}
use Rattle.fork_map.specs.Nodes.{node_of}
use Rattle.sector_disk.specs.Lists.{Content, sector, run_of}
use Rattle.btree_file.specs.Place.{sectors_at}
use Rattle.btree_file.proofs.PlaceLaws.{many, at_place}

-- they are so many numbers from the first on
in_a_row : (fork : List ℕ) (per n first : ℕ) → (n + 1) * per ≤ length fork → ((k : ℕ) → k < per → slice_get fork (n * per + k) ≡ Some (first + k)) → sectors_at fork per n ≡ range_with_len first per
in_a_row fork per n first whole following =
    let long = many fork per n whole in
    ext_get_or 0 (sectors_at fork per n) (range_with_len first per) (long ∙ sym (length-range_with_len first per))
    (λ k inside. let low : k < per = omega (arith, inside, long) in at_place fork per n k low ∙ get_or_from_slice_get fork (n * per + k) (first + k) 0 (following k low) ∙ sym (get_or-range_with_len first per k 0 low))

-- the bytes of the run are the node's, for a node's length under another name
pub run_is_node : (content : Content) (fork : List ℕ) (n first long per : ℕ) → long ≡ per → (n + 1) * per ≤ length fork → ((k : ℕ) → k < long → slice_get fork (n * long + k) ≡ Some (first + k)) → run_of content first long ≡ node_of content fork per n
run_is_node content fork n first long per e whole following =
    let here : (k : ℕ) → k < per → slice_get fork (n * per + k) ≡ Some (first + k) = λ k low. ap (λ p. slice_get fork (n * p + k)) (sym e) ∙ following k (omega (arith, low, e)) in
    ap (λ p. run_of content first p) e ∙ ap (λ (l : List ℕ). flat_map (λ s. sector content s) l) (sym (in_a_row fork per n first whole here))
