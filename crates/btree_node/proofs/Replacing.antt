-- A record replaced: taken away, and another put there.
use Rattle.std.proofs.Common.{◌≡◌, ℕ, suc, ◌+◌, ◌<◌, ◌≤◌, List, [], ◌∷◌, ◌++◌, length, take, drop, get_or, set, sym, ◌∙◌, ap, arith}
use Rattle.std.proofs.lemmas.List.{take_at, drop_at, set_split, length-take}
use Rattle.std.proofs.lemmas.List.Sums.{sum_by-remove}
use Rattle.std.specs.List.{insert, remove, sum_by}
use Rattle.btree_node.specs.Node.{items, IsNode, room_beside}
use Rattle.btree_node.proofs.Items.{records_take}

-- without its record at a place, a node has room for another one there
pub room_of_removed : (old new : List ℕ) (i n : ℕ) → IsNode old → i < length (items old) → items new ≡ remove (items old) i → length new ≡ length old
    → n ≤ room_beside (length old) (items old) + length (get_or (items old) i []) → n + 2 ≤ room_beside (length new) (items new)
room_of_removed old new i n cut inside is size fits =
    let sums : sum_by (λ bytes. length bytes + 2) (items new) + (length (get_or (items old) i []) + 2) ≡ sum_by (λ bytes. length bytes + 2) (items old) =
    ap (λ l. sum_by (λ bytes. length bytes + 2) l + (length (get_or (items old) i []) + 2)) is ∙ sum_by-remove (λ bytes. length bytes + 2) (items old) i [] inside in
    omega (arith, sums, size, records_take old cut, cut.first, cut.inside)

pub replaced : {X : Type 0} (xs : List X) (i : ℕ) (x : X) → i < length xs → insert (remove xs i) i x ≡ set xs i x
replaced xs i x inside =
    let front : take i (remove xs i) ≡ take i xs = take_at (take i xs) (drop (suc i) xs) i (omega (arith, length-take i xs)) in
    let back : drop i (remove xs i) ≡ drop (suc i) xs = drop_at (take i xs) (drop (suc i) xs) i (omega (arith, length-take i xs)) in
    ap (λ l. l ++ x ∷ drop i (remove xs i)) front ∙ ap (λ l. take i xs ++ x ∷ l) back ∙ sym (set_split xs i x inside)
