-- What records take in a node, and where a list of records is cut.
use Rattle.std.proofs.Common.{◌≡◌, ℕ, suc, ◌+◌, ◌-◌, ◌*◌, ◌<◌, ◌≤◌, List, [], ◌∷◌, ◌++◌, length, take, drop, get_or, sym, ◌∙◌, ap, arith}
use Rattle.std.proofs.lemmas.List.{length-take, length-drop, get_or-take, get_or-drop, length-append, take_all, drop_all, take-take, take-append-le, drop-take, append-nil}
use Rattle.std.proofs.lemmas.List.Sums.{sum_by-cons, sum_by-append, sum_by-take-drop, sum_by_more}
use Rattle.std.proofs.Math.Seq.{take-append-add}
use Rattle.std.specs.List.{sum_by}
use Rattle.btree_node.specs.Node.{items, IsNode, room_beside}
use Rattle.btree_node.proofs.Items.{records_take}
use Rattle.btree_edit.specs.Held.{HeldPair}
use Rattle.btree_edit.specs.Halves.{record_of, put_of, with_put, IsMiddle, AreForTwo}
use Rattle.btree_edit.specs.LevelEdit.{taken, node_room, FitsTwo}

-- a node holds what its records take, and 16 bytes more
pub node_holds : (node : List ℕ) → IsNode node → 16 + taken (items node) ≤ length node
node_holds node cut = omega (arith, records_take node cut, cut.first, cut.inside)

pub taken-append : (xs ys : List (List ℕ)) → taken (xs ++ ys) ≡ taken xs + taken ys
taken-append xs ys = sum_by-append (λ bytes. length bytes + 2) xs ys

pub taken-cut : (xs : List (List ℕ)) (i : ℕ) → taken (take i xs) + taken (drop i xs) ≡ taken xs
taken-cut xs i = sum_by-take-drop (λ bytes. length bytes + 2) xs i

pub taken-more : (xs : List (List ℕ)) (i : ℕ) → i < length xs → taken (take (i + 1) xs) ≡ taken (take i xs) + (length (get_or xs i []) + 2)
taken-more xs i inside = sum_by_more (λ bytes. length bytes + 2) xs i [] inside

pub taken-put : (xs : List (List ℕ)) (at : ℕ) (rs : List (List ℕ)) → taken (with_put xs at rs) ≡ taken xs + taken rs
taken-put xs at rs =
    let one = taken-append (take at xs) (rs ++ drop at xs) in
    let two = taken-append rs (drop at xs) in
    let all = taken-cut xs at in
    omega (arith, one, two, all)

pub length-put : (xs : List (List ℕ)) (at : ℕ) (rs : List (List ℕ)) → length (with_put xs at rs) ≡ length xs + length rs
length-put xs at rs = omega (arith, length-append (take at xs) (rs ++ drop at xs), length-append rs (drop at xs), length-take at xs, length-drop at xs)

pub length-put_of : (count : ℕ) (first second : HeldPair) → count ≤ 2 → length (put_of count first second) ≡ count
length-put_of count first second few = omega (arith, length-take count (record_of first ∷ record_of second ∷ []))

-- where the records that are put are cut, a front of them is left
pub put_cut : (xs : List (List ℕ)) (at to count : ℕ) (first second : HeldPair) → at ≤ length xs → at ≤ to → to - at ≤ count → count ≤ 2
    → with_put (take at xs) at (put_of (to - at) first second) ≡ take to (with_put xs at (put_of count first second))
put_cut xs at to count first second inside low high few =
    let both : List (List ℕ) = record_of first ∷ record_of second ∷ [] in
    let put : List (List ℕ) = put_of count first second in
    let front : List (List ℕ) = take at xs in
    let long : length front ≡ at = omega (arith, length-take at xs) in
    let some : length put ≡ count = length-put_of count first second few in
    let whole : take to (front ++ (put ++ drop at xs)) ≡ front ++ put_of (to - at) first second =
    ap (λ n. take n (front ++ (put ++ drop at xs))) {x = to} {y = length front + (to - at)} (omega (arith, long))
    ∙ take-append-add front (put ++ drop at xs) (to - at)
    ∙ ap (λ l. front ++ l) (take-append-le (to - at) put (drop at xs) (omega (arith, some)) ∙ take-take (to - at) count both high) in
    ap (λ l. l ++ (put_of (to - at) first second ++ drop at front)) (take_all at front (omega (arith, long)))
    ∙ ap (λ l. front ++ (put_of (to - at) first second ++ l)) (drop_all at front (omega (arith, long)))
    ∙ ap (λ l. front ++ l) (append-nil (put_of (to - at) first second))
    ∙ sym whole

-- where those behind them are cut, all of them are left
pub behind_cut : (xs : List (List ℕ)) (at to count : ℕ) (first second : HeldPair) → at ≤ length xs → at + count ≤ to → count ≤ 2
    → with_put (take (to - count) xs) at (put_of count first second) ≡ take to (with_put xs at (put_of count first second))
behind_cut xs at to count first second inside low few =
    let put : List (List ℕ) = put_of count first second in
    let front : List (List ℕ) = take at xs in
    let more : ℕ = to - count - at in
    let long : length front ≡ at = omega (arith, length-take at xs) in
    let some : length put ≡ count = length-put_of count first second few in
    let rest : drop at (take (to - count) xs) ≡ take more (drop at xs) = ap (λ n. drop at (take n xs)) {x = to - count} {y = at + more} (omega arith) ∙ drop-take at more xs in
    let whole : take to (front ++ (put ++ drop at xs)) ≡ front ++ (put ++ take more (drop at xs)) =
    ap (λ n. take n (front ++ (put ++ drop at xs))) {x = to} {y = length front + (length put + more)} (omega (arith, long, some))
    ∙ take-append-add front (put ++ drop at xs) (length put + more)
    ∙ ap (λ l. front ++ l) (take-append-add put (drop at xs) more) in
    ap (λ l. l ++ (put ++ drop at (take (to - count) xs))) (take-take at (to - count) xs (omega arith))
    ∙ ap (λ l. front ++ (put ++ l)) rest
    ∙ sym whole

-- a node that holds records with others among them has room for the others
pub room_for : (size : ℕ) (xs : List (List ℕ)) (at : ℕ) (rs whole : List (List ℕ)) → with_put xs at rs ≡ whole → 16 + taken whole ≤ size → taken rs ≤ room_beside size xs
room_for size xs at rs whole is fits =
    let sum = ap taken is in
    omega (arith, taken-put xs at rs, sum)

-- Records for two nodes are cut near the middle: both sides fit, and neither is empty.
module _ (size at : ℕ) (records : List (List ℕ)) (large : 512 ≤ size) (over : node_room size < taken records) (two : FitsTwo size records) (middle : IsMiddle records at)
  where
    pub front_fits : taken (take at records) + 16 ≤ size
    front_fits = omega (arith, middle.front two.longest two.each, two.whole)

    pub back_fits : taken records - taken (take at records) + 16 ≤ size
    back_fits = omega (arith, middle.back two.longest two.each, two.whole)

    pub front_some : size ≤ 4 * taken (take at records) + 15
    front_some = omega (arith, middle.back two.longest two.each, two.half)

    pub back_some : size ≤ 4 * taken (drop at records) + 15
    back_some = omega (arith, middle.front two.longest two.each, two.half, taken-cut records at)

-- records of five bytes or more are more than their offsets
dense : (xs : List (List ℕ)) → ((k : ℕ) → k < length xs → 5 ≤ length (get_or xs k [])) → 5 * taken xs ≤ 7 * sum_by (λ bytes. length bytes) xs
dense [] longer = omega arith
dense (x ∷ xs) longer =
    let rest = dense xs (λ k inside. longer (suc k) (omega arith)) in
    let here = longer 0 (omega arith) in
    omega (arith, rest, here, sum_by-cons (λ bytes. length bytes + 2) x xs, sum_by-cons (λ bytes. length bytes) x xs)

pub front_sixth : (size at : ℕ) (records : List (List ℕ)) → 512 ≤ size → AreForTwo size records → IsMiddle records at → size ≤ 6 * sum_by (λ bytes. length bytes) (take at records)
front_sixth size at records large two middle =
    let some = front_some size at records large two.over two.fits middle in
    let many = dense (take at records) (λ k inside.
    let low : k < at = omega (arith, inside, length-take at records) in
    omega (arith, ap length (get_or-take at records k [] low), two.some k (omega (arith, inside, length-take at records)))) in
    omega (arith, some, many)

pub back_sixth : (size at : ℕ) (records : List (List ℕ)) → 512 ≤ size → AreForTwo size records → IsMiddle records at → size ≤ 6 * sum_by (λ bytes. length bytes) (drop at records)
back_sixth size at records large two middle =
    let some = back_some size at records large two.over two.fits middle in
    let many = dense (drop at records) (λ k inside. omega (arith, ap length (get_or-drop at records k []), two.some (at + k) (omega (arith, inside, length-drop at records)))) in
    omega (arith, some, many)
