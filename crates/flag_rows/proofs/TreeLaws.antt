-- Parts of flags, and the nodes of the tree.
use Rattle.std.proofs.Common.{◌≡◌, ℕ, suc, zero, ◌+◌, ◌-◌, ◌*◌, ◌/◌, ◌^◌, ◌≤◌, ◌<◌, ◌⊎◌, Bool, true, false, not, ◌&&◌, nat_le, if◌then◌else◌, List, [], ◌∷◌, ◌++◌, length, get_or, take, drop, replicate, min, refl, sym, ◌∙◌, ap, subst, arith, ⊎_elim, length-take, length-drop}
use Rattle.std.proofs.lemmas.List.{same_lists, get_or_past, get_or-take, get_or-drop, length-replicate, get_or-replicate, get_or-map, drop_all, get_or_default, length-map}
use Rattle.std.proofs.lemmas.Bool.{cases_lt, cases_eq, lt-leb}
use Rattle.hx_bytes.specs.declared.extents.Extent.{Extent}
use Rattle.flag_rows.specs.declared.sums.Sum.{Sum}
use Rattle.flag_rows.specs.Bits.{count_set, mark, has}
use Rattle.flag_rows.specs.Sums.{clear_of, front_of, back_from, better, top_from, sum_of, joined}
use Rattle.flag_rows.specs.Trees.{part, node, IsJoined, SameOutside, AreSummed, IsTree}
use Rattle.std.proofs.lemmas.List.{take_all}
use Rattle.std.proofs.lemmas.Nat.{pow_pos}
use Rattle.std.proofs.Math.Seq.{take-add}
use Rattle.std.proofs.Math.Nat.{pow-suc, one-mul, zero-mul}
use Rattle.flag_rows.proofs.RowLaws.{length-mark, get_or-mark}
use Rattle.flag_rows.proofs.SumLaws.{sum_join, better_first, same_extents, same_sums, count_free, count_used}

pub mul_assoc_ : (i w : ℕ) → i * w * 2 ≡ i * (w * 2)
mul_assoc_ i w = grind arith

pub left_ : (i w : ℕ) → (2 * i) * w ≡ i * w * 2
left_ i w = grind arith

pub right_ : (i w : ℕ) → (2 * i + 1) * w ≡ i * w * 2 + w
right_ i w = grind arith

grows_ : (i w : ℕ) → 1 ≤ w → i ≤ i * w
grows_ i w some = grind arith

-- ---- parts
drop_drop : (n m : ℕ) (l : List Bool) → drop m (drop n l) ≡ drop (n + m) l
drop_drop zero m l = ap (λ k. drop k l) (let s : m ≡ 0 + m = omega arith in s)
drop_drop (suc n) m [] = drop_all m [] (omega arith) ∙ sym (drop_all (suc n + m) [] (omega arith))
drop_drop (suc n) m (x ∷ l) = drop_drop n m l ∙ ap (λ k. drop k (x ∷ l)) (let s : suc (n + m) ≡ suc n + m = omega arith in s)

pub part_split : (free : List Bool) (at m n : ℕ) → part free at (m + n) ≡ part free at m ++ part free (at + m) n
part_split free at m n = take-add m n (drop at free) ∙ ap (λ (l : List Bool). take m (drop at free) ++ take n l) (drop_drop at m free)

pub length_part : (free : List Bool) (at n : ℕ) → length (part free at n) ≤ n
length_part free at n = omega (arith, length-take n (drop at free))

pub length_parts : (free : List Bool) (at m n : ℕ) → length (part free at m) + length (part free (at + m) n) ≤ length free
length_parts free at m n = omega (arith, length-take m (drop at free), length-take n (drop (at + m) free), length-drop at free, length-drop (at + m) free)

pub part_alike : (free : List Bool) (at n : ℕ) (d v : Bool) → at + n ≤ length free → ((k : ℕ) → at ≤ k → k < at + n → get_or free k d ≡ v) → part free at n ≡ replicate n v
part_alike free at n d v fits all = same_lists (part free at n) (replicate n v) (omega (arith, fits, length-take n (drop at free), length-drop at free, length-replicate n v))
    (λ k e lt.
    let inside : k < n = omega (arith, lt, length-take n (drop at free)) in
    get_or-take n (drop at free) k e inside ∙ get_or-drop at free k e ∙ get_or_default free (at + k) e d (omega (arith, inside, fits)) ∙ all (at + k) (omega arith) (omega (arith, inside)) ∙ sym (get_or-replicate n k v e inside))

-- ---- runs of one kind
front_free : (n : ℕ) → front_of (replicate n true) ≡ n
front_free zero = refl
front_free (suc n) = omega (arith, front_free n)

back_free : (m n : ℕ) → back_from m (replicate n true) ≡ m + n
back_free m zero = omega arith
back_free m (suc n) = omega (arith, back_free (m + 1) n)

top_free : (at m n : ℕ) → m ≤ at → top_from at m (replicate n true) ≡ record { start = at - m; count = m + n }
top_free at m zero le = same_extents (at - m) (at - m) m (m + 0) refl (omega arith)
top_free at m (suc n) le = top_free (at + 1) (m + 1) n (omega (arith, le)) ∙ same_extents (at + 1 - (m + 1)) (at - m) (m + 1 + n) (m + suc n) (omega (arith, le)) (omega arith)

top_used : (at n : ℕ) → top_from at 0 (replicate n false) ≡ record { start = at; count = 0 }
top_used at zero = same_extents (at - 0) at 0 0 (omega arith) refl
top_used at (suc n) =
    let none : Extent = record { start = at - 0; count = 0 } in
    ap (λ e. better none e) (top_used (at + 1) n) ∙ better_first none (record { start = at + 1; count = 0 }) (omega arith) ∙ same_extents (at - 0) at 0 0 (omega arith) refl

back_used : (n : ℕ) → back_from 0 (replicate n false) ≡ 0
back_used zero = refl
back_used (suc n) = back_used n

front_used : (n : ℕ) → front_of (replicate n false) ≡ 0
front_used zero = refl
front_used (suc n) = refl

count_all_free : (n : ℕ) → count_set (replicate n true) ≡ n
count_all_free zero = refl
count_all_free (suc n) = omega (arith, count_free (replicate n true), count_all_free n)

count_all_used : (n : ℕ) → count_set (replicate n false) ≡ 0
count_all_used zero = refl
count_all_used (suc n) = count_used (replicate n false) ∙ count_all_used n

pub sum_free : (n : ℕ) → ◌≡◌ {A = Sum} (record { size = n; free = n; front = n; back = n; top = record { start = 0; count = n } }) (sum_of (replicate n true))
sum_free n = same_sums (record { size = n; free = n; front = n; back = n; top = record { start = 0; count = n } }) (sum_of (replicate n true))
    (sym (length-replicate n true)) (sym (count_all_free n)) (sym (front_free n)) (omega (arith, back_free 0 n)) (sym (top_free 0 0 n (omega arith) ∙ same_extents (0 - 0) 0 (0 + n) n (omega arith) (omega arith)))

pub sum_used : (n : ℕ) → ◌≡◌ {A = Sum} (record { size = n; free = 0; front = 0; back = 0; top = record { start = 0; count = 0 } }) (sum_of (replicate n false))
sum_used n = same_sums (record { size = n; free = 0; front = 0; back = 0; top = record { start = 0; count = 0 } }) (sum_of (replicate n false))
    (sym (length-replicate n false)) (sym (count_all_used n)) (sym (front_used n)) (sym (back_used n)) (sym (top_used 0 n))

-- ---- the scan of a part
pub part_on : (free : List Bool) (start at next : ℕ) → start ≤ at → at ≤ next → part free start (at - start) ++ part free at (next - at) ≡ part free start (next - start)
part_on free start at next low high =
    ap (λ k. part free start (at - start) ++ part free k (next - at)) (let s : at ≡ start + (at - start) = omega (arith, low) in s)
    ∙ sym (part_split free start (at - start) (next - at)) ∙ ap (λ n. part free start n) (let s : at - start + (next - at) ≡ next - start = omega (arith, low, high) in s)

pub parts_on : (free : List Bool) (start at next : ℕ) → start ≤ at → at ≤ next → length free < 2 ^ 32 → length (part free start (at - start)) + length (part free at (next - at)) < 2 ^ 32
parts_on free start at next low high small =
    let s : start + (at - start) ≡ at = omega (arith, low) in
    let e : length (part free at (next - at)) ≡ length (part free (start + (at - start)) (next - at)) = ap (λ k. length (part free k (next - at))) (sym s) in
    omega (arith, small, e, length_parts free start (at - start) (next - at))

pub scan_step : (free : List Bool) (start at taken next : ℕ) → start ≤ at → at ≤ taken → taken ≤ next → next ≤ length free → length free < 2 ^ 32
    → ((k : ℕ) → at ≤ k → k < taken → get_or free k false ≡ true) → ((k : ℕ) → taken ≤ k → k < next → get_or free k true ≡ false)
    → joined (sum_of (part free start (at - start))) (joined (sum_of (replicate (taken - at) true)) (sum_of (replicate (next - taken) false))) ≡ sum_of (part free start (next - start))
scan_step free start at taken next a b c d small are arent =
    let one : part free at (taken - at) ≡ replicate (taken - at) true = part_alike free at (taken - at) false true (omega (arith, a, b, c, d)) (λ k low high. are k low (omega (arith, high, b))) in
    let two : part free taken (next - taken) ≡ replicate (next - taken) false = part_alike free taken (next - taken) true false (omega (arith, c, d)) (λ k low high. arent k low (omega (arith, high, c))) in
    ap (λ (l : List Bool). joined (sum_of (part free start (at - start))) (joined (sum_of l) (sum_of (replicate (next - taken) false)))) (sym one)
    ∙ ap (λ (l : List Bool). joined (sum_of (part free start (at - start))) (joined (sum_of (part free at (taken - at))) (sum_of l))) (sym two)
    ∙ ap (λ t. joined (sum_of (part free start (at - start))) t) (sym (sum_join (part free at (taken - at)) (part free taken (next - taken)) (parts_on free at taken next b c small)) ∙ ap (λ (l : List Bool). sum_of l) (part_on free at taken next b c))
    ∙ sym (sum_join (part free start (at - start)) (part free at (next - at)) (parts_on free start at next a (omega (arith, b, c)) small))
    ∙ ap (λ (l : List Bool). sum_of l) (part_on free start at next a (omega (arith, b, c)))

pub chunk_is : (free : List Bool) (n p start end : ℕ) → length free ≡ n → start ≡ min (p * 1024) n → end ≡ min (start + 1024) n → part free start (end - start) ≡ part free (p * 1024) 1024
chunk_is free n p start end size low high = ⊎_elim
    (λ lt.
    let here : start ≡ p * 1024 = omega (arith, low, lt) in
    ap (λ k. part free k (end - start)) here ∙ ⊎_elim
    (λ whole. ap (λ m. part free (p * 1024) m) (let s : end - start ≡ 1024 = omega (arith, low, high, whole, lt) in s))
    (λ short. take_all (end - start) (drop (p * 1024) free) (omega (arith, low, high, short, lt, size, length-drop (p * 1024) free)) ∙ sym (take_all 1024 (drop (p * 1024) free) (omega (arith, short, size, length-drop (p * 1024) free))))
    (cases_lt (p * 1024 + 1024) n))
    (λ past.
    let none : drop (p * 1024) free ≡ [] = drop_all (p * 1024) free (omega (arith, size, past)) in
    let gone : drop start free ≡ [] = drop_all start free (omega (arith, size, past, low)) in
    ap (λ (l : List Bool). take (end - start) l) gone ∙ take_all (end - start) [] (omega arith) ∙ sym (ap (λ (l : List Bool). take 1024 l) none ∙ take_all 1024 [] (omega arith)))
    (cases_lt (p * 1024) n)

pub get_or-clear_of : (flags : List Bool) (k : ℕ) (d e : Bool) → k < length flags → get_or (clear_of flags) k e ≡ not (get_or flags k d)
get_or-clear_of flags k d e lt = get_or-map (λ (flag : Bool). not flag) flags k d e lt

pub length-clear_of : (flags : List Bool) → length (clear_of flags) ≡ length flags
length-clear_of flags = length-map flags (λ (flag : Bool). not flag)

-- ---- what stands below a node
pub tree_part : (free : List Bool) (chunks : ℕ) (nodes : List Sum) (h i p : ℕ) → length free < 2 ^ 32 → AreSummed free chunks nodes → i * 2 ^ h ≡ chunks + p → p + 2 ^ h ≤ chunks → node nodes i ≡ sum_of (part free (p * 1024) (2 ^ h * 1024))
tree_part free chunks nodes zero i p small s here inside = ap (λ k. node nodes k) (let e : i ≡ chunks + p = omega (arith, here) in e) ∙ s.leaves p (omega (arith, inside))
tree_part free chunks nodes (suc h) i p small s here inside =
    let w : ℕ = 2 ^ h in
    let some : 1 ≤ w = pow_pos h in
    let twice : 2 ^ suc h ≡ 2 * w = pow-suc 2 h ∙ (let e : w * 2 ≡ 2 * w = omega arith in e) in
    let q : i * w * 2 ≡ chunks + p = mul_assoc_ i w ∙ ap (λ m. i * m) (sym (pow-suc 2 h)) ∙ here in
    let grows : i ≤ i * w = grows_ i w some in
    let left : (2 * i) * w ≡ chunks + p = left_ i w ∙ q in
    let right : (2 * i + 1) * w ≡ chunks + (p + w) = right_ i w ∙ (let e : i * w * 2 + w ≡ chunks + (p + w) = omega (arith, q) in e) in
    let i_some : 1 ≤ i = ⊎_elim (λ z. absurd (let e : i * w ≡ 0 = ap (λ k. k * w) (let z0 : i ≡ 0 = omega (arith, z) in z0) ∙ zero-mul w in omega (arith, e, q, inside, twice, some))) (λ o. o) (cases_lt i 1) in
    let a = tree_part free chunks nodes h (2 * i) p small s left (omega (arith, inside, twice)) in
    let b = tree_part free chunks nodes h (2 * i + 1) (p + w) small s right (omega (arith, inside, twice)) in
    let place : (p + w) * 1024 ≡ p * 1024 + w * 1024 = omega arith in
    let width : 2 ^ suc h * 1024 ≡ w * 1024 + w * 1024 = omega (arith, twice) in
    s.joins i i_some (omega (arith, q, grows, inside, twice, some))
    ∙ ap (λ t. joined t (node nodes (2 * i + 1))) a ∙ ap (λ t. joined (sum_of (part free (p * 1024) (w * 1024))) t) (b ∙ ap (λ k. sum_of (part free k (w * 1024))) place)
    ∙ sym (sum_join (part free (p * 1024) (w * 1024)) (part free (p * 1024 + w * 1024) (w * 1024)) (omega (arith, small, length_parts free (p * 1024) (w * 1024) (w * 1024))))
    ∙ ap (λ (l : List Bool). sum_of l) (sym (part_split free (p * 1024) (w * 1024) (w * 1024)) ∙ ap (λ n. part free (p * 1024) n) (sym width))

pub top_node : (free : List Bool) (chunks height : ℕ) (nodes : List Sum) → length free < 2 ^ 32 → IsTree free chunks height nodes → node nodes 1 ≡ sum_of free
top_node free chunks height nodes small t =
    tree_part free chunks nodes height 1 0 small t.summed (one-mul (2 ^ height) ∙ (let e : 2 ^ height ≡ chunks + 0 = omega (arith, t.power) in e)) (omega (arith, t.power))
    ∙ ap (λ (l : List Bool). sum_of l) (take_all (2 ^ height * 1024) (drop (0 * 1024) free) (omega (arith, t.enough, t.power, length-drop (0 * 1024) free)) ∙ ap (λ k. drop k free) (let e : 0 * 1024 ≡ 0 = omega arith in e))

-- ---- nodes that are joined one after another
pub joined_step : (old new : List Sum) (chunks at high a b : ℕ) → 1 ≤ at → a ≤ at / 2 → at / 2 ≤ b → SameOutside old new at (at + 1) → node new at ≡ joined (node old (2 * at)) (node old (2 * at + 1))
    → ((i : ℕ) → 1 ≤ i → i < chunks → (at ≤ i → high < i) → (a ≤ i → b < i) → IsJoined old i)
    → (i : ℕ) → 1 ≤ i → i < chunks → (at + 1 ≤ i → high < i) → (a ≤ i → b < i) → IsJoined new i
joined_step old new chunks at high a b some low up same here others i one inside out away = ⊎_elim
    (λ is.
    let left : node new (2 * at) ≡ node old (2 * at) = same (2 * at) (λ le. omega (arith, some)) in
    let right : node new (2 * at + 1) ≡ node old (2 * at + 1) = same (2 * at + 1) (λ le. omega (arith, some)) in
    let it : IsJoined new at = here ∙ ap (λ t. joined t (node old (2 * at + 1))) (sym left) ∙ ap (λ t. joined (node new (2 * at)) t) (sym right) in
    subst (λ k. IsJoined new k) (sym is) it)
    (λ other.
    let left : node new (2 * i) ≡ node old (2 * i) = same (2 * i) (λ le. ⊎_elim (λ hit. absurd (omega (arith, hit, low, up, away (omega (arith, hit, low))))) (λ miss. omega (arith, le, miss)) (cases_eq (2 * i) at)) in
    let right : node new (2 * i + 1) ≡ node old (2 * i + 1) = same (2 * i + 1) (λ le. ⊎_elim (λ hit. absurd (omega (arith, hit, low, up, away (omega (arith, hit, low))))) (λ miss. omega (arith, le, miss)) (cases_eq (2 * i + 1) at)) in
    same i (λ le. omega (arith, le, other)) ∙ others i one inside (λ le. out (omega (arith, le, other))) away ∙ ap (λ t. joined t (node old (2 * i + 1))) (sym left) ∙ ap (λ t. joined (node new (2 * i)) t) (sym right))
    (cases_eq i at)

pub outside_more : (old mid new : List Sum) (low at : ℕ) → low ≤ at → SameOutside old mid low at → SameOutside mid new at (at + 1) → SameOutside old new low (at + 1)
outside_more old mid new low at le a b = λ i out. b i (λ from. out (omega (arith, from, le))) ∙ a i (λ from. let past : at + 1 ≤ i = out from in omega (arith, past))

-- ---- the first sums
none_joined : node [] 0 ≡ joined (node [] 0) (node [] 0)
none_joined = refl

none_at : (n i : ℕ) → node (replicate n (sum_of [])) i ≡ sum_of []
none_at n i = ⊎_elim (λ lt. get_or-replicate {A = Sum} n i (sum_of []) (sum_of []) lt) (λ past. get_or_past {X = Sum} (replicate n (sum_of [])) i (sum_of []) (omega (arith, past, length-replicate {A = Sum} n (sum_of [])))) (cases_lt i n)

-- ---- a part that a mark doesn't meet
moved_in : (b v w : Bool) → not (if b then v else w) ≡ (if b then not v else not w)
moved_in true v w = refl
moved_in false v w = refl

neither : (b v w : Bool) → (if b && false then v else w) ≡ w
neither true v w = refl
neither false v w = refl

pub clear_marked : (flags : List Bool) (e : Extent) (v : Bool) → e.start + e.count ≤ length flags → clear_of (mark flags e v) ≡ mark (clear_of flags) e (not v)
clear_marked flags e v fits = same_lists (clear_of (mark flags e v)) (mark (clear_of flags) e (not v))
    (length-clear_of (mark flags e v) ∙ length-mark flags e v fits ∙ sym (length-mark (clear_of flags) e (not v) (omega (arith, fits, length-clear_of flags)) ∙ length-clear_of flags))
    (λ k d lt.
    let inside : k < length flags = omega (arith, lt, length-clear_of (mark flags e v), length-mark flags e v fits) in
    get_or-clear_of (mark flags e v) k (not d) d (omega (arith, inside, length-mark flags e v fits)) ∙ ap (λ (b : Bool). not b) (get_or-mark flags e v k (not d) fits)
    ∙ moved_in (has e k) v (get_or flags k (not d)) ∙ ap (λ (b : Bool). if has e k then not v else b) (sym (get_or-clear_of flags k (not d) d inside))
    ∙ sym (get_or-mark (clear_of flags) e (not v) k d (omega (arith, fits, length-clear_of flags))))

pub part_marked : (free : List Bool) (e : Extent) (v : Bool) (at n : ℕ) → e.start + e.count ≤ length free → (at + n ≤ e.start) ⊎ (e.start + e.count ≤ at) → part (mark free e v) at n ≡ part free at n
part_marked free e v at n fits away = same_lists (part (mark free e v) at n) (part free at n)
    (omega (arith, length-take n (drop at (mark free e v)), length-take n (drop at free), length-drop at (mark free e v), length-drop at free, length-mark free e v fits))
    (λ k d lt.
    let inside : k < n = omega (arith, lt, length-take n (drop at (mark free e v))) in
    get_or-take n (drop at (mark free e v)) k d inside ∙ get_or-drop at (mark free e v) k d ∙ get_or-mark free e v (at + k) d fits
    ∙ (⊎_elim
    (λ under. rw (lt-leb e.start (at + k) (omega (arith, under, inside))) refl)
    (λ over. ap (λ (b : Bool). if nat_le e.start (at + k) && b then v else get_or free (at + k) d) (lt-leb (suc (at + k)) (e.start + e.count) (omega (arith, over))) ∙ neither (nat_le e.start (at + k)) v (get_or free (at + k) d))
    away)
    ∙ sym (get_or-take n (drop at free) k d inside ∙ get_or-drop at free k d))
