-- The bytes of sectors, by index.
use Rattle.std.proofs.Common.{◌≡◌, ℕ, suc, ◌+◌, ◌-◌, ◌*◌, ◌/◌, ◌%◌, ◌^◌, ◌≤◌, ◌<◌, List, [], ◌∷◌, ◌++◌, length, get_or, take, drop, replicate, min, refl, sym, ◌∙◌, ap, arith, ⊎_elim, length-append, length-take, length-drop}
use Rattle.std.proofs.lemmas.List.{same_lists, length-replicate, get_or_default, get_or_append_left, get_or-append_right, get_or-take, get_or-drop, take-append-le, take_all, drop_all}
use Rattle.std.specs.List.{range_with_len}
use Rattle.std.proofs.lemmas.List.FromFn.{length-range_with_len}
use Rattle.std.proofs.lemmas.Bool.{cases_lt}
use Rattle.std.proofs.Math.Nat.{zero-mul, mul_assoc}
use Rattle.fork_map.specs.Blocks.{sectors_of}
use Rattle.sector_disk.specs.Lists.{Content, sector}
use Rattle.file_io.specs.Bytes.{sector_bytes, padded, bytes_in, byte_in}

pub length-sector_bytes : (content : Content) (at : ℕ) → length (sector_bytes content at) ≡ 512
unfolding sector_bytes
length-sector_bytes content at = omega (arith, length-take 512 (padded 512 (sector content at)), length-append (sector content at) (replicate {A = ℕ} (512 - length (sector content at)) 0), length-replicate {A = ℕ} (512 - length (sector content at)) 0)

-- a sector that has 512 bytes
pub sector_bytes_is : (content : Content) (at : ℕ) (value : List ℕ) → sector content at ≡ value → length value ≡ 512 → sector_bytes content at ≡ value
unfolding sector_bytes
sector_bytes_is content at value is size =
    ap (λ (l : List ℕ). take 512 (padded 512 l)) is
    ∙ take-append-le 512 value (replicate {A = ℕ} (512 - length value) 0) (omega (arith, size)) ∙ take_all 512 value (omega (arith, size))

pub length-bytes_in : (content : Content) (sectors : List ℕ) → length (bytes_in content sectors) ≡ length sectors * 512
length-bytes_in content [] = refl
length-bytes_in content (s ∷ sectors) = omega (arith, length-append (sector_bytes content s) (bytes_in content sectors), length-sector_bytes content s, length-bytes_in content sectors)

pub get_or-bytes_in : (content : Content) (sectors : List ℕ) (q : ℕ) → q < length sectors * 512 → get_or (bytes_in content sectors) q 0 ≡ byte_in content sectors q
get_or-bytes_in content [] q lt = absurd (omega (arith, lt))
get_or-bytes_in content (s ∷ sectors) q lt = ⊎_elim
    (λ (here : q < 512).
    let first : q / 512 ≡ 0 = omega (arith, here) in
    let rest : q % 512 ≡ q = omega (arith, here) in
    get_or_append_left (sector_bytes content s) (bytes_in content sectors) 0 q (omega (arith, here, length-sector_bytes content s))
    ∙ sym (ap (λ m. get_or (sector_bytes content (get_or (s ∷ sectors) m 0)) (q % 512) 0) first ∙ ap (λ m. get_or (sector_bytes content s) m 0) rest))
    (λ (later : 512 ≤ q).
    let next : q / 512 ≡ suc ((q - 512) / 512) = omega (arith, later) in
    let rest : q % 512 ≡ (q - 512) % 512 = omega (arith, later) in
    get_or-append_right (sector_bytes content s) (bytes_in content sectors) 512 q 0 (length-sector_bytes content s) later
    ∙ get_or-bytes_in content sectors (q - 512) (omega (arith, lt, later))
    ∙ sym (ap (λ m. get_or (sector_bytes content (get_or (s ∷ sectors) m 0)) (q % 512) 0) next ∙ ap (λ m. get_or (sector_bytes content (get_or sectors ((q - 512) / 512) 0)) m 0) rest))
    (cases_lt q 512)

-- bytes read from one place up to another
pub part_is : (content : Content) (sectors out : List ℕ) (from end : ℕ) → from ≤ end → end ≤ length sectors * 512 → length out ≡ end - from → ((j : ℕ) → j < end - from → get_or out j 0 ≡ byte_in content sectors (from + j))
    → out ≡ take (end - from) (drop from (bytes_in content sectors))
part_is content sectors out from end order inside size each =
    let all : List ℕ = bytes_in content sectors in
    same_lists out (take (end - from) (drop from all)) (omega (arith, size, order, inside, length-take (end - from) (drop from all), length-drop from all, length-bytes_in content sectors))
    (λ j d lt.
    let below : j < end - from = omega (arith, lt, size) in
    let there : from + j < length sectors * 512 = omega (arith, below, inside) in
    get_or_default out j d 0 lt ∙ each j below ∙ sym (get_or-bytes_in content sectors (from + j) there)
    ∙ sym (get_or-take (end - from) (drop from all) j d below ∙ get_or-drop from all j d ∙ get_or_default all (from + j) d 0 (omega (arith, there, length-bytes_in content sectors))))

-- ---- one sector more
pub read_more : (content : Content) (sectors bytes value new : List ℕ) (from n low high p at : ℕ) → length bytes ≡ p - from → from ≤ p → n * 512 + low ≡ p → low ≤ high → high ≤ 512 → length value ≡ 512
    → new ≡ bytes ++ take (high - low) (drop low value) → sector_bytes content at ≡ value → get_or sectors n 0 ≡ at
    → ((j : ℕ) → j < length bytes → get_or bytes j 0 ≡ byte_in content sectors (from + j))
    → (j : ℕ) → j < length new → get_or new j 0 ≡ byte_in content sectors (from + j)
read_more content sectors bytes value new from n low high p at size order place rises inside long is same here each = λ j lt.
    let part : List ℕ = take (high - low) (drop low value) in
    let added : length part ≡ high - low = omega (arith, length-take (high - low) (drop low value), length-drop low value, long, rises, inside) in
    let total = ap (λ (l : List ℕ). length l) is in
    ⊎_elim
    (λ (old : j < length bytes). ap (λ (l : List ℕ). get_or l j 0) is ∙ get_or_append_left bytes part 0 j old ∙ each j old)
    (λ (more : length bytes ≤ j).
    let k : ℕ = j - length bytes in
    let below : k < high - low = omega (arith, more, lt, total, added, length-append bytes part) in
    let q : from + j ≡ n * 512 + (low + k) = omega (arith, more, size, order, place) in
    let sector_is : (from + j) / 512 ≡ n = omega (arith, q, below, inside) in
    let byte_is : (from + j) % 512 ≡ low + k = omega (arith, q, below, inside) in
    ap (λ (l : List ℕ). get_or l j 0) is ∙ get_or-append_right bytes part (length bytes) j 0 refl more
    ∙ get_or-take (high - low) (drop low value) k 0 below ∙ get_or-drop low value k 0
    ∙ ap (λ (l : List ℕ). get_or l (low + k) 0) (sym same)
    ∙ sym (ap (λ m. get_or (sector_bytes content (get_or sectors m 0)) ((from + j) % 512) 0) sector_is
    ∙ ap (λ s. get_or (sector_bytes content s) ((from + j) % 512) 0) here ∙ ap (λ m. get_or (sector_bytes content at) m 0) byte_is))
    (cases_lt j (length bytes))

-- ---- the bytes of a file
pub length-sectors_of : (p : ℕ) (bs : List ℕ) → length (sectors_of p bs) ≡ length bs * p
length-sectors_of p [] = sym (zero-mul p)
length-sectors_of p (b ∷ bs) = omega (arith, length-append (range_with_len (b * p) p) (sectors_of p bs), length-range_with_len (b * p) p, length-sectors_of p bs)

-- as many bytes as the blocks have
pub bytes_enough : (p block size : ℕ) (bs : List ℕ) → p ≡ block / 512 → block % 512 ≡ 0 → size ≤ length bs * block → size ≤ length (sectors_of p bs) * 512
bytes_enough p block size bs is whole enough =
    let split : block ≡ p * 512 = omega (arith, is, whole) in
    let product : length bs * block ≡ length bs * p * 512 = ap (λ m. length bs * m) split ∙ sym (mul_assoc (length bs) p 512) in
    omega (arith, enough, product, ap (λ m. m * 512) (length-sectors_of p bs))

pub read_is : (all : List ℕ) (size from end long : ℕ) → size ≤ length all → from < end → end ≡ min size (min (from + long) 18446744073709551615) → size < 2 ^ 64 → take (end - from) (drop from all) ≡ take long (drop from (take size all))
read_is all size from end long fits some is small =
    let front : ℕ = end - from in
    same_lists (take front (drop from all)) (take long (drop from (take size all)))
    (omega (arith, length-take front (drop from all), length-drop from all, length-take long (drop from (take size all)), length-drop from (take size all), length-take size all, fits, some, is, small))
    (λ j d lt.
    let below : j < front = omega (arith, lt, length-take front (drop from all)) in
    get_or-take front (drop from all) j d below ∙ get_or-drop from all j d
    ∙ sym (get_or-take long (drop from (take size all)) j d (omega (arith, below, is)) ∙ get_or-drop from (take size all) j d ∙ get_or-take size all (from + j) d (omega (arith, below, is))))

pub read_nothing : (all : List ℕ) (size from end long : ℕ) → end ≤ from → end ≡ min size (min (from + long) 18446744073709551615) → size < 2 ^ 64 → [] ≡ take long (drop from (take size all))
read_nothing all size from end long none is small = ⊎_elim
    (λ (zero_ : long < 1). ap (λ k. take k (drop from (take size all))) (let e : 0 ≡ long = omega (arith, zero_) in e))
    (λ (some : 1 ≤ long).
    let gone : drop from (take size all) ≡ [] = drop_all from (take size all) (omega (arith, length-take size all, none, is, small, some)) in
    sym (ap (λ (l : List ℕ). take long l) gone ∙ take_all long [] (omega arith)))
    (cases_lt long 1)
