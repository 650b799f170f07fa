-- The bytes of a file after its blocks were made anew.
use Rattle.std.proofs.Common.{◌≡◌, ℕ, suc, ◌+◌, ◌-◌, ◌*◌, ◌/◌, ◌%◌, ◌≤◌, ◌<◌, false, ◌&&◌, nat_le, nat_lt, List, ◌++◌, length, get_or, take, drop, max, refl, sym, ◌∙◌, ap, arith, ⊎_elim, append_assoc, length-append, length-take}
use Rattle.std.specs.List.{range_with_len}
use Rattle.std.proofs.lemmas.Grind.{flat_map-append}
use Rattle.std.proofs.lemmas.List.{get_or_append_left, get_or-append_right, take-append-drop}
use Rattle.std.proofs.lemmas.Bool.{cases_lt, le-leb, lt-leb}
use Rattle.std.proofs.lemmas.Option.{slice_get-get_or}
use Rattle.sector_disk.specs.Lists.{Content, sector}
use Rattle.sector_disk.specs.Space.{Space}
use Rattle.fork_map.specs.Blocks.{sectors_of}
use Rattle.file_io.specs.Bytes.{sector_bytes, byte_in, new_byte}
use Rattle.file_io.specs.Touching.{IsOneOf, SpillsIn}
use Rattle.file_io.proofs.ByteLaws.{length-sectors_of}
use Rattle.file_io.proofs.SpillLaws.{same_sector_bytes}

sectors-append : (p : ℕ) (xs ys : List ℕ) → sectors_of p (xs ++ ys) ≡ sectors_of p xs ++ sectors_of p ys
sectors-append p xs ys = flat_map-append (λ (b : ℕ). range_with_len (b * p) p) xs ys

-- the sectors of the new list, before the new blocks, in them and behind them
pub new_before : (p a : ℕ) (bs fs gs : List ℕ) (n : ℕ) → a ≤ length bs → n < a * p → get_or (sectors_of p (take a bs ++ (fs ++ gs))) n 0 ≡ get_or (sectors_of p bs) n 0
new_before p a bs fs gs n fits lt =
    let first : List ℕ = sectors_of p (take a bs) in
    let long : length first ≡ a * p = length-sectors_of p (take a bs) ∙ ap (λ m. m * p) (let e : length (take a bs) ≡ a = omega (arith, length-take a bs, fits) in e) in
    ap (λ (l : List ℕ). get_or l n 0) (sectors-append p (take a bs) (fs ++ gs)) ∙ get_or_append_left first (sectors_of p (fs ++ gs)) 0 n (omega (arith, long, lt))
    ∙ sym (ap (λ (l : List ℕ). get_or (sectors_of p l) n 0) (sym (take-append-drop a bs)) ∙ ap (λ (l : List ℕ). get_or l n 0) (sectors-append p (take a bs) (drop a bs))
    ∙ get_or_append_left first (sectors_of p (drop a bs)) 0 n (omega (arith, long, lt)))

pub new_inside : (p a : ℕ) (bs fs gs : List ℕ) (m : ℕ) → a ≤ length bs → m < length fs * p → get_or (sectors_of p (take a bs ++ (fs ++ gs))) (a * p + m) 0 ≡ get_or (sectors_of p fs) m 0
new_inside p a bs fs gs m fits lt =
    let first : List ℕ = sectors_of p (take a bs) in
    let long : length first ≡ a * p = length-sectors_of p (take a bs) ∙ ap (λ k. k * p) (let e : length (take a bs) ≡ a = omega (arith, length-take a bs, fits) in e) in
    let at : a * p + m - a * p ≡ m = omega arith in
    ap (λ (l : List ℕ). get_or l (a * p + m) 0) (sectors-append p (take a bs) (fs ++ gs)) ∙ get_or-append_right first (sectors_of p (fs ++ gs)) (a * p) (a * p + m) 0 long (omega arith)
    ∙ ap (λ k. get_or (sectors_of p (fs ++ gs)) k 0) at ∙ ap (λ (l : List ℕ). get_or l m 0) (sectors-append p fs gs)
    ∙ get_or_append_left (sectors_of p fs) (sectors_of p gs) 0 m (omega (arith, lt, length-sectors_of p fs))

pub new_behind : (p a b : ℕ) (bs fs : List ℕ) (k : ℕ) → a ≤ length bs → b ≤ length bs → a + length fs ≡ b → get_or (sectors_of p (take a bs ++ (fs ++ drop b bs))) (b * p + k) 0 ≡ get_or (sectors_of p bs) (b * p + k) 0
new_behind p a b bs fs k fits inside is =
    let front : List ℕ = take a bs ++ fs in
    let count : length front ≡ b = omega (arith, length-append (take a bs) fs, length-take a bs, fits, is) in
    let long : length (sectors_of p front) ≡ b * p = length-sectors_of p front ∙ ap (λ m. m * p) count in
    let old_long : length (sectors_of p (take b bs)) ≡ b * p = length-sectors_of p (take b bs) ∙ ap (λ m. m * p) (let e : length (take b bs) ≡ b = omega (arith, length-take b bs, inside) in e) in
    ap (λ (l : List ℕ). get_or (sectors_of p l) (b * p + k) 0) (sym (append_assoc (take a bs) fs (drop b bs)))
    ∙ ap (λ (l : List ℕ). get_or l (b * p + k) 0) (sectors-append p front (drop b bs)) ∙ get_or-append_right (sectors_of p front) (sectors_of p (drop b bs)) (b * p) (b * p + k) 0 long (omega arith)
    ∙ sym (ap (λ (l : List ℕ). get_or (sectors_of p l) (b * p + k) 0) (sym (take-append-drop b bs)) ∙ ap (λ (l : List ℕ). get_or l (b * p + k) 0) (sectors-append p (take b bs) (drop b bs))
    ∙ get_or-append_right (sectors_of p (take b bs)) (sectors_of p (drop b bs)) (b * p) (b * p + k) 0 old_long (omega arith))

-- a byte of an old sector that stays in the list
kept_byte : (old new : Space) (sectors list fresh : List ℕ) (q : ℕ) → SpillsIn (IsOneOf fresh) old new → ((at : ℕ) → IsOneOf fresh at → IsOneOf sectors at → ⊥) → q < length sectors * 512 → get_or list (q / 512) 0 ≡ get_or sectors (q / 512) 0
    → byte_in new.content list q ≡ byte_in old.content sectors q
kept_byte old new sectors list fresh q s elsewhere lt same =
    let at : ℕ = get_or sectors (q / 512) 0 in
    let one : IsOneOf sectors at = (q / 512, slice_get-get_or sectors (q / 512) 0 (omega (arith, lt))) in
    let still : sector new.content at ≡ sector old.content at = ⊎_elim (λ e. e) (λ t. absurd (elsewhere at t one)) (s.content.each at) in
    ap (λ j. get_or (sector_bytes new.content j) (q % 512) 0) same ∙ ap (λ (l : List ℕ). get_or l (q % 512) 0) (same_sector_bytes old.content new.content at still)

-- where the value isn't, the byte is the old one
old_there : (content : Content) (sectors : List ℕ) (size from q : ℕ) (value : List ℕ) (v : ℕ) → (nat_le from q && nat_lt q (from + length value)) ≡ false → q < size → v ≡ byte_in content sectors q → v ≡ new_byte content sectors size from value q
old_there content sectors size from q value v out inside is = is ∙ sym (rw (out, le-leb (suc q) size inside) refl)

before_value : (from q end : ℕ) → q < from → (nat_le from q && nat_lt q end) ≡ false
before_value from q end lt = rw (lt-leb from q lt) refl

behind_value : (from q end : ℕ) → end ≤ q → (nat_le from q && nat_lt q end) ≡ false
behind_value from q end past = ⊎_elim
    (λ (lt : q < from). before_value from q end lt)
    (λ (le : from ≤ q). rw (le-leb from q le, lt-leb (suc q) end (omega (arith, past))) refl)
    (cases_lt q from)

-- all bytes of the file after the write
pub after_write : (old new : Space) (p a b e : ℕ) (bs fs : List ℕ) (size from end : ℕ) (value : List ℕ) → let had = sectors_of p bs in let fresh = sectors_of p fs in
    SpillsIn (IsOneOf fresh) old new → ((at : ℕ) → IsOneOf fresh at → IsOneOf had at → ⊥)
    → ((m k : ℕ) → m < length fs * p → k < 512 → get_or (sector_bytes new.content (get_or fresh m 0)) k 0 ≡ new_byte old.content had size from value ((a * p + m) * 512 + k))
    → a ≤ length bs → a + length fs ≡ b → a * p * 512 ≤ from → a * p * 512 ≤ size → end ≤ b * p * 512 → from + length value ≤ end → size ≤ length had * 512 → (b * p * 512 < size → (e ≡ b) × (b ≤ length bs))
    → (q : ℕ) → q < max size end → byte_in new.content (sectors_of p (take a bs ++ (fs ++ drop e bs))) q ≡ new_byte old.content had size from value q
after_write old new p a b e bs fs size from end value s elsewhere made fits count low first high inside holds behind q lt =
    let had : List ℕ = sectors_of p bs in
    let fresh : List ℕ = sectors_of p fs in
    let list : List ℕ = sectors_of p (take a bs ++ (fs ++ drop e bs)) in
    let n : ℕ = q / 512 in
    ⊎_elim
    (λ (before : n < a * p).
    let below : q < from = omega (arith, before, low) in
    let in_file : q < size = omega (arith, before, first) in
    old_there old.content had size from q value (byte_in new.content list q) (before_value from q (from + length value) below) in_file
    (kept_byte old new had list fresh q s elsewhere (omega (arith, in_file, holds)) (new_before p a bs fs (drop e bs) n fits before)))
    (λ (past : a * p ≤ n). ⊎_elim
    (λ (here : n < b * p).
    let m : ℕ = n - a * p in
    let product : b * p ≡ a * p + length fs * p = ap (λ k. k * p) (sym count) ∙ (let e2 : (a + length fs) * p ≡ a * p + length fs * p = omega arith in e2) in
    let less : m < length fs * p = omega (arith, here, past, product) in
    let place : n ≡ a * p + m = omega (arith, past) in
    let back : (a * p + m) * 512 + q % 512 ≡ q = omega (arith, place) in
    ap (λ j. get_or (sector_bytes new.content (get_or list j 0)) (q % 512) 0) place
    ∙ ap (λ j. get_or (sector_bytes new.content j) (q % 512) 0) (new_inside p a bs fs (drop e bs) m fits less)
    ∙ made m (q % 512) less (omega arith) ∙ ap (λ j. new_byte old.content had size from value j) back)
    (λ (over : b * p ≤ n).
    let behind_end : end ≤ q = omega (arith, over, high) in
    let in_file : q < size = omega (arith, lt, behind_end) in
    let both = behind (omega (arith, over, in_file)) in
    let k : ℕ = n - b * p in
    let place : n ≡ b * p + k = omega (arith, over) in
    let same : get_or list n 0 ≡ get_or had n 0 =
    ap (λ j. get_or (sectors_of p (take a bs ++ (fs ++ drop j bs))) n 0) both.0
    ∙ ap (λ j. get_or (sectors_of p (take a bs ++ (fs ++ drop b bs))) j 0) place ∙ new_behind p a b bs fs k fits both.1 count ∙ sym (ap (λ j. get_or had j 0) place) in
    old_there old.content had size from q value (byte_in new.content list q) (behind_value from q (from + length value) (omega (arith, inside, behind_end))) in_file
    (kept_byte old new had list fresh q s elsewhere (omega (arith, in_file, holds)) same))
    (cases_lt n (b * p)))
    (cases_lt n (a * p))
