-- The bytes of a file after a write, as one list.
use Rattle.std.proofs.Common.{◌≡◌, ℕ, suc, ◌+◌, ◌-◌, ◌*◌, ◌≤◌, ◌<◌, true, false, ◌&&◌, nat_le, nat_lt, List, [], ◌++◌, length, get_or, take, drop, replicate, max, refl, sym, ◌∙◌, ap, arith, ⊎_elim, length-append, length-take, length-drop}
use Rattle.std.specs.Prelude.{Result, Ok, Err, IfOk}
use Rattle.std.proofs.lemmas.List.{same_lists, length-replicate, get_or-replicate, get_or_default, get_or_append_left, get_or-append_right, get_or-take, get_or-drop}
use Rattle.std.proofs.lemmas.Bool.{cases_lt, le-leb, lt-leb}
use Rattle.sector_disk.specs.Lists.{Content}
use Rattle.file_io.specs.Bytes.{padded, bytes_in, byte_in, old_byte, new_byte, written}
use Rattle.file_io.proofs.ByteLaws.{length-bytes_in, get_or-bytes_in}

-- a byte of the old file, and zeros behind it
padded_at : (content : Content) (sectors : List ℕ) (size n q d : ℕ) → size ≤ length sectors * 512 → q < n → get_or (padded n (take size (bytes_in content sectors))) q d ≡ old_byte content sectors size q
padded_at content sectors size n q d holds lt =
    let all : List ℕ = bytes_in content sectors in
    let old : List ℕ = take size all in
    let long : length old ≡ size = omega (arith, length-take size all, length-bytes_in content sectors, holds) in
    ⊎_elim
    (λ (inside : q < size).
    get_or_append_left old (replicate {A = ℕ} (n - length old) 0) d q (omega (arith, inside, long)) ∙ get_or-take size all q d inside
    ∙ get_or_default all q d 0 (omega (arith, inside, holds, length-bytes_in content sectors)) ∙ get_or-bytes_in content sectors q (omega (arith, inside, holds))
    ∙ sym (rw (le-leb (suc q) size inside) refl))
    (λ (past : size ≤ q).
    get_or-append_right old (replicate {A = ℕ} (n - length old) 0) size q d long past ∙ get_or-replicate {A = ℕ} (n - length old) (q - size) 0 d (omega (arith, past, lt, long))
    ∙ sym (rw (lt-leb (suc q) size (omega (arith, past))) refl))
    (cases_lt q size)

in_value : (from q end : ℕ) → from ≤ q → q < end → (nat_le from q && nat_lt q end) ≡ true
in_value from q end low high = rw (le-leb from q low, le-leb (suc q) end high) refl

before_it : (from q end : ℕ) → q < from → (nat_le from q && nat_lt q end) ≡ false
before_it from q end lt = rw (lt-leb from q lt) refl

behind_it : (from q end : ℕ) → from ≤ q → end ≤ q → (nat_le from q && nat_lt q end) ≡ false
behind_it from q end low past = rw (le-leb from q low, lt-leb (suc q) end (omega (arith, past))) refl

pub written_is : (old new : Content) (sectors list : List ℕ) (size from : ℕ) (value : List ℕ) → size ≤ length sectors * 512 → max size (from + length value) ≤ length list * 512
    → ((q : ℕ) → q < max size (from + length value) → byte_in new list q ≡ new_byte old sectors size from value q)
    → take (max size (from + length value)) (bytes_in new list) ≡ written (take size (bytes_in old sectors)) from value
written_is old new sectors list size from value holds enough each =
    let end : ℕ = from + length value in
    let n : ℕ = max size end in
    let bytes : List ℕ = take size (bytes_in old sectors) in
    let long : length bytes ≡ size = omega (arith, length-take size (bytes_in old sectors), length-bytes_in old sectors, holds) in
    let front : List ℕ = take from (padded from bytes) in
    let front_long : length front ≡ from = omega (arith, length-take from (padded from bytes), length-append bytes (replicate {A = ℕ} (from - length bytes) 0), length-replicate {A = ℕ} (from - length bytes) 0) in
    let both : length (front ++ value) ≡ end = omega (arith, length-append front value, front_long) in
    let rest_long : length (drop end bytes) ≡ size - end = omega (arith, length-drop end bytes, long) in
    let new_long : length (take n (bytes_in new list)) ≡ n = omega (arith, length-take n (bytes_in new list), length-bytes_in new list, enough) in
    same_lists (take n (bytes_in new list)) (written bytes from value) (omega (arith, new_long, length-append (front ++ value) (drop end bytes), both, rest_long))
    (λ q d lt.
    let below : q < n = omega (arith, lt, new_long) in
    let there : q < length list * 512 = omega (arith, below, enough) in
    get_or-take n (bytes_in new list) q d below ∙ get_or_default (bytes_in new list) q d 0 (omega (arith, there, length-bytes_in new list)) ∙ get_or-bytes_in new list q there ∙ each q below
    ∙ sym (⊎_elim
    (λ (first : q < from).
    get_or_append_left (front ++ value) (drop end bytes) d q (omega (arith, first, both)) ∙ get_or_append_left front value d q (omega (arith, first, front_long))
    ∙ get_or-take from (padded from bytes) q d first ∙ padded_at old sectors size from q d holds first ∙ sym (rw (before_it from q end first) refl))
    (λ (low : from ≤ q). ⊎_elim
    (λ (here : q < end).
    get_or_append_left (front ++ value) (drop end bytes) d q (omega (arith, here, both)) ∙ get_or-append_right front value from q d front_long low
    ∙ get_or_default value (q - from) d 0 (omega (arith, here, low)) ∙ sym (rw (in_value from q end low here) refl))
    (λ (past : end ≤ q).
    let inside : q < size = omega (arith, below, past) in
    get_or-append_right (front ++ value) (drop end bytes) end q d both past ∙ get_or-drop end bytes (q - end) d
    ∙ ap (λ m. get_or bytes m d) (let e : end + (q - end) ≡ q = omega (arith, past) in e)
    ∙ sym (get_or_append_left bytes (replicate {A = ℕ} (n - length bytes) 0) d q (omega (arith, inside, long))) ∙ padded_at old sectors size n q d holds below
    ∙ sym (rw (behind_it from q end low past) refl))
    (cases_lt q end))
    (cases_lt q from)))

pub grown_is : (old new : Content) (sectors list : List ℕ) (size to : ℕ) → size ≤ length sectors * 512 → size ≤ to → to ≤ length list * 512
    → ((q : ℕ) → q < to → byte_in new list q ≡ new_byte old sectors size size [] q)
    → take to (bytes_in new list) ≡ padded to (take size (bytes_in old sectors))
grown_is old new sectors list size to holds order enough each =
    let bytes : List ℕ = take size (bytes_in old sectors) in
    let long : length bytes ≡ size = omega (arith, length-take size (bytes_in old sectors), length-bytes_in old sectors, holds) in
    let new_long : length (take to (bytes_in new list)) ≡ to = omega (arith, length-take to (bytes_in new list), length-bytes_in new list, enough) in
    same_lists (take to (bytes_in new list)) (padded to bytes) (omega (arith, new_long, length-append bytes (replicate {A = ℕ} (to - length bytes) 0), length-replicate {A = ℕ} (to - length bytes) 0, long, order))
    (λ q d lt.
    let below : q < to = omega (arith, lt, new_long) in
    let there : q < length list * 512 = omega (arith, below, enough) in
    get_or-take to (bytes_in new list) q d below ∙ get_or_default (bytes_in new list) q d 0 (omega (arith, there, length-bytes_in new list)) ∙ get_or-bytes_in new list q there ∙ each q below
    ∙ (let none : (nat_le size q && nat_lt q (size + 0)) ≡ false = ⊎_elim (λ (first : q < size). before_it size q (size + 0) first) (λ (past : size ≤ q). behind_it size q (size + 0) past (omega (arith, past))) (cases_lt q size) in rw none refl)
    ∙ sym (padded_at old sectors size to q d holds below))

-- two facts of what a call gave
pub both_ok : {A E : Type 0} (r : Result A E) (P Q R : A → Type 0) → IfOk r P → IfOk r Q → ((x : A) → P x → Q x → R x) → IfOk r R
both_ok (Ok x) P Q R p q f = f x p q
both_ok (Err e) P Q R p q f = tt
