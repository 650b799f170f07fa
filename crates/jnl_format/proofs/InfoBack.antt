-- An info block that was written is read again, and doesn't stand in the volume header's sector.
use Rattle.std.proofs.Common.{◌≡◌, ℕ, ◌+◌, ◌*◌, ◌/◌, ◌^◌, ◌<◌, ◌≤◌, Bool, true, false, not, ◌&&◌, List, ◌++◌, length, take, drop, refl, sym, ◌∙◌, ap, arith, append_assoc, cond, leb, eqb, take-append-drop}
use Rattle.std.specs.Prelude.{Option, None, Some, bit_and}
use Rattle.std.specs.Int.{is_power_of_two}
use Rattle.std.proofs.lemmas.Bool.{and_parts, leb-true, eqb-true}
use Rattle.std.proofs.lemmas.List.{length-take-le}
use Rattle.std.proofs.lemmas.Nat.{and_assoc, and_le_r}
use Rattle.std.proofs.Math.Nat.{lt-mul-div-succ, mul-le-mul_left}
use Rattle.hx_bytes.specs.Field.{number_at, number_bytes, big, big_at, put_at}
use Rattle.hx_bytes.specs.declared.fields.Order.{Order}
use Rattle.hx_bytes.specs.declared.fields.Order.TheVariants.{Big}
use Rattle.hx_bytes.proofs.Laws.{length-number_bytes, number_at-number_bytes, number_at-front, length-put_at}
use Rattle.volume_header.specs.Header.{header_of}
use Rattle.volume_header.specs.Refusal.{header_refusal, is_volume_size, is_hfsx, is_block_size, fits_blocks}
use Rattle.volume_header.specs.declared.refusal.HeaderRefusal.{HeaderRefusal}
use Rattle.volume_header.specs.declared.refusal.HeaderRefusal.TheVariants.{LimitSectors, NotHfsx, BadGeometry}
use Rattle.jnl_format.specs.Info.{info_of, with_info, IsInfo}
use Rattle.jnl_format.specs.declared.structures.Info.{Info}

put_same : (o : Order) (n x at : ℕ) (old : List ℕ) → at ≤ length old → x < 256 ^ n → number_at o n (put_at old at (number_bytes o n x)) at ≡ x
put_same o n x at old inside small =
    ap (λ (l : List ℕ). number_at o n l at) (append_assoc (take at old) (number_bytes o n x) (drop (at + length (number_bytes o n x)) old))
    ∙ number_at-number_bytes o n x at (take at old) (drop (at + length (number_bytes o n x)) old) (length-take-le at old inside) small

put_below : (o : Order) (n at place : ℕ) (old new : List ℕ) → at + n ≤ place → place ≤ length old → number_at o n (put_at old place new) at ≡ number_at o n old at
put_below o n at place old new before inside =
    ap (λ (l : List ℕ). number_at o n l at) (append_assoc (take place old) new (drop (place + length new) old))
    ∙ number_at-front o n at (take place old) (new ++ drop (place + length new) old) (omega (arith, length-take-le place old inside))
    ∙ sym (number_at-front o n at (take place old) (drop place old) (omega (arith, length-take-le place old inside)))
    ∙ ap (λ (l : List ℕ). number_at o n l at) (take-append-drop place old)

same_info : (info : Info) (flags offset size : ℕ) → flags ≡ info.flags → offset ≡ info.offset → size ≡ info.size → (let given : Info = record { flags = flags; offset = offset; size = size } in given ≡ info)
same_info info flags offset size a b c = ap (λ x. record info { flags = x; offset = offset; size = size }) a ∙ ap (λ x. record info { offset = x; size = size }) b ∙ ap (λ x. record info { size = x }) c

-- an info block that was written is read as itself
pub info_back : (info : Info) (old : List ℕ) → 52 ≤ length old → info.flags < 2 ^ 32 → info.offset < 2 ^ 64 → info.size < 2 ^ 64 → info_of (with_info info old) ≡ info
info_back info old long f o s =
    let a = put_at old 0 (big 4 info.flags) in
    let b = put_at a 36 (big 8 info.offset) in
    let la : length a ≡ length old = length-put_at old (big 4 info.flags) 0 (omega (arith, long, length-number_bytes Big 4 info.flags)) in
    let lb : length b ≡ length a = length-put_at a (big 8 info.offset) 36 (omega (arith, long, la, length-number_bytes Big 8 info.offset)) in
    same_info info (big_at 4 (with_info info old) 0) (big_at 8 (with_info info old) 36) (big_at 8 (with_info info old) 44)
    (put_below Big 4 0 44 b (big 8 info.size) (omega arith) (omega (arith, long, la, lb)) ∙ put_below Big 4 0 36 a (big 8 info.offset) (omega arith) (omega (arith, long, la)) ∙ put_same Big 4 info.flags 0 old (omega arith) f)
    (put_below Big 8 36 44 b (big 8 info.size) (omega arith) (omega (arith, long, la, lb)) ∙ put_same Big 8 info.offset 36 a (omega (arith, long, la)) o)
    (put_same Big 8 info.size 44 b (omega (arith, long, la, lb)) s)

-- without the flag of a journal that still has to be initialised
pub flag_off : (flags : ℕ) → bit_and (bit_and flags 4294967291) 4 ≡ 0
flag_off flags = and_assoc 4 flags 4294967291 ∙ omega (arith, and_le_r flags 0)

pub here_stays : (flags : ℕ) → bit_and (bit_and flags 4294967291) 1 ≡ bit_and flags 1
here_stays flags = and_assoc 1 flags 4294967291

pub elsewhere_stays : (flags : ℕ) → bit_and (bit_and flags 4294967291) 2 ≡ bit_and flags 2
elsewhere_stays flags = and_assoc 2 flags 4294967291

-- what the bytes of a volume header would be as an info block's size
size_over : (bytes : List ℕ) → big_at 4 bytes 44 * 4294967296 ≤ big_at 8 bytes 44
unfolding number_at
size_over bytes = omega arith

head_none : (b : Bool) (x : HeaderRefusal) (rest : Option HeaderRefusal) → cond (not b) (Some x) rest ≡ None → (b ≡ true) × (rest ≡ None)
head_none true x rest h = (refl, h)
head_none false x rest h = absurd (cc h)

too_small : (n size bs total : ℕ) → 2048 ≤ n → 512 ≤ bs → bs ≤ 65536 → total ≡ n * 512 / bs → total * 4294967296 ≤ size → size ≤ n * 512 → ⊥
too_small n size bs total many low high is over inside =
    let p = lt-mul-div-succ (n * 512) {b = bs} (omega arith) in
    let q = mul-le-mul_left (n * 512 / bs + 1) high in
    omega (arith, p, q)

-- an accepted volume header isn't an info block without a fault
pub no_info_block : (bytes : List ℕ) (n at : ℕ) → header_refusal (header_of bytes) n ≡ None → IsInfo (n * 512) at (info_of bytes) → ⊥
no_info_block bytes n at accepted i =
    let head = header_of bytes in
    let p1 = head_none (is_volume_size n) (LimitSectors n) _ accepted in
    let p2 = head_none (is_hfsx head) (NotHfsx head.signature head.version) _ p1.1 in
    let p3 = head_none (is_block_size head.block_size) (BadGeometry 40) _ p2.1 in
    let p4 = head_none (fits_blocks head n) (BadGeometry 44) _ p3.1 in
    let v = and_parts (leb 2048 n) (leb n 2147483648) p1.0 in
    let b = and_parts (is_power_of_two head.block_size && leb 512 head.block_size) (leb head.block_size 65536) p3.0 in
    let d = and_parts (is_power_of_two head.block_size) (leb 512 head.block_size) b.0 in
    let t = and_parts (eqb head.total_blocks (n * 512 / head.block_size)) (leb head.total_blocks 268435456) p4.0 in
    too_small n (info_of bytes).size head.block_size head.total_blocks (leb-true 2048 n v.0) (leb-true 512 head.block_size d.1) (leb-true head.block_size 65536 b.1)
    (eqb-true head.total_blocks (n * 512 / head.block_size) t.0) (size_over bytes) (omega (arith, i.inside))

pub flags_fit : (flags : ℕ) → bit_and flags 4294967291 < 2 ^ 32
flags_fit flags = omega (arith, and_le_r flags 4294967291)
