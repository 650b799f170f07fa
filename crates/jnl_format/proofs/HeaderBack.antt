-- A journal header and an info block that were read are written again as they stood.
use Rattle.std.proofs.Common.{◌≡◌, ℕ, ◌≤◌, Bool, true, false, not, List, ◌++◌, length, drop, refl, sym, ◌∙◌, ap, arith, append_assoc, cond, eqb, take-append-drop}
use Rattle.std.specs.Prelude.{Option, None, Some, Ok}
use Rattle.std.proofs.lemmas.Bool.{eqb-true}
use Rattle.std.proofs.lemmas.List.{length-append}
use Rattle.hx_bytes.specs.Field.{number_at, number_bytes, big, big_at, put_at, AreBytes}
use Rattle.hx_bytes.specs.declared.fields.Order.{Order}
use Rattle.hx_bytes.specs.declared.fields.Order.TheVariants.{Little, Big}
use Rattle.hx_bytes.proofs.Laws.{length-number_bytes, number_bytes-number_at_4}
use Rattle.hx_bytes.proofs.Spelling.{spelled_first}
use Rattle.jnl_format.specs.Checksum.{checksum_of}
use Rattle.jnl_format.specs.Info.{info_of, with_info, unless_fault}
use Rattle.jnl_format.specs.Header.{order_of, header_of, header_sum, header_fault_as, header_in_as, header_read_as, header_read, header_spelled, header_bytes, is_offset, is_blhdr_as}
use Rattle.jnl_format.specs.RoundTrip.{with_offsets, header_again}
use Rattle.jnl_format.specs.declared.dialect.Dialect.{Dialect}
use Rattle.jnl_format.specs.declared.dialect.Dialect.TheVariants.{Plain}
use Rattle.jnl_format.specs.declared.structures.Header.{Header}
use Rattle.jnl_format.specs.declared.structures.JnlRefusal.{JnlRefusal}
use Rattle.jnl_format.specs.declared.structures.JnlRefusal.TheVariants.{BadHeader}
use Rattle.jnl_format.proofs.Places.{put_number, put_own_4, put_own_8, respelled_4, respelled_8}
use Rattle.jnl_format.proofs.ReadBack.{front, length-front, sum_is}

-- an info block's fields, written where they were read
pub info_again : (sector : List ℕ) → 52 ≤ length sector → AreBytes sector → with_info (info_of sector) sector ≡ sector
info_again sector long are =
    ap (λ (l : List ℕ). put_at (put_at l 36 (big 8 (big_at 8 sector 36))) 44 (big 8 (big_at 8 sector 44))) (put_own_4 Big sector 0 (big_at 4 sector 0) (omega (arith, long)) are refl)
    ∙ ap (λ (l : List ℕ). put_at l 44 (big 8 (big_at 8 sector 44))) (put_own_8 Big sector 36 (big_at 8 sector 36) (omega (arith, long)) are refl)
    ∙ put_own_8 Big sector 44 (big_at 8 sector 44) (omega (arith, long)) are refl

none_parts : (b : Bool) (x : JnlRefusal) (rest : Option JnlRefusal) → cond (not b) (Some x) rest ≡ None → (b ≡ true) × (rest ≡ None)
none_parts true x rest h = (refl, h)
none_parts false x rest h = absurd (cc h)

-- what stands in the fields that no value carries
record IsRead (size : ℕ) (sector : List ℕ) (head : Header) : Type 0 where
  is : header_of head.order size sector ≡ head
  magic : number_at head.order 4 sector 0 ≡ 0x4A4E4C78
  endian : number_at head.order 4 sector 4 ≡ 0x12345678
  sum : number_at head.order 4 sector 36 ≡ header_sum sector
  header_size : number_at head.order 4 sector 40 ≡ 512

magic_by : (little big : Bool) (o : Order) → cond little (Some Little) (cond big (Some Big) None) ≡ Some o → (sector : List ℕ) → (little ≡ true → number_at Little 4 sector 0 ≡ 0x4A4E4C78) → (big ≡ true → number_at Big 4 sector 0 ≡ 0x4A4E4C78)
    → number_at o 4 sector 0 ≡ 0x4A4E4C78
magic_by true big Little h sector a b = a refl
magic_by true big Big h sector a b = absurd (cc h)
magic_by false true Little h sector a b = absurd (cc h)
magic_by false true Big h sector a b = b refl
magic_by false false o h sector a b = absurd (cc h)

read_by : (dialect : Dialect) (size : ℕ) (sector : List ℕ) (o : Order) (head : Header) → order_of sector ≡ Some o → (fault : Option JnlRefusal) → fault ≡ header_fault_as dialect o size sector → unless_fault fault (header_of o size sector) ≡ Ok head → IsRead size sector head
read_by dialect size sector o head ordered (Some x) fault h = absurd (cc h)
read_by dialect size sector o head ordered None fault h =
    let is : header_of o size sector ≡ head = cc h in
    let same : o ≡ head.order = ap (λ (x : Header). x.order) is in
    let p1 = none_parts (eqb (number_at o 4 sector 4) 0x12345678) (BadHeader 4) _ (sym fault) in
    let p2 = none_parts (is_offset size (number_at o 8 sector 8)) (BadHeader 8) _ p1.1 in
    let p3 = none_parts (is_offset size (number_at o 8 sector 16)) (BadHeader 16) _ p2.1 in
    let p4 = none_parts (eqb (number_at o 8 sector 24) size) (BadHeader 24) _ p3.1 in
    let p5 = none_parts (is_blhdr_as dialect (number_at o 4 sector 32)) (BadHeader 32) _ p4.1 in
    let p6 = none_parts (eqb (number_at o 4 sector 36) (header_sum sector)) (BadHeader 36) _ p5.1 in
    let p7 = none_parts (eqb (number_at o 4 sector 40) 512) (BadHeader 40) _ p6.1 in
    let magic : number_at o 4 sector 0 ≡ 0x4A4E4C78 =
    magic_by (eqb (number_at Little 4 sector 0) 0x4A4E4C78) (eqb (number_at Big 4 sector 0) 0x4A4E4C78) o ordered sector (eqb-true (number_at Little 4 sector 0) 0x4A4E4C78) (eqb-true (number_at Big 4 sector 0) 0x4A4E4C78) in
    record {
      is = ap (λ (x : Order). header_of x size sector) (sym same) ∙ is;
      magic = ap (λ (x : Order). number_at x 4 sector 0) (sym same) ∙ magic;
      endian = ap (λ (x : Order). number_at x 4 sector 4) (sym same) ∙ eqb-true (number_at o 4 sector 4) 0x12345678 p1.0;
      sum = ap (λ (x : Order). number_at x 4 sector 36) (sym same) ∙ eqb-true (number_at o 4 sector 36) (header_sum sector) p6.0;
      header_size = ap (λ (x : Order). number_at x 4 sector 40) (sym same) ∙ eqb-true (number_at o 4 sector 40) 512 p7.0;
    }

read_in : (dialect : Dialect) (size : ℕ) (sector : List ℕ) (head : Header) (ordered : Option Order) → ordered ≡ order_of sector → header_in_as dialect ordered size sector ≡ Ok head → IsRead size sector head
read_in dialect size sector head None ordered h = absurd (cc h)
read_in dialect size sector head (Some o) ordered h = read_by dialect size sector o head (sym ordered) (header_fault_as dialect o size sector) refl h

-- the bytes of a sector, as its fields and the rest
respelled : (o : Order) (bytes : List ℕ) → 44 ≤ length bytes → AreBytes bytes
    → bytes ≡ number_bytes o 4 (number_at o 4 bytes 0) ++ (number_bytes o 4 (number_at o 4 bytes 4) ++ (number_bytes o 8 (number_at o 8 bytes 8) ++ (number_bytes o 8 (number_at o 8 bytes 16)
    ++ (number_bytes o 8 (number_at o 8 bytes 24) ++ (number_bytes o 4 (number_at o 4 bytes 32) ++ (number_bytes o 4 (number_at o 4 bytes 36) ++ (number_bytes o 4 (number_at o 4 bytes 40) ++ drop 44 bytes)))))))
respelled o bytes long are =
    let s0 = spelled_first bytes _ 0 4 (number_bytes-number_at_4 o bytes 0 (omega (arith, long)) are) in
    let s4 = respelled_4 o are (omega (arith, long)) s0 in
    let s8 = respelled_8 o are (omega (arith, long)) s4 in
    let s16 = respelled_8 o are (omega (arith, long)) s8 in
    let s24 = respelled_8 o are (omega (arith, long)) s16 in
    let s32 = respelled_4 o are (omega (arith, long)) s24 in
    let s36 = respelled_4 o are (omega (arith, long)) s32 in
    let s40 = respelled_4 o are (omega (arith, long)) s36 in
    sym (take-append-drop 44 bytes) ∙ ap (λ (l : List ℕ). l ++ drop 44 bytes) (sym s40.is) ∙ simp append_assoc

-- with the offsets of a head that was read, a sector is spelled so
offset_so : (size : ℕ) (sector : List ℕ) (head : Header) → 44 ≤ length sector → AreBytes sector → IsRead size sector head → with_offsets head sector ≡ header_spelled (number_at head.order 4 sector 36) head ++ drop 44 sector
offset_so size sector head long are r =
    let o = head.order in
    let n8 = number_at o 8 sector 8 in
    let n16 = number_at o 8 sector 16 in
    let n36 = number_at o 4 sector 36 in
    let f0 = number_bytes o 4 (number_at o 4 sector 0) in
    let f4 = number_bytes o 4 (number_at o 4 sector 4) in
    let t : List ℕ = number_bytes o 8 (number_at o 8 sector 24) ++ (number_bytes o 4 (number_at o 4 sector 32) ++ (number_bytes o 4 n36 ++ (number_bytes o 4 (number_at o 4 sector 40) ++ drop 44 sector))) in
    let l0 : length (f0 ++ f4) ≡ 8 = simp (length-append, length-number_bytes) in
    let l1 : length (f0 ++ f4 ++ number_bytes o 8 head.start) ≡ 16 = simp (length-append, length-number_bytes) in
    let a : sector ≡ (f0 ++ f4) ++ (number_bytes o 8 n8 ++ (number_bytes o 8 n16 ++ t)) = respelled o sector long are ∙ simp append_assoc in
    let b : put_at sector 8 (number_bytes o 8 head.start) ≡ (f0 ++ f4) ++ (number_bytes o 8 head.start ++ (number_bytes o 8 n16 ++ t)) =
    ap (λ (l : List ℕ). put_at l 8 (number_bytes o 8 head.start)) a ∙ put_number o 8 n8 head.start 8 (f0 ++ f4) (number_bytes o 8 n16 ++ t) l0 in
    let c : (f0 ++ f4) ++ (number_bytes o 8 head.start ++ (number_bytes o 8 n16 ++ t)) ≡ (f0 ++ f4 ++ number_bytes o 8 head.start) ++ (number_bytes o 8 n16 ++ t) = simp append_assoc in
    let d : with_offsets head sector ≡ (f0 ++ f4 ++ number_bytes o 8 head.start) ++ (number_bytes o 8 head.end ++ t) =
    ap (λ (l : List ℕ). put_at l 16 (number_bytes o 8 head.end)) (b ∙ c) ∙ put_number o 8 n16 head.end 16 (f0 ++ f4 ++ number_bytes o 8 head.start) t l1 in
    let e : (f0 ++ f4 ++ number_bytes o 8 head.start) ++ (number_bytes o 8 head.end ++ t)
    ≡ number_bytes o 4 (number_at o 4 sector 0) ++ number_bytes o 4 (number_at o 4 sector 4) ++ number_bytes o 8 head.start ++ number_bytes o 8 head.end ++ number_bytes o 8 (number_at o 8 sector 24) ++ number_bytes o 4 (number_at o 4 sector 32) ++ number_bytes o 4 n36 ++ number_bytes o 4 (number_at o 4 sector 40) ++ drop 44 sector = simp append_assoc in
    d ∙ e
    ∙ ap (λ x. number_bytes o 4 x ++ number_bytes o 4 (number_at o 4 sector 4) ++ number_bytes o 8 head.start ++ number_bytes o 8 head.end ++ number_bytes o 8 (number_at o 8 sector 24) ++ number_bytes o 4 (number_at o 4 sector 32) ++ number_bytes o 4 n36 ++ number_bytes o 4 (number_at o 4 sector 40) ++ drop 44 sector) r.magic
    ∙ ap (λ x. number_bytes o 4 0x4A4E4C78 ++ number_bytes o 4 x ++ number_bytes o 8 head.start ++ number_bytes o 8 head.end ++ number_bytes o 8 (number_at o 8 sector 24) ++ number_bytes o 4 (number_at o 4 sector 32) ++ number_bytes o 4 n36 ++ number_bytes o 4 (number_at o 4 sector 40) ++ drop 44 sector) r.endian
    ∙ ap (λ x. number_bytes o 4 0x4A4E4C78 ++ number_bytes o 4 0x12345678 ++ number_bytes o 8 head.start ++ number_bytes o 8 head.end ++ number_bytes o 8 x ++ number_bytes o 4 (number_at o 4 sector 32) ++ number_bytes o 4 n36 ++ number_bytes o 4 (number_at o 4 sector 40) ++ drop 44 sector) (ap (λ (h : Header). h.size) r.is)
    ∙ ap (λ x. number_bytes o 4 0x4A4E4C78 ++ number_bytes o 4 0x12345678 ++ number_bytes o 8 head.start ++ number_bytes o 8 head.end ++ number_bytes o 8 head.size ++ number_bytes o 4 x ++ number_bytes o 4 n36 ++ number_bytes o 4 (number_at o 4 sector 40) ++ drop 44 sector) (ap (λ (h : Header). h.blhdr) r.is)
    ∙ ap (λ x. number_bytes o 4 0x4A4E4C78 ++ number_bytes o 4 0x12345678 ++ number_bytes o 8 head.start ++ number_bytes o 8 head.end ++ number_bytes o 8 head.size ++ number_bytes o 4 head.blhdr ++ number_bytes o 4 n36 ++ number_bytes o 4 x ++ drop 44 sector) r.header_size

-- another checksum put in place
summed : (sum new : ℕ) (head : Header) (rest : List ℕ) → put_at (header_spelled sum head ++ rest) 36 (number_bytes head.order 4 new) ≡ header_spelled new head ++ rest
summed sum new head rest =
    let o = head.order in
    let tail : List ℕ = number_bytes o 4 512 ++ rest in
    let is : header_spelled sum head ++ rest ≡ front head ++ (number_bytes o 4 sum ++ tail) = append_assoc (front head ++ number_bytes o 4 sum) (number_bytes o 4 512) rest ∙ append_assoc (front head) (number_bytes o 4 sum) tail in
    let back : header_spelled new head ++ rest ≡ front head ++ (number_bytes o 4 new ++ tail) = append_assoc (front head ++ number_bytes o 4 new) (number_bytes o 4 512) rest ∙ append_assoc (front head) (number_bytes o 4 new) tail in
    ap (λ (l : List ℕ). put_at l 36 (number_bytes o 4 new)) is ∙ put_number o 4 sum new 36 (front head) tail (length-front head) ∙ sym back

whole_by : (size : ℕ) (sector : List ℕ) (head : Header) → 44 ≤ length sector → AreBytes sector → IsRead size sector head → header_bytes head ++ drop 44 sector ≡ header_again head sector
whole_by size sector head long are r =
    let o = head.order in
    let n36 = number_at o 4 sector 36 in
    let rest = drop 44 sector in
    let is = offset_so size sector head long are r in
    let sum = checksum_of (header_spelled 0 head) in
    let own : header_sum (with_offsets head sector) ≡ sum = ap header_sum is ∙ sum_is head n36 rest in
    sym (summed n36 sum head rest)
    ∙ ap (λ (l : List ℕ). put_at l 36 (number_bytes o 4 sum)) (sym is)
    ∙ ap (λ s. put_at (with_offsets head sector) 36 (number_bytes o 4 s)) (sym own)

-- a header that was read is written with its offsets in the buffer
pub header_whole_as : (dialect : Dialect) (size : ℕ) (sector : List ℕ) (head : Header) → 44 ≤ length sector → AreBytes sector → header_read_as dialect size sector ≡ Ok head → header_bytes head ++ drop 44 sector ≡ header_again head sector
header_whole_as dialect size sector head long are read = whole_by size sector head long are (read_in dialect size sector head (order_of sector) refl read)

pub header_whole : (size : ℕ) (sector : List ℕ) (head : Header) → 44 ≤ length sector → AreBytes sector → header_read size sector ≡ Ok head → header_bytes head ++ drop 44 sector ≡ header_again head sector
header_whole = header_whole_as Plain

-- where they stand so, all bytes stay
pub header_same_as : (dialect : Dialect) (size : ℕ) (sector : List ℕ) (head : Header) → 44 ≤ length sector → AreBytes sector → header_read_as dialect size sector ≡ Ok head → head.start ≡ number_at head.order 8 sector 8 → head.end ≡ number_at head.order 8 sector 16
    → header_bytes head ++ drop 44 sector ≡ sector
header_same_as dialect size sector head long are read start end =
    let o = head.order in
    let r = read_in dialect size sector head (order_of sector) refl read in
    let is : with_offsets head sector ≡ sector =
    ap (λ (l : List ℕ). put_at l 16 (number_bytes o 8 head.end)) (put_own_8 o sector 8 head.start (omega (arith, long)) are (sym start)) ∙ put_own_8 o sector 16 head.end (omega (arith, long)) are (sym end) in
    whole_by size sector head long are r
    ∙ ap (λ (l : List ℕ). put_at l 36 (number_bytes o 4 (header_sum l))) is
    ∙ put_own_4 o sector 36 (header_sum sector) (omega (arith, long)) are r.sum

pub header_same : (size : ℕ) (sector : List ℕ) (head : Header) → 44 ≤ length sector → AreBytes sector → header_read size sector ≡ Ok head → head.start ≡ number_at head.order 8 sector 8 → head.end ≡ number_at head.order 8 sector 16
    → header_bytes head ++ drop 44 sector ≡ sector
header_same = header_same_as Plain
