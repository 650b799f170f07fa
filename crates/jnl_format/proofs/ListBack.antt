-- Heads of lists, and entries: written and read again, read and written again.
use Rattle.std.proofs.Common.{◌≡◌, ◌↔◌, ℕ, ◌+◌, ◌*◌, ◌^◌, ◌<◌, Bool, true, false, ◌&&◌, IsTrue, List, [], ◌++◌, length, refl, sym, ◌∙◌, ap, arith, append_assoc, cond, eqb, leb}
use Rattle.std.specs.Prelude.{None, Some}
use Rattle.std.proofs.lemmas.Bool.{and_from, and_parts, eq-eqb, ne_eqb, eqb-true, le-leb}
use Rattle.std.proofs.lemmas.List.{length-append, append-nil, take_all}
use Rattle.hx_bytes.specs.Field.{number_at, number_bytes, put_at, AreBytes}
use Rattle.hx_bytes.specs.declared.fields.Order.{Order}
use Rattle.hx_bytes.proofs.Laws.{length-number_bytes, number_bytes-number_at_2, number_bytes-number_at_8}
use Rattle.hx_bytes.proofs.Reading.{Behind}
use Rattle.hx_bytes.proofs.Spelling.{spelled_first}
use Rattle.jnl_format.specs.Checksum.{checksum_of}
use Rattle.jnl_format.specs.List.{list_head_of, list_sum, is_list_head, list_read, entry_at, entry_bytes, max_blocks, list_spelled, list_bytes}
use Rattle.jnl_format.specs.RoundTrip.{FitsEntry, FitsListHead, with_open_fields, list_again}
use Rattle.jnl_format.specs.declared.structures.ListHead.{ListHead}
use Rattle.jnl_format.specs.declared.structures.Entry.{Entry}
use Rattle.jnl_format.proofs.Places.{put_number, put_own_2, put_own_4, ordered_here, ordered_past, respelled_2, respelled_4, respelled_8}
use Rattle.jnl_format.proofs.ReadBack.{zeros_are, checksum_fits}

-- an entry that was written is read as itself
pub entry_back : (o : Order) (entry : Entry) → FitsEntry entry → entry_at o (entry_bytes o entry) 0 ≡ entry
entry_back o entry fits =
    let whole = entry_bytes o entry in
    let all : whole ≡ number_bytes o 8 entry.bnum ++ (number_bytes o 4 entry.bsize ++ (number_bytes o 4 entry.next ++ [])) = simp (append_assoc, append-nil) in
    let s0 : Behind whole (number_bytes o 8 entry.bnum ++ (number_bytes o 4 entry.bsize ++ (number_bytes o 4 entry.next ++ []))) 0 = record { is = all } in
    let s1 = ordered_past o 8 entry.bnum s0 in
    let bnum = ordered_here o _ 8 entry.bnum fits.bnum s0 in
    let bsize = ordered_here o _ 4 entry.bsize fits.bsize s1 in
    let next = ordered_here o _ 4 entry.next fits.next (ordered_past o 4 entry.bsize s1) in
    rw (bnum, bsize, next) refl

-- an entry that was read is written as it stood
pub entry_again : (o : Order) (bytes : List ℕ) → length bytes ≡ 16 → AreBytes bytes → entry_bytes o (entry_at o bytes 0) ≡ bytes
entry_again o bytes long are =
    let s0 = spelled_first bytes _ 0 8 (number_bytes-number_at_8 o bytes 0 (omega (arith, long)) are) in
    let s1 = respelled_4 o are (omega (arith, long)) s0 in
    let s2 = respelled_4 o are (omega (arith, long)) s1 in
    s2.is ∙ take_all 16 bytes (omega (arith, long))

-- what stands before the checksum, and behind it
abbrev front_of : Order → ListHead → ℕ → List ℕ
front_of o head blhdr = number_bytes o 2 (max_blocks blhdr) ++ (number_bytes o 2 head.entries ++ number_bytes o 4 head.used)

abbrev tail_of : Order → Entry → List ℕ
tail_of o first = number_bytes o 4 0 ++ (number_bytes o 8 first.bnum ++ (number_bytes o 4 first.bsize ++ number_bytes o 4 first.next))

length-front_of : (o : Order) (head : ListHead) (blhdr : ℕ) → length (front_of o head blhdr) ≡ 8
length-front_of o head blhdr = simp (length-append, length-number_bytes)

list_split : (sum : ℕ) (head : ListHead) (first : Entry) (o : Order) (blhdr : ℕ) → list_spelled sum head first o blhdr ≡ front_of o head blhdr ++ (number_bytes o 4 sum ++ tail_of o first)
list_split sum head first o blhdr = simp append_assoc

-- another checksum put in place
list_summed : (sum new : ℕ) (head : ListHead) (first : Entry) (o : Order) (blhdr : ℕ) → put_at (list_spelled sum head first o blhdr) 8 (number_bytes o 4 new) ≡ list_spelled new head first o blhdr
list_summed sum new head first o blhdr =
    ap (λ (l : List ℕ). put_at l 8 (number_bytes o 4 new)) (list_split sum head first o blhdr)
    ∙ put_number o 4 sum new 8 (front_of o head blhdr) (tail_of o first) (length-front_of o head blhdr)
    ∙ sym (list_split new head first o blhdr)

list_sum_is : (sum : ℕ) (head : ListHead) (first : Entry) (o : Order) (blhdr : ℕ) → list_sum (list_spelled sum head first o blhdr) ≡ checksum_of (list_spelled 0 head first o blhdr)
list_sum_is sum head first o blhdr =
    ap (λ (l : List ℕ). checksum_of (put_at (list_spelled sum head first o blhdr) 8 l)) (zeros_are o)
    ∙ ap checksum_of (list_summed sum 0 head first o blhdr)

last_is : (b : Bool) (n : ℕ) → (IsTrue b ↔ (n ≡ 0)) → eqb n 0 ≡ b
last_is true n is = eq-eqb n 0 (is.0 refl)
last_is false n is = ne_eqb n 0 (λ e. cc (is.1 e))

same_head : (head : ListHead) (entries used : ℕ) (last : Bool) → entries ≡ head.entries → used ≡ head.used → last ≡ head.last → (let given : ListHead = record { entries = entries; used = used; last = last } in given ≡ head)
same_head head entries used last a b c = ap (λ x. record head { entries = x; used = used; last = last }) a ∙ ap (λ x. record head { used = x; last = last }) b ∙ ap (λ x. record head { last = x }) c

-- the bytes of a list, each field in front of those that follow
nested : (sum : ℕ) (head : ListHead) (first : Entry) (o : Order) (blhdr : ℕ)
    → list_spelled sum head first o blhdr ≡ number_bytes o 2 (max_blocks blhdr) ++ (number_bytes o 2 head.entries ++ (number_bytes o 4 head.used ++ (number_bytes o 4 sum ++ (number_bytes o 4 0 ++ (number_bytes o 8 first.bnum ++ (number_bytes o 4 first.bsize ++ (number_bytes o 4 first.next ++ [])))))))
nested sum head first o blhdr = simp (append_assoc, append-nil)

-- what is read of the head of a list that was written
record ReadsAs (o : Order) (bytes : List ℕ) (sum : ℕ) (head : ListHead) (first : Entry) : Type 0 where
  entries : number_at o 2 bytes 2 ≡ head.entries
  used : number_at o 4 bytes 4 ≡ head.used
  sum_is : number_at o 4 bytes 8 ≡ sum
  next : number_at o 4 bytes 28 ≡ first.next

reads_as : (o : Order) (sum : ℕ) (head : ListHead) (first : Entry) (blhdr : ℕ) → head.entries < 2 ^ 16 → head.used < 2 ^ 32 → sum < 2 ^ 32 → FitsEntry first → ReadsAs o (list_spelled sum head first o blhdr) sum head first
reads_as o sum head first blhdr few small fit f =
    let whole = list_spelled sum head first o blhdr in
    let b0 : Behind whole _ 0 = record { is = nested sum head first o blhdr } in
    let b2 = ordered_past o 2 (max_blocks blhdr) b0 in
    let b4 = ordered_past o 2 head.entries b2 in
    let b8 = ordered_past o 4 head.used b4 in
    let b12 = ordered_past o 4 sum b8 in
    let b16 = ordered_past o 4 0 b12 in
    let b28 = ordered_past o 4 first.bsize (ordered_past o 8 first.bnum b16) in
    record {
      entries = ordered_here o _ 2 head.entries few b2;
      used = ordered_here o _ 4 head.used small b4;
      sum_is = ordered_here o _ 4 sum fit b8;
      next = ordered_here o _ 4 first.next f.next b28;
    }

-- the head of a list that was written is read as itself
pub list_back : (o : Order) (blhdr : ℕ) (head : ListHead) (first : Entry) → FitsListHead blhdr head first → FitsEntry first → list_read o blhdr (list_bytes head first o blhdr) ≡ Some head
list_back o blhdr head first h f =
    let sum = checksum_of (list_spelled 0 head first o blhdr) in
    let bytes = list_bytes head first o blhdr in
    let r = reads_as o sum head first blhdr h.entries h.used (checksum_fits (list_spelled 0 head first o blhdr)) f in
    let a : eqb (number_at o 4 bytes 8) (list_sum bytes) ≡ true = eq-eqb (number_at o 4 bytes 8) (list_sum bytes) (r.sum_is ∙ sym (list_sum_is sum head first o blhdr)) in
    let b : leb 1 (number_at o 2 bytes 2) ≡ true = le-leb 1 (number_at o 2 bytes 2) (omega (arith, r.entries, h.some)) in
    let d : leb (16 + 16 * number_at o 2 bytes 2) blhdr ≡ true = le-leb (16 + 16 * number_at o 2 bytes 2) blhdr (omega (arith, r.entries, h.room)) in
    let is : is_list_head o blhdr bytes ≡ true =
    and_from (eqb (number_at o 4 bytes 8) (list_sum bytes) && leb 1 (number_at o 2 bytes 2)) (leb (16 + 16 * number_at o 2 bytes 2) blhdr)
    (and_from (eqb (number_at o 4 bytes 8) (list_sum bytes)) (leb 1 (number_at o 2 bytes 2)) a b) d in
    ap (λ x. cond x (Some (list_head_of o bytes)) None) is
    ∙ ap (λ (x : ListHead). Some x) (same_head head (number_at o 2 bytes 2) (number_at o 4 bytes 4) (eqb (number_at o 4 bytes 28) 0) r.entries r.used (ap (λ n. eqb n 0) r.next ∙ last_is head.last first.next h.last))

-- a list's first entry that was written is read as itself
pub first_back : (o : Order) (blhdr : ℕ) (head : ListHead) (first : Entry) → FitsEntry first → entry_at o (list_bytes head first o blhdr) 16 ≡ first
first_back o blhdr head first f =
    let sum = checksum_of (list_spelled 0 head first o blhdr) in
    let whole = list_bytes head first o blhdr in
    let b0 : Behind whole _ 0 = record { is = nested sum head first o blhdr } in
    let b8 = ordered_past o 4 head.used (ordered_past o 2 head.entries (ordered_past o 2 (max_blocks blhdr) b0)) in
    let b16 = ordered_past o 4 0 (ordered_past o 4 sum b8) in
    let b24 = ordered_past o 8 first.bnum b16 in
    let bnum = ordered_here o _ 8 first.bnum f.bnum b16 in
    let bsize = ordered_here o _ 4 first.bsize f.bsize b24 in
    let next = ordered_here o _ 4 first.next f.next (ordered_past o 4 first.bsize b24) in
    rw (bnum, bsize, next) refl

read_parts : (b : Bool) (x y : ListHead) → cond b (Some x) None ≡ Some y → (b ≡ true) × (x ≡ y)
read_parts true x y h = (refl, cc h)
read_parts false x y h = absurd (cc h)

-- 32 bytes as their fields
respelled : (o : Order) (bytes : List ℕ) → length bytes ≡ 32 → AreBytes bytes
    → bytes ≡ number_bytes o 2 (number_at o 2 bytes 0) ++ (number_bytes o 2 (number_at o 2 bytes 2) ++ (number_bytes o 4 (number_at o 4 bytes 4) ++ (number_bytes o 4 (number_at o 4 bytes 8) ++ (number_bytes o 4 (number_at o 4 bytes 12) ++ (number_bytes o 8 (number_at o 8 bytes 16) ++ (number_bytes o 4 (number_at o 4 bytes 24) ++ number_bytes o 4 (number_at o 4 bytes 28)))))))
respelled o bytes long are =
    let s0 = spelled_first bytes _ 0 2 (number_bytes-number_at_2 o bytes 0 (omega (arith, long)) are) in
    let s2 = respelled_2 o are (omega (arith, long)) s0 in
    let s4 = respelled_4 o are (omega (arith, long)) s2 in
    let s8 = respelled_4 o are (omega (arith, long)) s4 in
    let s12 = respelled_4 o are (omega (arith, long)) s8 in
    let s16 = respelled_8 o are (omega (arith, long)) s12 in
    let s24 = respelled_4 o are (omega (arith, long)) s16 in
    let s28 = respelled_4 o are (omega (arith, long)) s24 in
    sym (s28.is ∙ take_all 32 bytes (omega (arith, long))) ∙ simp append_assoc

-- with the open fields as they are written, a list is spelled so
opened : (o : Order) (blhdr : ℕ) (bytes : List ℕ) → length bytes ≡ 32 → AreBytes bytes → with_open_fields o blhdr bytes ≡ list_spelled (number_at o 4 bytes 8) (list_head_of o bytes) (entry_at o bytes 16) o blhdr
opened o blhdr bytes long are =
    let m = max_blocks blhdr in
    let n0 = number_at o 2 bytes 0 in
    let f2 = number_bytes o 2 (number_at o 2 bytes 2) in
    let f4 = number_bytes o 4 (number_at o 4 bytes 4) in
    let f8 = number_bytes o 4 (number_at o 4 bytes 8) in
    let n12 = number_at o 4 bytes 12 in
    let t = number_bytes o 8 (number_at o 8 bytes 16) ++ (number_bytes o 4 (number_at o 4 bytes 24) ++ number_bytes o 4 (number_at o 4 bytes 28)) in
    let front : List ℕ = number_bytes o 2 m ++ (f2 ++ (f4 ++ f8)) in
    let size : length front ≡ 12 = simp (length-append, length-number_bytes) in
    let one : put_at bytes 0 (number_bytes o 2 m) ≡ number_bytes o 2 m ++ (f2 ++ (f4 ++ (f8 ++ (number_bytes o 4 n12 ++ t)))) =
    ap (λ (l : List ℕ). put_at l 0 (number_bytes o 2 m)) (respelled o bytes long are) ∙ put_number o 2 n0 m 0 [] (f2 ++ (f4 ++ (f8 ++ (number_bytes o 4 n12 ++ t)))) refl in
    let two : number_bytes o 2 m ++ (f2 ++ (f4 ++ (f8 ++ (number_bytes o 4 n12 ++ t)))) ≡ front ++ (number_bytes o 4 n12 ++ t) = simp append_assoc in
    ap (λ (l : List ℕ). put_at l 12 (number_bytes o 4 0)) (one ∙ two) ∙ put_number o 4 n12 0 12 front t size ∙ simp append_assoc

-- the head of a list that was read is written with its open fields as they are written
pub list_whole : (o : Order) (blhdr : ℕ) (bytes : List ℕ) (head : ListHead) → length bytes ≡ 32 → AreBytes bytes → list_read o blhdr bytes ≡ Some head → list_bytes head (entry_at o bytes 16) o blhdr ≡ list_again o blhdr bytes
list_whole o blhdr bytes head long are read =
    let first = entry_at o bytes 16 in
    let own = list_head_of o bytes in
    let n8 = number_at o 4 bytes 8 in
    let p = read_parts (is_list_head o blhdr bytes) own head read in
    let is = opened o blhdr bytes long are in
    let sum = checksum_of (list_spelled 0 own first o blhdr) in
    let summed : list_sum (with_open_fields o blhdr bytes) ≡ sum = ap list_sum is ∙ list_sum_is n8 own first o blhdr in
    ap (λ (h : ListHead). list_bytes h first o blhdr) (sym p.1)
    ∙ sym (list_summed n8 sum own first o blhdr)
    ∙ ap (λ (l : List ℕ). put_at l 8 (number_bytes o 4 sum)) (sym is)
    ∙ ap (λ s. put_at (with_open_fields o blhdr bytes) 8 (number_bytes o 4 s)) (sym summed)

-- where the open fields stand so, all bytes stay
pub list_same : (o : Order) (blhdr : ℕ) (bytes : List ℕ) (head : ListHead) → length bytes ≡ 32 → AreBytes bytes → list_read o blhdr bytes ≡ Some head
    → number_at o 2 bytes 0 ≡ max_blocks blhdr → number_at o 4 bytes 12 ≡ 0 → list_bytes head (entry_at o bytes 16) o blhdr ≡ bytes
list_same o blhdr bytes head long are read most pad =
    let a = eqb (number_at o 4 bytes 8) (list_sum bytes) in
    let b = leb 1 (number_at o 2 bytes 2) in
    let p = read_parts (is_list_head o blhdr bytes) (list_head_of o bytes) head read in
    let s : number_at o 4 bytes 8 ≡ list_sum bytes = eqb-true (number_at o 4 bytes 8) (list_sum bytes) (and_parts a b (and_parts (a && b) (leb (16 + 16 * number_at o 2 bytes 2) blhdr) p.0).0).0 in
    let open_is : with_open_fields o blhdr bytes ≡ bytes =
    ap (λ (l : List ℕ). put_at l 12 (number_bytes o 4 0)) (put_own_2 o bytes 0 (max_blocks blhdr) (omega (arith, long)) are most) ∙ put_own_4 o bytes 12 0 (omega (arith, long)) are pad in
    list_whole o blhdr bytes head long are read
    ∙ ap (λ (l : List ℕ). put_at l 8 (number_bytes o 4 (list_sum l))) open_is
    ∙ put_own_4 o bytes 8 (list_sum bytes) (omega (arith, long)) are s
