-- A header that was written is read again.
use Rattle.std.proofs.Common.{◌≡◌, ℕ, ◌+◌, ◌%◌, ◌^◌, ◌<◌, ◌≤◌, Bool, true, false, not, ◌&&◌, List, [], ◌++◌, length, take, drop, refl, sym, ◌∙◌, ap, subst, arith, append_assoc, cond, eqb, leb, lit<}
use Rattle.std.specs.Prelude.{Option, None, Some, Ok}
use Rattle.std.proofs.lemmas.Bool.{and_from, eq-eqb, ne_eqb, le-leb}
use Rattle.std.proofs.lemmas.List.{length-append}
use Rattle.std.proofs.Math.Seq.{drop-append_seam, take-append_seam, drop-append-add}
use Rattle.hx_bytes.specs.Field.{number_at, number_bytes, big, put_at}
use Rattle.hx_bytes.specs.declared.fields.Order.{Order}
use Rattle.hx_bytes.specs.declared.fields.Order.TheVariants.{Little, Big}
use Rattle.hx_bytes.proofs.Laws.{length-number_bytes, number_at-number_bytes, number_at-behind}
use Rattle.jnl_format.specs.Checksum.{checksum_of}
use Rattle.jnl_format.specs.Info.{unless_fault}
use Rattle.jnl_format.specs.Header.{order_of, header_of, header_sum, header_fault_as, header_in_as, header_read_as, header_spelled, header_bytes, is_offset, is_blhdr_as, wrapped, IsHeaderAs}
use Rattle.jnl_format.specs.Dialect.{most_blhdr}
use Rattle.jnl_format.specs.declared.dialect.Dialect.{Dialect}
use Rattle.jnl_format.specs.declared.structures.Header.{Header}
use Rattle.jnl_format.specs.declared.structures.JnlRefusal.{JnlRefusal}
use Rattle.jnl_format.specs.declared.structures.JnlRefusal.TheVariants.{BadHeader}
use Rattle.jnl_format.proofs.Headers.{take_header}
use Rattle.jnl_format.proofs.Dialects.{most_bound}

-- a field at the front, and one behind a field
here : (o : Order) (n x : ℕ) (rest : List ℕ) → x < 256 ^ n → number_at o n (number_bytes o n x ++ rest) 0 ≡ x
here o n x rest small = number_at-number_bytes o n x 0 [] rest refl small

behind : (o : Order) (n at m y : ℕ) (rest : List ℕ) → number_at o n (number_bytes o m y ++ rest) (m + at) ≡ number_at o n rest at
behind o n at m y rest = number_at-behind o n at m (number_bytes o m y) rest (length-number_bytes o m y)

-- the bytes of a header, each field in front of those that follow
abbrev r7 : Header → List ℕ → List ℕ
r7 h rest = number_bytes h.order 4 512 ++ rest

abbrev r6 : ℕ → Header → List ℕ → List ℕ
r6 sum h rest = number_bytes h.order 4 sum ++ r7 h rest

abbrev r5 : ℕ → Header → List ℕ → List ℕ
r5 sum h rest = number_bytes h.order 4 h.blhdr ++ r6 sum h rest

abbrev r4 : ℕ → Header → List ℕ → List ℕ
r4 sum h rest = number_bytes h.order 8 h.size ++ r5 sum h rest

abbrev r3 : ℕ → Header → List ℕ → List ℕ
r3 sum h rest = number_bytes h.order 8 h.end ++ r4 sum h rest

abbrev r2 : ℕ → Header → List ℕ → List ℕ
r2 sum h rest = number_bytes h.order 8 h.start ++ r3 sum h rest

abbrev r1 : ℕ → Header → List ℕ → List ℕ
r1 sum h rest = number_bytes h.order 4 0x12345678 ++ r2 sum h rest

abbrev r0 : ℕ → Header → List ℕ → List ℕ
r0 sum h rest = number_bytes h.order 4 0x4A4E4C78 ++ r1 sum h rest

spelled_is : (sum : ℕ) (h : Header) (rest : List ℕ) → header_spelled sum h ++ rest ≡ r0 sum h rest
spelled_is sum h rest = simp append_assoc

other_magic : (rest : List ℕ) → eqb (number_at Little 4 (number_bytes Big 4 0x4A4E4C78 ++ rest) 0) 0x4A4E4C78 ≡ false
unfolding number_at number_bytes
other_magic rest = refl

magic_is : (o : Order) (rest : List ℕ) → order_of (number_bytes o 4 0x4A4E4C78 ++ rest) ≡ Some o
magic_is Little rest = ap (λ b. cond b (Some Little) (cond (eqb (number_at Big 4 (number_bytes Little 4 0x4A4E4C78 ++ rest) 0) 0x4A4E4C78) (Some Big) None)) (eq-eqb (number_at Little 4 (number_bytes Little 4 0x4A4E4C78 ++ rest) 0) 0x4A4E4C78 (here Little 4 0x4A4E4C78 rest (lit< tt)))
magic_is Big rest =
    ap (λ b. cond b (Some Little) (cond (eqb (number_at Big 4 (number_bytes Big 4 0x4A4E4C78 ++ rest) 0) 0x4A4E4C78) (Some Big) None)) (other_magic rest)
    ∙ ap (λ b. cond b (Some Big) None) (eq-eqb (number_at Big 4 (number_bytes Big 4 0x4A4E4C78 ++ rest) 0) 0x4A4E4C78 (here Big 4 0x4A4E4C78 rest (lit< tt)))

-- the bytes kept while the checksum's field is zero
pub zeros_are : (o : Order) → big 4 0 ≡ number_bytes o 4 0
unfolding number_bytes
zeros_are Little = refl
zeros_are Big = refl

pub none_by : (b : Bool) (x : JnlRefusal) (rest : Option JnlRefusal) → b ≡ true → rest ≡ None → cond (not b) (Some x) rest ≡ None
none_by true x rest h e = e
none_by false x rest h e = absurd (cc h)

offset_by : (size at : ℕ) → at % 512 ≡ 0 → 512 ≤ at → at ≤ size → is_offset size at ≡ true
offset_by size at whole low high = and_from (eqb (at % 512) 0 && leb 512 at) (leb at size) (and_from (eqb (at % 512) 0) (leb 512 at) (eq-eqb (at % 512) 0 whole) (le-leb 512 at low)) (le-leb at size high)

wrapped_by : (size at : ℕ) → at < size → wrapped size at ≡ at
wrapped_by size at below = ap (λ b. cond b 512 at) (ne_eqb at size (λ e. omega arith))

-- the first 36 bytes, and what follows the checksum
abbrev pub front : Header → List ℕ
front h = number_bytes h.order 4 0x4A4E4C78 ++ number_bytes h.order 4 0x12345678 ++ number_bytes h.order 8 h.start ++ number_bytes h.order 8 h.end ++ number_bytes h.order 8 h.size ++ number_bytes h.order 4 h.blhdr

pub length-front : (h : Header) → length (front h) ≡ 36
length-front h = simp (length-append, length-number_bytes)

pub sum_is : (h : Header) (sum : ℕ) (rest : List ℕ) → header_sum (header_spelled sum h ++ rest) ≡ checksum_of (header_spelled 0 h)
sum_is h sum rest =
    let o = h.order in
    let tail = number_bytes o 4 512 ++ rest in
    let whole = header_spelled sum h ++ rest in
    let is : whole ≡ front h ++ (number_bytes o 4 sum ++ tail) = append_assoc (front h ++ number_bytes o 4 sum) (number_bytes o 4 512) rest ∙ append_assoc (front h) (number_bytes o 4 sum) tail in
    let first : take 36 whole ≡ front h = ap (λ (l : List ℕ). take 36 l) is ∙ (let P : ℕ → Type 0 = λ k. take k (front h ++ (number_bytes o 4 sum ++ tail)) ≡ front h in subst P (length-front h) (take-append_seam (front h) (number_bytes o 4 sum ++ tail))) in
    let last : drop (36 + length (big 4 0)) whole ≡ tail =
    ap (λ k. drop (36 + k) whole) (length-number_bytes Big 4 0) ∙ ap (λ (l : List ℕ). drop 40 l) is
    ∙ (let P : ℕ → Type 0 = λ k. drop (k + 4) (front h ++ (number_bytes o 4 sum ++ tail)) ≡ drop 4 (number_bytes o 4 sum ++ tail) in subst P (length-front h) (drop-append-add (front h) (number_bytes o 4 sum ++ tail) 4))
    ∙ (let P : ℕ → Type 0 = λ k. drop k (number_bytes o 4 sum ++ tail) ≡ tail in subst P (length-number_bytes o 4 sum) (drop-append_seam (number_bytes o 4 sum) tail)) in
    let blank : put_at whole 36 (big 4 0) ≡ header_spelled 0 h ++ rest =
    ap (λ (l : List ℕ). l ++ big 4 0 ++ drop (36 + length (big 4 0)) whole) first ∙ ap (λ (l : List ℕ). front h ++ big 4 0 ++ l) last ∙ ap (λ (l : List ℕ). front h ++ l ++ tail) (zeros_are o)
    ∙ sym (append_assoc (front h ++ number_bytes o 4 0) (number_bytes o 4 512) rest) in
    ap (λ (l : List ℕ). checksum_of (take 44 l)) blank ∙ ap checksum_of (take_header 0 h rest)

same_fields : (h : Header) (start end size blhdr : ℕ) → start ≡ h.start → end ≡ h.end → size ≡ h.size → blhdr ≡ h.blhdr
    → (let given : Header = record { order = h.order; start = start; end = end; size = size; blhdr = blhdr } in given ≡ h)
same_fields h start end size blhdr a b c d =
    ap (λ x. record h { start = x; end = end; size = size; blhdr = blhdr }) a ∙ ap (λ x. record h { end = x; size = size; blhdr = blhdr }) b
    ∙ ap (λ x. record h { size = x; blhdr = blhdr }) c ∙ ap (λ x. record h { blhdr = x }) d

-- what fits a header's fields
pub record FitsHeader (h : Header) : Type 0 where
  pub start : h.start < 2 ^ 64
  pub end : h.end < 2 ^ 64
  pub size : h.size < 2 ^ 64

fields_back : (dialect : Dialect) (h : Header) (sum size : ℕ) (rest : List ℕ) → IsHeaderAs dialect size h → FitsHeader h → sum < 2 ^ 32 → sum ≡ checksum_of (header_spelled 0 h) → (bytes : List ℕ) → bytes ≡ header_spelled sum h ++ rest
    → (header_fault_as dialect h.order size bytes ≡ None) × (header_of h.order size bytes ≡ h)
fields_back dialect h sum size rest i f small own bytes is =
    let o = h.order in
    let all : bytes ≡ r0 sum h rest = is ∙ spelled_is sum h rest in
    let at : (n k x : ℕ) → number_at o n (r0 sum h rest) k ≡ x → number_at o n bytes k ≡ x = λ n k x e. ap (λ (l : List ℕ). number_at o n l k) all ∙ e in
    let s0 : ℕ = 0x4A4E4C78 in
    let s1 : ℕ = 0x12345678 in
    let e4 : number_at o 4 bytes 4 ≡ s1 = at 4 4 s1 (behind o 4 0 4 s0 (r1 sum h rest) ∙ here o 4 s1 (r2 sum h rest) (lit< tt)) in
    let e8 : number_at o 8 bytes 8 ≡ h.start = at 8 8 h.start (behind o 8 4 4 s0 (r1 sum h rest) ∙ behind o 8 0 4 s1 (r2 sum h rest) ∙ here o 8 h.start (r3 sum h rest) f.start) in
    let e16 : number_at o 8 bytes 16 ≡ h.end = at 8 16 h.end (behind o 8 12 4 s0 (r1 sum h rest) ∙ behind o 8 8 4 s1 (r2 sum h rest) ∙ behind o 8 0 8 h.start (r3 sum h rest) ∙ here o 8 h.end (r4 sum h rest) f.end) in
    let e24 : number_at o 8 bytes 24 ≡ h.size = at 8 24 h.size (behind o 8 20 4 s0 (r1 sum h rest) ∙ behind o 8 16 4 s1 (r2 sum h rest) ∙ behind o 8 8 8 h.start (r3 sum h rest) ∙ behind o 8 0 8 h.end (r4 sum h rest) ∙ here o 8 h.size (r5 sum h rest) f.size) in
    let e32 : number_at o 4 bytes 32 ≡ h.blhdr =
    at 4 32 h.blhdr (behind o 4 28 4 s0 (r1 sum h rest) ∙ behind o 4 24 4 s1 (r2 sum h rest) ∙ behind o 4 16 8 h.start (r3 sum h rest) ∙ behind o 4 8 8 h.end (r4 sum h rest) ∙ behind o 4 0 8 h.size (r5 sum h rest) ∙ here o 4 h.blhdr (r6 sum h rest) (omega (arith, i.blhdr_high, most_bound dialect))) in
    let e36 : number_at o 4 bytes 36 ≡ sum =
    at 4 36 sum (behind o 4 32 4 s0 (r1 sum h rest) ∙ behind o 4 28 4 s1 (r2 sum h rest) ∙ behind o 4 20 8 h.start (r3 sum h rest) ∙ behind o 4 12 8 h.end (r4 sum h rest) ∙ behind o 4 4 8 h.size (r5 sum h rest) ∙ behind o 4 0 4 h.blhdr (r6 sum h rest) ∙ here o 4 sum (r7 h rest) small) in
    let e40 : number_at o 4 bytes 40 ≡ 512 =
    at 4 40 512 (behind o 4 36 4 s0 (r1 sum h rest) ∙ behind o 4 32 4 s1 (r2 sum h rest) ∙ behind o 4 24 8 h.start (r3 sum h rest) ∙ behind o 4 16 8 h.end (r4 sum h rest) ∙ behind o 4 8 8 h.size (r5 sum h rest) ∙ behind o 4 4 4 h.blhdr (r6 sum h rest) ∙ behind o 4 0 4 sum (r7 h rest) ∙ here o 4 512 rest (lit< tt)) in
    let c36 : sum ≡ header_sum bytes = own ∙ sym (ap header_sum is ∙ sum_is h sum rest) in (
      none_by (eqb (number_at o 4 bytes 4) s1) (BadHeader 4) _ (eq-eqb (number_at o 4 bytes 4) s1 e4)
          (none_by (is_offset size (number_at o 8 bytes 8)) (BadHeader 8) _ (ap (is_offset size) e8 ∙ offset_by size h.start i.start_whole i.start_low (omega (arith, i.start_high)))
          (none_by (is_offset size (number_at o 8 bytes 16)) (BadHeader 16) _ (ap (is_offset size) e16 ∙ offset_by size h.end i.end_whole i.end_low (omega (arith, i.end_high)))
          (none_by (eqb (number_at o 8 bytes 24) size) (BadHeader 24) _ (eq-eqb (number_at o 8 bytes 24) size (e24 ∙ i.size))
          (none_by (is_blhdr_as dialect (number_at o 4 bytes 32)) (BadHeader 32) _ (ap (is_blhdr_as dialect) e32 ∙ and_from (eqb (h.blhdr % 512) 0 && leb 512 h.blhdr) (leb h.blhdr (most_blhdr dialect)) (and_from (eqb (h.blhdr % 512) 0) (leb 512 h.blhdr) (eq-eqb (h.blhdr % 512) 0 i.blhdr_whole) (le-leb 512 h.blhdr i.blhdr_low)) (le-leb h.blhdr (most_blhdr dialect) i.blhdr_high))
          (none_by (eqb (number_at o 4 bytes 36) (header_sum bytes)) (BadHeader 36) _ (eq-eqb (number_at o 4 bytes 36) (header_sum bytes) (e36 ∙ c36))
          (none_by (eqb (number_at o 4 bytes 40) 512) (BadHeader 40) None (eq-eqb (number_at o 4 bytes 40) 512 e40) refl)))))),
      (let a : wrapped size (number_at o 8 bytes 8) ≡ h.start = ap (wrapped size) e8 ∙ wrapped_by size h.start i.start_high in
          let b : wrapped size (number_at o 8 bytes 16) ≡ h.end = ap (wrapped size) e16 ∙ wrapped_by size h.end i.end_high in
          same_fields h (wrapped size (number_at o 8 bytes 8)) (wrapped size (number_at o 8 bytes 16)) (number_at o 8 bytes 24) (number_at o 4 bytes 32) a b e24 e32),
    )

-- a header that was written is read as itself
pub header_back : {dialect : Dialect} (h : Header) (size : ℕ) (rest : List ℕ) → IsHeaderAs dialect size h → FitsHeader h → checksum_of (header_spelled 0 h) < 2 ^ 32 → header_read_as dialect size (header_bytes h ++ rest) ≡ Ok h
header_back {dialect = dialect} h size rest i f small =
    let sum = checksum_of (header_spelled 0 h) in
    let bytes = header_bytes h ++ rest in
    let o : order_of bytes ≡ Some h.order = ap order_of (spelled_is sum h rest) ∙ magic_is h.order (r1 sum h rest) in
    let p = fields_back dialect h sum size rest i f small refl bytes refl in
    ap (λ (x : Option Order). header_in_as dialect x size bytes) o
    ∙ ap (λ (x : Option JnlRefusal). unless_fault x (header_of h.order size bytes)) p.0 ∙ ap (λ (x : Header). Ok x) p.1

pub checksum_fits : (bytes : List ℕ) → checksum_of bytes < 2 ^ 32
unfolding checksum_of
checksum_fits bytes = omega arith
