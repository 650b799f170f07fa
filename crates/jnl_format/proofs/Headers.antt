-- The bytes of a header: how many, and how they come to stand.
use Rattle.std.proofs.Common.{◌≡◌, ℕ, List, ◌++◌, length, take, drop, ◌∙◌, ap, subst}
use Rattle.std.proofs.lemmas.List.{length-append}
use Rattle.std.proofs.Math.Seq.{drop-append_seam, take-append_seam}
use Rattle.hx_bytes.proofs.Laws.{length-number_bytes}
use Rattle.jnl_format.specs.Checksum.{checksum_of}
use Rattle.jnl_format.specs.Header.{header_spelled, header_bytes}
use Rattle.jnl_format.specs.declared.structures.Header.{Header}

pub length-header_spelled : (sum : ℕ) (head : Header) → length (header_spelled sum head) ≡ 44
length-header_spelled sum head = simp (length-append, length-number_bytes)

pub take_header : (sum : ℕ) (head : Header) (rest : List ℕ) → take 44 (header_spelled sum head ++ rest) ≡ header_spelled sum head
take_header sum head rest =
    let P : ℕ → Type 0 = λ k. take k (header_spelled sum head ++ rest) ≡ header_spelled sum head in
    subst P (length-header_spelled sum head) (take-append_seam (header_spelled sum head) rest)

pub drop_header : (sum : ℕ) (head : Header) (rest : List ℕ) → drop 44 (header_spelled sum head ++ rest) ≡ rest
drop_header sum head rest =
    let P : ℕ → Type 0 = λ k. drop k (header_spelled sum head ++ rest) ≡ rest in
    subst P (length-header_spelled sum head) (drop-append_seam (header_spelled sum head) rest)

-- written with a checksum of zero, and then with the checksum of what stands there
pub header_written : (head : Header) (sum : ℕ) (old mid new : List ℕ) → mid ≡ header_spelled 0 head ++ drop 44 old → sum ≡ checksum_of (take 44 mid) → new ≡ header_spelled sum head ++ drop 44 mid → new ≡ header_bytes head ++ drop 44 old
header_written head sum old mid new first summed second =
    let own : sum ≡ checksum_of (header_spelled 0 head) = summed ∙ ap (λ (l : List ℕ). checksum_of (take 44 l)) first ∙ ap checksum_of (take_header 0 head (drop 44 old)) in
    let rest : drop 44 mid ≡ drop 44 old = ap (λ (l : List ℕ). drop 44 l) first ∙ drop_header 0 head (drop 44 old) in
    second ∙ ap (λ s. header_spelled s head ++ drop 44 mid) own ∙ ap (λ (l : List ℕ). header_bytes head ++ l) rest
