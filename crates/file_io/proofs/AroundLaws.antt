-- Two runs of spills into a file's fresh blocks, around sectors that hold what they ought to.
use Rattle.std.proofs.Common.{◌≡◌, ◌⊎◌, ℕ, suc, ◌+◌, ◌-◌, ◌*◌, ◌≤◌, ◌<◌, ◌&&◌, nat_le, nat_lt, if◌then◌else◌, IsTrue, List, length, get_or, inl, inr, refl, sym, ◌∙◌, ap, arith, ⊎_elim}
use Rattle.std.specs.Prelude.{Result, Ok, Err, OnOk}
use Rattle.std.proofs.lemmas.Bool.{cases_lt, le-leb, lt-leb}
use Rattle.sector_disk.specs.Lists.{Content, sector}
use Rattle.sector_disk.specs.Clock.{TimePasses}
use Rattle.sector_disk.specs.Cause.{HasCause, Rose}
use Rattle.sector_disk.specs.Space.{Space, SameSpace, LeavesDurable}
use Rattle.sector_disk.proofs.Passing.{both_pass}
use Rattle.file_io.specs.Bytes.{sector_bytes, old_byte, new_byte}
use Rattle.file_io.specs.Touching.{IsOneOf, MaySpill, SpillsIn}
use Rattle.file_io.proofs.SpillLaws.{same_sector_bytes, same_old_byte}

-- what a crash leaves before some spills it leaves after them too
leaves_in : (these : ℕ → Type 0) (a b : Space) (image : Content) (told : List ℕ) → SpillsIn these a b → b.told ≡ a.told → LeavesDurable a image told → LeavesDurable b image told
leaves_in these a b image told s same l = (
  record {
    size = l.0.size ∙ sym s.durable.size;
    each = λ k. ⊎_elim
        (λ is. ⊎_elim
        (λ kept. inl (is ∙ sym kept))
        (λ spilled. inr (inl spilled.1))
        (s.durable.each k))
        (λ aside. inr (⊎_elim (λ o. inl (s.still k o)) (λ c. inr ((s.closed k).1 c)) aside))
        (l.0.each k);
  },
  l.1 ∙ sym same,
)

pub time_around : (these : ℕ → Type 0) (a b c : Space) → SpillsIn these b c → c.told ≡ b.told → TimePasses a.clock b.clock (LeavesDurable b) → TimePasses b.clock c.clock (LeavesDurable c) → TimePasses a.clock c.clock (LeavesDurable c)
time_around these a b c s same p q = both_pass a.clock b.clock c.clock (LeavesDurable b) (LeavesDurable c) (LeavesDurable c) p q (λ image told l. leaves_in these b c image told s same l) (λ image told l. l)

pub sizes_around : (a b c : Content) → ((at : ℕ) → (sector b at ≡ sector a at) ⊎ (length (sector b at) ≡ 512)) → ((at : ℕ) → (sector c at ≡ sector b at) ⊎ (length (sector c at) ≡ 512)) → (at : ℕ) → (sector c at ≡ sector a at) ⊎ (length (sector c at) ≡ 512)
sizes_around a b c p q at = ⊎_elim
    (λ same. ⊎_elim (λ e. inl (same ∙ e)) (λ long. inr (ap (λ (l : List ℕ). length l) same ∙ long)) (p at))
    (λ long. inr long)
    (q at)

-- sectors before the gap, in it and behind it
pub bytes_around : (old mid new : Space) (had fresh : List ℕ) (first count idle busy size from : ℕ) (value : List ℕ) → busy ≤ count → count ≤ length fresh → idle ≤ busy → size ≤ length had * 512
    → SpillsIn (IsOneOf fresh) old mid → (0 < size → (at : ℕ) → IsOneOf fresh at → IsOneOf had at → ⊥)
    → ((n k : ℕ) → 0 ≤ n → n < idle → k < 512 → get_or (sector_bytes mid.content (get_or fresh n 0)) k 0 ≡ new_byte old.content had size from value ((first + n) * 512 + k))
    → ((n : ℕ) → (n < 0) ⊎ (idle ≤ n) → n < length fresh → sector mid.content (get_or fresh n 0) ≡ sector old.content (get_or fresh n 0))
    → ((n k : ℕ) → idle ≤ n → n < busy → k < 512 → get_or (sector_bytes old.content (get_or fresh n 0)) k 0 ≡ new_byte old.content had size from value ((first + n) * 512 + k))
    → ((n k : ℕ) → busy ≤ n → n < count → k < 512 → get_or (sector_bytes new.content (get_or fresh n 0)) k 0 ≡ new_byte mid.content had size from value ((first + n) * 512 + k))
    → ((n : ℕ) → (n < busy) ⊎ (count ≤ n) → n < length fresh → sector new.content (get_or fresh n 0) ≡ sector mid.content (get_or fresh n 0))
    → (n k : ℕ) → n < count → k < 512 → get_or (sector_bytes new.content (get_or fresh n 0)) k 0 ≡ new_byte old.content had size from value ((first + n) * 512 + k)
bytes_around old mid new had fresh first count idle busy size from value within enough order holds spills elsewhere before aside ready behind others n k lt below =
    let at : ℕ = get_or fresh n 0 in
    let q : ℕ = (first + n) * 512 + k in
    ⊎_elim
    (λ (early : n < busy).
    let still = same_sector_bytes mid.content new.content at (others n (inl early) (omega (arith, lt, enough))) in
    ⊎_elim
    (λ (first_part : n < idle). ap (λ (l : List ℕ). get_or l k 0) still ∙ before n k (omega arith) first_part below)
    (λ (in_gap : idle ≤ n).
    ap (λ (l : List ℕ). get_or l k 0) still
    ∙ ap (λ (l : List ℕ). get_or l k 0) (same_sector_bytes old.content mid.content at (aside n (inr in_gap) (omega (arith, lt, enough))))
    ∙ ready n k in_gap early below)
    (cases_lt n idle))
    (λ (late : busy ≤ n).
    behind n k late lt below
    ∙ ap (λ v. if nat_le from q && nat_lt q (from + length value) then get_or value (q - from) 0 else v) (same_old_byte old mid had fresh size q spills elsewhere holds))
    (cases_lt n busy)

pub may_spill_still : (these : ℕ → Type 0) (a b : Space) → SameSpace a b → (IsTrue a.tells → SpillsIn these a b) → (at : ℕ) → MaySpill a at → MaySpill b at
may_spill_still these a b same spills at may = record {
  inside = omega (arith, may.inside, same.sectors);
  no_header = may.no_header;
  outside = λ tells closed. let was : IsTrue a.tells = sym same.tells ∙ tells in may.outside was (((spills was).closed at).0 closed);
  idle = λ tells live. let was : IsTrue a.tells = sym same.tells ∙ tells in may.idle was (((spills was).live at).0 live);
}

-- two facts of a call that went well
pub on_both : {A E : Type 0} (r : Result A E) (P Q R : Type 0) → OnOk r P → OnOk r Q → (P → Q → R) → OnOk r R
on_both (Ok x) P Q R p q f = f p q
on_both (Err e) P Q R p q f = tt

-- a fault of the second call, counted from before the first one on
pub cause_around : {T E : Type 0} (a b c : ℕ) (r : Result T E) → a ≤ b → HasCause b c r → HasCause a c r
cause_around a b c (Ok x) earlier cause = record { later = omega (arith, earlier, cause.later); failed = tt }
cause_around a b c (Err e) earlier cause = record { later = omega (arith, earlier, cause.later); failed = let rose : Rose b c = cause.failed in omega (arith, rose, earlier) }

-- past the old size, and where a value begins only behind it, the byte is zero
pub zero_there : (content : Content) (sectors : List ℕ) (size from q : ℕ) (value : List ℕ) → size ≤ q → (0 < length value → q < from) → new_byte content sectors size from value q ≡ 0
zero_there content sectors size from q value past gap = ⊎_elim
    (λ (before : q < from). rw (lt-leb from q before, lt-leb (suc q) size (omega (arith, past))) refl)
    (λ (behind : from ≤ q). ⊎_elim
    (λ (none : length value < 1). rw (le-leb from q behind, lt-leb (suc q) (from + length value) (omega (arith, none, behind)), lt-leb (suc q) size (omega (arith, past))) refl)
    (λ (some : 1 ≤ length value). absurd (omega (arith, behind, gap some)))
    (cases_lt (length value) 1))
    (cases_lt q from)
