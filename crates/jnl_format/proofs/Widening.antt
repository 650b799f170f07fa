-- What a dialect reads, the wide one reads as the same.
use Rattle.std.proofs.Common.{◌≡◌, ℕ, zero, suc, ◌+◌, ◌*◌, ◌/◌, ◌%◌, ◌≤◌, ◌<◌, Bool, true, false, not, ◌&&◌, List, length, refl, sym, ◌∙◌, ap, inl, inr, arith, cond, eqb, leb}
use Rattle.std.specs.Prelude.{Option, None, Some, Ok, option_map}
use Rattle.std.proofs.lemmas.Bool.{and_parts, and_from, cases_lt, leb-true, le-leb, lt-leb, not-false}
use Rattle.hx_bytes.specs.Field.{number_at}
use Rattle.hx_bytes.specs.declared.fields.Order.{Order}
use Rattle.jnl_format.specs.Dialect.{most_blhdr}
use Rattle.jnl_format.specs.Info.{unless_fault}
use Rattle.jnl_format.specs.Header.{order_of, header_of, header_sum, header_fault_as, header_in_as, header_read_as, is_offset, is_blhdr_as, IsHeaderAs}
use Rattle.jnl_format.specs.Ring.{offset_after}
use Rattle.jnl_format.specs.Text.{head_at, is_list_as, bad_list_as}
use Rattle.jnl_format.specs.Recovery.{Content, Journal, header_of_volume, info_sector_of, journal_as, text_of, volume_of, foreign_fault, text_fault_as, or_else, replayed, recovery_at_as, recovery_as}
use Rattle.jnl_format.specs.declared.blocks.Volume.{Volume}
use Rattle.jnl_format.specs.declared.dialect.Dialect.{Dialect}
use Rattle.jnl_format.specs.declared.dialect.Dialect.TheVariants.{Wide}
use Rattle.jnl_format.specs.declared.structures.Header.{Header}
use Rattle.jnl_format.specs.declared.structures.JnlRefusal.{JnlRefusal}
use Rattle.jnl_format.specs.declared.structures.JnlRefusal.TheVariants.{BadHeader, BadList}
use Rattle.jnl_format.proofs.Alike.{text_parts_as, stands_for_as}
use Rattle.jnl_format.proofs.Dialects.{most_bound}
use Rattle.jnl_format.proofs.Lists.{IsListAs, first_list_as, list_from, none_bad_as}
use Rattle.jnl_format.proofs.Recovering.{FoundAs, is_new, is_kept, first_none, found_journal_as, journal_is_fresh_as, journal_is_kept_as, journal_parts_as, then_parts, unless_parts}

-- a header's fields
pub head_wide : (dialect : Dialect) (size : ℕ) (head : Header) → IsHeaderAs dialect size head → IsHeaderAs Wide size head
head_wide dialect size head h = record {
  start_whole = h.start_whole;
  start_low = h.start_low;
  start_high = h.start_high;
  end_whole = h.end_whole;
  end_low = h.end_low;
  end_high = h.end_high;
  size = h.size;
  blhdr_whole = h.blhdr_whole;
  blhdr_low = h.blhdr_low;
  blhdr_high = omega (arith, h.blhdr_high, most_bound dialect);
}

blhdr_wide : (dialect : Dialect) (blhdr : ℕ) → is_blhdr_as dialect blhdr ≡ true → is_blhdr_as Wide blhdr ≡ true
blhdr_wide dialect blhdr h =
    let low = eqb (blhdr % 512) 0 && leb 512 blhdr in
    let p = and_parts low (leb blhdr (most_blhdr dialect)) h in
    and_from low (leb blhdr 1048576) p.0 (le-leb blhdr 1048576 (omega (arith, leb-true blhdr (most_blhdr dialect) p.1, most_bound dialect)))

fault_wide : (dialect : Dialect) (order : Order) (size : ℕ) (bytes : List ℕ) → header_fault_as dialect order size bytes ≡ None → header_fault_as Wide order size bytes ≡ None
fault_wide dialect order size bytes h =
    let blhdr = number_at order 4 bytes 32 in
    let behind : Option JnlRefusal = cond (not (eqb (number_at order 4 bytes 36) (header_sum bytes))) (Some (BadHeader 36)) (cond (not (eqb (number_at order 4 bytes 40) 512)) (Some (BadHeader 40)) None) in
    let p1 = first_none (not (eqb (number_at order 4 bytes 4) 0x12345678)) (BadHeader 4) _ h in
    let p2 = first_none (not (is_offset size (number_at order 8 bytes 8))) (BadHeader 8) _ p1.1 in
    let p3 = first_none (not (is_offset size (number_at order 8 bytes 16))) (BadHeader 16) _ p2.1 in
    let p4 = first_none (not (eqb (number_at order 8 bytes 24) size)) (BadHeader 24) _ p3.1 in
    let p5 = first_none (not (is_blhdr_as dialect blhdr)) (BadHeader 32) _ p4.1 in
    let holds : is_blhdr_as dialect blhdr ≡ true = not-false (is_blhdr_as dialect blhdr) p5.0 in
    let same : is_blhdr_as Wide blhdr ≡ is_blhdr_as dialect blhdr = blhdr_wide dialect blhdr holds ∙ sym holds in
    ap (λ (b : Bool). cond (not (eqb (number_at order 4 bytes 4) 0x12345678)) (Some (BadHeader 4))
    (cond (not (is_offset size (number_at order 8 bytes 8))) (Some (BadHeader 8))
    (cond (not (is_offset size (number_at order 8 bytes 16))) (Some (BadHeader 16))
    (cond (not (eqb (number_at order 8 bytes 24) size)) (Some (BadHeader 24)) (cond (not b) (Some (BadHeader 32)) behind))))) same
    ∙ h

header_in_wide : (dialect : Dialect) (order : Option Order) (size : ℕ) (bytes : List ℕ) (head : Header) → header_in_as dialect order size bytes ≡ Ok head → header_in_as Wide order size bytes ≡ Ok head
header_in_wide dialect None size bytes head h = h
header_in_wide dialect (Some order) size bytes head h =
    let p = unless_parts (header_fault_as dialect order size bytes) (header_of order size bytes) head h in
    ap (λ (f : Option JnlRefusal). unless_fault f (header_of order size bytes)) (fault_wide dialect order size bytes p.0) ∙ ap (λ (x : Header). Ok x) p.1

-- a journal header
pub header_wide : (dialect : Dialect) (size : ℕ) (bytes : List ℕ) (head : Header) → header_read_as dialect size bytes ≡ Ok head → header_read_as Wide size bytes ≡ Ok head
header_wide dialect size bytes head h = header_in_wide dialect (order_of bytes) size bytes head h

-- a list, behind which a text may always end
list_wide : (dialect : Dialect) (volume : Volume) (order : Order) (blhdr : ℕ) (text : List ℕ) (at : ℕ) → IsListAs dialect volume order blhdr text at → IsListAs Wide volume order blhdr text at
list_wide dialect volume order blhdr text at l = record { header = l.header; head = l.head; used = l.used; inside = l.inside; blocks = l.blocks; last = inl refl }

-- the lists of a text
pub lists_wide : (dialect : Dialect) (volume : Volume) (order : Order) (blhdr : ℕ) (text : List ℕ) (count at : ℕ) → bad_list_as dialect volume order blhdr text count at ≡ None → bad_list_as Wide volume order blhdr text count at ≡ None
lists_wide dialect volume order blhdr text zero at none = refl
lists_wide dialect volume order blhdr text (suc count) at none = elim (cases_lt at (length text)) [
  | inl below ↦
      let p = first_list_as dialect volume order blhdr text count at none below in
      let next = at + (head_at order text at).used in
      ap (λ b. cond b None (cond (not (is_list_as Wide volume order blhdr text at)) (Some at) (bad_list_as Wide volume order blhdr text count next))) (lt-leb (length text) at below)
      ∙ ap (λ b. cond (not b) (Some at) (bad_list_as Wide volume order blhdr text count next)) (list_from volume order blhdr text at (list_wide dialect volume order blhdr text at p.0))
      ∙ lists_wide dialect volume order blhdr text count next p.1
  | inr past ↦ none_bad_as Wide volume order blhdr text (suc count) at past
]

journal_by : (dialect : Dialect) (at : ℕ) (content : Content) (journal : Journal) → FoundAs dialect content journal.info journal → journal_as dialect at content ≡ Ok journal → journal_as Wide at content ≡ Ok journal
journal_by dialect at content journal (is_new fresh is) found =
    let parts = journal_parts_as dialect at content journal found in
    journal_is_fresh_as Wide at content journal.info parts.whole fresh ∙ ap (λ (j : Journal). Ok j) (sym is)
journal_by dialect at content journal (is_kept header old read is) found =
    let parts = journal_parts_as dialect at content journal found in
    journal_is_kept_as Wide at content journal.info (Ok header) parts.whole old (header_wide dialect journal.info.size _ header read) ∙ ap (λ (j : Journal). Ok j) (sym is)

-- a content's journal
pub journal_wide : (dialect : Dialect) (at : ℕ) (content : Content) (journal : Journal) → journal_as dialect at content ≡ Ok journal → journal_as Wide at content ≡ Ok journal
journal_wide dialect at content journal found =
    journal_by dialect at content journal (found_journal_as dialect content journal.info journal (journal_parts_as dialect at content journal found).found) found

-- its text
pub text_wide : (dialect : Dialect) (at version : ℕ) (journal : Journal) (content : Content) → text_fault_as dialect at version journal content ≡ None → text_fault_as Wide at version journal content ≡ None
text_wide dialect at version journal content none =
    let p = text_parts_as dialect at version journal content none in
    let text = text_of journal content in
    ap (λ (o : Option ℕ). or_else (option_map (λ place. BadList (offset_after journal.info.size journal.header.start place)) o) (foreign_fault version journal))
    (lists_wide dialect (volume_of at journal content) journal.header.order journal.header.blhdr text (length text) 0 p.0)
    ∙ p.1

recovery_at_wide : (dialect : Dialect) (at version : ℕ) (content recovered : Content) → recovery_at_as dialect at version content ≡ Ok recovered → recovery_at_as Wide at version content ≡ Ok recovered
unfolding recovery_at_as
recovery_at_wide dialect at version content recovered h =
    let p = then_parts (journal_as dialect at content) (λ (j : Journal). unless_fault (text_fault_as dialect at version j content) (replayed j content)) recovered h in
    let j = p.0 in
    let q = unless_parts (text_fault_as dialect at version j content) (replayed j content) recovered p.2 in
    stands_for_as Wide at version j content (journal_wide dialect at content j p.1) (text_wide dialect at version j content q.0) ∙ ap (λ (c : Content). Ok c) q.1

-- what a content stands for
pub recovery_wide : (dialect : Dialect) (content recovered : Content) → recovery_as dialect content ≡ Ok recovered → recovery_as Wide content ≡ Ok recovered
recovery_wide dialect content recovered h = recovery_at_wide dialect (info_sector_of (header_of_volume content)) (header_of_volume content).last_mounted_version content recovered h
