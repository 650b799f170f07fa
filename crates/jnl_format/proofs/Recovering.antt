-- What a content stands for stays the same while its journal's blocks are written home.
use Rattle.hx_bytes.specs.declared.fields.Order.{Order}
use Rattle.hx_bytes.specs.Field.{number_at}
use Rattle.std.proofs.Common.{◌≡◌, ℕ, ◌+◌, ◌*◌, ◌/◌, ◌%◌, ◌<◌, ◌≤◌, ◌⊎◌, Bool, true, false, not, ◌&&◌, ◌||◌, List, length, refl, sym, ◌∙◌, ap, subst, inl, inr, arith, ltb, leb, eqb, cond, ◌≢◌}
use Rattle.std.specs.Prelude.{Option, None, Some, Result, Ok, Err}
use Rattle.std.proofs.lemmas.Bool.{and_parts, leb-true, eqb-true, not-false, and_cases, ltb-false, eqb-false, or_parts}
use Rattle.jnl_format.specs.Info.{info_of, info_fault, is_elsewhere, is_here, is_sized, is_fresh, holds, unless_fault, IsInfo}
use Rattle.jnl_format.specs.Header.{header_read_as, header_read, header_in_as, order_of, header_of, header_fault_as, is_offset, is_blhdr_as, wrapped, IsHeaderAs, IsHeader}
use Rattle.jnl_format.specs.Recovery.{Content, sector, Journal, and_then, info_in, journal_at_as, journal_as, journal_in, fresh_header, replayed, text_fault_as, recovery_at_as}
use Rattle.jnl_format.specs.Dialect.{most_blhdr}
use Rattle.jnl_format.specs.declared.dialect.Dialect.{Dialect}
use Rattle.jnl_format.specs.declared.dialect.Dialect.TheVariants.{Plain}
use Rattle.jnl_format.specs.declared.structures.Info.{Info}
use Rattle.jnl_format.specs.declared.structures.Header.{Header}
use Rattle.jnl_format.specs.declared.structures.JnlRefusal.{JnlRefusal}
use Rattle.jnl_format.specs.declared.structures.JnlRefusal.TheVariants.{OtherDevice, BadInfo, BadHeader}

-- what stands in a chain of steps that all went well
pub then_parts : {A B : Type 0} (r : Result A JnlRefusal) (next : A → Result B JnlRefusal) (b : B) → and_then r next ≡ Ok b → (a : A) × (r ≡ Ok a) × (next a ≡ Ok b)
then_parts (Ok a) next b h = (a, refl, h)
then_parts (Err e) next b h = absurd (cc h)

pub unless_parts : {T : Type 0} (fault : Option JnlRefusal) (value given : T) → unless_fault fault value ≡ Ok given → (fault ≡ None) × (value ≡ given)
unless_parts None value given h = (refl, cc h)
unless_parts (Some e) value given h = absurd (cc h)

pub ok_same : {T : Type 0} (a b : T) → (let x : Result T JnlRefusal = Ok a in x ≡ Ok b) → a ≡ b
ok_same a b h = cc h

pub first_none : (b : Bool) (x : JnlRefusal) (rest : Option JnlRefusal) → cond b (Some x) rest ≡ None → (b ≡ false) × (rest ≡ None)
first_none true x rest h = absurd (cc h)
first_none false x rest h = (refl, h)

pub info_parts : (volume at : ℕ) (info : Info) → info_fault volume (holds info 2 || holds info at) info ≡ None → IsInfo volume at info
info_parts volume at info h =
    let p1 = first_none (is_elsewhere info) OtherDevice _ h in
    let p2 = first_none (not (is_here info)) (BadInfo 0) _ p1.1 in
    let p3 = first_none (not (eqb (info.offset % 512) 0) || (holds info 2 || holds info at)) (BadInfo 36) _ p2.1 in
    let p4 = first_none (not (is_sized volume info)) (BadInfo 44) None p3.1 in
    let q = or_parts (not (eqb (info.offset % 512) 0)) (holds info 2 || holds info at) p3.0 in
    let r = or_parts (holds info 2) (holds info at) q.1 in
    let s = and_parts (eqb (info.size % 512) 0 && leb 1536 info.size) (leb (info.offset + info.size) volume) (not-false (is_sized volume info) p4.0) in
    let t = and_parts (eqb (info.size % 512) 0) (leb 1536 info.size) s.0 in
    record {
      here = not-false (is_here info) p2.0;
      not_elsewhere = p1.0;
      offset_whole = eqb-true (info.offset % 512) 0 (not-false (eqb (info.offset % 512) 0) q.0);
      size_whole = eqb-true (info.size % 512) 0 t.0;
      least = leb-true 1536 info.size t.1;
      inside = leb-true (info.offset + info.size) volume s.1;
      no_header = r.0;
      no_info = r.1;
    }

-- a sector that the journal doesn't hold lies before it or behind it
pub apart_sector : (volume at : ℕ) (info : Info) (sector : ℕ) → IsInfo volume at info → holds info sector ≡ false → (sector < info.offset / 512) ⊎ (info.offset / 512 + info.size / 512 ≤ sector)
apart_sector volume at info sector i h = elim (and_cases (ltb info.offset ((sector + 1) * 512)) (ltb (sector * 512) (info.offset + info.size)) h) [
  | inl a ↦ inl (omega (arith, ltb-false info.offset ((sector + 1) * 512) a, i.offset_whole))
  | inr b ↦ inr (omega (arith, ltb-false (sector * 512) (info.offset + info.size) b, i.offset_whole, i.size_whole))
]

-- the journal of an info block that says so
abbrev pub fresh_journal : Info → Journal
fresh_journal info = record { info = info; header = fresh_header info.size; fresh = true }

abbrev pub kept_journal : Info → Header → Journal
kept_journal info header = record { info = info; header = header; fresh = false }

-- a journal that was found is fresh, or has the header that its first sector holds
pub data FoundAs (dialect : Dialect) (content : Content) (info : Info) (journal : Journal) : Type 0 where
  is_new : is_fresh info ≡ true → journal ≡ fresh_journal info → FoundAs dialect content info journal
  is_kept : (header : Header) → is_fresh info ≡ false → header_read_as dialect info.size (sector content (info.offset / 512)) ≡ Ok header → journal ≡ kept_journal info header → FoundAs dialect content info journal

-- the same in the plain dialect
abbrev pub Found : Content → Info → Journal → Type 0
Found = FoundAs Plain

found_cases_as : (dialect : Dialect) (content : Content) (info : Info) (journal : Journal) (fresh : Bool) → is_fresh info ≡ fresh → cond fresh (Ok (fresh_journal info)) (and_then (header_read_as dialect info.size (sector content (info.offset / 512))) (λ header. Ok (kept_journal info header))) ≡ Ok journal → FoundAs dialect content info journal
found_cases_as dialect content info journal true is h = is_new is (sym (ok_same (fresh_journal info) journal h))
found_cases_as dialect content info journal false is h =
    let p = then_parts (header_read_as dialect info.size (sector content (info.offset / 512))) (λ header. Ok (kept_journal info header)) journal h in
    is_kept p.0 is p.1 (sym (ok_same (kept_journal info p.0) journal p.2))

pub found_journal_as : (dialect : Dialect) (content : Content) (info : Info) (journal : Journal) → journal_at_as dialect content info ≡ Ok journal → FoundAs dialect content info journal
found_journal_as dialect content info journal h = found_cases_as dialect content info journal (is_fresh info) refl h

found_info : (dialect : Dialect) (content : Content) (info : Info) (journal : Journal) → FoundAs dialect content info journal → info ≡ journal.info
found_info dialect content info journal (is_new f e) = ap (λ (j : Journal). j.info) (sym e)
found_info dialect content info journal (is_kept header f r e) = ap (λ (j : Journal). j.info) (sym e)

-- a journal, with what was looked at to find it
pub record IsJournalAs (dialect : Dialect) (at : ℕ) (content : Content) (journal : Journal) : Type 0 where
  pub read : info_of (sector content at) ≡ journal.info
  pub whole : info_in at content ≡ Ok journal.info
  pub info : IsInfo (length content * 512) at journal.info
  pub found : journal_at_as dialect content journal.info ≡ Ok journal

-- the same in the plain dialect
abbrev pub IsJournal : ℕ → Content → Journal → Type 0
IsJournal = IsJournalAs Plain

pub journal_parts_as : (dialect : Dialect) (at : ℕ) (content : Content) (journal : Journal) → journal_as dialect at content ≡ Ok journal → IsJournalAs dialect at content journal
unfolding journal_as
journal_parts_as dialect at content journal h =
    let p = then_parts (info_in at content) (λ info. journal_at_as dialect content info) journal h in
    let i = info_of (sector content at) in
    let u = unless_parts (info_fault (length content * 512) (holds i 2 || holds i at) i) i p.0 p.1 in
    let e : i ≡ journal.info = u.1 ∙ found_info dialect content p.0 journal (found_journal_as dialect content p.0 journal p.2) in
    record {
      read = e;
      whole = p.1 ∙ ap (λ (j : Info). Ok j) (found_info dialect content p.0 journal (found_journal_as dialect content p.0 journal p.2));
      info = subst (λ (j : Info). IsInfo (length content * 512) at j) e (info_parts (length content * 512) at i u.0);
      found = subst (λ (j : Info). journal_at_as dialect content j ≡ Ok journal) (found_info dialect content p.0 journal (found_journal_as dialect content p.0 journal p.2)) p.2;
    }

-- the same journal is found where the info block's and the journal's sectors are the same
pub same_found_as : (dialect : Dialect) (at : ℕ) (content image : Content) (journal : Journal) → journal_as dialect at content ≡ Ok journal → length image ≡ length content → sector image at ≡ sector content at → sector image (journal.info.offset / 512) ≡ sector content (journal.info.offset / 512) → journal_as dialect at image ≡ Ok journal
unfolding journal_as
same_found_as dialect at content image journal h size info header =
    let p = then_parts (info_in at content) (λ info. journal_at_as dialect content info) journal h in
    let same : p.0 ≡ journal.info = found_info dialect content p.0 journal (found_journal_as dialect content p.0 journal p.2) in
    let i : info_in at image ≡ info_in at content =
    ap (λ (s : List ℕ). let v = info_of s in unless_fault (info_fault (length image * 512) (holds v 2 || holds v at) v) v) info
    ∙ ap (λ n. let v = info_of (sector content at) in unless_fault (info_fault (n * 512) (holds v 2 || holds v at) v) v) size in
    let at_header : sector image (p.0.offset / 512) ≡ sector content (p.0.offset / 512) = subst (λ (v : Info). sector image (v.offset / 512) ≡ sector content (v.offset / 512)) (sym same) header in
    let j : journal_at_as dialect image p.0 ≡ journal_at_as dialect content p.0 =
    ap (λ (s : List ℕ). cond (is_fresh p.0) (Ok (fresh_journal p.0)) (and_then (header_read_as dialect p.0.size s) (λ header. Ok (kept_journal p.0 header)))) at_header in
    ap (λ (r : Result Info JnlRefusal). and_then r (λ info. journal_at_as dialect image info)) (i ∙ p.1) ∙ j ∙ p.2

-- a journal step by step, as it is looked for
module _ (dialect : Dialect) (at : ℕ) (content : Content) where
  pub journal_is_fresh_as : (info : Info) → info_in at content ≡ Ok info → is_fresh info ≡ true → journal_as dialect at content ≡ Ok (fresh_journal info)
  unfolding journal_as
  journal_is_fresh_as info found fresh =
      ap (λ (r : Result Info JnlRefusal). and_then r (λ i. journal_at_as dialect content i)) found
      ∙ ap (λ b. cond b (Ok (fresh_journal info)) (and_then (header_read_as dialect info.size (sector content (info.offset / 512))) (λ header. Ok (kept_journal info header)))) fresh

  pub journal_is_kept_as : (info : Info) (r : Result Header JnlRefusal) → info_in at content ≡ Ok info → is_fresh info ≡ false → header_read_as dialect info.size (sector content (info.offset / 512)) ≡ r → journal_as dialect at content ≡ and_then r (λ header. Ok (kept_journal info header))
  unfolding journal_as
  journal_is_kept_as info r found old header =
      ap (λ (q : Result Info JnlRefusal). and_then q (λ i. journal_at_as dialect content i)) found
      ∙ ap (λ b. cond b (Ok (fresh_journal info)) (and_then (header_read_as dialect info.size (sector content (info.offset / 512))) (λ h. Ok (kept_journal info h)))) old
      ∙ ap (λ (q : Result Header JnlRefusal). and_then q (λ h. Ok (kept_journal info h))) header

  pub no_journal_as : (fault : JnlRefusal) → info_in at content ≡ Err fault → journal_as dialect at content ≡ Err fault
  unfolding journal_as
  no_journal_as fault found = ap (λ (r : Result Info JnlRefusal). and_then r (λ i. journal_at_as dialect content i)) found

wrapped_parts : (size at : ℕ) (b : Bool) → eqb at size ≡ b → at % 512 ≡ 0 → 512 ≤ at → at ≤ size → 1536 ≤ size → (cond b 512 at % 512 ≡ 0) × (512 ≤ cond b 512 at) × (cond b 512 at < size)
wrapped_parts size at true is whole low high least = (omega arith, omega arith, omega arith)
wrapped_parts size at false is whole low high least = let n = eqb-false at size is in let ne : at ≢ size = n in (omega arith, omega arith, omega arith)

offset_parts : (size at : ℕ) → is_offset size at ≡ true → 1536 ≤ size → (wrapped size at % 512 ≡ 0) × (512 ≤ wrapped size at) × (wrapped size at < size)
offset_parts size at h least =
    let p = and_parts (eqb (at % 512) 0 && leb 512 at) (leb at size) h in
    let q = and_parts (eqb (at % 512) 0) (leb 512 at) p.0 in
    wrapped_parts size at (eqb at size) refl (eqb-true (at % 512) 0 q.0) (leb-true 512 at q.1) (leb-true at size p.1) least

header_fields_as : (dialect : Dialect) (order : Order) (size : ℕ) (bytes : List ℕ) → 1536 ≤ size → header_fault_as dialect order size bytes ≡ None → IsHeaderAs dialect size (header_of order size bytes)
header_fields_as dialect order size bytes least h =
    let p1 = first_none (not (eqb (number_at order 4 bytes 4) 0x12345678)) (BadHeader 4) _ h in
    let p2 = first_none (not (is_offset size (number_at order 8 bytes 8))) (BadHeader 8) _ p1.1 in
    let p3 = first_none (not (is_offset size (number_at order 8 bytes 16))) (BadHeader 16) _ p2.1 in
    let p4 = first_none (not (eqb (number_at order 8 bytes 24) size)) (BadHeader 24) _ p3.1 in
    let p5 = first_none (not (is_blhdr_as dialect (number_at order 4 bytes 32))) (BadHeader 32) _ p4.1 in
    let s = offset_parts size (number_at order 8 bytes 8) (not-false (is_offset size (number_at order 8 bytes 8)) p2.0) least in
    let e = offset_parts size (number_at order 8 bytes 16) (not-false (is_offset size (number_at order 8 bytes 16)) p3.0) least in
    let b = and_parts (eqb (number_at order 4 bytes 32 % 512) 0 && leb 512 (number_at order 4 bytes 32)) (leb (number_at order 4 bytes 32) (most_blhdr dialect)) (not-false (is_blhdr_as dialect (number_at order 4 bytes 32)) p5.0) in
    let d = and_parts (eqb (number_at order 4 bytes 32 % 512) 0) (leb 512 (number_at order 4 bytes 32)) b.0 in
    record {
      start_whole = s.0;
      start_low = s.1;
      start_high = s.2;
      end_whole = e.0;
      end_low = e.1;
      end_high = e.2;
      size = eqb-true (number_at order 8 bytes 24) size (not-false (eqb (number_at order 8 bytes 24) size) p4.0);
      blhdr_whole = eqb-true (number_at order 4 bytes 32 % 512) 0 d.0;
      blhdr_low = leb-true 512 (number_at order 4 bytes 32) d.1;
      blhdr_high = leb-true (number_at order 4 bytes 32) (most_blhdr dialect) b.1;
    }

header_by_as : (dialect : Dialect) (order : Option Order) (size : ℕ) (bytes : List ℕ) (head : Header) → 1536 ≤ size → header_in_as dialect order size bytes ≡ Ok head → IsHeaderAs dialect size head
header_by_as dialect None size bytes head least h = absurd (cc h)
header_by_as dialect (Some order) size bytes head least h =
    let p = unless_parts (header_fault_as dialect order size bytes) (header_of order size bytes) head h in
    subst (λ (x : Header). IsHeaderAs dialect size x) p.1 (header_fields_as dialect order size bytes least p.0)

pub header_parts_as : (dialect : Dialect) (size : ℕ) (bytes : List ℕ) (head : Header) → 1536 ≤ size → header_read_as dialect size bytes ≡ Ok head → IsHeaderAs dialect size head
header_parts_as dialect size bytes head least h = header_by_as dialect (order_of bytes) size bytes head least h

-- a content whose journal is refused has that fault, and so has one whose text is
pub refused_journal_as : (dialect : Dialect) (at version : ℕ) (content : Content) (fault : JnlRefusal) → journal_as dialect at content ≡ Err fault → recovery_at_as dialect at version content ≡ Err fault
unfolding recovery_at_as
refused_journal_as dialect at version content fault h = ap (λ (r : Result Journal JnlRefusal). and_then r (λ journal. unless_fault (text_fault_as dialect at version journal content) (replayed journal content))) h

pub refused_text_as : (dialect : Dialect) (at version : ℕ) (content : Content) (journal : Journal) (fault : JnlRefusal) → journal_as dialect at content ≡ Ok journal → text_fault_as dialect at version journal content ≡ Some fault → recovery_at_as dialect at version content ≡ Err fault
unfolding recovery_at_as
refused_text_as dialect at version content journal fault found h =
    ap (λ (r : Result Journal JnlRefusal). and_then r (λ j. unless_fault (text_fault_as dialect at version j content) (replayed j content))) found
    ∙ ap (λ (f : Option JnlRefusal). unless_fault f (replayed journal content)) h

-- the same in the plain dialect
pub found_journal : (content : Content) (info : Info) (journal : Journal) → journal_at_as Plain content info ≡ Ok journal → Found content info journal
found_journal = found_journal_as Plain

pub journal_parts : (at : ℕ) (content : Content) (journal : Journal) → journal_in at content ≡ Ok journal → IsJournal at content journal
journal_parts = journal_parts_as Plain

pub journal_is_kept : (at : ℕ) (content : Content) (info : Info) (r : Result Header JnlRefusal) → info_in at content ≡ Ok info → is_fresh info ≡ false → header_read info.size (sector content (info.offset / 512)) ≡ r → journal_in at content ≡ and_then r (λ header. Ok (kept_journal info header))
journal_is_kept = journal_is_kept_as Plain
