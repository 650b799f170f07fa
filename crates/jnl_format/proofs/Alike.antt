-- A content and one of its mixes with the bytes of its journal's blocks stand for the same.
use Rattle.std.proofs.Common.{◌≡◌, ◌≢◌, ℕ, ◌+◌, ◌<◌, ◌≤◌, ◌⊎◌, true, List, length, take, refl, sym, ◌∙◌, ap, subst, inl, inr, arith}
use Rattle.std.specs.Prelude.{Option, None, Some, Result, Ok, is_none, option_map}
use Rattle.std.proofs.lemmas.Bool.{and_parts}
use Rattle.volume_header.specs.Header.{header_of}
use Rattle.volume_header.specs.Refusal.{header_refusal}
use Rattle.volume_header.specs.declared.header.VolumeHeader.{VolumeHeader}
use Rattle.volume_header.specs.declared.refusal.HeaderRefusal.{HeaderRefusal}
use Rattle.jnl_format.specs.Info.{unless_fault}
use Rattle.jnl_format.specs.Ring.{bytes_from, distance, offset_after}
use Rattle.jnl_format.specs.Text.{bad_list_as, bad_list, text_homes, keeps_volume, is_same_volume}
use Rattle.jnl_format.specs.declared.blocks.Home.{Home}
use Rattle.jnl_format.specs.declared.blocks.Volume.{Volume}
use Rattle.jnl_format.specs.Recovery.{Content, sector, header_of_volume, Journal, and_then, journal_as, journal_in, text_of, volume_of, list_fault_as, foreign_fault, text_fault_as, text_fault, or_else, homes_of, with_homes, replayed, recovery_at_as, recovery_at, recovery_as, recovery, info_sector_of}
use Rattle.jnl_format.specs.declared.dialect.Dialect.{Dialect}
use Rattle.jnl_format.specs.declared.dialect.Dialect.TheVariants.{Plain}
use Rattle.jnl_format.specs.declared.structures.JnlRefusal.{JnlRefusal}
use Rattle.jnl_format.specs.declared.structures.JnlRefusal.TheVariants.{BadList}
use Rattle.jnl_format.specs.Named.{IsGoodHome, Each}
use Rattle.jnl_format.proofs.Lists.{good_text_as}
use Rattle.jnl_format.proofs.Mixing.{home_has, named_home, not_named, mixes_agree, same_homes, same_journal}
use Rattle.jnl_format.specs.Named.{IsHomeOf, MixesHomes}
use Rattle.jnl_format.proofs.Volumes.{same_parts, same_refl, bad_same_as}
use Rattle.jnl_format.specs.Keeping.{IsSame}
use Rattle.jnl_format.proofs.Recovering.{IsJournalAs, journal_parts_as, same_found_as}
use Rattle.jnl_format.specs.Keeping.{KeepsHeader}

or_none : (a b : Option JnlRefusal) → or_else a b ≡ None → (a ≡ None) × (b ≡ None)
or_none None b h = (refl, h)
or_none (Some x) b h = absurd (cc h)

map_none : (f : ℕ → JnlRefusal) (o : Option ℕ) → option_map f o ≡ None → o ≡ None
map_none f None h = refl
map_none f (Some x) h = absurd (cc h)

-- no list is bad, and the journal is no foreign one
pub text_parts_as : (dialect : Dialect) (at version : ℕ) (journal : Journal) (content : Content) → text_fault_as dialect at version journal content ≡ None
    → (bad_list_as dialect (volume_of at journal content) journal.header.order journal.header.blhdr (text_of journal content) (length (text_of journal content)) 0 ≡ None) × (foreign_fault version journal ≡ None)
text_parts_as dialect at version journal content h =
    let p = or_none (list_fault_as dialect at journal content) (foreign_fault version journal) h in
    (map_none (λ place. BadList (offset_after journal.info.size journal.header.start place)) _ p.0, p.1)

-- each home of a journal that is accepted
pub good_homes_as : (dialect : Dialect) (at version : ℕ) (journal : Journal) (content : Content) → text_fault_as dialect at version journal content ≡ None → Each (IsGoodHome (volume_of at journal content) (text_of journal content)) (homes_of journal content)
good_homes_as dialect at version journal content h =
    good_text_as dialect (volume_of at journal content) journal.header.order journal.header.blhdr (text_of journal content) (length (text_of journal content)) 0 (text_parts_as dialect at version journal content h).0

none_is : (o : Option HeaderRefusal) → is_none o ≡ true → o ≡ None
none_is None h = refl
none_is (Some x) h = absurd (cc h)

pub keeps_parts : (volume : Volume) (value : List ℕ) → keeps_volume volume value ≡ true → (header_refusal (header_of value) volume.sectors ≡ None) × IsSame volume.header (header_of value)
keeps_parts volume value h =
    let p = and_parts (is_none (header_refusal (header_of value) volume.sectors)) (is_same_volume volume.header (header_of value)) h in
    (none_is (header_refusal (header_of value) volume.sectors) p.0, same_parts volume.header (header_of value) p.1)

header_stays : (volume : Volume) (text : List ℕ) (homes : List Home) (old new : Content) → volume.sectors ≡ length old → volume.header ≡ header_of_volume old → Each (IsGoodHome volume text) homes → header_refusal (header_of_volume old) (length old) ≡ None
    → (sector new 2 ≡ sector old 2) ⊎ IsHomeOf text homes 2 (sector new 2) → KeepsHeader old new
header_stays volume text homes old new size head all accepted (inl e) = record {
  same = subst (λ (s : List ℕ). IsSame (header_of_volume old) (header_of s)) (sym e) (same_refl (header_of_volume old));
  accepted = ap (λ (s : List ℕ). header_refusal (header_of s) (length old)) e ∙ accepted;
}
header_stays volume text homes old new size head all accepted (inr h) =
    let P : Home → Type 0 = IsGoodHome volume text in
    let Q : List ℕ → Type 0 = λ value. keeps_volume volume value ≡ true in
    let k : Q (sector new 2) = home_has P Q text homes 2 (sector new 2) all (λ home good two. good.header two) h in
    let p = keeps_parts volume (sector new 2) k in
    record {
      same = subst (λ (v : VolumeHeader). IsSame v (header_of_volume new)) head p.1;
      accepted = subst (λ n. header_refusal (header_of_volume new) n ≡ None) size p.0;
    }

-- no home of the journal is one of its own sectors, or the info block's
pub not_home : (volume : Volume) (text : List ℕ) (homes : List Home) (old new : Content) (at : ℕ) → Each (IsGoodHome volume text) homes → ((home : Home) → IsGoodHome volume text home → home.sector ≢ at) → (sector new at ≡ sector old at) ⊎ IsHomeOf text homes at (sector new at) → sector new at ≡ sector old at
not_home volume text homes old new at all never (inl e) = e
not_home volume text homes old new at all never (inr h) = absurd (not_named (IsGoodHome volume text) homes at all never (named_home text homes at (sector new at) h))

pub never_own : (volume : Volume) (text : List ℕ) (at : ℕ) (home : Home) → volume.first ≤ at → at < volume.first + volume.count → IsGoodHome volume text home → home.sector ≢ at
never_own volume text at home low high good same = elim good.apart [ inl a ↦ absurd (omega arith) | inr b ↦ absurd (omega arith) ]

-- What a content and an image of it have in common, where the image has the content's journal.
pub record StandsAlikeAs (dialect : Dialect) (at version : ℕ) (journal : Journal) (content image : Content) : Type 0 where
  pub size : length image ≡ length content
  pub found : journal_as dialect at image ≡ Ok journal
  pub text : text_of journal image ≡ text_of journal content
  pub fault : text_fault_as dialect at version journal image ≡ None
  pub replayed : replayed journal image ≡ replayed journal content
  pub header : KeepsHeader content image

-- the same in the plain dialect
abbrev pub StandsAlike : ℕ → ℕ → Journal → Content → Content → Type 0
StandsAlike = StandsAlikeAs Plain

same_fault_as : (dialect : Dialect) (at version : ℕ) (journal : Journal) (content image : Content) → length image ≡ length content → text_of journal image ≡ text_of journal content → IsSame (header_of_volume content) (header_of_volume image) → text_fault_as dialect at version journal image ≡ text_fault_as dialect at version journal content
same_fault_as dialect at version journal content image size text header =
    let order = journal.header.order in
    let blhdr = journal.header.blhdr in
    let old = volume_of at journal content in
    let new = volume_of at journal image in
    let bad : bad_list_as dialect new order blhdr (text_of journal image) (length (text_of journal image)) 0 ≡ bad_list_as dialect old order blhdr (text_of journal content) (length (text_of journal content)) 0 =
    ap (λ (t : List ℕ). bad_list_as dialect new order blhdr t (length t) 0) text
    ∙ bad_same_as dialect old new order blhdr (text_of journal content) (length (text_of journal content)) 0 (record { sectors = size; first = refl; count = refl; info_sector = refl; header = header }) in
    ap (λ (o : Option ℕ). or_else (option_map (λ place. BadList (offset_after journal.info.size journal.header.start place)) o) (foreign_fault version journal)) bad

pub stands_alike_as : (dialect : Dialect) (at version : ℕ) (journal : Journal) (content image : Content) → journal_as dialect at content ≡ Ok journal → text_fault_as dialect at version journal content ≡ None → header_refusal (header_of_volume content) (length content) ≡ None
    → MixesHomes (text_of journal content) (homes_of journal content) content image → StandsAlikeAs dialect at version journal content image
stands_alike_as dialect at version journal content image found fault accepted m =
    let volume = volume_of at journal content in
    let text = text_of journal content in
    let homes = homes_of journal content in
    let all : Each (IsGoodHome volume text) homes = good_homes_as dialect at version journal content fault in
    let parts : IsJournalAs dialect at content journal = journal_parts_as dialect at content journal found in
    let own : (s : ℕ) → volume.first ≤ s → s < volume.first + volume.count → sector image s ≡ sector content s = λ s low high. not_home volume text homes content image s all (λ home good. never_own volume text s home low high good) (m.each s) in
    let info : sector image at ≡ sector content at = not_home volume text homes content image at all (λ home good. good.no_info) (m.each at) in
    let same_text : text_of journal image ≡ text = ap (λ (bytes : List ℕ). take (distance journal.info.size journal.header.start journal.header.end) (bytes_from bytes journal.header.start)) (same_journal volume.first journal.info.size content image m.size own) in
    let keeps : KeepsHeader content image = header_stays volume text homes content image refl refl all accepted (m.each 2) in
    let some : 0 < volume.count = omega (arith, parts.info.least) in
    record {
      size = m.size;
      found = same_found_as dialect at content image journal found m.size info (own volume.first (omega arith) (omega arith));
      text = same_text;
      fault = same_fault_as dialect at version journal content image m.size same_text keeps.same ∙ fault;
      replayed =
          ap (λ (t : List ℕ). with_homes t (text_homes journal.header.order journal.header.blhdr t (length t) 0) image) same_text
          ∙ same_homes text homes content image (mixes_agree text homes content image m);
      header = keeps;
    }

-- a content whose journal is accepted stands for the content with its blocks written home
pub stands_for_as : (dialect : Dialect) (at version : ℕ) (journal : Journal) (content : Content) → journal_as dialect at content ≡ Ok journal → text_fault_as dialect at version journal content ≡ None → recovery_at_as dialect at version content ≡ Ok (replayed journal content)
unfolding recovery_at_as
stands_for_as dialect at version journal content found fault =
    ap (λ (r : Result Journal JnlRefusal). and_then r (λ j. unless_fault (text_fault_as dialect at version j content) (replayed j content))) found
    ∙ ap (λ (f : Option JnlRefusal). unless_fault f (replayed journal content)) fault

-- the info block's sector and the last mounted version, as a header says them
pub record IsPlaceOf (at version : ℕ) (content : Content) : Type 0 where
  pub accepted : header_refusal (header_of_volume content) (length content) ≡ None
  pub info_sector : at ≡ info_sector_of (header_of_volume content)
  pub last_mounted : version ≡ (header_of_volume content).last_mounted_version

pub same_place : (at version : ℕ) (content image : Content) → length image ≡ length content → IsPlaceOf at version content → KeepsHeader content image → IsPlaceOf at version image
same_place at version content image size p k = record {
  accepted = ap (λ n. header_refusal (header_of_volume image) n) size ∙ k.accepted;
  info_sector = p.info_sector ∙ (let e = k.same.info_block in let f = k.same.block_size in cc);
  last_mounted = p.last_mounted ∙ sym k.same.last_mounted;
}

pub recovers_as : (dialect : Dialect) (at version : ℕ) (content : Content) → IsPlaceOf at version content → recovery_as dialect content ≡ recovery_at_as dialect at version content
recovers_as dialect at version content p = let e = p.info_sector in let f = p.last_mounted in cc

-- the same in the plain dialect
pub text_parts : (at version : ℕ) (journal : Journal) (content : Content) → text_fault at version journal content ≡ None
    → (bad_list (volume_of at journal content) journal.header.order journal.header.blhdr (text_of journal content) (length (text_of journal content)) 0 ≡ None) × (foreign_fault version journal ≡ None)
text_parts = text_parts_as Plain

pub good_homes : (at version : ℕ) (journal : Journal) (content : Content) → text_fault at version journal content ≡ None → Each (IsGoodHome (volume_of at journal content) (text_of journal content)) (homes_of journal content)
good_homes = good_homes_as Plain

pub stands_alike : (at version : ℕ) (journal : Journal) (content image : Content) → journal_in at content ≡ Ok journal → text_fault at version journal content ≡ None → header_refusal (header_of_volume content) (length content) ≡ None
    → MixesHomes (text_of journal content) (homes_of journal content) content image → StandsAlike at version journal content image
stands_alike = stands_alike_as Plain

pub stands_for : (at version : ℕ) (journal : Journal) (content : Content) → journal_in at content ≡ Ok journal → text_fault at version journal content ≡ None → recovery_at at version content ≡ Ok (replayed journal content)
stands_for = stands_for_as Plain

pub recovers : (at version : ℕ) (content : Content) → IsPlaceOf at version content → recovery content ≡ recovery_at at version content
recovers = recovers_as Plain
