-- Between a rig with its store and what is seen of them from outside.
use Rattle.std.proofs.Common.{◌≡◌, ◌<◌, ◌≤◌, ◌/◌, ◌*◌, ◌^◌, ℕ, Bool, true, false, ◌&&◌, List, [], inl, inr, ⊎_elim, length, drop, refl, sym, ◌∙◌, ap, subst, arith, eqb, cond}
use Rattle.std.specs.Prelude.{Option, None, Some, is_none, Result, Ok, Err, ◌==◌}
use Rattle.std.proofs.lemmas.Bool.{and_parts, and_from, eqb-true, eq-eqb}
use Rattle.volume_header.specs.Refusal.{header_refusal, is_locked}
use Rattle.volume_header.specs.declared.refusal.HeaderRefusal.{HeaderRefusal}
use Rattle.sector_disk.specs.Lists.{sector}
use Rattle.sector_disk.specs.Clock.{TimePasses}
use Rattle.sector_disk.specs.Disk.{State, CrashesLeave, SameSink, content}
use Rattle.jnl_format.specs.Info.{info_of, holds}
use Rattle.jnl_format.specs.Recovery.{Content, Journal, header_of_volume, info_sector_of, info_in, info_from, journal_in, recovery}
use Rattle.jnl_format.specs.Text.{is_same_volume}
use Rattle.jnl_format.specs.declared.structures.Info.{Info}
use Rattle.jnl_format.specs.declared.structures.JnlRefusal.{JnlRefusal}
use Rattle.jnl_format.proofs.Recovering.{journal_is_kept, journal_parts}
use Rattle.jnl_format.specs.Keeping.{IsSame}
use Rattle.jnl_format.proofs.Volumes.{same_as, same_parts}
use Rattle.jnl_replay.specs.declared.plan.Plan.{Plan}
use Rattle.jnl_store.specs.Spaces.{found, found_in, is_in_form, is_mountable, over}
use Rattle.jnl_store.specs.Standing.{StandsFor, StandsForEither}
use Rattle.jnl_store.specs.Store.{SameJournal, content_over, durable_of}
use Rattle.jnl_store.specs.declared.store.Store.{Store}
use Rattle.jnl_store.proofs.Journals.{HoldsJournal}
use Rattle.jnl_store.proofs.SpacedTime.{same_volume_self}
use Rattle.jnl_store.proofs.Quiet.{info_found, header_found}
use Rattle.hfs_volume.specs.Content.{JournalPlace, journal_place, volume_of}
use Rattle.hfs_volume.specs.Mount.{HasJournal, HoldsAtMost, least_capacity}
use Rattle.hfs_serving.specs.Outside.{outside_of}
use Rattle.hfs_serving.specs.Serving.{IsEither, MayCommit}
use Rattle.hfs_volume.specs.Aside.{NamesJournal}
use Rattle.hfs_serving.specs.Opening.{Opens}
use Rattle.hfs_serving.proofs.Recoveries.{recovery_parts}

-- ---- what is found in an image

-- what is found hangs on these parts of a plan alone
pub found_by : (first second : Plan) (image : Content) → first.place ≡ second.place → first.info ≡ second.info → first.header.blhdr ≡ second.header.blhdr → found first image ≡ found second image
unfolding found
found_by first second image place info blhdr = go first second (recovery image) place info blhdr
  where
    go : (a b : Plan) (r : Result Content JnlRefusal) → a.place ≡ b.place → a.info ≡ b.info → a.header.blhdr ≡ b.header.blhdr → found_in a image r ≡ found_in b image r
    go a b (Err e) p i h = refl
    go a b (Ok x) p i h = ap (λ t. cond t x []) (go_mountable a b x p i h)
      where
        go_form : (a b : Plan) (r : Result Journal JnlRefusal) → a.info ≡ b.info → a.header.blhdr ≡ b.header.blhdr → is_in_form a r ≡ is_in_form b r
        go_form a b (Err e) i h = refl
        go_form a b (Ok j) i h =
            ap (λ (n : Info). eqb j.info.size n.size && eqb j.header.blhdr a.header.blhdr && eqb j.info.offset n.offset) i ∙ ap (λ n. eqb j.info.size b.info.size && eqb j.header.blhdr n && eqb j.info.offset b.info.offset) h

        go_mountable : (a b : Plan) (x : Content) → a.place ≡ b.place → a.info ≡ b.info → a.header.blhdr ≡ b.header.blhdr → is_mountable a image x ≡ is_mountable b image x
        go_mountable a b x p i h =
            let first = is_none (header_refusal (header_of_volume image) (length image)) && is_same_volume (header_of_volume x) (header_of_volume image) in
            ap (λ q. first && is_in_form a (journal_in q.info_sector image) && eqb q.info_sector (info_sector_of (header_of_volume image))) p
            ∙ ap (λ t. first && t && eqb b.place.info_sector (info_sector_of (header_of_volume image))) (go_form a b (journal_in b.place.info_sector image) i h)

-- a journal in the same form has the same contents found
pub found_same : (old new : Store) (image : Content) → SameJournal old new → found new.plan image ≡ found old.plan image
found_same old new image journal = found_by new.plan old.plan image journal.place journal.info journal.blhdr

-- what an image stands for is found in it
module _ (plan : Plan) (old image recovered : Content) (most : plan.info.size ≤ 2 ^ 40) (h : HoldsJournal plan old) (size : length image ≡ length old) (stands : StandsFor plan old image recovered) where
  accepted : header_refusal (header_of_volume image) (length image) ≡ None
  accepted = ap (λ n. header_refusal (header_of_volume image) n) size ∙ stands.volume.accepted

  place : plan.place.info_sector ≡ info_sector_of (header_of_volume image)
  place =
      h.place.info_sector ∙ ap (λ n. n * ((header_of_volume old).block_size / 512)) (sym stands.volume.same.info_block)
      ∙ ap (λ n. (header_of_volume image).journal_info_block * (n / 512)) (sym stands.volume.same.block_size)

  info : info_in plan.place.info_sector image ≡ Ok plan.info
  info = ap (λ n. info_from n plan.place.info_sector (sector image plan.place.info_sector)) size ∙ ap (λ (b : List ℕ). info_from (length old) plan.place.info_sector b) stands.info ∙ info_found plan old h

  journal_is : journal_in plan.place.info_sector image ≡ Ok (record { info = plan.info; header = stands.header; fresh = false })
  journal_is =
      journal_is_kept plan.place.info_sector image plan.info (Ok stands.header) info h.old
      (header_found plan stands.header (sector image (plan.info.offset / 512)) (drop 44 (sector old (plan.info.offset / 512))) stands.form most stands.spelled)

  mountable : is_mountable plan image recovered ≡ true
  mountable =
      let same : is_same_volume (header_of_volume recovered) (header_of_volume image) ≡ true =
      same_as (header_of_volume image) (header_of_volume recovered) (header_of_volume image) ((recovery_parts image recovered stands.stands).header accepted).same ∙ same_volume_self (header_of_volume image) in
      let s = eqb plan.info.size plan.info.size in
      let b = eqb stands.header.blhdr plan.header.blhdr in
      let o = eqb plan.info.offset plan.info.offset in
      let form : is_in_form plan (journal_in plan.place.info_sector image) ≡ true =
      ap (is_in_form plan) journal_is ∙ and_from (s && b) o (and_from s b (eq-eqb plan.info.size plan.info.size refl) (eq-eqb stands.header.blhdr plan.header.blhdr stands.form.blhdr)) (eq-eqb plan.info.offset plan.info.offset refl) in
      let ok = is_none (header_refusal (header_of_volume image) (length image)) in
      let first = is_same_volume (header_of_volume recovered) (header_of_volume image) in
      let second = is_in_form plan (journal_in plan.place.info_sector image) in
      and_from (ok && first && second) (eqb plan.place.info_sector (info_sector_of (header_of_volume image)))
      (and_from (ok && first) second (and_from ok first (ap (λ (o : Option HeaderRefusal). is_none o) accepted) same) form) (eq-eqb plan.place.info_sector (info_sector_of (header_of_volume image)) place)

  pub found_stands : found plan image ≡ recovered
  unfolding found
  found_stands = ap (found_in plan image) stands.stands ∙ ap (λ t. cond t recovered []) mountable

-- ---- time

-- what crashes leave of a disk, as it is found
pub lifted : (plan : Plan) (old new : State) (P Q : Content → List ℕ → Type 0) → TimePasses old.clock new.clock P → ((image : Content) (told : List ℕ) → P image told → Q (found plan image) told) → TimePasses (outside_of plan old).clock (outside_of plan new).clock Q
lifted plan old new P Q time as_found = record {
  later = time.later;
  keeps = λ t recovered told le left. (left.0, time.keeps t left.0 told le left.1, left.2);
  nothing_else = λ t recovered told le left.
      ⊎_elim (λ before. inl (left.0, before, left.2)) (λ now. inr (subst (λ (c : Content). Q c told) (sym left.2) (as_found left.0 told now))) (time.nothing_else t left.0 told le left.1);
}

-- a commit, by what the store says of it
module _ (a b : ℕ) (store : Store) (disk new : State) (most : store.plan.info.size ≤ 2 ^ 40) (h : HoldsJournal store.plan (content disk)) (durable_size : length (durable_of store (content disk)) ≡ length (content disk)) (over_size : length (content_over store (content disk)) ≡ length (content disk)) where
  either_found : (image : Content) → StandsForEither store disk image → IsEither (over a b store disk) (found store.plan image)
  either_found image stands =
      let recovered = stands.0 in
      let whole : length recovered ≡ length (content disk) = ⊎_elim (λ durable. durable.size ∙ durable_size) (λ target. target.size ∙ over_size) stands.2 in
      let size : length image ≡ length (content disk) = sym (recovery_parts image recovered stands.1.stands).size ∙ whole in
      subst (IsEither (over a b store disk)) (sym (found_stands store.plan (content disk) image recovered most h size stands.1)) stands.2

  pub commit_seen : CrashesLeave disk new (StandsForEither store disk) → SameSink disk new → MayCommit (over a b store disk) (outside_of store.plan disk) (outside_of store.plan new)
  commit_seen leaves sink = record {
    time = lifted store.plan disk new _ _ leaves.time (λ image told p. (either_found image p.0, p.1));
    leaves = λ recovered left. subst (IsEither (over a b store disk)) (sym left.2) (either_found left.0 (leaves.now left.0 left.1));
    told = sink.told;
  }

-- ---- what is found can be mounted

cond_parts : (t : Bool) (x r : Content) → r ≡ cond t x [] → 0 < length r → (t ≡ true) × (x ≡ r)
cond_parts true x r is some = (refl, sym is)
cond_parts false x r is some = absurd (omega (arith, some, ap (λ (c : Content). length c) is))

open_parts : (plan : Plan) (image : Content) (result : Result Content JnlRefusal) (r : Content) → r ≡ found_in plan image result → 0 < length r → (is_mountable plan image r ≡ true) × (result ≡ Ok r)
open_parts plan image (Ok x) r is some =
    let p = cond_parts (is_mountable plan image x) x r is some in
    (ap (is_mountable plan image) (sym p.1) ∙ p.0, ap (λ (c : Content). Ok c) p.1)
open_parts plan image (Err e) r is some = absurd (omega (arith, some, ap (λ (c : Content). length c) is))

none_of : {A : Type 0} (o : Option A) → is_none o ≡ true → o ≡ None
none_of None is = refl
none_of (Some x) is = absurd (cc is)

-- the journal's sizes and place are the plan's
pub record HasSizes (plan : Plan) (journal : Journal) : Type 0 where
  pub size : journal.info.size ≡ plan.info.size
  pub blhdr : journal.header.blhdr ≡ plan.header.blhdr
  pub offset : journal.info.offset ≡ plan.info.offset

module _ (plan : Plan) (image recovered : Content) (is : recovered ≡ found plan image) (some : 0 < length recovered) where
  parts : (is_mountable plan image recovered ≡ true) × (recovery image ≡ Ok recovered)
  unfolding found
  parts = open_parts plan image (recovery image) recovered is some

  abbrev ok : Bool
  ok = is_none (header_refusal (header_of_volume image) (length image))

  abbrev same_one : Bool
  same_one = is_same_volume (header_of_volume recovered) (header_of_volume image)

  abbrev in_form : Bool
  in_form = is_in_form plan (journal_in plan.place.info_sector image)

  third : ((ok && same_one && in_form) ≡ true) × (eqb plan.place.info_sector (info_sector_of (header_of_volume image)) ≡ true)
  third = and_parts (ok && same_one && in_form) (eqb plan.place.info_sector (info_sector_of (header_of_volume image))) parts.0

  second : ((ok && same_one) ≡ true) × (in_form ≡ true)
  second = and_parts (ok && same_one) in_form third.0

  first : (ok ≡ true) × (same_one ≡ true)
  first = and_parts ok same_one second.0

  same : IsSame (header_of_volume recovered) (header_of_volume image)
  same = same_parts (header_of_volume recovered) (header_of_volume image) first.1

  at : plan.place.info_sector ≡ info_sector_of (header_of_volume image)
  at = eqb-true plan.place.info_sector (info_sector_of (header_of_volume image)) third.1

  sizes_of : (journal : Journal) → HasJournal image journal → HasSizes plan journal
  sizes_of journal has =
      let there : journal_in plan.place.info_sector image ≡ Ok journal = subst (λ n. journal_in n image ≡ Ok journal) (sym at) has in
      let form : is_in_form plan (Ok journal) ≡ true = ap (is_in_form plan) (sym there) ∙ second.1 in
      let s = eqb journal.info.size plan.info.size in
      let b = eqb journal.header.blhdr plan.header.blhdr in
      let q = and_parts (s && b) (eqb journal.info.offset plan.info.offset) form in
      let p = and_parts s b q.0 in
      record { size = eqb-true journal.info.size plan.info.size p.0; blhdr = eqb-true journal.header.blhdr plan.header.blhdr p.1; offset = eqb-true journal.info.offset plan.info.offset q.1 }

  -- so a mount opens it, where it isn't locked and the plan's journal is large enough
  pub found_opens : (capacity : ℕ) → is_locked (header_of_volume recovered).attributes ≡ false → ((journal : Journal) → HasSizes plan journal → HoldsAtMost journal capacity) → least_capacity ≤ capacity → Opens image capacity recovered
  found_opens capacity unlocked holds large =
      let r = recovery_parts image recovered parts.1 in (
        record {
          is_open = record {
            accepted = none_of (header_refusal (header_of_volume image) (length image)) first.0;
            unlocked = ap (λ n. n == 1) same.bit_15 ∙ unlocked;
          };
          journal = r.journal;
          found = r.found;
          recovers = parts.1;
          holds = holds r.journal (sizes_of r.journal r.found);
        },
        large,
      )

  -- and its info block names the plan's journal
  pub found_names : (stood : Content) → (volume_of stood).journal ≡ record { offset = plan.info.offset; size = plan.info.size } → NamesJournal stood recovered
  found_names stood journal_is =
      let r = recovery_parts image recovered parts.1 in
      let z = sizes_of r.journal r.found in
      let where_it_is : info_sector_of (header_of_volume recovered) ≡ info_sector_of (header_of_volume image) =
      ap (λ n. n * ((header_of_volume recovered).block_size / 512)) (sym same.info_block) ∙ ap (λ n. (header_of_volume image).journal_info_block * (n / 512)) (sym same.block_size) in
      let there : sector recovered (info_sector_of (header_of_volume recovered)) ≡ sector image (info_sector_of (header_of_volume image)) = ap (λ n. sector recovered n) where_it_is ∙ r.info in
      let read : info_of (sector image (info_sector_of (header_of_volume image))) ≡ r.journal.info = (journal_parts (info_sector_of (header_of_volume image)) image r.journal r.found).read in
      ap journal_place there ∙ ap (λ (i : Info). place_in i) read ∙ ap (λ n. place_of n r.journal.info.size) z.offset ∙ ap (λ n. place_of plan.info.offset n) z.size ∙ sym journal_is
    where
      place_of : ℕ → ℕ → JournalPlace
      place_of offset size = record { offset = offset; size = size }

      place_in : Info → JournalPlace
      place_in info = record { offset = info.offset; size = info.size }
