-- An image that a repair refuses can't be repaired.
use Rattle.std.proofs.Common.{◌≡◌, ℕ, length, inl, inr, sym, ◌∙◌, ap, subst, arith}
use Rattle.jnl_format.specs.Recovery.{Content, Journal, replayed}
use Rattle.jnl_replay.specs.Plan.{journal_of}
use Rattle.jnl_store.specs.Plan.{form_of, span_of}
use Rattle.hfs_volume.specs.Mount.{FoldsCase, HoldsAtMost}
use Rattle.hfs_volume.specs.Sound.{IsSound}
use Rattle.volume_repair.specs.Differing.{differing}
use Rattle.volume_repair.specs.Repair.{IsRepair}
use Rattle.hfs_serving.specs.Refusing.{RefusesImage}
use Rattle.hfs_serving.specs.declared.opening.OpenRefusal.{OpenRefusal}
use Rattle.hfs_serving.specs.declared.opening.OpenRefusal.TheVariants as opening
use Rattle.hfs_serving.proofs.Attachable.{capacity_one}
use Rattle.hfs_serving.proofs.Mounting.{keeps_case}
use Rattle.hfsx_server.specs.Repairing.{CanBeRepaired, HasRoom, HasSoundRepair, IsFoundFor, RefusesRepair}
use Rattle.hfsx_server.specs.declared.repairing.Mendable.{Mendable}
use Rattle.hfsx_server.specs.declared.repairing.RepairRefusal.{RepairRefusal}
use Rattle.hfsx_server.specs.declared.repairing.RepairRefusal.TheVariants as refusal
use Rattle.hfsx_server.proofs.Finding.{same_journal}
use Rattle.hfsx_server.proofs.Judging.{has_sound}
use Rattle.hfsx_server.proofs.Repaired.{holds_one, opens_one}

-- a content has one repair
one_repair : (start one other : Content) → IsRepair start one → IsRepair start other → one ≡ other
one_repair start one other (inl a) (inl b) = a.1 ∙ sym b.1
one_repair start one other (inl a) (inr b) = absurd (b.0 a.0)
one_repair start one other (inr a) (inl b) = absurd (a.0 b.0)
one_repair start one other (inr a) (inr b) = a.1 ∙ sym b.1

not_opened : (image : Content) (why : OpenRefusal) → RefusesImage image why → ¬ CanBeRepaired image
not_opened image (opening.Header why) is can = absurd (cc (is, can.2.opens.0.is_open.accepted))
not_opened image opening.SoftwareLocked is can = absurd (cc (is.1, can.2.opens.0.is_open.unlocked))
not_opened image (opening.Journal why) is can = absurd (cc (is.1, can.2.opens.0.recovers))
not_opened image (opening.JournalTooSmall need has) is can =
    let o = can.2.opens in
    let same = same_journal image is.1.journal o.0.journal is.1.found o.0.found in
    let most = holds_one o.0.journal has can.0 (subst (λ (j : Journal). HoldsAtMost j has) same is.1.holds) o.0.holds in
    absurd (omega (arith, most, o.1, is.2, is.3))

pub not_repaired : (image : Content) (why : RepairRefusal) → RefusesRepair image why → ¬ CanBeRepaired image
not_repaired image (refusal.Image why) is can = not_opened image why is can
not_repaired image refusal.CaseFolding is can =
    let same = (opens_one image is.0 can.0 is.1 can.1 is.2 can.2.opens).1 in
    can.2.keeps_case (subst FoldsCase same is.3)
not_repaired image (refusal.Unsound list) is can =
    let same = (opens_one image is.0 can.0 is.1 can.1 is.2 can.2.opens).1 in
    let broken = is.4 in
    let mended = one_repair can.1 broken.mended can.2.repairable.mended (subst (λ (x : Content). IsRepair x broken.mended) same broken.repair) can.2.repairable.repair in
    broken.unsound (subst IsSound (sym mended) can.2.repairable.sound)
not_repaired image (refusal.TooBig sectors capacity) is can =
    let same = opens_one image capacity can.0 is.0 can.1 is.1 can.2.opens in
    let mended = one_repair can.1 is.2.mended can.2.repairable.mended (subst (λ (x : Content). IsRepair x is.2.mended) same.1 is.2.repair) can.2.repairable.repair in
    absurd (omega (arith, same.0, is.2.count, ap (λ (x : Content). differing x is.2.mended) same.1, ap (λ (x : Content). differing can.1 x) mended, can.2.repairable.fits, is.3))

-- ---- and one that is found can

no_fold : (start : Content) (sectors : ℕ) → HasSoundRepair start sectors → ¬ FoldsCase start
no_fold start sectors r = by r.repair
  where
    by : IsRepair start r.mended → ¬ FoldsCase start
    by (inl mends) folds = absurd (omega (arith, folds, mends.0.trees.compare))
    by (inr stays) folds = keeps_case start (subst IsSound stays.1 r.sound) folds

pub can_be : (image : Content) (found : Mendable) → IsFoundFor image found → HasRoom found → CanBeRepaired image
can_be image found is room =
    let has = has_sound (replayed (journal_of found.plan) image) found.mend.changes.items is.repair in
    let low = capacity_one (span_of found.plan) (form_of found.plan) room.0 is.opened.capacity room.1 is.opened.holds in (
      is.opened.capacity,
      replayed (journal_of found.plan) image,
      record {
        opens = is.opened.opens;
        keeps_case = no_fold (replayed (journal_of found.plan) image) (length found.mend.changes.items) has;
        repairable = record { mended = has.mended; repair = has.repair; sound = has.sound; fits = omega (arith, has.count, room.2, low) };
      },
    )
