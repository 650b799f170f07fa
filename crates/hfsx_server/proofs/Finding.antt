-- What an image stands for, and why it isn't mounted.
use Rattle.std.proofs.Common.{◌≡◌, ◌<◌, ℕ, Bool, List, sym, ◌∙◌, ap, subst, arith, cond}
use Rattle.std.specs.Prelude.{Ok}
use Rattle.std.proofs.lemmas.Bool.{eq-eqb}
use Rattle.jnl_format.specs.Recovery.{Content, Journal, recovery}
use Rattle.jnl_replay.specs.Peeking.{peeked}
use Rattle.jnl_replay.specs.Viewing.{shown}
use Rattle.jnl_replay.specs.declared.index.Peek.{Peek}
use Rattle.hfs_volume.specs.Broken.{Finding}
use Rattle.hfs_volume.specs.Mount.{FoldsCase, HasJournal, HoldsAtMost, IsMountable}
use Rattle.hfs_volume.specs.Sound.{IsSound}
use Rattle.hfs_serving.specs.Checking.{RefusesMount}
use Rattle.hfs_serving.specs.Refusing.{RefusesImage}
use Rattle.hfs_serving.specs.declared.checking.MountRefusal.{MountRefusal}
use Rattle.hfs_serving.specs.declared.checking.MountRefusal.TheVariants as mount
use Rattle.hfs_serving.specs.declared.opening.OpenRefusal.{OpenRefusal}
use Rattle.hfs_serving.specs.declared.opening.OpenRefusal.TheVariants as opening

pub shown_is : (peek : Peek) (sectors : ℕ) (c recovered : Content) → peek.sectors ≡ sectors → peeked peek c ≡ recovered → shown peek sectors c ≡ recovered
shown_is peek sectors c recovered same is = ap (λ (b : Bool). cond b (peeked peek c) c) (eq-eqb sectors peek.sectors (sym same)) ∙ is

pub same_recovered : (c one other : Content) → recovery c ≡ Ok one → recovery c ≡ Ok other → one ≡ other
same_recovered c one other a b = cc (a, b)

pub same_journal : (c : Content) (one other : Journal) → HasJournal c one → HasJournal c other → one ≡ other
same_journal c one other a b = cc (a, b)

-- a transaction of one journal holds one number of sectors at most
fits_most : (journal : Journal) (a b : ℕ) → HoldsAtMost journal a → HoldsAtMost journal b → a < b → ⊥
fits_most journal a b one other less = absurd (omega (arith, one.is_most b less, other.fits))

-- ---- an image with a refusal isn't mounted

unopened : (c : Content) (why : OpenRefusal) → RefusesImage c why → ¬ IsMountable c
unopened c (opening.Header why) is mounts = absurd (cc (is, mounts.2.is_open.accepted))
unopened c opening.SoftwareLocked is mounts = absurd (cc (is.1, mounts.2.is_open.unlocked))
unopened c (opening.Journal why) is mounts = absurd (cc (is.1, mounts.2.recovers))
unopened c (opening.JournalTooSmall need has) is mounts =
    let m = mounts.2 in
    let same = same_journal c is.1.journal m.journal is.1.found m.found in
    let there : HoldsAtMost is.1.journal mounts.0 = subst (λ (j : Journal). HoldsAtMost j mounts.0) (sym same) m.holds in
    fits_most is.1.journal has mounts.0 is.1.holds there (omega (arith, m.large, is.2, is.3))

pub unmounted : (c : Content) (list : List Finding) (why : MountRefusal) → RefusesMount c list why → ¬ IsMountable c
unmounted c list (mount.Image why) is mounts = unopened c why is mounts
unmounted c list mount.CaseFolding is mounts =
    let same = same_recovered c is.1 mounts.1 is.2.0.recovers mounts.2.recovers in
    mounts.2.keeps_case (subst FoldsCase same is.3)
unmounted c list mount.Unsound is mounts =
    let same = same_recovered c is.1 mounts.1 is.2.0.recovers mounts.2.recovers in
    is.3.unsound (subst IsSound (sym same) mounts.2.sound)
