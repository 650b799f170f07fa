-- Spaces over stores that differ in their counts of faults alone, and over the same sectors.
use Rattle.std.proofs.Common.{◌≡◌, ◌⊎◌, ℕ, ◌&&◌, List, [], ◌∷◌, ◌++◌, sym, ◌∙◌, ap, subst}
use Rattle.std.specs.Prelude.{IsTrue, ◌↔◌}
use Rattle.sector_disk.specs.Disk.{Candidates, State, content, content_of, only, SameDisk, SameSink}
use Rattle.sector_disk.specs.Lists.{Content}
use Rattle.sector_disk.specs.Space.{SameSectors, SameSpace}
use Rattle.jnl_format.specs.declared.blocks.Home.{Home}
use Rattle.jnl_format.specs.Named.{IsNamed}
use Rattle.jnl_replay.specs.declared.plan.Plan.{Plan}
use Rattle.jnl_store.specs.Batch.{Staged, names}
use Rattle.jnl_store.specs.InUse.{keeps_lists}
use Rattle.jnl_store.specs.Journal.{IsClosed, IsSpilled, are_open}
use Rattle.jnl_format.specs.Recovery.{homes_of}
use Rattle.jnl_replay.specs.Plan.{journal_of}
use Rattle.jnl_store.specs.Overlay.{overlay}
use Rattle.jnl_store.specs.Spaces.{over}
use Rattle.jnl_store.specs.Store.{IsLive, KeepsRing, content_over, durable_of, is_kept, SameButFaults}
use Rattle.jnl_store.specs.declared.store.Store.{Store}
use Rattle.jnl_store.proofs.SpacedPuts.{iff_same}
use Rattle.jnl_store.proofs.Settling.{same_durable}

-- a store of the same plan and puts keeps the same
pub kept_same : (old new : Store) (sectors : ℕ) (candidates : Candidates) → new.plan ≡ old.plan → new.batch ≡ old.batch → is_kept new sectors candidates ≡ is_kept old sectors candidates
unfolding is_kept
kept_same old new sectors candidates plan batch =
    ap (λ (p : Plan). keeps_lists p candidates new.batch.live && are_open p sectors new.batch.all && are_open p sectors new.batch.kept) plan
    ∙ ap (λ (b : Staged). keeps_lists old.plan candidates b.live && are_open old.plan sectors b.all && are_open old.plan sectors b.kept) batch

pub durable_same : (old new : Store) (c d : Content) → new.plan ≡ old.plan → d ≡ c → durable_of new d ≡ durable_of old c
durable_same old new c d plan e = same_durable new old d plan ∙ ap (durable_of old) e

pub content_same : (old new : Store) (c d : Content) → new.plan ≡ old.plan → new.batch ≡ old.batch → d ≡ c → content_over new d ≡ content_over old c
content_same old new c d plan batch e = ap (λ (b : Staged). overlay b.all (durable_of new d)) batch ∙ ap (overlay old.batch.all) (durable_same old new c d plan e)

pub live_same : (old new : Store) (c d : Content) (s : ℕ) → new.batch ≡ old.batch → homes_of (journal_of new.plan) d ≡ homes_of (journal_of old.plan) c → IsLive new d s ↔ IsLive old c s
live_same old new c d s batch homes =
    subst (λ (b : Staged). (IsTrue (names b.all s) ⊎ IsNamed (homes_of (journal_of new.plan) d) s) ↔ IsLive old c s) (sym batch)
    (subst (λ (hs : List Home). (IsTrue (names old.batch.all s) ⊎ IsNamed hs s) ↔ IsLive old c s) (sym homes) (iff_same (IsLive old c s)))

pub homes_still : (old new : Store) (c d : Content) → new.plan ≡ old.plan → d ≡ c → homes_of (journal_of new.plan) d ≡ homes_of (journal_of old.plan) c
homes_still old new c d plan e = ap (λ (p : Plan). homes_of (journal_of p) d) plan ∙ ap (homes_of (journal_of old.plan)) e

pub closed_same : (old new : Store) (s : ℕ) → new.plan ≡ old.plan → IsClosed new.plan s ↔ IsClosed old.plan s
closed_same old new s plan = subst (λ (p : Plan). IsClosed p s ↔ IsClosed old.plan s) (sym plan) (iff_same (IsClosed old.plan s))

module _ (first second : ℕ) (old new : Store) (before after : State) (store : SameButFaults old new) (same : after.candidates ≡ before.candidates) where
  pub sectors_same : SameSectors (over first second old before) (over first second new after)
  sectors_same =
      let c : content after ≡ content before = ap content_of same in
      record {
        content = content_same old new (content before) (content after) store.plan store.batch c;
        durable = durable_same old new (content before) (content after) store.plan c;
        spilled = λ s.
            subst (λ (p : Plan). IsSpilled p after.candidates s ↔ IsSpilled old.plan before.candidates s) (sym store.plan)
            (subst (λ (d : Candidates). IsSpilled old.plan d s ↔ IsSpilled old.plan before.candidates s) (sym same) (iff_same (IsSpilled old.plan before.candidates s)));
        live = λ s. live_same old new (content before) (content after) s store.batch (homes_still old new (content before) (content after) store.plan c);
        closed = λ s. closed_same old new s store.plan;
      }

  pub space_same : SameDisk before after → SameSink before after → after.barriers ≡ before.barriers → SameSpace (over first second old before) (over first second new after)
  space_same disk sink barriers = record {
    tells =
        ap (λ b. b && is_kept new after.sectors after.candidates) disk.tells
        ∙ ap (λ n. before.tells && is_kept new n after.candidates) disk.sectors
        ∙ ap (λ (d : Candidates). before.tells && is_kept new before.sectors d) same
        ∙ ap (λ b. before.tells && b) (kept_same old new before.sectors before.candidates store.plan store.batch);
    names = ap (λ (l : List ℕ). (first ∷ second ∷ []) ++ l) disk.names;
    tells_left = disk.tells_left;
    told = sink.told;
    sink_faults = sink.faults;
    barriers = barriers;
    sectors = disk.sectors;
  }

  pub keeps_same : SameDisk before after → IsTrue before.tells × KeepsRing old before.sectors before.candidates → IsTrue after.tells × KeepsRing new after.sectors after.candidates
  keeps_same disk keeps = (
    disk.tells ∙ keeps.0,
    record {
      kept =
          ap (λ n. is_kept new n after.candidates) disk.sectors
          ∙ ap (λ (d : Candidates). is_kept new before.sectors d) same
          ∙ kept_same old new before.sectors before.candidates store.plan store.batch ∙ keeps.1.kept;
      settled = λ rests. subst (λ (d : Candidates). d ≡ only (content_of d)) (sym same) (keeps.1.settled (sym store.unsettled ∙ rests));
    },
  )
