-- A store's commit, and what it keeps, as they are seen from outside.
use Rattle.std.proofs.Common.{◌≡◌, ◌≤◌, ◌^◌, ℕ, zero, suc, List, [], ◌∷◌, length, refl, sym, ◌∙◌, ap, subst, arith}
use Rattle.std.specs.Prelude.{IsTrue}
use Rattle.sector_disk.specs.Clock.{TimePasses}
use Rattle.sector_disk.specs.Disk.{Candidates, State, CrashesLeave, IsImage, SameSink, ToldPrefix, candidates_of, content, only}
use Rattle.sector_disk.specs.Space.{AgreesOutside}
use Rattle.sector_disk.proofs.Stages.{image_only}
use Rattle.jnl_format.specs.Recovery.{Content}
use Rattle.jnl_replay.specs.declared.plan.Plan.{Plan}
use Rattle.jnl_store.specs.Journal.{IsClosed}
use Rattle.jnl_store.specs.Overlay.{overlay}
use Rattle.jnl_store.specs.Spaces.{found, over}
use Rattle.jnl_store.specs.Standing.{MakesDurable, StandsForEither, StandsBetween}
use Rattle.jnl_store.specs.Store.{SameJournal, content_over, durable_of, puts_of}
use Rattle.jnl_store.specs.declared.puts.Put.{Put}
use Rattle.jnl_store.specs.declared.store.Store.{Store}
use Rattle.jnl_store.proofs.Journals.{HoldsJournal}
use Rattle.hfs_serving.specs.Outside.{outside_of}
use Rattle.hfs_serving.specs.Serving.{IsAsDurable, Commits, TellsOut}
use Rattle.hfs_serving.proofs.Agreeing.{agrees_self}
use Rattle.hfs_serving.proofs.Bridging.{commit_seen, lifted, found_stands}
use Rattle.hfs_serving.proofs.Recoveries.{recovery_parts}

pub few_only : (c : Content) (s : ℕ) → length (candidates_of (only c) s) ≤ 1
few_only [] s = omega arith
few_only (v ∷ c) zero = omega arith
few_only (v ∷ c) (suc s) = few_only c s

-- the same journal closes the same sectors
closed_same : (old new : Store) → SameJournal old new → (s : ℕ) → IsClosed new.plan s → IsClosed old.plan s
closed_same old new journal s =
    let e1 = journal.place in
    let e2 = journal.info in
    λ closed. subst IsTrue (cc (e1, e2)) closed

closed_back : (old new : Store) → SameJournal old new → (s : ℕ) → IsClosed old.plan s → IsClosed new.plan s
closed_back old new journal s =
    let e1 = journal.place in
    let e2 = journal.info in
    λ closed. subst IsTrue (cc (e1, e2)) closed

-- An Ok of a commit, over the outside of the store from before it.
module _ (a b : ℕ) (store new : Store) (disk after : State) (most : store.plan.info.size ≤ 2 ^ 40) (h : HoldsJournal store.plan (content disk)) (durable_size : length (durable_of store (content disk)) ≡ length (content disk)) (over_size : length (content_over store (content disk)) ≡ length (content disk)) where
  pub commits_seen : CrashesLeave disk after (StandsForEither store disk) → SameSink disk after → MakesDurable store new disk after (content_over store (content disk)) → puts_of new ≡ [] → SameJournal store new
      → Commits (over a b store disk) (outside_of store.plan disk) (over a b new after) (outside_of store.plan after)
  commits_seen leaves sink makes nothing journal =
      let durable = durable_of new (content after) in
      let over_is : durable ≡ content_over new (content after) = ap (λ (puts : List Put). overlay puts durable) (sym nothing) in
      let size : length (content after) ≡ length (content disk) = sym (recovery_parts (content after) durable makes.stands.stands).size ∙ makes.agrees.size ∙ over_size in
      record {
        may = commit_seen a b store disk after most h durable_size over_size leaves sink;
        durable = makes.agrees;
        content = subst (λ (d : Content). AgreesOutside (IsClosed store.plan) (content_over store (content disk)) d) over_is makes.agrees;
        live = makes.live;
        nothing = λ s spilled. absurd (omega (arith, spilled.0, few_only (content after) s, ap (λ (c : Candidates). length (candidates_of c s)) makes.settled));
        closed = λ s. (closed_same store new journal s, closed_back store new journal s);
        leaves = λ recovered left.
            let image_is : left.0 ≡ content after = image_only (content after) left.0 (subst (λ (d : Candidates). IsImage d left.0) makes.settled left.1) in
            let is : recovered ≡ durable = left.2 ∙ ap (found store.plan) image_is ∙ found_stands store.plan (content disk) (content after) durable most h size makes.stands in
            subst (IsAsDurable (over a b new after)) (sym is) (agrees_self _ durable);
      }

-- What a store keeps is what a crash leaves: by its law on each image.
module _ (a b : ℕ) (store : Store) (disk : State) (most : store.plan.info.size ≤ 2 ^ 40) (h : HoldsJournal store.plan (content disk)) (durable_size : length (durable_of store (content disk)) ≡ length (content disk))
    (law : (image : Content) → IsImage disk.candidates image → StandsBetween store disk.candidates image) where
  pub leaves_seen : (recovered : Content) → (outside_of store.plan disk).leaves recovered → IsAsDurable (over a b store disk) recovered
  leaves_seen recovered left =
      let stands = law left.0 left.1 in
      let size : length left.0 ≡ length (content disk) = sym (recovery_parts left.0 stands.0 stands.1.stands).size ∙ stands.2.size ∙ durable_size in
      subst (IsAsDurable (over a b store disk)) (sym (left.2 ∙ found_stands store.plan (content disk) left.0 stands.0 most h size stands.1)) stands.2

-- Bytes that a rig tells, seen from outside.
pub tells_seen : (plan : Plan) (old new : State) (text : List ℕ) → TimePasses old.clock new.clock (λ image told. IsImage old.candidates image × ToldPrefix old.told text told) → new.candidates ≡ old.candidates → ToldPrefix old.told text new.told
    → TellsOut (outside_of plan old) text (outside_of plan new)
tells_seen plan old new text time candidates told = record {
  time = lifted plan old new _ _ time (λ image now p. ((image, p.0, refl), p.1));
  leaves = λ recovered left. (left.0, subst (λ (d : Candidates). IsImage d left.0) candidates left.1, left.2);
  told = told;
}
