-- Puts, spills and reads, and stretches of them.
use Rattle.std.proofs.Common.{◌≡◌, ◌⊎◌, ◌↔◌, ℕ, Bool, true, false, List, [], inl, inr, ⊎_elim, set, refl, sym, ◌∙◌, subst, eqb, length-set, get_or-set_other}
use Rattle.std.proofs.lemmas.Bool.{eqb-true, eqb-false}
use Rattle.sector_disk.specs.Lists.{sector}
use Rattle.sector_disk.specs.Clock.{TimePasses}
use Rattle.sector_disk.specs.Disk.{State}
use Rattle.sector_disk.specs.Space.{Space, AgreesOutside, LeavesDurable, SameSpace, SameSectors, Puts, Spills, MayHaveSpilled}
use Rattle.sector_disk.proofs.Passing.{none_passes, both_pass, passes_with}
use Rattle.jnl_format.specs.Recovery.{Content}
use Rattle.jnl_store.specs.Spaces.{over}
use Rattle.jnl_store.specs.declared.store.Store.{Store}
use Rattle.hfs_serving.specs.Outside.{Outside, outside_of}
use Rattle.hfs_volume.specs.Aside.{IsFreeSector}
use Rattle.hfs_serving.specs.Serving.{IsAsDurable, Touches, TouchesSpace}
use Rattle.hfs_serving.proofs.Agreeing.{agrees_self, agrees_more, agrees_both}
use Rattle.jnl_store.specs.Store.{plan_of}

-- the same the other way round
agrees_back : (these : ℕ → Type 0) (a b : Content) → AgreesOutside these a b → AgreesOutside these b a
agrees_back these a b agrees = record { size = sym agrees.size; each = λ at. ⊎_elim (λ same. inl (sym same)) (λ is. inr is) (agrees.each at) }

-- one sector was set
agrees_set : (these : ℕ → Type 0) (c : Content) (at : ℕ) (value : List ℕ) → these at → AgreesOutside these c (set c at value)
agrees_set these c at value is = record { size = length-set c at value; each = λ s. go s (eqb s at) refl }
  where
    go : (s : ℕ) (same : Bool) → eqb s at ≡ same → (sector (set c at value) s ≡ sector c s) ⊎ these s
    go s true e = inr (subst these (sym (eqb-true s at e)) is)
    go s false e = inl (get_or-set_other c at s value [] (eqb-false s at e))

module _ (committed : Content) where
  pub touches_none : (space : Space) → TouchesSpace committed space space
  touches_none space = record {
    time = none_passes space.clock _;
    durable = agrees_self space.spilled space.durable;
    spilled = λ s now. inl now;
    still = λ s was. was;
    closed = λ s. (λ c. c, λ c. c);
    told = refl;
  }

  pub touches_both : (old mid new : Space) → TouchesSpace committed old mid → TouchesSpace committed mid new → TouchesSpace committed old new
  touches_both old mid new first second =
      let more : (s : ℕ) → mid.spilled s ⊎ mid.closed s → new.spilled s ⊎ new.closed s = λ s which. ⊎_elim (λ spilled. inl (second.still s spilled)) (λ closed. inr ((second.closed s).1 closed)) which in
      let durable : AgreesOutside (λ s. new.spilled s ⊎ new.closed s) new.durable mid.durable =
      agrees_more new.spilled (λ s. new.spilled s ⊎ new.closed s) new.durable mid.durable (λ s spilled. inl spilled) (agrees_back new.spilled mid.durable new.durable second.durable) in
      record {
        time =
            both_pass old.clock mid.clock new.clock _ _ _ first.time second.time
            (λ recovered told p. (agrees_both (λ s. new.spilled s ⊎ new.closed s) new.durable mid.durable recovered durable (agrees_more (λ s. mid.spilled s ⊎ mid.closed s) (λ s. new.spilled s ⊎ new.closed s) mid.durable recovered more p.0), p.1 ∙ sym second.told))
            (λ recovered told p. p);
        durable = agrees_both new.spilled old.durable mid.durable new.durable (agrees_more mid.spilled new.spilled old.durable mid.durable second.still first.durable) second.durable;
        spilled = λ s now. ⊎_elim (λ was. first.spilled s was) (λ free. inr free) (second.spilled s now);
        still = λ s was. second.still s (first.still s was);
        closed = λ s. (λ now. (first.closed s).0 ((second.closed s).0 now), λ was. (second.closed s).1 ((first.closed s).1 was));
        told = second.told ∙ first.told;
      }

  -- ---- the calls of a space

  module _ (old new : Space) (time : TimePasses old.clock new.clock (LeavesDurable new)) (same : SameSpace old new) where
    pub get_touches : SameSectors old new → TouchesSpace committed old new
    get_touches sectors = record {
      time = time;
      durable = subst (λ (d : Content). AgreesOutside new.spilled old.durable d) (sym sectors.durable) (agrees_self new.spilled old.durable);
      spilled = λ s now. inl ((sectors.spilled s).0 now);
      still = λ s was. (sectors.spilled s).1 was;
      closed = sectors.closed;
      told = same.told;
    }

    pub put_touches : (at : ℕ) (value : List ℕ) → Puts old at value new → TouchesSpace committed old new
    put_touches at value puts = record {
      time = time;
      durable = subst (λ (d : Content). AgreesOutside new.spilled old.durable d) (sym puts.durable) (agrees_self new.spilled old.durable);
      spilled = λ s now. inl ((puts.spilled s).0 now);
      still = λ s was. (puts.spilled s).1 was;
      closed = puts.closed;
      told = same.told;
    }

    -- into a block that is free in what was committed
    pub spill_touches : (at : ℕ) (value : List ℕ) → IsFreeSector committed at → Spills old at value new → TouchesSpace committed old new
    spill_touches at value free spills = record {
      time = time;
      durable = subst (λ (d : Content). AgreesOutside new.spilled old.durable d) (sym spills.durable) (agrees_set new.spilled old.durable at value ((spills.spilled at).1 (inr refl)));
      spilled = λ s now. ⊎_elim (λ was. inl was) (λ here. inr (subst (IsFreeSector committed) (sym here) free)) ((spills.spilled s).0 now);
      still = λ s was. (spills.spilled s).1 (inl was);
      closed = spills.closed;
      told = same.told;
    }

    -- a spill that failed: where the durable content changed, the sector is one of those spilled
    pub failed_touches : (at : ℕ) (value : List ℕ) → IsFreeSector committed at → MayHaveSpilled old at value new → TouchesSpace committed old new
    failed_touches at value free may = record {
      time = time;
      durable =
          ⊎_elim (λ spilled. subst (λ (d : Content). AgreesOutside new.spilled old.durable d) (sym spilled.0) (agrees_set new.spilled old.durable at value spilled.1))
          (λ same. subst (λ (d : Content). AgreesOutside new.spilled old.durable d) (sym same) (agrees_self new.spilled old.durable)) may.durable;
      spilled = λ s now. ⊎_elim (λ was. inl was) (λ here. inr (subst (IsFreeSector committed) (sym here) free)) (may.spilled s now);
      still = may.still;
      closed = may.closed;
      told = same.told;
    }

-- From outside, where a crash leaves now what the store keeps.
pub touches_seen : (committed : Content) (a b c d : ℕ) (store new : Store) (disk after : State) → TouchesSpace committed (over a b store disk) (over c d new after)
    → ((recovered : Content) → (outside_of (plan_of new) after).leaves recovered → IsAsDurable (over c d new after) recovered)
    → Touches committed (over a b store disk) (outside_of (plan_of store) disk) (over c d new after) (outside_of (plan_of new) after)
touches_seen committed a b c d store new disk after touches leaves = record {
  time = passes_with _ _ _ _ touches.time (λ recovered told p. (p.0, p.1 ∙ touches.told));
  leaves = leaves;
  durable = touches.durable;
  spilled = touches.spilled;
  still = touches.still;
  closed = touches.closed;
  told = touches.told;
}

-- One stretch of puts and spills behind another, from outside: a step that found no memory, and the undo behind it.
pub touches_on : (committed : Content) (a : Space) (x : Outside) (b : Space) (y : Outside) (c : Space) (z : Outside) → Touches committed a x b y → Touches committed b y c z → Touches committed a x c z
touches_on committed a x b y c z first second =
    let more : (s : ℕ) → b.spilled s ⊎ b.closed s → c.spilled s ⊎ c.closed s = λ s which. ⊎_elim (λ spilled. inl (second.still s spilled)) (λ closed. inr ((second.closed s).1 closed)) which in
    let durable : AgreesOutside (λ s. c.spilled s ⊎ c.closed s) c.durable b.durable =
    agrees_more c.spilled (λ s. c.spilled s ⊎ c.closed s) c.durable b.durable (λ s spilled. inl spilled) (agrees_back c.spilled b.durable c.durable second.durable) in
    record {
      time =
          both_pass x.clock y.clock z.clock _ _ _ first.time second.time
          (λ recovered told p. (agrees_both (λ s. c.spilled s ⊎ c.closed s) c.durable b.durable recovered durable (agrees_more (λ s. b.spilled s ⊎ b.closed s) (λ s. c.spilled s ⊎ c.closed s) b.durable recovered more p.0), p.1))
          (λ recovered told p. (p.0, p.1 ∙ first.told));
      leaves = second.leaves;
      durable = agrees_both c.spilled a.durable b.durable c.durable (agrees_more b.spilled c.spilled a.durable b.durable second.still first.durable) second.durable;
      spilled = λ s now. ⊎_elim (λ was. first.spilled s was) (λ free. inr free) (second.spilled s now);
      still = λ s was. second.still s (first.still s was);
      closed = λ s. (λ now. (first.closed s).0 ((second.closed s).0 now), λ was. (second.closed s).1 ((first.closed s).1 was));
      told = second.told ∙ first.told;
    }

-- An undo drops puts in memory alone: what stands below is the same, whatever is read now.
pub undo_touches : (committed : Content) (old : Space) (outside : Outside) (new : Space) → new.durable ≡ old.durable → ((s : ℕ) → new.spilled s ↔ old.spilled s) → ((s : ℕ) → new.closed s ↔ old.closed s)
    → ((recovered : Content) → outside.leaves recovered → IsAsDurable old recovered) → Touches committed old outside new outside
undo_touches committed old outside new durable spilled closed leaves = record {
  time = none_passes outside.clock _;
  leaves = λ recovered left.
      agrees_more (λ s. old.spilled s ⊎ old.closed s) (λ s. new.spilled s ⊎ new.closed s) new.durable recovered (λ s which. ⊎_elim (λ was. inl ((spilled s).1 was)) (λ shut. inr ((closed s).1 shut)) which)
      (subst (λ (d : Content). AgreesOutside (λ s. old.spilled s ⊎ old.closed s) d recovered) (sym durable) (leaves recovered left));
  durable = subst (λ (d : Content). AgreesOutside new.spilled old.durable d) (sym durable) (agrees_self new.spilled old.durable);
  spilled = λ s now. inl ((spilled s).0 now);
  still = λ s was. (spilled s).1 was;
  closed = closed;
  told = refl;
}
