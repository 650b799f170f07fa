-- Spaces that were read and then changed by a command, and a command that does nothing.
use Rattle.std.proofs.Common.{◌≡◌, ◌⊎◌, ◌≤◌, ℕ, IsTrue, List, length, refl, sym, ◌∙◌, ap, subst, arith, inl, inr, ⊎_elim}
use Rattle.sector_disk.specs.Lists.{Content, sector}
use Rattle.sector_disk.specs.Clock.{TimePasses}
use Rattle.sector_disk.specs.Space.{Space, AgreesOutside, LeavesDurable}
use Rattle.sector_disk.proofs.Passing.{none_passes, both_pass}
use Rattle.sector_disk.proofs.SpaceLaws.{space_none, space_both, iff_none, iff_both}
use Rattle.hfs_volume.specs.Aside.{IsFreeSector}
use Rattle.volume_base.specs.Touching.{Looks, Touches}

-- what was read alone
pub touches_looks : (committed : Content) (these : ℕ → Type 0) (a b : Space) → Looks these a b → Touches committed these a b
touches_looks committed these a b was = record {
  same = was.same;
  durable = λ tells. record { size = ap (λ (c : Content). length c) (was.durable tells); each = λ at. inl (ap (λ (c : Content). sector c at) (was.durable tells)) };
  spilled = λ tells s now. inl ((was.spilled tells s).0 now);
  still = λ tells s before. (was.spilled tells s).1 before;
  live = was.live;
  closed = was.closed;
  still_put = was.still_put;
  spare = omega (arith, was.spare);
  faults = was.faults;
  time = was.time;
}

pub touches_none : (committed : Content) (these : ℕ → Type 0) (a : Space) → Touches committed these a a
touches_none committed these a = record {
  same = space_none a;
  durable = λ tells. record { size = refl; each = λ at. inl refl };
  spilled = λ tells s now. inl now;
  still = λ tells s before. before;
  live = λ tells s l. inl l;
  closed = λ tells s. iff_none (a.closed s);
  still_put = λ s p. p;
  spare = omega arith;
  faults = omega arith;
  time = λ tells. none_passes a.clock (LeavesDurable a);
}

-- one after the other
pub touches_both : (committed : Content) (these : ℕ → Type 0) (a b c : Space) → Touches committed these a b → Touches committed these b c → Touches committed these a c
touches_both committed these a b c p q =
    let told : IsTrue a.tells → IsTrue b.tells = λ tells. p.same.tells ∙ tells in
    record {
      same = space_both a b c p.same q.same;
      durable = λ tells. record {
        size = (q.durable (told tells)).size ∙ (p.durable tells).size;
        each = λ at. ⊎_elim (λ e. ⊎_elim (λ f. inl (e ∙ f)) (λ here. inr (here.0, q.still (told tells) at here.1)) ((p.durable tells).each at)) (λ here. inr here) ((q.durable (told tells)).each at);
      };
      spilled = λ tells s now. ⊎_elim (λ m. p.spilled tells s m) (λ free. inr free) (q.spilled (told tells) s now);
      still = λ tells s before. q.still (told tells) s (p.still tells s before);
      live = λ tells s l. ⊎_elim (λ m. p.live tells s m) (λ here. inr here) (q.live (told tells) s l);
      closed = λ tells s. iff_both (a.closed s) (b.closed s) (c.closed s) (p.closed tells s) (q.closed (told tells) s);
      still_put = λ s l. q.still_put s (p.still_put s l);
      spare = omega (arith, p.spare, q.spare);
      faults = omega (arith, p.faults, q.faults);
      time = λ tells. both_pass a.clock b.clock c.clock (LeavesDurable b) (LeavesDurable c) (LeavesDurable c) (p.time tells) (q.time (told tells)) (λ image told_bytes l. leaves tells image told_bytes l) (λ image told_bytes l. l);
    }
  where
    leaves : IsTrue a.tells → (image : List (List ℕ)) (told_bytes : List ℕ) → LeavesDurable b image told_bytes → LeavesDurable c image told_bytes
    leaves tells image told_bytes l =
        let later : IsTrue b.tells = p.same.tells ∙ tells in (
          record {
            size = l.0.size ∙ sym (q.durable later).size;
            each = λ at. ⊎_elim
                (λ e. ⊎_elim (λ f. inl (e ∙ sym f)) (λ here. inr (inl here.1)) ((q.durable later).each at))
                (λ here. inr (⊎_elim (λ spilled. inl (q.still later at spilled)) (λ closed. inr ((q.closed later at).1 closed)) here))
                (l.0.each at);
          },
          l.1 ∙ sym q.same.told,
        )
