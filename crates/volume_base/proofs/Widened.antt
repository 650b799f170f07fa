-- Calls one behind another that put other sectors: those of trees that grew, or free ones.
use Rattle.std.proofs.Common.{◌≡◌, ◌⊎◌, ◌≤◌, ℕ, ◌+◌, IsTrue, List, [], ◌∙◌, arith, inl, inr, ⊎_elim}
use Rattle.std.specs.Prelude.{Result}
use Rattle.hx_bytes.specs.declared.faults.Trouble.{Trouble}
use Rattle.sector_disk.specs.Lists.{Content}
use Rattle.sector_disk.specs.Space.{Space}
use Rattle.volume_base.specs.Touching.{Touches}
use Rattle.volume_base.specs.declared.volume.Volume.{Volume}
use Rattle.volume_base.proofs.Commanding.{touches_both}
use Rattle.volume_base.proofs.Seeing.{cause_since}
use Rattle.volume_base.specs.Frame.{Ran}

-- what touches these sectors touches those, where these are among them
pub touches_those : (committed : Content) (these those : ℕ → Type 0) (a b : Space) → (IsTrue a.tells → (s : ℕ) → these s → those s) → Touches committed these a b → Touches committed those a b
touches_those committed these those a b wider was = record {
  same = was.same;
  durable = was.durable;
  spilled = was.spilled;
  still = was.still;
  live = λ tells s l. ⊎_elim (λ before. inl before) (λ here. inr (wider tells s here)) (was.live tells s l);
  closed = was.closed;
  still_put = was.still_put;
  spare = was.spare;
  faults = was.faults;
  time = was.time;
}

module _ {S : Type 0} {space_of : S → Space} {follows : S → S → Type 0} where
  -- it put no others than those either
  pub ran_wider : {T : Type 0} {these those : ℕ → Type 0} {most : ℕ} {w : Volume} {a b : S} {r : Result T Trouble} → Ran space_of follows these most w a b r → (IsTrue (space_of a).tells → (s : ℕ) → these s → those s) → Ran space_of follows those most w a b r
  ran_wider {T} {these} {those} {most} {w} {a} {b} {r} was wider = record {
    below = was.below;
    cause = was.cause;
    service = was.service;
    stands = was.stands;
    touches = λ committed. touches_those committed these those (space_of a) (space_of b) wider (was.touches committed);
    spent = was.spent;
  }

  -- one call behind another, each of whose sectors are among those
  pub ran_then : {T U : Type 0} {these other those : ℕ → Type 0} {n k most : ℕ} {v w : Volume} {a b c : S} {r : Result T Trouble} {s : Result U Trouble} → ((x y z : S) → follows x y → follows y z → follows x z)
      → Ran space_of follows these n v a b r → Ran space_of follows other k w b c s
      → (IsTrue (space_of a).tells → (at : ℕ) → these at → those at) → (IsTrue (space_of b).tells → (at : ℕ) → other at → those at) → (IsTrue (space_of a).tells → n + k ≤ most)
      → Ran space_of follows those most w a c s
  ran_then {T} {U} {these} {other} {those} {n} {k} {most} {v} {w} {a} {b} {c} {r} {s} both first second wider_first wider_second within = record {
    below = both a b c first.below second.below;
    cause = cause_since (space_of a).faults (space_of b).faults (space_of c).faults s first.cause.later second.cause;
    service = second.service;
    stands = second.stands;
    touches = λ committed. touches_both committed those (space_of a) (space_of b) (space_of c)
        (touches_those committed these those (space_of a) (space_of b) wider_first (first.touches committed))
        (touches_those committed other those (space_of b) (space_of c) wider_second (second.touches committed));
    spent = λ tells. let later : IsTrue (space_of b).tells = (first.touches []).same.tells ∙ tells in omega (arith, within tells, first.spent tells, second.spent later);
  }
