-- Calls that may take free blocks and give others back: behind reads, one behind another, and at an early end.
use Rattle.std.proofs.Common.{◌≡◌, ◌≤◌, ℕ, ◌+◌, IsTrue, List, length, sym, ◌∙◌, ap, subst, arith}
use Rattle.std.specs.Prelude.{⊤, Result, Ok, Err, OnOk}
use Rattle.std.specs.List.{Contains}
use Rattle.std.specs.Result.{IsErrAnd}
use Rattle.std.proofs.lemmas.Result.{err_from_is_err_and}
use Rattle.hx_bytes.specs.declared.faults.Trouble.{Trouble}
use Rattle.hx_bytes.specs.declared.faults.Trouble.TheVariants.{Memory}
use Rattle.alloc_bitmap.specs.Map.{BlockMap}
use Rattle.sector_disk.proofs.SpaceLaws.{space_both}
use Rattle.sector_disk.specs.Lists.{Content}
use Rattle.sector_disk.specs.Space.{Space}
use Rattle.volume_header.specs.declared.header.VolumeHeader.{VolumeHeader}
use Rattle.volume_base.specs.Frame.{Looked, Ran, Spills}
use Rattle.volume_base.specs.Holding.{HoldsOn, IsLaidOutAs, KeepsUsed}
use Rattle.volume_base.specs.Standing.{StandsOver, own_sectors}
use Rattle.volume_base.specs.Touching.{Touches}
use Rattle.volume_base.specs.declared.volume.Volume.{Volume}
use Rattle.volume_base.proofs.Commanding.{touches_both}
use Rattle.volume_base.proofs.Framed.{handed}
use Rattle.volume_base.proofs.KeptUsed.{used_read}
use Rattle.volume_base.proofs.Looked.{looked_again, looked_none}
use Rattle.volume_base.proofs.Seeing.{cause_since}

pub on_any : {T E : Type 0} {Q : Type 0} (r : Result T E) → Q → OnOk r Q
on_any (Ok x) holds = holds
on_any (Err e) holds = tt

module _ {S : Type 0} {space_of : S → Space} {follows : S → S → Type 0} where
  -- the volume's own sectors were put
  pub spills_ran : {T : Type 0} {most : ℕ} (v : Volume) {w : Volume} {a b : S} {r : Result T Trouble} → Ran space_of follows (λ s. Contains (own_sectors v) s) most w a b r → KeepsUsed v w → own_sectors w ≡ own_sectors v → Spills space_of follows most v w a b r
  spills_ran {T} {most} v {w} {a} {b} {r} ran used own = record {
    below = ran.below;
    cause = ran.cause;
    service = ran.service;
    stands = ran.stands;
    holds = λ committed was. on_any r (used.holds committed was);
    touches = λ committed was laid. ran.touches committed;
    same = (ran.touches (space_of a).content).same;
    spent = ran.spent;
    own = own;
    shrunk = used.shrunk;
    capacity = used.capacity;
  }

  -- it was read alone
  pub spills_looked : {T : Type 0} (v : Volume) {w : Volume} {a b : S} {r : Result T Trouble} → Looked space_of follows v w a b r → Spills space_of follows 0 v w a b r
  spills_looked v {w} {a} {b} looked = spills_ran v looked.edits.ran (used_read v w (space_of a) (space_of b) looked.reads) looked.edits.own

  -- more sectors are more than fewer
  pub spills_fewer : {T : Type 0} {few many : ℕ} {v w : Volume} {a b : S} {r : Result T Trouble} → Spills space_of follows few v w a b r → (IsTrue (space_of a).tells → few ≤ many) → Spills space_of follows many v w a b r
  spills_fewer was below = record {
    below = was.below;
    cause = was.cause;
    service = was.service;
    stands = was.stands;
    holds = was.holds;
    touches = was.touches;
    same = was.same;
    spent = λ tells. omega (arith, below tells, was.spent tells);
    own = was.own;
    shrunk = was.shrunk;
    capacity = was.capacity;
  }

  -- nothing was done
  pub spills_none : {T : Type 0} {most : ℕ} {v : Volume} {a : S} {x : T} → ((s : S) → follows s s) → StandsOver v (space_of a) → Spills space_of follows most v v a a (Ok x)
  spills_none {T} {most} {v} {a} {x} none stands = spills_fewer (spills_looked v (looked_none {x = x} none stands)) (λ tells. omega arith)

  -- another answer is given
  pub spills_ok : {T U : Type 0} {most : ℕ} {v w : Volume} {a b : S} {x : T} {y : U} → Spills space_of follows most v w a b (Ok x) → Spills space_of follows most v w a b (Ok y)
  spills_ok was = record {
    below = was.below;
    cause = record { later = was.cause.later; failed = tt };
    service = was.service;
    stands = was.stands;
    holds = was.holds;
    touches = was.touches;
    same = was.same;
    spent = was.spent;
    own = was.own;
    shrunk = was.shrunk;
    capacity = was.capacity;
  }

  -- memory is wanting behind it
  pub spills_short : {T U : Type 0} {most : ℕ} {v w : Volume} {a b : S} {r : Result T Trouble} → Spills space_of follows most v w a b r → Spills {T = U} space_of follows most v w a b (Err Memory)
  spills_short was = record {
    below = was.below;
    cause = record { later = was.cause.later; failed = tt };
    service = was.service;
    stands = tt;
    holds = λ committed held. tt;
    touches = was.touches;
    same = was.same;
    spent = was.spent;
    own = was.own;
    shrunk = was.shrunk;
    capacity = was.capacity;
  }

  -- the fault is handed on
  pub spills_err : {T U : Type 0} {most : ℕ} {v w : Volume} {a b : S} {e : Trouble} {q : Result U Trouble} → IsErrAnd q (λ y. y ≡ e) → Spills {T = T} space_of follows most v w a b (Err e) → Spills space_of follows most v w a b q
  spills_err {T} {U} {most} {v} {w} {a} {b} {e} {q} handed_on was =
      let p = err_from_is_err_and q handed_on in
      subst (λ (r : Result U Trouble). Spills space_of follows most v w a b r) (sym (p.1 ∙ ap Err p.2)) (record {
        below = was.below;
        cause = handed {T = T} {U = U} e (space_of a).faults (space_of b).faults was.cause;
        service = was.service;
        stands = tt;
        holds = λ committed held. tt;
        touches = was.touches;
        same = was.same;
        spent = was.spent;
        own = was.own;
        shrunk = was.shrunk;
        capacity = was.capacity;
      })

  -- one call behind another that answered
  pub spills_then : {T U : Type 0} {n k most : ℕ} (u v : Volume) {w : Volume} {a b c : S} {x : T} {s : Result U Trouble} → ((x y z : S) → follows x y → follows y z → follows x z)
      → v.header.block_size ≡ u.header.block_size → length v.map.used ≡ length u.map.used
      → Spills space_of follows n u v a b (Ok x) → Spills space_of follows k v w b c s → (IsTrue (space_of a).tells → n + k ≤ most) → Spills space_of follows most u w a c s
  spills_then {T} {U} {n} {k} {most} u v {w} {a} {b} {c} {x} {s} both size long first second within = record {
    below = both a b c first.below second.below;
    cause = cause_since (space_of a).faults (space_of b).faults (space_of c).faults s first.cause.later second.cause;
    service = second.service;
    stands = second.stands;
    holds = λ committed was. second.holds committed (first.holds committed was);
    touches = λ committed was laid. touches_both committed (λ at. Contains (own_sectors u) at) (space_of a) (space_of b) (space_of c) (first.touches committed was laid)
        (subst (λ (l : List ℕ). Touches committed (λ at. Contains l at) (space_of b) (space_of c)) first.own
        (second.touches committed (first.holds committed was) (record { block = laid.block ∙ sym size; total = laid.total ∙ sym long })));
    same = space_both (space_of a) (space_of b) (space_of c) first.same second.same;
    spent = λ tells. omega (arith, within tells, first.spent tells, second.spent (first.same.tells ∙ tells));
    own = second.own ∙ first.own;
    shrunk = second.shrunk ∙ first.shrunk;
    capacity = second.capacity ∙ first.capacity;
  }

  -- behind a call that only read
  pub spills_behind : {T U : Type 0} {k most : ℕ} (u v : Volume) {w : Volume} {a b c : S} {r : Result T Trouble} {s : Result U Trouble} → ((x y z : S) → follows x y → follows y z → follows x z)
      → Looked space_of follows u v a b r → Spills space_of follows k v w b c s → (IsTrue (space_of a).tells → k ≤ most) → Spills space_of follows most u w a c s
  spills_behind {T} {U} {k} {most} u v {w} {a} {b} {c} {r} {s} both first second within =
      spills_then {T = ⊤} {U = U} {n = 0} {k = k} {most = most} u v {w = w} {a = a} {b = b} {c = c} {x = tt} {s = s} both (ap (λ (h : VolumeHeader). h.block_size) first.reads.keeps.header) (ap (λ (m : BlockMap). length m.used) first.reads.keeps.map)
      (spills_looked u (looked_again {y = tt} first)) second (λ tells. omega (arith, within tells))

  -- nothing was done behind what was read
  pub spills_read : {T U : Type 0} {most : ℕ} (u : Volume) {v : Volume} {a b : S} {r : Result T Trouble} {y : U} → Looked space_of follows u v a b r → Spills space_of follows most u v a b (Ok y)
  spills_read u {v} {a} {b} {r} {y} looked = spills_fewer (spills_looked u (looked_again {y = y} looked)) (λ tells. omega arith)

  -- behind a change of the volume in memory that loses no block
  pub spills_from : {T : Type 0} {most : ℕ} (u v : Volume) {w : Volume} {a b : S} {r : Result T Trouble} → KeepsUsed u v → own_sectors v ≡ own_sectors u → v.header.block_size ≡ u.header.block_size → length v.map.used ≡ length u.map.used
      → Spills space_of follows most v w a b r → Spills space_of follows most u w a b r
  spills_from u v {w} {a} {b} {r} kept own size long was = record {
    below = was.below;
    cause = was.cause;
    service = was.service;
    stands = was.stands;
    holds = λ committed held. was.holds committed (kept.holds committed held);
    touches = λ committed held laid. subst (λ (l : List ℕ). Touches committed (λ at. Contains l at) (space_of a) (space_of b)) own
        (was.touches committed (kept.holds committed held) (record { block = laid.block ∙ sym size; total = laid.total ∙ sym long }));
    same = was.same;
    spent = was.spent;
    own = was.own ∙ own;
    shrunk = was.shrunk ∙ kept.shrunk;
    capacity = was.capacity ∙ kept.capacity;
  }
