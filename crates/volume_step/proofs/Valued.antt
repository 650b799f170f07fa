-- Commands that change values of attributes: what is answered, and what they did to the volume.
use Rattle.std.proofs.Common.{◌≡◌, ◌≤◌, ℕ, ◌+◌, true, List, IsTrue, sym, ◌∙◌, ap, subst, arith}
use Rattle.std.specs.Prelude.{IfNone, IfSome, None, Ok, OnOk, Option, Some, Result, Err}
use Rattle.std.specs.List.{Contains}
use Rattle.std.specs.Result.{IsErrAnd}
use Rattle.std.proofs.lemmas.Result.{err_from_is_err_and}
use Rattle.alloc_bitmap.specs.declared.bitmap.Bitmap.{Bitmap}
use Rattle.jnl_format.specs.Recovery.{Content}
use Rattle.hx_bytes.specs.declared.faults.Trouble.{Trouble}
use Rattle.sector_disk.specs.Space.{Space}
use Rattle.sector_disk.proofs.SpaceLaws.{space_both}
use Rattle.hfs_language.specs.declared.command.Command.{Command}
use Rattle.hfs_volume.specs.Content.{volume_of}
use Rattle.hfs_volume.specs.Cost.{cost_of}
use Rattle.hfs_volume.specs.TreeOf.{tree_of}
use Rattle.hfs_volume.specs.Weight.{Edits, edits_of, room_with, values_of, with_values}
use Rattle.hfs_volume.specs.declared.cost.ValueChange.{ValueChange}
use Rattle.volume_base.specs.Fitting.{AreMetValued, is_met, needs_of, needs_of_values, takable_in}
use Rattle.volume_base.specs.Frame.{Frees, Looked, Serves, Spills}
use Rattle.volume_base.specs.Holding.{HoldsOn}
use Rattle.volume_base.specs.Looking.{ReadsVolume}
use Rattle.volume_base.specs.Room.{capacity_of}
use Rattle.volume_base.specs.Standing.{own_sectors}
use Rattle.volume_base.specs.Touching.{Touches}
use Rattle.volume_base.specs.declared.volume.Volume.{Volume}
use Rattle.volume_base.proofs.Commanding.{touches_both, touches_looks}
use Rattle.volume_base.proofs.Framed.{handed}
use Rattle.volume_base.proofs.Seeing.{cause_since}
use Rattle.volume_base.proofs.Still.{own_still}
use Rattle.volume_step.specs.Performing.{Performs}
use Rattle.volume_step.specs.Steps.{IsMet}
use Rattle.volume_step.proofs.Done.{holds_kept}
use Rattle.volume_step.proofs.Performed.{Own}
use Rattle.volume_step.proofs.ReadyData.{any_ok}
use Rattle.volume_step.proofs.Widening.{laid_still}

-- ---- what is answered

pub if_some : {A : Type 0} (P : A → Type 0) (o : Option A) (x : A) → o ≡ Some x → IfSome o P → P x
if_some {A} P o x is was = subst (λ (z : Option A). IfSome z P) is was

pub if_none : {A : Type 0} (P : Type 0) (o : Option A) → o ≡ None → IfNone o P → P
if_none {A} P o is was = subst (λ (z : Option A). IfNone z P) is was

-- ---- behind reads

-- what is met is met still
pub command_still : (asked : Command) (v w : Volume) (a b : Space) → ReadsVolume v w a b → IsTrue a.tells → IsMet asked v a → IsMet asked w b
command_still asked v w a b reads tells met =
    subst
    (λ (k : ℕ × Bitmap × Content × ℕ). is_met (cost_of (with_values (takable_in k.1) (values_of (volume_of k.2) (tree_of k.2) asked) (needs_of (edits_of (tree_of k.2) asked))) (room_with k.0 (takable_in k.1) (volume_of k.2))) k.3 ≡ true)
    {x = (capacity_of v, v.map, a.content, a.spare)} {y = (capacity_of w, w.map, b.content, b.spare)} (λ i. (sym reads.keeps.capacity i, sym reads.keeps.map i, sym (reads.looks.content tells) i, sym reads.looks.spare i)) met

pub valued_still : (asked : Edits) (change : ValueChange) (v w : Volume) (a b : Space) → ReadsVolume v w a b → IsTrue a.tells → AreMetValued asked change v a → AreMetValued asked change w b
valued_still asked change v w a b reads tells met =
    subst (λ (k : ℕ × Bitmap × Content × ℕ). is_met (cost_of (needs_of_values (takable_in k.1) asked change) (room_with k.0 (takable_in k.1) (volume_of k.2))) k.3 ≡ true) {x = (capacity_of v, v.map, a.content, a.spare)} {y = (capacity_of w, w.map, b.content, b.spare)}
    (λ i. (sym reads.keeps.capacity i, sym reads.keeps.map i, sym (reads.looks.content tells) i, sym reads.looks.spare i)) met

-- ---- what was done to the volume

module _ {S : Type 0} {space_of : S → Space} {follows : S → S → Type 0} where
  -- another answer is given, or the fault is handed on
  pub spills_ok : {T U : Type 0} {most : ℕ} {v w : Volume} {a b : S} {x : T} {y : U} → Spills space_of follows most v w a b (Ok x) → Spills space_of follows most v w a b (Ok y)
  spills_ok was = record {
    below = was.below;
    cause = record { later = was.cause.later; failed = tt };
    service = was.service;
    stands = was.stands;
    holds = was.holds;
    touches = was.touches;
    same = was.same;
    spent = was.spent;
    own = was.own;
    shrunk = was.shrunk;
    capacity = was.capacity;
  }

  pub spills_err : {T U : Type 0} {most : ℕ} {v w : Volume} {a b : S} {e : Trouble} {q : Result U Trouble} → IsErrAnd q (λ y. y ≡ e) → Spills {T = T} space_of follows most v w a b (Err e) → Spills space_of follows most v w a b q
  spills_err {T} {U} {most} {v} {w} {a} {b} {e} {q} handed_on was =
      let p = err_from_is_err_and q handed_on in
      subst (λ (r : Result U Trouble). Spills space_of follows most v w a b r) (sym (p.1 ∙ ap Err p.2)) (record {
        below = was.below;
        cause = handed {T = T} {U = U} e (space_of a).faults (space_of b).faults was.cause;
        service = was.service;
        stands = tt;
        holds = λ committed held. tt;
        touches = was.touches;
        same = was.same;
        spent = was.spent;
        own = was.own;
        shrunk = was.shrunk;
        capacity = was.capacity;
      })

  -- it read alone
  pub spills_looked : {T : Type 0} {v w : Volume} {a b : S} {r : Result T Trouble} (most : ℕ) → Looked space_of follows v w a b r → Spills space_of follows most v w a b r
  spills_looked {T} {v} {w} {a} {b} {r} most looked = record {
    below = looked.edits.ran.below;
    cause = looked.edits.ran.cause;
    service = looked.stands.service;
    stands = any_ok r looked.stands;
    holds = λ committed held. any_ok r (holds_kept committed v w looked.reads.keeps.map held);
    touches = λ committed held laid. touches_looks committed (Own v) (space_of a) (space_of b) looked.reads.looks;
    same = looked.reads.looks.same;
    spent = λ tells. omega (arith, looked.reads.looks.spare);
    own = looked.edits.own;
    shrunk = looked.reads.keeps.shrunk;
    capacity = looked.reads.keeps.capacity;
  }

  -- a call behind one that read alone
  pub spills_behind : {T U : Type 0} {u v w : Volume} {a b c : S} {r : Result T Trouble} {s : Result U Trouble} → ((x y z : S) → follows x y → follows y z → follows x z)
      → Looked space_of follows u v a b r → Spills space_of follows (space_of b).spare v w b c s → Spills space_of follows (space_of a).spare u w a c s
  spills_behind {T} {U} {u} {v} {w} {a} {b} {c} {r} {s} both first second = record {
    below = both a b c first.edits.ran.below second.below;
    cause = cause_since (space_of a).faults (space_of b).faults (space_of c).faults s first.edits.ran.cause.later second.cause;
    service = second.service;
    stands = second.stands;
    holds = λ committed held. second.holds committed (holds_kept committed u v first.reads.keeps.map held);
    touches = λ committed held laid. touches_both committed (Own u) (space_of a) (space_of b) (space_of c) (touches_looks committed (Own u) (space_of a) (space_of b) first.reads.looks)
        (subst (λ (l : List ℕ). Touches committed (λ s. Contains l s) (space_of b) (space_of c)) (own_still u v (space_of a) (space_of b) first.reads)
        (second.touches committed (holds_kept committed u v first.reads.keeps.map held) (laid_still committed u v first.reads.keeps.header first.reads.keeps.map laid)));
    same = space_both (space_of a) (space_of b) (space_of c) first.reads.looks.same second.same;
    spent = λ tells. omega arith;
    own = second.own ∙ own_still u v (space_of a) (space_of b) first.reads;
    shrunk = second.shrunk ∙ first.reads.keeps.shrunk;
    capacity = second.capacity ∙ first.reads.keeps.capacity;
  }

  -- a command that spilled was performed
  pub performs_spills : {T : Type 0} {most : ℕ} {v w : Volume} {a b : S} {r : Result T Trouble} → Spills space_of follows most v w a b r → OnOk r (Serves w (space_of b)) → Performs space_of follows (Own v) v w a b r
  performs_spills was serves = record {
    below = was.below;
    cause = was.cause;
    service = was.service;
    serves = serves;
    holds = was.holds;
    capacity = was.capacity;
    touches = was.touches;
    same = was.same;
  }

  -- and one that may have given blocks back
  pub performs_frees : {T : Type 0} {v w : Volume} {a b : S} {r : Result T Trouble} → Frees space_of follows v w a b r → OnOk r (Serves w (space_of b)) → Performs space_of follows (Own v) v w a b r
  performs_frees {T} {v} {w} {a} {b} {r} was serves = record {
    below = was.ran.below;
    cause = was.ran.cause;
    service = was.ran.service;
    serves = serves;
    holds = λ committed held. any_ok r (was.used.holds committed held);
    capacity = was.used.capacity;
    touches = λ committed held laid. was.ran.touches committed;
    same = (was.ran.touches (space_of a).content).same;
  }
