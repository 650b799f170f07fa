-- Commands that were seen to: one call behind another, and what ends a command early.
use Rattle.std.proofs.Common.{◌≡◌, ◌≤◌, ℕ, List, IsTrue, sym, ◌∙◌, ap, subst, inl, inr, ⊎_elim}
use Rattle.std.specs.Prelude.{Ok, OnOk, Option, Result, Err}
use Rattle.std.specs.List.{Contains}
use Rattle.std.specs.Result.{IsErrAnd}
use Rattle.std.proofs.lemmas.Result.{err_from_is_err_and}
use Rattle.hx_bytes.specs.declared.faults.Trouble.{Trouble}
use Rattle.sector_disk.specs.Lists.{Content}
use Rattle.sector_disk.specs.Space.{SameSpace, Space}
use Rattle.sector_disk.proofs.SpaceLaws.{space_both}
use Rattle.btree_edit.specs.Causes.{HasTroubleCause}
use Rattle.volume_base.specs.Frame.{Edits, Looked, Serves}
use Rattle.volume_base.specs.Room.{capacity_of}
use Rattle.volume_base.specs.Service.{IsInService}
use Rattle.volume_base.specs.Standing.{IsSettled, StandsOver, own_sectors}
use Rattle.volume_base.specs.Touching.{Touches}
use Rattle.volume_base.specs.declared.volume.Filling.{Filling}
use Rattle.volume_base.specs.declared.volume.Volume.{Volume}
use Rattle.volume_base.proofs.Commanding.{touches_both, touches_looks}
use Rattle.volume_base.proofs.Framed.{handed}
use Rattle.volume_base.proofs.FoundEntry.{ok_so}
use Rattle.volume_base.proofs.Seeing.{cause_since}
use Rattle.volume_base.proofs.Still.{own_still}
use Rattle.volume_base.specs.Holding.{IsLaidOutAs}
use Rattle.volume_base.specs.Holding.{HoldsOn}
use Rattle.volume_space.specs.Zeroing.{Fills}
use Rattle.volume_step.specs.Performing.{Performs}
use Rattle.volume_step.specs.Steps.{OwnOf}
use Rattle.volume_step.proofs.Done.{holds_kept}
use Rattle.volume_step.proofs.ReadyData.{any_ok}
use Rattle.volume_step.proofs.Unfilled.{serves_filling, service_filling}
use Rattle.volume_step.proofs.Widening.{laid_still, own_or_free_still, touches_wider}

-- the volume's own sectors before the call
abbrev pub Own : Volume → ℕ → Type 0
Own v = λ s. Contains (own_sectors v) s

-- a content has the blocks of a volume with another growth in hand
laid_filling : (v : Volume) (filling : Option Filling) (committed : Content) → IsLaidOutAs committed v → IsLaidOutAs committed (record v { filling = filling })
laid_filling v filling committed laid = record { block = laid.block; total = laid.total }

-- a volume that stands and is settled behind an answer serves then
pub serves_ok : {A E : Type 0} (r : Result A E) (w : Volume) (a b : Space) → SameSpace a b → OnOk r (StandsOver w b) → (IsTrue a.tells → OnOk r (IsSettled w b.content)) → OnOk r (Serves w b)
serves_ok (Ok x) w a b same stands settled = record { stands = stands; settled = λ tells. settled (sym same.tells ∙ tells) }
serves_ok (Err e) w a b same stands settled = tt

module _ {S : Type 0} {space_of : S → Space} {follows : S → S → Type 0} where
  -- another answer is given, or the fault is handed on
  pub performs_ok : {T U : Type 0} {these : ℕ → Type 0} {v w : Volume} {a b : S} {x : T} {y : U} → Performs space_of follows these v w a b (Ok x) → Performs space_of follows these v w a b (Ok y)
  performs_ok was = record {
    below = was.below;
    cause = record { later = was.cause.later; failed = tt };
    service = was.service;
    serves = was.serves;
    holds = was.holds;
    capacity = was.capacity;
    touches = was.touches;
    same = was.same;
  }

  pub performs_err : {T U : Type 0} {these : ℕ → Type 0} {v w : Volume} {a b : S} {e : Trouble} {q : Result U Trouble} → IsErrAnd q (λ y. y ≡ e) → Performs {T = T} space_of follows these v w a b (Err e) → Performs space_of follows these v w a b q
  performs_err {T} {U} {these} {v} {w} {a} {b} {e} {q} handed_on was =
      let p = err_from_is_err_and q handed_on in
      subst (λ (r : Result U Trouble). Performs space_of follows these v w a b r) (sym (p.1 ∙ ap Err p.2)) (record {
        below = was.below;
        cause = handed {T = T} {U = U} e (space_of a).faults (space_of b).faults was.cause;
        service = was.service;
        serves = tt;
        holds = λ committed held. tt;
        capacity = was.capacity;
        touches = was.touches;
        same = was.same;
      })

  -- of a call whose clauses these are
  pub performs_of : {T : Type 0} {these : ℕ → Type 0} {v w : Volume} {a b : S} (r : Result T Trouble) → follows a b → HasTroubleCause (space_of a).faults (space_of b).faults r → IsInService w (space_of b) → OnOk r (StandsOver w (space_of b))
      → (IsTrue (space_of a).tells → OnOk r (IsSettled w (space_of b).content)) → ((committed : Content) → HoldsOn committed v → OnOk r (HoldsOn committed w)) → capacity_of w ≡ capacity_of v
      → ((committed : Content) → HoldsOn committed v → IsLaidOutAs committed v → Touches committed these (space_of a) (space_of b)) → SameSpace (space_of a) (space_of b) → Performs space_of follows these v w a b r
  performs_of {T} {these} {v} {w} {a} {b} r below cause service stands settled holds capacity touches same = record {
    below = below;
    cause = cause;
    service = service;
    serves = serves_ok r w (space_of a) (space_of b) same stands settled;
    holds = holds;
    capacity = capacity;
    touches = touches;
    same = same;
  }

  -- of one that answered
  pub performs_done : {T : Type 0} {these : ℕ → Type 0} {v w : Volume} {a b : S} {x : T} → follows a b → (space_of a).faults ≤ (space_of b).faults → StandsOver w (space_of b)
      → (IsTrue (space_of a).tells → IsSettled w (space_of b).content) → ((committed : Content) → HoldsOn committed v → HoldsOn committed w) → capacity_of w ≡ capacity_of v
      → ((committed : Content) → HoldsOn committed v → IsLaidOutAs committed v → Touches committed these (space_of a) (space_of b)) → SameSpace (space_of a) (space_of b) → Performs space_of follows these v w a b (Ok x)
  performs_done {T} {these} {v} {w} {a} {b} {x} below later stands settled holds capacity touches same = record {
    below = below;
    cause = record { later = later; failed = tt };
    service = stands.service;
    serves = record { stands = stands; settled = λ tells. settled (sym same.tells ∙ tells) };
    holds = holds;
    capacity = capacity;
    touches = touches;
    same = same;
  }

  -- of one that failed
  pub performs_failed : {T : Type 0} {these : ℕ → Type 0} {v w : Volume} {a b : S} {e : Trouble} → follows a b → HasTroubleCause {T = T} (space_of a).faults (space_of b).faults (Err e) → IsInService w (space_of b) → capacity_of w ≡ capacity_of v
      → ((committed : Content) → HoldsOn committed v → IsLaidOutAs committed v → Touches committed these (space_of a) (space_of b)) → SameSpace (space_of a) (space_of b) → Performs {T = T} space_of follows these v w a b (Err e)
  performs_failed below cause service capacity touches same = record {
    below = below;
    cause = cause;
    service = service;
    serves = tt;
    holds = λ committed held. tt;
    capacity = capacity;
    touches = touches;
    same = same;
  }

  -- more sectors may have been put
  pub performs_wider : {T : Type 0} {those : ℕ → Type 0} {v w : Volume} {a b : S} {r : Result T Trouble} (these : ℕ → Type 0) → ((s : ℕ) → those s → these s) → Performs space_of follows those v w a b r → Performs space_of follows these v w a b r
  performs_wider {T} {those} {v} {w} {a} {b} these wider was = record {
    below = was.below;
    cause = was.cause;
    service = was.service;
    serves = was.serves;
    holds = was.holds;
    capacity = was.capacity;
    touches = λ committed held laid. touches_wider committed those these (space_of a) (space_of b) wider (was.touches committed held laid);
    same = was.same;
  }

  -- its own before the call are its own before or behind it
  pub performs_own : {T : Type 0} {v w : Volume} {a b : S} {r : Result T Trouble} → Performs space_of follows (Own v) v w a b r → Performs space_of follows (OwnOf v w) v w a b r
  performs_own {T} {v} {w} was = performs_wider (OwnOf v w) (λ s here. inl (inl here)) was

  -- with another growth in hand behind it, or before it
  pub performs_drop : {T : Type 0} {these : ℕ → Type 0} {v w : Volume} {a b : S} {r : Result T Trouble} (filling : Option Filling) → Performs space_of follows these v w a b r → Performs space_of follows these v (record w { filling = filling }) a b r
  performs_drop {T} {these} {v} {w} {a} {b} {r} filling was = record {
    below = was.below;
    cause = was.cause;
    service = service_filling w filling (space_of b) was.service;
    serves = ok_so (Serves w (space_of b)) (Serves (record w { filling = filling }) (space_of b)) r was.serves (serves_filling w filling (space_of b));
    holds = was.holds;
    capacity = was.capacity;
    touches = was.touches;
    same = was.same;
  }

  pub performs_from : {T : Type 0} {these : ℕ → Type 0} {v w : Volume} {a b : S} {r : Result T Trouble} (filling : Option Filling) → Performs space_of follows these (record v { filling = filling }) w a b r → Performs space_of follows these v w a b r
  performs_from {T} {these} {v} filling was = record {
    below = was.below;
    cause = was.cause;
    service = was.service;
    serves = was.serves;
    holds = was.holds;
    capacity = was.capacity;
    touches = λ committed held laid. was.touches committed held (laid_filling v filling committed laid);
    same = was.same;
  }

  -- it read alone
  pub performs_looked : {T : Type 0} {v w : Volume} {a b : S} {r : Result T Trouble} → Looked space_of follows v w a b r → Serves w (space_of b) → Performs space_of follows (Own v) v w a b r
  performs_looked {T} {v} {w} {a} {b} {r} looked serves = record {
    below = looked.edits.ran.below;
    cause = looked.edits.ran.cause;
    service = looked.stands.service;
    serves = any_ok r serves;
    holds = λ committed held. any_ok r (holds_kept committed v w looked.reads.keeps.map held);
    capacity = looked.reads.keeps.capacity;
    touches = λ committed held laid. touches_looks committed (Own v) (space_of a) (space_of b) looked.reads.looks;
    same = looked.reads.looks.same;
  }

  pub performs_looked_ok : {T U : Type 0} {v w : Volume} {a b : S} {r : Result T Trouble} {y : U} → Looked space_of follows v w a b r → Serves w (space_of b) → Performs space_of follows (Own v) v w a b (Ok y)
  performs_looked_ok {T} {U} {v} {w} {a} {b} {r} looked serves = record {
    below = looked.edits.ran.below;
    cause = record { later = looked.edits.ran.cause.later; failed = tt };
    service = looked.stands.service;
    serves = serves;
    holds = λ committed held. holds_kept committed v w looked.reads.keeps.map held;
    capacity = looked.reads.keeps.capacity;
    touches = λ committed held laid. touches_looks committed (Own v) (space_of a) (space_of b) looked.reads.looks;
    same = looked.reads.looks.same;
  }

  -- it edited its own sectors
  pub performs_edits : {T : Type 0} {most : ℕ} {v w : Volume} {a b : S} {r : Result T Trouble} → Edits space_of follows most v w a b r → OnOk r (Serves w (space_of b)) → Performs space_of follows (Own v) v w a b r
  performs_edits {T} {most} {v} {w} {a} {b} {r} edits serves = record {
    below = edits.ran.below;
    cause = edits.ran.cause;
    service = edits.ran.service;
    serves = serves;
    holds = λ committed held. any_ok r (holds_kept committed v w edits.blocks.map held);
    capacity = edits.blocks.capacity;
    touches = λ committed held laid. edits.ran.touches committed;
    same = (edits.ran.touches (space_of a).content).same;
  }

  -- it filled zero blocks
  pub performs_fills : {T : Type 0} {v w : Volume} {a b : S} {r : Result T Trouble} → Fills space_of follows v w a b r → Performs space_of follows (Own v) v w a b r
  performs_fills {T} {v} {w} {a} {b} {r} fills = record {
    below = fills.below;
    cause = fills.cause;
    service = fills.service;
    serves = fills.serves;
    holds = λ committed held. any_ok r (subst (λ (u : Volume). HoldsOn committed u) (sym fills.rest) held);
    capacity = ap (λ (u : Volume). capacity_of u) fills.rest;
    touches = fills.touches;
    same = fills.same;
  }

  -- a call behind one that read alone
  pub performs_behind : {T U : Type 0} {those : ℕ → Type 0} {u v w : Volume} {a b c : S} {r : Result T Trouble} {s : Result U Trouble} (these : ℕ → Type 0) → ((x y z : S) → follows x y → follows y z → follows x z)
      → ((n : ℕ) → Own u n → these n) → ((n : ℕ) → those n → these n) → Looked space_of follows u v a b r → Performs space_of follows those v w b c s → Performs space_of follows these u w a c s
  performs_behind {T} {U} {those} {u} {v} {w} {a} {b} {c} {r} {s} these both own wider first second = record {
    below = both a b c first.edits.ran.below second.below;
    cause = cause_since (space_of a).faults (space_of b).faults (space_of c).faults s first.edits.ran.cause.later second.cause;
    service = second.service;
    serves = second.serves;
    holds = λ committed held. second.holds committed (holds_kept committed u v first.reads.keeps.map held);
    capacity = second.capacity ∙ first.reads.keeps.capacity;
    touches = λ committed held laid. touches_both committed these (space_of a) (space_of b) (space_of c)
        (touches_wider committed (Own u) these (space_of a) (space_of b) own (touches_looks committed (Own u) (space_of a) (space_of b) first.reads.looks))
        (touches_wider committed those these (space_of b) (space_of c) wider (second.touches committed (holds_kept committed u v first.reads.keeps.map held) (laid_still committed u v first.reads.keeps.header first.reads.keeps.map laid)));
    same = space_both (space_of a) (space_of b) (space_of c) first.reads.looks.same second.same;
  }

  pub performs_then : {T U : Type 0} {u v w : Volume} {a b c : S} {r : Result T Trouble} {s : Result U Trouble} → ((x y z : S) → follows x y → follows y z → follows x z)
      → Looked space_of follows u v a b r → Performs space_of follows (Own v) v w b c s → Performs space_of follows (Own u) u w a c s
  performs_then {T} {U} {u} {v} {w} {a} {b} {c} {r} {s} both first second =
      performs_behind (Own u) both (λ n here. here) (λ n here. subst (λ (l : List ℕ). Contains l n) (own_still u v (space_of a) (space_of b) first.reads) here) first second

  pub performs_later : {T U : Type 0} {u v w : Volume} {a b c : S} {r : Result T Trouble} {s : Result U Trouble} → ((x y z : S) → follows x y → follows y z → follows x z)
      → Looked space_of follows u v a b r → Performs space_of follows (OwnOf v w) v w b c s → Performs space_of follows (OwnOf u w) u w a c s
  performs_later {T} {U} {u} {v} {w} {a} {b} {c} {r} {s} both first second =
      performs_behind (OwnOf u w) both (λ n here. inl (inl here)) (λ n here. ⊎_elim (λ before. inl (own_or_free_still u v (space_of a) (space_of b) first.reads n before)) (λ behind. inr behind) here) first second
