-- Calls one behind another, and what ends a call early.
use Rattle.std.proofs.Common.{◌≡◌, ◌≤◌, ℕ, ◌+◌, IsTrue, List, length, refl, sym, ◌∙◌, ap, subst, arith, []}
use Rattle.std.specs.Prelude.{Result, Ok, Err, OnOk, Some}
use Rattle.std.specs.List.{Contains}
use Rattle.std.specs.Result.{IsErrAnd}
use Rattle.std.proofs.lemmas.Result.{err_from_is_err_and}
use Rattle.hx_bytes.specs.declared.faults.Trouble.{Trouble}
use Rattle.hx_bytes.specs.declared.faults.Trouble.TheVariants.{Disk, Memory}
use Rattle.sector_disk.specs.Lists.{Content}
use Rattle.sector_disk.specs.Space.{Space}
use Rattle.btree_edit.specs.Causes.{HasTroubleCause}
use Rattle.catalog.specs.Pairs.{value_at}
use Rattle.hfs_volume.specs.Content.{VolumeState}
use Rattle.hfs_volume.specs.Entries.{AreSpelled}
use Rattle.volume_base.specs.Changing.{HasRoomToUpdate, catalog_node}
use Rattle.volume_base.specs.Lists.{lists_of}
use Rattle.volume_base.specs.Looking.{ReadsVolume}
use Rattle.volume_base.specs.Standing.{StandsOver, own_sectors}
use Rattle.volume_base.specs.Touching.{Touches}
use Rattle.volume_base.specs.declared.entries.Entry.{Entry}
use Rattle.volume_base.specs.declared.volume.Volume.{Volume}
use Rattle.volume_base.proofs.Besides.{blocks_none, blocks_both, blocks_read}
use Rattle.volume_base.proofs.Commanding.{touches_looks, touches_both, touches_none}
use Rattle.volume_base.proofs.FoundEntry.{node_still, room_still}
use Rattle.volume_base.proofs.Seeing.{cause_since}
use Rattle.volume_base.proofs.Still.{lists_still, own_still, settled_still, volume_both}
use Rattle.volume_base.specs.Frame.{Serves, Edits, Looked, MayUpdate}

stood : {T : Type 0} {P : Type 0} (result : Result T Trouble) → P → OnOk result P
stood (Ok x) p = p
stood (Err e) p = tt

-- the fault is handed on as one of another call
pub handed : {T U : Type 0} (e : Trouble) (before now : ℕ) → HasTroubleCause {T = T} before now (Err e) → HasTroubleCause {T = U} before now (Err e)
handed Disk before now cause = record { later = cause.later; failed = cause.failed }
handed Memory before now cause = record { later = cause.later; failed = tt }

module _ {S : Type 0} {space_of : S → Space} {follows : S → S → Type 0} where
  -- nothing was done
  pub edits_none : {T : Type 0} {v : Volume} {a : S} {x : T} (most : ℕ) → ((s : S) → follows s s) → StandsOver v (space_of a) → Edits space_of follows most v v a a (Ok x)
  edits_none {T} {v} {a} {x} most none stands = record {
    ran = record {
      below = none a;
      cause = record { later = omega arith; failed = tt };
      service = stands.service;
      stands = stands;
      touches = λ committed. touches_none committed (λ s. Contains (own_sectors v) s) (space_of a);
      spent = λ tells. omega arith;
    };
    own = refl;
    blocks = blocks_none v;
  }

  -- what was read by a call whose clauses these are
  pub looked_of : {T : Type 0} {v w : Volume} {a b : S} {r : Result T Trouble} → follows a b → HasTroubleCause (space_of a).faults (space_of b).faults r → StandsOver w (space_of b) → ReadsVolume v w (space_of a) (space_of b) → Looked space_of follows v w a b r
  looked_of {T} {v} {w} {a} {b} {r} below cause stands reads = record {
    edits = record {
      ran = record {
        below = below;
        cause = cause;
        service = stands.service;
        stands = stood r stands;
        touches = λ committed. touches_looks committed (λ s. Contains (own_sectors v) s) (space_of a) (space_of b) reads.looks;
        spent = λ tells. omega (arith, reads.looks.spare);
      };
      own = own_still v w (space_of a) (space_of b) reads;
      blocks = blocks_read v w (space_of a) (space_of b) reads;
    };
    stands = stands;
    reads = reads;
  }

  -- an entry that a call found by reading may be updated, where there was room for that before
  pub found_ready : {T : Type 0} {v w : Volume} {a b : S} {r : Result T Trouble} {entry : Entry} → Looked space_of follows v w a b r → (IsTrue (space_of a).tells → AreSpelled (lists_of v (space_of a).content).catalog_pairs) → length entry.name ≤ 255
      → (IsTrue (space_of a).tells → value_at (lists_of v (space_of a).content).catalog_pairs entry.parent entry.name ≡ Some entry.rec) → HasRoomToUpdate v (space_of a) → MayUpdate w entry (space_of b)
  found_ready {T} {v} {w} {a} {b} {r} {entry} looked spelled name there room = record {
    stands = looked.stands;
    spelled = λ tells.
        let before = sym looked.reads.looks.same.tells ∙ tells in
        subst (λ (l : VolumeState). AreSpelled l.catalog_pairs) (sym (lists_still v w (space_of a) (space_of b) looked.reads before)) (spelled before);
    name = name;
    there = λ tells.
        let before = sym looked.reads.looks.same.tells ∙ tells in
        ap (λ (l : VolumeState). value_at l.catalog_pairs entry.parent entry.name) (lists_still v w (space_of a) (space_of b) looked.reads before) ∙ there before;
    room = room_still v w (space_of a) (space_of b) looked.reads room;
  }

  -- another bound is known of what it puts
  pub edits_spent : {T : Type 0} {many few : ℕ} {v w : Volume} {a b : S} {r : Result T Trouble} → Edits space_of follows many v w a b r → (IsTrue (space_of a).tells → (space_of a).spare ≤ (space_of b).spare + few) → Edits space_of follows few v w a b r
  edits_spent was spent = record {
    ran = record { below = was.ran.below; cause = was.ran.cause; service = was.ran.service; stands = was.ran.stands; touches = was.ran.touches; spent = spent };
    own = was.own;
    blocks = was.blocks;
  }

  -- another answer is given, or the fault is handed on
  pub edits_ok : {T U : Type 0} {most : ℕ} {v w : Volume} {a b : S} {x : T} {y : U} → Edits space_of follows most v w a b (Ok x) → Edits space_of follows most v w a b (Ok y)
  edits_ok was = record {
    ran = record { below = was.ran.below; cause = record { later = was.ran.cause.later; failed = tt }; service = was.ran.service; stands = was.ran.stands; touches = was.ran.touches; spent = was.ran.spent };
    own = was.own;
    blocks = was.blocks;
  }

  pub edits_err : {T U : Type 0} {most : ℕ} {v w : Volume} {a b : S} {e : Trouble} {q : Result U Trouble} → IsErrAnd q (λ y. y ≡ e) → Edits {T = T} space_of follows most v w a b (Err e) → Edits space_of follows most v w a b q
  edits_err {T} {U} {most} {v} {w} {a} {b} {e} {q} handed_on was =
      let p = err_from_is_err_and q handed_on in
      subst (λ (r : Result U Trouble). Edits space_of follows most v w a b r) (sym (p.1 ∙ ap Err p.2)) (record {
        ran = record { below = was.ran.below; cause = handed {T = T} {U = U} e (space_of a).faults (space_of b).faults was.ran.cause; service = was.ran.service; stands = tt; touches = was.ran.touches; spent = was.ran.spent };
        own = was.own;
        blocks = was.blocks;
      })

  -- fewer sectors are fewer than more
  pub edits_fewer : {T : Type 0} {few many : ℕ} {v w : Volume} {a b : S} {r : Result T Trouble} → Edits space_of follows few v w a b r → (IsTrue (space_of a).tells → few ≤ many) → Edits space_of follows many v w a b r
  edits_fewer was below = record {
    ran = record { below = was.ran.below; cause = was.ran.cause; service = was.ran.service; stands = was.ran.stands; touches = was.ran.touches; spent = λ tells. omega (arith, below tells, was.ran.spent tells) };
    own = was.own;
    blocks = was.blocks;
  }

  -- it was read alone
  pub edits_looked : {T : Type 0} {v w : Volume} {a b : S} {r : Result T Trouble} (most : ℕ) → Looked space_of follows v w a b r → Edits space_of follows most v w a b r
  edits_looked most looked = edits_fewer looked.edits (λ tells. omega arith)

  pub looked_ok : {T U : Type 0} {v w : Volume} {a b : S} {r : Result T Trouble} {y : U} (most : ℕ) → Looked space_of follows v w a b r → Edits space_of follows most v w a b (Ok y)
  looked_ok most looked = record {
    ran = record {
      below = looked.edits.ran.below;
      cause = record { later = looked.edits.ran.cause.later; failed = tt };
      service = looked.edits.ran.service;
      stands = looked.stands;
      touches = looked.edits.ran.touches;
      spent = λ tells. omega (arith, looked.edits.ran.spent tells);
    };
    own = looked.edits.own;
    blocks = looked.edits.blocks;
  }

  pub looked_err : {T U : Type 0} {v w : Volume} {a b : S} {e : Trouble} {q : Result U Trouble} (most : ℕ) → IsErrAnd q (λ y. y ≡ e) → Looked {T = T} space_of follows v w a b (Err e) → Edits space_of follows most v w a b q
  looked_err most handed_on looked = edits_err handed_on (edits_looked most looked)

  -- one call behind another that answered
  pub edits_then : {T U : Type 0} {n k most : ℕ} {u v w : Volume} {a b c : S} {r : Result T Trouble} {s : Result U Trouble} → ((x y z : S) → follows x y → follows y z → follows x z)
      → Edits space_of follows n u v a b r → Edits space_of follows k v w b c s → (IsTrue (space_of a).tells → n + k ≤ most) → Edits space_of follows most u w a c s
  edits_then {T} {U} {n} {k} {most} {u} {v} {w} {a} {b} {c} {r} {s} both first second within = record {
    ran = record {
      below = both a b c first.ran.below second.ran.below;
      cause = cause_since (space_of a).faults (space_of b).faults (space_of c).faults s first.ran.cause.later second.ran.cause;
      service = second.ran.service;
      stands = second.ran.stands;
      touches = λ committed. touches_both committed (λ s. Contains (own_sectors u) s) (space_of a) (space_of b) (space_of c) (first.ran.touches committed)
          (subst (λ (l : List ℕ). Touches committed (λ s. Contains l s) (space_of b) (space_of c)) first.own (second.ran.touches committed));
      spent = λ tells. let later : IsTrue (space_of b).tells = (first.ran.touches []).same.tells ∙ tells in omega (arith, within tells, first.ran.spent tells, second.ran.spent later);
    };
    own = second.own ∙ first.own;
    blocks = blocks_both u v w first.blocks second.blocks;
  }

  -- two that only read
  pub looked_both : {T U : Type 0} {u v w : Volume} {a b c : S} {r : Result T Trouble} {s : Result U Trouble} → ((x y z : S) → follows x y → follows y z → follows x z)
      → Looked space_of follows u v a b r → Looked space_of follows v w b c s → Looked space_of follows u w a c s
  looked_both {T} {U} {u} {v} {w} {a} {b} {c} {r} {s} both first second = record {
    edits = edits_then both first.edits second.edits (λ tells. omega arith);
    stands = second.stands;
    reads = volume_both u v w (space_of a) (space_of b) (space_of c) first.reads second.reads;
  }

  -- a call behind one that only read
  pub looked_then : {T U : Type 0} {k most : ℕ} {u v w : Volume} {a b c : S} {r : Result T Trouble} {s : Result U Trouble} → ((x y z : S) → follows x y → follows y z → follows x z)
      → Looked space_of follows u v a b r → Edits space_of follows k v w b c s → (IsTrue (space_of a).tells → k ≤ most) → Edits space_of follows most u w a c s
  looked_then {T} {U} {k} {most} {u} {v} {w} {a} {b} {c} {r} {s} both first second within = edits_then {n = 0} {k = k} {u = u} {v = v} {w = w} both first.edits second (λ tells. omega (arith, within tells))

  -- reads leave how many sectors a node of the catalog has
  pub node_looked : {T : Type 0} {v w : Volume} {a b : S} {r : Result T Trouble} → Looked space_of follows v w a b r → IsTrue (space_of a).tells → catalog_node w ≤ catalog_node v
  node_looked {T} {v} {w} {a} {b} {r} looked tells = omega (arith, node_still v w (space_of a) (space_of b) looked.reads)

  -- what was read still serves
  pub serves_still : {T : Type 0} {v w : Volume} {a b : S} {r : Result T Trouble} → Looked space_of follows v w a b r → Serves v (space_of a) → Serves w (space_of b)
  serves_still {T} {v} {w} {a} {b} {r} looked was = record {
    stands = looked.stands;
    settled = λ tells. let before : IsTrue (space_of a).tells = sym looked.reads.looks.same.tells ∙ tells in settled_still v w (space_of a) (space_of b) looked.reads before (was.settled before);
  }
