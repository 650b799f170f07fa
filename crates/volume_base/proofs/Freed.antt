-- Calls that may give blocks back: behind reads, behind edits of a tree, and at an early end.
use Rattle.std.proofs.Common.{◌≡◌, ◌≤◌, ℕ, ◌+◌, ◌∷◌, ◌++◌, IsTrue, List, inl, inr, sym, ◌∙◌, ap, subst, arith}
use Rattle.std.specs.Prelude.{⊤, Result, Ok, Err}
use Rattle.std.specs.List.{Contains}
use Rattle.std.proofs.lemmas.List.Elements.{Contains-append_right}
use Rattle.btree_file.specs.Frame.{PutsWithin}
use Rattle.btree_file.specs.State.{sectors_of_tree}
use Rattle.hfs_volume.proofs.Members.{at_front, behind, first_or_later}
use Rattle.volume_base.specs.Service.{IsInService}
use Rattle.volume_base.proofs.Touched.{touches_within}
use Rattle.std.specs.Result.{IsErrAnd}
use Rattle.std.proofs.lemmas.Result.{err_from_is_err_and}
use Rattle.hx_bytes.specs.declared.faults.Trouble.{Trouble}
use Rattle.hx_bytes.specs.declared.faults.Trouble.TheVariants.{Memory}
use Rattle.sector_disk.specs.Space.{Space}
use Rattle.volume_base.specs.Frame.{Edits, Looked, Ran, Frees}
use Rattle.volume_base.specs.Standing.{StandsOver, attribute_sectors, file_sectors, map_sectors, own_sectors}
use Rattle.volume_base.specs.Touching.{Touches}
use Rattle.volume_base.specs.declared.volume.Volume.{Volume}
use Rattle.volume_base.proofs.Commanding.{touches_both}
use Rattle.volume_base.proofs.Framed.{edits_none, edits_spent, handed}
use Rattle.volume_base.proofs.Joined.{edits_short, edits_wanting}
use Rattle.volume_base.proofs.Seeing.{cause_since}
use Rattle.volume_base.proofs.KeptUsed.{used_blocks, used_both, used_none, used_read}

-- header and bitmap are the volume's own
in_own : (v : Volume) (s : ℕ) → Contains (2 ∷ map_sectors v) s → Contains (own_sectors v) s
in_own v s has = elim (first_or_later 2 s (map_sectors v) has) [
  | inl two ↦ subst (λ n. Contains (own_sectors v) n) (sym two) (at_front 2 (file_sectors v))
  | inr there ↦ behind 2 s (file_sectors v)
      (Contains-append_right (sectors_of_tree v.extents.file) (sectors_of_tree v.catalog.file ++ (attribute_sectors v ++ map_sectors v)) s
      (Contains-append_right (sectors_of_tree v.catalog.file) (attribute_sectors v ++ map_sectors v) s
      (Contains-append_right (attribute_sectors v) (map_sectors v) s there)))
]

-- the sectors that are a volume's own
abbrev pub own : Volume → ℕ → Type 0
own v s = Contains (own_sectors v) s

module _ {S : Type 0} {space_of : S → Space} {follows : S → S → Type 0} where
  -- nothing was done
  pub frees_none : {T : Type 0} {v : Volume} {a : S} {x : T} → ((s : S) → follows s s) → StandsOver v (space_of a) → Frees space_of follows v v a a (Ok x)
  frees_none {T} {v} {a} {x} none stands = record { ran = (edits_none {x = x} (space_of a).spare none stands).ran; used = used_none v }

  -- nothing was done, and memory is wanting
  pub frees_wanting : {T : Type 0} {v : Volume} {a : S} → ((s : S) → follows s s) → StandsOver v (space_of a) → Frees {T = T} space_of follows v v a a (Err Memory)
  frees_wanting {T} {v} {a} none stands = record { ran = (edits_wanting {T = T} (space_of a).spare none stands).ran; used = used_none v }

  -- a tree was edited
  pub frees_edits : {T : Type 0} {most : ℕ} {v w : Volume} {a b : S} {r : Result T Trouble} → Edits space_of follows most v w a b r → Frees space_of follows v w a b r
  frees_edits {T} {most} {v} {w} {a} {b} {r} was = record { ran = (edits_spent {few = (space_of a).spare} was (λ tells. omega arith)).ran; used = used_blocks v w was.blocks }

  -- it was read alone
  pub frees_looked : {T : Type 0} {v w : Volume} {a b : S} {r : Result T Trouble} → Looked space_of follows v w a b r → Frees space_of follows v w a b r
  frees_looked looked = frees_edits looked.edits

  -- memory is wanting behind what was read
  pub frees_short : {T U : Type 0} {v w : Volume} {a b : S} {r : Result T Trouble} → Looked space_of follows v w a b r → Frees {T = U} space_of follows v w a b (Err Memory)
  frees_short {T} {U} looked = frees_edits (edits_short {U = U} looked.edits)

  -- another answer is given
  pub frees_ok : {T U : Type 0} {v w : Volume} {a b : S} {x : T} {y : U} → Frees space_of follows v w a b (Ok x) → Frees space_of follows v w a b (Ok y)
  frees_ok was = record {
    ran = record { below = was.ran.below; cause = record { later = was.ran.cause.later; failed = tt }; service = was.ran.service; stands = was.ran.stands; touches = was.ran.touches; spent = was.ran.spent };
    used = was.used;
  }

  -- the fault is handed on
  pub frees_err : {T U : Type 0} {v w : Volume} {a b : S} {e : Trouble} {q : Result U Trouble} → IsErrAnd q (λ y. y ≡ e) → Frees {T = T} space_of follows v w a b (Err e) → Frees space_of follows v w a b q
  frees_err {T} {U} {v} {w} {a} {b} {e} {q} handed_on was =
      let p = err_from_is_err_and q handed_on in
      subst (λ (r : Result U Trouble). Frees space_of follows v w a b r) (sym (p.1 ∙ ap Err p.2)) (record {
        ran = record { below = was.ran.below; cause = handed {T = T} {U = U} e (space_of a).faults (space_of b).faults was.ran.cause; service = was.ran.service; stands = tt; touches = was.ran.touches; spent = was.ran.spent };
        used = was.used;
      })

  -- behind a call that only read
  pub frees_behind : {T U : Type 0} {u v w : Volume} {a b c : S} {r : Result T Trouble} {s : Result U Trouble} → ((x y z : S) → follows x y → follows y z → follows x z)
      → Looked space_of follows u v a b r → Frees space_of follows v w b c s → Frees space_of follows u w a c s
  frees_behind {T} {U} {u} {v} {w} {a} {b} {c} {r} {s} both first second = record {
    ran = record {
      below = both a b c first.edits.ran.below second.ran.below;
      cause = cause_since (space_of a).faults (space_of b).faults (space_of c).faults s first.edits.ran.cause.later second.ran.cause;
      service = second.ran.service;
      stands = second.ran.stands;
      touches = λ committed. touches_both committed (λ s. Contains (own_sectors u) s) (space_of a) (space_of b) (space_of c) (first.edits.ran.touches committed)
          (subst (λ (l : List ℕ). Touches committed (λ s. Contains l s) (space_of b) (space_of c)) first.edits.own (second.ran.touches committed));
      spent = λ tells. omega arith;
    };
    used = used_both u v w (used_read u v (space_of a) (space_of b) first.reads) second.used;
  }

  -- ---- calls that put the volume's own sectors alone, one behind the other

  pub ran_both : {T U : Type 0} {n k most : ℕ} (u : Volume) {v w : Volume} {a b c : S} {r : Result T Trouble} {s : Result U Trouble} → ((x y z : S) → follows x y → follows y z → follows x z)
      → Ran space_of follows (own u) n v a b r → own_sectors v ≡ own_sectors u → Ran space_of follows (own v) k w b c s → (IsTrue (space_of a).tells → (space_of a).spare ≤ (space_of c).spare + most) → Ran space_of follows (own u) most w a c s
  ran_both {T} {U} {n} {k} {most} u {v} {w} {a} {b} {c} {r} {s} both first same second spent = record {
    below = both a b c first.below second.below;
    cause = cause_since (space_of a).faults (space_of b).faults (space_of c).faults s first.cause.later second.cause;
    service = second.service;
    stands = second.stands;
    touches = λ committed. touches_both committed (own u) (space_of a) (space_of b) (space_of c) (first.touches committed)
        (subst (λ (l : List ℕ). Touches committed (λ x. Contains l x) (space_of b) (space_of c)) same (second.touches committed));
    spent = spent;
  }

  -- another bound
  pub ran_spent : {T : Type 0} {many few : ℕ} (u : Volume) {w : Volume} {a b : S} {r : Result T Trouble} → Ran space_of follows (own u) many w a b r → (IsTrue (space_of a).tells → (space_of a).spare ≤ (space_of b).spare + few) → Ran space_of follows (own u) few w a b r
  ran_spent {T} {many} {few} u {w} {a} {b} {r} was spent = record { below = was.below; cause = was.cause; service = was.service; stands = was.stands; touches = was.touches; spent = spent }

  -- memory is wanting behind it
  pub ran_short : {T U : Type 0} {most : ℕ} (u : Volume) {w : Volume} {a b : S} {r : Result T Trouble} → Ran space_of follows (own u) most w a b r → Ran {T = U} space_of follows (own u) most w a b (Err Memory)
  ran_short {T} {U} {most} u {w} {a} {b} {r} was = record { below = was.below; cause = record { later = was.cause.later; failed = tt }; service = was.service; stands = tt; touches = was.touches; spent = was.spent }

  -- bitmap and header were put
  pub ran_within : (v : Volume) {w : Volume} {a b : S} → follows a b → (space_of b).faults ≡ (space_of a).faults → IsInService w (space_of b) → PutsWithin (2 ∷ map_sectors v) (space_of a) (space_of b) → Ran {T = ⊤} space_of follows (own v) (space_of a).spare w a b (Err Memory)
  ran_within v {w} {a} {b} below faults service within = record {
    below = below;
    cause = record { later = omega (arith, faults); failed = tt };
    service = service;
    stands = tt;
    touches = λ committed. touches_within committed (2 ∷ map_sectors v) (own v) (space_of a) (space_of b) (in_own v) within;
    spent = λ tells. omega arith;
  }

  pub ran_stands : (v : Volume) {w : Volume} {a b : S} → follows a b → (space_of b).faults ≡ (space_of a).faults → StandsOver w (space_of b) → PutsWithin (2 ∷ map_sectors v) (space_of a) (space_of b) → Ran {T = ⊤} space_of follows (own v) (space_of a).spare w a b (Ok tt)
  ran_stands v {w} {a} {b} below faults stands within =
      let it = ran_within v {w = w} {a = a} {b = b} below faults stands.service within in
      record { below = it.below; cause = record { later = it.cause.later; failed = tt }; service = it.service; stands = stands; touches = it.touches; spent = it.spent }

  -- want of memory is handed on as Trouble
  pub wanting : {T U : Type 0} {most : ℕ} (u : Volume) {w : Volume} {a b : S} {q : Result U Trouble} → IsErrAnd q (λ y. y ≡ Memory) → Ran {T = T} space_of follows (own u) most w a b (Err Memory) → Ran space_of follows (own u) most w a b q
  wanting {T} {U} {most} u {w} {a} {b} {q} handed_on was =
      let p = err_from_is_err_and q handed_on in
      subst (λ (r : Result U Trouble). Ran space_of follows (own u) most w a b r) (sym (p.1 ∙ ap Err p.2))
      (record { below = was.below; cause = record { later = was.cause.later; failed = tt }; service = was.service; stands = tt; touches = was.touches; spent = was.spent })
