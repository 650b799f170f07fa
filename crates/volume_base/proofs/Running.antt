-- Calls that put the volume's own sectors, one behind another, and a put of bitmap and header among them.
use Rattle.std.proofs.Common.{◌≡◌, ◌≤◌, ℕ, ◌+◌, ◌++◌, IsTrue, List, [], ◌∷◌, sym, ◌∙◌, ap, subst, arith, refl, ⊎_elim}
use Rattle.std.specs.Prelude.{⊤, Result, Ok, Err}
use Rattle.std.specs.List.{Contains}
use Rattle.std.specs.Result.{IsErrAnd}
use Rattle.std.proofs.lemmas.List.Elements.{Contains-append_left, Contains-append_right}
use Rattle.std.proofs.lemmas.Result.{err_from_is_err_and}
use Rattle.hx_bytes.specs.declared.faults.Trouble.{Trouble}
use Rattle.hx_bytes.specs.declared.faults.Trouble.TheVariants.{Memory}
use Rattle.hfs_volume.proofs.Members.{first_or_later}
use Rattle.sector_disk.specs.Space.{Space}
use Rattle.btree_file.specs.Frame.{PutsWithin}
use Rattle.btree_file.specs.State.{sectors_of_tree}
use Rattle.volume_base.specs.Frame.{Ran}
use Rattle.volume_base.specs.Service.{IsInService}
use Rattle.volume_base.specs.Standing.{StandsOver, attribute_sectors, map_sectors, own_sectors}
use Rattle.volume_base.specs.Touching.{Touches}
use Rattle.volume_base.specs.declared.volume.Volume.{Volume}
use Rattle.volume_base.proofs.Commanding.{touches_both}
use Rattle.volume_base.proofs.Framed.{handed}
use Rattle.volume_base.proofs.Seeing.{cause_since}
use Rattle.volume_base.proofs.Touched.{touches_within}

-- the header and the sectors of the bitmap are the volume's own
traded_own : (v : Volume) (s : ℕ) → Contains (2 ∷ map_sectors v) s → Contains (own_sectors v) s
traded_own v s here = ⊎_elim
    (λ is. Contains-append_left (2 ∷ []) (sectors_of_tree v.extents.file ++ (sectors_of_tree v.catalog.file ++ (attribute_sectors v ++ map_sectors v))) s (0, omega arith, sym is))
    (λ later. Contains-append_right (2 ∷ sectors_of_tree v.extents.file) (sectors_of_tree v.catalog.file ++ (attribute_sectors v ++ map_sectors v)) s
    (Contains-append_right (sectors_of_tree v.catalog.file) (attribute_sectors v ++ map_sectors v) s (Contains-append_right (attribute_sectors v) (map_sectors v) s later)))
    (first_or_later 2 s (map_sectors v) here)

module _ {S : Type 0} {space_of : S → Space} {follows : S → S → Type 0} where
  -- bitmap and header were put, or nothing was
  pub ran_traded : (v : Volume) {w : Volume} {a b : S} {most : ℕ} → follows a b → (space_of b).faults ≡ (space_of a).faults → IsInService w (space_of b) → StandsOver w (space_of b) → PutsWithin (2 ∷ map_sectors v) (space_of a) (space_of b)
      → (space_of a).spare ≤ (space_of b).spare + most → Ran {T = ⊤} space_of follows (λ s. Contains (own_sectors v) s) most w a b (Ok tt)
  ran_traded v {w} {a} {b} {most} below faults service stands within spent = record {
    below = below;
    cause = record { later = omega (arith, faults); failed = tt };
    service = service;
    stands = stands;
    touches = λ committed. touches_within committed (2 ∷ map_sectors v) (λ s. Contains (own_sectors v) s) (space_of a) (space_of b) (traded_own v) within;
    spent = λ tells. spent;
  }

  -- the same, and memory is wanting
  pub ran_short : {T : Type 0} (v : Volume) {w : Volume} {a b : S} {most : ℕ} → follows a b → (space_of b).faults ≡ (space_of a).faults → IsInService w (space_of b) → PutsWithin (2 ∷ map_sectors v) (space_of a) (space_of b)
      → (space_of a).spare ≤ (space_of b).spare + most → Ran {T = T} space_of follows (λ s. Contains (own_sectors v) s) most w a b (Err Memory)
  ran_short {T} v {w} {a} {b} {most} below faults service within spent = record {
    below = below;
    cause = record { later = omega (arith, faults); failed = tt };
    service = service;
    stands = tt;
    touches = λ committed. touches_within committed (2 ∷ map_sectors v) (λ s. Contains (own_sectors v) s) (space_of a) (space_of b) (traded_own v) within;
    spent = λ tells. spent;
  }

  -- the fault is handed on
  pub ran_err : {T U : Type 0} {these : ℕ → Type 0} {most : ℕ} {w : Volume} {a b : S} {e : Trouble} {q : Result U Trouble} → IsErrAnd q (λ y. y ≡ e) → Ran {T = T} space_of follows these most w a b (Err e) → Ran space_of follows these most w a b q
  ran_err {T} {U} {these} {most} {w} {a} {b} {e} {q} handed_on was =
      let p = err_from_is_err_and q handed_on in
      subst (λ (r : Result U Trouble). Ran space_of follows these most w a b r) (sym (p.1 ∙ ap Err p.2)) (record {
        below = was.below;
        cause = handed {T = T} {U = U} e (space_of a).faults (space_of b).faults was.cause;
        service = was.service;
        stands = tt;
        touches = was.touches;
        spent = was.spent;
      })

  -- more sectors are more than fewer
  pub ran_fewer : {T : Type 0} {these : ℕ → Type 0} {few many : ℕ} {w : Volume} {a b : S} {r : Result T Trouble} → Ran space_of follows these few w a b r → (IsTrue (space_of a).tells → few ≤ many) → Ran space_of follows these many w a b r
  ran_fewer was below = record { below = was.below; cause = was.cause; service = was.service; stands = was.stands; touches = was.touches; spent = λ tells. omega (arith, below tells, was.spent tells) }

  -- one call behind another that answered
  pub ran_then : {T U : Type 0} {n k most : ℕ} (u v : Volume) {w : Volume} {a b c : S} {r : Result T Trouble} {s : Result U Trouble} → ((x y z : S) → follows x y → follows y z → follows x z) → own_sectors v ≡ own_sectors u
      → Ran space_of follows (λ at. Contains (own_sectors u) at) n v a b r → Ran space_of follows (λ at. Contains (own_sectors v) at) k w b c s → (IsTrue (space_of a).tells → n + k ≤ most)
      → Ran space_of follows (λ at. Contains (own_sectors u) at) most w a c s
  ran_then {T} {U} {n} {k} {most} u v {w} {a} {b} {c} {r} {s} both own first second within = record {
    below = both a b c first.below second.below;
    cause = cause_since (space_of a).faults (space_of b).faults (space_of c).faults s first.cause.later second.cause;
    service = second.service;
    stands = second.stands;
    touches = λ committed. touches_both committed (λ at. Contains (own_sectors u) at) (space_of a) (space_of b) (space_of c) (first.touches committed)
        (subst (λ (l : List ℕ). Touches committed (λ at. Contains l at) (space_of b) (space_of c)) own (second.touches committed));
    spent = λ tells. let later : IsTrue (space_of b).tells = (first.touches []).same.tells ∙ tells in omega (arith, within tells, first.spent tells, second.spent later);
  }
