-- Small facts of contents and sectors.
use Rattle.std.proofs.Common.{◌≡◌, ◌/◌, ℕ, List, [], ◌∷◌, Contains, length, drop, refl, sym, subst, arith, length-append, length-drop}
use Rattle.std.specs.Prelude.{Ok, Result}
use Rattle.std.proofs.lemmas.List.{get_or-map}
use Rattle.sector_disk.specs.Lists.{Content, sector}
use Rattle.sector_disk.specs.Disk.{IsImage, candidates_of, only}
use Rattle.sector_disk.proofs.Stages.{length-only}
use Rattle.jnl_format.specs.Header.{header_bytes, header_spelled}
use Rattle.jnl_format.specs.Checksum.{checksum_of}
use Rattle.jnl_format.specs.declared.structures.JnlRefusal.{JnlRefusal}
use Rattle.jnl_format.proofs.Headers.{length-header_spelled}
use Rattle.jnl_replay.specs.declared.plan.Plan.{Plan}
use Rattle.jnl_store.specs.Plan.{header_sector_of}

-- a content of which nothing is pending is an image
pub own_image : (c : Content) → IsImage (only c) c
own_image c = record {
  size = sym (length-only c);
  each = λ at inside.
      let one : candidates_of (only c) at ≡ sector c at ∷ [] = get_or-map (λ (v : List ℕ). v ∷ []) c at [] [] (omega (arith, inside, length-only c)) in
      subst (λ (l : List (List ℕ)). Contains l (sector c at)) (sym one) (0, omega arith, refl);
}

pub same_ok : (a b : Content) → (let x : Result Content JnlRefusal = Ok a in x ≡ Ok b) → a ≡ b
same_ok a b h = cc h

-- a sector with a header in front is whole
pub long_sector : (plan : Plan) (c : Content) → length (sector c (plan.info.offset / 512)) ≡ 512 → length (header_sector_of plan c) ≡ 512
long_sector plan c whole =
    let old = sector c (plan.info.offset / 512) in
    omega (arith, length-append (header_bytes plan.header) (drop 44 old), length-header_spelled (checksum_of (header_spelled 0 plan.header)) plan.header, length-drop 44 old, whole)
