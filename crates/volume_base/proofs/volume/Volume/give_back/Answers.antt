use Rattle.std.proofs.Common.{◌≡◌, List, sym, ◌∙◌, ap, subst}
use Rattle.hx_bytes.specs.declared.extents.Extent.{Extent}
use Rattle.fork_map.specs.Blocks.{blocks_of}
use Rattle.alloc_bitmap.specs.Apart.{AreApart}
use Rattle.alloc_bitmap.specs.Map.{BlockMap}
use Rattle.file_io.specs.Places.{AreUsed, given}
use Rattle.volume_base.proofs.Remapped.{ok_of}
use Rattle.volume_base.proofs.volume.Volume.give_back.Goals as goal

pub returns-clause-gives : goal.returns-clause-gives
returns-clause-gives c apart used =
    let same : c.as_slice.result.now ≡ c.args.extents.now = c.as_slice.ensures in
    ok_of c.give_all.result
    (c.give_all.ensures.given (subst (λ (l : List Extent). AreApart (blocks_of l)) (sym same) apart) (subst (λ (l : List Extent). AreUsed c.args.self.now.map (blocks_of l)) (sym same) used))
    (λ is. ap (λ (m : BlockMap). record c.args.self.now { map = m }) (is ∙ ap (λ (l : List Extent). given l c.args.self.now.map) same))
