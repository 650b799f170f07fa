use Rattle.std.proofs.Common.{◌≡◌, IsTrue, ◌<◌, ◌≤◌, ◌+◌, ◌*◌, ◌^◌, ℕ, List, length, map, take, refl, sym, ◌∙◌, ap, subst, arith}
use Rattle.std.specs.Prelude.{sum}
use Rattle.std.proofs.lemmas.List.{take_all}
use Rattle.attributes.specs.Owned.{names_of}
use Rattle.hfs_volume.specs.Content.{VolumeState, volume_of}
use Rattle.hfs_volume.specs.Weight.{freed_blocks, further_records, value_change}
use Rattle.hfs_volume.specs.declared.cost.ValueChange.{ValueChange}
use Rattle.sector_disk.specs.Lists.{Content}
use Rattle.volume_base.proofs.Framed.{looked_both}
use Rattle.volume_base.proofs.Looked.{looked_again, looked_fault, looked_none, looked_short}
use Rattle.volume_base.proofs.ValuesSummed.{summed}
use Rattle.volume_base.proofs.volume.Volume.values_gone.Goals as goal

pub loop-name-init : goal.loop-name-init
loop-name-init g c = record {
  records = λ tells. refl;
  freed = λ tells. refl;
  blocks = λ tells. refl;
  few_blocks = omega arith;
  few_records = omega arith;
  few_freed = omega arith;
  none = λ empty. (refl, refl, refl);
  serves = c.requires.serves;
  looked = looked_none g.met.P.SectorView.follows_refl c.requires.serves.stands;
}

pub value_change-requires-clause-serves : goal.value_change-requires-clause-serves
value_change-requires-clause-serves g c = c.loop-name.invariant.serves

pub loop-name-preserved : goal.loop-name-preserved
loop-name-preserved g c =
    let low : c.loop-name.name-index < length c.args.names.now = omega (arith, c.loop-name-test.true) in
    let usual = c.in_ok-one.ensures.usual in
    let all = c.together-all.ensures (omega (arith, c.loop-name.invariant.few_records, usual.records, low, c.requires.few)) (omega (arith, c.loop-name.invariant.few_freed, usual.freed, low, c.requires.few)) (omega (arith, c.loop-name.invariant.few_blocks, usual.blocks, low, c.requires.few)) in
    let one : IsTrue (g.P.SectorView.space c.args.space.now).tells → c.in_ok-one.one ≡ value_change (volume_of (g.P.SectorView.space c.args.space.now).content) c.args.id c.name-item.result 0 = λ tells. c.in_ok-one.ensures.change (c.loop-name.invariant.looked.reads.looks.same.tells ∙ tells) ∙ ap (λ (k : Content). value_change (volume_of k) c.args.id c.name-item.result 0) (c.loop-name.invariant.looked.reads.looks.content tells) in
    record {
      records = λ tells. ap (λ (x : ValueChange). x.records) all ∙ omega (arith, c.loop-name.invariant.records tells, ap (λ (x : ValueChange). x.records) (one tells), summed (λ (name : List ℕ). further_records (volume_of (g.P.SectorView.space c.args.space.now).content) c.args.id name) c.args.names.now c.loop-name.name-index c.name-item.result low c.name-item.is);
      freed = λ tells. ap (λ (x : ValueChange). x.freed) all ∙ omega (arith, c.loop-name.invariant.freed tells, ap (λ (x : ValueChange). x.freed) (one tells), summed (λ (name : List ℕ). freed_blocks (volume_of (g.P.SectorView.space c.args.space.now).content) c.args.id name) c.args.names.now c.loop-name.name-index c.name-item.result low c.name-item.is);
      blocks = λ tells. ap (λ (x : ValueChange). x.blocks) all ∙ omega (arith, c.loop-name.invariant.blocks tells, ap (λ (x : ValueChange). x.blocks) (one tells));
      few_blocks = omega (arith, ap (λ (x : ValueChange). x.blocks) all, c.loop-name.invariant.few_blocks, usual.blocks);
      few_records = omega (arith, ap (λ (x : ValueChange). x.records) all, c.loop-name.invariant.few_records, usual.records);
      few_freed = omega (arith, ap (λ (x : ValueChange). x.freed) all, c.loop-name.invariant.few_freed, usual.freed);
      none = λ empty. absurd (omega (arith, low, empty));
      serves = c.in_ok-one.ensures.serves;
      looked = looked_again (looked_both g.met.P.SectorView.follows_trans c.loop-name.invariant.looked c.in_ok-one.ensures.looked);
    }

pub returns-clause-change : goal.returns-clause-change
returns-clause-change g c tells =
    let done = take_all c.loop-name.name-index c.args.names.now (omega (arith, c.loop-name-test.false)) in
    let owned = ap (λ (l : VolumeState). names_of c.args.id l.attribute_pairs) (sym (c.requires.serves.settled tells).lists) in
    λ i. record {
      records = (c.loop-name.invariant.records tells ∙ ap (λ (l : List (List ℕ)). sum (map (λ (name : List ℕ). further_records (volume_of (g.P.SectorView.space c.args.space.now).content) c.args.id name) l)) (done ∙ c.requires.listed tells ∙ owned)) i;
      freed = (c.loop-name.invariant.freed tells ∙ ap (λ (l : List (List ℕ)). sum (map (λ (name : List ℕ). freed_blocks (volume_of (g.P.SectorView.space c.args.space.now).content) c.args.id name) l)) (done ∙ c.requires.listed tells ∙ owned)) i;
      blocks = c.loop-name.invariant.blocks tells i;
    }

pub returns-clause-looked : goal.returns-clause-looked
returns-clause-looked g c = looked_again c.loop-name.invariant.looked

pub returns-clause-serves : goal.returns-clause-serves
returns-clause-serves g c = c.loop-name.invariant.serves

pub returns-then-len-gt127-clause-looked : goal.returns-then-len-gt127-clause-looked
returns-then-len-gt127-clause-looked g c = looked_short c.loop-name.invariant.looked

pub returns-then-len-gt127-clause-serves : goal.returns-then-len-gt127-clause-serves
returns-then-len-gt127-clause-serves g c = c.loop-name.invariant.serves

pub returns-in_err-one-clause-looked : goal.returns-in_err-one-clause-looked
returns-in_err-one-clause-looked g c = looked_fault c.from_residual.ensures.1 (looked_both g.met.P.SectorView.follows_trans c.loop-name.invariant.looked c.in_err-one.ensures.looked)

pub returns-clause-none : goal.returns-clause-none
returns-clause-none g c empty = let it = c.loop-name.invariant.none empty in λ i. record { records = it.0 i; freed = it.1 i; blocks = it.2 i }
