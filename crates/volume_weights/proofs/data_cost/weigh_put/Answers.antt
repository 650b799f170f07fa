use Rattle.std.proofs.Common.{◌≡◌, ℕ, true, false, sym, ◌∙◌, ap, subst}
use Rattle.std.specs.Prelude.{IfOk, IfSome, Option, Some, is_some}
use Rattle.std.proofs.lemmas.Bool.{true≢false}
use Rattle.sector_disk.specs.Lists.{Content}
use Rattle.alloc_bitmap.specs.Map.{BlockMap}
use Rattle.cat_records.specs.declared.record.FileRecord.{FileRecord}
use Rattle.hfs_volume.specs.Content.{volume_of}
use Rattle.hfs_volume.specs.Weight.{needs_cut_in}
use Rattle.volume_weights.specs.DataWeighing.{IsFileOfPut}
use Rattle.volume_base.specs.Cutting.{kind_of}
use Rattle.volume_base.specs.DataWeighing.{data_as, data_weighed_in}
use Rattle.volume_base.specs.Room.{free_in}
use Rattle.volume_base.specs.declared.room.FreeBlocks.TheVariants as blocks
use Rattle.volume_base.specs.declared.weighing.Weight.{Weight}
use Rattle.volume_base.proofs.Framed.{looked_both}
use Rattle.volume_weights.proofs.data_cost.weigh_put.Goals as goal

pub weigh_file-requires-clause-there : goal.weigh_file-requires-clause-there
weigh_file-requires-clause-there g c told =
    let tells = sym c.file_of_put.ensures.looked.reads.looks.same.tells ∙ told in
    subst (λ (k : Content). IsFileOfPut (kind_of c.args.kind) (volume_of k) c.in-Some.file c.args.put) (sym (c.file_of_put.ensures.looked.reads.looks.content tells))
    (subst (λ (o : Option FileRecord). IfSome o (λ file. IsFileOfPut (kind_of c.args.kind) (volume_of (g.P.SectorView.space c.args.space.now).content) file c.args.put)) c.in-Some.is (c.in_ok-file.ensures.found tells))

pub returns-in-Some-clause-answer : goal.returns-in-Some-clause-answer
returns-in-Some-clause-answer g c tells =
    subst (λ (k : ℕ × BlockMap × Content). IfOk c.weigh_file.result (λ (said : Option Weight). IfSome said (λ weighs. weighs ≡ data_weighed_in (kind_of c.args.kind) k.0 (free_in blocks.Takable k.1) (volume_of k.2) (data_as c.args.put))))
    {x = (c.file_of_put.new.volume.capacity, c.file_of_put.new.volume.map, (g.P.SectorView.space c.file_of_put.new.space).content)} {y = (c.args.volume.now.capacity, c.args.volume.now.map, (g.P.SectorView.space c.args.space.now).content)}
    (λ i. (c.file_of_put.ensures.looked.reads.keeps.capacity i, c.file_of_put.ensures.looked.reads.keeps.map i, c.file_of_put.ensures.looked.reads.looks.content tells i))
    (c.weigh_file.ensures.answer (c.file_of_put.ensures.looked.reads.looks.same.tells ∙ tells))

pub returns-in-Some-clause-no_cut : goal.returns-in-Some-clause-no_cut
returns-in-Some-clause-no_cut g c tells =
    subst (λ (k : Content). IfOk c.weigh_file.result (λ (said : Option Weight). is_some said ≡ true → needs_cut_in (kind_of c.args.kind) (volume_of k) (Some (data_as c.args.put)) ≡ false)) (c.file_of_put.ensures.looked.reads.looks.content tells) (c.weigh_file.ensures.no_cut (c.file_of_put.ensures.looked.reads.looks.same.tells ∙ tells))

pub returns-in-Some-clause-waits : goal.returns-in-Some-clause-waits
returns-in-Some-clause-waits g c tells =
    subst (λ (k : Content). IfOk c.weigh_file.result (λ (said : Option Weight). is_some said ≡ false → needs_cut_in (kind_of c.args.kind) (volume_of k) (Some (data_as c.args.put)) ≡ true)) (c.file_of_put.ensures.looked.reads.looks.content tells) (c.weigh_file.ensures.waits (c.file_of_put.ensures.looked.reads.looks.same.tells ∙ tells))

pub returns-in-Some-clause-looked : goal.returns-in-Some-clause-looked
returns-in-Some-clause-looked g c = looked_both g.met.P.SectorView.follows_trans c.file_of_put.ensures.looked c.weigh_file.ensures.looked

pub returns-in-None-clause-waits : goal.returns-in-None-clause-waits
returns-in-None-clause-waits g c tells none = absurd (true≢false (sym (c.in_ok-file.ensures.some tells) ∙ ap (λ (o : Option FileRecord). is_some o) c.in-None.is))
