use Rattle.std.proofs.Common.{◌≡◌}
use Rattle.sector_disk.specs.Disk.{OnlyReads, content}
use Rattle.image_adopt.specs.Adopting.{IsAdoptedAs, RefusesAdoption}
use Rattle.image_adopt.specs.declared.answers.Adopted.TheVariants.{Already}
use Rattle.hfsx_adopt.specs.Ending.{AdoptsSo, IsRefusedSo}
use Rattle.hfsx_adopt.proofs.Endings.{answered, anyway, declined, done_is_not, done_status, refused_is_not, refused_is_not_done, refused_status}
use Rattle.hfsx_adopt.proofs.adopting.adopt_on.Goals as goal

pub returns-in-Ok-Ok-clause-adopted : goal.returns-in-Ok-Ok-clause-adopted
returns-in-Ok-Ok-clause-adopted g c =
    let s0 = g.D.SectorDisk.state c.args.disk.now in
    let s1 = g.D.SectorDisk.state c.adopt_image.new.disk in
    anyway c.tell_done.result _ (AdoptsSo s0 s1) (record {
      how = c.in-Ok-Ok.done;
      adopted = λ tells. answered (IsAdoptedAs (content s0) (content s1)) c.adopt_image.result c.in-Ok-Ok.field-0 c.in-Ok-Ok.done c.in-Ok-Ok.is c.in-Ok-Ok.field-0-is (c.adopt_image.ensures.adopted tells);
      already = answered (λ how. how ≡ Already → OnlyReads s0 s1) c.adopt_image.result c.in-Ok-Ok.field-0 c.in-Ok-Ok.done c.in-Ok-Ok.is c.in-Ok-Ok.field-0-is c.adopt_image.ensures.already;
    })

pub returns-in-Ok-Ok-clause-refused : goal.returns-in-Ok-Ok-clause-refused
returns-in-Ok-Ok-clause-refused g c = done_is_not c.tell_done.result 1 _ (λ e. cc e) (λ e. cc e) c.tell_done.ensures

pub returns-in-Ok-Ok-clause-failed : goal.returns-in-Ok-Ok-clause-failed
returns-in-Ok-Ok-clause-failed g c = done_is_not c.tell_done.result 3 _ (λ e. cc e) (λ e. cc e) c.tell_done.ensures

pub returns-in-Ok-Ok-clause-statuses : goal.returns-in-Ok-Ok-clause-statuses
returns-in-Ok-Ok-clause-statuses g c = done_status c.tell_done.result c.tell_done.ensures

pub returns-in-Ok-Err-clause-adopted : goal.returns-in-Ok-Err-clause-adopted
returns-in-Ok-Err-clause-adopted g c = refused_is_not_done c.tell_refusal.result _ c.tell_refusal.ensures

pub returns-in-Ok-Err-clause-refused : goal.returns-in-Ok-Err-clause-refused
returns-in-Ok-Err-clause-refused g c =
    let s0 = g.D.SectorDisk.state c.args.disk.now in
    let s1 = g.D.SectorDisk.state c.adopt_image.new.disk in
    anyway c.tell_refusal.result _ (IsRefusedSo s0 s1) (record {
      why = c.in-Ok-Err.why;
      refused = λ tells. declined (RefusesAdoption (content s0)) c.adopt_image.result c.in-Ok-Err.field-0 c.in-Ok-Err.why c.in-Ok-Err.is c.in-Ok-Err.field-0-is (c.adopt_image.ensures.refused tells);
      unwritten = declined (λ _. OnlyReads s0 s1) c.adopt_image.result c.in-Ok-Err.field-0 c.in-Ok-Err.why c.in-Ok-Err.is c.in-Ok-Err.field-0-is c.adopt_image.ensures.unwritten;
    })

pub returns-in-Ok-Err-clause-failed : goal.returns-in-Ok-Err-clause-failed
returns-in-Ok-Err-clause-failed g c = refused_is_not c.tell_refusal.result 3 _ (λ e. cc e) c.tell_refusal.ensures

pub returns-in-Ok-Err-clause-statuses : goal.returns-in-Ok-Err-clause-statuses
returns-in-Ok-Err-clause-statuses g c = refused_status c.tell_refusal.result c.tell_refusal.ensures
