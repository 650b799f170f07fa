use Rattle.image_adopt.proofs.Again.{goes_on, not_refused}
use Rattle.image_adopt.proofs.laws.adoption_goes_on.Goals as goal

pub returns : goal.returns
returns c = record {
  ends = λ old image new plan how is stands done. goes_on old image plan is stands new how done;
  unrefused = λ old image plan why may is stands refused. not_refused old image plan is stands may why refused;
}
