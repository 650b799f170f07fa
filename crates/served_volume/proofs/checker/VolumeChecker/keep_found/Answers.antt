use Rattle.served_volume.proofs.checker.VolumeChecker.keep_found.Goals as goal

pub returns-clause-verdict : goal.returns-clause-verdict
returns-clause-verdict g c tells = record { folds = c.in_ok-folds.folds; is = c.unsound.ensures; exactly = c.in_ok-folds.ensures.folds tells }
