use Rattle.hfs_serving.proofs.Plain.{plain_both}
use Rattle.hfs_serving.proofs.Stretches.{serves_both, crashes_both}
use Rattle.hfs_serving.proofs.laws.stretches_join.Goals as goal

pub returns-clause-serves : goal.returns-clause-serves
returns-clause-serves g c capacity shrunk start middle now run more answers others x y z first second =
    serves_both capacity shrunk start (g.G.Ground.outside x) (g.G.Ground.outside y) (g.G.Ground.outside z) run more answers others middle first now second

pub returns-clause-crashes : goal.returns-clause-crashes
returns-clause-crashes g c capacity shrunk start middle run more answers others known x y z first second =
    crashes_both capacity shrunk start (g.G.Ground.outside x) (g.G.Ground.outside y) (g.G.Ground.outside z) run more answers others middle first known second

pub returns-clause-plain : goal.returns-clause-plain
returns-clause-plain g c run more = plain_both run more
